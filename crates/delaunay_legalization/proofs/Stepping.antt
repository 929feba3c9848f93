-- A legalization from its first work list to its end, by the sides of a turned edge that it leaves
-- to test.
-- Notions: IsUnderwayBy; steps_begin, last_edge_within, last_within, edges_before, flip_fits,
-- steps_drop, drop_falls, steps_turn, turn_falls, steps_end.
use Rattle.std.proofs.Common.{◌≡◌, ℕ, ◌+◌, ◌*◌, ◌<◌, ◌≤◌, List, [], ◌∷◌, ◌++◌}
use Rattle.std.proofs.Common.{length, map, refl, sym, ap, subst, arith}
use Rattle.std.specs.Prelude.{◌^◌, Contains}
use Rattle.std.proofs.lemmas.List.{length-append}
use Rattle.plane.specs.{IsLocallyDelaunay, Joins, Point}
use Rattle.half_edge_links.specs.{flipped, IsValidMesh, Mesh, origin, rev}
use Rattle.{half_edge_dcel.specs.Contents, half_edge_links.proofs.Sound.Valid.valid_flipped}
use Rattle.delaunay_legalization.specs.{AreEdges, AreLeftToTest, constraint_pairs, drawn, faces_of}
use Rattle.delaunay_legalization.specs.{FlipsFit, GainsRound, IsFailing, IsPartlyLegal}
use Rattle.delaunay_legalization.specs.{IsTriangulated, Legalizes, outer_of, state_of, steps_left}
use Rattle.delaunay_legalization.specs.{declared.sides.Sides.Sides, Sides.GainsSides, Sides.Suffice}
use Rattle.delaunay_legalization.specs.declared.sides.Sides.TheVariants.{Among, Round}
use Rattle.delaunay_legalization.proofs.AmongSteps.{legal_among, moves, only_stay, six}
use Rattle.delaunay_legalization.proofs.Legalizing.{failing_apart, failing_flippable, fewer_by}
use Rattle.delaunay_legalization.proofs.Legalizing.{fixed_stay, IsUnderway, step_fits, step_kept}
use Rattle.delaunay_legalization.proofs.Legalizing.{turned_by, underway_begins, underway_counts}
use Rattle.delaunay_legalization.proofs.Legalizing.{underway_ends, underway_keeps}
use Rattle.{delaunay_legalization.proofs.MeshLegal.dropped, plane_theorems.specs.IsMesh}
use Rattle.delaunay_legalization.proofs.WorkLists.{contains_before, contains_last, once_before}

-- ---- one step
module _ (points : List Point) (m : Mesh) (s : IsValidMesh m) (shape : IsMesh points (faces_of m)
    (outer_of m)) (e : ℕ) (within : e < length m.half_edges) (x : IsFailing points m e) where
  -- sides that were enough to test still are after a flip
  suffice_still : (sides : Sides) → Suffice sides points m → Suffice sides points (flipped m e)
  suffice_still Round enough = enough
  suffice_still (Among es) enough = only_stay points m s shape e within x es.now.items enough

  -- where these sides are enough, the others need not be in the work list
  left_by : (constraints : List (ℕ × ℕ)) (was : Mesh) → IsValidMesh (flipped m e)
      → (start flips : ℕ) (ks more : List ℕ) (sides : Sides) → Suffice sides points m
      → GainsSides sides m e ks more → AreEdges m more → ((all : List ℕ) → GainsRound m e ks all
      → AreEdges m all → IsPartlyLegal points constraints was (flipped m e) all start flips)
      → IsPartlyLegal points constraints was (flipped m e) more start flips
  left_by constraints was valid start flips ks more Round enough g own legal = legal more g own
  left_by constraints was valid start flips ks more (Among es) enough g own legal =
      legal_among points constraints was m (flipped m e) s valid e start flips es.now.items ks more
      (six points m s shape e within x) (moves points m s shape e within x).edge_count
      (only_stay points m s shape e within x es.now.items enough) g own legal

-- ---- all steps
-- what holds from one edge to the next
pub record IsUnderwayBy {V D U F : Type 0} (sides : Sides) (at : V → Point) (fix : List U → List ℕ)
    (was now : Contents V D U F) (ks : List ℕ) (room_was room start flips : ℕ) : Type 0 where
  pub underway : IsUnderway fix (map at was.vertices) was now ks room_was room start flips
  pub suffice : Suffice sides (map at was.vertices) now.mesh

module _ {V D U F : Type 0} {sides : Sides} {at : V → Point} {fix : List U → List ℕ}
    {was : Contents V D U F} {room_was start : ℕ} where
  -- at first the edges of the work list are left
  pub steps_begin : {ks : List ℕ} → IsMesh (map at was.vertices) (faces_of was.mesh)
      (outer_of was.mesh) → AreLeftToTest at fix was ks
      → Suffice sides (map at was.vertices) was.mesh
      → IsUnderwayBy sides at fix was was ks room_was room_was start start
  steps_begin {ks = ks} shape left suffice = record {
    underway = underway_begins fix
        (map at was.vertices) was ks room_was start shape left.edges left.passing;
    suffice = suffice;
  }

  module _ {now : Contents V D U F} {all : List ℕ} {room flips : ℕ}
      (u : IsUnderwayBy sides at fix was now all room_was room start flips)
      (kept : IsTriangulated at (state_of now)) where
    abbrev points : List Point
    points = map at now.vertices

    abbrev constraints : List (ℕ × ℕ)
    constraints = constraint_pairs fix now.mesh now.undirected

    same_points : points ≡ map at was.vertices
    same_points = ap (λ (c : Contents V D U F). map at c.vertices) u.underway.contents

    suffice : Suffice sides points now.mesh
    suffice = subst (λ ps. Suffice sides ps now.mesh) (sym same_points) u.suffice

    module _ (ks : List ℕ) (k : ℕ) (popped : all ≡ ks ++ k ∷ []) where
      edges : AreEdges now.mesh (ks ++ k ∷ [])
      edges = subst (AreEdges now.mesh) popped u.underway.legal.edges

      in_mesh : (2 * k) < length now.mesh.half_edges
      in_mesh = edges.within k (contains_last ks k)

      -- the edge is one of the mesh, and so is its first direction
      pub last_edge_within : k < length now.undirected
      last_edge_within =
          let fit = kept.fits.undirected_fit in let within = in_mesh in omega (arith, within, fit)

      pub last_within : (2 * k) < length now.directed
      last_within = rw kept.fits.directed_fit in_mesh

      -- without it the work list is one still
      pub edges_before : AreEdges now.mesh ks
      edges_before = record {
        within = λ j l. edges.within j (contains_before ks k j l);
        once = once_before ks k edges.once;
      }

      -- where it fails, the count has room for one more flip
      pub flip_fits : FlipsFit (length was.vertices) start → IsFailing points now.mesh (2 * k)
          → flips + 1 < 2 ^ 64
      flip_fits fit = step_fits at fix was now all room_was room start flips u.underway ks k popped
          kept.valid fit

      -- one that is a constraint or does not fail leaves the work list
      pub steps_drop : {room_now : ℕ} → (¬ Joins constraints (origin now.mesh (2 * k))
          (origin now.mesh (rev (2 * k))) → ¬ IsFailing points now.mesh (2 * k))
          → room_now ≡ room → IsUnderwayBy sides at fix was now ks room_was room_now start flips
      steps_drop {room_now = room_now} passes stays = record {
        underway = step_kept at fix was now all room_was room start flips u.underway ks k popped now
            ks room_now flips refl refl (λ first begun p. dropped points constraints first now.mesh
            ks k begun flips kept.valid p passes) stays;
        suffice = u.suffice;
      }

      pub drop_falls : steps_left points now.mesh ks < steps_left points now.mesh all
      drop_falls =
          subst (λ zs. steps_left points now.mesh ks < steps_left points now.mesh zs) (sym popped)
          (less _ (length ks) (length (ks ++ k ∷ [])) (length-append ks (k ∷ [])))
        where
          less : (q a b : ℕ) → b ≡ a + 1 → q + a < q + b
          less q a b e = omega (arith, e)

      -- one that fails and is none is turned and counted, and leaves the sides that are put there
      module _ {new : Contents V D U F} {more : List ℕ} (x : IsFailing points now.mesh (2 * k))
          (own : AreEdges now.mesh more)
          (contents : new ≡ record now { mesh = flipped now.mesh (2 * k) }) where
        pub steps_turn : {room_now flips_now : ℕ} → ¬ Contains (fix now.undirected) k
            → GainsSides sides now.mesh (2 * k) ks more → flips_now ≡ flips + 1 → room_now ≡ room
            → IsUnderwayBy sides at fix was new more room_was room_now start flips_now
        steps_turn {room_now = room_now} free gained counted stays =
            subst (λ (y : Contents V D U F × ℕ). IsUnderwayBy sides at fix was y.0 more room_was
            room_now start y.1) (λ i. (sym contents i, sym counted i)) (record {
              underway = step_kept at fix was now all room_was room start flips u.underway ks k
                  popped (record now { mesh = flipped now.mesh (2 * k) }) more room_now (flips + 1)
                  refl (fixed_stay fix kept last_within x free) (λ first begun p. left_by points
                  now.mesh kept.valid kept.shape (2 * k) in_mesh x constraints first
                  (valid_flipped now.mesh (2 * k) kept.valid
                  (failing_flippable kept.valid kept.shape in_mesh x)
                  (failing_apart kept.valid kept.shape in_mesh x)) begun (flips + 1) ks more sides
                  suffice gained own (λ every round edges. turned_by points constraints first
                  now.mesh (flipped now.mesh (2 * k)) ks every k begun flips (flips + 1) kept.valid
                  refl refl x round edges p)) stays;
              suffice = subst (λ ps. Suffice sides ps (flipped now.mesh (2 * k))) same_points
                  (suffice_still points now.mesh kept.valid kept.shape (2 * k) in_mesh x sides
                  suffice);
            })

        pub turn_falls : steps_left (map at new.vertices) new.mesh more
            < steps_left points now.mesh all
        turn_falls = subst (λ (y : Contents V D U F × List ℕ).
            steps_left (map at y.0.vertices) y.0.mesh more < steps_left points now.mesh y.1)
            (λ i. (sym contents i, sym popped i)) (fewer_by points now.mesh
            (flipped now.mesh (2 * k)) ks more k kept.valid kept.shape refl x edges own)

    -- when no edge is left, the triangulation is legalized
    pub steps_end : all ≡ [] → Legalizes at fix was now start flips
    steps_end none = record {
      contents = u.underway.contents;
      legal = record {
        kept = kept;
        passing = subst (λ (y : List Point × List (ℕ × ℕ)). IsLocallyDelaunay
            (drawn y.0 now.mesh) y.1) (λ i. (sym same_points i, sym u.underway.constraints i))
            (underway_ends at fix was now all room_was room start flips u.underway none);
      };
      constraints = u.underway.constraints;
      counted = record {
        grows = grows (length u.underway.legal.away) u.underway.legal.count;
        few = underway_counts at fix was now all room_was room start flips u.underway;
      };
      indexes = underway_keeps at fix was now all room_was room start flips u.underway kept.valid;
    }
      where
        grows : (a : ℕ) → start + a ≡ flips → start ≤ flips
        grows a e = omega (arith, e)
