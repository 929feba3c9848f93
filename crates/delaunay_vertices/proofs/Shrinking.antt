-- The loop that turns edges of an inner vertex away.
-- Notions: IsShrinking; has_spoke, star_at, turn_at, shrinking_goes_on, shrinking_from,
-- shrinking_stops, shrinking_ends.
use Rattle.std.proofs.Common.{◌≡◌, ◌-◌, ◌<◌, ◌≤◌, ◌∙◌}
use Rattle.std.proofs.Common.{ℕ, List, length, map, sym, ap, subst, arith, inl}
use Rattle.std.specs.Prelude.{All}
use Rattle.std.specs.Global.{Vec}
use Rattle.{plane.specs.InRange, plane.specs.Point, plane_theorems.specs.LocalMesh}
use Rattle.half_edge_links.specs.{origin, spoke}
use Rattle.half_edge_dcel.specs.{Contents, IsMeshWithData}
use Rattle.delaunay_legalization.specs.{faces_of, IsEmbedding, outer_of}
use Rattle.delaunay_vertices.specs.{HasSpoke, IsConvexAt, IsInnerStar, IsSpokeThat, MayTurnAway}
use Rattle.delaunay_vertices.specs.{Star.IsReduced, Star.ShrinksStar, TurnsAway}
use Rattle.delaunay_vertices.proofs.InnerStars.{has_three, inner_may_turn, none_left, star_from}
use Rattle.delaunay_vertices.proofs.{InnerStars.star_shrinks, Removing.kept_by_shape}
use Rattle.delaunay_vertices.proofs.Turning.{HasTurned, turning_goes_on}

-- where the links alone change, and the mesh stays in the plane, its edges are those of a
-- triangulation with the same sites
pub has_spoke : {V D U F P : Type 0} {place : V → Point} {IsSite : P → Point → Type 0} {t : P}
    {old new : Contents V D U F} {h : ℕ} → new ≡ record old { mesh = new.mesh }
    → IsEmbedding place IsSite old t → IsMeshWithData new
    → LocalMesh (map place new.vertices) (faces_of new.mesh) (outer_of new.mesh)
    → h < length new.mesh.half_edges → HasSpoke place IsSite new t h
has_spoke {V} {D} {U} {F} {P} {place} {IsSite} {t} {old} {new} contents embedding whole shape within
    =
    record {
      embedding = record {
        kept = kept_by_shape place new (subst (λ (vs : List V). All (λ v. InRange (place v)) vs)
            vertices embedding.kept.in_range) whole (inl shape);
        sites = subst (λ (vs : List V). All (IsSite t) (map place vs)) vertices embedding.sites;
      };
      within = rw whole.fits.directed_fit within;
    }
  where
    vertices : old.vertices ≡ new.vertices
    vertices = sym (ap (λ (c : Contents V D U F). c.vertices) contents)

-- an inner vertex lost edges by turns, and still has so many, from edge first on
pub record IsShrinking {V D U F : Type 0} (place : V → Point) (old now : Contents V D U F)
    (v first count : ℕ) (turned : Vec (ℕ × ℕ)) : Type 0 where
  pub so_far : HasTurned old now v count turned
  pub star : IsInnerStar (map place now.vertices) now.mesh v first count

module _ {V D U F : Type 0} {turned : Vec (ℕ × ℕ)} {place : V → Point}
    {old now : Contents V D U F} {v first count : ℕ}
    (shrinking : IsShrinking place old now v first count turned) where
  -- the star from another edge of the vertex
  star_at : (edge : ℕ) → edge < length now.directed → origin now.mesh edge ≡ v
      → IsInnerStar (map place now.vertices) now.mesh v edge count
  star_at edge within starts = star_from shrinking.so_far.whole.valid shrinking.star edge
      (rw shrinking.so_far.whole.fits.directed_fit at within) starts

  -- the same from there
  pub shrinking_from : {edge : ℕ} → edge < length now.directed → origin now.mesh edge ≡ v
      → IsShrinking place old now v edge count turned
  shrinking_from {edge} within starts =
      record { so_far = shrinking.so_far; star = star_at edge within starts }

  -- ---- an edge before one that can be turned
  module _ (many : 3 < count) {edge : ℕ} (found : IsSpokeThat IsConvexAt (record {
    points = map place now.vertices;
    mesh = now.mesh;
    directed = now.directed;
    first = first;
  }) edge) where
    star_found : IsInnerStar (map place now.vertices) now.mesh v edge count
    star_found = star_at edge found.within (found.starts ∙ shrinking.star.round.starts 0)

    -- which is turned
    pub turn_at : MayTurnAway place now edge
    turn_at = inner_may_turn shrinking.so_far.whole star_found (omega (arith, many))

    -- and leaves one edge less
    pub shrinking_goes_on : {more : Vec (ℕ × ℕ)} {new : Contents V D U F}
        → TurnsAway now new edge turned more → IsShrinking place old new v edge (count - 1) more
    shrinking_goes_on {new = new} t = record {
      so_far = turning_goes_on shrinking.so_far (omega (arith, many)) t
          (found.starts ∙ shrinking.star.round.starts 0);
      star = subst (λ (vs : List V). IsInnerStar (map place vs) new.mesh v edge (count - 1))
          (sym (ap (λ (c : Contents V D U F). c.vertices) t.contents))
          (star_shrinks shrinking.so_far.whole.valid star_found many t.mesh t.outer t.whole.valid
          t.triangles found.is);
    }

  -- ---- the turns are done
  shrunk : IsReduced (map place now.vertices) now.mesh v first count
      → ShrinksStar place old now v first count turned.items
  shrunk reduced = record {
    contents = shrinking.so_far.contents;
    whole = shrinking.so_far.whole;
    star = shrinking.star;
    reduced = reduced;
    beside = shrinking.so_far.beside;
  }

  -- where no edge can be turned any more
  pub shrinking_stops : 3 < count → ((i : ℕ) → i < count
      → ¬ IsConvexAt (map place now.vertices) now.mesh (spoke now.mesh first i))
      → ShrinksStar place old now v first count turned.items
  shrinking_stops many none =
      shrunk (none_left shrinking.so_far.whole shrinking.star many none)

  -- or three are left
  pub shrinking_ends : count ≤ 3 → ShrinksStar place old now v first count turned.items
  shrinking_ends few = let many = has_three shrinking.so_far.whole.valid shrinking.star in
      shrunk (inl (omega (arith, few, many)))
