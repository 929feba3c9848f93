-- What stood beside the middle of a straight constraint keeps its data while the far ends of its
-- halves are joined.
-- Lemmas: beside_stays.
use Rattle.std.proofs.Common.{◌≡◌, ◌≢◌, ◌⊎◌, ◌-◌, ◌/◌, ◌<◌, ◌≤◌, ◌∙◌}
use Rattle.std.proofs.Common.{ℕ, Bool, List, length, map, get_or, Some, None}
use Rattle.std.proofs.Common.{sym, ap, subst, inl, inr, arith}
use Rattle.std.specs.Prelude.{true, false, slice_get}
use Rattle.std.proofs.lemmas.Option.{slice_get_cases}
use Rattle.plane.specs.{AreStraightHalves, Cross, IsSamePair, Joins, place as at, Point}
use Rattle.half_edge_links.specs.{moved, origin, rev, Triangle, triangles}
use Rattle.delaunay_legalization.specs.{edges_of, faces_of, IsDelaunayTriangulation, marked_edges}
use Rattle.delaunay_legalization.specs.{not_both, points_and_constraints_by, State.State, state_of}
use Rattle.delaunay_legalization.proofs.{edge_joins as joins_ends, edge_of_face, face_there}
use Rattle.delaunay_legalization.proofs.{fixed_edge_is, turned_faces}
use Rattle.{delaunay_legalization.proofs.Constraints.is_constraint_edge, plane.proofs.turned_join}
use Rattle.delaunay_vertices.specs.{HasDataOfEdge, HasDataOfFace, KeepsDataBeside, TakesVertexOut}
use Rattle.{delaunay_vertices.specs.RemovalData.renumbered_corners, half_edge_dcel.specs.Contents}
use Rattle.{delaunay_edit.specs.AddsPath, plane_theorems.proofs.Edits.Removal.Renumbering.new_apart}
use Rattle.delaunay_edit.proofs.FarEnds.{can_join, none_crosses, not_joined, plain_before}
use Rattle.{delaunay_edit.proofs.JoinedPairs.edge_joins, plane_theorems.specs.IsFaceOf}

module _ {V D U F : Type 0} (place : V → Point) (marks : U → Bool) (mark : U → U)
    (constraints : List U → List ℕ)
    (marked : (ds : List U) → constraints ds ≡ marked_edges marks ds)
    (has_mark : (d : U) → marks (mark d) ≡ true) (old : State V D U F)
    (legal : IsDelaunayTriangulation place constraints old) (mid : Contents V D U F) (v : ℕ)
    (value : V) (turned : List (ℕ × ℕ)) (takes : TakesVertexOut place
    (points_and_constraints_by constraints) old (state_of mid) v value turned) (a b : ℕ)
    (halves : AreStraightHalves place (points_and_constraints_by constraints old) v a b)
    (middle : Contents V D U F) where
  abbrev last : ℕ
  last = length old.vertices - 1

  abbrev after : List Point
  after = map place mid.vertices

  -- the ends of a side of a face are joined
  side_joined : (i j k : ℕ) → IsFaceOf (faces_of old.mesh) i j k → Joins (edges_of old.mesh) i j
  side_joined i j k f =
      let h = edge_of_face old.mesh legal.kept.valid.sound i j k f in
      subst (λ (y : ℕ × ℕ). Joins (edges_of old.mesh) y.0 y.1)
      (λ o. (
        h.1.first o,
        (sym (legal.kept.valid.sound.edges h.0 h.1.inner.0).starts ∙ h.1.second) o,
      )) (joins_ends old.mesh legal.kept.valid.sound h.0 h.1.inner.0)

  module _ (path : AddsPath place marks mark constraints mid middle (moved last v a)
      (moved last v b)) where
    -- an edge beside the vertex is not the new constraint
    not_new : (c d : ℕ) → Joins (edges_of old.mesh) c d → c ≢ v → d ≢ v
        → ¬ IsSamePair (moved last v c) (moved last v d) (moved last v a) (moved last v b)
    not_new c d edge nc nd same = not_joined place marks constraints marked old legal mid v value
        turned takes a b halves (go same)
      where
        apart_first : a ≢ v
        apart_first e = ((plain_before place marks constraints marked old legal).pairs v a
            halves.first).2 (sym e)

        apart_second : b ≢ v
        apart_second e = ((plain_before place marks constraints marked old legal).pairs v b
            halves.second).2 (sym e)

        go : IsSamePair (moved last v c) (moved last v d) (moved last v a) (moved last v b)
            → Joins (edges_of old.mesh) a b
        go (inl s) = subst (λ (y : ℕ × ℕ). Joins (edges_of old.mesh) y.0 y.1) (λ o. (
          new_apart v last c a nc apart_first s.0 o,
          new_apart v last d b nd apart_second s.1 o,
        )) edge
        go (inr s) = turned_join (edges_of old.mesh) b a
            (subst (λ (y : ℕ × ℕ). Joins (edges_of old.mesh) y.0 y.1) (λ o. (
              new_apart v last c b nc apart_second s.0 o,
              new_apart v last d a nd apart_first s.1 o,
            )) edge)

    module _ (g h : ℕ) (within : g < length old.directed) (starts : origin old.mesh g ≢ v)
        (ends : origin old.mesh (rev g) ≢ v) (was : HasDataOfEdge old (state_of mid) last v g h)
      where
        edge_in : g < length old.mesh.half_edges
        edge_in = let fit = legal.kept.fits.directed_fit in omega (arith, within, fit)

        edge : Joins (edges_of old.mesh) (origin old.mesh g) (origin old.mesh (rev g))
        edge = joins_ends old.mesh legal.kept.valid.sound g edge_in

        uncrossed : ¬ Cross (at after (moved last v a)) (at after (moved last v b))
            (at after (origin mid.mesh h)) (at after (origin mid.mesh (rev h)))
        uncrossed x = none_crosses place marks constraints marked old legal mid v value turned takes
            a b halves (origin old.mesh g) (origin old.mesh (rev g)) edge starts ends
            (subst (λ (q : ℕ × ℕ). Cross (at after (moved last v a)) (at after (moved last v b))
            (at after q.0) (at after q.1)) (λ o. (was.starts o, was.ends o)) x)

        starts_now : origin middle.mesh h ≡ moved last v (origin old.mesh g)
        starts_now = (path.edges_kept h uncrossed).0 ∙ was.starts

        ends_now : origin middle.mesh (rev h) ≡ moved last v (origin old.mesh (rev g))
        ends_now = (path.edges_kept h uncrossed).1 ∙ was.ends

        in_mid : h < length mid.mesh.half_edges
        in_mid = let fit = takes.kept.fits.directed_fit in let w = was.within in
            omega (arith, w, fit)

        in_middle : h < length middle.mesh.half_edges
        in_middle = let fit = path.kept.fits.directed_fit in let w = was.within in
            let same = ap (λ (c : Contents V D U F). length c.directed) path.contents in
            omega (arith, w, fit, same)

        -- it has not become a constraint
        no_mark : (d : U) → slice_get mid.undirected (h / 2) ≡ Some d → marks d ≡ false
            → slice_get middle.undirected (h / 2) ≡ Some (mark d) → ⊥
        no_mark d e unmarked now = elim ((path.plain.constraints (moved last v (origin old.mesh g))
            (moved last v (origin old.mesh (rev g)))).0
            ((edge_joins place marks constraints marked middle path.kept
            (moved last v (origin old.mesh g)) (moved last v (origin old.mesh (rev g))) h in_middle
            starts_now ends_now).0
            (is_constraint_edge marks constraints marked middle.undirected (h / 2) (mark d) now
            (has_mark d)))) as (λ _. ⊥) [
              | inl j ↦ both (fixed_edge_is marks constraints marked mid.undirected (h / 2) d e
                  ((edge_joins place marks constraints marked mid takes.kept
                  (moved last v (origin old.mesh g)) (moved last v (origin old.mesh (rev g))) h
                  in_mid was.starts was.ends).1 j))
              | inr n ↦ not_new (origin old.mesh g) (origin old.mesh (rev g)) edge starts ends
                  (((can_join place marks constraints marked old legal mid v value turned takes a b
                  halves).one_subconstraint (moved last v (origin old.mesh g))
                  (moved last v (origin old.mesh (rev g)))).0 n)
            ]
          where
            both : marks d ≡ true → ⊥
            both t = not_both (sym unmarked ∙ t)

        value_stays : slice_get middle.undirected (h / 2) ≡ slice_get mid.undirected (h / 2)
        value_stays = go (slice_get_cases mid.undirected (h / 2)).1
          where
            half_in : h / 2 < length mid.undirected
            half_in = let fit = takes.kept.fits.undirected_fit in omega (arith, in_mid, fit)

            go : ((x : U) × (h / 2 < length mid.undirected)
                × (slice_get mid.undirected (h / 2) ≡ Some x)
                × (get_or mid.undirected (h / 2) x ≡ x))
                ⊎ ((length mid.undirected ≤ h / 2)
                × (slice_get mid.undirected (h / 2) ≡ None))
                → slice_get middle.undirected (h / 2) ≡ slice_get mid.undirected (h / 2)
            go (inl x) = elim (path.marks_some (h / 2) x.0 x.2) [
              | inl same ↦ same ∙ sym x.2
              | inr now ↦ absurd (no_mark x.0 x.2 now.0 now.1)
            ]
            go (inr x) = absurd (omega (arith, half_in, x.0))

        -- an edge beside the vertex keeps its data
        edge_stays : HasDataOfEdge old (state_of middle) last v g h
        edge_stays = record {
          within = subst (λ n. h < n)
              (sym (ap (λ (c : Contents V D U F). length c.directed) path.contents)) was.within;
          starts = starts_now;
          ends = ends_now;
          directed = ap (λ (c : Contents V D U F). slice_get c.directed h) path.contents
              ∙ was.directed;
          undirected = value_stays ∙ was.undirected;
        }

    -- a face beside it does
    face_stays : (f g : ℕ) (t : Triangle) → slice_get (triangles old.mesh) f ≡ Some t
        → t.first ≢ v → t.second ≢ v → t.third ≢ v
        → HasDataOfFace old (state_of mid) last v f t g
        → HasDataOfFace old (state_of middle) last v f t g
    face_stays f g t p x y z was = record {
      corners = path.faces_kept g (renumbered_corners last v t) was.corners
          (free t.first t.second (side_joined t.first t.second t.third face) x y)
          (free t.second t.third (side_joined t.second t.third t.first face_turned) y z)
          (free t.third t.first (side_joined t.third t.first t.second face_again) z x);
      value = ap (λ (c : Contents V D U F). slice_get c.faces g) path.contents ∙ was.value;
    }
      where
        face : IsFaceOf (faces_of old.mesh) t.first t.second t.third
        face = face_there old.mesh f t p

        face_turned : IsFaceOf (faces_of old.mesh) t.second t.third t.first
        face_turned = turned_faces (faces_of old.mesh) t.first t.second t.third face

        face_again : IsFaceOf (faces_of old.mesh) t.third t.first t.second
        face_again = turned_faces (faces_of old.mesh) t.second t.third t.first face_turned

        free : (c d : ℕ) → Joins (edges_of old.mesh) c d → c ≢ v → d ≢ v
            → ¬ Cross (at after (moved last v a)) (at after (moved last v b))
            (at after (moved last v c)) (at after (moved last v d))
        free = none_crosses place marks constraints marked old legal mid v value turned takes a b
            halves

    -- so what stood beside the vertex keeps its data
    pub beside_stays : KeepsDataBeside old (state_of middle) v
    beside_stays = record {
      edges = λ g within starts ends.
          let was = takes.beside.edges g within starts ends in
          (was.0, edge_stays g was.0 within starts ends was.1);
      faces = λ f t p x y z.
          let was = takes.beside.faces f t p x y z in (was.0, face_stays f was.0 t p x y z was.1);
      outer = ap (λ (c : Contents V D U F). c.outer) path.contents ∙ takes.beside.outer;
    }
