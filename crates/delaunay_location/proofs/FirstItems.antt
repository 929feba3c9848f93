-- What a segment meets first, by where in a mesh it starts.
-- Lemmas: starts_first, nothing, nothing_met, same_ends, alone_on_edge, over_edge, over_twin,
-- along_edge, along_twin, inside_after, inside_before, alone_inside, last_goes_over, ends_in_face,
-- through_start, through_side, on_if_neither.
use Rattle.std.proofs.Common.{◌≡◌, ◌≢◌, ◌⊎◌, ◌<◌, [], ◌∷◌, ◌∙◌}
use Rattle.std.proofs.Common.{ℕ, List, length, map, Some, None, refl, sym, ap, subst}
use Rattle.std.proofs.Common.{inl, inr, arith}
use Rattle.std.proofs.lemmas.List.{length-map}
use Rattle.plane.specs.{across, along, at_vertex, Fraction, InsideTriangle, IsFace, IsLineList}
use Rattle.plane.specs.{IsSame, left, on, opposite, place, Point, right, Side, side, TilesHull}
use Rattle.plane.proofs.{same-refl, side_swapped, turned_inside}
use Rattle.half_edge_links.specs.{Mesh, next, origin, prev, rev}
use Rattle.plane_theorems.specs.{IsAhead, IsFirst, IsWalk}
use Rattle.plane_theorems.proofs.{edge_flipped, equal_ends, turned_within}
use Rattle.plane_theorems.proofs.Segments.First.EdgeStarts.{first_from_an_edge}
use Rattle.plane_theorems.proofs.Segments.First.FaceStarts.{first_from_a_face}
use Rattle.plane_theorems.proofs.Segments.Walking.WalkSteps.{line_list_is_the_walk}
use Rattle.half_edge_dcel.specs.{Contents}
use Rattle.delaunay_legalization.specs.{drawn, IsEmbedding, point_at}
use Rattle.delaunay_location.specs.{Edge, FixedIntersection, IsLeftOf, item_of, Overlap, Vertex}
use Rattle.{delaunay_location.specs.Items.IsHandleOf, plane.specs.Triangulation, plane.specs.whole}
use Rattle.delaunay_location.specs.Starts.{GoesOver, StartsInside, StartsWithin}
use Rattle.{delaunay_location.specs.Walk.Starts, half_edge_links.proofs.rev-rev}
use Rattle.delaunay_location.proofs.Advance.{first_of, starts_with}
use Rattle.delaunay_location.proofs.MeshSteps.{face_at, in_mesh, joined, laid, not_same, of_mesh}
use Rattle.delaunay_location.proofs.MeshSteps.{start_in, start_known, tiles_with, twin_of_next}
use Rattle.delaunay_location.proofs.MeshSteps.{twin_of_prev, twin_within}
use Rattle.half_edge_links.proofs.Sound.Triangles as T

module _ {V D U F P : Type 0} {at : V → Point} {IsSite : P → Point → Type 0}
    {c : Contents V D U F} {tests : P} (embedding : IsEmbedding at IsSite c tests) where
  abbrev m : Mesh
  m = c.mesh

  abbrev points : List Point
  points = map at c.vertices

  abbrev t : Triangulation
  t = drawn points m

  abbrev start : ℕ → Fraction
  start h = place points (origin m h)

  -- from p to another point q the walk starts at the item that the segment meets first
  pub starts_first : {p q : Point} → p ≢ q → (i : FixedIntersection) → IsHandleOf c i
      → IsFirst t (whole p) (whole q) (item_of m i) → Starts at c p q (Some i)
  starts_first {p = p} {q = q} apart i here first = starts_with embedding i here
      (first_of t p q (laid embedding) apart (item_of m i) first)

  -- without items on the line list it starts nowhere
  pub nothing : {p q : Point} → IsLineList t (whole p) (whole q) [] → Starts at c p q None
  nothing l = record { items = []; line_list = l; are_from = refl; few = omega arith }

  -- without items that the segment from p to another point meets it starts nowhere
  pub nothing_met : {p q : Point} → p ≢ q → IsWalk t (whole p) (whole q) [] → Starts at c p q None
  nothing_met {p = p} {q = q} apart w =
      nothing ((line_list_is_the_walk t (laid embedding) (whole p) (whole q)
      (not_same p q apart) []).1 w)

  -- equal ends are at the same place
  pub same_ends : {p q : Point} → p ≡ q → IsSame (whole p) (whole q)
  same_ends {p = p} {q = q} e =
      subst (λ (z : Point). IsSame (whole p) (whole z)) e (same-refl (whole p))

  -- ---- strictly within an edge
  module _ {p q : Point} (h : ℕ) (within : h < length c.directed)
      (here : StartsWithin points m p h) where
    -- from p to itself the walk starts with an overlap of the edge
    pub alone_on_edge : p ≡ q → Starts at c p q (Some (Overlap h))
    alone_on_edge e = record {
      items = along (origin m h) (origin m (rev h)) ∷ [];
      line_list = (equal_ends t (whole p) (whole q) (same_ends e)).1 (origin m h) (origin m (rev h))
          (joined embedding h
          (in_mesh embedding h within)) here;
      are_from = (
        within,
        (
          [],
          refl,
          record { met = λ n. absurd (n e); goes_on = λ n. absurd (n e); alone = λ _. refl },
        ),
      );
      few = let some = start_in embedding h
          (in_mesh embedding h within) in
          let count = length-map c.vertices at in omega (arith, some, count);
    }

    module _ (apart : p ≢ q) where
      -- what comes first, by where q is: left or right of edge h, or ahead along it
      law : (side (start h) (start (rev h)) (whole q) ≡ left
          → IsFirst t (whole p) (whole q) (across (origin m h) (origin m (rev h))))
          × (side (start h) (start (rev h)) (whole q) ≡ right
          → IsFirst t (whole p) (whole q) (across (origin m (rev h)) (origin m h)))
          × (side (start h) (start (rev h)) (whole q) ≡ on → IsAhead (whole p) (start (rev h))
          (whole q) → IsFirst t (whole p) (whole q) (along (origin m h) (origin m (rev h))))
          × (side (start h) (start (rev h)) (whole q) ≡ on
          → IsAhead (whole p) (start (rev h)) (whole q) ⊎ IsAhead (whole p) (start h) (whole q))
      law = first_from_an_edge t (laid embedding) (whole p) (whole q)
          (not_same p q apart)
          (origin m h) (origin m (rev h)) (joined embedding h
          (in_mesh embedding h within)) here

      -- where q is ahead the other way along the edge, the overlap in that direction comes first
      back : side (start (rev h)) (start h) (whole q) ≡ on → IsAhead (whole p) (start h) (whole q) →
          IsFirst t (whole p) (whole q) (along (origin m (rev h)) (origin m h))
      back = (first_from_an_edge t (laid embedding) (whole p) (whole q)
          (not_same p q apart)
          (origin m (rev h)) (origin m h) (edge_flipped t (origin m h) (origin m (rev h))
          (joined embedding h
          (in_mesh embedding h within)))
          (turned_within (start h) (start (rev h)) (whole p) here)).2

      twice : origin m h ≡ origin m (rev (rev h))
      twice = ap (origin m) (sym (rev-rev h))

      -- with q on the left of the edge it starts by crossing it
      pub over_edge : side (start h) (start (rev h)) (whole q) ≡ left
          → Starts at c p q (Some (Edge h))
      over_edge s = starts_first apart (Edge h) within (law.0 s)

      -- with q on its right it starts by crossing its twin
      pub over_twin : side (start h) (start (rev h)) (whole q) ≡ right
          → Starts at c p q (Some (Edge (rev h)))
      over_twin s = starts_first apart (Edge (rev h)) (twin_within embedding h within)
          (subst (λ (x : ℕ). IsFirst t (whole p) (whole q) (across (origin m (rev h)) x))
          twice (law.1 s))

      -- with q ahead on its line it starts along the edge
      pub along_edge : {end : Point} → end ≡ point_at points (origin m (rev h))
          → side (start h) (start (rev h)) (whole q) ≡ on
          → IsAhead (whole p) (whole end) (whole q) → Starts at c p q (Some (Overlap h))
      along_edge is s a = starts_first apart (Overlap h) within
          (law.2 s (subst (λ (z : Point). IsAhead (whole p) (whole z) (whole q)) is a))

      -- with q behind on its line it starts along the twin
      pub along_twin : {end : Point} → end ≡ point_at points (origin m (rev h))
          → side (start h) (start (rev h)) (whole q) ≡ on →
          ¬ IsAhead (whole p) (whole end) (whole q) → Starts at c p q (Some (Overlap (rev h)))
      along_twin is s n = starts_first apart (Overlap (rev h)) (twin_within embedding h within)
          (subst (λ (x : ℕ). IsFirst t (whole p) (whole q) (along (origin m (rev h)) x)) twice
          (back (side_swapped (start h) (start (rev h)) (whole q) ∙ ap opposite s) (go (law.3 s))))
        where
          go : IsAhead (whole p) (start (rev h)) (whole q) ⊎ IsAhead (whole p) (start h) (whole q) →
              IsAhead (whole p) (start h) (whole q)
          go (inl a) =
              absurd (n (subst (λ (z : Point). IsAhead (whole p) (whole z) (whole q)) (sym is) a))
          go (inr a) = a

  -- ---- strictly inside a face
  -- the same face from its next edge on
  pub inside_after : {p : Point} (h : ℕ) → h < length c.directed → StartsInside points m p h
      → StartsInside points m p (next m h)
  inside_after {p = p} h within i =
      let w = in_mesh embedding h within in
      let r = T.triangle_at m h embedding.kept.valid.sound w i.inner in record {
        inner = subst (λ (x : ℕ). 0 < x) (sym r.face_next) i.inner;
        inside =
            subst (λ (x : ℕ × ℕ × ℕ). InsideTriangle (place points x.0) (place points x.1)
            (place points x.2) (whole p))
            (λ k. (
              sym (embedding.kept.valid.sound.edges h w).starts k,
              sym (twin_of_next embedding h w i.inner) k,
              ap (origin m) (sym r.prev_next) k,
            ))
            (turned_inside (start h) (start (rev h)) (start (prev m h)) (whole p) i.inside);
      }

  -- and from the edge before it
  pub inside_before : {p : Point} (h : ℕ) → h < length c.directed → StartsInside points m p h
      → StartsInside points m p (prev m h)
  inside_before {p = p} h within i =
      let r = T.triangle_at m h embedding.kept.valid.sound
      (in_mesh embedding h within) i.inner in
      subst (StartsInside points m p) r.next_next (inside_after (next m h)
      (of_mesh embedding (next m h) r.next_in) (inside_after h within i))

  module _ {p : Point} (h : ℕ) (within : h < length c.directed)
      (i : StartsInside points m p h) where
    -- edge h is one of the mesh
    w : h < length m.half_edges
    w = in_mesh embedding h within

    is_face : IsFace t (origin m h) (origin m (rev h)) (origin m (prev m h))
    is_face = face_at embedding h w i.inner

    tiles : TilesHull t
    tiles = tiles_with embedding (origin m h) (origin m (rev h))
        (origin m (prev m h)) is_face

    -- from p to itself the walk meets nothing
    pub alone_inside : {q : Point} → p ≡ q → Starts at c p q None
    alone_inside {q = q} e = nothing
        ((equal_ends t (whole p) (whole q) (same_ends e)).2 tiles (origin m h) (origin m (rev h))
        (origin m (prev m h)) is_face i.inside)

    module _ {q : Point} (apart : p ≢ q) where
      abbrev A : Fraction
      A = start h

      abbrev B : Fraction
      B = start (rev h)

      abbrev C : Fraction
      C = start (prev m h)

      face_law : (side (whole p) (whole q) B ≡ left → (side (whole p) (whole q) A ≢ left → side A B
          (whole q) ≡ left → IsWalk t (whole p) (whole q) []) × (side (whole p) (whole q) A ≡ on
          → side A B (whole q) ≢ left → IsFirst t (whole p) (whole q) (at_vertex (origin m h)))
          × (side (whole p) (whole q) A ≡ right → side A B (whole q) ≢ left
          → IsFirst t (whole p) (whole q) (across (origin m (rev h)) (origin m h))))
          × (((side (whole p) (whole q) A ≢ left) × (side (whole p) (whole q) B ≡ left))
          ⊎ (((side (whole p) (whole q) B ≢ left) × (side (whole p) (whole q) C ≡ left))
          ⊎ ((side (whole p) (whole q) C ≢ left) × (side (whole p) (whole q) A ≡ left))))
      face_law = first_from_a_face t tiles (whole p) (whole q) (not_same p q apart) (origin m h)
          (origin m (rev h))
          (origin m (prev m h)) is_face i.inside

      -- one of its sides goes over the segment
      pub last_goes_over : ¬ GoesOver points m p q h → ¬ GoesOver points m p q (next m h) →
          GoesOver points m p q (prev m h)
      last_goes_over first second = go face_law.1
        where
          go : ((side (whole p) (whole q) A ≢ left) × (side (whole p) (whole q) B ≡ left)) ⊎
              (((side (whole p) (whole q) B ≢ left) × (side (whole p) (whole q) C ≡ left)) ⊎
              ((side (whole p) (whole q) C ≢ left) × (side (whole p) (whole q) A ≡ left))) →
              GoesOver points m p q (prev m h)
          go (inl x) = absurd (first x)
          go (inr (inl x)) = absurd (second (
            subst (λ (k : ℕ). side (whole p) (whole q) (place points k) ≢ left)
                (sym (embedding.kept.valid.sound.edges h w).starts) x.0,
            subst (λ (k : ℕ). side (whole p) (whole q) (place points k) ≡ left)
                (sym (twin_of_next embedding h w i.inner)) x.1,
          ))
          go (inr (inr x)) = (
            x.0,
            subst (λ (k : ℕ). side (whole p) (whole q) (place points k) ≡ left)
                (sym (twin_of_prev embedding h w i.inner)) x.1,
          )

      module _ (o : GoesOver points m p q h) where
        -- with q on the left of this side the walk meets nothing
        pub ends_in_face : IsLeftOf points m q h → Starts at c p q None
        ends_in_face l = nothing_met apart ((face_law.0 o.1).0 o.0 l)

        -- with q beyond it, and its start on the way, the walk starts at this vertex
        pub through_start : ¬ IsLeftOf points m q h → side (whole p) (whole q) A ≡ on
            → Starts at c p q (Some (Vertex (origin m h)))
        through_start n s = starts_first apart (Vertex (origin m h))
            (start_known embedding h within)
            ((face_law.0 o.1).1 s n)

        -- with q beyond it, and its start off the way, the walk starts by crossing its twin
        pub through_side : ¬ IsLeftOf points m q h
            → side (whole p) (whole q) A ≢ on → Starts at c p q (Some (Edge (rev h)))
        through_side n s = starts_first apart (Edge (rev h)) (twin_within embedding h within)
            (subst (λ (x : ℕ). IsFirst t (whole p) (whole q) (across (origin m (rev h)) x))
            (ap (origin m) (sym (rev-rev h)))
            ((face_law.0 o.1).2 (below (side (whole p) (whole q) A) o.0 s) n))
          where
            below : (z : Side) → z ≢ left → z ≢ on → z ≡ right
            below left a b = absurd (a (λ _. left))
            below right a b = λ _. right
            below on a b = absurd (b (λ _. on))

-- a side that is neither left nor right is on the line
pub on_if_neither : (z : Side) → z ≢ left → z ≢ right → z ≡ on
on_if_neither left a b = absurd (a (λ _. left))
on_if_neither right a b = absurd (b (λ _. right))
on_if_neither on a b = λ _. on
