-- A position beside a line of vertices, or beyond an end of it, at which one edge starts.
-- Lemmas: all_outer, located_right, located_past.
use Rattle.std.proofs.Common.{◌≡◌, ◌≢◌, ◌⊎◌, ◌<◌, ◌∙◌}
use Rattle.std.proofs.Common.{ℕ, List, [], length, map, refl, sym, ap, subst, inl, inr, arith}
use Rattle.std.specs.Prelude.{ℤ, pos, ◌<ℤ◌, ◌≤ℤ◌, Contains}
use Rattle.std.proofs.lemmas.List.{length-map, nil_from_length}
use Rattle.plane.specs.{IsPast, opposite, Point, right, Side, side, whole, WithinSegment}
use Rattle.plane.proofs.{bracket, bracket-swap, bracket-turn, IsBetween, less_both_ways}
use Rattle.plane.proofs.{less_if_not_same, less_is_not_same, lift, opposite_of_zero, place_of_end}
use Rattle.plane.proofs.{place_of_start, place_on, place_within, side_swapped, within_by_places}
use Rattle.half_edge_links.specs.{face, IsOuterEdge, Mesh, next, origin, rev, triangle_at}
use Rattle.plane_theorems.proofs.{Adjoin, line_by_signs, point_at, same_place, SignLine, within_on}
use Rattle.plane_theorems.proofs.Tiling.LinePlaces.{ArePlaces, nearest_below, next_below}
use Rattle.{delaunay_core.specs.place_of, half_edge_links.specs.triangles}
use Rattle.delaunay_legalization.specs.{corners_of, drawn, faces_of, IsMeshEdge, IsTriangulated}
use Rattle.{delaunay_legalization.specs.outer_of, delaunay_legalization.specs.State.State}
use Rattle.delaunay_legalization.proofs.{listed, mesh_edge, real}
use Rattle.delaunay_location.specs.{declared.steps.Stop.Stop, Locates, OutsideOfConvexHull}
use Rattle.{delaunay_location.specs.Stop.IsStop, half_edge_links.proofs.alone_at}
use Rattle.delaunay_location.proofs.{Questions.located_left, Sides.across_edge}

-- ---- the end of a line: a vertex with one neighbour
module _ (n : ℕ) (p : ℕ → Point) (outer : List (ℕ × ℕ)) (m : SignLine n p outer)
    (end other : ℕ) (near : Adjoin n p end other)
    (only : (j : ℕ) → Contains outer (end, j) → j ≡ other) where
  apart : ¬ (p end ≡ p other)
  apart = m.distinct end other near.first near.second near.apart

  on_line : (k : ℕ) → k < n → bracket (lift (p end)) (lift (p other)) (lift (p k)) ≡ pos 0
  on_line k h = m.straight end other k near.first near.second h

  -- places on the way from the end to its neighbour
  abbrev spot : ℕ → ℤ
  spot k = place_on (p end) (p other) (lift (p k))

  in_order : (x y z : ℤ) → IsBetween x y z ⊎ ((x ≡ z) × (z ≡ y))
      → ((x <ℤ z) × (z <ℤ y)) ⊎ (((y <ℤ z) × (z <ℤ x)) ⊎ ((x ≡ z) × (z ≡ y)))
  in_order x y z (inl (inl o)) = inl o
  in_order x y z (inl (inr o)) = inr (inl o)
  in_order x y z (inr o) = inr (inr o)

  places : ArePlaces n p spot
  places = record {
    same = λ i j hi hj e. same_place n p m.distinct (p end) (p other) apart i j hi hj
        (on_line i hi) (on_line j hj) e;
    within = λ i j k hi hj hk a b. within_by_places (p end) (p other) apart (p i) (p k) (p j)
        (on_line i hi) (on_line k hk) (on_line j hj) a b;
    order = λ i j k w. in_order (spot i) (spot j) (spot k)
        (place_within (p end) (p other) (p i) (p j) (p k) w);
  }

  ahead : spot end <ℤ spot other
  ahead = subst (λ z. z <ℤ spot other) (sym (place_of_start (p end) (p other)))
      (place_of_end (p end) (p other) apart)

  none_behind : (k : ℕ) → k < n → spot end ≤ℤ spot k
  none_behind = elim (nearest_below spot n (spot end)) [
    | inl s ↦ absurd (less_both_ways (spot end) (spot other) ahead
        (subst (λ j. spot j <ℤ spot end)
        (only s.0 (next_below n p outer m spot places end near.first s.0 s.1)) s.1.below))
    | inr none ↦ none
  ]

  -- from a point beyond it, the end is strictly on the way to each other vertex
  module _ (q : Point) (w : WithinSegment (whole q) (whole (p other)) (whole (p end))) where
    level : bracket (lift (p end)) (lift (p other)) (lift q) ≡ pos 0
    level = opposite_of_zero (bracket (lift (p end)) (lift (p other)) (lift q))
        (bracket (lift (p other)) (lift (p end)) (lift q))
        (bracket-swap (lift (p end)) (lift (p other)) (lift q))
        (sym (bracket-turn (lift q) (lift (p other)) (lift (p end)))
        ∙ within_on q (p other) (whole (p end)) w)

    behind : place_on (p end) (p other) (lift q) <ℤ spot end
    behind = go (place_within (p end) (p other) q (p other) (p end) w)
      where
        go : IsBetween (place_on (p end) (p other) (lift q)) (spot other) (spot end)
            ⊎ ((place_on (p end) (p other) (lift q) ≡ spot end) × (spot end ≡ spot other))
            → place_on (p end) (p other) (lift q) <ℤ spot end
        go (inl (inl o)) = o.0
        go (inl (inr o)) = absurd (less_both_ways (spot end) (spot other) ahead o.0)
        go (inr o) = absurd (less_is_not_same (spot end) (spot other) ahead o.1)

    beyond_end : (k : ℕ) → k < n → k ≢ end → WithinSegment (whole q) (whole (p k)) (whole (p end))
    beyond_end k h differ = within_by_places (p end) (p other) apart q (p end) (p k) level
        (on_line end near.first) (on_line k h) behind (less_if_not_same (spot end) (spot k)
        (none_behind k h) (λ e. differ (sym (places.same end k near.first h e))))

-- each edge of a line has the outer face on its left
pub all_outer : {V D U F : Type 0} {at : V → Point} {s : State V D U F} → IsTriangulated at s
    → length s.faces ≡ 0 → (e : ℕ) → e < length s.directed → face s.mesh e ≡ 0
all_outer {at = at} {s = s} kept bare e w =
    let inside = (kept.valid.sound.edges e (mesh_edge at s kept e w).within).face_in in
    let fit = kept.fits.faces_fit in
    omega (arith, inside, fit, bare)

module _ {V D U F : Type 0} {at : V → Point} {s : State V D U F} (kept : IsTriangulated at s)
    (p : Point) (bare : length s.faces ≡ 0) where
  abbrev points : List Point
  points = map at s.vertices

  abbrev m : Mesh
  m = s.mesh

  no_face : faces_of m ≡ []
  no_face = nil_from_length (faces_of m) (length-map (triangles m) corners_of
      ∙ length-map m.face_edges (triangle_at m) ∙ sym kept.fits.faces_fit ∙ bare)

  -- a position found strictly on the right of an edge is located outside, by its other direction
  pub located_right : {S : Type 0} {number : S → ℤ} {IsCovered : Point → Type 0} {stop : Stop S}
      {found : Side} {back : ℕ} → IsStop number IsCovered points m (length s.directed) stop
      → found ≡ side (whole (place_of number stop.from)) (whole (place_of number stop.to)) (whole p)
      → found ≡ right → back ≡ rev stop.edge → Locates points m p (OutsideOfConvexHull back)
  located_right {number = number} {stop = stop} h is at_right same =
      let turned = across_edge kept h in
      subst (λ k. Locates points m p (OutsideOfConvexHull k)) (sym same) (located_left points m p
      (place_of number stop.to) (place_of number stop.from) (rev stop.edge) turned.from turned.to
      (mesh_edge at s kept (rev stop.edge) turned.within)
      (all_outer kept bare (rev stop.edge) turned.within)
      (side_swapped (whole (place_of number stop.from)) (whole (place_of number stop.to)) (whole p)
      ∙ ap opposite (sym is ∙ at_right)))

  module _ (e : ℕ) (w : e < length s.directed) (alone : next m (rev e) ≡ e) (a b : Point)
      (from : a ≡ point_at points (origin m e)) (to : b ≡ point_at points (origin m (rev e)))
      (beyond : WithinSegment (whole p) (whole b) (whole a)) where
    -- edge e is one of the mesh
    own : IsMeshEdge points m e
    own = mesh_edge at s kept e w

    -- the outer edges are those of a line, by signs
    line : SignLine (length points) (point_at points) (outer_of m)
    line = elim kept.shape [
      | inl l ↦ absurd (l.some_face no_face)
      | inr l ↦ line_by_signs points (outer_of m) l.1
    ]

    -- e is an outer edge
    here : IsOuterEdge m e (origin m e) (origin m (rev e))
    here = record {
      within = own.within;
      outer = all_outer kept bare e w;
      source = refl;
      target = refl;
    }

    -- its ends are neighbours on the line
    near : Adjoin (length points) (point_at points) (origin m e) (origin m (rev e))
    near = (line.neighbours (origin m e) (origin m (rev e))).0
        (listed m e (origin m e) (origin m (rev e)) here)

    -- its end is the only neighbour of its start
    only : (j : ℕ) → Contains (outer_of m) (origin m e, j) → j ≡ origin m (rev e)
    only j c =
        let h = real m (origin m e) j c in
        sym h.1.target ∙ ap (λ k. origin m (rev k))
        (alone_at m e kept.valid own.within alone h.0 h.1.within h.1.source)

    -- the position is past its start
    past : IsPast (drawn points m) (origin m e) (whole p)
    past k h differ = beyond_end (length points) (point_at points) (outer_of m) line (origin m e)
        (origin m (rev e)) near only p (subst (λ (x : Point × Point). WithinSegment (whole p)
        (whole x.0) (whole x.1)) (λ i. (to i, from i)) beyond) k h differ

    -- a position beyond the start of the only edge there is located past this end of the line
    pub located_past : Locates points m p (OutsideOfConvexHull e)
    located_past = record {
      handle = (own.within, all_outer kept bare e w);
      location = ((own.joined, own.bare (all_outer kept bare e w)), inr past);
    }
