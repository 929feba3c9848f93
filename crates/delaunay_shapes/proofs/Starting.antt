-- Where a flood begins: if any edge has a point in the region, one of those tried first has.
-- Lemmas: begun_on_edge, begun_on_face, begun_outside, begun_at_vertex, begun_alone,
-- begun_by_location, begun_by_starts.
use Rattle.std.proofs.Common.{◌≡◌, ◌↔◌, ◌*◌, ◌/◌, ◌<◌, ◌∙◌}
use Rattle.std.proofs.Common.{ℕ, List, length, refl, sym, ap, subst, arith, None}
use mathlib.Core.Logic.{inl, inr, ◌≢◌}
use Rattle.std.specs.Prelude.{Contains, IsSome, Option, Some}
use Rattle.std.proofs.lemmas.Bool.{cases_eq}
use Rattle.plane.specs.{Fraction, IsEdge, IsEdgeIn, IsLocation, IsOuter, IsSame, IsSamePair}
use Rattle.plane.specs.{Location, on_edge, on_face, on_vertex, outside_hull, Point, vertex, whole}
use Rattle.plane.proofs.{on_segment-same, start_on_segment}
use Rattle.half_edge_links.specs.{face, face_edge, IsInner, IsValidMesh, Mesh, next, origin}
use Rattle.half_edge_links.specs.{out_edge, prev, rev}
use Rattle.plane_theorems.specs.{InRegion, IsFaceOf, IsMesh, IsTried, Region, start_point}
use Rattle.plane_theorems.proofs.Delaunay.Floods.FloodOnLine.{edge_at, turned_edge}
use Rattle.plane_theorems.proofs.Delaunay.Floods.FloodRules.{region_has_start, start_is_exact}
use Rattle.plane_theorems.proofs.Delaunay.Floods.Regions.{region_convex}
use Rattle.delaunay_legalization.specs.{drawn, faces_of, outer_of}
use Rattle.delaunay_legalization.proofs.{edge_joins, face_before, joins_edge}
use Rattle.delaunay_location.specs.{Locates, location_of, NoTriangulation, OnEdge, OnFace, OnVertex}
use Rattle.delaunay_location.specs.{OutsideOfConvexHull, PositionInTriangulation}
use Rattle.delaunay_shapes.specs.{HasSides, HasStartAt, IsEdgeInShape}
use Rattle.delaunay_shapes.specs.{Flood.HasBegun, Flood.IsBegunBy, Start.HasOuter, Start.HasStarts}
use Rattle.delaunay_shapes.proofs.Flooding.{half_by_ends, tiles}

module _ (points : List Point) (m : Mesh) (v : IsValidMesh m) (shape :
    IsMesh points (faces_of m) (outer_of m)) (Shape : Fraction → Type 0) (starts : List ℕ) where
  -- a listed edge, by its ends
  listed_edge : (h i j : ℕ) → h < length m.half_edges → Contains starts (h / 2) → origin m h ≡ i →
      origin m (rev h) ≡ j → (a b : ℕ) → IsSamePair a b i j → IsEdgeIn Shape (drawn points m) a b →
      (k : ℕ) × Contains starts k × IsEdgeInShape Shape points m k
  listed_edge h i j w here p q a b same e =
      (h / 2, here, half_by_ends points m v shape Shape h i j w p q (go same))
    where
      go : IsSamePair a b i j → IsEdgeIn Shape (drawn points m) i j
      go (inl s) =
          subst (λ x. IsEdgeIn Shape (drawn points m) x j) s.0
          (subst (λ x. IsEdgeIn Shape (drawn points m) a x) s.1 e)
      go (inr s) = turned_edge (drawn points m) Shape j i
          (subst (λ x. IsEdgeIn Shape (drawn points m) x i) s.0
          (subst (λ x. IsEdgeIn Shape (drawn points m) a x) s.1 e))

  -- from an edge its undirected edge alone suffices
  pub begun_on_edge : (h : ℕ) → h < length m.half_edges → Contains starts (h / 2) →
      HasBegun Shape points m starts (on_edge (origin m h) (origin m (rev h)))
  begun_on_edge h w here =
      record {
        begun =
            λ a b same e. listed_edge h (origin m h) (origin m (rev h)) w here refl refl a b same e;
      }

  -- from a face its three sides suffice
  pub begun_on_face : (h : ℕ) → h < length m.half_edges → 0 < face m h → Contains starts (h / 2)
      → Contains starts (next m h / 2) → Contains starts (prev m h / 2) → HasBegun Shape points m
      starts (on_face (origin m h) (origin m (next m h)) (origin m (prev m h)))
  begun_on_face h w inner first second third = record { begun = λ a b tried e. go a b tried e }
    where
      go : (a b : ℕ) → IsTried (drawn points m)
          (on_face (origin m h) (origin m (next m h)) (origin m (prev m h))) a b
          → IsEdgeIn Shape (drawn points m) a b
          → (k : ℕ) × Contains starts k × IsEdgeInShape Shape points m k
      go a b (inl s) e =
          listed_edge h (origin m h) (origin m (next m h)) w first refl
          (sym (v.sound.edges h w).starts) a b s e
      go a b (inr (inl s)) e = listed_edge (next m h) (origin m (next m h)) (origin m (prev m h))
          (v.sound.edges h w).next_in second refl
          (sym (v.sound.edges (next m h) (v.sound.edges h w).next_in).starts
          ∙ ap (origin m) ((v.sound.edges h w).three inner)) a b s e
      go a b (inr (inr s)) e =
          listed_edge (prev m h) (origin m (prev m h)) (origin m h) (v.sound.edges h w).prev_in
          third refl (sym (v.sound.edges (prev m h) (v.sound.edges h w).prev_in).starts
          ∙ ap (origin m) (v.sound.edges h w).next_prev) a b s e

  -- where an outer edge that is inside is told by a listed one
  pub begun_outside : (i j : ℕ) → HasOuter (IsEdgeInShape Shape points m) m starts →
      HasBegun Shape points m starts (outside_hull i j)
  begun_outside i j told = record {
    begun = λ a b outer e.
        let r = joins_edge m v.sound a b e.0 in
        told r.0 r.1 (bare a b r.0 r.1 r.2 r.3 outer)
        (half_by_ends points m v shape Shape r.0 a b r.1 r.2 r.3 e);
  }
    where
      positive : (f : ℕ) → f ≢ 0 → 0 < f
      positive f n = grind arith

      bare : (a b h : ℕ) → h < length m.half_edges → origin m h ≡ a → origin m (rev h) ≡ b →
          IsOuter (drawn points m) a b → face m h ≡ 0
      bare a b h w p q outer = elim (cases_eq (face m h) 0) as (λ _. face m h ≡ 0) [
        | inl e ↦ e
        | inr n ↦ absurd (outer.1 (
          origin m (prev m h),
          subst (λ x. IsFaceOf (faces_of m) x b (origin m (prev m h))) p
              (subst (λ x. IsFaceOf (faces_of m) (origin m h) x (origin m (prev m h)))
              ((v.sound.edges h w).starts ∙ q)
              (face_before m h v.sound (w, positive (face m h) n))),
        ))
      ]

  -- an edge at a vertex that is at the region's start point
  pub begun_at_vertex : (region : Region) → ((p : Fraction) → Shape p ↔ InRegion region p)
      → (i h : ℕ) → IsSame (whole (start_point region)) (vertex (drawn points m) i)
      → h < length m.half_edges → origin m h ≡ i → Contains starts (h / 2)
      → HasBegun Shape points m starts (on_vertex i)
  begun_at_vertex region same i h here w at_i there = record {
    begun = λ a b tried e.
        let start = region_has_start region e.1.0 ((same e.1.0).0 e.1.2) in
        let inside : InRegion region (vertex (drawn points m) i) =
        region_convex region (whole (start_point region)) (whole (start_point region))
        (vertex (drawn points m) i)
        start start (on_segment-same (whole (start_point region)) (whole (start_point region))
        (whole (start_point region)) (vertex (drawn points m) i) here
        (start_on_segment (whole (start_point region)) (whole (start_point region)))) in
        listed_edge h i (origin m (rev h)) w there at_i refl i (origin m (rev h)) (inl (refl, refl))
        (edge_at (drawn points m) Shape i (origin m (rev h))
        (subst (λ x. IsEdge (drawn points m) x (origin m (rev h))) at_i (edge_joins m v.sound h w))
        ((same (vertex (drawn points m) i)).1 inside));
  }

  -- a vertex without edges begins nothing
  pub begun_alone : (i : ℕ) → out_edge m i ≡ None → HasBegun Shape points m starts (on_vertex i)
  begun_alone i none = record {
    begun = λ a b tried e.
        let r = joins_edge m v.sound a b e.0 in
        absurd (no_edge
        (subst (λ x. IsSome (out_edge m x)) (r.2 ∙ tried.0) (v.sound.edges r.0 r.1).has_out));
  }
    where
      no_edge : IsSome (out_edge m i) → ⊥
      no_edge s = let e = subst (λ o. IsSome o) none s in absurd (cc)

  -- so a flood may begin at a location of the region's start point
  pub begun_by_location : (region : Region) → ((p : Fraction) → Shape p ↔ InRegion region p)
      → (l : Location) → IsLocation (drawn points m) (whole (start_point region)) l → (count : ℕ)
      → 2 * count ≡ length m.half_edges → HasBegun Shape points m starts l
      → IsBegunBy (IsEdgeInShape Shape points m) count starts
  begun_by_location region same l located count even first =
      record { begun = λ k w p. go k (twice k w) p }
    where
      twice : (k : ℕ) → k < count → 2 * k < length m.half_edges
      twice k w = omega (arith, w, even)

      go : (k : ℕ) → 2 * k < length m.half_edges → IsEdgeInShape Shape points m k
          → (j : ℕ) × Contains starts j × IsEdgeInShape Shape points m j
      go k w p =
          let s = (start_is_exact (drawn points m) (tiles points m v shape) region l located).0 (
            origin m (2 * k),
            origin m (rev (2 * k)),
            (edge_joins m v.sound (2 * k) w, (p.0, p.1, (same p.0).0 p.2)),
          )
          in
          first.begun s.0 s.1 s.2 (s.3.0, (s.3.1.0, s.3.1.1, (same s.3.1.0).1 s.3.1.2))

  -- ---- the edges to begin with
  module _ (p : Point) (at : HasStartAt Shape p) where
    at_vertex : (i : ℕ) → IsSame (whole p) (vertex (drawn points m) i)
        → ((h : ℕ) → out_edge m i ≡ Some h → Contains starts (h / 2)) → (o : Option ℕ)
        → out_edge m i ≡ o → HasBegun Shape points m starts (on_vertex i)
    at_vertex i here listed None e = begun_alone i e
    at_vertex i here listed (Some h) e =
        let w = v.sound.vertices i h e in
        begun_at_vertex at.region at.same i h
        (subst (λ q. IsSame (whole q) (vertex (drawn points m) i)) (sym at.start)
        here) w.0 w.1 (listed h e)

    in_face : (f : ℕ) → IsInner m f → HasSides m starts (face_edge m f) →
        HasBegun Shape points m starts (location_of m (OnFace f))
    in_face f inner sides =
        let w = v.sound.faces f inner.0 inner.1 in
        begun_on_face (face_edge m f) w.0
        (subst (λ g. 0 < g) (sym w.1) inner.0) sides.first sides.second sides.third

    begun_at : (place : PositionInTriangulation) → Locates points m p place
        → HasStarts (IsEdgeInShape Shape points m) m starts place
        → HasBegun Shape points m starts (location_of m place)
    begun_at (OnVertex i) l s = at_vertex i l.location.1 s (out_edge m i) refl
    begun_at (OnEdge e) l s = begun_on_edge e l.handle s
    begun_at (OnFace f) l s = in_face f l.handle s
    begun_at (OutsideOfConvexHull e) l s = begun_outside (origin m e) (origin m (rev e)) s
    begun_at NoTriangulation l s = record { begun = λ a b tried e. absurd tried }

    -- where the shape begins at p, the edges to begin with at the place of p suffice
    pub begun_by_starts : (place : PositionInTriangulation) → Locates points m p place
        → HasStarts (IsEdgeInShape Shape points m) m starts place → (count : ℕ)
        → 2 * count ≡ length m.half_edges → IsBegunBy (IsEdgeInShape Shape points m) count starts
    begun_by_starts place l s count even = begun_by_location at.region at.same (location_of m place)
        (subst (λ q. IsLocation (drawn points m) (whole q) (location_of m place))
        (sym at.start) l.location) count even
        (begun_at place l s)
