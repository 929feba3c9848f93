-- Sides of free faces, as edges of the mesh that draws them.
-- Lemmas: face_count, corners_named, side_is_link, link_has_side, end_exists.
use Rattle.std.proofs.Common.{◌≡◌, ◌⊎◌, ◌+◌, ◌-◌, ◌<◌, ◌∙◌, ℕ, Bool, IsTrue, List, length}
use Rattle.std.proofs.Common.{sym, ap, subst, inl, inr, arith}
use Rattle.std.specs.Prelude.{slice_index_or}
use Rattle.std.proofs.lemmas.List.{get_or-map, length-map}
use Rattle.plane.specs.{Face, Point, Triangulation}
use Rattle.half_edge_links.specs.{face, face_edge, IsValidMesh, Mesh, next, origin, prev, rev}
use Rattle.half_edge_links.specs.{Triangle, triangle_at, triangles}
use Rattle.half_edge_links.proofs.{rev-rev, rev_within}
use Rattle.plane_theorems.specs.{face_at, HasFreeFace, IsTurned, Ways.Links.IsLinked}
use Rattle.delaunay_legalization.specs.{corners_of, drawn}
use Rattle.delaunay_shapes.specs.{by_place, IsFreeBeside}
use Rattle.half_edge_links.proofs.Sound.Triangles as T
use Rattle.plane.specs.Tiling as D

-- one of the two faces beside directed edge h is an inner one, and free
abbrev pub IsSide : Mesh → (ℕ → Bool) → ℕ → Type 0
IsSide m free h = IsFreeBeside m free h ⊎ IsFreeBeside m free (rev h)

module _ (points : List Point) (m : Mesh) (s : IsValidMesh m) (free : ℕ → Bool) where
  abbrev t : Triangulation
  t = drawn points m

  no_triangle : Triangle
  no_triangle = record { first = 0; second = 0; third = 0 }

  pub face_count : length t.faces ≡ length m.face_edges
  face_count = length-map (triangles m) corners_of ∙ length-map m.face_edges (triangle_at m)

  -- the n-th face of the list has the corners round the edge that it names
  pub corners_named : (n : ℕ) → n < length m.face_edges
      → face_at t n ≡ corners_of (triangle_at m (slice_index_or m.face_edges n 0))
  corners_named n within =
      get_or-map corners_of (triangles m) n no_triangle (D.face 0 0 0)
      (subst (λ k. n < k) (sym (length-map m.face_edges (triangle_at m))) within)
      ∙ ap corners_of (get_or-map (triangle_at m) m.face_edges n 0 no_triangle within)

  -- what the corners round an edge of an inner face are
  corners_from : (e h : ℕ) → h < length m.half_edges → 0 < face m h
      → (e ≡ h) ⊎ ((e ≡ next m h) ⊎ (e ≡ prev m h)) → IsTurned (origin m e) (origin m (next m e))
      (origin m (prev m e)) (origin m h) (origin m (rev h)) (origin m (prev m h))
  corners_from e h w inner which = go which
    where
      round : T.IsTriangle m h
      round = T.triangle_at m h s.sound w inner

      ends : origin m (rev h) ≡ origin m (next m h)
      ends = sym (s.sound.edges h w).starts

      go : (e ≡ h) ⊎ ((e ≡ next m h) ⊎ (e ≡ prev m h))
          → IsTurned (origin m e) (origin m (next m e)) (origin m (prev m e)) (origin m h)
          (origin m (rev h)) (origin m (prev m h))
      go (inl i) = inl (
        ap (origin m) (sym i),
        ends ∙ ap (λ x. origin m (next m x)) (sym i),
        ap (λ x. origin m (prev m x)) (sym i),
      )
      go (inr (inl i)) = inr (inr (
        ap (origin m) (sym round.prev_next) ∙ ap (λ x. origin m (prev m x)) (sym i),
        ends ∙ ap (origin m) (sym i),
        ap (origin m) (sym round.next_next) ∙ ap (λ x. origin m (next m x)) (sym i),
      ))
      go (inr (inr i)) = inr (inl (
        ap (origin m) (sym round.next_prev) ∙ ap (λ x. origin m (next m x)) (sym i),
        ends ∙ ap (origin m) (sym round.prev_prev) ∙ ap (λ x. origin m (prev m x)) (sym i),
        ap (origin m) (sym i),
      ))

  back_one : (n : ℕ) → 0 < n → n - 1 + 1 ≡ n
  back_one n h = omega (arith, h)

  -- a free face beside an edge is one of the list
  free_there : (h : ℕ) → h < length m.half_edges → IsFreeBeside m free h
      → HasFreeFace t (by_place free) (origin m h) (origin m (rev h))
  free_there h w f =
      let n = face m h - 1 in
      let inside : n < length m.face_edges = let i = (s.sound.edges h w).face_in in
      let p = f.0 in omega (arith, i, p) in
      record {
        index = n;
        within = subst (λ k. n < k) (sym face_count) inside;
        is_free = subst (λ k. IsTrue (free k)) (sym (back_one (face m h) f.0)) f.1;
        third = origin m (prev m h);
        corners = subst (λ (c : Face). IsTurned c.a c.b c.c (origin m h) (origin m (rev h))
            (origin m (prev m h))) (sym (corners_named n inside))
            (corners_from (face_edge m (face m h)) h w f.0 ((s.sound.edges h w).owned f.0));
      }

  -- and a free face of the list is beside an edge
  free_edge : (i j : ℕ) → HasFreeFace t (by_place free) i j → (h : ℕ)
      × (h < length m.half_edges) × (i ≡ origin m h) × (j ≡ origin m (rev h))
      × IsFreeBeside m free h
  free_edge i j f = pick (subst (λ (c : Face). IsTurned c.a c.b c.c i j f.third)
      (corners_named n inside) f.corners)
    where
      n : ℕ
      n = f.index

      inside : f.index < length m.face_edges
      inside = subst (λ k. f.index < k) face_count f.within

      less : f.index + 1 - 1 ≡ f.index
      less = omega arith

      e : ℕ
      e = slice_index_or m.face_edges f.index 0

      named : (slice_index_or m.face_edges f.index 0 < length m.half_edges)
          × (face m (slice_index_or m.face_edges f.index 0) ≡ f.index + 1)
      named = subst (λ k. (slice_index_or m.face_edges k 0 < length m.half_edges)
          × (face m (slice_index_or m.face_edges k 0) ≡ f.index + 1)) less
          (s.sound.faces (f.index + 1) (omega arith) (omega (arith, inside)))

      positive : (k : ℕ) → k ≡ f.index + 1 → 0 < k
      positive k q = omega (arith, q)

      round : T.IsTriangle m (slice_index_or m.face_edges f.index 0)
      round = T.triangle_at m (slice_index_or m.face_edges f.index 0) s.sound named.0
          (positive (face m (slice_index_or m.face_edges f.index 0)) named.1)

      beside : (h : ℕ) → face m h ≡ f.index + 1 → IsFreeBeside m free h
      beside h q = (positive (face m h) q, subst (λ k. IsTrue (free k)) (sym q) f.is_free)

      pick : IsTurned (origin m (slice_index_or m.face_edges f.index 0))
          (origin m (next m (slice_index_or m.face_edges f.index 0)))
          (origin m (prev m (slice_index_or m.face_edges f.index 0))) i j f.third
          → (h : ℕ) × (h < length m.half_edges) × (i ≡ origin m h) × (j ≡ origin m (rev h))
          × IsFreeBeside m free h
      pick (inl x) = (
        slice_index_or m.face_edges f.index 0,
        named.0,
        x.0,
        x.1 ∙ (s.sound.edges (slice_index_or m.face_edges f.index 0) named.0).starts,
        beside (slice_index_or m.face_edges f.index 0) named.1,
      )
      pick (inr (inl x)) = (
        next m (slice_index_or m.face_edges f.index 0),
        round.next_in,
        x.0,
        x.1 ∙ ap (origin m) (sym round.next_next)
            ∙ (s.sound.edges (next m (slice_index_or m.face_edges f.index 0)) round.next_in).starts,
        beside (next m (slice_index_or m.face_edges f.index 0)) (round.face_next ∙ named.1),
      )
      pick (inr (inr x)) = (
        prev m (slice_index_or m.face_edges f.index 0),
        round.prev_in,
        x.0,
        x.1 ∙ ap (origin m) (sym round.next_prev)
            ∙ (s.sound.edges (prev m (slice_index_or m.face_edges f.index 0)) round.prev_in).starts,
        beside (prev m (slice_index_or m.face_edges f.index 0)) (round.face_prev ∙ named.1),
      )

  -- the ends of a side of a free face are linked
  pub side_is_link : (h : ℕ) → h < length m.half_edges → IsSide m free h
      → IsLinked t (by_place free) (origin m h) (origin m (rev h))
  side_is_link h w (inl f) = inl (free_there h w f)
  side_is_link h w (inr f) = inr (subst (HasFreeFace t (by_place free) (origin m (rev h)))
      (ap (origin m) (rev-rev h))
      (free_there (rev h) (rev_within h (length m.half_edges) s.sound.even w) f))

  -- and linked vertices are the ends of one
  pub link_has_side : (v w : ℕ) → IsLinked t (by_place free) v w → (h : ℕ)
      × (h < length m.half_edges) × (origin m h ≡ v) × (origin m (rev h) ≡ w) × IsSide m free h
  link_has_side v w (inl f) = let e = free_edge v w f in
      (e.0, e.1, sym e.2, sym e.3, inl e.4)
  link_has_side v w (inr f) = let e = free_edge w v f in (
    rev e.0,
    rev_within e.0 (length m.half_edges) s.sound.even e.1,
    sym e.3,
    ap (origin m) (rev-rev e.0) ∙ sym e.2,
    inr (subst (IsFreeBeside m free) (sym (rev-rev e.0)) e.4),
  )

  -- where an edge ends there is a vertex
  pub end_exists : (h : ℕ) → h < length m.half_edges → origin m (rev h) < length m.out_edges
  end_exists h w =
      (s.sound.edges (rev h) (rev_within h (length m.half_edges) s.sound.even w)).origin_in
