-- What each growth of a mesh leaves in its place, with its data.
-- Lemmas: some_before, with_ends_other, some_edge, parts_of_edge, rev_half, ends_are, within_both,
-- grows_by_face, grows_inside, grows_within_side, grows_within_hull, grows_past_end,
-- grows_within_line, grows_from_one, grows_on.
use Rattle.std.proofs.Common.{◌≡◌, ◌⊎◌, ◌≢◌, ◌+◌, ◌-◌, ◌*◌, ◌/◌, ◌<◌, ◌≤◌, [], ◌∷◌, ◌++◌, ◌∙◌}
use Rattle.std.proofs.Common.{ℕ, zero, suc, List, length, set, get_or, refl, sym, ap, subst, Some}
use Rattle.std.proofs.Common.{inl, inr, arith}
use Rattle.std.specs.Prelude.{ℤ, pos, ◌+ℤ◌, ◌*ℤ◌, slice_get}
use Rattle.std.proofs.lemmas.Bool.{cases_eq}
use Rattle.std.proofs.lemmas.Grind.{common_steps}
use Rattle.std.proofs.lemmas.Int.{ints}
use Rattle.std.proofs.lemmas.List.{length-map, length-set, get_or-map}
use Rattle.std.proofs.lemmas.Option.{slice_get_within, slice_get-get_or, get_or_from_slice_get}
use Rattle.plane.specs.{Fraction, InsideTriangle, InTriangle, IsNotNegative, IsPositive, place}
use Rattle.plane.specs.{Point, whole, WithinSegment}
use Rattle.plane.proofs.{◌⊕◌, ◌⊗◌, num, one_below, ring_in, three_weights, two_weights, TwoWeights}
use Rattle.plane.proofs.{Means.mean_of_three, Means.ThreeWeights, Triangles.turned_in, weak}
use Rattle.half_edge_links.specs.{AddsTriangle, AreSoundLinks, Ends, ends, face, face_edge}
use Rattle.half_edge_links.specs.{HalfSplitsTriangles, InsertsTriangles, IsValidMesh, Mesh, next}
use Rattle.half_edge_links.specs.{origin, prev, rev, SplitsTriangles, Triangle, triangle_at}
use Rattle.half_edge_links.specs.{triangles}
use Rattle.half_edge_links.proofs.{get_or-ends, length-ends_twice, rev-rev, rev_within}
use Rattle.half_edge_dcel.specs.{AddsData, AddsEdges, Contents, Edge, edge_with, edges, edges_of}
use Rattle.half_edge_dcel.specs.{FitsMesh, Grows, IsMeshWithData, SplitsEdge, with_ends}
use Rattle.half_edge_dcel.specs.{GrownData.AddsEdgeData, GrownData.MovesData, Growth.MovesTwoItems}
use Rattle.delaunay_legalization.specs.{GoSameDirection, IsInsideFaceOf, IsWithinEdge, state_of}
use Rattle.{delaunay_legalization.specs.State.State, plane_theorems.proofs.turned_within}
use Rattle.delaunay_legalization.proofs.{half_same, halved, rev_of_even, slice_get-set_other}
use Rattle.delaunay_vertices.specs.{Data.IsInCorners, Data.KeepsEdge, Data.KeepsFace, GrowsAround}
use Rattle.half_edge_links.proofs.Sound.Triangles as T

-- ---- entries of lists
get_before : {X : Type 0} (xs ys : List X) (k : ℕ) → k < length xs
    → slice_get (xs ++ ys) k ≡ slice_get xs k
get_before [] ys k w = absurd (omega (arith, w))
get_before (x ∷ xs) ys zero w = refl
get_before (x ∷ xs) ys (suc k) w = get_before xs ys k (omega (arith, w))

-- an entry of a list stays where others are appended
pub some_before : {X : Type 0} (xs ys : List X) (k : ℕ) (x : X) → slice_get xs k ≡ Some x
    → slice_get (xs ++ ys) k ≡ Some x
some_before xs ys k x e = get_before xs ys k (slice_get_within xs k x e) ∙ e

-- in a list that grew
grown_entry : {X : Type 0} (P : X → Type 0) (old new : List X) (more k : ℕ) → k < length old
    → Grows P old new more → slice_get new k ≡ slice_get old k
grown_entry P old new more k w g = ap (λ xs. slice_get xs k) g.whole ∙ get_before old g.added k w

-- in one where two entries gave way
moved_entry : {X : Type 0} (P : X → Type 0) (old new : List X) (i j more k : ℕ) → k < length old
    → k ≢ i → k ≢ j → MovesTwoItems P old new i j more → slice_get new k ≡ slice_get old k
moved_entry P old new i j more k w n m g =
    ap (λ xs. slice_get xs k) g.whole
    ∙ get_before (set (set old i g.made) j g.also_made) (g.kept ∷ g.also_kept ∷ g.added) k
    (rw (length-set (set old i g.made) j g.also_made, length-set old i g.made) w)
    ∙ slice_get-set_other (set old i g.made) j k g.also_made m
    ∙ slice_get-set_other old i k g.made n

-- where one edge gets other ends, each other one in the list stays
pub with_ends_other : {U : Type 0} (xs : List (Edge U)) (i j : ℕ) (e : Ends) → j ≢ i
    → slice_get (with_ends xs i e) j ≡ slice_get xs j
with_ends_other [] i j e n = refl
with_ends_other (x ∷ xs) zero zero e n = absurd (n refl)
with_ends_other (x ∷ xs) zero (suc j) e n = refl
with_ends_other (x ∷ xs) (suc i) zero e n = refl
with_ends_other (x ∷ xs) (suc i) (suc j) e n = with_ends_other xs i j e (λ q. n (ap suc q))

-- in the list of edges with their data
pub some_edge : {U : Type 0} (es : List Ends) (us : List U) (k : ℕ) → k < length es → k < length us
    → (e : Edge U) × (slice_get (edges_of es us) k ≡ Some e)
some_edge [] us k v w = absurd (omega (arith, v))
some_edge (x ∷ es) [] k v w = absurd (omega (arith, w))
some_edge (x ∷ es) (u ∷ us) zero v w = (edge_with x u, refl)
some_edge (x ∷ es) (u ∷ us) (suc k) v w = some_edge es us k (omega (arith, v)) (omega (arith, w))

abbrev ends_of : {U : Type 0} → Edge U → Ends
ends_of e = record { source = e.source; target = e.target }

-- an edge in the list of edges with their data has the ends and the data that are listed at its
-- index
pub parts_of_edge : {U : Type 0} (es : List Ends) (us : List U) (k : ℕ) (e : Edge U)
    → slice_get (edges_of es us) k ≡ Some e
    → (slice_get es k ≡ Some (ends_of e)) × (slice_get us k ≡ Some e.value)
parts_of_edge [] us k e h = absurd (cc)
parts_of_edge (x ∷ es) [] k e h = absurd (cc)
parts_of_edge (x ∷ es) (u ∷ us) zero e h =
    let q : edge_with x u ≡ e = cc in (ap (λ z. Some (ends_of z)) q, ap (λ z. Some z.value) q)
parts_of_edge (x ∷ es) (u ∷ us) (suc k) e h = parts_of_edge es us k e h

-- a directed edge and its reverse are one undirected edge
pub rev_half : (e : ℕ) → rev e / 2 ≡ e / 2
rev_half e = grind (arith, common_steps)

no_ends : Ends
no_ends = record { source = 0; target = 0 }

-- the ends that are listed for undirected edge k are those of directed edge 2 k
pub ends_are : (m : Mesh) → AreSoundLinks m → (k : ℕ) (e : Ends) → slice_get (ends m) k ≡ Some e
    → (origin m (2 * k) ≡ e.source) × (origin m (rev (2 * k)) ≡ e.target)
ends_are m s k e h = (
  ap (λ (x : Ends). x.source) listed,
  ap (origin m) (rev_of_even k) ∙ ap (λ (x : Ends). x.target) listed,
)
  where
    listed : (let x : Ends = record { source = origin m (2 * k); target = origin m (2 * k + 1) } in
        x) ≡ e
    listed = sym (get_or-ends m k no_ends
        (omega (arith, slice_get_within (ends m) k e h, length-ends_twice m s)))
        ∙ get_or_from_slice_get (ends m) k e no_ends h

-- ---- where the point is
within_in : (a b c p : Fraction) → WithinSegment a b p → InTriangle a b c p
within_in a b c p h = go (two_weights IsPositive a b p h)
  where
    none_of : (k a l b c : ℤ) → k *ℤ a +ℤ l *ℤ b ≡ k *ℤ a +ℤ l *ℤ b +ℤ pos 0 *ℤ c
    none_of k a l b c = ring_in (k ∷ a ∷ l ∷ b ∷ c ∷ []) (λ k a l b c. k ⊗ a ⊕ l ⊗ b)
        (λ k a l b c. k ⊗ a ⊕ l ⊗ b ⊕ num 0 ⊗ c) tt

    go : TwoWeights IsPositive a b p → InTriangle a b c p
    go t = mean_of_three IsNotNegative a b c p (record {
      k = t.k;
      l = t.l;
      m = pos 0;
      n = t.n;
      k_allowed = weak t.k_allowed;
      l_allowed = weak t.l_allowed;
      m_allowed = omega (arith, ints);
      positive = t.positive;
      x = t.x ∙ none_of t.k a.x t.l b.x c.x;
      y = t.y ∙ none_of t.k a.y t.l b.y c.y;
      w = t.w ∙ none_of t.k a.w t.l b.w c.w;
    })

inside_in : (a b c p : Fraction) → InsideTriangle a b c p → InTriangle a b c p
inside_in a b c p h = go (three_weights IsPositive a b c p h)
  where
    go : ThreeWeights IsPositive a b c p → InTriangle a b c p
    go t = mean_of_three IsNotNegative a b c p (record {
      k = t.k;
      l = t.l;
      m = t.m;
      n = t.n;
      k_allowed = weak t.k_allowed;
      l_allowed = weak t.l_allowed;
      m_allowed = weak t.m_allowed;
      positive = t.positive;
      x = t.x;
      y = t.y;
      w = t.w;
    })

module _ (points : List Point) (p : Point) (m : Mesh) where
  -- both directions of an edge have it within
  pub within_both : (e h : ℕ) → IsWithinEdge points m p e → h / 2 ≡ e / 2
      → IsWithinEdge points m p h
  within_both e h w same = elim (half_same e h same) [
    | inl q ↦ subst (IsWithinEdge points m p) (sym q) w
    | inr q ↦ subst (IsWithinEdge points m p) (sym q)
        (subst (λ (x : ℕ). WithinSegment (place points (origin m (rev e)))
        (place points (origin m x)) (whole p)) (sym (rev-rev e)) (turned_within
        (place points (origin m e)) (place points (origin m (rev e))) (whole p) w))
  ]

  -- the listed face of an edge is the face on its left, perhaps turned
  listed_in : (e : ℕ) → AreSoundLinks m → e < length m.half_edges → 0 < face m e
      → IsInCorners points p (triangle_at m e) → (t : Triangle)
      → slice_get (triangles m) (face m e - 1) ≡ Some t → IsInCorners points p t
  listed_in e s w inner inside t h =
      subst (IsInCorners points p) listed (go ((s.edges e w).owned inner))
    where
      no_triangle : Triangle
      no_triangle = record { first = 0; second = 0; third = 0 }

      round : T.IsTriangle m e
      round = T.triangle_at m e s w inner

      index : (face m e - 1) < length m.face_edges
      index = omega (
        arith,
        slice_get_within (triangles m) (face m e - 1) t h,
        length-map m.face_edges (triangle_at m),
      )

      listed : triangle_at m (face_edge m (face m e)) ≡ t
      listed = sym (get_or-map (triangle_at m) m.face_edges (face m e - 1) 0 no_triangle index)
          ∙ get_or_from_slice_get (triangles m) (face m e - 1) t no_triangle h

      go : (face_edge m (face m e) ≡ e)
          ⊎ ((face_edge m (face m e) ≡ next m e) ⊎ (face_edge m (face m e) ≡ prev m e))
          → IsInCorners points p (triangle_at m (face_edge m (face m e)))
      go (inl i) = subst (λ (x : ℕ). IsInCorners points p (triangle_at m x)) (sym i) inside
      go (inr (inl i)) = subst (λ (x : ℕ). IsInCorners points p (triangle_at m x)) (sym i)
          (subst (λ (x : ℕ × ℕ). InTriangle (place points (origin m (next m e)))
          (place points (origin m x.0)) (place points (origin m x.1)) (whole p))
          (λ o. (sym round.next_next o, sym round.prev_next o))
          (turned_in (place points (origin m e)) (place points (origin m (next m e)))
          (place points (origin m (prev m e))) (whole p) inside))
      go (inr (inr i)) = subst (λ (x : ℕ). IsInCorners points p (triangle_at m x)) (sym i)
          (subst (λ (x : ℕ × ℕ). InTriangle (place points (origin m (prev m e)))
          (place points (origin m x.0)) (place points (origin m x.1)) (whole p))
          (λ o. (sym round.next_prev o, sym round.prev_prev o))
          (turned_in (place points (origin m (next m e))) (place points (origin m (prev m e)))
          (place points (origin m e)) (whole p)
          (turned_in (place points (origin m e)) (place points (origin m (next m e)))
          (place points (origin m (prev m e))) (whole p) inside)))

  -- an edge that has it within has it in the face on its left
  beside_in : (e : ℕ) → AreSoundLinks m → e < length m.half_edges → IsWithinEdge points m p e
      → IsInCorners points p (triangle_at m e)
  beside_in e s w h = within_in (place points (origin m e)) (place points (origin m (next m e)))
      (place points (origin m (prev m e))) (whole p)
      (subst (λ (x : ℕ). WithinSegment (place points (origin m e)) (place points x) (whole p))
      (sym (s.edges e w).starts) h)

-- ---- edges and faces that stay
module _ {V D U F : Type 0} (old new : Contents V D U F) (valid : IsValidMesh old.mesh)
    (fit : FitsMesh old.mesh (length old.vertices) (length old.directed) (length old.undirected)
    (length old.faces)) (now : IsMeshWithData new) where
  half_in : (h : ℕ) → h < length old.directed → h / 2 < length old.undirected
  half_in h w = let d = fit.directed_fit in let u = fit.undirected_fit in omega (arith, d, u, w)

  edge_kept : (h : ℕ) → h < length old.directed → ((e : Edge U) → slice_get (edges old) (h / 2)
      ≡ Some e → slice_get (edges new) (h / 2) ≡ Some e) → slice_get new.directed h
      ≡ slice_get old.directed h → KeepsEdge (state_of old) (state_of new) h
  edge_kept h w stays directed =
      record { ends = ends_kept (halved h); directed = directed; undirected = is.1 ∙ sym was.1 }
    where
      count : 2 * length (ends old.mesh) ≡ length old.mesh.half_edges
      count = length-ends_twice old.mesh valid.sound

      here : (e : Edge U) × (slice_get (edges old) (h / 2) ≡ Some e)
      here = some_edge (ends old.mesh) old.undirected (h / 2) (let d = fit.directed_fit in
          omega (arith, d, w, count)) (half_in h w)

      was : (slice_get (ends old.mesh) (h / 2) ≡ Some (ends_of here.0))
          × (slice_get old.undirected (h / 2) ≡ Some here.0.value)
      was = parts_of_edge (ends old.mesh) old.undirected (h / 2) here.0 here.1

      is : (slice_get (ends new.mesh) (h / 2) ≡ Some (ends_of here.0))
          × (slice_get new.undirected (h / 2) ≡ Some here.0.value)
      is = parts_of_edge (ends new.mesh) new.undirected (h / 2) here.0 (stays here.0 here.1)

      even : GoSameDirection old.mesh (2 * (h / 2)) new.mesh (2 * (h / 2))
      even =
          let a = ends_are old.mesh valid.sound (h / 2) (ends_of here.0) was.0 in
          let b = ends_are new.mesh now.valid.sound (h / 2) (ends_of here.0) is.0 in
          (b.0 ∙ sym a.0, b.1 ∙ sym a.1)

      ends_kept : (2 * (h / 2) ≡ h) ⊎ (2 * (h / 2) ≡ rev h) → GoSameDirection old.mesh h new.mesh h
      ends_kept (inl q) = subst (λ (x : ℕ). GoSameDirection old.mesh x new.mesh x) q even
      ends_kept (inr q) =
          let r : GoSameDirection old.mesh (rev h) new.mesh (rev h) =
          subst (λ (x : ℕ). GoSameDirection old.mesh x new.mesh x) q even in
          (subst (λ (x : ℕ). origin new.mesh x ≡ origin old.mesh x) (rev-rev h) r.1, r.0)

  face_in_list : (f : ℕ) (t : Triangle) → slice_get (triangles old.mesh) f ≡ Some t
      → f < length old.faces
  face_in_list f t p = let e = fit.faces_fit in
      omega (
        arith,
        e,
        slice_get_within (triangles old.mesh) f t p,
        length-map old.mesh.face_edges (triangle_at old.mesh),
      )

  face_kept : (P : F → Type 0) (more f : ℕ) (t : Triangle)
      → slice_get (triangles old.mesh) f ≡ Some t → slice_get (triangles new.mesh) f ≡ Some t
      → Grows P old.faces new.faces more → KeepsFace (state_of old) (state_of new) f
  face_kept P more f t p q g = record {
    corners = q ∙ sym p;
    value = grown_entry P old.faces new.faces more f (face_in_list f t p) g;
  }

  -- edges are added
  edges_added : (P : D → Type 0) (Q : U → Type 0) (more : ℕ) (added : List Ends)
      → Grows P old.directed new.directed more → AddsEdges Q (edges old) (edges new) added → (h : ℕ)
      → h < length old.directed → KeepsEdge (state_of old) (state_of new) h
  edges_added P Q more added g a h w =
      edge_kept h w (λ e q. ap (λ xs. slice_get xs (h / 2)) a.whole ∙ some_before (edges old)
      (edges_of added a.values) (h / 2) e q) (grown_entry P old.directed new.directed more h w g)

  module _ (points : List Point) (p : Point) where
    -- and a face
    pub grows_by_face : {P : D → Type 0} {Q : U → Type 0} {R : F → Type 0} {vs : List V}
        {d u f : ℕ} {added : List Ends} (a b c : ℕ) → AddsData P Q R vs old new d u f
        → AddsEdges Q (edges old) (edges new) added → AddsTriangle old.mesh new.mesh a b c
        → GrowsAround points p (state_of old) (state_of new)
    grows_by_face a b c brings e triangle = record {
      edges = λ h w. inl (edges_added _ _ _ _ brings.directed e h w);
      faces = λ i t q. inl (face_kept _ _ i t q
          (ap (λ xs. slice_get xs i) triangle ∙ some_before (triangles old.mesh)
          (record { first = a; second = b; third = c } ∷ []) i t q) brings.faces);
      outer = ap (λ (c : Contents V D U F). c.outer) brings.contents;
    }

    -- and the face on the left of edge a has the point in it
    pub grows_inside : {P : D → Type 0} {Q : U → Type 0} {R : F → Type 0} {vs : List V}
        {d u g : ℕ} {added : List Ends} (v f : ℕ) → 0 < f → f ≤ length old.faces
        → IsInsideFaceOf points old.mesh p (face_edge old.mesh f) → AddsData P Q R vs old new d u g
        → AddsEdges Q (edges old) (edges new) added
        → InsertsTriangles old.mesh new.mesh v (face_edge old.mesh f)
        → GrowsAround points p (state_of old) (state_of new)
    grows_inside v f positive listed inside brings e triangle = record {
      edges = λ h w. inl (edges_added _ _ _ _ brings.directed e h w);
      faces = λ i t q. elim (cases_eq i (face m a - 1)) [
        | inl same ↦ inr (listed_in points p m a valid.sound here.0 (subst (λ (x : ℕ). 0 < x)
            (sym here.1) positive) in_corners t (ap (slice_get (triangles m)) (sym same) ∙ q))
        | inr other ↦ inl (face_kept _ _ i t q
            (ap (λ xs. slice_get xs i) triangle
            ∙ some_before (set (triangles m) (face m a - 1) first) _ i t
            (slice_get-set_other (triangles m) (face m a - 1) i first other ∙ q)) brings.faces)
      ];
      outer = ap (λ (c : Contents V D U F). c.outer) brings.contents;
    }
      where
        m : Mesh
        m = old.mesh

        a : ℕ
        a = face_edge old.mesh f

        here : (face_edge old.mesh f < length old.mesh.half_edges)
            × (face old.mesh (face_edge old.mesh f) ≡ f)
        here = valid.sound.faces f positive (let x = fit.faces_fit in omega (arith, x, listed))

        first : Triangle
        first = record {
          first = origin old.mesh (face_edge old.mesh f);
          second = origin old.mesh (next old.mesh (face_edge old.mesh f));
          third = v;
        }

        in_corners : IsInCorners points p (triangle_at old.mesh (face_edge old.mesh f))
        in_corners = let t = triangle_at old.mesh (face_edge old.mesh f) in inside_in
            (place points t.first) (place points t.second) (place points t.third) (whole p) inside

    -- an edge is split, which had the point within
    edges_split : (P : D → Type 0) (Q : U → Type 0) (e more : ℕ) (turned kept : Ends)
        (others : List Ends) → IsWithinEdge points old.mesh p e
        → MovesTwoItems P old.directed new.directed e (rev e) more
        → SplitsEdge Q (edges old) (edges new) (e / 2) turned kept others → (h : ℕ)
        → h < length old.directed
        → KeepsEdge (state_of old) (state_of new) h ⊎ IsWithinEdge points old.mesh p h
    edges_split P Q e more turned kept others inside d s h w = elim (cases_eq (h / 2) (e / 2)) [
      | inl same ↦ inr (within_both points p old.mesh e h inside same)
      | inr other ↦ inl (edge_kept h w
          (λ x q. ap (λ xs. slice_get xs (h / 2)) s.whole
          ∙ some_before (set (edges old) (e / 2) (edge_with turned s.made))
          (edge_with kept s.edge.value ∷ edges_of others s.values) (h / 2) x
          (slice_get-set_other (edges old) (e / 2) (h / 2) (edge_with turned s.made) other ∙ q))
          (moved_entry P old.directed new.directed e (rev e) more h w
          (λ same. other (ap (λ (k : ℕ). k / 2) same))
          (λ same. other (ap (λ (k : ℕ). k / 2) same ∙ rev_half e)) d))
    ]

    abbrev twin_in : (e : ℕ) → IsWithinEdge points old.mesh p e
        → IsWithinEdge points old.mesh p (rev e)
    twin_in e inside = within_both points p old.mesh e (rev e) inside (rev_half e)

    -- one between two inner faces
    pub grows_within_side : {P : D → Type 0} {Q : U → Type 0} {R : F → Type 0} {vs : List V}
        {d u f : ℕ} {turned kept : Ends} {others : List Ends} (e v : ℕ)
        → e < length old.mesh.half_edges → 0 < face old.mesh e → 0 < face old.mesh (rev e)
        → IsWithinEdge points old.mesh p e → MovesData P Q R vs old new e d u f
        → SplitsEdge Q (edges old) (edges new) (e / 2) turned kept others
        → SplitsTriangles old.mesh new.mesh v e
        → GrowsAround points p (state_of old) (state_of new)
    grows_within_side e v within inner twin_inner inside brings s triangle =
        record {
          edges = edges_split _ _ e _ _ _ _ inside brings.directed s;
          faces = λ i t q. elim (cases_eq i (face m e - 1)) [
            | inl same ↦
                inr (listed_in points p m e valid.sound within inner (beside_in points p m e
                valid.sound within inside) t (ap (slice_get (triangles m)) (sym same) ∙ q))
            | inr other ↦ elim (cases_eq i (face m (rev e) - 1)) [
              | inl same ↦ inr (listed_in points p m (rev e) valid.sound twin_within twin_inner
                  (beside_in points p m (rev e) valid.sound twin_within (twin_in e inside)) t
                  (ap (slice_get (triangles m)) (sym same) ∙ q))
              | inr also ↦ inl (face_kept _ _ i t q
                  (ap (λ xs. slice_get xs i) triangle ∙ some_before
                  (set (set (triangles m) (face m e - 1) left) (face m (rev e) - 1) right) _ i t
                  (slice_get-set_other (set (triangles m) (face m e - 1) left)
                  (face m (rev e) - 1) i right also
                  ∙ slice_get-set_other (triangles m) (face m e - 1) i left other ∙ q))
                  brings.faces)
            ]
          ];
          outer = ap (λ (c : Contents V D U F). c.outer) brings.contents;
        }
      where
        m : Mesh
        m = old.mesh

        twin_within : rev e < length old.mesh.half_edges
        twin_within = rev_within e (length old.mesh.half_edges) valid.sound.even within

        left : Triangle
        left = record {
          first = v;
          second = origin old.mesh (prev old.mesh (rev e));
          third = origin old.mesh (next old.mesh e);
        }

        right : Triangle
        right = record {
          first = origin old.mesh (prev old.mesh (rev e));
          second = v;
          third = origin old.mesh (next old.mesh (rev e));
        }

    -- one with the outer face on its right
    pub grows_within_hull : {P : D → Type 0} {Q : U → Type 0} {R : F → Type 0} {vs : List V}
        {d u f : ℕ} {turned kept : Ends} {others : List Ends} (e v : ℕ)
        → e < length old.mesh.half_edges → 0 < face old.mesh e → IsWithinEdge points old.mesh p e
        → MovesData P Q R vs old new e d u f
        → SplitsEdge Q (edges old) (edges new) (e / 2) turned kept others
        → HalfSplitsTriangles old.mesh new.mesh v e
        → GrowsAround points p (state_of old) (state_of new)
    grows_within_hull e v within inner inside brings s triangle =
        record {
          edges = edges_split _ _ e _ _ _ _ inside brings.directed s;
          faces = λ i t q. elim (cases_eq i (face m e - 1)) [
            | inl same ↦
                inr (listed_in points p m e valid.sound within inner (beside_in points p m e
                valid.sound within inside) t (ap (slice_get (triangles m)) (sym same) ∙ q))
            | inr other ↦ inl (face_kept _ _ i t q (ap (λ xs. slice_get xs i) triangle
                ∙ some_before (set (triangles m) (face m e - 1) left) _ i t
                (slice_get-set_other (triangles m) (face m e - 1) i left other ∙ q)) brings.faces)
          ];
          outer = ap (λ (c : Contents V D U F). c.outer) brings.contents;
        }
      where
        m : Mesh
        m = old.mesh

        left : Triangle
        left = record {
          first = origin old.mesh (prev old.mesh e);
          second = v;
          third = origin old.mesh (next old.mesh e);
        }

    no_listed : length old.faces ≡ 0 → (f : ℕ) (t : Triangle) → slice_get (triangles old.mesh) f
        ≡ Some t → KeepsFace (state_of old) (state_of new) f ⊎ IsInCorners points p t
    no_listed none f t q = absurd (let w = face_in_list f t q in omega (arith, w, none))

    -- a line gets longer
    pub grows_past_end : {P : D → Type 0} {Q : U → Type 0} {vs : List V} {added : List Ends}
        → length old.faces ≡ 0 → AddsEdgeData P Q vs old new
        → AddsEdges Q (edges old) (edges new) added
        → GrowsAround points p (state_of old) (state_of new)
    grows_past_end none brings e = record {
      edges = λ h w. inl (edges_added _ _ _ _ brings.directed e h w);
      faces = no_listed none;
      outer = ap (λ (c : Contents V D U F). c.outer) brings.contents;
    }

    -- an edge of a line is split, which had the point within
    pub grows_within_line : {P : D → Type 0} {Q : U → Type 0} {vs : List V} {added : List Ends}
        (e : ℕ) (turned : Ends) → length old.faces ≡ 0 → IsWithinEdge points old.mesh p e
        → AddsEdgeData P Q vs old new
        → AddsEdges Q (with_ends (edges old) (e / 2) turned) (edges new) added
        → GrowsAround points p (state_of old) (state_of new)
    grows_within_line {added = added} e turned none inside brings a = record {
      edges = λ h w. elim (cases_eq (h / 2) (e / 2)) [
        | inl same ↦ inr (within_both points p old.mesh e h inside same)
        | inr other ↦ inl (edge_kept h w
            (λ x q. ap (λ xs. slice_get xs (h / 2)) a.whole
            ∙ some_before (with_ends (edges old) (e / 2) turned) (edges_of added a.values)
            (h / 2) x (with_ends_other (edges old) (e / 2) (h / 2) turned other ∙ q))
            (grown_entry _ old.directed new.directed _ h w brings.directed))
      ];
      faces = no_listed none;
      outer = ap (λ (c : Contents V D U F). c.outer) brings.contents;
    }

-- one vertex has no edge
pub grows_from_one : {V D U F : Type 0} (old new : Contents V D U F) → IsValidMesh old.mesh
    → FitsMesh old.mesh (length old.vertices) (length old.directed) (length old.undirected)
    (length old.faces) → (points : List Point) (p : Point) → length old.vertices ≤ 1
    → new.outer ≡ old.outer → GrowsAround points p (state_of old) (state_of new)
grows_from_one old new valid fit points p few outer = record {
  edges = λ h w. absurd (no_edge h (subst (λ n. h < n) fit.directed_fit w));
  faces = λ f t q. absurd (let n = length-map old.mesh.face_edges (triangle_at old.mesh) in
      let w = slice_get_within (triangles old.mesh) f t q in no_edge (face_edge old.mesh (suc f))
      (valid.sound.faces (suc f) (omega arith) (omega (arith, n, w))).0);
  outer = outer;
}
  where
    no_edge : (h : ℕ) → ¬ (h < length old.mesh.half_edges)
    no_edge h w = valid.apart h w (one_below (origin old.mesh h) (origin old.mesh (rev h))
        (length old.vertices) (in_range h w)
        (in_range (rev h) (rev_within h (length old.mesh.half_edges) valid.sound.even w)) few)
      where
        in_range : (h : ℕ) → h < length old.mesh.half_edges
            → origin old.mesh h < length old.vertices
        in_range h w = let o = (valid.sound.edges h w).origin_in in let v = fit.vertices_fit in
            omega (arith, o, v)

-- from one change to the next
pub grows_on : {V D U F : Type 0} (points : List Point) (p : Point) (old mid new : State V D U F)
    → GrowsAround points p old mid → GrowsAround points p mid new → GrowsAround points p old new
grows_on points p old mid new a b = record {
  edges = λ h w. elim (a.edges h w) [
    | inr inside ↦ inr inside
    | inl k ↦ elim (b.edges h (still mid.directed old.directed h w k.directed)) [
      | inl l ↦ inl (record {
        ends = (l.ends.0 ∙ k.ends.0, l.ends.1 ∙ k.ends.1);
        directed = l.directed ∙ k.directed;
        undirected = l.undirected ∙ k.undirected;
      })
      | inr inside ↦ inr (subst (λ (x : ℕ × ℕ). WithinSegment (place points x.0) (place points x.1)
          (whole p)) (λ i. (k.ends.0 i, k.ends.1 i)) inside)
    ]
  ];
  faces = λ f t q. elim (a.faces f t q) [
    | inr inside ↦ inr inside
    | inl k ↦ elim (b.faces f t (k.corners ∙ q)) [
      | inl l ↦ inl (record { corners = l.corners ∙ k.corners; value = l.value ∙ k.value })
      | inr inside ↦ inr inside
    ]
  ];
  outer = b.outer ∙ a.outer;
}
  where
    still : {X : Type 0} (xs ys : List X) (k : ℕ) → k < length ys → slice_get xs k ≡ slice_get ys k
        → k < length xs
    still xs [] k w e = absurd (omega (arith, w))
    still xs (y ∷ ys) k w e =
        slice_get_within xs k (get_or (y ∷ ys) k y) (e ∙ slice_get-get_or (y ∷ ys) k y w)
