-- How the outer edges change where edges and faces go: the two directions of each edge are the
-- sides of the faces and the outer edges.
-- Notions: edge_ends; total-permutation, total-append, total_full_edges, total_full_faces,
-- either_way, any_corner, total_lost_faces, outer_sum, total_edges, total_faces, ends_sum,
-- corners_sum.
use Rattle.std.proofs.Common.{◌≡◌, ◌*◌, ◌<◌, [], ◌∷◌, ◌++◌, ◌∙◌}
use Rattle.std.proofs.Common.{ℕ, zero, suc, List, length, set, get_or, refl, sym, ap, inl, inr}
use Rattle.std.proofs.Common.{arith}
use Rattle.std.specs.Prelude.{ℤ, ◌+ℤ◌}
use Rattle.std.specs.List.{AllZip, swap}
use Rattle.std.specs.List.Sorted.{IsPermutation}
use Rattle.std.proofs.lemmas.Bool.{cases_eq}
use Rattle.std.proofs.lemmas.Int.{ints}
use Rattle.std.proofs.lemmas.List.{length-map, length-set, get_or-set_same, get_or-set_other}
use Rattle.std.proofs.lemmas.List.Sorted.{IsPermutation-keeps}
use Rattle.half_edge_links.specs.{around, both_ways, Ends, ends, IsValidMesh, Mesh, outline, total}
use Rattle.half_edge_links.specs.{Flow.along, Triangle, triangle_at, triangles}
use Rattle.half_edge_links.proofs.{count_ends, Sound.Flow.sides_add_up}
use Rattle.half_edge_dcel.specs.{Connects, Contents, full_edges, full_edges_of, full_faces}
use Rattle.half_edge_dcel.specs.{full_faces_of, FullEdge, FullFace, HasCorners, IsMeshWithData}
use Rattle.half_edge_dcel.specs.{LosesEdges, LosesFaces}

-- ---- totals
module _ {X : Type 0} (f : X → ℤ) where
  total-set : (xs : List X) (i : ℕ) (y d : X) → i < length xs
      → total f (set xs i y) +ℤ f (get_or xs i d) ≡ total f xs +ℤ f y
  total-set [] i y d h = absurd (omega (arith, h))
  total-set (x ∷ xs) zero y d h = omega (arith, ints)
  total-set (x ∷ xs) (suc i) y d h = omega (arith, ints, total-set xs i y d (omega (arith, h)))

  total-swap : (l : List X) (i j : ℕ) → i < length l → j < length l
      → total f (swap l i j) ≡ total f l
  total-swap [] i j p q = absurd (omega (arith, p))
  total-swap (d ∷ ys) i j p q =
      let l : List X = d ∷ ys in
      let w : List X = set l i (get_or l j d) in
      let long = length-set l i (get_or l j d) in
      let there : get_or w j d ≡ get_or l j d = elim (cases_eq j i) [
        | inl e ↦ ap (λ n. get_or w n d) e ∙ get_or-set_same l i (get_or l j d) d p
        | inr n ↦ get_or-set_other l i j (get_or l j d) d n
      ] in
      let one = total-set l i (get_or l j d) d p in
      let two = total-set w j (get_or l i d) d (omega (arith, q, long)) in
      omega (arith, ints, two, one, ap f there)

  -- a list in another order has the same total
  pub total-permutation : (xs ys : List X) → IsPermutation xs ys → total f ys ≡ total f xs
  total-permutation xs ys = IsPermutation-keeps xs (λ l. total f l ≡ total f xs) refl
      (λ l i j p q h. total-swap l i j p q ∙ h) ys

  -- the total of two lists one after the other is the sum of theirs
  pub total-append : (xs ys : List X) → total f (xs ++ ys) ≡ total f xs +ℤ total f ys
  total-append [] ys = omega (arith, ints)
  total-append (x ∷ xs) ys = omega (arith, ints, total-append xs ys)

-- ---- edges and faces with their data
-- the ends of an edge with its data
abbrev pub edge_ends : {D U : Type 0} → FullEdge D U → Ends
edge_ends x = record { source = x.source; target = x.target }

module _ (f : ℕ → ℕ → ℤ) where
  -- the total over the edges with their data, in both directions, is that over their ends
  pub total_full_edges : {D U : Type 0} (es : List Ends) (us : List U) (ds : List D)
      → length us ≡ length es → length ds ≡ 2 * length es
      → total (λ (x : FullEdge D U). both_ways f (edge_ends x)) (full_edges_of es us ds)
      ≡ total (both_ways f) es
  total_full_edges [] us ds p q = refl
  total_full_edges (e ∷ es) [] ds p q = absurd (omega (arith, p))
  total_full_edges (e ∷ es) (u ∷ us) [] p q = absurd (omega (arith, q))
  total_full_edges (e ∷ es) (u ∷ us) (a ∷ []) p q = absurd (omega (arith, q))
  total_full_edges (e ∷ es) (u ∷ us) (a ∷ b ∷ ds) p q =
      ap (λ s. both_ways f e +ℤ s) (total_full_edges es us ds (omega (arith, p)) (omega (arith, q)))

  -- the total round the faces with their data is that round their corners
  pub total_full_faces : {F : Type 0} (ts : List Triangle) (fs : List F) → length fs ≡ length ts
      → total (λ (x : FullFace F). around f x.corners) (full_faces_of ts fs) ≡ total (around f) ts
  total_full_faces [] fs p = refl
  total_full_faces (t ∷ ts) [] p = absurd (omega (arith, p))
  total_full_faces (t ∷ ts) (y ∷ fs) p =
      ap (λ s. around f t +ℤ s) (total_full_faces ts fs (omega (arith, p)))

  -- an edge between two ends has the value of these ends in both directions
  pub either_way : {D U : Type 0} (x : FullEdge D U) (p : Ends) → Connects x p
      → both_ways f (edge_ends x) ≡ both_ways f p
  either_way x p (inl q) = λ i. f (q.0 i) (q.1 i) +ℤ f (q.1 i) (q.0 i)
  either_way x p (inr q) = (λ i. f (q.0 i) (q.1 i) +ℤ f (q.1 i) (q.0 i)) ∙ omega (arith, ints)

  -- a face has the value round its corners, whichever of them comes first
  pub any_corner : {F : Type 0} (x : FullFace F) (t : Triangle) → HasCorners x t
      → around f x.corners ≡ around f t
  any_corner x t (inl q) = ap (around f) q
  any_corner x t (inr (inl q)) = ap (around f) q ∙ omega (arith, ints)
  any_corner x t (inr (inr q)) = ap (around f) q ∙ omega (arith, ints)

  total_lost_edges : {D U : Type 0} (xs : List (FullEdge D U)) (ps : List Ends)
      → AllZip Connects xs ps → total (λ x. both_ways f (edge_ends x)) xs ≡ total (both_ways f) ps
  total_lost_edges [] [] z = refl
  total_lost_edges [] (p ∷ ps) z = absurd z
  total_lost_edges (x ∷ xs) [] z = absurd z
  total_lost_edges (x ∷ xs) (p ∷ ps) z = λ i. either_way x p z.0 i +ℤ total_lost_edges xs ps z.1 i

  -- faces with given corners have the total round these corners
  pub total_lost_faces : {F : Type 0} (xs : List (FullFace F)) (ts : List Triangle)
      → AllZip HasCorners xs ts → total (λ x. around f x.corners) xs ≡ total (around f) ts
  total_lost_faces [] [] z = refl
  total_lost_faces [] (t ∷ ts) z = absurd z
  total_lost_faces (x ∷ xs) [] z = absurd z
  total_lost_faces (x ∷ xs) (t ∷ ts) z = λ i. any_corner x t z.0 i +ℤ total_lost_faces xs ts z.1 i

  -- so the outer edges make up for the difference
  pub outer_sum : (m new : Mesh) → IsValidMesh m → IsValidMesh new
      → (gone_ends made_ends gone_faces made_faces : ℤ) → total (both_ways f) (ends new)
      +ℤ gone_ends ≡ total (both_ways f) (ends m) +ℤ made_ends → total (around f) (triangles new)
      +ℤ gone_faces ≡ total (around f) (triangles m) +ℤ made_faces → total (along f) (outline new)
      +ℤ (gone_ends +ℤ made_faces) ≡ total (along f) (outline m) +ℤ (made_ends +ℤ gone_faces)
  outer_sum m new v v' ge me gt mt a b =
      omega (arith, ints, sides_add_up m v f, sides_add_up new v' f, a, b)

-- the counts of the data, for sums
whole_ends : {V D U F : Type 0} (c : Contents V D U F) → IsMeshWithData c
    → (length c.undirected ≡ length (ends c.mesh)) × (length c.directed ≡ 2 * length (ends c.mesh))
whole_ends c w =
    let n = count_ends c.mesh w.valid.sound in
    (omega (arith, n, w.fits.undirected_fit), omega (arith, n, w.fits.directed_fit))

module _ {V D U F : Type 0} (f : ℕ → ℕ → ℤ) where
  -- the total over the edges of a mesh with its data is that over the ends
  pub total_edges : (c : Contents V D U F) → IsMeshWithData c
      → total (λ (x : FullEdge D U). both_ways f (edge_ends x)) (full_edges c)
      ≡ total (both_ways f) (ends c.mesh)
  total_edges c w = let fit = whole_ends c w in
      total_full_edges f (ends c.mesh) c.undirected c.directed fit.0 fit.1

  -- the total round the faces of a mesh with its data is that round the corners
  pub total_faces : (c : Contents V D U F) → IsMeshWithData c → total
      (λ (x : FullFace F). around f x.corners) (full_faces c) ≡ total (around f) (triangles c.mesh)
  total_faces c w = total_full_faces f (triangles c.mesh) c.faces
      (w.fits.faces_fit ∙ sym (length-map c.mesh.face_edges (triangle_at c.mesh)))

  -- edges that go
  pub ends_sum : (old new : Contents V D U F) (gone : List Ends) → IsMeshWithData old
      → IsMeshWithData new → LosesEdges old new gone → total (both_ways f) (ends old.mesh)
      ≡ total (both_ways f) gone +ℤ total (both_ways f) (ends new.mesh)
  ends_sum old new gone a b l =
      let g : FullEdge D U → ℤ = λ x. both_ways f (edge_ends x) in
      sym (total_edges old a) ∙ sym (total-permutation g _ _ l.2) ∙ total-append g l.0 _
      ∙ (λ i. total_lost_edges f l.0 gone l.1 i +ℤ total_edges new b i)

  -- faces that go
  pub corners_sum : (old new : Contents V D U F) (gone : List Triangle) → IsMeshWithData old
      → IsMeshWithData new → LosesFaces old new gone → total (around f) (triangles old.mesh)
      ≡ total (around f) gone +ℤ total (around f) (triangles new.mesh)
  corners_sum old new gone a b l =
      let g : FullFace F → ℤ = λ x. around f x.corners in
      sym (total_faces old a) ∙ sym (total-permutation g _ _ l.2) ∙ total-append g l.0 _
      ∙ (λ i. total_lost_faces f l.0 gone l.1 i +ℤ total_faces new b i)
