-- Both directions of each edge of a mesh are the sides of its faces and its outer edges, as sums
-- over the plane's lists.
-- own_edges: the edges of a valid mesh are `AreEdgesOf` its faces and outer edges
-- total-read, total-map: the sum of f over the values of g is the sum of f after g, by either
--   `total`
use Rattle.std.proofs.Common.{◌≡◌, List, [], ◌∷◌, map, refl, sym, ◌∙◌}
use Rattle.std.specs.Prelude.{ℤ, ◌+ℤ◌}
use Rattle.half_edge_links.specs.{ends, IsValidMesh, Mesh, outline, triangles}
use Rattle.half_edge_links.proofs.{Lists.Sums.same_sum, Sound.Flow.sides_add_up}
use Rattle.plane_theorems.specs.{along, AreEdgesOf, around, total}
use Rattle.delaunay_legalization.specs.{corners_of, edges_of, faces_of, outer_of, pair_of}
use Rattle.half_edge_links.specs.Flow as F

-- the sum over a list that was read anew
pub total-read : {X Y : Type 0} (f : Y → ℤ) (g : X → Y) (xs : List X)
    → total f (map g xs) ≡ F.total (λ x. f (g x)) xs
total-read f g [] = refl
total-read f g (x ∷ xs) =
    same_sum (f (g x)) (f (g x)) (total f (map g xs)) (F.total (λ y. f (g y)) xs) refl
    (total-read f g xs)

-- a sum of f over the values of g is the sum of f after g
pub total-map : {X Y : Type 0} (f : Y → ℤ) (g : X → Y) (xs : List X)
    → total f (map g xs) ≡ total (λ x. f (g x)) xs
total-map f g [] = refl
total-map f g (x ∷ xs) =
    same_sum (f (g x)) (f (g x)) (total f (map g xs)) (total (λ y. f (g y)) xs) refl
    (total-map f g xs)

-- the two ways of each edge are the sides of faces and the outer edges
pub own_edges : (m : Mesh) → IsValidMesh m → AreEdgesOf (faces_of m) (outer_of m) (edges_of m)
own_edges m v f =
    total-read (λ e. f e.0 e.1 +ℤ f e.1 e.0) pair_of (ends m)
    ∙ sides_add_up m v f
    ∙ sym (same_sum (total (around f) (faces_of m)) (F.total (F.around f) (triangles m))
    (total (along f) (outer_of m))
    (F.total (F.along f) (outline m)) (total-read (around f) corners_of (triangles m))
    (total-read (along f) pair_of (outline m)))
