-- What a search for what is in a shape has, by its value, and the edges that its flood has found.
-- Lemmas: search_of, place_in, found_in.
use Rattle.std.proofs.Common.{◌≡◌, ◌<◌, ℕ, List, length, get_or, subst, arith}
use Rattle.std.specs.Prelude.{vec_len}
use Rattle.{delaunay_legalization.specs.IsTriangulated, plane.specs.Fraction, plane.specs.Point}
use Rattle.{delaunay_legalization.specs.State.State, delaunay_shapes.proofs.Spreading.found_within}
use Rattle.delaunay_shapes.specs.{declared.flood.EdgeFlood.EdgeFlood, IsFlooding, undirected_of}
use Rattle.delaunay_shapes.specs.Enclosing.{Enclosing, IsShapeSearch}

-- what holds of the fields of a search holds of its value
pub search_of : {V D U F M P : Type 0} {at : V → Point} {own : M → List Point}
    {Shape : M → Fraction → Type 0} {IsCovered : P → Point → Type 0}
    {fields value : Enclosing V D U F M P} → fields ≡ value
    → IsShapeSearch at own Shape IsCovered fields.dcel fields.metric fields.tests fields.start
    → IsShapeSearch at own Shape IsCovered value.dcel value.metric value.tests value.start
search_of {V = V} {D = D} {U = U} {F = F} {M = M} {P = P} {at = at} {own = own} {Shape = Shape}
    {IsCovered = IsCovered} same search =
    subst (λ (s : Enclosing V D U F M P). IsShapeSearch at own Shape IsCovered s.dcel s.metric
    s.tests s.start) same search

-- a place below the count is one of those found
pub place_in : (f : EdgeFlood) {i n : ℕ} → i < n → n ≡ vec_len f.found → i < length f.found.items
place_in f less is = let ok = f.found.ok in omega (arith, less, is, ok)

-- and there is an edge of the mesh
pub found_in : {V D U F : Type 0} {at : V → Point} {t : State V D U F} {Inside : ℕ → Type 0}
    {i e : ℕ} (f : EdgeFlood) → IsTriangulated at t
    → IsFlooding Inside (length t.undirected) f.asked (undirected_of f.found.items)
    → i < length f.found.items → e ≡ get_or f.found.items i e → e < length t.directed
found_in {t = t} {Inside = Inside} {i = i} {e = e} f kept flooding here read =
    let below = found_within Inside t.mesh kept.valid (length t.undirected)
    kept.fits.undirected_fit f.asked f.found.items i e flooding here in
    let fit = kept.fits.directed_fit in
    omega (arith, below, fit, read)
