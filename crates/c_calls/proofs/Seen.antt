-- Lines of sight over the faces that bytes hold to be free.
-- Lemmas: free_by_place, sight_same.
use Rattle.std.proofs.Common.{◌≡◌, ◌∙◌, ◌+◌, ◌-◌, ℕ, Bool, false, eqb, List, ap, subst, arith}
use Rattle.std.specs.Prelude.{IsTrue}
use Rattle.std.proofs.lemmas.Bool.{cond-false, ne_eqb}
use Rattle.{plane.specs.Fraction, plane.specs.Triangulation, plane_theorems.specs.IsInSight}
use Rattle.{c_calls.specs.is_free_face, c_calls.specs.is_marked, delaunay_shapes.specs.by_place}

-- by its place in the list of inner faces a face is free where its byte is not 0
pub free_by_place : (bytes : List ℕ) (n : ℕ) → by_place (is_free_face bytes) n ≡ is_marked bytes n
free_by_place bytes n =
    let one : (n + 1) - 1 ≡ n = omega arith in
    cond-false (eqb (n + 1) 0) false (is_marked bytes ((n + 1) - 1))
    (ne_eqb (n + 1) 0 (λ e. omega (arith, e))) ∙ ap (is_marked bytes) one

-- what is seen is so by any name of the free faces
pub sight_same : (t : Triangulation) (f g : ℕ → Bool) → ((n : ℕ) → f n ≡ g n)
    → (p q : Fraction) → IsInSight t f p q → IsInSight t g p q
sight_same t f g same p q seen r on = let is = seen r on in record {
  index = is.index;
  within = is.within;
  is_free = subst IsTrue (same is.index) is.is_free;
  inside = is.inside;
}
