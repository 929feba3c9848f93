-- The elements that iterators give.
-- Lemmas: gives_all, row_inner.
use Rattle.std.proofs.Common.{◌≡◌, ℕ, ◌<◌, ◌≤◌, List, All, ap, arith}
use Rattle.std.specs.List.{range_with_len}
use Rattle.std.specs.Borrow.{Bor}
use Rattle.std.proofs.lemmas.List.FromFn.{length-range_with_len, get_or-range_with_len}
use Rattle.half_edge_dcel.specs.{Contents, each_in}
use Rattle.{delaunay_edit.specs.GivesElements, delaunay_legalization.specs.state_of}
use Rattle.{delaunay_edit.proofs.Counts.gives_elements, delaunay_legalization.specs.State.State}

-- indexes in a row from 1 on are those of inner faces
pub row_inner : (n : ℕ) (xs : List ℕ) → xs ≡ range_with_len 1 n → All (λ i. (0 < i) × (i ≤ n)) xs
row_inner n xs is = rw is (λ k d lt.
    let at = get_or-range_with_len 1 n k d (omega (arith, length-range_with_len 1 n)) in
    (omega (arith, at), omega (arith, at, length-range_with_len 1 n)))

-- so many elements of a mesh, as its state counts them, are those of the triangulation
pub gives_all : {V D U F : Type 0} {s : State V D U F} {first : ℕ}
    {given : List (Bor (Contents V D U F) × ℕ)} (mesh : Bor (Contents V D U F))
    (count : State V D U F → ℕ)
    → given ≡ each_in mesh (range_with_len first (count (state_of mesh.now)))
    → state_of mesh.now ≡ s → GivesElements s first (count s) given
gives_all {s = s} {first = first} {given = given} mesh count all same =
    gives_elements s mesh first (count (state_of mesh.now)) (count s) given all same (ap count same)
