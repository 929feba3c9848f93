-- Different faces that are sorted come strictly one before another.
-- Lemmas: sorted_rises.
use Rattle.std.proofs.Common.{◌≡◌, ◌≢◌, ◌+◌, ◌-◌, ◌<◌, ◌&&◌, ◌∙◌}
use Rattle.std.proofs.Common.{ℕ, zero, suc, Bool, false, eqb, List, length, get_or, ap, arith}
use Rattle.std.proofs.Common.{subst}
use Rattle.std.specs.Prelude.{AllPairs, IsPermutation, IsSorted, Decides}
use Rattle.std.specs.Ordering.{is_lt}
use Rattle.std.proofs.lemmas.Bool.{and_parts, and_from}
use Rattle.std.proofs.lemmas.Bool.Decides.{nat_tests, Decides-eqb}
use Rattle.std.proofs.lemmas.Map.Keys.{IsDistinct-IsPermutation}
use Rattle.std.proofs.lemmas.Map.Made.{AllPairs-from_IsDistinct, IsDistinct-from_AllPairs}
use Rattle.triangulate_run.specs.Corners.{ComesFirst, corners}
use Rattle.triangulate_run.specs.declared.corners.Corners.{Corners}
use Rattle.triangulate_run.specs.contracts.corners.CornersOrd.TheImpl as ord

before_if : (c d : Corners) → is_lt ((ord.ghosts).cmp d c) ≡ false → c ≢ d → ComesFirst c d
before_if c d e apart = grind (arith, nat_tests)

before_both : (b c d : Corners) → ComesFirst b c → ComesFirst c d → ComesFirst b d
before_both b c d h k = grind arith

same_if : (c d : Corners) → c.first ≡ d.first → c.second ≡ d.second → c.third ≡ d.third → c ≡ d
same_if c d e f g = ap (λ x. corners x c.second c.third) e ∙ ap (λ x. corners d.first x c.third) f
    ∙ ap (λ x. corners d.first d.second x) g

-- whether two faces have the same corners
abbrev same : Corners → Corners → Bool
same c d = eqb c.first d.first && (eqb c.second d.second && eqb c.third d.third)

same_decides : (c d : Corners) → Decides (same c d) (c ≡ d)
same_decides c d = (
  λ t. let p = and_parts (eqb c.first d.first) (eqb c.second d.second && eqb c.third d.third) t in
      let q = and_parts (eqb c.second d.second) (eqb c.third d.third) p.1 in
      same_if c d ((Decides-eqb c.first d.first).0 p.0) ((Decides-eqb c.second d.second).0 q.0)
      ((Decides-eqb c.third d.third).0 q.1),
  λ e. and_from (eqb c.first d.first) (eqb c.second d.second && eqb c.third d.third)
      ((Decides-eqb c.first d.first).1 (ap (λ f. f.first) e))
      (and_from (eqb c.second d.second) (eqb c.third d.third) ((Decides-eqb c.second d.second).1
      (ap (λ f. f.second) e)) ((Decides-eqb c.third d.third).1 (ap (λ f. f.third) e))),
)

same_flips : (c d : Corners) → same c d ≡ same d c
same_flips c d = grind (arith, nat_tests)

-- faces that differ still do in another order
differ_moved : (old new : List Corners) → IsPermutation old new → AllPairs (λ c d. c ≢ d) old
    → AllPairs (λ c d. c ≢ d) new
differ_moved old new moved h =
    AllPairs-from_IsDistinct same_decides new (IsDistinct-IsPermutation same same_flips old new
    moved (IsDistinct-from_AllPairs same_decides old h))

module _ (list : List Corners) (apart : AllPairs (λ c d. c ≢ d) list)
    (up : IsSorted ((ord.ghosts).cmp) list) where
  -- each face comes before the next one
  next : (k : ℕ) (d : Corners) → k + 1 < length list
      → ComesFirst (get_or list k d) (get_or list (k + 1) d)
  next k d h = before_if (get_or list k d) (get_or list (k + 1) d) (up k d (omega arith) h)
      (apart k (k + 1) d (omega arith) h)

  -- and before each later one
  far : (i m : ℕ) (d : Corners) → i + m + 1 < length list
      → ComesFirst (get_or list i d) (get_or list (i + m + 1) d)
  far i zero d h = subst (λ (n : ℕ). ComesFirst (get_or list i d) (get_or list n d)) {x = i + 1}
      {y = i + zero + 1} (omega arith) (next i d (omega arith))
  far i (suc m) d h = subst (λ (n : ℕ). ComesFirst (get_or list i d) (get_or list n d))
      {x = i + m + 1 + 1} {y = i + suc m + 1} (omega arith)
      (before_both (get_or list i d) (get_or list (i + m + 1) d) (get_or list (i + m + 1 + 1) d)
      (far i m d (omega arith)) (next (i + m + 1) d (omega arith)))

  rises : AllPairs ComesFirst list
  rises i j d h k = subst (λ (n : ℕ). ComesFirst (get_or list i d) (get_or list n d))
      {x = i + (j - (i + 1)) + 1} {y = j} (omega arith) (far i (j - (i + 1)) d (omega arith))

-- faces that differ come strictly one before another once a sort has put them in order
pub sorted_rises : (old new : List Corners) → IsPermutation old new
    → IsSorted ((ord.ghosts).cmp) new → AllPairs (λ c d. c ≢ d) old → AllPairs ComesFirst new
sorted_rises old new moved up apart = rises new (differ_moved old new moved apart) up
