-- An edge that a segment meets in one point within it is crossed in one of its two directions.
-- Lemmas: crossed_either_way.
use Rattle.std.proofs.Common.{◌≡◌, ◌⊎◌, ℕ, inl, inr, arith}
use lib.IntN.{neg_ℤ}
use Rattle.std.specs.Prelude.{ℤ, pos, ◌<ℤ◌, ◌≤ℤ◌, ◌-ℤ◌, ◌*ℤ◌}
use Rattle.std.proofs.lemmas.Int.{ints}
use Rattle.plane.specs.{across, Fraction, IsEdge, IsSame, Meets, MeetsWithin, Triangulation, vertex}
use Rattle.plane.proofs.{AreOpposite, mul-nonneg_ℤ, mul-nonpos_of_nonneg_nonpos_ℤ, weak}
use Rattle.plane.proofs.Meetings.{AreParted, meets_within_is}
use Rattle.plane_theorems.proofs.{bracket, bracket-swapped, edge_flipped}
use Rattle.plane_theorems.proofs.Segments.Items.Begins.{met_if, rising, Signs}
use Rattle.plane_theorems.proofs.Segments.Items.Slopes.{slope}

not_rising : (f g pw qw : ℤ) → f ≤ℤ pos 0 → pos 0 ≤ℤ g → pos 0 <ℤ pw → pos 0 <ℤ qw
    → pos 0 <ℤ (f *ℤ pw -ℤ g *ℤ qw) → ⊥
not_rising f g pw qw hf hg hp hq h =
    let m = mul-nonpos_of_nonneg_nonpos_ℤ {a = pw} {b = f} (weak hp) hf in
    let c = lib.IntN.*ℤ_comm f pw in
    let n = mul-nonneg_ℤ {a = g} {b = qw} hg (weak hq) in
    omega (arith, ints)

turned_parted : (a b c d : ℤ) → c ≡ neg_ℤ a → d ≡ neg_ℤ b → AreParted a b → AreParted c d
turned_parted a b c d e f (inl h) =
    let x = h.0 in let y = h.1 in inr (omega (arith, ints), omega (arith, ints))
turned_parted a b c d e f (inr h) =
    let x = h.0 in let y = h.1 in inl (omega (arith, ints), omega (arith, ints))

module _ (p q : Fraction) where
  falls : (A B : Fraction) → bracket A B q ≤ℤ pos 0 → pos 0 ≤ℤ bracket A B p
      → pos 0 <ℤ slope A B p q → ⊥
  unfolding slope
  falls A B end start h =
      not_rising (bracket A B q) (bracket A B p) p.w q.w end start p.positive q.positive h

  signs : (A B : Fraction) → pos 0 <ℤ bracket p q A → bracket p q B <ℤ pos 0 →
      AreParted (bracket A B p) (bracket A B q) → Signs p q A B
  signs A B l r (inl d) = record { left = l; right = r; start = d.0; end = d.1 }
  signs A B l r (inr d) = absurd (falls A B d.1 d.0 (rising p q A B l r))

module _ (t : Triangulation) (p q : Fraction) (apart : ¬ IsSame p q) (i j : ℕ)
    (edge : IsEdge t i j) where
  abbrev A : Fraction
  A = vertex t i

  abbrev B : Fraction
  B = vertex t j

  parts : AreOpposite (bracket p q A) (bracket p q B) × AreParted (bracket A B p) (bracket A B q) →
      Meets t p q (across i j) ⊎ Meets t p q (across j i)
  parts (inr o, d) = inl (met_if t p q apart i j edge (signs p q A B o.0 o.1 d))
  parts (inl o, d) = inr (met_if t p q apart j i (edge_flipped t i j edge) (signs p q B A o.1 o.0
      (turned_parted (bracket A B p) (bracket A B q) (bracket B A p) (bracket B A q)
      (bracket-swapped A B p)
      (bracket-swapped A B q) d)))

  -- an edge that the segment meets in one point within it is crossed along one of its directions
  pub crossed_either_way : ¬ IsSame A B → MeetsWithin p q A B
      → Meets t p q (across i j) ⊎ Meets t p q (across j i)
  unfolding bracket
  crossed_either_way two m = parts ((meets_within_is p q A B apart two).0 m)
