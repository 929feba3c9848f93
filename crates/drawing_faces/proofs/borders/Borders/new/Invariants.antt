use Rattle.std.proofs.Common.{◌≡◌, [], ℕ, length, map}
use Rattle.drawing_faces.specs.{list_at}
use Rattle.drawing_faces.proofs.borders.Borders.new.Given as goal

abbrev pub invariant-loop : goal.invariant-loop
invariant-loop l = record {
  count : length l.lists.items ≡ l.counter;
  none : (e : ℕ) → list_at (map (λ v. v.items) l.lists.items) e ≡ [];
}
