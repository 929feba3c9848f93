-- From an item that a segment meets to the next.
use Rattle.std.specs.Prelude.{◌⊎◌, List, [], ◌∷◌}
use Rattle.plane.specs.{Fraction, IsBefore, Item, Meets, OnSegment, Triangulation}

-- of the items that the segment from p to q meets, n comes next after m
pub record ComesNext (t : Triangulation) (p q : Fraction) (m n : Item) : Type 0 where
  pub met : Meets t p q n
  pub after : IsBefore t p q m n
  pub none_between : (k : Item) → Meets t p q k → IsBefore t p q m k → ¬ IsBefore t p q k n

-- and none comes after m
pub record IsLast (t : Triangulation) (p q : Fraction) (m : Item) : Type 0 where
  pub none_after : (k : Item) → Meets t p q k → ¬ IsBefore t p q m k

-- n comes first
pub record IsFirst (t : Triangulation) (p q : Fraction) (n : Item) : Type 0 where
  pub met : Meets t p q n
  pub none_before : (k : Item) → Meets t p q k → ¬ IsBefore t p q k n

-- b is on the way from v to q, or q on the way from v to b
abbrev pub IsAhead : Fraction → Fraction → Fraction → Type 0
IsAhead v b q = OnSegment v b q ⊎ OnSegment v q b

-- from m on each of the items comes next after the one before it, and none after the last
abbrev pub GoesOn : Triangulation → Fraction → Fraction → Item → List Item → Type 0
GoesOn t p q m [] = IsLast t p q m
GoesOn t p q m (n ∷ ns) = ComesNext t p q m n × GoesOn t p q n ns

-- a walk from the first item to the last
abbrev pub IsWalk : Triangulation → Fraction → Fraction → List Item → Type 0
IsWalk t p q [] = (m : Item) → ¬ Meets t p q m
IsWalk t p q (m ∷ ms) = IsFirst t p q m × GoesOn t p q m ms
