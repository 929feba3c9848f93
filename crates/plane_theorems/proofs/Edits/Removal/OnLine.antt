-- A vertex of a line goes: past its only neighbour, or from between two, which are joined.
-- Notions: but_turned; side_of, joined, found, joins; middle_left, end_left.
use Rattle.std.proofs.Common.{◌≡◌, ◌⊎◌, ◌<◌, [], ◌∷◌, ℕ, List, length, refl, sym, ap, arith}
use mathlib.Core.Logic.{inl, inr, ◌≢◌}
use Rattle.std.specs.Prelude.{ℤ, ◌<ℤ◌, neg_ℤ, Contains}
use Rattle.std.proofs.lemmas.Int.{ints}
use Rattle.std.proofs.lemmas.Bool.{cases_eq}
use Rattle.plane.specs.{IsSamePair, Point, whole, WithinSegment}
use Rattle.plane.proofs.{at_most_both_ways, below_and_not_below, bracket-outer, less_through}
use Rattle.plane.proofs.{less_twice_is_not_same, lt_or_ge_ℤ, same_if_neither_less}
use Rattle.plane_theorems.specs.{AreNeighboursBut, LineMesh, LineMeshWithout, OuterChange}
use Rattle.plane_theorems.specs.Edits.RemovalLaws.{EndOfLineGoes, MiddleOfLineGoes}
use Rattle.plane_theorems.proofs.{Edits.Insertion.FromLine.places_back, Tiling.Totals.Contains-none}
use Rattle.plane_theorems.proofs.Edits.LocalMesh.Changes.{IsOnce, of_each}
use Rattle.plane_theorems.proofs.Tiling.Counting.{at, within_turned}
use Rattle.plane_theorems.proofs.Tiling.Line.{Adjoin, back_way, next_turned, SignLine}
use Rattle.plane_theorems.proofs.{Tiling.LineMeshes.line_by_signs, Tiling.Tiles.point_at}
use Rattle.plane_theorems.proofs.Tiling.LinePlaces as O

-- with no vertex between but perhaps v, from the other end
but_turned : (v : ℕ) (points : List Point) (i j : ℕ) → AreNeighboursBut v points i j
    → AreNeighboursBut v points j i
but_turned v points i j s = record {
  apart = λ e. s.apart (sym e);
  first = s.second;
  second = s.first;
  none_between = λ k o w. s.none_between k o (within_turned _ _ _ w);
}

swap_either : {A B : Type 0} → A ⊎ B → B ⊎ A
swap_either (inl a) = inr a
swap_either (inr b) = inl b

module _ (points : List Point) (outer : List (ℕ × ℕ)) (mesh : LineMesh points outer) (v i : ℕ)
    (edge : Contains outer (v, i)) where
  abbrev n : ℕ
  n = length points

  abbrev p : ℕ → Point
  p = point_at points

  abbrev m : SignLine (length points) (point_at points) outer
  m = line_by_signs points outer mesh

  next_of : (a b : ℕ) → Contains outer (a, b) → Adjoin n p a b
  next_of a b h = (m.neighbours a b).0 h

  -- v and i are neighbours on the line
  own : Adjoin n p v i
  own = next_of v i edge

  -- places along the line from v to i
  spot : ℕ → ℤ
  spot = O.spot n p outer m (whole (p v)) v i own.first own.second own.apart
      (bracket-outer (at p v) (at p i))

  places : O.ArePlaces n p spot
  unfolding spot
  places = O.places n p _ m _ v i own.first own.second own.apart (bracket-outer _ _)

  -- no vertex lies between neighbours
  between : (i j k : ℕ) → Adjoin n p i j → k < n → spot i <ℤ spot k → spot k <ℤ spot j → ⊥
  between = O.none_between_places n p spot places

  -- neighbours of v on one side of it are one
  both_below : (a b : ℕ) → Adjoin n p v a → Adjoin n p v b → spot a <ℤ spot v
      → spot b <ℤ spot v → a ≡ b
  both_below a b f g x y = places.same a b f.second g.second (same_if_neither_less _ _
      (λ l. between a v b (next_turned n p v a f) g.second l y)
      (λ l. between b v a (next_turned n p v b g) f.second l x))

  both_above : (a b : ℕ) → Adjoin n p v a → Adjoin n p v b → spot v <ℤ spot a
      → spot v <ℤ spot b → a ≡ b
  both_above a b f g x y = places.same a b f.second g.second (same_if_neither_less _ _
      (λ l. between v b a g f.second x l) (λ l. between v a b f g.second y l))

  side_of : (a : ℕ) → a < n → a ≢ v → (spot a <ℤ spot v) ⊎ (spot v <ℤ spot a)
  side_of a h ne = elim (lt_or_ge_ℤ _ _) [
    | inl l ↦ inl l
    | inr l ↦ elim (lt_or_ge_ℤ _ _) [
      | inl k ↦ inr k
      | inr k ↦ absurd (ne (places.same a v h own.first (at_most_both_ways _ _ k l)))
    ]
  ]

  -- what is next to one another but for v, with v not between, was so before
  was_next : (a b : ℕ) → AreNeighboursBut v points a b
      → ¬ WithinSegment (whole (p a)) (whole (p b)) (whole (p v)) → Adjoin n p a b
  was_next a b s away = record {
    apart = s.apart;
    first = s.first.0;
    second = s.second.0;
    none_between = λ k h w. elim (cases_eq k v) [
      | inl e ↦ away (rw e at w)
      | inr q ↦ s.none_between k (h, q) w
    ];
  }

  is_next : (a b : ℕ) → Adjoin n p a b → a ≢ v → b ≢ v → AreNeighboursBut v points a b
  is_next a b s x y = record {
    apart = s.apart;
    first = (s.first, x);
    second = (s.second, y);
    none_between = λ k o. s.none_between k o.0;
  }

  -- the others are a line, where its edges join what has none but v between
  line_left : (now : List (ℕ × ℕ)) → IsOnce now → ((a b : ℕ) → Contains now (a, b)
      → AreNeighboursBut v points a b) → ((a b : ℕ) → AreNeighboursBut v points a b → Contains now
      (a, b)) → LineMeshWithout v points now
  line_left now once there back = record {
    distinct = λ a b h k. mesh.distinct a b h.0 k.0;
    straight = λ a b c h k l. mesh.straight a b c h.0 k.0 l.0;
    neighbours = λ a b. (there a b, back a b);
    once = once;
  }

  -- ---- v is between i and j
  module _ (j : ℕ) (other : Contains outer (v, j)) (i_not_j : i ≢ j) where
    -- v and j are neighbours on the line
    far : Adjoin n p v j
    far = next_of v j other

    -- i below v and j above it, or the other way round
    module _ (low high : ℕ) (low_next : Adjoin n p v low) (high_next : Adjoin n p v high)
        (below : spot low <ℤ spot v) (above : spot v <ℤ spot high) where
      joined : AreNeighboursBut v points low high
      joined = record {
        apart = λ e. less_twice_is_not_same _ _ _ below above (ap spot e);
        first = (low_next.second, λ e. low_next.apart (sym e));
        second = (high_next.second, λ e. high_next.apart (sym e));
        none_between = λ k o w. none k o.0 o.1 (places.order low high k w);
      }
        where
          none : (k : ℕ) → k < n → k ≢ v → ((spot low <ℤ spot k) × (spot k <ℤ spot high))
              ⊎ (((spot high <ℤ spot k) × (spot k <ℤ spot low))
              ⊎ ((spot low ≡ spot k) × (spot k ≡ spot high))) → ⊥
          none k h q (inl o) = elim (side_of k h q) [
            | inl l ↦ between low v k (next_turned n p v low low_next) h o.0 l
            | inr l ↦ between v high k high_next h l o.1
          ]
          none k h q (inr (inl o)) = let c = o.0 in let d = o.1 in omega (arith, ints)
          none k h q (inr (inr o)) = let c = o.0 in let d = o.1 in omega (arith, ints)

      -- with v between a and b, they are these two
      ends_are : (a b : ℕ) → AreNeighboursBut v points a b → spot a <ℤ spot v → spot v <ℤ spot b
          → (a ≡ low) × (b ≡ high)
      ends_are a b s x y = (
        places.same a low s.first.0 low_next.second (same_if_neither_less _ _
            (λ l. s.none_between low (low_next.second, λ e. low_next.apart (sym e))
            (places.within a b low s.first.0 s.second.0 low_next.second l
            (less_through _ _ _ below y)))
            (λ l. between low v a (next_turned n p v low low_next) s.first.0 l x)),
        places.same b high s.second.0 high_next.second (same_if_neither_less _ _
            (λ l. between v high b high_next s.second.0 y l)
            (λ l. s.none_between high (high_next.second, λ e. high_next.apart (sym e))
            (places.within a b high s.first.0 s.second.0 high_next.second
            (less_through _ _ _ x above) l))),
      )

      found : (a b : ℕ) → AreNeighboursBut v points a b
          → Contains outer (a, b) ⊎ IsSamePair a b low high
      found a b s = go (side_of a s.first.0 s.first.1) (side_of b s.second.0 s.second.1)
        where
          beside : ¬ WithinSegment (whole (p a)) (whole (p b)) (whole (p v)) → Contains outer (a, b)
          beside away = (m.neighbours a b).1 (was_next a b s away)

          go : (spot a <ℤ spot v) ⊎ (spot v <ℤ spot a) → (spot b <ℤ spot v) ⊎ (spot v <ℤ spot b)
              → Contains outer (a, b) ⊎ IsSamePair a b low high
          go (inl x) (inl y) =
              inl (beside (λ w. let o = places.order a b v w in omega (arith, ints)))
          go (inl x) (inr y) = inr (inl (ends_are a b s x y))
          go (inr x) (inl y) =
              let e = ends_are b a (but_turned v _ a b s) y x in inr (inr (e.1, e.0))
          go (inr x) (inr y) =
              inl (beside (λ w. let o = places.order a b v w in omega (arith, ints)))

      -- v has no third neighbour
      no_third : (b : ℕ) → Adjoin n p v b → (b ≡ low) ⊎ (b ≡ high)
      no_third b f = elim (side_of b f.second (λ e. f.apart (sym e))) [
        | inl l ↦ inl (both_below b low f low_next l below)
        | inr l ↦ inr (both_above b high f high_next l above)
      ]

    -- i and j are joined; v has no other neighbour; what is joined now was so, or is i and j
    joins : AreNeighboursBut v points i j × ((b : ℕ) → Adjoin n p v b → (b ≡ i) ⊎ (b ≡ j))
        × ((a b : ℕ) → AreNeighboursBut v points a b → Contains outer (a, b) ⊎ IsSamePair a b i j)
    joins = go (side_of i own.second (λ e. own.apart (sym e)))
        (side_of j far.second (λ e. far.apart (sym e)))
      where
        go : (spot i <ℤ spot v) ⊎ (spot v <ℤ spot i) → (spot j <ℤ spot v) ⊎ (spot v <ℤ spot j)
            → AreNeighboursBut v points i j × ((b : ℕ) → Adjoin n p v b → (b ≡ i) ⊎ (b ≡ j)) ×
            ((a b : ℕ) → AreNeighboursBut v points a b → Contains outer (a, b) ⊎ IsSamePair a b i j)
        go (inl x) (inl y) = absurd (i_not_j (both_below i j own far x y))
        go (inr x) (inr y) = absurd (i_not_j (both_above i j own far x y))
        go (inl x) (inr y) =
            (joined i j own far x y, no_third i j own far x y, found i j own far x y)
        go (inr x) (inl y) = (
          but_turned v _ j i (joined j i far own y x),
          λ b f. swap_either (no_third j i far own y x b f),
          λ a b s. elim (found j i far own y x a b s) [
            | inl h ↦ inl h
            | inr r ↦ inr (swap_either r)
          ],
        )

    abbrev four_gone : List (ℕ × ℕ)
    four_gone = (v, i) ∷ (i, v) ∷ (v, j) ∷ (j, v) ∷ []

    both_gone : (b : ℕ) → (b ≡ i) ⊎ (b ≡ j) → Contains four_gone (v, b) × Contains four_gone (b, v)
    both_gone b (inl e) =
        ((0, omega arith, ap (λ o. (v, o)) (sym e)), (1, omega arith, ap (λ o. (o, v)) (sym e)))
    both_gone b (inr e) =
        ((2, omega arith, ap (λ o. (v, o)) (sym e)), (3, omega arith, ap (λ o. (o, v)) (sym e)))

    middle_left : (now : List (ℕ × ℕ)) → OuterChange outer now four_gone ((i, j) ∷ (j, i) ∷ [])
        → LineMeshWithout v points now
    middle_left now change = line_left _ change.once there back
      where
        there : (a b : ℕ) → Contains now (a, b) → AreNeighboursBut v points a b
        there a b h = elim (change.only a b h) [
          | inl o ↦ is_next a b (next_of a b o.0) (λ e. o.1
              (rw e (both_gone b (joins.1 b (rw e at (next_of a b o.0)))).0))
              (λ e. o.1 (rw e (both_gone a (joins.1 a (next_turned n p a v
              (rw e at (next_of a b o.0))))).1))
          | inr o ↦ of_each (λ e. AreNeighboursBut v points e.0 e.1) ((i, j) ∷ (j, i) ∷ [])
              (joins.0, (but_turned v _ i j joins.0, tt)) (a, b) o
        ]

        at_v : (a b : ℕ) → Contains four_gone (a, b) → (a ≡ v) ⊎ (b ≡ v)
        at_v a b h = of_each (λ e. (e.0 ≡ v) ⊎ (e.1 ≡ v)) four_gone
            (inl refl, (inr refl, (inl refl, (inr refl, tt)))) (a, b) h

        back : (a b : ℕ) → AreNeighboursBut v points a b → Contains now (a, b)
        back a b s = elim (joins.2 a b s) [
          | inl h ↦ change.kept a b h
              (λ g. elim (at_v a b g) [ inl e ↦ s.first.1 e | inr e ↦ s.second.1 e ])
          | inr r ↦ change.come a b (elim r [
            | inl e ↦ (0, omega arith, λ o. (sym e.0 o, sym e.1 o))
            | inr e ↦ (1, omega arith, λ o. (sym e.0 o, sym e.1 o))
          ])
        ]

  -- ---- past its only neighbour i
  module _ (alone : (j : ℕ) → Contains outer (v, j) → j ≡ i) where
    -- one before v, along the line or back: i is
    i_before : (f : ℕ → ℤ) → O.ArePlaces n p f → (k : ℕ) → k < n → f k <ℤ f v → f i <ℤ f v
    i_before f q k h l = elim (O.nearest_below f n (f v)) [
      | inl s ↦ rw (alone s.0 (O.next_below n p _ m f q v own.first s.0 s.1)) at s.1.below
      | inr none ↦ absurd (below_and_not_below (f k) (f v) l (none k h))
    ]

    -- so v is not strictly between two others
    at_end : (a b : ℕ) → a < n → b < n → a ≢ v
        → ¬ WithinSegment (whole (p a)) (whole (p b)) (whole (p v))
    at_end a b ha hb na w = elim (places.order a b v w) [
      | inl o ↦ both a b ha hb o.0 o.1
      | inr r ↦
          elim r [ inl o ↦ both b a hb ha o.0 o.1 | inr o ↦ na (places.same a v ha own.first o.0) ]
    ]
      where
        both : (a b : ℕ) → a < n → b < n → spot a <ℤ spot v → spot v <ℤ spot b → ⊥
        both a b ha hb x y = let before = i_before spot places a ha x in
            let after = i_before (λ k. neg_ℤ (spot k)) (places_back n p spot places) b hb
            (omega (arith, ints)) in omega (arith, ints)

    abbrev two_gone : List (ℕ × ℕ)
    two_gone = (v, i) ∷ (i, v) ∷ []

    end_left : (now : List (ℕ × ℕ)) → OuterChange outer now two_gone []
        → LineMeshWithout v points now
    end_left now change = line_left _ change.once there
        (λ a b s. change.kept a b ((m.neighbours a b).1
        (was_next a b s (at_end a b s.first.0 s.second.0 s.first.1)))
        (λ g. elim (of_each (λ e. (e.0 ≡ v) ⊎ (e.1 ≡ v)) two_gone (inl refl, (inr refl, tt)) (a, b)
        g) [ inl e ↦ s.first.1 e | inr e ↦ s.second.1 e ]))
      where
        there : (a b : ℕ) → Contains now (a, b) → AreNeighboursBut v points a b
        there a b h = elim (change.only a b h) [
          | inl o ↦ is_next a b (next_of a b o.0) (λ e. o.1 (
            0,
            omega arith,
            λ t. (sym e t, sym (alone b (rw e at o.0)) t),
          )) (λ e. o.1 (
            1,
            omega arith,
            λ t. (sym (alone a (back_way n p _ m a v (rw e at o.0))) t, sym e t),
          ))
          | inr o ↦ absurd (Contains-none (a, b) o)
        ]

-- a vertex with one neighbour goes from a line, and the others are a line
pub end_of_line_goes : EndOfLineGoes
end_of_line_goes points outer now v i m edge alone change = end_left _ _ m v i edge alone _ change

-- a vertex goes from between its two neighbours, which are joined
pub middle_of_line_goes : MiddleOfLineGoes
middle_of_line_goes points outer now v i j m edge other apart change =
    middle_left _ _ m v i edge j other apart _ change
