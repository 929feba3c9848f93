-- How many constraints there are after an edit of a plain state.
-- Lemmas: released_number, added_number, removed_number, free_number, split_number.
use Rattle.std.proofs.Common.{◌≡◌, ◌≢◌, ◌⊎◌, ◌↔◌, ◌+◌, ◌-◌, ◌<◌, ◌∙◌}
use Rattle.std.proofs.Common.{ℕ, suc, Bool, length, refl, sym, ap, subst, inl, inr, arith}
use Rattle.std.specs.Prelude.{nat_eq, cond}
use Rattle.std.proofs.lemmas.Bool.{cases_eq}
use Rattle.std.proofs.lemmas.Bool.Decides.{eqb_tells}
use Rattle.plane.specs.{Adds, AreNeighboursOn, Carries, EachPairOnce, IsHalf, IsPlain, IsSamePair}
use Rattle.plane.specs.{Joins, place, Plain, Point, points_of, Releases, TakesOut, whole}
use Rattle.plane.proofs.{pair_turned, same_joined}
use Rattle.plane_theorems.proofs.{joins_or_not, turned_within}
use Rattle.delaunay_edit.specs.{EndsAt, HasPairs}
use Rattle.delaunay_edit.proofs.PairCounts.{both, listed_pairs, one_more, renamed, same_number}
use Rattle.delaunay_edit.proofs.Releasing.{same_pair_or_not}

module _ {V : Type 0} (position : V → Point) (old new : Plain V)
    (was : EachPairOnce old.constraints) (now : EachPairOnce new.constraints) where
  -- a constraint that is released is one fewer
  pub released_number : (i j : ℕ) → Releases position old new i j →
      length old.constraints ≡ suc (length new.constraints)
  released_number i j r = same_number (listed_pairs old.constraints was)
      (one_more (listed_pairs new.constraints now) i j
      (λ h. ((r.constraints i j).0 h).1 (inl (refl, refl)))) (λ a b. (
        (λ h. elim (same_pair_or_not a b i j)
            [ inl s ↦ inr s | inr n ↦ inl ((r.constraints a b).1 (h, n)) ]),
        (λ x. elim x [
          | inl h ↦ ((r.constraints a b).0 h).0
          | inr s ↦ same_joined old.constraints a b i j s r.there
        ]),
      ))

  -- each subconstraint of a path that was none is one more
  pub added_number : (i j k : ℕ) → Adds position old new i j
      → HasPairs (λ a b. AreNeighboursOn position (points_of position old) i j a b
      × ¬ Joins old.constraints a b) k → length new.constraints ≡ k + length old.constraints
  added_number i j k adds missing = same_number (listed_pairs new.constraints now)
      (both (listed_pairs old.constraints was) missing (λ a b m. m.1)) (λ a b. (
        (λ h. elim ((adds.constraints a b).0 h) [
          | inl o ↦ inl o
          | inr n ↦ elim (joins_or_not old.constraints a b) [ inl o ↦ inl o | inr f ↦ inr (n, f) ]
        ]),
        (λ x. (adds.constraints a b).1 (elim x [ inl o ↦ inl o | inr m ↦ inr m.0 ])),
      ))

  -- those that end at a vertex go with it
  module _ (v k : ℕ) (plain : IsPlain position old) (removes : TakesOut position old new v)
      (ending : HasPairs (EndsAt old.constraints v) k) where
    abbrev last : ℕ
    last = length old.vertices - 1

    abbrev former : ℕ → ℕ
    former x = cond (nat_eq x v) last x

    former_cases : (x : ℕ) → ((x ≡ v) × (former x ≡ last)) ⊎ ((x ≢ v) × (former x ≡ x))
    former_cases x = elim (eqb_tells x v) [
      | inl t ↦ inl (t.1, ap (λ (b : Bool). cond b last x) t.0)
      | inr f ↦ inr (f.1, ap (λ (b : Bool). cond b last x) f.0)
    ]

    now_below : (a b : ℕ) → Joins new.constraints a b → (a < last) × (b < last)
    now_below a b h = let r = (removes.constraints a b).0 h in (r.0, r.1)

    keeps : (a b c d : ℕ) → Joins new.constraints a b → Joins new.constraints c d
        → former a ≡ former c → a ≡ c
    keeps a b c d h k e =
        go (former_cases a) (former_cases c) (now_below a b h).0 (now_below c d k).0
      where
        below : (x y : ℕ) → x ≡ y → y < x → ⊥
        below x y s m = omega (arith, s, m)

        go : ((a ≡ v) × (former a ≡ last)) ⊎ ((a ≢ v) × (former a ≡ a))
            → ((c ≡ v) × (former c ≡ last)) ⊎ ((c ≢ v) × (former c ≡ c)) → a < last
            → c < last → a ≡ c
        go (inl p) (inl q) l m = p.0 ∙ sym q.0
        go (inl p) (inr q) l m = absurd (below last c (sym p.1 ∙ e ∙ q.1) m)
        go (inr p) (inl q) l m = absurd (below last a (sym q.1 ∙ sym e ∙ p.1) l)
        go (inr p) (inr q) l m = sym p.1 ∙ e ∙ q.1

    -- no former index is that of the vertex
    not_there : (x : ℕ) → x < last → former x ≢ v
    not_there x l e = elim (former_cases x) as (λ _. ⊥) [
      | inl p ↦ same (sym p.0 ∙ refl) (sym p.1 ∙ e) l
      | inr p ↦ p.0 (sym p.1 ∙ e)
    ]
      where
        same : v ≡ x → last ≡ v → x < last → ⊥
        same s t m = omega (arith, s, t, m)

    index_now : (a : ℕ) → a < length old.vertices → a ≢ v → (x : ℕ) × (x < last) × (former x ≡ a)
    index_now a h n = go (cases_eq a last)
      where
        at_last : v < length old.vertices → a ≡ last → a ≢ v → v < last
        at_last w e m = omega (arith, w, e, m)

        before : a < length old.vertices → a ≢ last → a < last
        before w m = omega (arith, w, m)

        freed : ((v ≡ v) × (former v ≡ last)) ⊎ ((v ≢ v) × (former v ≡ v)) → former v ≡ last
        freed (inl p) = p.1
        freed (inr p) = absurd (p.0 refl)

        other : ((a ≡ v) × (former a ≡ last)) ⊎ ((a ≢ v) × (former a ≡ a)) → former a ≡ a
        other (inl p) = absurd (n p.0)
        other (inr p) = p.1

        go : (a ≡ last) ⊎ (a ≢ last) → (x : ℕ) × (x < last) × (former x ≡ a)
        go (inl e) = (v, at_last removes.here e n, freed (former_cases v) ∙ sym e)
        go (inr m) = (a, before h m, other (former_cases a))

    abbrev Stays : ℕ → ℕ → Type 0
    Stays a b = (x : ℕ) × (y : ℕ) × Joins new.constraints x y × IsSamePair a b (former x) (former y)

    stays_apart : (a b : ℕ) → Joins old.constraints a b × ((a ≡ v) ⊎ (b ≡ v)) → ¬ Stays a b
    stays_apart a b e s = go e.1 s.3 (now_below s.0 s.1 s.2)
      where
        go : (a ≡ v) ⊎ (b ≡ v) → IsSamePair a b (former s.0) (former s.1)
            → (s.0 < last) × (s.1 < last) → ⊥
        go (inl p) (inl q) l = not_there s.0 l.0 (sym q.0 ∙ p)
        go (inl p) (inr q) l = not_there s.1 l.1 (sym q.0 ∙ p)
        go (inr p) (inl q) l = not_there s.1 l.1 (sym q.1 ∙ p)
        go (inr p) (inr q) l = not_there s.0 l.0 (sym q.1 ∙ p)

    was_joined : (a b : ℕ) → Stays a b → Joins old.constraints a b
    was_joined a b s =
        same_joined old.constraints a b (former s.0) (former s.1) s.3
        ((removes.constraints s.0 s.1).0 s.2).2

    stays_or_ends : (a b : ℕ) → Joins old.constraints a b →
        Stays a b ⊎ (Joins old.constraints a b × ((a ≡ v) ⊎ (b ≡ v)))
    stays_or_ends a b h = go (cases_eq a v) (cases_eq b v)
      where
        ends : (a < length old.vertices) × (b < length old.vertices) × (a ≢ b)
        ends = plain.pairs a b h

        found : (x : ℕ) × (x < last) × (former x ≡ a)
            → (x : ℕ) × (x < last) × (former x ≡ b) → Stays a b
        found p q = (
          p.0,
          q.0,
          (removes.constraints p.0 q.0).1 (
            p.1,
            q.1,
            subst (λ (z : ℕ × ℕ). Joins old.constraints z.0 z.1)
                (λ i. (sym p.2 i, sym q.2 i)) h,
          ),
          inl (sym p.2, sym q.2),
        )

        go : (a ≡ v) ⊎ (a ≢ v) → (b ≡ v) ⊎ (b ≢ v)
            → Stays a b ⊎ (Joins old.constraints a b × ((a ≡ v) ⊎ (b ≡ v)))
        go (inl p) q = inr (h, inl p)
        go (inr p) (inl q) = inr (h, inr q)
        go (inr p) (inr q) = inl (found (index_now a ends.0 p) (index_now b ends.1 q))

    -- the constraints of before are the k that ended at v and those of after
    pub removed_number : length old.constraints ≡ k + length new.constraints
    removed_number = same_number (listed_pairs old.constraints was)
        (both (renamed former new.constraints now keeps) ending stays_apart) (λ a b. (
          (λ h. stays_or_ends a b h),
          (λ x. elim x [ inl s ↦ was_joined a b s | inr e ↦ e.0 ]),
        ))

  -- a vertex is appended
  module _ (value : V) (n : ℕ) (plain : IsPlain position old) (is_last : n ≡ length old.vertices)
      (splits : (i j : ℕ) → Joins new.constraints i j ↔
      ((Joins old.constraints i j × ¬ Carries position old value i j) ⊎
      (IsHalf position old value n i j ⊎ IsHalf position old value n j i))) where
    -- within no constraint
    pub free_number : ((a b : ℕ) → Joins old.constraints a b → ¬ Carries position old value a b) →
        length new.constraints ≡ length old.constraints
    free_number none =
        same_number (listed_pairs new.constraints now) (listed_pairs old.constraints was) (λ a b. (
          (λ h. elim ((splits a b).0 h) [
            | inl x ↦ x.0
            | inr x ↦ elim x [
              | inl half ↦ absurd (none a half.1.0 half.1.1 half.1.2)
              | inr half ↦ absurd (none b half.1.0 half.1.1 half.1.2)
            ]
          ]),
          (λ h. (splits a b).1 (inl (h, none a b h))),
        ))

    -- or strictly within one
    module _ (a b : ℕ) (joined : Joins old.constraints a b)
        (carries : Carries position old value a b) (only : (x y : ℕ) → Joins old.constraints x y
        → Carries position old value x y → IsSamePair x y a b) where
      turned_carries : (x y : ℕ) → Carries position old value x y → Carries position old value y x
      turned_carries x y c =
          turned_within (place (points_of position old) x) (place (points_of position old) y)
          (whole (position value)) c

      carries_as : (x y : ℕ) → IsSamePair x y a b → Carries position old value x y
      carries_as x y (inl s) =
          subst (λ (q : ℕ × ℕ). Carries position old value q.0 q.1)
          (λ i. (sym s.0 i, sym s.1 i)) carries
      carries_as x y (inr s) =
          subst (λ (q : ℕ × ℕ). Carries position old value q.0 q.1) (λ i. (sym s.0 i, sym s.1 i))
          (turned_carries a b carries)

      not_last : (x y : ℕ) → Joins old.constraints x y → (x ≢ n) × (y ≢ n)
      not_last x y h = let e = plain.pairs x y h in (other x e.0, other y e.1)
        where
          other : (z : ℕ) → z < length old.vertices → z ≢ n
          other z l s = omega (arith, l, s, is_last)

      -- the constraint that carries the new vertex joins its ends no longer
      gone : ¬ Joins new.constraints a b
      gone h = elim ((splits a b).0 h) as (λ _. ⊥) [
        | inl x ↦ x.1 carries
        | inr x ↦ elim x as (λ _. ⊥) [
          | inl half ↦ (not_last a b joined).1 half.0
          | inr half ↦ (not_last a b joined).0 half.0
        ]
      ]

      first_new : ¬ Joins old.constraints a n
      first_new h = (not_last a n h).1 refl

      second_new : ¬ (Joins old.constraints b n ⊎ IsSamePair b n a n)
      second_new (inl h) = (not_last b n h).1 refl
      second_new (inr (inl s)) = (plain.pairs a b joined).2 (sym s.0)
      second_new (inr (inr s)) = (not_last a b joined).1 s.0

      abbrev Halves : ℕ → ℕ → Type 0
      Halves x y = (Joins old.constraints x y ⊎ IsSamePair x y a n) ⊎ IsSamePair x y b n

      -- each half joins the new vertex to an end of that constraint
      half : (x y : ℕ) → IsHalf position old value n x y → IsSamePair x y a n ⊎ IsSamePair x y b n
      half x y h = elim
          (only x h.1.0 h.1.1 h.1.2) [ inl s ↦ inl (inl (s.0, h.0)) | inr s ↦ inr (inl (s.0, h.0)) ]

      embedding : (x y : ℕ) → IsSamePair x y a n ⊎ IsSamePair x y b n → Halves x y
      embedding x y (inl s) = inl (inr s)
      embedding x y (inr s) = inr s

      forth : (x y : ℕ) → Joins new.constraints x y ⊎ IsSamePair x y a b → Halves x y
      forth x y (inr s) = inl (inl (same_joined old.constraints x y a b s joined))
      forth x y (inl h) = elim ((splits x y).0 h) [
        | inl o ↦ inl (inl o.0)
        | inr o ↦ elim o [
          | inl p ↦ embedding x y (half x y p)
          | inr p ↦ embedding x y (elim (half y x p) [
            | inl s ↦ inl (pair_turned y x a n s)
            | inr s ↦ inr (pair_turned y x b n s)
          ])
        ]
      ]

      -- an end of that constraint and the new vertex are joined
      made : (x y z w : ℕ) → IsSamePair z w a b → IsSamePair x y z n → Joins new.constraints x y
      made x y z w s (inl t) = (splits x y).1
          (inr (inl (
            t.1,
            subst (λ (q : ℕ). (j : ℕ) × Joins old.constraints q j × Carries position old value q j)
                (sym t.0) (w, same_joined old.constraints z w a b s joined, carries_as z w s),
          )))
      made x y z w s (inr t) = (splits x y).1
          (inr (inr (
            t.0,
            subst (λ (q : ℕ). (j : ℕ) × Joins old.constraints q j × Carries position old value q j)
                (sym t.1) (w, same_joined old.constraints z w a b s joined, carries_as z w s),
          )))

      -- what was joined, and each half, is joined now, but for the constraint that was split
      back : (x y : ℕ) → Halves x y → Joins new.constraints x y ⊎ IsSamePair x y a b
      back x y (inl (inl h)) = elim (same_pair_or_not x y a b) [
        | inl s ↦ inr s
        | inr o ↦ inl ((splits x y).1 (inl (h, (λ c. o (only x y h c)))))
      ]
      back x y (inl (inr s)) = inl (made x y a b (inl (refl, refl)) s)
      back x y (inr s) = inl (made x y b a (inr (refl, refl)) s)

      -- where one constraint alone carries the new vertex, there is one more
      pub split_number : length new.constraints ≡ suc (length old.constraints)
      split_number =
          let e = same_number (one_more (listed_pairs new.constraints now) a b gone)
          (one_more (one_more (listed_pairs old.constraints was) a n first_new) b n second_new)
          (λ x y. ((λ h. forth x y h), (λ h. back x y h))) in
          omega (arith, e)
