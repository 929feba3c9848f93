-- What each step makes of constraints and of segments that are still to be joined.
-- Lemmas: splits_none, splits_then, splits_appended, splits_joined, splits_led.
use Rattle.std.proofs.Common.{◌≡◌, ◌⊎◌, ◌<◌, [], ◌∷◌, ◌++◌, ◌∙◌, ℕ, List, refl, sym, ap, subst}
use Rattle.std.proofs.Common.{subst₂, length, inl, inr, arith, append_assoc, append-nil}
use Rattle.std.specs.Prelude.{Contains, Some}
use Rattle.std.proofs.lemmas.Bool.{cases_eq}
use Rattle.std.proofs.lemmas.List.{length-map}
use Rattle.std.proofs.lemmas.List.Elements.{All-nil, All-cons, All-append}
use Rattle.std.proofs.lemmas.List.Elements.{Contains-append_left, Contains-append_right}
use Rattle.std.proofs.lemmas.List.Elements.{Contains-push_cases}
use Rattle.plane.specs.{Adds, Appends, Carries, IsPositive, IsSamePair, Joins, place, Plain, Point}
use Rattle.plane.proofs.{decide_both, decide_either, decide_within_segment, Decision, turned_join}
use Rattle.{plane.proofs.turned_mean_of_two, plane.specs.points_of, plane.specs.whole}
use Rattle.plane_theorems.specs.{AreNextOn, ArePlacedApart}
use Rattle.plane_theorems.proofs.Segments.Constraints.Subconstraints.{next_is_neighbours}
use Rattle.delaunay_journal.specs.Splits.{AreConnected, Frees, IsLink, Splits}
use Rattle.delaunay_journal.proofs.Connections.{along_segment, connected_back, connected_on}
use Rattle.delaunay_journal.proofs.Connections.{connected_over, one_link, turned_link}

-- ---- links
-- a list with one more behind it has a pair in what it had, or the pair is the last
joins_cases : (rest : List (ℕ × ℕ)) (s : ℕ × ℕ) (i j : ℕ) → Joins (rest ++ s ∷ []) i j
    → Joins rest i j ⊎ IsSamePair i j s.0 s.1
joins_cases rest s i j (inl h) = elim (Contains-push_cases rest s (i, j) h) [
  | inl l ↦ inl (inl l)
  | inr e ↦ inr (inl (sym (ap (λ (p : ℕ × ℕ). p.0) e), sym (ap (λ (p : ℕ × ℕ). p.1) e)))
]
joins_cases rest s i j (inr h) = elim (Contains-push_cases rest s (j, i) h) [
  | inl l ↦ inl (inr l)
  | inr e ↦ inr (inr (sym (ap (λ (p : ℕ × ℕ). p.1) e), sym (ap (λ (p : ℕ × ℕ). p.0) e)))
]

-- whether two pairs have the same ends
same_or_not : (a b i j : ℕ) → Decision (IsSamePair a b i j)
same_or_not a b i j = decide_either (decide_both (equal a i) (equal b j))
    (decide_both (equal a j) (equal b i))
  where
    equal : (m n : ℕ) → Decision (m ≡ n)
    equal m n = cases_eq m n

module _ (constraints segments : List (ℕ × ℕ)) where
  -- what connects the ends of a pair connects those of one that has them
  same_connected : (i j a b : ℕ) → IsSamePair i j a b
      → AreConnected (IsLink constraints segments) a b
      → AreConnected (IsLink constraints segments) i j
  same_connected i j a b (inl s) h =
      subst₂ (AreConnected (IsLink constraints segments)) (sym s.0) (sym s.1) h
  same_connected i j a b (inr s) h =
      subst₂ (AreConnected (IsLink constraints segments)) (sym s.0) (sym s.1)
      (connected_back (IsLink constraints segments) (turned_link constraints segments) a b h)

  -- by a third vertex
  two_links : (i v j : ℕ) → IsLink constraints segments i v → IsLink constraints segments v j
      → AreConnected (IsLink constraints segments) i j
  two_links i v j a b = connected_on (IsLink constraints segments) i v j
      (one_link (IsLink constraints segments) i v a)
      (one_link (IsLink constraints segments) v j b)

module _ {V : Type 0} (position : V → Point) (IsMade : V → Type 0) where
  -- ---- steps, one after another
  pub splits_none : (s : Plain V) (segments : List (ℕ × ℕ)) → Splits IsMade s s segments segments
  splits_none s segments = record {
    made = [];
    vertices = sym (append-nil s.vertices);
    all_made = All-nil IsMade;
    connects = λ i j h. h;
  }

  pub splits_then : {a b c : Plain V} {xs ys zs : List (ℕ × ℕ)} → Splits IsMade a b xs ys
      → Splits IsMade b c ys zs → Splits IsMade a c xs zs
  splits_then {a = a} first second = record {
    made = first.made ++ second.made;
    vertices = second.vertices ∙ ap (λ (vs : List V). vs ++ second.made) first.vertices
        ∙ append_assoc a.vertices first.made second.made;
    all_made = All-append IsMade first.made second.made first.all_made second.all_made;
    connects = λ i j h. second.connects i j (first.connects i j h);
  }

  -- ---- a vertex is put in
  module _ (old new : Plain V) (v : V) (appends : Appends position old new v)
      (segments : List (ℕ × ℕ)) where
    -- its index
    abbrev last : ℕ
    last = length old.vertices

    -- a pair that carries it is a path by it
    split : (i j : ℕ) → Joins old.constraints i j → Carries position old v i j
        → AreConnected (IsLink new.constraints segments) i j
    split i j h c = two_links new.constraints segments i last j
        (inl ((appends.constraints i last).1 (inr (inl (refl, (j, h, c))))))
        (inl ((appends.constraints last j).1 (inr (inr (
          refl,
          (
            i,
            turned_join old.constraints i j h,
            turned_mean_of_two IsPositive (place (points_of position old) i)
                (place (points_of position old) j) (whole (position v)) c,
          ),
        )))))

    kept : (i j : ℕ) → IsLink old.constraints segments i j
        → AreConnected (IsLink new.constraints segments) i j
    kept i j (inr h) = one_link (IsLink new.constraints segments) i j (inr h)
    kept i j (inl h) = elim (decide_within_segment (place (points_of position old) i)
        (place (points_of position old) j) (whole (position v))) [
          | inl c ↦ split i j h c
          | inr n ↦ one_link (IsLink new.constraints segments) i j
              (inl ((appends.constraints i j).1 (inl (h, n))))
        ]

    pub splits_appended : IsMade v → Splits IsMade old new segments segments
    splits_appended made = record {
      made = v ∷ [];
      vertices = appends.vertices;
      all_made = All-cons IsMade v [] made (All-nil IsMade);
      connects = connected_over (IsLink old.constraints segments)
          (IsLink new.constraints segments) kept;
    }

  -- vertices and constraints stay
  stays : (old new : Plain V) → new.vertices ≡ old.vertices → (before after : List (ℕ × ℕ))
      → ((i j : ℕ) → IsLink old.constraints before i j
      → AreConnected (IsLink new.constraints after) i j) → Splits IsMade old new before after
  stays old new same before after over = record {
    made = [];
    vertices = same ∙ sym (append-nil old.vertices);
    all_made = All-nil IsMade;
    connects = connected_over (IsLink old.constraints before) (IsLink new.constraints after) over;
  }

  -- ---- a segment becomes constraints
  module _ (old new : Plain V) (distinct : ArePlacedApart (points_of position old))
      (rest : List (ℕ × ℕ)) (s : ℕ × ℕ) (adds : Adds position old new s.0 s.1) where
    subconstraint : (i j : ℕ) → AreNextOn (points_of position old) s.0 s.1 i j
        → AreConnected (IsLink new.constraints rest) i j
    subconstraint i j n = one_link (IsLink new.constraints rest) i j (inl ((adds.constraints i j).1
        (inr ((next_is_neighbours position (points_of position old) s.0 s.1 i j).1 n))))

    -- its ends are in range of the points
    end_in : (k : ℕ) → k < length old.vertices → k < length (points_of position old)
    end_in k h = subst (λ n. k < n) (sym (length-map old.vertices position)) h

    path : AreConnected (IsLink new.constraints rest) s.0 s.1
    path = connected_over (AreNextOn (points_of position old) s.0 s.1)
        (IsLink new.constraints rest) subconstraint s.0 s.1
        (along_segment (points_of position old) distinct s.1 (end_in s.1 adds.ends.1) s.0
        (end_in s.0 adds.ends.0))

    over : (i j : ℕ) → IsLink old.constraints (rest ++ s ∷ []) i j
        → AreConnected (IsLink new.constraints rest) i j
    over i j (inl h) =
        one_link (IsLink new.constraints rest) i j (inl ((adds.constraints i j).1 (inl h)))
    over i j (inr h) = elim (joins_cases rest s i j h) [
      | inl k ↦ one_link (IsLink new.constraints rest) i j (inr k)
      | inr e ↦ same_connected new.constraints rest i j s.0 s.1 e path
    ]

    pub splits_joined : Splits IsMade old new (rest ++ s ∷ []) rest
    splits_joined = stays old new adds.vertices (rest ++ s ∷ []) rest over

  -- ---- a segment and the constraint that it crosses go by a vertex
  module _ (constraints rest more : List (ℕ × ℕ)) where
    of_rest : (i j : ℕ) → Joins rest i j → IsLink constraints (rest ++ more) i j
    of_rest i j (inl h) = inr (inl (Contains-append_left rest more (i, j) h))
    of_rest i j (inr h) = inr (inr (Contains-append_left rest more (j, i) h))

    of_more : (i j : ℕ) → Contains more (i, j) → IsLink constraints (rest ++ more) i j
    of_more i j h = inr (inl (Contains-append_right rest more (i, j) h))

  module _ (old new : Plain V) (v : ℕ) (rest : List (ℕ × ℕ)) (s : ℕ × ℕ) where
    -- where none is released
    pub splits_led_alone : new ≡ old → Splits IsMade old new (rest ++ s ∷ [])
        (rest ++ (v, s.1) ∷ (s.0, v) ∷ [])
    splits_led_alone same = stays old new (ap (λ (p : Plain V). p.vertices) same)
        (rest ++ s ∷ []) (rest ++ (v, s.1) ∷ (s.0, v) ∷ []) over
      where
        over : (i j : ℕ) → IsLink old.constraints (rest ++ s ∷ []) i j
            → AreConnected (IsLink new.constraints (rest ++ (v, s.1) ∷ (s.0, v) ∷ [])) i j
        over i j (inl h) =
            one_link (IsLink new.constraints (rest ++ (v, s.1) ∷ (s.0, v) ∷ [])) i j
            (inl (subst (λ (p : Plain V). Joins p.constraints i j) (sym same) h))
        over i j (inr h) = elim (joins_cases rest s i j h) [
          | inl k ↦ one_link (IsLink new.constraints (rest ++ (v, s.1) ∷ (s.0, v) ∷ [])) i j
              (of_rest new.constraints rest ((v, s.1) ∷ (s.0, v) ∷ []) i j k)
          | inr e ↦ same_connected new.constraints (rest ++ (v, s.1) ∷ (s.0, v) ∷ []) i j s.0 s.1 e
              (two_links new.constraints (rest ++ (v, s.1) ∷ (s.0, v) ∷ []) s.0 v s.1
              (of_more new.constraints rest ((v, s.1) ∷ (s.0, v) ∷ []) s.0 v
              (1, omega arith, refl))
              (of_more new.constraints rest ((v, s.1) ∷ (s.0, v) ∷ []) v s.1
              (0, omega arith, refl)))
        ]

    -- where constraint c is
    pub splits_led : (c : ℕ × ℕ) → Frees position (Some c) old new
        → Splits IsMade old new (rest ++ s ∷ [])
        (rest ++ (c.0, v) ∷ (v, c.1) ∷ (v, s.1) ∷ (s.0, v) ∷ [])
    splits_led c frees = stays old new frees.vertices (rest ++ s ∷ [])
        (rest ++ (c.0, v) ∷ (v, c.1) ∷ (v, s.1) ∷ (s.0, v) ∷ []) over
      where
        over : (i j : ℕ) → IsLink old.constraints (rest ++ s ∷ []) i j → AreConnected
            (IsLink new.constraints (rest ++ (c.0, v) ∷ (v, c.1) ∷ (v, s.1) ∷ (s.0, v) ∷ [])) i j
        over i j (inl h) = elim (same_or_not i j c.0 c.1) [
          | inl e ↦ same_connected new.constraints
              (rest ++ (c.0, v) ∷ (v, c.1) ∷ (v, s.1) ∷ (s.0, v) ∷ []) i j c.0 c.1 e
              (two_links new.constraints
              (rest ++ (c.0, v) ∷ (v, c.1) ∷ (v, s.1) ∷ (s.0, v) ∷ []) c.0 v c.1
              (of_more new.constraints rest
              ((c.0, v) ∷ (v, c.1) ∷ (v, s.1) ∷ (s.0, v) ∷ []) c.0 v (0, omega arith, refl))
              (of_more new.constraints rest
              ((c.0, v) ∷ (v, c.1) ∷ (v, s.1) ∷ (s.0, v) ∷ []) v c.1 (1, omega arith, refl)))
          | inr n ↦ one_link
              (IsLink new.constraints (rest ++ (c.0, v) ∷ (v, c.1) ∷ (v, s.1) ∷ (s.0, v) ∷ []))
              i j (inl ((frees.constraints i j).1 (h, n)))
        ]
        over i j (inr h) = elim (joins_cases rest s i j h) [
          | inl k ↦ one_link
              (IsLink new.constraints (rest ++ (c.0, v) ∷ (v, c.1) ∷ (v, s.1) ∷ (s.0, v) ∷ []))
              i j (of_rest new.constraints rest
              ((c.0, v) ∷ (v, c.1) ∷ (v, s.1) ∷ (s.0, v) ∷ []) i j k)
          | inr e ↦ same_connected new.constraints
              (rest ++ (c.0, v) ∷ (v, c.1) ∷ (v, s.1) ∷ (s.0, v) ∷ []) i j s.0 s.1 e
              (two_links new.constraints
              (rest ++ (c.0, v) ∷ (v, c.1) ∷ (v, s.1) ∷ (s.0, v) ∷ []) s.0 v s.1
              (of_more new.constraints rest
              ((c.0, v) ∷ (v, c.1) ∷ (v, s.1) ∷ (s.0, v) ∷ []) s.0 v (3, omega arith, refl))
              (of_more new.constraints rest
              ((c.0, v) ∷ (v, c.1) ∷ (v, s.1) ∷ (s.0, v) ∷ []) v s.1 (2, omega arith, refl)))
        ]
