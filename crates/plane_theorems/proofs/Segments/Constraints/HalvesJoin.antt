-- The far ends of a straight constraint's halves, after their vertex has gone: nothing stands
-- between them, so they can be joined.
-- Lemmas: straight_halves_join_after_removal.
use Rattle.std.proofs.Common.{◌≡◌, ◌⊎◌, ◌<◌, [], ◌∷◌, ◌∙◌}
use Rattle.std.proofs.Common.{ℕ, suc, List, length, map, take, set, get_or, sym, ap, subst, subst₂}
use Rattle.std.proofs.Common.{arith}
use Prim.Native.Nat.{◌-◌}
use mathlib.Core.Logic.{inl, inr, ◌≢◌}
use Rattle.std.specs.Prelude.{pos, ◌↔◌, swap_remove, nat_eq, if◌then◌else◌}
use Rattle.std.proofs.lemmas.Bool.{cases_eq}
use Rattle.std.proofs.lemmas.Bool.Decides.{nat_tests}
use Rattle.std.proofs.lemmas.List.{length-map, take-map, map-set, get_or-map}
use Rattle.plane.specs.{AreNeighboursOn, CanAdd, Cross, Face, IsIndex, IsPlain, IsSamePair, Joins}
use Rattle.plane.specs.{place, Plain, Point, points_of, TakesOut, whole, WithinSegment}
use Rattle.plane.proofs.{at_most_last, end_on_segment, less_or_more, on_of_within}
use Rattle.plane.proofs.{one_more_than_last, only_point, same-refl, start_on_segment}
use Rattle.plane_theorems.specs.{AreNextOn, ArePlacedApart, EdgesMeetAtVertices, new_index}
use Rattle.plane_theorems.specs.{point_of}
use Rattle.plane_theorems.specs.Segments.PathSteps.{CanBeJoined, StraightHalvesJoinAfterRemoval}
use Rattle.plane_theorems.proofs.Edits.Removal.Renumbering.{left_count, left_place, new_apart}
use Rattle.plane_theorems.proofs.Edits.Removal.Renumbering.{new_below, new_of_old, old_below}
use Rattle.plane_theorems.proofs.Edits.Removal.Renumbering.{old_index, old_of_new}
use Rattle.plane_theorems.proofs.Segments.Constraints.Splits.{straight_halves_join}
use Rattle.plane_theorems.proofs.Segments.Constraints.Subconstraints.{next_is_neighbours, path_ends}
use Rattle.plane_theorems.proofs.Segments.Constraints.Subconstraints.{path_goes_on}
use Rattle.plane_theorems.proofs.Segments.Crossing.EitherWay.{one_point}

-- ---- the points without v, of which the last has taken its index
module _ (points left : List Point) (v last : ℕ) (v_index : v < suc last)
    (count : length points ≡ suc last) (count_left : length left ≡ last) (same : (j : ℕ) → j < last
    → place left j ≡ place points (old_index v last j)) (apart : ArePlacedApart points) where
  in_range : (j : ℕ) → IsIndex left j → j < last
  in_range j h = subst (λ z. j < z) count_left h

  index_then : (j : ℕ) → IsIndex left j
      → IsIndex points (old_index v last j) × (old_index v last j ≢ v)
  index_then j h = let o = old_below v last j v_index (in_range j h) in
      (subst (λ z. old_index v last j < z) (sym count) o.0, o.1)

  below_now : (k : ℕ) → IsIndex points k → k ≢ v → new_index v last k < last
  below_now k h n = new_below v last k v_index (subst (λ z. k < z) count h) n

  index_now : (k : ℕ) → IsIndex points k → k ≢ v → IsIndex left (new_index v last k)
  index_now k h n = subst (λ z. new_index v last k < z) (sym count_left) (below_now k h n)

  place_now : (k : ℕ) → IsIndex points k → k ≢ v → place left (new_index v last k) ≡ place points k
  place_now k h n = same (new_index v last k) (below_now k h n)
      ∙ ap (place points) (old_of_new v last k n)

  apart_now : ArePlacedApart left
  apart_now i j hi hj n e = apart (old_index v last i) (old_index v last j) (index_then i hi).0
      (index_then j hj).0 (λ s. n (sym (new_of_old v last i (in_range i hi))
      ∙ ap (new_index v last) s ∙ new_of_old v last j (in_range j hj)))
      (sym (same i (in_range i hi)) ∙ e ∙ same j (in_range j hj))

  -- two of them with none but v strictly between
  module _ (a b : ℕ) (ha : IsIndex points a) (hb : IsIndex points b) (av : a ≢ v) (bv : b ≢ v)
      (ab : a ≢ b) (none : (k : ℕ) → IsIndex points k → k ≢ v
      → ¬ WithinSegment (place points a) (place points b) (place points k)) where
    subconstraint : AreNextOn left (new_index v last a) (new_index v last b) (new_index v last a)
        (new_index v last b)
    subconstraint = record {
      apart = λ e. ab (new_apart v last a b av bv e);
      first_index = index_now a ha av;
      second_index = index_now b hb bv;
      first = start_on_segment (place left (new_index v last a)) (place left (new_index v last b));
      second = end_on_segment (place left (new_index v last a)) (place left (new_index v last b));
      none_between = λ k h w. none (old_index v last k) (index_then k h).0 (index_then k h).1
          (subst (WithinSegment (place points a) (place points b)) (same k (in_range k h)) (subst₂
          (λ s t. WithinSegment s t (place left k)) (place_now a ha av) (place_now b hb bv) w));
    }

    one_subconstraint : (c d : ℕ) → AreNextOn left (new_index v last a) (new_index v last b) c d
        ↔ IsSamePair c d (new_index v last a) (new_index v last b)
    one_subconstraint c d = let g =
        path_goes_on left (new_index v last a) (new_index v last b) (new_index v last b) apart_now
        (index_now b hb bv) (λ e. ab (new_apart v last a b av bv e)) subconstraint c d in (
          (λ s. elim (g.0 s)
              [ inl e ↦ e | inr o ↦ absurd (path_ends left (new_index v last b) apart_now c d o) ]),
          (λ e. g.1 (inl e)),
        )

-- ---- the index that k had
abbrev before : ℕ → ℕ → ℕ → ℕ
before v last k = if nat_eq k v then last else k

before_freed : (v last k : ℕ) → k ≡ v → before v last k ≡ last
before_freed v last k e = grind (arith, nat_tests)

before_other : (v last k : ℕ) → k ≢ v → before v last k ≡ k
before_other v last k n = grind (arith, nat_tests)

now_of_last : (v last : ℕ) → new_index v last last ≡ v
now_of_last v last = grind (arith, nat_tests)

now_of_other : (v last k : ℕ) → k < last → new_index v last k ≡ k
now_of_other v last k h = grind (arith, nat_tests)

index_before : (v last k : ℕ) → v < suc last → k < last → before v last k ≡ old_index v last k
index_before v last k hv h = new_apart v last (before v last k) (old_index v last k) other
    (old_below v last k hv h).1 (now (cases_eq k v) ∙ sym (new_of_old v last k h))
  where
    now : (k ≡ v) ⊎ (k ≡ v → ⊥) → new_index v last (before v last k) ≡ k
    now (inl e) = ap (new_index v last) (before_freed v last k e) ∙ now_of_last v last ∙ sym e
    now (inr n) = ap (new_index v last) (before_other v last k n) ∙ now_of_other v last k h

    other : before v last k ≢ v
    other q = elim (cases_eq k v) [
      | inl e ↦ late (sym (before_freed v last k e) ∙ q) e
      | inr n ↦ n (sym (before_other v last k n) ∙ q)
    ]
      where
        late : last ≡ v → k ≡ v → ⊥
        late q e = omega arith

-- ---- plain states
module _ {V : Type 0} where
  map_swap_remove : (f : V → Point) (xs : List V) (i : ℕ) (d : V) → i < length xs
      → map f (swap_remove xs i d) ≡ swap_remove (map f xs) i (f d)
  map_swap_remove f xs i d h =
      sym (take-map f (length xs - 1) (set xs i (get_or xs (length xs - 1) d)))
      ∙ ap (take (length xs - 1)) (map-set f xs i (get_or xs (length xs - 1) d))
      ∙ ap (λ x. take (length xs - 1) (set (map f xs) i x))
      (sym (get_or-map f xs (length xs - 1) d (f d) last_index))
      ∙ ap (λ n. take (n - 1) (set (map f xs) i (get_or (map f xs) (n - 1) (f d))))
      (sym (length-map xs f))
    where
      last_index : length xs - 1 < length xs
      last_index = omega arith

  some_of : (xs : List V) (i : ℕ) → i < length xs → V
  some_of [] i h = absurd (omega arith)
  some_of (x ∷ xs) i h = x

  placed_apart : (position : V → Point) (s : Plain V) → IsPlain position s
      → ArePlacedApart (points_of position s)
  placed_apart position s plain i j hi hj n e = go (less_or_more i j n)
    where
      count : length (map position s.vertices) ≡ length s.vertices
      count = length-map s.vertices position

      here : (k : ℕ) → k < length (map position s.vertices) → k < length s.vertices
      here k h = subst (λ z. k < z) count h

      at : (k : ℕ) → k < length s.vertices → (d : V)
          → point_of (points_of position s) k ≡ position (get_or s.vertices k d)
      at k h d = get_or-map position s.vertices k d (record { x = pos 0; y = pos 0 }) h

      one : point_of (points_of position s) i ≡ point_of (points_of position s) j
      one = λ o. record { x = (e o).x; y = (e o).y }

      go : (i < j) ⊎ (j < i) → ⊥
      go (inl l) = let d = some_of s.vertices i (here i hi) in
          plain.distinct i j d l (here j hj) (sym (at i (here i hi) d) ∙ one ∙ at j (here j hj) d)
      go (inr l) = let d = some_of s.vertices i (here i hi) in plain.distinct j i d l (here i hi)
          (sym (at j (here j hj) d) ∙ sym one ∙ at i (here i hi) d)

  module _ (position : V → Point) (old new : Plain V) (v : ℕ)
      (r : TakesOut position old new v) where
    -- the vertex that goes
    d : V
    d = some_of old.vertices v r.here

    count : length (points_of position old) ≡ length old.vertices
    count = length-map old.vertices position

    -- v is the index of an old point
    here : v < length (points_of position old)
    here = subst (λ z. v < z) (sym count) r.here

    points_left : points_of position new ≡ swap_remove (points_of position old) v (position d)
    points_left = ap (map position) (r.vertices d)
        ∙ map_swap_remove position old.vertices v d r.here

    count_left : length (points_of position new) ≡ length old.vertices - 1
    count_left = ap length points_left ∙ left_count (points_of position old) v (position d) here
        ∙ ap (λ n. n - 1) count

    place_left : (j : ℕ) → j < length old.vertices - 1 → place (points_of position new) j
        ≡ place (points_of position old) (old_index v (length old.vertices - 1) j)
    place_left j h = ap (λ l. place l j) points_left ∙ left_place (points_of position old) v
        (position d) here j (subst (λ n. j < n - 1) (sym count) h)
        ∙ ap (λ n. place (points_of position old) (old_index v (n - 1) j)) count

    -- each pair that is left was one of others than v
    pair_then : (c e : ℕ) → Joins new.constraints c e
        → (c < length old.vertices - 1) × (e < length old.vertices - 1) × Joins old.constraints
        (old_index v (length old.vertices - 1) c) (old_index v (length old.vertices - 1) e)
    pair_then c e h =
        let o = (r.constraints c e).0 h in
        let fit = at_most_last v (length old.vertices) r.here in (
          o.0,
          o.1,
          subst₂ (Joins old.constraints) (index_before v (length old.vertices - 1) c fit
              o.0) (index_before v (length old.vertices - 1) e fit o.1) o.2,
        )

module _ {V : Type 0} (position : V → Point) (old new : Plain V) (faces : List Face)
    (edges : List (ℕ × ℕ)) (v a b : ℕ) (plain : IsPlain position old) (meet :
    EdgesMeetAtVertices (record { points = points_of position old; faces = faces; edges = edges }))
    (kept : (c d : ℕ) → Joins old.constraints c d → Joins edges c d)
    (first : Joins old.constraints a v) (second : Joins old.constraints v b) (within :
    WithinSegment (place (points_of position old) a) (place (points_of position old) b)
    (place (points_of position old) v)) (r : TakesOut position old new v) where
  abbrev last : ℕ
  last = length old.vertices - 1

  abbrev P : List Point
  P = points_of position old

  abbrev Q : List Point
  Q = points_of position new

  abbrev a' : ℕ
  a' = new_index v (length old.vertices - 1) a

  abbrev b' : ℕ
  b' = new_index v (length old.vertices - 1) b

  -- v is at most the last index
  fit : v < suc (length old.vertices - 1)
  fit = at_most_last v (length old.vertices) r.here

  count_then : length (points_of position old) ≡ suc (length old.vertices - 1)
  count_then = count position old new v r ∙ one_more_than_last v (length old.vertices) r.here

  apart : ArePlacedApart (points_of position old)
  apart = placed_apart position old plain

  of_points : (k : ℕ) → k < length old.vertices → IsIndex (points_of position old) k
  of_points k h = subst (λ z. k < z) (sym (count position old new v r)) h

  -- a is the index of an old point
  ha : IsIndex (points_of position old) a
  ha = of_points a (plain.pairs a v first).0

  -- and so is b
  hb : IsIndex (points_of position old) b
  hb = of_points b (plain.pairs v b second).1

  -- and v
  hv : IsIndex (points_of position old) v
  hv = of_points v r.here

  -- a is not v
  av : a ≢ v
  av = (plain.pairs a v first).2

  -- nor is b
  bv : b ≢ v
  bv e = (plain.pairs v b second).2 (sym e)

  -- a and b differ
  ab : a ≢ b
  ab e = apart v b hv hb (λ s. bv (sym s))
      (ap whole (one_point (point_of P v) (point_of P b) (only_point (place P b) (place P b)
      (place P v) (same-refl (place P b)) (on_of_within (place P b) (place P b) (place P v)
      (subst (λ z. WithinSegment (place P z) (place P b) (place P v)) e within)))))

  -- between the far ends: no vertex but v, no edge from one to the other, no crossing edge off v
  none : ((k : ℕ) → IsIndex (points_of position old) k → k ≢ v
      → ¬ WithinSegment (place P a) (place P b) (place P k)) × (¬ Joins edges a b) × ((c d : ℕ)
      → Joins edges c d → c ≢ v → d ≢ v → ¬ Cross (place P a) (place P b) (place P c) (place P d))
  none = straight_halves_join
      (record { points = points_of position old; faces = faces; edges = edges }) a b v meet hv
      (λ k hk n. apart k v hk hv n) (kept a v first) (kept v b second) within

  below : (c : ℕ) → IsIndex (points_of position old) c → c ≢ v
      → new_index v (length old.vertices - 1) c < length new.vertices
  below c h n = subst (λ z. new_index v (length old.vertices - 1) c < z)
      (length-map new.vertices position) (index_now P Q v last fit count_then
      (count_left position old new v r) (place_left position old new v r) apart c h n)

  not_yet : ¬ Joins new.constraints a' b'
  not_yet h = none.1 (kept a b (subst₂ (Joins old.constraints) (old_of_new v last a av)
      (old_of_new v last b bv) (pair_then position old new v r a' b' h).2))

  -- no constraint that is left crosses their segment
  free : CanAdd position new a' b'
  free c d h x =
      let j = pair_then position old new v r c d h in
      let oc = (old_below v last c fit j.0).1 in
      let od = (old_below v last d fit j.1).1 in
      none.2 (old_index v last c) (old_index v last d)
      (kept (old_index v last c) (old_index v last d) j.2) oc od
      (subst₂ (Cross (place P a) (place P b)) (place_left position old new v r c j.0)
      (place_left position old new v r d j.1)
      (subst₂ (λ s t. Cross s t (place Q c) (place Q d)) (placed a ha av) (placed b hb bv) x))
    where
      placed : (k : ℕ) → IsIndex (points_of position old) k → k ≢ v
          → place Q (new_index v last k) ≡ place P k
      placed k hk n = place_now P Q v last fit count_then (count_left position old new v r)
          (place_left position old new v r) apart k hk n

  neighbours : (c d : ℕ) → AreNeighboursOn position Q a' b' c d ↔ IsSamePair c d a' b'
  neighbours c d =
      let n = next_is_neighbours position Q a' b' c d in
      let o = one_subconstraint P Q v last fit count_then (count_left position old new v r)
      (place_left position old new v r) apart a b ha hb av bv ab none.0 c d in
      ((λ h. o.0 (n.0 h)), (λ h. n.1 (o.1 h)))

  can_be_joined : CanBeJoined position new a' b'
  can_be_joined = record {
    ends = (below a ha av, below b hb bv);
    not_yet = not_yet;
    free = free;
    one_subconstraint = neighbours;
    joined = λ now vertices pairs. record {
      ends = (below a ha av, below b hb bv);
      free = free;
      vertices = vertices;
      constraints = λ c d. let p = pairs c d in let n = neighbours c d in (
        (λ h. elim (p.0 h) [ inl o ↦ inl o | inr o ↦ inr (n.1 o) ]),
        (λ h. p.1 (elim h [ inl o ↦ inl o | inr o ↦ inr (n.0 o) ])),
      );
    };
  }

-- where a vertex has gone from within a straight constraint, its halves' far ends can be joined
pub straight_halves_join_after_removal : {V : Type 0} → StraightHalvesJoinAfterRemoval V
straight_halves_join_after_removal position old new faces edges v a b plain meet kept first
    second within r =
    can_be_joined position old new faces edges v a b plain meet kept first second within r
