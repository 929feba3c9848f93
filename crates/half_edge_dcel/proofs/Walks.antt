-- Walks that come back to their start.
-- Notions: GoesOn, Undoes, EndsBefore; map_walk_step, walk_left_is, none_left, ended, none_after,
-- one_less, goes_on, ends_before, comes_round, walk-list.
use Rattle.std.proofs.Common.{◌≡◌, ◌≢◌, ◌+◌, ◌-◌, ◌<◌, ◌≤◌, ◌==◌, if◌then◌else◌, [], ◌∷◌, ◌++◌}
use Rattle.std.proofs.Common.{◌∙◌, ℕ, zero, suc, true, false, List, length, map, refl, sym, ap}
use Rattle.std.proofs.Common.{inl, inr, arith}
use Rattle.std.specs.List.{range_with_len}
use Rattle.std.proofs.lemmas.Bool.{cases_eq, eq-eqb}
use Rattle.std.proofs.lemmas.List.{map-append, length_push}
use Rattle.std.proofs.lemmas.Bool.Decides.{eqb_tells}
use Rattle.std.specs.Borrow.{Bor}
use Rattle.half_edge_links.specs.{iterate, Mesh}
use Rattle.{half_edge_links.proofs.step_add, half_edge_links.proofs.Steps.map_range_step}
use Rattle.half_edge_dcel.specs.{Contents, each_in, EdgeWalk, IsEnding, walk}
use Rattle.half_edge_dcel.specs.Walks.{comes_to, walk_left}

-- one place of a walk, where so many are left afterwards
walk_step : (f : ℕ → ℕ) (stop k h : ℕ) → 0 < k
    → walk f stop k h ≡ h ∷ walk f stop (if f h == stop then 0 else k - 1) (f h)
walk_step f stop zero h some = absurd (omega (arith, some))
walk_step f stop (suc k) h some =
    let down : suc k - 1 ≡ k = omega arith in
    rw down
    (elim (f h == stop) as (λ b. ◌≡◌ {A = List ℕ} (h ∷ (if b then [] else walk f stop k (f h)))
    (h ∷ walk f stop (if b then 0 else k) (f h))) [ true ↦ refl | false ↦ refl ])

module _ {X : Type 0} (g : ℕ → X) (f : ℕ → ℕ) (stop k h k' h' : ℕ) (some : 0 < k) (after : h' ≡ f h)
    (left : k' ≡ (if h' == stop then 0 else k - 1)) where
  -- the values on a walk are the one at its first place and those on the rest
  pub map_walk_step : map g (walk f stop k h) ≡ g h ∷ map g (walk f stop k' h')
  map_walk_step =
      let rest : h ∷ walk f stop (if f h == stop then 0 else k - 1) (f h) ≡ h ∷ walk f stop k' h' =
      rw (left, after) refl in
      ap (map g) (walk_step f stop k h some ∙ rest)

module _ {V D U F : Type 0} (f : Mesh → ℕ → ℕ) (w : EdgeWalk V D U F) where
  -- what is left of a walk, by the mesh, its end, the number and the edge that it has
  pub walk_left_is : (d : Bor (Contents V D U F)) (stop n h : ℕ) → w.dcel ≡ d → w.end ≡ stop
      → w.left ≡ n → w.next ≡ h → walk_left f w ≡ each_in d (walk (f d.now.mesh) stop n h)
  walk_left_is d stop n h mesh end left next =
      ap (λ (x : Bor (Contents V D U F)). each_in x (walk (f x.now.mesh) w.end w.left w.next))
      mesh
      ∙ ap (λ (s : ℕ). each_in d (walk (f d.now.mesh) s w.left w.next)) end
      ∙ ap (λ (k : ℕ). each_in d (walk (f d.now.mesh) stop k w.next)) left
      ∙ ap (λ (i : ℕ). each_in d (walk (f d.now.mesh) stop n i)) next

  -- nothing is left of a walk over no edges
  pub none_left : w.left ≡ 0 → walk_left f w ≡ []
  none_left left = ap (λ (k : ℕ). each_in w.dcel (walk (f w.dcel.now.mesh) w.end k w.next)) left

-- a walk over no edges has ended
pub ended : {V D U F : Type 0} (f : Mesh → ℕ → ℕ) (w : EdgeWalk V D U F) → w.left ≡ 0 → IsEnding f w
ended f w left some = absurd (omega (arith, left, some))

not_equal : (a b : ℕ) → a ≢ b → a == b ≡ false
not_equal a b apart = elim (eqb_tells a b) [ inl q ↦ absurd (apart q.1) | inr q ↦ q.0 ]

-- how many edges are left of a walk after one, where it ends there and where it does not
pub none_after : {h stop k : ℕ} (left : ℕ) → h ≡ stop → k ≡ 0
    → k ≡ (if h == stop then 0 else left - 1)
none_after left same none = rw (eq-eqb _ _ same) none

pub one_less : {h stop k : ℕ} (left : ℕ) → h ≢ stop → k ≡ left - 1
    → k ≡ (if h == stop then 0 else left - 1)
one_less left apart less = rw (not_equal _ _ apart) less

-- a walk comes to its end
abbrev ComesTo : (ℕ → ℕ) → ℕ → ℕ → ℕ → Type 0
ComesTo f stop k h = comes_to f stop k h ≡ true

-- one that is not there after one place comes to it from that place
passed : (f : ℕ → ℕ) (stop k h : ℕ) → f h ≢ stop → ComesTo f stop (suc k) h → ComesTo f stop k (f h)
passed f stop k h off comes = rw (not_equal _ _ off) at comes

-- and one that comes to it from there, unless it is there, comes to it
one_before : (f : ℕ → ℕ) (stop k h : ℕ) → (f h ≢ stop → ComesTo f stop k (f h))
    → ComesTo f stop (suc k) h
one_before f stop k h comes = elim (cases_eq (f h) stop) [
  | inl same ↦ rw (eq-eqb _ _ same) refl
  | inr off ↦ rw (not_equal _ _ off) (comes off)
]

-- no walk comes anywhere in no places
nowhere : (f : ℕ → ℕ) (stop h : ℕ) → ¬ ComesTo f stop 0 h
nowhere f stop h comes = cc

-- a walk that has not ended after one place comes to its end from the next one
comes_step : (f : ℕ → ℕ) (stop k h : ℕ) → 0 < k → ComesTo f stop k h
    → 0 < (if f h == stop then 0 else k - 1)
    → ComesTo f stop (if f h == stop then 0 else k - 1) (f h)
comes_step f stop zero h some comes = absurd (omega (arith, some))
comes_step f stop (suc k) h some comes =
    let down : suc k - 1 ≡ k = omega arith in
    elim (cases_eq (f h) stop) [
      | inl same ↦ rw (eq-eqb _ _ same) (λ more. absurd (omega (arith, more)))
      | inr off ↦ rw (not_equal _ _ off, down) (λ more. passed f stop k h off comes)
    ]

-- a walk that goes on after one edge gives it, and then what is left, which is less, and it comes
-- to its end as before
pub record GoesOn {V D U F : Type 0} (f : Mesh → ℕ → ℕ) (old : EdgeWalk V D U F)
    (k h : ℕ) : Type 0 where
  pub steps : walk_left f old
      ≡ (old.dcel, old.next) ∷ each_in old.dcel (walk (f old.dcel.now.mesh) old.end k h)
  pub less : length (each_in old.dcel (walk (f old.dcel.now.mesh) old.end k h))
      < length (walk_left f old)
  pub ending : 0 < k → ComesTo (f old.dcel.now.mesh) old.end k h

pub goes_on : {V D U F : Type 0} (f : Mesh → ℕ → ℕ) (old : EdgeWalk V D U F) (k h : ℕ)
    → 0 < old.left → h ≡ f old.dcel.now.mesh old.next
    → k ≡ (if h == old.end then 0 else old.left - 1) → IsEnding f old → GoesOn f old k h
goes_on f old k h some after left was =
    let steps : walk_left f old
    ≡ (old.dcel, old.next) ∷ each_in old.dcel (walk (f old.dcel.now.mesh) old.end k h) =
    map_walk_step (λ i. (old.dcel, i)) (f old.dcel.now.mesh) old.end old.left old.next k h some
    after left in
    record {
      steps = steps;
      less = rw steps (omega arith);
      ending = rw (left, after)
          (comes_step (f old.dcel.now.mesh) old.end old.left old.next some (was some));
    }

-- one function undoes another below a bound, and is undone by it at one place
pub record Undoes (f back : ℕ → ℕ) (bound stop : ℕ) : Type 0 where
  pub closed : (x : ℕ) → x < bound → f x < bound
  pub undo : (x : ℕ) → x < bound → back (f x) ≡ x
  pub redo : f (back stop) ≡ stop

-- walks along a function that another undoes
module _ (f back : ℕ → ℕ) (n stop : ℕ) (u : Undoes f back n stop) where
  -- no place but the one before `stop` goes to it
  away : (h : ℕ) → h < n → h ≢ back stop → f h ≢ stop
  away h within off is = off (sym (u.undo h within) ∙ ap back is)

  -- one that comes to `stop` comes to the place before, unless it is there
  comes_before : (k h : ℕ) → h < n → h ≢ back stop → ComesTo f stop (suc k) h
      → ComesTo f (back stop) k h
  comes_before zero h within off comes =
      absurd (nowhere f stop (f h) (passed f stop 0 h (away h within off) comes))
  comes_before (suc k) h within off comes = one_before f (back stop) k h
      (λ more. comes_before k (f h) (u.closed h within) more
      (passed f stop (suc k) h (away h within off) comes))

  -- the place before `stop` is the last one
  walk_last : (k h : ℕ) → 0 < k → h < n → ComesTo f stop k h → walk f stop k h
      ≡ walk f (back stop) (if h == back stop then 0 else k - 1) h ++ back stop ∷ []
  walk_last zero h some within comes = absurd (omega (arith, some))
  walk_last (suc k) h some within comes =
      let down : suc k - 1 ≡ k = omega arith in
      elim (cases_eq h (back stop)) [
        | inl same ↦
            let ends : f h == stop ≡ true = eq-eqb _ _ (ap f same ∙ u.redo) in
            let here : h == back stop ≡ true = eq-eqb _ _ same in
            rw (ends, here) (ap (λ i. i ∷ []) same)
        | inr off ↦
            let on = away h within off in
            let goes_on : f h == stop ≡ false = not_equal _ _ on in
            let further : h == back stop ≡ false = not_equal _ _ off in
            let comes_on = passed f stop k h on comes in
            let more : 0 < k = later k h comes_on in
            let rest = walk_last k (f h) more (u.closed h within) comes_on in
            rw (goes_on, further, down, walk_step f (back stop) k h more) (ap (λ hs. h ∷ hs) rest)
      ]
    where
      later : (k h : ℕ) → ComesTo f stop k (f h) → 0 < k
      later zero h comes = absurd (nowhere f stop (f h) comes)
      later (suc k) h comes = omega arith

  -- and one that is to end there comes to it, unless it has ended
  comes_back_by_one : (k h : ℕ) → 0 < k → h < n → ComesTo f stop k h
      → 0 < (if h == back stop then 0 else k - 1)
      → ComesTo f (back stop) (if h == back stop then 0 else k - 1) h
  comes_back_by_one zero h some within comes = absurd (omega (arith, some))
  comes_back_by_one (suc k) h some within comes =
      let down : suc k - 1 ≡ k = omega arith in
      elim (cases_eq h (back stop)) [
        | inl same ↦ rw (eq-eqb _ _ same) (λ more. absurd (omega (arith, more)))
        | inr off ↦ rw (not_equal _ _ off, down) (λ more. comes_before k h within off comes)
      ]

-- a walk that ends one place before, at edge h, has all that it had but this one, so it has less,
-- and it comes to its end as before
pub record EndsBefore {V D U F : Type 0} (f : Mesh → ℕ → ℕ) (old : EdgeWalk V D U F)
    (k h : ℕ) : Type 0 where
  pub steps : walk_left f old
      ≡ each_in old.dcel (walk (f old.dcel.now.mesh) h k old.next) ++ (old.dcel, h) ∷ []
  pub less : length (each_in old.dcel (walk (f old.dcel.now.mesh) h k old.next))
      < length (walk_left f old)
  pub ending : 0 < k → ComesTo (f old.dcel.now.mesh) h k old.next

pub ends_before : {V D U F : Type 0} (f back : Mesh → ℕ → ℕ) (old : EdgeWalk V D U F) (k h n : ℕ)
    → 0 < old.left → k ≡ (if old.next == h then 0 else old.left - 1)
    → h ≡ back old.dcel.now.mesh old.end → old.next < n
    → Undoes (f old.dcel.now.mesh) (back old.dcel.now.mesh) n old.end → IsEnding f old
    → EndsBefore f old k h
ends_before f back old k h n some left before within u was =
    let m : Mesh = old.dcel.now.mesh in
    let steps : walk_left f old
    ≡ each_in old.dcel (walk (f m) h k old.next) ++ (old.dcel, h) ∷ [] =
    rw (left, before) (ap (each_in old.dcel)
    (walk_last (f m) (back m) n old.end u old.left old.next some within (was some))
    ∙ map-append (λ i. (old.dcel, i)) _ _) in
    record {
      steps = steps;
      less = rw steps
          (omega (arith, length_push (each_in old.dcel (walk (f m) h k old.next)) (old.dcel, h)));
      ending = rw (left, before)
          (comes_back_by_one (f m) (back m) n old.end u old.left old.next some within (was some));
    }

-- a walk that is back at its start after so many places comes there
pub comes_round : (f : ℕ → ℕ) (stop k fuel h : ℕ) → iterate f (suc k) h ≡ stop → k < fuel
    → ComesTo f stop fuel h
comes_round f stop k zero h at less = absurd (omega (arith, less))
comes_round f stop zero (suc fuel) h at less =
    one_before f stop fuel h (λ away. absurd (away at))
comes_round f stop (suc k) (suc fuel) h at less =
    let later : suc k + 1 ≡ suc (suc k) = omega arith in
    let shifted : iterate f (suc k) (f h) ≡ stop =
    sym (step_add f h (suc k) 1) ∙ ap (λ i. iterate f i h) later ∙ at in
    one_before f stop fuel h
    (λ away. comes_round f stop k fuel (f h) shifted (omega (arith, less)))

-- a walk that is back after so many places, and not before, has just these
walk-from : (f : ℕ → ℕ) (first count fuel j : ℕ)
    → ((i : ℕ) → 0 < i → i < count → iterate f i first ≢ first) → iterate f count first ≡ first
    → j < count → count ≤ j + fuel → walk f first fuel (iterate f j first)
    ≡ map (λ i. iterate f i first) (range_with_len j (count - j))
walk-from f first count zero j fresh back within enough = absurd (omega (arith, within, enough))
walk-from f first count (suc k) j fresh back within enough =
    let here : ℕ = iterate f j first in
    let split = map_range_step (λ i. iterate f i first) j count within in
    elim (cases_eq (suc j) count) [
      | inl last ↦
          let home : f here == first ≡ true =
          eq-eqb _ _ (ap (λ q. iterate f q first) last ∙ back) in
          let done : count - (j + 1) ≡ 0 = omega (arith, last) in
          rw (split, home, done) refl
      | inr more ↦
          let away : f here == first ≡ false =
          not_equal _ _ (fresh (suc j) (omega arith) (omega (arith, within, more))) in
          let rest = walk-from f first count k (suc j) fresh back (omega (arith, within, more))
          (omega (arith, enough)) in
          let step : j + 1 ≡ suc j = omega arith in
          rw (split, away, step) (ap (λ q. here ∷ q) rest)
    ]

-- the same from the first place on
pub walk-list : (f : ℕ → ℕ) (first count fuel : ℕ)
    → ((i : ℕ) → 0 < i → i < count → iterate f i first ≢ first) → iterate f count first ≡ first
    → 0 < count → count ≤ fuel
    → walk f first fuel first ≡ map (λ i. iterate f i first) (range_with_len 0 count)
walk-list f first count fuel fresh back some enough =
    let whole : count - 0 ≡ count = omega arith in
    rw whole at (walk-from f first count fuel 0 fresh back some (omega (arith, enough)))
