-- The steps of a search along sides of free faces.
-- Notions: Passes; passes_none, passes_marked, takes_first, none_left, lead_fits, found_step,
-- search_ends, fewer_unmarked, search_goes_on, begins_none,
-- begins_more, search_begins.
use Rattle.std.proofs.Common.{◌≡◌, ◌≢◌, ◌⊎◌, ◌+◌, ◌<◌, ◌≤◌, [], ◌∷◌, ◌++◌, ◌∙◌, ℕ, Bool, List}
use Rattle.std.proofs.Common.{sym, subst, arith, ap, refl, inl, inr, true, false, get_or, set}
use Rattle.std.proofs.Common.{length}
use Rattle.std.proofs.Common.{zero, suc, get_or-set_other, get_or-set_same}
use Rattle.std.specs.Prelude.{All, Contains, replicate, cond}
use Rattle.std.specs.List.Sorted.{IsPermutation}
use Rattle.std.proofs.lemmas.List.{get_or_append_left, get_or_default, length-append}
use Rattle.std.proofs.lemmas.List.{length-replicate, length-set}
use Rattle.std.proofs.lemmas.List.Sorted.{Contains-permutation, IsPermutation-sym}
use Rattle.std.proofs.lemmas.List.Elements.{All-contains, Contains-append_cases}
use Rattle.std.proofs.lemmas.List.Elements.{Contains-append_right, Contains-get_or}
use Rattle.std.proofs.lemmas.List.Sums.{sum_by-set}
use Rattle.plane.specs.{IsVertex, Triangulation}
use Rattle.plane_theorems.specs.Ways.Links.{AreApart, IsLinked, IsMarked}
use Rattle.delaunay_ways.specs.{AreSteps, Begins, count_unmarked, IsStep, Spreads}
use Rattle.delaunay_ways.specs.Search.{IsMet, IsSearch, Takes}
use Rattle.delaunay_ways.specs.{declared.reading.Step.Step, Steps.AreEarlier, Steps.step_at}
use Rattle.{delaunay_ways.proofs.PathsRead.only_one, delaunay_ways.specs.declared.leads.Lead.Lead}

none_in : {X : Type 0} (x : X) → Contains [] x → ⊥
none_in x c = let w = c.1 in omega (arith, w)

-- ---- leads that are passed by
-- leads to marked vertices were taken
pub record Passes (marks : List Bool) (leads leads' : List Lead) : Type 0 where
  pub kept : (y : Lead) → Contains leads y → IsMarked marks y.vertex ⊎ Contains leads' y
  pub only : (y : Lead) → Contains leads' y → Contains leads y

pub passes_none : (marks : List Bool) (leads : List Lead) → Passes marks leads leads
passes_none marks leads = record { kept = λ y c. inr c; only = λ y c. c }

module _ {X : Type 0} (x : X) (xs ys : List X) (p : IsPermutation xs (x ∷ ys)) where
  taken_cases : (y : X) → Contains xs y → (y ≡ x) ⊎ Contains ys y
  taken_cases y c =
      elim (Contains-append_cases (x ∷ []) ys y (Contains-permutation xs (x ∷ ys) y p c)) [
        | inl d ↦ inl (only_one (λ z. z ≡ x) x y d refl)
        | inr d ↦ inr d
      ]

module _ (marks : List Bool) (leads now after : List Lead) (x : Lead)
    (before : Passes marks leads now) (taken : IsPermutation now (x ∷ after)) where
  back : IsPermutation (x ∷ after) now
  back = IsPermutation-sym now (x ∷ after) taken

  -- the lead that is taken was there
  pub lead_passed : Contains leads x
  lead_passed = before.only x (Contains-permutation (x ∷ after) now x back (0, omega arith, refl))

  still_there : (y : Lead) → Contains after y → Contains leads y
  still_there y c = before.only y (Contains-permutation (x ∷ after) now y back
      (Contains-append_right (x ∷ []) after y c))

  pub passes_marked : IsMarked marks x.vertex → Passes marks leads after
  passes_marked marked = record {
    kept = λ y c. elim (before.kept y c) [
      | inl m ↦ inl m
      | inr d ↦ elim (taken_cases x now after taken y d) [
        | inl e ↦ inl (subst (λ z. IsMarked marks z.vertex) (sym e) marked)
        | inr f ↦ inr f
      ]
    ];
    only = still_there;
  }

  pub takes_first : ¬ IsMarked marks x.vertex → Takes marks leads x after
  takes_first unmarked = record {
    unmarked = unmarked;
    was = lead_passed;
    kept = λ y c. elim (before.kept y c) [
      | inl m ↦ inr (inl m)
      | inr d ↦ elim (taken_cases x now after taken y d) [
        | inl e ↦ inl e
        | inr f ↦ inr (inr f)
      ]
    ];
    only = still_there;
  }

pub none_left : (marks : List Bool) (leads now : List Lead) → Passes marks leads now → now ≡ []
    → (y : Lead) → Contains leads y → IsMarked marks y.vertex
none_left marks leads now p none y c = elim (p.kept y c) [
  | inl m ↦ m
  | inr d ↦ absurd (none_in y (subst (λ xs. Contains xs y) none d))
]

-- ---- one mark more
module _ (marks : List Bool) (v : ℕ) (within : v < length marks) where
  pub marked_here : IsMarked (set marks v true) v
  marked_here = get_or-set_same marks v true false within

  marked_still : (w : ℕ) → IsMarked marks w → IsMarked (set marks v true) w
  marked_still w m = go (nat_cases w)
    where
      nat_cases : (w : ℕ) → (w ≡ v) ⊎ (w ≢ v)
      nat_cases w = grind arith

      go : (w ≡ v) ⊎ (w ≢ v) → IsMarked (set marks v true) w
      go (inl e) = subst (IsMarked (set marks v true)) (sym e) marked_here
      go (inr n) = get_or-set_other marks v w true false n ∙ m

  marked_cases : (w : ℕ) → IsMarked (set marks v true) w → (w ≡ v) ⊎ IsMarked marks w
  marked_cases w m = go (nat_cases w)
    where
      nat_cases : (w : ℕ) → (w ≡ v) ⊎ (w ≢ v)
      nat_cases w = grind arith

      go : (w ≡ v) ⊎ (w ≢ v) → (w ≡ v) ⊎ IsMarked marks w
      go (inl e) = inl e
      go (inr n) = inr (sym (get_or-set_other marks v w true false n) ∙ m)

  abbrev cost : Bool → ℕ
  cost b = cond (cond b false true) 1 0

  one_of : (b : Bool) → ¬ (b ≡ true) → cost b ≡ 1
  one_of true n = absurd (n refl)
  one_of false n = refl

  pub fewer_unmarked : ¬ IsMarked marks v → count_unmarked (set marks v true) < count_unmarked marks
  fewer_unmarked new =
      let moved = sum_by-set cost marks v true false within in
      let one = one_of (get_or marks v false) new in
      omega (arith, moved, one)

module _ (t : Triangulation) (free : ℕ → Bool) (first last : List ℕ) (marks : List Bool)
    (steps : List Step) (leads : List Lead) (s : IsSearch t free first last marks steps leads) where
  -- each lead is to a vertex that there is
  pub lead_fits : (x : Lead) → Contains leads x → x.vertex < length marks
  lead_fits x c = subst (λ n. x.vertex < n) (sym s.count) (s.leads_are x c).exists

  met_marked : ((y : Lead) → Contains leads y → IsMarked marks y.vertex) → (w : ℕ)
      → IsMet marks leads w → IsMarked marks w
  met_marked all w (inl m) = m
  met_marked all w (inr l) = subst (IsMarked marks) l.2 (all l.0 l.1)

  -- with no lead to a vertex that is not marked, the marks tell the first and the last ones apart
  pub search_ends : ((y : Lead) → Contains leads y → IsMarked marks y.vertex)
      → AreApart t free first last
  search_ends all = record {
    marks = marks;
    followed = λ v w m l. met_marked all w (s.followed v w m l);
    begun = λ v c. met_marked all v (s.begun v c);
    none = s.none;
  }

  module _ (x : Lead) (after : List Lead) (taken : Takes marks leads x after) where
    pub found_step : IsStep t free last steps x.vertex x.before
    found_step = s.leads_are x taken.was

    in_marks : x.vertex < length marks
    in_marks = lead_fits x taken.was

    abbrev marks' : List Bool
    marks' = set marks x.vertex true

    abbrev new : Step
    new = record { vertex = x.vertex; before = x.before }

    abbrev steps' : List Step
    steps' = steps ++ new ∷ []

    one_more : length steps' ≡ length steps + 1
    one_more = length-append steps (new ∷ [])

    same_step : (k : ℕ) → k < length steps → step_at steps' k ≡ step_at steps k
    same_step k w = get_or_append_left steps (new ∷ []) (record { vertex = 0; before = 0 }) k w

    last_at : (xs : List Step) (k : ℕ) → k ≡ length xs → step_at (xs ++ new ∷ []) k ≡ new
    last_at [] k e = subst (λ n. step_at (new ∷ []) n ≡ new) (sym e) refl
    last_at (y ∷ ys) zero e = absurd (omega (arith, e))
    last_at (y ∷ ys) (suc k) e = last_at ys k (omega (arith, e))

    step_still : (v before : ℕ) → IsStep t free last steps v before
        → IsStep t free last steps' v before
    step_still v before i = let n = i.within in record {
      within = omega (arith, n, one_more);
      exists = i.exists;
      begins = i.begins;
      follows = λ k e. subst (λ (z : Step). IsLinked t free z.vertex v)
          (sym (same_step k (omega (arith, n, e)))) (i.follows k e);
    }

    -- which of the steps it is
    which : (k : ℕ) → k < length steps' → (k < length steps) ⊎ (k ≡ length steps)
    which k w = grind (arith, w, one_more)

    steps_are' : AreSteps t free last steps'
    steps_are' k w = go (which k w)
      where
        go : (k < length steps) ⊎ (k ≡ length steps) → IsStep t free last steps'
            (step_at steps' k).vertex (step_at steps' k).before
        go (inl old) = subst (λ (z : Step). IsStep t free last steps' z.vertex z.before)
            (sym (same_step k old)) (step_still _ _ (s.steps_are k old))
        go (inr e) = subst (λ (z : Step). IsStep t free last steps' z.vertex z.before)
            (sym (last_at steps k e)) (step_still x.vertex x.before found_step)

    earlier' : AreEarlier steps'
    earlier' k w = go (which k w)
      where
        go : (k < length steps) ⊎ (k ≡ length steps) → (step_at steps' k).before ≤ k
        go (inl old) = subst (λ (z : Step). z.before ≤ k) (sym (same_step k old)) (s.earlier k old)
        go (inr e) = subst (λ (z : Step). z.before ≤ k) (sym (last_at steps k e))
            (let i = found_step.within in omega (arith, i, e))

    module _ (leads' : List Lead) (not_first : ¬ Contains first x.vertex)
        (spreads : Spreads t free x.vertex (length steps') after leads') where
      still_met : (w : ℕ) → IsMet marks leads w → IsMet marks' leads' w
      still_met w (inl m) = inl (marked_still marks x.vertex in_marks w m)
      still_met w (inr l) = elim (taken.kept l.0 l.1) [
        | inl e ↦ inl (subst (IsMarked marks') (ap (λ z. z.vertex) (sym e) ∙ l.2)
            (marked_here marks x.vertex in_marks))
        | inr c ↦ elim c [
          | inl m ↦ inl (marked_still marks x.vertex in_marks w (subst (IsMarked marks) l.2 m))
          | inr d ↦ inr (l.0, spreads.kept l.0 d, l.2)
        ]
      ]

      new_lead : (y : Lead) → (y.before ≡ length steps') × IsVertex t y.vertex
          × IsLinked t free x.vertex y.vertex → IsStep t free last steps' y.vertex y.before
      new_lead y n = let is = n.0 in record {
        within = omega (arith, is);
        exists = n.1;
        begins = λ none. absurd (omega (arith, is, none, one_more));
        follows = λ k e. subst (λ (z : Step). IsLinked t free z.vertex y.vertex)
            (sym (last_at steps k (omega (arith, is, e, one_more)))) n.2;
      }

      -- the search with the vertex of the lead marked, and leads to those linked with it
      pub search_goes_on : IsSearch t free first last marks' steps' leads'
      search_goes_on = record {
        count = length-set marks x.vertex true ∙ s.count;
        steps_are = steps_are';
        earlier = earlier';
        leads_are = λ y c. elim (spreads.only y c) [
          | inl d ↦ step_still y.vertex y.before (s.leads_are y (taken.only y d))
          | inr n ↦ new_lead y n
        ];
        begun = λ v c. still_met v (s.begun v c);
        none = λ v f m. elim (marked_cases marks x.vertex in_marks v m) [
          | inl e ↦ not_first (subst (Contains first) e f)
          | inr o ↦ s.none v f o
        ];
        followed = λ v w m l. elim (marked_cases marks x.vertex in_marks v m) [
          | inl e ↦ inr (spreads.there w (subst (λ u. IsLinked t free u w) e l))
          | inr o ↦ still_met w (s.followed v w o l)
        ];
      }

-- the same, by what calls say of the lists
pub search_moves : (t : Triangulation) (free : ℕ → Bool) (first last : List ℕ) (marks : List Bool)
    (steps : List Step) (leads : List Lead) → IsSearch t free first last marks steps leads
    → (x : Lead) (after : List Lead) → Takes marks leads x after → ¬ Contains first x.vertex
    → (v : ℕ) (ms : List Bool) (ss : List Step) (now leads' : List Lead) → v ≡ x.vertex
    → ms ≡ set marks x.vertex true
    → ss ≡ steps ++ (record { vertex = x.vertex; before = x.before }) ∷ [] → now ≡ after
    → Spreads t free v (length ss) now leads' → IsSearch t free first last ms ss leads'
search_moves t free first last marks steps leads s x after taken not_first v ms ss now leads'
    e m n a spreads =
    let step : Step = record { vertex = x.vertex; before = x.before } in
    subst (λ bs. IsSearch t free first last bs ss leads') (sym m)
    (subst (λ zs. IsSearch t free first last (set marks x.vertex true) zs leads') (sym n)
    (search_goes_on t free first last marks steps leads s x after taken leads' not_first
    (subst (λ xs. Spreads t free x.vertex (length (steps ++ step ∷ [])) xs leads') a
    (subst (λ zs. Spreads t free x.vertex (length zs) now leads') n
    (subst (λ u. Spreads t free u (length ss) now leads') e spreads)))))

-- ---- the beginning
none_marked : (n v : ℕ) → ¬ IsMarked (replicate n false) v
none_marked zero v m = absurd (false_true m)
  where
    false_true : false ≡ true → ⊥
    false_true e = cc
none_marked (suc n) zero m = absurd (false_true m)
  where
    false_true : false ≡ true → ⊥
    false_true e = cc
none_marked (suc n) (suc v) m = none_marked n v m

module _ (last : List ℕ) where
  pub begins_none : Begins last 0 []
  begins_none = record {
    there = λ k w. absurd (omega (arith, w));
    only = λ x c. absurd (none_in x c);
  }

  -- a lead to the next of these vertices
  pub begins_more : (n : ℕ) (x : Lead) (leads leads' : List Lead) → Begins last n leads
      → n < length last → x.vertex ≡ get_or last n 0 → x.before ≡ 0
      → IsPermutation (x ∷ leads) leads' → Begins last (n + 1) leads'
  begins_more n x leads leads' b within is begins p = record {
    there = λ k w. go k (less_or_last k w);
    only = λ y c. elim (Contains-append_cases (x ∷ []) leads y
        (Contains-permutation leads' (x ∷ leads) y (IsPermutation-sym (x ∷ leads) leads' p) c)) [
          | inl d ↦ only_one (λ z. (z.before ≡ 0) × Contains last z.vertex) x y d (
            begins,
            subst (Contains last) (sym is) (Contains-get_or last n 0 within),
          )
          | inr d ↦ b.only y d
        ];
  }
    where
      less_or_last : (k : ℕ) → k < n + 1 → (k < n) ⊎ (k ≡ n)
      less_or_last k w = grind (arith, w)

      go : (k : ℕ) → (k < n) ⊎ (k ≡ n)
          → (y : Lead) × Contains leads' y × (y.vertex ≡ get_or last k 0)
      go k (inl w) = let y = b.there k w in (
        y.0,
        Contains-permutation (x ∷ leads) leads' y.0 p
            (Contains-append_right (x ∷ []) leads y.0 y.1),
        y.2,
      )
      go k (inr e) = (
        x,
        Contains-permutation (x ∷ leads) leads' x p (0, omega arith, refl),
        is ∙ ap (λ i. get_or last i 0) (sym e),
      )

  -- with leads to all of them a search begins
  pub search_begins : (t : Triangulation) (free : ℕ → Bool) (first : List ℕ) (marks : List Bool)
      (steps : List Step) (leads : List Lead) → All (IsVertex t) last
      → marks ≡ replicate (length t.points) false → steps ≡ []
      → Begins last (length last) leads → IsSearch t free first last marks steps leads
  search_begins t free first marks steps leads exist unmarked none b = record {
    count = ap length unmarked ∙ length-replicate (length t.points) false;
    steps_are = λ k w. absurd (no_step k w);
    earlier = λ k w. absurd (no_step k w);
    leads_are = λ x c. let o = b.only x c in let is = o.0 in record {
      within = omega (arith, is);
      exists = All-contains (IsVertex t) last x.vertex exist o.1;
      begins = λ e. o.1;
      follows = λ k e. absurd (omega (arith, is, e));
    };
    begun = λ v c. let x = b.there c.0 c.1 in
        inr (x.0, x.1, x.2 ∙ get_or_default last c.0 0 v c.1 ∙ c.2);
    none = λ v f m. not_marked v m;
    followed = λ v w m l. absurd (not_marked v m);
  }
    where
      no_step : (k : ℕ) → k < length steps → ⊥
      no_step k w = let e = ap length none in omega (arith, w, e)

      not_marked : (v : ℕ) → ¬ IsMarked marks v
      not_marked v m = none_marked (length t.points) v (subst (λ ms. IsMarked ms v) unmarked m)
