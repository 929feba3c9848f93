-- The steps of a search for the layers of faces.
-- Lemmas: counted, not_counted, listed_now, listed_later, lists_none, lists_as, lists_both,
-- lists_beside, puts_none, puts_more, puts_no_more, three_sides, one_less, nothing_seen,
-- next_layer, passed, reached, all_found, taking_is_less, stands_at, search_begins, next_fits,
-- search_takes, edge_there, crossing_passes, crossing_steps.
use Rattle.std.proofs.Common.{◌≡◌, ◌⊎◌, ◌↔◌, ◌+◌, ◌/◌, ◌<◌, ◌≤◌, [], ◌∷◌, ◌++◌, ◌∙◌}
use Rattle.std.proofs.Common.{ℕ, zero, suc, List, length, get_or, replicate, set}
use Rattle.std.proofs.Common.{refl, sym, ap, subst, arith, eq-eqb, length-append}
use mathlib.Core.Bool.{Bool, true, false, ◌||◌}
use Rattle.std.specs.List.{list_any}
use Rattle.std.proofs.lemmas.List.Folds.{list_any_at}
use Rattle.std.proofs.lemmas.Bool.Decides.{eqb_tells}
use mathlib.Core.Logic.{inl, inr, ◌≢◌}
use Rattle.std.specs.Prelude.{Contains, cond, nat_eq}
use Rattle.std.proofs.lemmas.Bool.{cases_eq}
use Rattle.std.proofs.lemmas.Bool.Decides.{nat_tests}
use Rattle.std.proofs.lemmas.List.{get_or-set_same, get_or-set_other, length-set}
use Rattle.std.proofs.lemmas.List.{length-replicate}
use Rattle.std.proofs.lemmas.List.Elements.{Contains-push, Contains-push_cases}
use Rattle.std.proofs.lemmas.List.Elements.{Contains-append_left}
use Rattle.std.proofs.lemmas.List.Sums.{count_by-le-length, sum_by-set}
use Rattle.half_edge_links.specs.{AreSoundLinks, face, face_edge, MAX_ELEMENTS, Mesh, next, prev}
use Rattle.half_edge_links.specs.{rev}
use Rattle.half_edge_links.proofs.{rev_within, Sound.Triangles.same_loop, triangle_at}
use Rattle.half_edge_dcel.specs.{Contents, IsMeshWithData}
use Rattle.delaunay_extensions.specs.{is_constrained, IsMet, IsSearching, IsSideOf, layer_at}
use Rattle.delaunay_extensions.specs.{PutsIn, weight}
use Rattle.delaunay_extensions.specs.Search.{HasWay, IsDue, IsFound, IsLayered, IsReachedAcross}
use Rattle.delaunay_extensions.specs.Search.{left_unseen, Lists, TakesLater, TakesNow, unseen}
use Rattle.delaunay_extensions.specs.{declared.search.LayerSearch.LayerSearch, Search.work_left}
use Rattle.{delaunay_extensions.proofs.Ways.way_on, plane_theorems.proofs.get_or_any}

none_in : (h : ℕ) → Contains [] h → ⊥
none_in h c = let w = c.1 in omega (arith, w)

-- ---- what an edge counts
both_ways : (b : Bool) → (b ≡ true) ⊎ (b ≡ false)
both_ways true = inl refl
both_ways false = inr refl

in_list : (ks : List ℕ) (k : ℕ) → Contains ks k → list_any (nat_eq k) ks ≡ true
in_list ks k c = list_any_at (nat_eq k) ks c.0 k c.1 (eq-eqb k (get_or ks c.0 k) (sym c.2))

from_list : (ks : List ℕ) (k : ℕ) → list_any (nat_eq k) ks ≡ true → Contains ks k
from_list [] k e = absurd (cc)
from_list (x ∷ ks) k e = elim (eqb_tells k x) [
  | inl is ↦ (0, omega arith, sym is.1)
  | inr not ↦ let r = from_list ks k
      (subst (λ (b : Bool). (b || list_any (nat_eq k) ks) ≡ true) not.0 e) in
      let w = r.1 in (suc r.0, omega (arith, w), r.2)
]

-- a constraint counts, and no other edge
pub counted : (constraints : List ℕ) (h k : ℕ) → k ≡ h / 2 → Contains constraints k
    → weight constraints h ≡ 1
counted constraints h k e c =
    ap (λ (b : Bool). cond {A = ℕ} b 1 0)
    (in_list constraints (h / 2) (subst (Contains constraints) e c))

pub not_counted : (constraints : List ℕ) (h k : ℕ) → k ≡ h / 2 → ¬ Contains constraints k
    → weight constraints h ≡ 0
not_counted constraints h k e out = elim (both_ways (is_constrained constraints h)) [
  | inl is ↦ absurd (out (subst (Contains constraints) (sym e)
      (from_list constraints (h / 2) is)))
  | inr not ↦ ap (λ (b : Bool). cond {A = ℕ} b 1 0) not
]

-- ---- lists that edges are put into
module _ {constraints : List ℕ} where
  -- one edge more, that counts nothing
  pub listed_now : {now later now' later' : List ℕ} {h : ℕ} → weight constraints h ≡ 0
      → now' ≡ now ++ h ∷ [] → later' ≡ later
      → Lists constraints (λ g. g ≡ h) now later now' later'
  listed_now {now = now} {later = later} {later' = later'} {h = h} free grown same =
      subst (λ xs. Lists constraints (λ g. g ≡ h) now later xs later') (sym grown)
      (subst (λ xs. Lists constraints (λ g. g ≡ h) now later (now ++ h ∷ []) xs) (sym same)
      (record {
        now_kept = λ g c. Contains-append_left now (h ∷ []) g c;
        later_kept = λ g c. c;
        there = λ g e. inl (subst (Contains (now ++ h ∷ [])) (sym e) (Contains-push now h));
        now_only = λ g c. elim (Contains-push_cases now h g c) [
          | inl d ↦ inl d
          | inr e ↦ inr (sym e, subst (λ x. weight constraints x ≡ 0) e free)
        ];
        later_only = λ g c. inl c;
      }))

  -- one edge more, that is a constraint
  pub listed_later : {now later now' later' : List ℕ} {h : ℕ} → weight constraints h ≡ 1
      → now' ≡ now → later' ≡ later ++ h ∷ []
      → Lists constraints (λ g. g ≡ h) now later now' later'
  listed_later {now = now} {later = later} {later' = later'} {h = h} counts same grown =
      subst (λ xs. Lists constraints (λ g. g ≡ h) now later xs later') (sym same)
      (subst (λ xs. Lists constraints (λ g. g ≡ h) now later now xs) (sym grown)
      (record {
        now_kept = λ g c. c;
        later_kept = λ g c. Contains-append_left later (h ∷ []) g c;
        there = λ g e. inr (subst (Contains (later ++ h ∷ [])) (sym e) (Contains-push later h));
        now_only = λ g c. inl c;
        later_only = λ g c. elim (Contains-push_cases later h g c) [
          | inl d ↦ inl d
          | inr e ↦ inr (sym e, subst (λ x. weight constraints x ≡ 1) e counts)
        ];
      }))

  -- no edge
  pub lists_none : (Which : ℕ → Type 0) (now later : List ℕ) → ((h : ℕ) → ¬ Which h)
      → Lists constraints Which now later now later
  lists_none Which now later none = record {
    now_kept = λ g c. c;
    later_kept = λ g c. c;
    there = λ g w. absurd (none g w);
    now_only = λ g c. inl c;
    later_only = λ g c. inl c;
  }

  -- the same edges by another property
  pub lists_as : (Which Those : ℕ → Type 0) {now later now' later' : List ℕ}
      → ((h : ℕ) → Which h ↔ Those h) → Lists constraints Which now later now' later'
      → Lists constraints Those now later now' later'
  lists_as Which Those same l = record {
    now_kept = l.now_kept;
    later_kept = l.later_kept;
    there = λ g t. l.there g ((same g).1 t);
    now_only = λ g c. elim (l.now_only g c) [
      | inl d ↦ inl d
      | inr w ↦ inr ((same g).0 w.0, w.1)
    ];
    later_only = λ g c. elim (l.later_only g c) [
      | inl d ↦ inl d
      | inr w ↦ inr ((same g).0 w.0, w.1)
    ];
  }

  -- some edges, and then others
  pub lists_both : (Which Those : ℕ → Type 0) {now later mid mid' now' later' : List ℕ}
      → Lists constraints Which now later mid mid' → Lists constraints Those mid mid' now' later'
      → Lists constraints (λ h. Which h ⊎ Those h) now later now' later'
  lists_both Which Those a b = record {
    now_kept = λ g c. b.now_kept g (a.now_kept g c);
    later_kept = λ g c. b.later_kept g (a.later_kept g c);
    there = λ g w. elim w [
      | inl x ↦ elim (a.there g x) [
        | inl c ↦ inl (b.now_kept g c)
        | inr c ↦ inr (b.later_kept g c)
      ]
      | inr y ↦ b.there g y
    ];
    now_only = λ g c. elim (b.now_only g c) [
      | inl d ↦ elim (a.now_only g d) [ inl e ↦ inl e | inr w ↦ inr (inl w.0, w.1) ]
      | inr w ↦ inr (inr w.0, w.1)
    ];
    later_only = λ g c. elim (b.later_only g c) [
      | inl d ↦ elim (a.later_only g d) [ inl e ↦ inl e | inr w ↦ inr (inl w.0, w.1) ]
      | inr w ↦ inr (inr w.0, w.1)
    ];
  }

  -- the same where one more edge was there from the beginning
  pub lists_beside : (Which : ℕ → Type 0) (now later now' later' : List ℕ) (h : ℕ)
      → Lists constraints Which now later now' later'
      → Lists constraints Which (now ++ h ∷ []) later (now' ++ h ∷ []) later'
  lists_beside Which now later now' later' h l = record {
    now_kept = λ g c. elim (Contains-push_cases now h g c) [
      | inl d ↦ Contains-append_left now' (h ∷ []) g (l.now_kept g d)
      | inr e ↦ subst (Contains (now' ++ h ∷ [])) e (Contains-push now' h)
    ];
    later_kept = l.later_kept;
    there = λ g w. elim (l.there g w) [
      | inl c ↦ inl (Contains-append_left now' (h ∷ []) g c)
      | inr c ↦ inr c
    ];
    now_only = λ g c. elim (Contains-push_cases now' h g c) [
      | inl d ↦ elim (l.now_only g d) [
        | inl k ↦ inl (Contains-append_left now (h ∷ []) g k)
        | inr w ↦ inr w
      ]
      | inr e ↦ inl (subst (Contains (now ++ h ∷ [])) e (Contains-push now h))
    ];
    later_only = l.later_only;
  }

-- ---- the outer edges, one after another
-- one with an index below i that has the outer face on its left
abbrev pub IsOuterBelow : Mesh → ℕ → ℕ → Type 0
IsOuterBelow m i h = (h < i) × (face m h ≡ 0)

module _ (m : Mesh) {constraints : List ℕ} where
  pub puts_none : {s : LayerSearch} → PutsIn constraints (IsOuterBelow m 0) s s
  puts_none {s = s} = record {
    lists = lists_none (IsOuterBelow m 0) s.now.items s.later.items
        (λ h p. let w = p.0 in omega (arith, w));
    layers = refl;
    layer = refl;
  }

  module _ {given mid : LayerSearch} {i k : ℕ}
      (puts : PutsIn constraints (IsOuterBelow m i) given mid) (is : k ≡ i) where
    -- one edge more was looked at, and put in
    pub puts_more : {new : LayerSearch} → PutsIn constraints (λ h. h ≡ k) mid new → face m k ≡ 0
        → PutsIn constraints (IsOuterBelow m (i + 1)) given new
    puts_more one outer = record {
      lists = lists_as (λ h. IsOuterBelow m i h ⊎ (h ≡ k)) (IsOuterBelow m (i + 1))
          (λ h. (there h, back h))
          (lists_both (IsOuterBelow m i) (λ h. h ≡ k) puts.lists one.lists);
      layers = one.layers ∙ puts.layers;
      layer = one.layer ∙ puts.layer;
    }
      where
        there : (h : ℕ) → IsOuterBelow m i h ⊎ (h ≡ k) → IsOuterBelow m (i + 1) h
        there h (inl p) = let w = p.0 in (omega (arith, w), p.1)
        there h (inr e) = (omega (arith, e, is), ap (face m) e ∙ outer)

        back : (h : ℕ) → IsOuterBelow m (i + 1) h → IsOuterBelow m i h ⊎ (h ≡ k)
        back h p = elim (cases_eq h k) [
          | inl e ↦ inr e
          | inr n ↦ let w = p.0 in inl (omega (arith, w, n, is), p.1)
        ]

    -- one that is no outer one
    pub puts_no_more : face m k ≢ 0 → PutsIn constraints (IsOuterBelow m (i + 1)) given mid
    puts_no_more inner = record {
      lists = lists_as (IsOuterBelow m i) (IsOuterBelow m (i + 1))
          (λ h. (there h, back h)) puts.lists;
      layers = puts.layers;
      layer = puts.layer;
    }
      where
        there : (h : ℕ) → IsOuterBelow m i h → IsOuterBelow m (i + 1) h
        there h p = let w = p.0 in (omega (arith, w), p.1)

        back : (h : ℕ) → IsOuterBelow m (i + 1) h → IsOuterBelow m i h
        back h p = elim (cases_eq h k) [
          | inl e ↦ absurd (inner (ap (face m) (sym e) ∙ p.1))
          | inr n ↦ let w = p.0 in (omega (arith, w, n, is), p.1)
        ]

-- ---- the edges of a face
-- the edges of an inner face are the one that it names, and those after and before it
pub three_sides : (m : Mesh) → AreSoundLinks m → (f h : ℕ) → 0 < f → f ≤ length m.face_edges
    → (((h ≡ face_edge m f) ⊎ (h ≡ next m (face_edge m f))) ⊎ (h ≡ prev m (face_edge m f)))
    ↔ IsSideOf m f h
three_sides m s f h some within = (there, back)
  where
    e_in : face_edge m f < length m.half_edges
    e_in = (s.faces f some within).0

    of_f : face m (face_edge m f) ≡ f
    of_f = (s.faces f some within).1

    inner : 0 < face m (face_edge m f)
    inner = let is = of_f in omega (arith, is, some)

    there : (((h ≡ face_edge m f) ⊎ (h ≡ next m (face_edge m f))) ⊎ (h ≡ prev m (face_edge m f)))
        → (h < length m.half_edges) × (face m h ≡ f)
    there (inl (inl q)) = (
      subst (λ (k : ℕ). k < length m.half_edges) (sym q) e_in,
      ap (face m) q ∙ of_f,
    )
    there (inl (inr q)) = let t = triangle_at m (face_edge m f) s e_in inner in (
      subst (λ (k : ℕ). k < length m.half_edges) (sym q) t.next_in,
      ap (face m) q ∙ t.face_next ∙ of_f,
    )
    there (inr q) = let t = triangle_at m (face_edge m f) s e_in inner in (
      subst (λ (k : ℕ). k < length m.half_edges) (sym q) t.prev_in,
      ap (face m) q ∙ t.face_prev ∙ of_f,
    )

    back : (h < length m.half_edges) × (face m h ≡ f)
        → (((h ≡ face_edge m f) ⊎ (h ≡ next m (face_edge m f))) ⊎ (h ≡ prev m (face_edge m f)))
    back is = elim (same_loop m (face_edge m f) h s e_in is.0 inner (is.1 ∙ sym of_f)) [
      | inl q ↦ inl (inl q)
      | inr (inl q) ↦ inl (inr q)
      | inr (inr q) ↦ inr q
    ]

-- ---- steps of the search
-- what a face adds to the count of those that are left
abbrev cost : ℕ → ℕ
cost n = cond (nat_eq n unseen) 1 0

seen_cost : (n : ℕ) → n ≡ unseen → cost n ≡ 1
seen_cost n e = grind (arith, nat_tests)

known_cost : (n : ℕ) → n < unseen → cost n ≡ 0
known_cost n w = grind (arith, nat_tests)

-- one face less is left
pub one_less : (layers : List ℕ) (f layer : ℕ) → f < length layers → layer_at layers f ≡ unseen
    → layer < unseen → left_unseen (set layers f layer) + 1 ≡ left_unseen layers
one_less layers f layer w new known =
    let moved = sum_by-set cost layers f layer unseen w in
    let a = seen_cost (layer_at layers f) new in
    let b = known_cost layer known in
    omega (arith, moved, a, b)

all_unseen : (n f : ℕ) → layer_at (replicate n unseen) f ≡ unseen
all_unseen zero f = refl
all_unseen (suc n) zero = refl
all_unseen (suc n) (suc f) = all_unseen n f

module _ (m : Mesh) (constraints : List ℕ) where
  -- before the search no face was reached
  pub nothing_seen : (n : ℕ) → n ≡ length m.face_edges + 1
      → IsLayered m constraints (replicate n unseen) [] [] 0
  nothing_seen n e = record {
    count = length-replicate n unseen ∙ e;
    ways = λ f seen. absurd (seen (all_unseen n f));
    low = λ f seen. absurd (seen (all_unseen n f));
    now_due = λ h c. absurd (none_in h c);
    later_due = λ h c. absurd (none_in h c);
    complete = λ h w seen. absurd (seen (all_unseen n (face m h)));
    bound = let few = count_by-le-length (λ k. nat_eq k unseen) (replicate n unseen) in
        omega (arith, few);
    more = λ some. absurd (omega (arith, some));
  }

  -- where no edge is left for this layer, those of the next one come
  pub next_layer : (layers later : List ℕ) (layer : ℕ)
      → IsLayered m constraints layers [] later layer → 0 < length later
      → IsLayered m constraints layers later [] (layer + 1)
  next_layer layers later layer s some = record {
    count = s.count;
    ways = s.ways;
    low = λ f seen. let a = s.low f seen in omega (arith, a);
    now_due = s.later_due;
    later_due = λ h c. absurd (none_in h c);
    complete = λ h w seen. elim (s.complete h w seen) [
      | inl c ↦ absurd (none_in h c)
      | inr (inl c) ↦ inl c
      | inr (inr c) ↦ inr (inr c)
    ];
    bound = let a = s.more some in omega (arith, a);
    more = λ none. absurd (omega (arith, none));
  }

  -- an edge that leads to a face that was reached is done with
  pub passed : (layers now later : List ℕ) (layer h : ℕ)
      → IsLayered m constraints layers (now ++ h ∷ []) later layer
      → IsMet layers (face m (rev h)) → IsLayered m constraints layers now later layer
  passed layers now later layer h s seen = record {
    count = s.count;
    ways = s.ways;
    low = s.low;
    now_due = λ g c. s.now_due g (Contains-append_left now (h ∷ []) g c);
    later_due = s.later_due;
    complete = λ g w known. elim (s.complete g w known) [
      | inl c ↦ elim (Contains-push_cases now h g c) [
        | inl d ↦ inl d
        | inr e ↦ inr (inr (subst (IsReachedAcross m constraints layers) e here))
      ]
      | inr r ↦ inr r
    ];
    bound = s.bound;
    more = s.more;
  }
    where
      here : IsReachedAcross m constraints layers h
      here =
          let due = (s.now_due h (Contains-push now h)).due in
          let low = s.low (face m (rev h)) seen in
          record { seen = seen; low = omega (arith, due, low) }

  -- a face gets its layer, and its edges are listed
  module _ (layers now later now' later' : List ℕ) (layer f : ℕ)
      (s : IsLayered m constraints layers now later layer) (within : f < length layers)
      (new : layer_at layers f ≡ unseen) (small : layer < unseen)
      (way : HasWay m constraints f layer)
      (l : Lists constraints (IsSideOf m f) now later now' later') where
    abbrev known : List ℕ
    known = set layers f layer

    -- the face has its layer now
    at_f : layer_at known f ≡ layer
    at_f = get_or-set_same layers f layer unseen within

    seen_f : IsMet known f
    seen_f e = omega (arith, e, at_f, small)

    -- a face that was reached before is another one
    off_f : (g : ℕ) → IsMet layers g → g ≢ f
    off_f g seen e = seen (ap (layer_at layers) e ∙ new)

    -- a face that was reached before keeps its layer
    kept : (g : ℕ) → IsMet layers g → layer_at known g ≡ layer_at layers g
    kept g seen = get_or-set_other layers f g layer unseen (off_f g seen)

    seen_kept : (g : ℕ) → IsMet layers g → IsMet known g
    seen_kept g seen e = seen (sym (kept g seen) ∙ e)

    seen_before : (g : ℕ) → IsMet known g → (g ≡ f) ⊎ IsMet layers g
    seen_before g seen = elim (cases_eq g f) [
      | inl e ↦ inl e
      | inr n ↦ inr (λ e. seen (get_or-set_other layers f g layer unseen n ∙ e))
    ]

    due_kept : (h due : ℕ) → IsDue m constraints layers h due → IsDue m constraints known h due
    due_kept h due d = record {
      within = d.within;
      seen = seen_kept (face m h) d.seen;
      due = ap (λ (k : ℕ). k + weight constraints h) (kept (face m h) d.seen) ∙ d.due;
    }

    due_side : (h n : ℕ) → IsSideOf m f h → weight constraints h ≡ n
        → IsDue m constraints known h (layer + n)
    due_side h n w counts = let at = ap (layer_at known) w.1 ∙ at_f in record {
      within = w.0;
      seen = subst (IsMet known) (sym w.1) seen_f;
      due = omega (arith, at, counts);
    }

    crossed_kept : (h : ℕ) → IsMet layers (face m h) → IsReachedAcross m constraints layers h
        → IsReachedAcross m constraints known h
    crossed_kept h seen c =
        let low = c.low in
        let first = kept (face m h) seen in
        let second = kept (face m (rev h)) c.seen in
        record { seen = seen_kept (face m (rev h)) c.seen; low = omega (arith, low, first, second) }

    complete' : (h : ℕ) → h < length m.half_edges → (face m h ≡ f) ⊎ IsMet layers (face m h)
        → Contains now' h ⊎ (Contains later' h ⊎ IsReachedAcross m constraints known h)
    complete' h w (inl e) = elim (l.there h (w, e)) [
      | inl c ↦ inl c
      | inr c ↦ inr (inl c)
    ]
    complete' h w (inr old) = elim (s.complete h w old) [
      | inl c ↦ inl (l.now_kept h c)
      | inr (inl c) ↦ inr (inl (l.later_kept h c))
      | inr (inr c) ↦ inr (inr (crossed_kept h old c))
    ]

    -- each face that was reached has a way past as many constraints as its layer says
    ways' : (g : ℕ) → (g ≡ f) ⊎ IsMet layers g → HasWay m constraints g (layer_at known g)
    ways' g (inl e) = subst (λ x. HasWay m constraints x (layer_at known x)) (sym e)
        (subst (HasWay m constraints f) (sym at_f) way)
    ways' g (inr old) = subst (HasWay m constraints g) (sym (kept g old)) (s.ways g old)

    -- no face that was reached has a layer above the one that f gets
    low' : (g : ℕ) → (g ≡ f) ⊎ IsMet layers g → layer_at known g ≤ layer
    low' g (inl e) = let at = ap (layer_at known) e in omega (arith, at, at_f)
    low' g (inr old) = let at = kept g old in let low = s.low g old in omega (arith, at, low)

    none_more : (n : ℕ) → layer + 0 ≡ layer
    none_more n = omega arith

    pub reached : IsLayered m constraints known now' later' layer
    reached =
        let less = one_less layers f layer within new small in
        let same = length-set layers f layer in
        let bound = s.bound in
        record {
          count = same ∙ s.count;
          ways = λ g seen. ways' g (seen_before g seen);
          low = λ g seen. low' g (seen_before g seen);
          now_due = λ h c. elim (l.now_only h c) [
            | inl d ↦ due_kept h layer (s.now_due h d)
            | inr w ↦ subst (λ (k : ℕ). IsDue m constraints known h k) (none_more 0)
                (due_side h 0 w.0 w.1)
          ];
          later_due = λ h c. elim (l.later_only h c) [
            | inl d ↦ due_kept h (layer + 1) (s.later_due h d)
            | inr w ↦ due_side h 1 w.0 w.1
          ];
          complete = λ h w seen. complete' h w (seen_before (face m h) seen);
          bound = omega (arith, less, same, bound);
          more = λ some. omega (arith, less, same, bound);
        }

  -- a search with no edge left is at its end
  pub all_found : (layers : List ℕ) (layer : ℕ) → IsLayered m constraints layers [] [] layer
      → layer_at layers 0 ≡ 0 → IsFound m constraints layers
  all_found layers layer s outer = record {
    count = s.count;
    outer = outer;
    ways = s.ways;
    crossed = λ h w seen. elim (s.complete h w seen) [
      | inl c ↦ absurd (none_in h c)
      | inr (inl c) ↦ absurd (none_in h c)
      | inr (inr c) ↦ c
    ];
  }

-- with an edge that is taken there is less to do
pub taking_is_less : (old new : LayerSearch) → new.layers ≡ old.layers → (h : ℕ)
    → TakesNow h old.now.items old.later.items old.layer new.now.items new.later.items new.layer
    ⊎ TakesLater h old.now.items old.later.items old.layer new.now.items new.later.items new.layer
    → work_left new.layers.items new.now.items new.later.items
    < work_left old.layers.items old.now.items old.later.items
taking_is_less old new same h (inl t) =
    let u = ap (λ v. left_unseen v.items) same in
    let n = ap length t.taken ∙ length-append new.now.items (h ∷ []) in
    let l = ap length t.later_stays in
    omega (arith, u, n, l)
taking_is_less old new same h (inr t) =
    let u = ap (λ v. left_unseen v.items) same in
    let n = ap length t.taken ∙ length-append new.now.items (h ∷ []) in
    let l = ap length t.empty in
    let k = ap length t.none in
    omega (arith, u, n, l, k)

-- what stands at the place of a face, whatever is read past the end
pub stands_at : (layers : List ℕ) (f i n : ℕ) → i ≡ f → f < length layers
    → n ≡ get_or layers i n → layer_at layers f ≡ n
stands_at layers f i n e w at =
    get_or_any layers f unseen n w ∙ ap (λ k. get_or layers k n) (sym e) ∙ sym at

-- ---- the search
-- it begins with the outer face
pub search_begins : {V D U F : Type 0} {c : Contents V D U F} {constraints : List ℕ} {n : ℕ}
    {layers : List ℕ} {given new : LayerSearch} → IsMeshWithData c → n ≡ length c.faces + 1
    → n ≤ MAX_ELEMENTS → layers ≡ replicate n unseen → given.layers.items ≡ set layers 0 0
    → given.now.items ≡ [] → given.later.items ≡ [] → given.layer ≡ 0
    → PutsIn constraints (IsSideOf c.mesh 0) given new
    → IsSearching c constraints new.layers.items new.now.items new.later.items new.layer
search_begins {c = c} {constraints = constraints} {n = n} {layers = layers} {new = new} whole count
    small all first none none_later start puts = subst
    (λ (x : List ℕ × ℕ). IsSearching c constraints x.0 new.now.items new.later.items x.1)
    (λ i. (sym known i, sym (puts.layer ∙ start) i)) (record {
      whole = whole;
      few = let is = many in omega (arith, is, small);
      layered = reached c.mesh constraints (replicate (length c.mesh.face_edges + 1) unseen) [] []
          new.now.items new.later.items 0 0
          (nothing_seen c.mesh constraints (length c.mesh.face_edges + 1) refl) some
          (all_unseen (length c.mesh.face_edges + 1) 0) (omega arith) ([], refl, refl)
          (subst (λ (x : List ℕ × List ℕ). Lists constraints (IsSideOf c.mesh 0) x.0 x.1
          new.now.items new.later.items) (λ i. (none i, none_later i)) puts.lists);
      outer =
          get_or-set_same (replicate (length c.mesh.face_edges + 1) unseen) 0 0 unseen some;
    })
  where
    many : n ≡ length c.mesh.face_edges + 1
    many = let fit = whole.fits.faces_fit in omega (arith, fit, count)

    some : 0 < length (replicate (length c.mesh.face_edges + 1) unseen)
    some = let size = length-replicate (length c.mesh.face_edges + 1) unseen in omega (arith, size)

    known : new.layers.items ≡ set (replicate (length c.mesh.face_edges + 1) unseen) 0 0
    known = ap (λ v. v.items) puts.layers ∙ first
        ∙ ap (λ xs. set xs 0 0) (all ∙ ap (λ k. replicate k unseen) many)

-- where a layer is still to come, this one is not the last number
pub next_fits : {V D U F : Type 0} {c : Contents V D U F} {constraints layers now later : List ℕ}
    {layer : ℕ} → IsSearching c constraints layers now later layer → 0 < length later
    → layer < unseen
next_fits s some =
    let more = s.layered.more some in let count = s.layered.count in let few = s.few in
    omega (arith, more, count, few)

-- while no layer changes, only the lists count
still : {V D U F : Type 0} {c : Contents V D U F}
    {constraints layers now later now' later' : List ℕ} {layer layer' : ℕ}
    → IsSearching c constraints layers now later layer
    → IsLayered c.mesh constraints layers now' later' layer'
    → IsSearching c constraints layers now' later' layer'
still s layered =
    record { whole = s.whole; few = s.few; layered = layered; outer = s.outer }

-- the next edge is taken
pub search_takes : {V D U F : Type 0} {c : Contents V D U F} {constraints : List ℕ}
    (old new : LayerSearch) → new.layers ≡ old.layers → (h : ℕ)
    → TakesNow h old.now.items old.later.items old.layer new.now.items new.later.items new.layer
    ⊎ TakesLater h old.now.items old.later.items old.layer new.now.items new.later.items new.layer
    → IsSearching c constraints old.layers.items old.now.items old.later.items old.layer
    → IsSearching c constraints new.layers.items (new.now.items ++ h ∷ []) new.later.items
    new.layer
search_takes {c = c} {constraints = constraints} old new same h takes s = subst
    (λ v. IsSearching c constraints v.items (new.now.items ++ h ∷ []) new.later.items new.layer)
    (sym same) (go takes)
  where
    go : TakesNow h old.now.items old.later.items old.layer new.now.items new.later.items new.layer
        ⊎ TakesLater h old.now.items old.later.items old.layer new.now.items new.later.items
        new.layer → IsSearching c constraints old.layers.items (new.now.items ++ h ∷ [])
        new.later.items new.layer
    go (inl t) = subst
        (λ (x : List ℕ × List ℕ × ℕ). IsSearching c constraints old.layers.items x.0 x.1 x.2)
        (λ i. (t.taken i, sym t.later_stays i, sym t.layer_stays i)) s
    go (inr t) = subst
        (λ (x : List ℕ × List ℕ × ℕ). IsSearching c constraints old.layers.items x.0 x.1 x.2)
        (λ i. (t.taken i, sym t.empty i, sym t.next i))
        (still s (next_layer c.mesh constraints old.layers.items old.later.items old.layer
        (subst (λ xs. IsLayered c.mesh constraints old.layers.items xs old.later.items old.layer)
        t.none s.layered)
        (let n = ap length t.taken ∙ length-append new.now.items (h ∷ []) in omega (arith, n))))

-- an edge that was taken is crossed
module _ {V D U F : Type 0} {c : Contents V D U F} {constraints : List ℕ} (s : LayerSearch) (h : ℕ)
    (searching : IsSearching c constraints s.layers.items (s.now.items ++ h ∷ []) s.later.items
    s.layer) where
  leads : (h < length c.mesh.half_edges) × (face c.mesh (rev h) < length s.layers.items)
  leads =
      let within = (searching.layered.now_due h (Contains-push s.now.items h)).within in
      let sound = searching.whole.valid.sound in
      let listed = (sound.edges (rev h)
      (rev_within h (length c.mesh.half_edges) sound.even within)).face_in in
      let count = searching.layered.count in
      (within, omega (arith, listed, count))

  pub edge_there : h < length c.directed
  edge_there = subst (λ (n : ℕ). h < n) (sym searching.whole.fits.directed_fit) leads.0

  module _ {f n : ℕ} (is : f ≡ face c.mesh (rev h)) (read : n ≡ get_or s.layers.items f n) where
    -- to a face that was reached
    pub crossing_passes : n ≢ unseen → IsSearching c constraints s.layers.items s.now.items
        s.later.items s.layer
    crossing_passes known = still searching (passed c.mesh constraints s.layers.items s.now.items
        s.later.items s.layer h searching.layered (λ e. known
        (sym (stands_at s.layers.items (face c.mesh (rev h)) f n is leads.1 read) ∙ e)))

    -- to one that was not, which gets this layer, and whose edges are listed
    module _ (new : n ≡ unseen) where
      within : f < length s.layers.items
      within = let there = leads.1 in omega (arith, there, is)

      unseen_there : layer_at s.layers.items f ≡ unseen
      unseen_there = stands_at s.layers.items f f n refl within read ∙ new

      small : s.layer < unseen
      small = let count = searching.layered.count in let bound = searching.layered.bound in
          let few = searching.few in
          let left = one_less s.layers.items f 0 within unseen_there (omega arith) in
          omega (arith, count, bound, few, left)

      inner : f ≢ 0
      inner e = let at = ap (layer_at s.layers.items) e in let outer = searching.outer in
          omega (arith, at, outer, unseen_there)

      few_faces : f ≤ length c.mesh.face_edges
      few_faces = let count = searching.layered.count in omega (arith, count, within)

      due : IsDue c.mesh constraints s.layers.items h s.layer
      due = searching.layered.now_due h (Contains-push s.now.items h)

      way : HasWay c.mesh constraints f s.layer
      way = subst (λ x. HasWay c.mesh constraints x s.layer) (sym is)
          (subst (HasWay c.mesh constraints (face c.mesh (rev h))) due.due
          (way_on c.mesh constraints h (layer_at s.layers.items (face c.mesh h)) due.within
          (searching.layered.ways (face c.mesh h) due.seen)))

      seen : IsMet (set s.layers.items f s.layer) f
      seen e = let at = get_or-set_same s.layers.items f s.layer unseen within in
          omega (arith, e, at, small)

      pub crossing_steps : (one two three : LayerSearch) {e1 e2 e3 : ℕ} → e1 ≡ face_edge c.mesh f
          → e2 ≡ next c.mesh (face_edge c.mesh f) → e3 ≡ prev c.mesh (face_edge c.mesh f)
          → Lists constraints (λ g. g ≡ e1) s.now.items s.later.items one.now.items one.later.items
          → Lists constraints (λ g. g ≡ e2) one.now.items one.later.items two.now.items
          two.later.items → three.layers.items ≡ set s.layers.items f s.layer
          → three.layer ≡ s.layer
          → Lists constraints (λ g. g ≡ e3) two.now.items two.later.items three.now.items
          three.later.items → IsSearching c constraints three.layers.items three.now.items
          three.later.items three.layer
      crossing_steps one two three {e1 = e1} {e2 = e2} {e3 = e3} p q r a b layers layer d = subst
          (λ (x : List ℕ × ℕ). IsSearching c constraints x.0 three.now.items three.later.items x.1)
          (λ i. (sym layers i, sym layer i)) (record {
            whole = searching.whole;
            few = searching.few;
            layered = passed c.mesh constraints (set s.layers.items f s.layer) three.now.items
                three.later.items s.layer h (reached c.mesh constraints s.layers.items
                (s.now.items ++ h ∷ []) s.later.items (three.now.items ++ h ∷ [])
                three.later.items s.layer f searching.layered within unseen_there small way
                (lists_beside (IsSideOf c.mesh f) s.now.items s.later.items
                three.now.items three.later.items h sides))
                (subst (IsMet (set s.layers.items f s.layer)) is seen);
            outer = get_or-set_other s.layers.items f 0 s.layer unseen (λ e. inner (sym e))
                ∙ searching.outer;
          })
        where
          sides : Lists constraints (IsSideOf c.mesh f) s.now.items s.later.items three.now.items
              three.later.items
          sides = lists_as (λ g. ((g ≡ e1) ⊎ (g ≡ e2)) ⊎ (g ≡ e3)) (IsSideOf c.mesh f)
              (λ g. subst (λ (x : ℕ × ℕ × ℕ). (((g ≡ x.0) ⊎ (g ≡ x.1)) ⊎ (g ≡ x.2))
              ↔ IsSideOf c.mesh f g) (λ i. (sym p i, sym q i, sym r i))
              (three_sides c.mesh searching.whole.valid.sound f g (omega (arith, inner)) few_faces))
              (lists_both (λ g. (g ≡ e1) ⊎ (g ≡ e2)) (λ g. g ≡ e3)
              (lists_both (λ g. g ≡ e1) (λ g. g ≡ e2) a b) d)
