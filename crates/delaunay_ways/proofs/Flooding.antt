-- Labels of vertices, as a flood along sides of free faces gives them.
-- Notions: is_or_not, none_some, some_is, some_or_none, true_or_not, flood_begins, flood_gives, Gave,
-- gives_had, flood_starts, flood_passes, flood_takes, vertices_apart,
-- face_had, face_gets.
use Rattle.std.proofs.Common.{◌≡◌, ◌≢◌, ◌⊎◌, ◌+◌, ◌<◌, ◌≤◌, [], ◌∷◌, ◌++◌, ◌∙◌, ℕ, Bool}
use Rattle.std.proofs.Common.{List, sym, subst, arith, ap, refl, inl, inr, true, false, get_or, set}
use Rattle.std.proofs.Common.{length, map, zero, suc, get_or-set_other, get_or-set_same, IsTrue}
use Rattle.std.specs.Prelude.{cond, Contains, is_some, replicate, Option, None, Some}
use Rattle.std.proofs.lemmas.List.{get_or_past, length-replicate, length-set, length-append}
use Rattle.std.proofs.lemmas.List.Elements.{Contains-append_cases, Contains-append_left}
use Rattle.std.proofs.lemmas.List.Elements.{Contains-append_right}
use Rattle.std.proofs.lemmas.List.Sums.{sum_by-set}
use Rattle.plane.specs.{IsVertex, TilesHull, Triangulation, vertex}
use Rattle.{plane.proofs.same-refl, plane_theorems.specs.face_at, plane_theorems.specs.IsInFree}
use Rattle.plane_theorems.specs.{Ways.Chains.IsJoined, Ways.Links.IsLinked, Ways.Links.IsMarked}
use Rattle.plane_theorems.proofs.{Contains-cases, Contains-head, Contains-later, Contains-none}
use Rattle.plane_theorems.proofs.Ways.Trails.{apart_is_not_joined, corners_at_vertex}
use Rattle.delaunay_ways.specs.{GivesLabel, IsFlood, KeepsLabels, label_at, work_of}
use Rattle.delaunay_ways.specs.Parts.{Floods, had, has_none, HasFlooded, LabelsFace, new}
use Rattle.delaunay_ways.proofs.Joins.{joined_on, link_joins}

-- ---- numbers and labels
pub is_or_not : (v w : ℕ) → (v ≡ w) ⊎ (v ≢ w)
is_or_not v w = grind arith

pub none_some : (l : ℕ) (o : Option ℕ) → o ≡ None → o ≡ Some l → ⊥
none_some l None e f = cc
none_some l (Some k) e f = cc

pub some_is : (k l : ℕ) (o : Option ℕ) → o ≡ Some k → o ≡ Some l → k ≡ l
some_is k l None e f = cc
some_is k l (Some i) e f = cc

pub some_or_none : (o : Option ℕ) → ((l : ℕ) × (o ≡ Some l)) ⊎ (o ≡ None)
some_or_none None = inr refl
some_or_none (Some l) = inl (l, refl)

false_true : false ≡ true → ⊥
false_true e = cc

pub true_or_not : (b : Bool) → IsTrue b ⊎ ¬ IsTrue b
true_or_not true = inl refl
true_or_not false = inr false_true

abbrev is_same : ℕ → ℕ → Bool
is_same zero zero = true
is_same zero (suc n) = false
is_same (suc m) zero = false
is_same (suc m) (suc n) = is_same m n

is_same-refl : (n : ℕ) → is_same n n ≡ true
is_same-refl zero = refl
is_same-refl (suc n) = is_same-refl n

same_is : (m n : ℕ) → is_same m n ≡ true → m ≡ n
same_is zero zero e = refl
same_is zero (suc n) e = absurd (false_true e)
same_is (suc m) zero e = absurd (false_true e)
same_is (suc m) (suc n) e = ap suc (same_is m n e)

abbrev is_label : ℕ → Option ℕ → Bool
is_label l None = false
is_label l (Some k) = is_same k l

label_is : (l : ℕ) (o : Option ℕ) → is_label l o ≡ true → o ≡ Some l
label_is l None e = absurd (false_true e)
label_is l (Some k) e = ap (λ (i : ℕ). Some i) (same_is k l e)

mark_of : (l : ℕ) (labels : List (Option ℕ)) (v : ℕ)
    → get_or (map (is_label l) labels) v false ≡ is_label l (label_at labels v)
mark_of l [] v = refl
mark_of l (o ∷ os) zero = refl
mark_of l (o ∷ os) (suc v) = mark_of l os v

-- ---- the beginning
no_label : (n v : ℕ) → label_at (replicate n None) v ≡ None
no_label zero v = refl
no_label (suc n) zero = refl
no_label (suc n) (suc v) = no_label n v

pub flood_begins : (t : Triangulation) (free : ℕ → Bool) (labels : List (Option ℕ)) (left : List ℕ)
    → labels ≡ replicate (length t.points) None → left ≡ [] → IsFlood t free labels left 0
flood_begins t free labels left e f = record {
  count = ap length e ∙ length-replicate (length t.points) None;
  below = λ v k is. absurd (none v k is);
  same = λ v w k is. absurd (none v k is);
  followed = λ v w k is. absurd (none v k is);
  last = λ v k c. absurd (Contains-none v (subst (λ xs. Contains xs v) f c));
}
  where
    none : (v k : ℕ) → label_at labels v ≡ Some k → ⊥
    none v k is = none_some k (label_at labels v)
        (ap (λ os. label_at os v) e ∙ no_label (length t.points) v) is

-- ---- work
abbrev cost : Option ℕ → ℕ
cost o = cond (has_none o) 1 0

none_is_one : (o : Option ℕ) → o ≡ None → cost o ≡ 1
none_is_one None e = refl
none_is_one (Some l) e = absurd (none_some l (Some l) e refl)

pub less_work : (labels labels' : List (Option ℕ)) (left left' : List ℕ) (v l : ℕ)
    → v < length labels → GivesLabel labels left v l labels' left'
    → work_of labels' left' ≤ work_of labels left
less_work labels labels' left left' v l within (had k is e g) =
    subst (λ os. work_of os left' ≤ work_of labels left) (sym e)
    (subst (λ xs. work_of labels xs ≤ work_of labels left) (sym g) (omega arith))
less_work labels labels' left left' v l within (new bare e g) =
    subst (λ os. work_of os left' ≤ work_of labels left) (sym e)
    (subst (λ xs. work_of (set labels v (Some l)) xs ≤ work_of labels left) (sym g) fewer)
  where
    fewer : work_of (set labels v (Some l)) (left ++ v ∷ []) ≤ work_of labels left
    fewer =
        let moved = sum_by-set cost labels v (Some l) None within in
        let one = none_is_one (label_at labels v) bare in
        let more = length-append left (v ∷ []) in
        omega (arith, moved, one, more)

-- a vertex that has a label keeps it
pub gives_had : (labels : List (Option ℕ)) (left : List ℕ) (v l : ℕ) (o : Option ℕ)
    → o ≡ label_at labels v → is_some o ≡ true → GivesLabel labels left v l labels left
gives_had labels left v l None e f = absurd (false_true f)
gives_had labels left v l (Some k) e f = had k (sym e) refl refl

module _ (t : Triangulation) (free : ℕ → Bool) where
  -- ---- one label more
  module _ (labels : List (Option ℕ)) (todo : List ℕ) (w l : ℕ) (within : w < length labels)
      (bare : label_at labels w ≡ None) where
    abbrev labels' : List (Option ℕ)
    labels' = set labels w (Some l)

    here : label_at labels' w ≡ Some l
    here = get_or-set_same labels w (Some l) None within

    cases : (u k : ℕ) → label_at labels' u ≡ Some k
        → ((u ≡ w) × (k ≡ l)) ⊎ (label_at labels u ≡ Some k)
    cases u k is = go (is_or_not u w)
      where
        go : (u ≡ w) ⊎ (u ≢ w) → ((u ≡ w) × (k ≡ l)) ⊎ (label_at labels u ≡ Some k)
        go (inl e) = inl (
          e,
          some_is k l _ is (ap (label_at labels') e ∙ here),
        )
        go (inr n) = inr (sym (get_or-set_other labels w u (Some l) None n) ∙ is)

    kept : KeepsLabels labels labels'
    kept u k is = go (is_or_not u w)
      where
        go : (u ≡ w) ⊎ (u ≢ w) → label_at labels' u ≡ Some k
        go (inl e) = absurd (none_some k _ (ap (label_at labels) e ∙ bare) is)
        go (inr n) = get_or-set_other labels w u (Some l) None n ∙ is

    -- a vertex with no label gets the last one, and is left
    grows : (todo' : List ℕ) (n : ℕ) → n ≡ l + 1
        → ((x : ℕ) → Contains todo x → Contains todo' x) → Contains todo' w
        → ((x : ℕ) → Contains todo' x → Contains todo x ⊎ (x ≡ w))
        → IsJoined t free (vertex t w) (vertex t w)
        → ((x : ℕ) → label_at labels x ≡ Some l → IsJoined t free (vertex t x) (vertex t w)
        × IsJoined t free (vertex t w) (vertex t x))
        → IsFlood t free labels todo n → IsFlood t free labels' todo' n
    grows todo' n last still put only itself joins f = record {
      count = length-set labels w (Some l) ∙ f.count;
      below = λ u k is. elim (cases u k is) [
        | inl e ↦ (let m = e.1 in omega (arith, m, last))
        | inr o ↦ f.below u k o
      ];
      same = λ u x k is it. both u x k (cases u k is) (cases x k it);
      followed = λ u x k is link. elim (cases u k is) [
        | inl e ↦ inl (subst (Contains todo') (sym e.0) put)
        | inr o ↦ elim (f.followed u x k o link) [
          | inl c ↦ inl (still u c)
          | inr g ↦ inr (kept x k g)
        ]
      ];
      last = λ u k c e. elim (only u c) [
        | inl d ↦ kept u k (f.last u k d e)
        | inr s ↦ subst (λ i. label_at labels' i ≡ Some k) (sym s)
            (here ∙ ap (λ (i : ℕ). Some i) (equal k e))
      ];
    }
      where
        equal : (k : ℕ) → n ≡ k + 1 → l ≡ k
        equal k e = omega (arith, e, last)

        both : (u x k : ℕ) → ((u ≡ w) × (k ≡ l)) ⊎ (label_at labels u ≡ Some k)
            → ((x ≡ w) × (k ≡ l)) ⊎ (label_at labels x ≡ Some k)
            → IsJoined t free (vertex t u) (vertex t x)
        both u x k (inl e) (inl g) = subst (λ i. IsJoined t free (vertex t i) (vertex t x)) (sym e.0)
            (subst (λ i. IsJoined t free (vertex t w) (vertex t i)) (sym g.0) itself)
        both u x k (inl e) (inr o) = subst (λ i. IsJoined t free (vertex t i) (vertex t x)) (sym e.0)
            (joins x (o ∙ ap (λ (i : ℕ). Some i) e.1)).1
        both u x k (inr o) (inl g) = subst (λ i. IsJoined t free (vertex t u) (vertex t i)) (sym g.0)
            (joins u (o ∙ ap (λ (i : ℕ). Some i) g.1)).0
        both u x k (inr o) (inr q) = f.same u x k o q

  labelled_within : (labels : List (Option ℕ)) (v k : ℕ) → label_at labels v ≡ Some k
      → v < length labels
  labelled_within labels v k is = go (less v (length labels))
    where
      less : (v n : ℕ) → (v < n) ⊎ (n ≤ v)
      less v n = grind arith

      go : (v < length labels) ⊎ (length labels ≤ v) → v < length labels
      go (inl w) = w
      go (inr p) = absurd (none_some k _ (get_or_past labels v None p) is)

  swap_cases : (xs : List ℕ) (v w x : ℕ) → Contains (v ∷ xs ++ w ∷ []) x
      → Contains (v ∷ xs) x ⊎ (x ≡ w)
  swap_cases xs v w x c = elim (Contains-append_cases (v ∷ xs) (w ∷ []) x c) [
    | inl d ↦ inl d
    | inr d ↦ elim (Contains-cases w [] x d) [
      | inl e ↦ inr (sym e)
      | inr n ↦ absurd (Contains-none x n)
    ]
  ]

  -- a vertex that a side joins to v, from which the flood goes on, has the label of v or gets it
  pub record Gave (labels : List (Option ℕ)) (left : List ℕ) (labels' : List (Option ℕ))
      (left' : List ℕ) (v w l : ℕ) : Type 0 where
    pub flood : IsFlood t free labels' (v ∷ left') (l + 1)
    pub kept : KeepsLabels labels labels'
    pub here : label_at labels' w ≡ Some l
    pub work : work_of labels' left' ≤ work_of labels left

  module _ (hull : (n : ℕ) → n < length t.faces → TilesHull t) where
    linked_back : (v w : ℕ) → IsLinked t free v w → IsLinked t free w v
    linked_back v w (inl f) = inr f
    linked_back v w (inr f) = inl f

    pub flood_gives : (labels labels' : List (Option ℕ)) (left left' : List ℕ) (v w l : ℕ)
        → IsFlood t free labels (v ∷ left) (l + 1) → label_at labels v ≡ Some l
        → IsLinked t free v w → w < length labels → GivesLabel labels left w l labels' left'
        → Gave labels left labels' left' v w l
    flood_gives labels labels' left left' v w l f at link within (had k is e g) = record {
      flood = subst (λ os. IsFlood t free os (v ∷ left') (l + 1)) (sym e)
          (subst (λ xs. IsFlood t free labels (v ∷ xs) (l + 1)) (sym g) f);
      kept = λ u i it. subst (λ os. label_at os u ≡ Some i) (sym e) it;
      here = subst (λ os. label_at os w ≡ Some l) (sym e)
          (pick (f.followed w v k is (linked_back v w link)));
      work = less_work labels labels' left left' w l within (had k is e g);
    }
      where
        pick : Contains (v ∷ left) w ⊎ (label_at labels v ≡ Some k) → label_at labels w ≡ Some l
        pick (inl c) = f.last w l c refl
        pick (inr i) = is ∙ sym i ∙ at
    flood_gives labels labels' left left' v w l f at link within (new bare e g) = record {
      flood = subst (λ os. IsFlood t free os (v ∷ left') (l + 1)) (sym e)
          (subst (λ xs. IsFlood t free (set labels w (Some l)) (v ∷ xs) (l + 1)) (sym g)
          (grows labels (v ∷ left) w l within bare (v ∷ left ++ w ∷ []) (l + 1) refl
          (λ x c. Contains-append_left (v ∷ left) (w ∷ []) x c)
          (Contains-append_right (v ∷ left) (w ∷ []) w (Contains-head w []))
          (λ x c. swap_cases left v w x c)
          (joined_on t free (vertex t w) (vertex t v) (vertex t w) back there) joins f));
      kept = λ u i it. subst (λ os. label_at os u ≡ Some i) (sym e)
          (kept labels (v ∷ left) w l within bare u i it);
      here = subst (λ os. label_at os w ≡ Some l) (sym e)
          (here labels (v ∷ left) w l within bare);
      work = less_work labels labels' left left' w l within (new bare e g);
    }
      where
        there : IsJoined t free (vertex t v) (vertex t w)
        there = (link_joins t hull free v w link).0

        back : IsJoined t free (vertex t w) (vertex t v)
        back = (link_joins t hull free v w link).1

        joins : (x : ℕ) → label_at labels x ≡ Some l → IsJoined t free (vertex t x) (vertex t w)
            × IsJoined t free (vertex t w) (vertex t x)
        joins x is = (
          joined_on t free (vertex t x) (vertex t v) (vertex t w) (f.same x v l is at) there,
          joined_on t free (vertex t w) (vertex t v) (vertex t x) back (f.same v x l at is),
        )

    -- ---- what labels tell in the end
    contains_three : (v u : ℕ) → Contains (v ∷ v ∷ v ∷ []) u → v ≡ u
    contains_three v u c = elim (Contains-cases v (v ∷ v ∷ []) u c) [
      | inl e ↦ e
      | inr d ↦ elim (Contains-cases v (v ∷ []) u d) [
        | inl e ↦ e
        | inr b ↦ elim (Contains-cases v [] u b) [
          | inl e ↦ e
          | inr n ↦ absurd (Contains-none u n)
        ]
      ]
    ]

    -- vertices with different labels are not joined
    pub vertices_apart : (labels : List (Option ℕ)) (n v w k l : ℕ) → IsFlood t free labels [] n
        → label_at labels v ≡ Some k → label_at labels w ≡ Some l → k ≢ l
        → IsInFree t free (vertex t v) → IsInFree t free (vertex t w)
        → ¬ IsJoined t free (vertex t v) (vertex t w)
    vertices_apart labels n v w k l f is it differ ov ow =
        apart_is_not_joined t hull free (vertex t v) (vertex t w) (v ∷ v ∷ v ∷ [])
        (w ∷ w ∷ w ∷ []) v w (Contains-head v (v ∷ v ∷ [])) (Contains-head w (w ∷ w ∷ [])) ov ow
        (corners_at_vertex t hull v (vertex t v) (exists v k is) (same-refl (vertex t v)))
        (corners_at_vertex t hull w (vertex t w) (exists w l it) (same-refl (vertex t w))) (record {
          marks = map (is_label l) labels;
          followed = λ u x m link. marked x (next u x (f.followed u x l (told u m) link));
          begun = λ u c. marked u (subst (λ i. label_at labels i ≡ Some l) (contains_three w u c) it);
          none = λ u c m. differ (some_is k l _ is
              (ap (label_at labels) (contains_three v u c) ∙ told u m));
        })
      where
        exists : (u i : ℕ) → label_at labels u ≡ Some i → IsVertex t u
        exists u i at = let b = labelled_within labels u i at in let c = f.count in
            omega (arith, b, c)

        marked : (u : ℕ) → label_at labels u ≡ Some l → IsMarked (map (is_label l) labels) u
        marked u at = mark_of l labels u ∙ ap (is_label l) at ∙ is_same-refl l

        told : (u : ℕ) → IsMarked (map (is_label l) labels) u → label_at labels u ≡ Some l
        told u m = label_is l (label_at labels u) (sym (mark_of l labels u) ∙ m)

        next : (u x : ℕ) → Contains [] u ⊎ (label_at labels x ≡ Some l)
            → label_at labels x ≡ Some l
        next u x (inl c) = absurd (Contains-none u c)
        next u x (inr e) = e

  -- ---- a flood begins at a vertex with no label, with the next one
  pub flood_starts : (labels labels' : List (Option ℕ)) (left left' : List ℕ) (v n : ℕ)
      → IsFlood t free labels left n → left ≡ [] → label_at labels v ≡ None → v < length labels
      → IsJoined t free (vertex t v) (vertex t v) → GivesLabel labels left v n labels' left'
      → IsFlood t free labels' left' (n + 1) × KeepsLabels labels labels'
      × (label_at labels' v ≡ Some n)
  flood_starts labels labels' left left' v n f none bare within itself (had k is e g) =
      absurd (none_some k _ bare is)
  flood_starts labels labels' left left' v n f none bare within itself (new bare' e g) = (
    subst (λ os. IsFlood t free os left' (n + 1)) (sym e)
        (subst (λ xs. IsFlood t free (set labels v (Some n)) xs (n + 1)) (sym g)
        (grows labels left v n within bare (left ++ v ∷ []) (n + 1) refl
        (λ x c. Contains-append_left left (v ∷ []) x c)
        (Contains-append_right left (v ∷ []) v (Contains-head v [])) only itself
        (λ x is. absurd (unused x is)) more)),
    λ u i it. subst (λ os. label_at os u ≡ Some i) (sym e) (kept labels left v n within bare u i it),
    subst (λ os. label_at os v ≡ Some n) (sym e) (here labels left v n within bare),
  )
    where
      unused : (x : ℕ) → label_at labels x ≡ Some n → ⊥
      unused x is = let b = f.below x n is in omega (arith, b)

      nothing : (x : ℕ) → Contains left x → ⊥
      nothing x c = Contains-none x (subst (λ xs. Contains xs x) none c)

      only : (x : ℕ) → Contains (left ++ v ∷ []) x → Contains left x ⊎ (x ≡ v)
      only x c = elim (Contains-append_cases left (v ∷ []) x c) [
        | inl d ↦ inl d
        | inr d ↦ elim (Contains-cases v [] x d) [
          | inl s ↦ inr (sym s)
          | inr b ↦ absurd (Contains-none x b)
        ]
      ]

      more : IsFlood t free labels left (n + 1)
      more = record {
        count = f.count;
        below = λ u k is. let b = f.below u k is in omega (arith, b);
        same = f.same;
        followed = f.followed;
        last = λ u k c. absurd (nothing u c);
      }

  -- ---- the vertex from which it goes on
  -- where all vertices that are linked with v have its label, v is done
  pub flood_passes : (labels : List (Option ℕ)) (left : List ℕ) (v l n : ℕ)
      → IsFlood t free labels (v ∷ left) n → label_at labels v ≡ Some l
      → ((w : ℕ) → IsLinked t free v w → label_at labels w ≡ Some l) → IsFlood t free labels left n
  flood_passes labels left v l n f at all = record {
    count = f.count;
    below = f.below;
    same = f.same;
    followed = λ u w k is link. elim (f.followed u w k is link) [
      | inl c ↦ elim (Contains-cases v left u c) [
        | inl e ↦ inr (all w (subst (λ i. IsLinked t free i w) (sym e) link)
            ∙ sym at ∙ ap (label_at labels) e ∙ is)
        | inr d ↦ inl d
      ]
      | inr g ↦ inr g
    ];
    last = λ u k c. f.last u k (Contains-later v left u c);
  }

  -- the last of those that are left is taken
  pub flood_takes : (labels : List (Option ℕ)) (given left : List ℕ) (v n : ℕ)
      → IsFlood t free labels given n → given ≡ left ++ v ∷ []
      → IsFlood t free labels (v ∷ left) n
  flood_takes labels given left v n f e = record {
    count = f.count;
    below = f.below;
    same = f.same;
    followed = λ u w k is link. elim (f.followed u w k is link) [
      | inl c ↦ inl (there u (subst (λ xs. Contains xs u) e c))
      | inr g ↦ inr g
    ];
    last = λ u k c. f.last u k (subst (λ xs. Contains xs u) (sym e) (back u c));
  }
    where
      there : (u : ℕ) → Contains (left ++ v ∷ []) u → Contains (v ∷ left) u
      there u c = elim (Contains-append_cases left (v ∷ []) u c) [
        | inl d ↦ Contains-later v left u d
        | inr d ↦ elim (Contains-cases v [] u d) [
          | inl s ↦ subst (Contains (v ∷ left)) s (Contains-head v left)
          | inr b ↦ absurd (Contains-none u b)
        ]
      ]

      back : (u : ℕ) → Contains (v ∷ left) u → Contains (left ++ v ∷ []) u
      back u c = elim (Contains-cases v left u c) [
        | inl s ↦ subst (Contains (left ++ v ∷ [])) s
            (Contains-append_right left (v ∷ []) v (Contains-head v []))
        | inr d ↦ Contains-append_left left (v ∷ []) u d
      ]

-- ---- the label of a face
module _ (t : Triangulation) (free : ℕ → Bool) (labels : List (Option ℕ)) (left : List ℕ)
    (n m corner : ℕ) (is_free : IsTrue (free m)) (is : corner ≡ (face_at t m).a) where
  -- its first corner has a label
  pub face_had : HasFlooded t free labels left n → (l : ℕ) (o : Option ℕ)
      → label_at labels corner ≡ Some l → o ≡ Some l → LabelsFace t free labels labels m n n o
  face_had f l o at e = record {
    flood = subst (λ xs. IsFlood t free labels xs n) f.1 f.0;
    kept = λ v k it. it;
    closed = λ not. absurd (not is_free);
    labelled = λ it. (
      l,
      e,
      subst (λ v. label_at labels v ≡ Some l) is at,
      inl (f.0.below corner l at, refl),
    );
  }

  -- or gets the next one
  pub face_gets : (labels' : List (Option ℕ)) (left' : List ℕ) (n' : ℕ) (o : Option ℕ)
      → Floods t free labels corner n labels' left' n' → o ≡ Some n
      → LabelsFace t free labels labels' m n n' o
  face_gets labels' left' n' o f e = record {
    flood = subst (λ xs. IsFlood t free labels' xs n') f.flooded.1 f.flooded.0;
    kept = f.kept;
    closed = λ not. absurd (not is_free);
    labelled = λ it. (
      n,
      e,
      subst (λ v. label_at labels' v ≡ Some n) is f.here,
      inr (refl, f.more),
    );
  }
