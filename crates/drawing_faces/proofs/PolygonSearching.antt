-- A search for the polygons of faces: its beginning, its steps and its end.
-- Lemmas: begun, told, one_less, all_within, uneven_ways.
use Rattle.std.proofs.Common.{◌≡◌, ◌≢◌, ◌⊎◌, ◌+◌, ◌*◌, ◌/◌, ◌<◌, ◌≤◌, [], ◌∷◌, ◌++◌, ◌∙◌}
use Rattle.std.proofs.Common.{ℕ, zero, suc, Bool, true, false, List, length, map, set, get_or}
use Rattle.std.proofs.Common.{replicate}
use Rattle.std.proofs.Common.{refl, sym, ap, subst, inl, inr, arith}
use Rattle.std.specs.Prelude.{Option, Some, None, cond, IfNone, IfSome, is_some, not}
use Rattle.std.specs.List.{count_by}
use Rattle.std.proofs.lemmas.Bool.{cases_eq}
use Rattle.std.proofs.lemmas.List.{get_or-set_same, get_or-set_other, length-set}
use Rattle.std.proofs.lemmas.List.{length-replicate}
use Rattle.std.proofs.lemmas.List.Sums.{sum_by-set}
use Rattle.half_edge_links.specs.{face, Mesh, rev}
use Rattle.delaunay_extensions.specs.{Leads}
use Rattle.drawing_faces.specs.{either, has, IsDifference, IsSearch, label_at, list_at, work_left}
use Rattle.drawing_faces.specs.PolygonSearch.{AreEven, FitsAcross, GoesOn, has_none, HasParities}
use Rattle.drawing_faces.specs.PolygonSearch.{IsClosed, IsTold, IsUnevenAt}
use Rattle.drawing_faces.specs.Polygons.{AreUneven, AreWithin, is_odd, labelled, list_of}
use Rattle.drawing_faces.proofs.Parities.{either_false, either_swap, goes_across, way_across}

-- ---- values of tests
pub when_none : (P : Type 0) (r : Option ℕ) (b : Bool) → is_some r ≡ not b → b ≡ true
    → IfNone r P → P
when_none P None b is e p = p
when_none P (Some x) b is e p = absurd (let off = ap not e in cc)

pub when_some : (P : ℕ → Type 0) (r : Option ℕ) (b : Bool) → is_some r ≡ not b → b ≡ false
    → IfSome r P → (k : ℕ) × P k
when_some P None b is e p = absurd (let on = ap not e in cc)
when_some P (Some x) b is e p = (x, p)

pub not_none : (r l : Option ℕ) (b : Bool) → r ≡ l → is_some r ≡ not b → b ≡ false → l ≢ None
not_none r l b e is off none =
    let s = ap is_some (e ∙ none) in let on = ap not off in absurd (cc)

pub is_no_some : (r : Option ℕ) → is_some r ≡ false → r ≡ None
is_no_some None e = refl
is_no_some (Some x) e = absurd (cc)

pub true_of_not : (b : Bool) → not b ≡ false → b ≡ true
true_of_not true e = refl
true_of_not false e = absurd (cc)

pub below_last : (i h : ℕ) → h < i + 1 → (h < i) ⊎ (h ≡ i)
below_last i h w = elim (cases_eq h i) [
  | inl e ↦ inr e
  | inr apart ↦ inl (omega (arith, apart, w))
]

some_is_some : (i j : ℕ) → Some i ≡ Some j → i ≡ j
some_is_some i j e = cc

none_is_none : (i : ℕ) → Some i ≢ None
none_is_none i e = absurd (cc)

told_or_not : (l : Option ℕ) → (l ≡ None) ⊎ ((i : ℕ) × (l ≡ Some i))
told_or_not None = inl refl
told_or_not (Some i) = inr (i, refl)

none_at : (n f : ℕ) → label_at (replicate n None) f ≡ None
none_at zero f = refl
none_at (suc n) zero = refl
none_at (suc n) (suc f) = none_at n f

module _ (m : Mesh) (borders : ℕ → List ℕ) where
  -- only the outer face has a label
  pub begun : (labels : List (Option ℕ)) (n : ℕ) → labels ≡ replicate n None
      → n ≡ length m.face_edges + 1
      → IsSearch m borders (set labels 0 (Some 0)) ([] ∷ [])
  begun labels n are size = record {
    size = length-set labels 0 (Some 0) ∙ long;
    outer = first;
    bare = λ k. refl;
    within = λ f i e. let z = at_zero f i e in let w = z.1 in omega (arith, w);
    ways = λ f i e. let z = at_zero f i e in record {
      way = [];
      leads = sym z.0;
      odd = λ k. ap (λ j. has (list_at ([] ∷ []) j) k) z.1;
    };
  }
    where
      long : length labels ≡ length m.face_edges + 1
      long = ap length are ∙ length-replicate n None ∙ size

      first : label_at (set labels 0 (Some 0)) 0 ≡ Some 0
      first = get_or-set_same labels 0 (Some 0) None (omega (arith, long))

      at_zero : (f i : ℕ) → label_at (set labels 0 (Some 0)) f ≡ Some i → (f ≡ 0) × (i ≡ 0)
      at_zero f i e = elim (cases_eq f 0) [
        | inl z ↦ (z, some_is_some i 0 (sym e ∙ ap (label_at (set labels 0 (Some 0))) z ∙ first))
        | inr apart ↦ absurd (none_is_none i (sym e
            ∙ get_or-set_other labels 0 f (Some 0) None apart
            ∙ ap (λ ls. label_at ls f) are ∙ none_at n f))
      ]

  -- a face gets a label
  module _ (labels : List (Option ℕ)) (lists lists' : List (List ℕ)) (search : IsSearch m borders
      labels lists) (h i j : ℕ) (w : h < length m.half_edges)
      (small : face m (rev h) < length labels) (here : label_at labels (face m h) ≡ Some i)
      (new : label_at labels (face m (rev h)) ≡ None)
      (on : GoesOn lists i (borders (h / 2)) j lists') where
    abbrev pub g : ℕ
    g = face m (rev h)

    at_g : label_at (set labels g (Some j)) g ≡ Some j
    at_g = get_or-set_same labels g (Some j) None small

    off_g : (f : ℕ) → f ≢ g → label_at (set labels g (Some j)) f ≡ label_at labels f
    off_g f apart = get_or-set_other labels g f (Some j) None apart

    not_outer : 0 ≢ g
    not_outer z = none_is_none 0 (sym search.outer ∙ ap (label_at labels) z ∙ new)

    kept_way : (f l : ℕ) → label_at labels f ≡ Some l → HasParities m borders f (list_at lists' l)
    kept_way f l e = subst (HasParities m borders f) (sym (on.kept l (search.within f l e)))
        (search.ways f l e)

    pub told : IsSearch m borders (set labels g (Some j)) lists'
    told = record {
      size = length-set labels g (Some j) ∙ search.size;
      outer = off_g 0 not_outer ∙ search.outer;
      bare = λ k. ap (λ xs. has xs k) (on.kept 0 (search.within 0 0 search.outer))
          ∙ search.bare k;
      within = λ f l e. elim (cases_eq f g) [
        | inl is ↦ subst (λ (n : ℕ). n < length lists')
            (some_is_some j l (sym at_g ∙ ap (label_at (set labels g (Some j))) (sym is) ∙ e))
            on.within
        | inr apart ↦ let a = search.within f l (sym (off_g f apart) ∙ e) in let b = on.more in
            omega (arith, a, b)
      ];
      ways = λ f l e. elim (cases_eq f g) [
        | inl is ↦ subst (λ n. HasParities m borders f (list_at lists' n))
            (some_is_some j l (sym at_g ∙ ap (label_at (set labels g (Some j))) (sym is) ∙ e))
            (subst (λ n. HasParities m borders n (list_at lists' j)) (sym is)
            (goes_across m borders h (list_at lists i) (list_at lists' j) w
            (search.ways (face m h) i here) on.differs))
        | inr apart ↦ kept_way f l (sym (off_g f apart) ∙ e)
      ];
    }

  -- ---- the end
  module _ (labels : List (Option ℕ)) (lists : List (List ℕ)) (search : IsSearch m borders labels
      lists) where
    list_is : (f i : ℕ) → label_at labels f ≡ Some i → labelled labels lists f ≡ list_at lists i
    list_is f i e = ap (list_of lists) e

    module _ (closed : IsClosed m labels) (even : AreEven m borders labels lists) where
      follows : (hs : List ℕ) (f g k : ℕ) → IsTold labels f → Leads m hs f g
          → has (labelled labels lists g) k
          ≡ either (is_odd borders k hs) (has (labelled labels lists f) k)
      follows [] f g k t e = ap (λ n. has (labelled labels lists n) k) (sym e)
      follows (h ∷ hs) f g k t (w, at, rest) =
          let here : IsTold labels (face m h) = subst (IsTold labels) (sym at) t in
          follows hs (face m (rev h)) g k (closed h w here) rest
          ∙ ap (either (is_odd borders k hs)) (even h w here k)
          ∙ sym (either_swap (has (borders (h / 2)) k) (is_odd borders k hs)
          (has (labelled labels lists (face m h)) k))
          ∙ ap (λ n. either (either (has (borders (h / 2)) k) (is_odd borders k hs))
          (has (labelled labels lists n) k)) at

      pub all_within : AreWithin m borders (labelled labels lists)
      all_within = record {
        each = λ f k hs leads. follows hs 0 f k (λ e. none_is_none 0 (sym search.outer ∙ e)) leads
            ∙ ap (either (is_odd borders k hs)) (ap (λ xs. has xs k) (list_is 0 0 search.outer)
            ∙ search.bare k)
            ∙ either_false (is_odd borders k hs);
      }

    -- the ways to the faces at an edge
    pub uneven_ways : IsClosed m labels → IsUnevenAt m borders labels lists → AreUneven m borders
    uneven_ways closed u = elim (told_or_not (label_at labels (face m u.edge))) [
      | inl none ↦ absurd (u.told none)
      | inr some ↦ elim (told_or_not (label_at labels (face m (rev u.edge)))) [
        | inl none ↦ absurd (closed u.edge u.within u.told none)
        | inr next ↦ two some.0 next.0 some.1 next.1
      ]
    ]
      where
        two : (i j : ℕ) → label_at labels (face m u.edge) ≡ Some i
            → label_at labels (face m (rev u.edge)) ≡ Some j → AreUneven m borders
        two i j e d =
            let p = search.ways (face m u.edge) i e in
            let q = search.ways (face m (rev u.edge)) j d in
            let k = u.polygon in
            let on = way_across m borders u.edge (list_at lists i) u.within p in
            record {
              polygon = k;
              face = face m (rev u.edge);
              one = q.way;
              other = on.0;
              one_leads = q.leads;
              other_leads = on.1;
              differ = λ same. u.differ (ap (λ xs. has xs k) (list_is (face m (rev u.edge)) j d)
                  ∙ q.odd k ∙ same ∙ on.2 k
                  ∙ ap (λ xs. either (has xs k) (has (borders (u.edge / 2)) k))
                  (sym (list_is (face m u.edge) i e)));
            }

-- ---- an edge
module _ (m : Mesh) (borders : ℕ → List ℕ) (labels : List (Option ℕ)) (lists : List (List ℕ))
    (h : ℕ) (here sides next : List ℕ) (here_is : here ≡ labelled labels lists (face m h))
    (sides_are : sides ≡ borders (h / 2)) (next_is : next ≡ labelled labels lists (face m (rev h)))
  where
    between : (k : ℕ) → either (has here k) (has sides k)
        ≡ either (has (labelled labels lists (face m h)) k) (has (borders (h / 2)) k)
    between k = ap (λ xs. either (has xs k) (has sides k)) here_is
        ∙ ap (λ xs. either (has (labelled labels lists (face m h)) k) (has xs k)) sides_are

    pub fits_at : IsDifference here sides next → FitsAcross m borders labels lists h
    fits_at d k = ap (λ xs. has xs k) (sym next_is) ∙ d k ∙ between k

    pub uneven_at : h < length m.half_edges → IsTold labels (face m h)
        → (k : ℕ) × (has next k ≢ either (has here k) (has sides k))
        → IsUnevenAt m borders labels lists
    uneven_at w told (k, fault) = record {
      edge = h;
      polygon = k;
      within = w;
      told = told;
      differ = λ same. fault (ap (λ xs. has xs k) next_is ∙ same ∙ sym (between k));
    }

-- ---- what is left to do
abbrev cost : Option ℕ → ℕ
cost l = cond (has_none l) 1 0

-- one face less is left, and three edges more at most
pub less_left : (labels : List (Option ℕ)) (due due' : List ℕ) (f i : ℕ) → f < length labels
    → label_at labels f ≡ None → length due' ≤ length due + 3
    → work_left (set labels f (Some i)) due' < work_left labels due
less_left labels due due' f i w none few =
    let moved = sum_by-set (λ l. cond (has_none l) 1 0) labels f (Some i) None w in
    let was : cond (has_none (label_at labels f)) 1 0 ≡ 1 = ap cost none in
    omega (arith, moved, was, few)
