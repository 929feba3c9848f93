-- The vertices of a list, each with its place and its key, before and after their sort.
-- Notions: key_of, IsTrueOf, AreKeyed; key_by, none_keyed, one_keyed, sorted_is_listed.
use Rattle.std.proofs.Common.{◌≡◌, ◌+◌, ◌-◌, ◌<◌, ◌≤◌, [], ◌∷◌, ◌++◌, ◌∙◌}
use Rattle.std.proofs.Common.{ℕ, ℤ, Bool, zero, suc, List, length, map, Some, false}
use Rattle.std.proofs.Common.{rules, sym, ap, subst, refl, arith, append_assoc, length-append}
use Rattle.std.proofs.Common.{w64, to_z, of_z}
use Rattle.std.specs.Int.RustNames.{FitsSigned}
use Rattle.std.proofs.lemmas.Int.{to_z-of_z}
use Rattle.std.specs.Prelude.{All, IsPermutation, slice_get, slice_index_or}
use Rattle.std.specs.Ordering.{nat_cmp, is_lt}
use Rattle.std.specs.List.Sorted.{IsNonDecreasingBy, IsSortedByKey, IsStableByKey}
use Rattle.std.proofs.lemmas.Bool.{le-ltb}
use Rattle.std.proofs.lemmas.List.{length_push, length-map, map-append, get_or_append_left}
use Rattle.std.proofs.lemmas.List.{get_or_push, get_or-map}
use Rattle.std.proofs.lemmas.List.Elements.{All-map, All-push, All-weaker}
use Rattle.std.proofs.lemmas.List.Sorted.{IsNonDecreasingBy-push}
use Rattle.std.proofs.lemmas.List.Sorted.{IsPermutation-map, All-permutation, ties_still_rise}
use Rattle.std.proofs.lemmas.Option.{slice_get-get_or}
use Rattle.plane.specs.{Point}
use Rattle.delaunay_extensions.specs.{Curve.order_key, declared.order.Keyed.Keyed}
use Rattle.delaunay_extensions.specs.Order.{entry_of, IsListed, IsOrder}
use Rattle.delaunay_extensions.proofs.Orders.{no_place, one_place_more, reordered}

-- where keys do not fall, and places do not fall where two neighbours have one key, places do not
-- fall from any entry to a later one of the same key
far_ties : {X : Type 0} (n m : X → ℕ) (ys : List X) → IsNonDecreasingBy n ys
    → ((k : ℕ) (d : X) → k + 1 < length ys
    → n (slice_index_or ys k d) ≡ n (slice_index_or ys (k + 1) d)
    → m (slice_index_or ys k d) ≤ m (slice_index_or ys (k + 1) d))
    → (i k j : ℕ) (d : X) → i + k ≡ j → j < length ys
    → n (slice_index_or ys i d) ≡ n (slice_index_or ys j d)
    → m (slice_index_or ys i d) ≤ m (slice_index_or ys j d)
far_ties n m ys up near i zero j d is within same =
    let e : i ≡ j = omega (arith, is) in
    subst (λ (k : ℕ). m (slice_index_or ys i d) ≤ m (slice_index_or ys k d)) e (omega arith)
far_ties {X} n m ys up near i (suc k) j d is within same =
    let e : j ≡ (i + k) + 1 = omega (arith, is) in
    let moved : n (slice_index_or ys i d) ≡ n (slice_index_or ys ((i + k) + 1) d) =
    same ∙ ap (λ (a : ℕ). n (slice_index_or ys a d)) e in
    let low : n (slice_index_or ys i d) ≤ n (slice_index_or ys (i + k) d) =
    up i (i + k) d (omega arith) (omega (arith, is, within)) in
    let high : n (slice_index_or ys (i + k) d) ≤ n (slice_index_or ys ((i + k) + 1) d) =
    up (i + k) ((i + k) + 1) d (omega arith) (omega (arith, is, within)) in
    let before : m (slice_index_or ys i d) ≤ m (slice_index_or ys (i + k) d) =
    far_ties n m ys up near i k (i + k) d refl (omega (arith, is, within))
    (omega (arith, low, high, moved)) in
    let step : m (slice_index_or ys (i + k) d) ≤ m (slice_index_or ys ((i + k) + 1) d) =
    near (i + k) d (omega (arith, is, within)) (omega (arith, low, high, moved)) in
    subst (λ (a : ℕ). m (slice_index_or ys i d) ≤ m (slice_index_or ys a d)) (sym e)
    (omega (arith, before, step))

not_less : (a b : ℕ) → b ≤ a → is_lt (nat_cmp a b) ≡ false
not_less a b le = rw (le-ltb a b le) (search rules)

-- numbers that do not fall are sorted
sorted_from_rise : {X : Type 0} (n : X → ℕ) (xs : List X) → IsNonDecreasingBy n xs
    → IsSortedByKey n nat_cmp xs
sorted_from_rise n xs up k d low within =
    not_less (n (slice_index_or xs (k + 1) d)) (n (slice_index_or xs k d))
    (up k (k + 1) d (omega arith) within)

-- a key by the coordinates of the position
pub key_by : (is_line : Bool) {key : ℕ} {x y : ℤ} {q p : Point}
    → key ≡ order_key is_line (to_z w64 (of_z w64 x)) (to_z w64 (of_z w64 y)) → FitsSigned w64 x
    → FitsSigned w64 y → x ≡ q.x → y ≡ q.y → q ≡ p → key ≡ order_key is_line p.x p.y
key_by is_line {x = x} {y = y} {q = q} is fits_x fits_y at_x at_y same =
    let near_x = to_z-of_z w64 x fits_x ∙ at_x in let near_y = to_z-of_z w64 y fits_y ∙ at_y in
    is ∙ ap (λ (z : ℤ × ℤ). order_key is_line z.0 z.1) (λ i. (near_x i, near_y i))
    ∙ ap (λ (r : Point). order_key is_line r.x r.y) same

module _ {V : Type 0} (place : V → Point) (is_line : Bool) where
  -- the key of a vertex
  abbrev pub key_of : V → ℕ
  key_of v = order_key is_line (place v).x (place v).y

  -- an entry is of the vertex at its place in a list
  pub record IsTrueOf (vertices : List V) (p : Keyed V) : Type 0 where
    pub there : slice_get vertices p.place ≡ Some p.vertex
    pub key : p.key ≡ key_of p.vertex

  -- the first vertices of a list have their entries, in their order, and these are left
  pub record AreKeyed (vertices left : List V) (keyed : List (Keyed V)) : Type 0 where
    pub before : List V
    pub split : vertices ≡ before ++ left
    pub so_many : length before ≡ length keyed
    pub order : IsOrder (length keyed) (map (λ p. p.place) keyed)
    pub true_of : All (IsTrueOf vertices) keyed
    pub rise : IsNonDecreasingBy (λ (p : Keyed V). p.place) keyed

  pub none_keyed : (vertices left : List V) (keyed : List (Keyed V)) → left ≡ vertices
      → keyed ≡ [] → AreKeyed vertices left keyed
  none_keyed vertices left keyed all none =
      subst (λ (ps : List (Keyed V)). AreKeyed vertices left ps) (sym none) (record {
        before = [];
        split = sym all;
        so_many = refl;
        order = no_place;
        true_of = λ k d b. absurd (omega (arith, b));
        rise = λ i j d le b. absurd (omega (arith, b));
      })

  module _ {vertices left rest : List V} {keyed : List (Keyed V)} {v : V} {e : Keyed V}
      (is : left ≡ v ∷ rest) (a : AreKeyed vertices left keyed) (key : e.key ≡ key_of v)
      (at : e.place ≡ length keyed) (vertex : e.vertex ≡ v) where
    split_later : vertices ≡ (a.before ++ v ∷ []) ++ rest
    split_later = a.split ∙ ap (λ (xs : List V). a.before ++ xs) is
        ∙ sym (append_assoc a.before (v ∷ []) rest)

    -- the vertex is in the list, at the number of entries
    read : slice_get vertices (length keyed) ≡ Some v
    read =
        let size : length vertices ≡ (length a.before + 1) + length rest =
        ap (λ (xs : List V). length xs) split_later ∙ length-append (a.before ++ v ∷ []) rest
        ∙ ap (λ (n : ℕ). n + length rest) (length_push a.before v) in
        let many = a.so_many in
        slice_get-get_or vertices (length keyed) v (omega (arith, size, many))
        ∙ ap Some (ap (λ (xs : List V). slice_index_or xs (length keyed) v) split_later
        ∙ get_or_append_left (a.before ++ v ∷ []) rest v (length keyed)
        (omega (arith, many, length_push a.before v))
        ∙ get_or_push a.before v v (length keyed) many)

    last_below : (d : Keyed V) → 0 < length keyed
        → (slice_index_or keyed (length keyed - 1) d).place ≤ e.place
    last_below d some =
        let below = a.order.below (length keyed - 1) 0
        (omega (arith, some, length-map keyed (λ (p : Keyed V). p.place))) in
        let same = get_or-map (λ (p : Keyed V). p.place) keyed (length keyed - 1) d 0
        (omega (arith, some)) in
        omega (arith, below, same, at)

    one_more : AreKeyed vertices rest (keyed ++ e ∷ [])
    one_more = record {
      before = a.before ++ v ∷ [];
      split = split_later;
      so_many = let many = a.so_many in
          omega (arith, length_push a.before v, length_push keyed e, many);
      order = subst (λ (n : ℕ). IsOrder n (map (λ p. p.place) (keyed ++ e ∷ [])))
          (sym (length_push keyed e)) (subst (λ (xs : List ℕ). IsOrder (length keyed + 1) xs)
          (sym (map-append (λ (p : Keyed V). p.place) keyed (e ∷ [])
          ∙ ap (λ (n : ℕ). map (λ (p : Keyed V). p.place) keyed ++ n ∷ []) at))
          (one_place_more (length keyed) (map (λ p. p.place) keyed) a.order));
      true_of = All-push (IsTrueOf vertices) keyed e a.true_of (record {
        there = ap (slice_get vertices) at ∙ read ∙ ap Some (sym vertex);
        key = key ∙ ap key_of (sym vertex);
      });
      rise = IsNonDecreasingBy-push (λ (p : Keyed V). p.place) keyed e a.rise last_below;
    }

    pub one_keyed : {more : List (Keyed V)} → more ≡ keyed ++ e ∷ []
        → AreKeyed vertices rest more
    one_keyed pushed = subst (λ (ps : List (Keyed V)). AreKeyed vertices rest ps) (sym pushed)
        one_more

  fused : (ps : List (Keyed V))
      → map (λ (e : ℕ × V). e.0) (map entry_of ps) ≡ map (λ (p : Keyed V). p.place) ps
  fused [] = refl
  fused (p ∷ ps) = ap (λ (ns : List ℕ). p.place ∷ ns) (fused ps)

  module _ {vertices left : List V} {keyed sorted : List (Keyed V)}
      (a : AreKeyed vertices left keyed) (none : length left ≡ 0)
      (moved : IsPermutation keyed sorted)
      (up : IsNonDecreasingBy (λ (p : Keyed V). p.key) sorted)
      (stable : IsStableByKey (λ (p : Keyed V). p.key) nat_cmp keyed sorted) where
    still_true : All (IsTrueOf vertices) sorted
    still_true = All-permutation (IsTrueOf vertices) keyed sorted moved a.true_of

    rise_at : (i j : ℕ) (d : Keyed V) → i < j → j < length sorted
        → place (slice_index_or sorted i d).vertex ≡ place (slice_index_or sorted j d).vertex
        → (slice_index_or sorted i d).place ≤ (slice_index_or sorted j d).place
    rise_at i j d less within same = far_ties (λ (p : Keyed V). p.key)
        (λ (p : Keyed V). p.place) sorted up
        (ties_still_rise (λ (p : Keyed V). p.place) (λ (p : Keyed V). p.key) keyed sorted
        (sorted_from_rise (λ (p : Keyed V). p.place) keyed a.rise) stable)
        i (j - i) j d (omega (arith, less)) within
        ((still_true i d (omega (arith, less, within))).key
        ∙ ap (λ (q : Point). order_key is_line q.x q.y) same ∙ sym (still_true j d within).key)

    pub sorted_is_listed : IsListed place vertices (map entry_of sorted)
    sorted_is_listed = record {
      places =
          let many = a.so_many in
          let size : length vertices ≡ length a.before + length left =
          ap (λ (xs : List V). length xs) a.split ∙ length-append a.before left in
          let e : length keyed ≡ length vertices = omega (arith, size, many, none) in
          subst (λ (n : ℕ). IsOrder n (map (λ (e : ℕ × V). e.0) (map entry_of sorted))) e
          (subst (λ (ns : List ℕ). IsOrder (length keyed) ns) (sym (fused sorted))
          (reordered (length keyed) (map (λ (p : Keyed V). p.place) keyed)
          (map (λ (p : Keyed V). p.place) sorted)
          (IsPermutation-map (λ (p : Keyed V). p.place) keyed sorted moved) a.order));
      there = All-map (λ (e : ℕ × V). slice_get vertices e.0 ≡ Some e.1) entry_of sorted
          (All-weaker (IsTrueOf vertices)
          (λ (p : Keyed V). slice_get vertices p.place ≡ Some p.vertex)
          (λ p t. t.there) sorted still_true);
      rise = λ i j d less within.
          let inside : j < length sorted = omega (arith, within, length-map sorted entry_of) in
          let p : Keyed V = record { key = 0; place = d.0; vertex = d.1 } in
          let one = get_or-map entry_of sorted i p d (omega (arith, less, inside)) in
          let two = get_or-map entry_of sorted j p d inside in
          λ same. subst (λ (e : ℕ × V). e.0 ≤ (slice_index_or (map entry_of sorted) j d).0)
          (sym one) (subst (λ (f : ℕ × V). (slice_index_or sorted i p).place ≤ f.0) (sym two)
          (rise_at i j p less inside
          (sym (ap (λ (e : ℕ × V). place e.1) one) ∙ same ∙ ap (λ (e : ℕ × V). place e.1) two)));
    }
