-- Labels of faces, face by face.
-- Notions: IsLabelling; labelling_begins, labelling_goes_on, labelling_ends.
use Rattle.std.proofs.Common.{◌≡◌, ◌≢◌, ◌⊎◌, ◌+◌, ◌<◌, ◌≤◌, [], ◌∷◌, ◌++◌, ◌∙◌, ℕ, Bool}
use Rattle.std.proofs.Common.{List, IsTrue, sym, subst, arith, ap, refl, inl, inr, length}
use Rattle.std.specs.Prelude.{Option, None, Some}
use Rattle.std.proofs.lemmas.List.{get_or_append_left, get_or_past, get_or_push, length-append}
use Rattle.plane.specs.{Fraction, TilesHull, Triangulation, vertex}
use Rattle.plane_theorems.specs.{face_at, IsInFree, Ways.Chains.IsJoined}
use Rattle.delaunay_ways.specs.{IsFlood, label_at}
use Rattle.delaunay_ways.specs.Parts.{AreLabels, IsInFreeFace, LabelsFace}
use Rattle.delaunay_ways.proofs.Flooding.{is_or_not, none_some, some_is, true_or_not}
use Rattle.delaunay_ways.proofs.Flooding.{vertices_apart}
use Rattle.delaunay_ways.proofs.Joins.{corner_in, face_sees, joined_on, sight_joins}

module _ (t : Triangulation) (free : ℕ → Bool) where
  -- the label of each of the first faces, the outer one before them, is that of its first corner
  pub record IsLabelling (labels faces : List (Option ℕ)) (n : ℕ) : Type 0 where
    pub flood : IsFlood t free labels [] n
    pub some : 0 < length faces
    pub outer : label_at faces 0 ≡ None
    pub closed : (m : ℕ) → m + 1 < length faces → ¬ IsTrue (free m)
        → label_at faces (m + 1) ≡ None
    pub labelled : (m : ℕ) → m + 1 < length faces → IsTrue (free m) → (l : ℕ)
        × (label_at faces (m + 1) ≡ Some l) × (label_at labels (face_at t m).a ≡ Some l)
    pub few : n + 1 ≤ length faces
    pub used : (k : ℕ) → k < n → (j : ℕ) × (j < length faces) × (label_at faces j ≡ Some k)
    pub in_turn : (i k l : ℕ) → label_at faces i ≡ Some l → k < l
        → (j : ℕ) × (j < i) × (label_at faces j ≡ Some k)

  pub labelling_begins : (labels faces : List (Option ℕ)) (n : ℕ) → n ≡ 0
      → IsFlood t free labels [] n → faces ≡ None ∷ [] → IsLabelling labels faces n
  labelling_begins labels faces n zero f e = subst (λ fs. IsLabelling labels fs n) (sym e) (record {
    flood = f;
    some = omega arith;
    outer = refl;
    closed = λ m w. absurd (omega (arith, w));
    labelled = λ m w. absurd (omega (arith, w));
    few = omega (arith, zero);
    used = λ k w. absurd (omega (arith, w, zero));
    in_turn = λ i k l is. absurd (only i l is);
  })
    where
      only : (i l : ℕ) → label_at (None ∷ []) i ≡ Some l → ⊥
      only i l is = none_some l _ (none i) is
        where
          none : (i : ℕ) → label_at (None ∷ []) i ≡ None
          none i = go (is_or_not i 0)
            where
              go : (i ≡ 0) ⊎ (i ≢ 0) → label_at (None ∷ []) i ≡ None
              go (inl e) = ap (label_at (None ∷ [])) e
              go (inr d) = get_or_past (None ∷ []) i None (omega (arith, d))

  module _ (labels labels' faces : List (Option ℕ)) (m n n' : ℕ) (label : Option ℕ)
      (s : IsLabelling labels faces n) (next : m + 1 ≡ length faces)
      (f : LabelsFace t free labels labels' m n n' label) where
    abbrev faces' : List (Option ℕ)
    faces' = faces ++ label ∷ []

    one_more : length faces' ≡ length faces + 1
    one_more = length-append faces (label ∷ [])

    old : (i : ℕ) → i < length faces → label_at faces' i ≡ label_at faces i
    old i w = get_or_append_left faces (label ∷ []) None i w

    latest : label_at faces' (m + 1) ≡ label
    latest = get_or_push faces label None (m + 1) (sym next)

    which : (i : ℕ) → (i < length faces') → (i < length faces) ⊎ (i ≡ m + 1)
    which i w = grind (arith, w, one_more, next)

    where_is : (i : ℕ) → ((i < length faces) ⊎ (i ≡ m + 1)) ⊎ (length faces' ≤ i)
    where_is i = grind (arith, one_more, next)

    before : (i : ℕ) → (i + 1 < length faces') → (i + 1 < length faces) ⊎ (i ≡ m)
    before i w = grind (arith, w, one_more, next)

    closed' : (i : ℕ) → i + 1 < length faces' → ¬ IsTrue (free i) → label_at faces' (i + 1) ≡ None
    closed' i w not = go (before i w)
      where
        go : (i + 1 < length faces) ⊎ (i ≡ m) → label_at faces' (i + 1) ≡ None
        go (inl b) = old (i + 1) b ∙ s.closed i b not
        go (inr e) = ap (λ (j : ℕ). label_at faces' (j + 1)) e ∙ latest
            ∙ (f.closed (λ x. not (subst (λ j. IsTrue (free j)) (sym e) x))).0

    labelled' : (i : ℕ) → i + 1 < length faces' → IsTrue (free i) → (l : ℕ)
        × (label_at faces' (i + 1) ≡ Some l) × (label_at labels' (face_at t i).a ≡ Some l)
    labelled' i w is = go (before i w)
      where
        go : (i + 1 < length faces) ⊎ (i ≡ m) → (l : ℕ)
            × (label_at faces' (i + 1) ≡ Some l) × (label_at labels' (face_at t i).a ≡ Some l)
        go (inl b) = let o = s.labelled i b is in
            (o.0, old (i + 1) b ∙ o.1, f.kept (face_at t i).a o.0 o.2)
        go (inr e) = let o = f.labelled (subst (λ j. IsTrue (free j)) e is) in (
          o.0,
          ap (λ (j : ℕ). label_at faces' (j + 1)) e ∙ latest ∙ o.1,
          ap (λ (j : ℕ). label_at labels' (face_at t j).a) e ∙ o.2,
        )

    -- how many labels there are, by whether the face is free
    abbrev IsCount : ℕ → Type 0
    IsCount l = ((l < n) × (n' ≡ n)) ⊎ ((l ≡ n) × (n' ≡ n + 1))

    counted : (IsTrue (free m) ⊎ ¬ IsTrue (free m)) → ((label ≡ None) × (n' ≡ n))
        ⊎ ((l : ℕ) × (label ≡ Some l) × IsCount l)
    counted (inl is) = let o = f.labelled is in inr (o.0, o.1, o.3)
    counted (inr not) = inl (f.closed not)

    still : (k : ℕ) → (j : ℕ) × (j < length faces) × (label_at faces j ≡ Some k)
        → (j : ℕ) × (j < length faces') × (label_at faces' j ≡ Some k)
    still k j = let w = j.1 in (j.0, omega (arith, w, one_more), old j.0 j.1 ∙ j.2)

    few' : n' + 1 ≤ length faces'
    few' = go (counted (true_or_not (free m)))
      where
        few : n + 1 ≤ length faces
        few = s.few

        go : ((label ≡ None) × (n' ≡ n)) ⊎ ((l : ℕ) × (label ≡ Some l) × IsCount l)
            → n' + 1 ≤ length faces'
        go (inl e) = let c = e.1 in omega (arith, few, c, one_more)
        go (inr (l, e, inl c)) = let d = c.1 in omega (arith, few, d, one_more)
        go (inr (l, e, inr c)) = let d = c.1 in omega (arith, few, d, one_more)

    used' : (k : ℕ) → k < n' → (j : ℕ) × (j < length faces') × (label_at faces' j ≡ Some k)
    used' k w = go (counted (true_or_not (free m)))
      where
        last : (l : ℕ) → label ≡ Some l → n' ≡ n + 1 → l ≡ n → (k < n) ⊎ (k ≡ n)
            → (j : ℕ) × (j < length faces') × (label_at faces' j ≡ Some k)
        last l e c is (inl b) = still k (s.used k b)
        last l e c is (inr b) = (
          m + 1,
          omega (arith, one_more, next),
          latest ∙ e ∙ ap (λ (i : ℕ). Some i) (is ∙ sym b),
        )

        less : n' ≡ n + 1 → (k < n) ⊎ (k ≡ n)
        less c = grind (arith, w, c)

        go : ((label ≡ None) × (n' ≡ n)) ⊎ ((l : ℕ) × (label ≡ Some l) × IsCount l)
            → (j : ℕ) × (j < length faces') × (label_at faces' j ≡ Some k)
        go (inl e) = still k (s.used k (let c = e.1 in omega (arith, w, c)))
        go (inr (l, e, inl c)) = still k (s.used k (let d = c.1 in omega (arith, w, d)))
        go (inr (l, e, inr c)) = last l e c.1 c.0 (less c.1)

    in_turn' : (i k l : ℕ) → label_at faces' i ≡ Some l → k < l
        → (j : ℕ) × (j < i) × (label_at faces' j ≡ Some k)
    in_turn' i k l is w = go (where_is i)
      where
        Found : Type 0
        Found = (j : ℕ) × (j < i) × (label_at faces' j ≡ Some k)

        earlier : (i < length faces) → (j : ℕ) × (j < i) × (label_at faces j ≡ Some k) → Found
        earlier b (j, c, e) = (j, c, old j (omega (arith, b, c)) ∙ e)

        from : i ≡ m + 1 → (j : ℕ) × (j < length faces) × (label_at faces j ≡ Some k) → Found
        from b (j, c, e) = (j, omega (arith, b, c, next), old j c ∙ e)

        below : ((label ≡ None) × (n' ≡ n)) ⊎ ((o : ℕ) × (label ≡ Some o) × IsCount o)
            → label ≡ Some l → k < n
        below (inl e) it = absurd (none_some l label e.0 it)
        below (inr (o, e, inl c)) it = let same = some_is o l label e it in let d = c.0 in
            omega (arith, w, same, d)
        below (inr (o, e, inr c)) it = let same = some_is o l label e it in let d = c.0 in
            omega (arith, w, same, d)

        go : ((i < length faces) ⊎ (i ≡ m + 1)) ⊎ (length faces' ≤ i) → Found
        go (inl (inl b)) = earlier b (s.in_turn i k l (sym (old i b) ∙ is) w)
        go (inl (inr e)) = from e (s.used k (below (counted (true_or_not (free m)))
            (sym latest ∙ ap (label_at faces') (sym e) ∙ is)))
        go (inr p) = absurd (none_some l _ (get_or_past faces' i None p) is)

    pub labelling_goes_on : (fs : List (Option ℕ)) → fs ≡ faces ++ label ∷ []
        → IsLabelling labels' fs n'
    labelling_goes_on fs e = subst (λ gs. IsLabelling labels' gs n') (sym e) (record {
      flood = f.flood;
      some = let some = s.some in omega (arith, some, one_more);
      outer = old 0 s.some ∙ s.outer;
      closed = closed';
      labelled = labelled';
      few = few';
      used = used';
      in_turn = in_turn';
    })

  -- with all faces labelled
  pub labelling_ends : ((n : ℕ) → n < length t.faces → TilesHull t)
      → (labels faces : List (Option ℕ)) (n : ℕ) → IsLabelling labels faces n
      → length faces ≡ length t.faces + 1 → AreLabels t free faces
  labelling_ends hull labels faces n s all = record {
    count = all;
    outer = s.outer;
    closed = λ m w not. s.closed m (inside m w) not;
    labelled = λ m w is. let o = s.labelled m (inside m w) is in (o.0, o.1);
    joined = λ i j p q a b. (there i j p q a b, back i j p q a b);
    in_turn = s.in_turn;
  }
    where
      inside : (m : ℕ) → m < length t.faces → m + 1 < length faces
      inside m w = omega (arith, w, all)

      Told : ℕ → Type 0
      Told i = (l : ℕ) × (label_at faces (i + 1) ≡ Some l)
          × (label_at labels (face_at t i).a ≡ Some l)

      told : (i : ℕ) (p : Fraction) → IsInFreeFace t free i p → Told i
      told i p a = s.labelled i (inside i a.0) a.1

      corner : (i : ℕ) (p : Fraction) → IsInFreeFace t free i p
          → IsInFreeFace t free i (vertex t (face_at t i).a)
      corner i p a = corner_in t hull free i a.0 a.1 (face_at t i).a (inl refl)

      free_there : (i : ℕ) (p : Fraction) → IsInFreeFace t free i p → IsInFree t free p
      free_there i p a = record { index = i; within = a.0; is_free = a.1; inside = a.2 }

      between : (i : ℕ) (p q : Fraction) → IsInFreeFace t free i p → IsInFreeFace t free i q
          → IsJoined t free p q
      between i p q a b = sight_joins t free p q (face_sees t hull free i p q a b)

      over : (i j : ℕ) (p q r s : Fraction) → IsInFreeFace t free i p → IsInFreeFace t free i r
          → IsInFreeFace t free j q → IsInFreeFace t free j s → IsJoined t free r s
          → IsJoined t free p q
      over i j p q r s a c b d h = joined_on t free p r q (between i p r a c)
          (joined_on t free r s q h (between j s q d b))

      there : (i j : ℕ) (p q : Fraction) → IsInFreeFace t free i p → IsInFreeFace t free j q
          → IsJoined t free p q → label_at faces (i + 1) ≡ label_at faces (j + 1)
      there i j p q a b h = go (told i p a) (told j q b)
        where
          go : Told i → Told j → label_at faces (i + 1) ≡ label_at faces (j + 1)
          go x y = pick (is_or_not x.0 y.0)
            where
              pick : (x.0 ≡ y.0) ⊎ (x.0 ≢ y.0)
                  → label_at faces (i + 1) ≡ label_at faces (j + 1)
              pick (inl e) = x.1 ∙ ap (λ (l : ℕ). Some l) e ∙ sym y.1
              pick (inr d) = absurd (vertices_apart t free hull labels n (face_at t i).a
                  (face_at t j).a x.0 y.0 s.flood x.2 y.2 d
                  (free_there i _ (corner i p a)) (free_there j _ (corner j q b))
                  (over i j _ _ p q (corner i p a) a (corner j q b) b h))

      back : (i j : ℕ) (p q : Fraction) → IsInFreeFace t free i p → IsInFreeFace t free j q
          → label_at faces (i + 1) ≡ label_at faces (j + 1) → IsJoined t free p q
      back i j p q a b e =
          let x = told i p a in
          let y = told j q b in
          let same = some_is x.0 y.0 _ x.1 (e ∙ y.1) in
          over i j p q _ _ a (corner i p a) b (corner j q b)
          (s.flood.same (face_at t i).a (face_at t j).a y.0
          (x.2 ∙ ap (λ (l : ℕ). Some l) same) y.2)
