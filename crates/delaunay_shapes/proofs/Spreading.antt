-- A flood that goes on from the edges found, each to the side that it does not come from.
-- Notions: longer, found_within, spread_first, spread_both, spread_one, starts_done, spread_ends.
use Rattle.std.proofs.Common.{◌≡◌, ◌⊎◌, ◌+◌, ◌-◌, ◌*◌, ◌/◌, ◌<◌, ◌≤◌, ◌∙◌}
use Rattle.std.proofs.Common.{ℕ, List, length, get_or, refl, sym, ap, subst, arith, length-append}
use mathlib.Core.Logic.{inl, inr, ◌≢◌}
use mathlib.Core.Bool.{Bool}
use Rattle.std.specs.Prelude.{Contains}
use Rattle.std.proofs.lemmas.Bool.{cases_eq, cases_lt}
use Rattle.std.proofs.lemmas.List.{get_or_append_left, get_or-append_right}
use Rattle.half_edge_links.specs.{face, IsValidMesh, Mesh, next, prev, rev}
use Rattle.half_edge_links.proofs.{rev-rev, rev_within}
use Rattle.{delaunay_legalization.proofs.contains_map, plane_theorems.proofs.get_or_any}
use Rattle.delaunay_shapes.specs.{IsAsked, IsFlooding, IsSpreadTo, Spreads, undirected_of}
use Rattle.delaunay_shapes.specs.Flood.{AreAskedBeside, AsksBeside, IsSpread}
use Rattle.delaunay_shapes.proofs.Asking.{below_other, rev_half}

never : (j : ℕ) → j < 0 → ⊥
never j h = omega (arith, h)

-- the edges beside h that a flood has asked of are asked of still when it goes on
stays_beside : (m : Mesh) (asked asked' : List Bool) (found found' : List ℕ) (h : ℕ) →
    Spreads asked asked' found found' → AreAskedBeside m asked h → AreAskedBeside m asked' h
stays_beside m asked asked' found found' h on b =
    record { after = on.kept (next m h / 2) b.after; before = on.kept (prev m h / 2) b.before }

kept_place : (asked asked' : List Bool) (found found' : List ℕ) (j : ℕ)
    → Spreads asked asked' found found' → j < length found → get_or found' j 0 ≡ get_or found j 0
kept_place asked asked' found found' j on h =
    ap (λ xs. get_or xs j 0) on.grown ∙ get_or_append_left found on.more 0 j h

-- a flood that goes on has found no less
pub longer : (asked asked' : List Bool) (found found' : List ℕ) → Spreads asked asked' found found'
    → length found ≤ length found'
longer asked asked' found found' on =
    let l = ap length on.grown ∙ length-append found on.more in omega (arith, l)

-- a place past those that were there is one of those found since
new_place : (asked asked' : List Bool) (found found' : List ℕ) (on : Spreads asked asked' found
    found') (j : ℕ) → length found ≤ j → j < length found' → Contains on.more (get_or found' j 0)
new_place asked asked' found found' on j past h =
    let l = ap length on.grown ∙ length-append found on.more in
    let at : get_or found' j 0 ≡ get_or on.more (j - length found) 0 =
    ap (λ xs. get_or xs j 0) on.grown
    ∙ get_or-append_right found on.more (length found) j 0 refl past in
    let here : j - length found < length on.more = omega (arith, l, past, h) in (
      j - length found,
      here,
      get_or_any on.more (j - length found) (get_or found' j 0) 0 here ∙ sym at,
    )

-- ---- the edges found
module _ (Inside : ℕ → Type 0) (m : Mesh) (v : IsValidMesh m) (count : ℕ) where
  twice_below : (h : ℕ) → 2 * count ≡ length m.half_edges → h / 2 < count → h < length m.half_edges
  twice_below h even w = omega (arith, even, w)

  -- each is a directed edge of the mesh
  pub found_within : 2 * count ≡ length m.half_edges → (asked : List Bool) (found : List ℕ)
      (i d : ℕ) → IsFlooding Inside count asked (undirected_of found) → i < length found
      → get_or found i d < length m.half_edges
  found_within even asked found i d f here = twice_below (get_or found i d) even
      (f.within (get_or found i d / 2) (contains_map (λ (x : ℕ). x / 2) found (get_or found i d)
      (i, here, get_or_any found i (get_or found i d) d here)))

  -- and was asked of
  found_marked : (asked : List Bool) (found : List ℕ) (i : ℕ)
      → IsFlooding Inside count asked (undirected_of found) → i < length found
      → IsAsked asked (get_or found i 0 / 2)
  found_marked asked found i f here =
      f.marked (get_or found i 0 / 2) (contains_map (λ (x : ℕ). x / 2) found (get_or found i 0)
      (i, here, get_or_any found i (get_or found i 0) 0 here))

  -- ---- once the edges beside x were asked of, where x was
  module _ (asked asked' : List Bool) (found found' : List ℕ) (x : ℕ)
      (w : x < length m.half_edges) (marked : IsAsked asked (x / 2))
      (b : AsksBeside Inside m count asked asked' found found' x) where
    beside_next : 0 < face m (next m x) → AreAskedBeside m asked' (next m x)
    beside_next p =
        let links = v.sound.edges x w in
        let inner = subst (λ (f : ℕ). 0 < f) links.same_face p in
        record {
          after =
              subst (λ (y : ℕ). IsAsked asked' (y / 2)) (sym (links.three inner)) b.beside.before;
          before = subst (λ (y : ℕ). IsAsked asked' (y / 2)) (sym links.prev_next)
              (b.on.kept (x / 2) marked);
        }

    beside_prev : 0 < face m (prev m x) → AreAskedBeside m asked' (prev m x)
    beside_prev p =
        let links = v.sound.edges x w in
        let three = (v.sound.edges (prev m x) links.prev_in).three p in
        record {
          after = subst (λ (y : ℕ). IsAsked asked' (y / 2)) (sym links.next_prev)
              (b.on.kept (x / 2) marked);
          before = subst (λ (y : ℕ). IsAsked asked' (y / 2))
              (sym (sym three ∙ ap (next m) links.next_prev)) b.beside.after;
        }

    turned : (g y : ℕ) → g ≡ rev y → (0 < face m y → AreAskedBeside m asked' y)
        → 0 < face m (rev g) → AreAskedBeside m asked' (rev g)
    turned g y e into p =
        let same : rev g ≡ y = ap rev e ∙ rev-rev y in
        subst (AreAskedBeside m asked') (sym same) (into (subst (λ z. 0 < face m z) same p))

    -- those of an edge found now are known on its other side
    fresh : (g : ℕ) → Contains b.on.more g → 0 < face m (rev g) → AreAskedBeside m asked' (rev g)
    fresh g c p = elim (b.only g c) as (λ _. AreAskedBeside m asked' (rev g)) [
      | inl e ↦ turned g (next m x) e beside_next p
      | inr e ↦ turned g (prev m x) e beside_prev p
    ]

    -- so the flood has spread as far as it had
    spread_stays : (first i : ℕ) → IsSpreadTo m asked found first i
        → IsSpreadTo m asked' found' first i
    spread_stays first i s = record {
      bound = let l = longer asked asked' found found' b.on in let o = s.bound in
          omega (arith, l, o);
      on = λ j h. let o = s.bound in
          let place = kept_place asked asked' found found' j b.on (omega (arith, o, h)) in
          subst (AreAskedBeside m asked') (sym place)
          (stays_beside m asked asked' found found' (get_or found j 0) b.on (s.on j h));
      back = back;
    }
      where
        back : (j : ℕ) → j < length found' → (j < i) ⊎ (first ≤ j)
            → 0 < face m (rev (get_or found' j 0))
            → AreAskedBeside m asked' (rev (get_or found' j 0))
        back j h c p = elim (cases_lt j (length found)) as
            (λ _. AreAskedBeside m asked' (rev (get_or found' j 0))) [
              | inl l ↦
                  let place = kept_place asked asked' found found' j b.on l in
                  subst (λ y. AreAskedBeside m asked' (rev y)) (sym place)
                  (stays_beside m asked asked' found found' (rev (get_or found j 0)) b.on
                  (s.back j l c (subst (λ y. 0 < face m (rev y)) place p)))
              | inr l ↦
                  fresh (get_or found' j 0) (new_place asked asked' found found' b.on j l h) p
            ]

-- with both sides of the next edge, the flood has spread from one edge more
spread_more : (m : Mesh) (asked : List Bool) (found : List ℕ) (first i : ℕ)
    → IsSpreadTo m asked found first i → i < length found
    → AreAskedBeside m asked (get_or found i 0)
    → (0 < face m (rev (get_or found i 0)) → AreAskedBeside m asked (rev (get_or found i 0)))
    → IsSpreadTo m asked found first (i + 1)
spread_more m asked found first i s here on back = record {
  bound = omega (arith, here);
  on = λ j h. elim (cases_eq j i) as (λ _. AreAskedBeside m asked (get_or found j 0)) [
    | inl e ↦ subst (λ (k : ℕ). AreAskedBeside m asked (get_or found k 0)) (sym e) on
    | inr n ↦ s.on j (below_other j i h n)
  ];
  back = λ j h c p. elim (cases_eq j i) as (λ _. AreAskedBeside m asked (rev (get_or found j 0))) [
    | inl e ↦ subst (λ (k : ℕ). AreAskedBeside m asked (rev (get_or found k 0))) (sym e)
        (back (subst (λ (k : ℕ). 0 < face m (rev (get_or found k 0))) e p))
    | inr n ↦ s.back j h (still j c n) p
  ];
}
  where
    still : (j : ℕ) → (j < i + 1) ⊎ (first ≤ j) → j ≢ i → (j < i) ⊎ (first ≤ j)
    still j (inl h) n = inl (below_other j i h n)
    still j (inr f) n = inr f

-- before it has gone on from the first edge
pub spread_first : (m : Mesh) (asked : List Bool) (found : List ℕ)
    → IsSpreadTo m asked found (length found) 0
spread_first m asked found = record {
  bound = omega arith;
  on = λ j h. absurd (never j h);
  back = λ j h c p. absurd (none j h c);
}
  where
    none : (j : ℕ) → j < length found → (j < 0) ⊎ (length found ≤ j) → ⊥
    none j h (inl c) = never j c
    none j h (inr c) = omega (arith, h, c)

module _ (Inside : ℕ → Type 0) (m : Mesh) (v : IsValidMesh m) (count : ℕ)
    (even : 2 * count ≡ length m.half_edges) where
  -- on both sides of the next edge
  pub spread_both : (asked mid asked' : List Bool) (found more found' : List ℕ) (first i d : ℕ)
      → IsFlooding Inside count asked (undirected_of found) → IsSpreadTo m asked found first i
      → i < length found → AsksBeside Inside m count asked mid found more (rev (get_or found i d))
      → AsksBeside Inside m count mid asked' more found' (get_or found i d)
      → IsSpreadTo m asked' found' first (i + 1)
  spread_both asked mid asked' found more found' first i d f s here a b =
      spread_more m asked' found' first i
      (spread_stays Inside m v count mid asked' more found' h w (a.on.kept (h / 2) marked) b
      first i (spread_stays Inside m v count asked mid found more (rev h) back_in
      (subst (IsAsked asked) (sym (rev_half h)) marked) a first i s))
      (omega (arith, here, long, longer_still))
      (subst (AreAskedBeside m asked') (sym place) b.beside)
      (λ p. subst (λ y. AreAskedBeside m asked' (rev y)) (sym place)
      (stays_beside m mid asked' more found' (rev h) b.on a.beside))
    where
      h : ℕ
      h = get_or found i d

      same : get_or found i 0 ≡ h
      same = get_or_any found i 0 d here

      w : h < length m.half_edges
      w = found_within Inside m v count even asked found i d f here

      back_in : rev h < length m.half_edges
      back_in = rev_within h (length m.half_edges) v.sound.even w

      marked : IsAsked asked (h / 2)
      marked = subst (λ (y : ℕ). IsAsked asked (y / 2)) same
          (found_marked Inside m v count asked found i f here)

      long : length found ≤ length more
      long = longer asked mid found more a.on

      longer_still : length more ≤ length found'
      longer_still = longer mid asked' more found' b.on

      place : get_or found' i 0 ≡ h
      place = kept_place mid asked' more found' i b.on (omega (arith, here, long))
          ∙ kept_place asked mid found more i a.on here ∙ same

  -- on the side of the next edge where it has not been
  pub spread_one : (asked asked' : List Bool) (found found' : List ℕ) (i d : ℕ)
      → IsFlooding Inside count asked (undirected_of found) → IsSpreadTo m asked found 0 i
      → i < length found → AsksBeside Inside m count asked asked' found found' (get_or found i d)
      → IsSpreadTo m asked' found' 0 (i + 1)
  spread_one asked asked' found found' i d f s here b =
      let on = spread_stays Inside m v count asked asked' found found' h w marked b 0 i s in
      let long = longer asked asked' found found' b.on in
      let there : i < length found' = omega (arith, here, long) in
      spread_more m asked' found' 0 i on there
      (subst (AreAskedBeside m asked') (sym place) b.beside)
      (on.back i there (inr (omega arith)))
    where
      h : ℕ
      h = get_or found i d

      same : get_or found i 0 ≡ h
      same = get_or_any found i 0 d here

      w : h < length m.half_edges
      w = found_within Inside m v count even asked found i d f here

      marked : IsAsked asked (h / 2)
      marked = subst (λ (y : ℕ). IsAsked asked (y / 2)) same
          (found_marked Inside m v count asked found i f here)

      place : get_or found' i 0 ≡ h
      place = kept_place asked asked' found found' i b.on here ∙ same

-- a flood that has spread from all it began with has an edge's other side behind it wherever it is
pub starts_done : (m : Mesh) (asked : List Bool) (found : List ℕ) (first i : ℕ) → first ≤ i
    → IsSpreadTo m asked found first i → IsSpreadTo m asked found 0 first
starts_done m asked found first i last s = record {
  bound = let o = s.bound in omega (arith, o, last);
  on = λ j h. s.on j (omega (arith, h, last));
  back = λ j h c p. s.back j h (elim (cases_lt j first) as (λ _. (j < i) ⊎ (first ≤ j)) [
    | inl l ↦ inl (omega (arith, l, last))
    | inr l ↦ inr l
  ]) p;
}

-- a flood that has spread from the first i edges found, where these are all, has spread from each
pub spread_ends : (m : Mesh) (asked : List Bool) (found : List ℕ) (first i : ℕ)
    → IsSpreadTo m asked found first i → length found ≤ i → IsSpread m asked found
spread_ends m asked found first i s last = record {
  on = λ h c. let w = c.1 in
      subst (λ x. AreAskedBeside m asked x) (get_or_any found c.0 0 h c.1 ∙ c.2)
      (s.on c.0 (omega (arith, w, last)));
  back = λ h c p. let w = c.1 in let at = get_or_any found c.0 0 h c.1 ∙ c.2 in
      subst (λ x. AreAskedBeside m asked (rev x)) at
      (s.back c.0 w (inl (omega (arith, w, last)))
      (subst (λ x. 0 < face m (rev x)) (sym at) p));
}
