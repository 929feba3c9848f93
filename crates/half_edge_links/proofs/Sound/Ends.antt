-- The ends of the edges after a change.
-- Lemmas: length-paired, length-origins, get_or-origins, ends_grown, ends_moved, length-ends,
-- length-ends_twice, get_or-ends.
use Rattle.std.proofs.Common.{◌≡◌, ◌≢◌, ◌⊎◌, ◌+◌, ◌-◌, ◌*◌, ◌/◌, ◌%◌, ◌<◌, [], ◌∷◌, ◌++◌, ◌∙◌}
use Rattle.std.proofs.Common.{ℕ, zero, suc, List, length, get_or, set, refl, sym, ap, inl, inr}
use Rattle.std.proofs.Common.{arith, length-append}
use Rattle.std.proofs.lemmas.Bool.{cases_eq, cases_lt}
use Rattle.std.proofs.lemmas.Grind.{common_steps}
use Rattle.std.proofs.lemmas.List.{same_lists, get_or-map, length-map, length-set, get_or-set_same}
use Rattle.std.proofs.lemmas.List.{get_or-set_other, get_or_append_left, get_or-append-add}
use Rattle.std.proofs.lemmas.List.{get_or_default}
use Rattle.half_edge_links.specs.{along, AreSoundLinks, Ends, ends, HalfEdge, Mesh, no_edge, origin}
use Rattle.half_edge_links.specs.{origins, rev}
use Rattle.half_edge_links.specs.Outline.{paired}

paired-append : (xs ys : List ℕ) → length xs % 2 ≡ 0 → paired (xs ++ ys) ≡ paired xs ++ paired ys
paired-append [] ys even = refl
paired-append (a ∷ []) ys even = absurd (omega (arith, even))
paired-append (a ∷ b ∷ rest) ys even = ap (λ (q : List Ends). record { source = a; target = b } ∷ q)
    (paired-append rest ys (omega (arith, even)))

-- a list of even length has two numbers for each pair
pub length-paired : (xs : List ℕ) → length xs % 2 ≡ 0 → 2 * length (paired xs) ≡ length xs
length-paired [] even = refl
length-paired (a ∷ []) even = absurd (omega (arith, even))
length-paired (a ∷ b ∷ rest) even =
    let e = length-paired rest (omega (arith, even)) in omega (arith, e)

get_or-paired : (xs : List ℕ) (k : ℕ) (d : Ends) → 2 * k + 1 < length xs → get_or (paired xs) k d
    ≡ record { source = get_or xs (2 * k) 0; target = get_or xs (2 * k + 1) 0 }
get_or-paired [] k d within = absurd (omega (arith, within))
get_or-paired (a ∷ []) k d within = absurd (omega (arith, within))
get_or-paired (a ∷ b ∷ rest) zero d within = refl
get_or-paired (a ∷ b ∷ rest) (suc k) d within =
    let q : 2 * suc k + 1 ≡ suc (suc (2 * k + 1)) = omega arith in
    let p : 2 * suc k ≡ suc (suc (2 * k)) = omega arith in
    rw (q, p) (get_or-paired rest k d (omega (arith, within)))

below : (k n : ℕ) → (k < n) ⊎ ((j : ℕ) × (k ≡ n + j))
below k n =
    elim (cases_lt k n) [
      | inl less ↦ inl less
      | inr more ↦ inr (k - n, omega (arith, more))
    ]

module _ (m : Mesh) where
  -- there is one origin for each directed edge
  pub length-origins : length (origins m) ≡ length m.half_edges
  length-origins = length-map m.half_edges _

  -- the list has the origin of each edge of the mesh at its index
  pub get_or-origins : (h d : ℕ) → h < length m.half_edges → get_or (origins m) h d ≡ origin m h
  get_or-origins h d within =
      get_or-map (λ (x : HalfEdge). x.origin) m.half_edges h no_edge d within

module _ (m new : Mesh) (s : AreSoundLinks m) where
  -- there is an even number of origins
  even : length (origins m) % 2 ≡ 0
  even = rw length-origins s.even

  -- edges are added
  pub ends_grown : (added : List ℕ) → length new.half_edges ≡ length m.half_edges + length added
      → ((h : ℕ) → h < length m.half_edges → origin new h ≡ origin m h)
      → ((j : ℕ) → j < length added → origin new (length m.half_edges + j) ≡ get_or added j 0)
      → ends new ≡ ends m ++ paired added
  ends_grown added count kept there =
      let whole : origins new ≡ origins m ++ added =
      same_lists _ _ (length-origins new ∙ count ∙ ap (λ q. q + length added)
      (sym (length-origins m)) ∙ sym (length-append (origins m) added)) (λ k d within.
      let in_new : k < length new.half_edges = omega (arith, within, length-origins new) in
      let old_count = length-origins m in
      get_or-origins new k d in_new ∙ elim (below k (length m.half_edges)) [
        | inl old ↦ kept k old ∙ sym (get_or-origins m k d old)
            ∙ sym (get_or_append_left (origins m) added d k (omega (arith, old, old_count)))
        | inr late ↦
            let j_in : late.0 < length added = omega (arith, in_new, count, late.1) in
            let at : length (origins m) + late.0 ≡ k = omega (arith, old_count, late.1) in
            ap (origin new) late.1 ∙ there late.0 j_in ∙ get_or_default added late.0 0 d j_in
            ∙ sym (get_or-append-add (origins m) added late.0 d)
            ∙ ap (λ i. get_or (origins m ++ added) i d) at
      ]) in
      ap paired whole ∙ paired-append (origins m) added even

off_edge : (e k : ℕ) → k ≢ e / 2
    → (2 * k ≢ e) × (2 * k ≢ rev e) × (2 * k + 1 ≢ e) × (2 * k + 1 ≢ rev e)
off_edge e k differs = (
  λ q. differs (grind (arith, common_steps)),
  λ q. differs (grind (arith, common_steps)),
  λ q. differs (grind (arith, common_steps)),
  λ q. differs (grind (arith, common_steps)),
)

moved_pair : (m new : Mesh) (e a b k : ℕ) → origin new e ≡ a → origin new (rev e) ≡ b → k ≡ e / 2
    → get_or (origins new) (2 * k) 0 ≡ origin new (2 * k)
    → get_or (origins new) (2 * k + 1) 0 ≡ origin new (2 * k + 1) → (let t : Ends = record {
      source = get_or (origins new) (2 * k) 0;
      target = get_or (origins new) (2 * k + 1) 0;
    } in t) ≡ along e a b
moved_pair m new e a b k at_e at_twin is o0 o1 =
    elim (cases_eq (e % 2) 0) [
      | inl even ↦
          let q : (e ≡ 2 * k) × (rev e ≡ 2 * k + 1) =
          (omega (arith, is, even), grind (arith, common_steps)) in
          let x : get_or (origins new) (2 * k) 0 ≡ a = o0 ∙ ap (origin new) (sym q.0) ∙ at_e in
          let y : get_or (origins new) (2 * k + 1) 0 ≡ b =
          o1 ∙ ap (origin new) (sym q.1) ∙ at_twin in
          rw (even, x, y) refl
      | inr off ↦
          let odd : e % 2 ≡ 1 = omega (arith, off) in
          let q : (e ≡ 2 * k + 1) × (rev e ≡ 2 * k) =
          (omega (arith, is, odd), grind (arith, common_steps)) in
          let x : get_or (origins new) (2 * k) 0 ≡ b = o0 ∙ ap (origin new) (sym q.1) ∙ at_twin in
          let y : get_or (origins new) (2 * k + 1) 0 ≡ a = o1 ∙ ap (origin new) (sym q.0) ∙ at_e in
          rw (odd, x, y) refl
    ]

-- edge e gets other ends
pub ends_moved : (m new : Mesh) (e a b : ℕ) → AreSoundLinks m → e < length m.half_edges
    → length new.half_edges ≡ length m.half_edges → origin new e ≡ a → origin new (rev e) ≡ b
    → ((h : ℕ) → h < length m.half_edges → h ≢ e → h ≢ rev e → origin new h ≡ origin m h)
    → ends new ≡ set (ends m) (e / 2) (along e a b)
ends_moved m new e a b s within count at_e at_twin kept =
    let old_even : length (origins m) % 2 ≡ 0 = rw length-origins s.even in
    let new_even : length (origins new) % 2 ≡ 0 = rw (length-origins, count) s.even in
    let old_count = length-paired (origins m) old_even in
    let new_count = length-paired (origins new) new_even in
    let old_length = length-origins m in
    let new_length = length-origins new in
    same_lists _ _ (rw length-set
    (omega (arith, old_count, new_count, old_length, new_length, count))) (λ k d k_in.
    let first_in : 2 * k < length new.half_edges = omega (arith, k_in, new_count, new_length) in
    let second_in : 2 * k + 1 < length new.half_edges =
    omega (arith, k_in, new_count, new_length) in
    let read = get_or-paired (origins new) k d (omega (arith, second_in, new_length)) in
    let was = get_or-paired (origins m) k d (omega (arith, second_in, old_length, count)) in
    let in_old : k < length (ends m) = omega (arith, second_in, old_count, old_length, count) in
    let o0 = get_or-origins new (2 * k) 0 first_in in
    let o1 = get_or-origins new (2 * k + 1) 0 second_in in
    elim (cases_eq (e / 2) k) [
      | inl same ↦ read ∙ moved_pair m new e a b k at_e at_twin (sym same) o0 o1
          ∙ sym (ap (λ i. get_or (set (ends m) i (along e a b)) k d) same
          ∙ get_or-set_same (ends m) k (along e a b) d in_old)
      | inr differs ↦
          let p0 = get_or-origins m (2 * k) 0 (omega (arith, first_in, count)) in
          let p1 = get_or-origins m (2 * k + 1) 0 (omega (arith, second_in, count)) in
          let off = off_edge e k (λ q. differs (sym q)) in
          let k0 = kept (2 * k) (omega (arith, first_in, count)) off.0 off.1 in
          let k1 = kept (2 * k + 1) (omega (arith, second_in, count)) off.2 off.3 in
          let pairs : (let t : Ends = record {
            source = get_or (origins new) (2 * k) 0;
            target = get_or (origins new) (2 * k + 1) 0;
          } in t) ≡ record {
            source = get_or (origins m) (2 * k) 0;
            target = get_or (origins m) (2 * k + 1) 0;
          } = cc in
          read ∙ pairs ∙ sym was
          ∙ sym (get_or-set_other (ends m) (e / 2) k (along e a b) d (λ q. differs (sym q)))
    ])

-- the ends of an edge of a sound mesh are in the list of ends, at half its index
pub length-ends : (m : Mesh) (e : ℕ) → AreSoundLinks m → e < length m.half_edges
    → e / 2 < length (ends m)
length-ends m e s within =
    let even_origins : length (origins m) % 2 ≡ 0 = rw length-origins s.even in
    omega (arith, within, length-paired (origins m) even_origins, length-origins m)

-- a sound mesh has two directed edges for each undirected one
pub length-ends_twice : (m : Mesh) → AreSoundLinks m → 2 * length (ends m) ≡ length m.half_edges
length-ends_twice m s =
    let even_origins : length (origins m) % 2 ≡ 0 = rw length-origins s.even in
    length-paired (origins m) even_origins ∙ length-origins m

-- the ends of an undirected edge
pub get_or-ends : (m : Mesh) (k : ℕ) (d : Ends) → 2 * k + 1 < length m.half_edges
    → get_or (ends m) k d ≡ record { source = origin m (2 * k); target = origin m (2 * k + 1) }
get_or-ends m k d within =
    let o0 = get_or-origins m (2 * k) 0 (omega (arith, within)) in
    let o1 = get_or-origins m (2 * k + 1) 0 within in
    get_or-paired (origins m) k d (rw length-origins within)
    ∙ (λ i. record { source = o0 i; target = o1 i })
