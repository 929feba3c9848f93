-- The directed edges of a mesh, and the pairs of vertices that they join.
-- edge_joins: each directed edge joins its start to its end, among the pairs of the edges
-- joins_edge: two vertices that are joined have a directed edge from the one to the other
-- no_joins: the empty list joins no pair
-- rev_of_even, rev_of_odd: the reverses of the edges 2 k and 2 k + 1
-- half_of_even, half_of_odd: the undirected edge of both is k
-- Contains-map, Contains-map_from: the values of a function over a list are its values at the
--   indexes
-- starts_within: an edge starts at one of the vertices
use Rattle.std.proofs.Common.{◌≡◌, ◌≢◌, ◌⊎◌, ◌+◌, ◌*◌, ◌/◌, ◌%◌, ◌<◌, ◌∙◌, []}
use Rattle.std.proofs.Common.{ℕ, List, length, map, get_or, refl, sym, ap, inl, inr, arith, subst}
use Rattle.std.specs.Prelude.{Contains}
use Rattle.std.proofs.lemmas.Bool.{cases_eq}
use Rattle.std.proofs.lemmas.Grind.{common_steps}
use Rattle.std.proofs.lemmas.List.{get_or-map, length-map}
use Rattle.plane.specs.{Joins}
use Rattle.half_edge_links.specs.{AreSoundLinks, Ends, ends, Mesh, origin, rev}
use Rattle.half_edge_links.proofs.{get_or-ends, length-ends_twice}
use Rattle.delaunay_legalization.specs.{edges_of, pair_of}

abbrev no_ends : Ends
no_ends = record { source = 0; target = 0 }

-- the values of a function over a list contain its value at each place
pub Contains-map : {X Y : Type 0} (f : X → Y) (xs : List X) (k : ℕ) (d : X) (y : Y) → k < length xs
    → f (get_or xs k d) ≡ y → Contains (map f xs) y
Contains-map f xs k d y within e =
    (k, omega (arith, length-map xs f), get_or-map f xs k d y within ∙ e)

-- each of the values of a function over a list is its value at some place
pub Contains-map_from : {X Y : Type 0} (f : X → Y) (xs : List X) (d : X) (y : Y)
    → Contains (map f xs) y → (k : ℕ) × (k < length xs) × (f (get_or xs k d) ≡ y)
Contains-map_from f xs d y h =
    let within : h.0 < length xs = let l = h.1 in omega (arith, length-map xs f) in
    (h.0, within, sym (get_or-map f xs h.0 d y within) ∙ h.2)

-- the other direction of an even edge
pub rev_of_even : (k : ℕ) → rev (2 * k) ≡ 2 * k + 1
rev_of_even k = let even : 2 * k % 2 ≡ 0 = omega arith in rw even refl

-- the other direction of an odd edge
pub rev_of_odd : (k : ℕ) → rev (2 * k + 1) ≡ 2 * k
rev_of_odd k = let odd : (2 * k + 1) % 2 ≡ 1 = omega arith in rw odd (omega arith)

-- the undirected edge of an even edge
pub half_of_even : (k : ℕ) → (2 * k) / 2 ≡ k
half_of_even k = omega arith

-- the undirected edge of an odd edge
pub half_of_odd : (k h : ℕ) → h ≡ 2 * k + 1 → h / 2 ≡ k
half_of_odd k h e = omega (arith, e)

-- no pair is in the empty list
pub no_joins : (i j : ℕ) → Joins [] i j → ⊥
no_joins i j (inl h) = absurd (omega (arith, h.1))
no_joins i j (inr h) = absurd (omega (arith, h.1))

-- an edge starts at one of the n vertices
pub starts_within : (m : Mesh) → AreSoundLinks m → (n : ℕ) → n ≡ length m.out_edges → (h : ℕ)
    → h < length m.half_edges → origin m h < n
starts_within m s n count h within =
    subst (λ (k : ℕ). origin m h < k) (sym count) (s.edges h within).origin_in

module _ (m : Mesh) (s : AreSoundLinks m) where
  pair_there : (k : ℕ) → 2 * k + 1 < length m.half_edges
      → Contains (edges_of m) (origin m (2 * k), origin m (2 * k + 1))
  pair_there k within = Contains-map pair_of (ends m) k (record { source = 0; target = 0 })
      (origin m (2 * k), origin m (2 * k + 1)) (omega (arith, length-ends_twice m s))
      (ap pair_of (get_or-ends m k (record { source = 0; target = 0 }) within))

  -- each directed edge of sound links joins its start to its end, among the pairs of the edges
  pub edge_joins : (h : ℕ) → h < length m.half_edges
      → Joins (edges_of m) (origin m h) (origin m (rev h))
  edge_joins h within = go (cases_eq (h % 2) 0)
    where
      even : length m.half_edges % 2 ≡ 0
      even = s.even

      go : (h % 2 ≡ 0) ⊎ (h % 2 ≢ 0) → Joins (edges_of m) (origin m h) (origin m (rev h))
      go (inl e) =
          let here : 2 * (h / 2) ≡ h = omega (arith, e) in
          let there : 2 * (h / 2) + 1 ≡ rev h = grind (arith, common_steps) in
          inl (rw (ap (origin m) (sym here), ap (origin m) (sym there))
          (pair_there (h / 2) (omega (arith, e, even, within))))
      go (inr n) =
          let here : 2 * (h / 2) + 1 ≡ h = omega (arith, n) in
          let there : 2 * (h / 2) ≡ rev h = grind (arith, common_steps) in
          inr (rw (ap (origin m) (sym here), ap (origin m) (sym there))
          (pair_there (h / 2) (omega (arith, n, even, within))))

  -- two vertices that are joined have a directed edge from the one to the other
  pub joins_edge : (i j : ℕ) → Joins (edges_of m) i j
      → (h : ℕ) × (h < length m.half_edges) × (origin m h ≡ i) × (origin m (rev h) ≡ j)
  joins_edge i j (inl c) =
      let r = Contains-map_from pair_of (ends m) no_ends (i, j) c in
      let k : r.0 < length (ends m) = r.1 in
      let within : 2 * r.0 + 1 < length m.half_edges = omega (arith, k, length-ends_twice m s) in
      let e = sym (ap pair_of (get_or-ends m r.0 no_ends within)) ∙ r.2 in
      let there = rev_of_even r.0 in
      (2 * r.0, omega (arith, within), ap (λ q. q.0) e, ap (origin m) there ∙ ap (λ q. q.1) e)
  joins_edge i j (inr c) =
      let r = Contains-map_from pair_of (ends m) no_ends (j, i) c in
      let k : r.0 < length (ends m) = r.1 in
      let within : 2 * r.0 + 1 < length m.half_edges = omega (arith, k, length-ends_twice m s) in
      let e = sym (ap pair_of (get_or-ends m r.0 no_ends within)) ∙ r.2 in
      let there = rev_of_odd r.0 in
      (2 * r.0 + 1, within, ap (λ q. q.1) e, ap (origin m) there ∙ ap (λ q. q.0) e)
