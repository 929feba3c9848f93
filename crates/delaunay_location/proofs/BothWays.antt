-- Going through the edges of a vertex both ways at once, from a first one on until the two ways
-- meet.
-- Notions: IsClosingIn, how_many_before; no_edges, closing_in_begins, left_within, right_within,
-- left_starts, seen_where_left_meets, left_goes_on, fewer_before, right_starts, right_ends,
-- seen_where_right_meets, right_goes_on.
use Rattle.std.proofs.Common.{◌≡◌, ◌≢◌, ℕ, zero, suc, ◌+◌, ◌-◌, ◌<◌, ◌≤◌, ◌==◌, true, false}
use Rattle.std.proofs.Common.{◌∙◌}
use Rattle.std.proofs.Common.{length, map, IsSome, IsNone, refl, sym, ap, subst, inl, inr}
use Rattle.std.proofs.Common.{arith}
use Rattle.std.specs.List.{range_with_len}
use Rattle.std.proofs.Math.Nat.{eq-or-lt_of_le}
use Rattle.std.proofs.lemmas.Bool.{cases_lt}
use Rattle.std.proofs.lemmas.Bool.{eq-eqb}
use Rattle.std.proofs.lemmas.Bool.Decides.{eqb_tells}
use Rattle.std.proofs.lemmas.List.FromFn.{length-map-range_with_len}
use Rattle.half_edge_links.specs.{AreSoundLinks, IsRound, IsValidMesh, Mesh, next, origin, out_edge}
use Rattle.half_edge_links.specs.{prev, rev, spoke, turn}
use Rattle.half_edge_dcel.specs.{walk}
use Rattle.delaunay_legalization.proofs.{at_most_so_many, contains_map_from, round_at}
use Rattle.{delaunay_legalization.proofs.Rounds.spokes_once, half_edge_links.proofs.rev-rev}

-- edges left and right of vertex v lie at two places of the round against the clock that begins
-- with the first edge and comes to it again, and P holds of all from the first to the one on the
-- right and from the one on the left on
pub record IsClosingIn (m : Mesh) (v first : ℕ) (P : ℕ → Type 0) (left right : ℕ) : Type 0 where
  pub valid : IsValidMesh m
  pub count : ℕ
  pub round : IsRound m v first count
  pub low : ℕ
  pub high : ℕ
  pub order : low < high
  pub among : high ≤ count
  pub at_left : left ≡ spoke m first high
  pub at_right : right ≡ spoke m first low
  pub above : (j : ℕ) → high ≤ j → j ≤ count → P (spoke m first j)
  pub below : (j : ℕ) → j ≤ low → P (spoke m first j)

-- how many edges come between the first, itself one of them, and edge h
abbrev pub how_many_before : Mesh → ℕ → ℕ → ℕ
how_many_before m first h = length (walk (turn m) h (length m.half_edges) first)

-- a vertex that names no edge has none
pub no_edges : {m : Mesh} {v h : ℕ} → AreSoundLinks m → IsNone (out_edge m v)
    → h < length m.half_edges → origin m h ≢ v
no_edges {m = m} {h = h} sound none within starts =
    let some = subst (λ (x : ℕ). IsSome (out_edge m x)) starts (sound.edges h within).has_out in
    absurd (cc (some, none))

module _ (m : Mesh) (v first count : ℕ) (round : IsRound m v first count) where
  -- after a whole round the first edge comes again
  comes_again : spoke m first count ≡ first
  comes_again = ap (spoke m first) (let q : count ≡ 0 + count = omega arith in q) ∙ round.back 0

  -- a vertex has no more edges than there are
  count_fits : count ≤ length m.half_edges
  count_fits =
      let size = length-map-range_with_len (spoke m first) 0 count in
      let fits =
      at_most_so_many (map (spoke m first) (range_with_len 0 count)) (length m.half_edges)
      (spokes_once m v first count round) (λ k c.
      let y = contains_map_from (spoke m first) (range_with_len 0 count) k c in
      subst (λ (z : ℕ). z < length m.half_edges) y.2 (round.within y.0)) in
      omega (arith, size, fits)

  -- the edge before the i-th, clockwise
  one_back : AreSoundLinks m → (i h : ℕ) → h ≡ spoke m first (suc i)
      → next m (rev h) ≡ spoke m first i
  one_back sound i h here =
      ap (λ k. next m (rev k)) here ∙ ap (next m) (rev-rev (prev m (spoke m first i)))
      ∙ (sound.edges (spoke m first i) (round.within i)).next_prev

  -- an edge but the first is not a later one of the round
  apart_from : (i j : ℕ) → 0 < i → i < j → j ≤ count → spoke m first i ≢ spoke m first j
  apart_from i j some less among = elim (eq-or-lt_of_le among) [
    | inl last ↦ (λ e. round.apart 0 i some (omega (arith, less, last))
        (sym (e ∙ ap (spoke m first) last ∙ comes_again)))
    | inr below ↦ round.apart i j less below
  ]

  -- the walk from the k-th edge to the one that comes n places after the next has so many edges
  walk_length : (n k i h fuel : ℕ) → h ≡ spoke m first i → i ≡ k + suc n → i ≤ count → suc n ≤ fuel
      → length (walk (turn m) h fuel (spoke m first k)) ≡ suc n
  walk_length n k i h zero here is among enough = absurd (omega (arith, enough))
  walk_length zero k i h (suc f) here is among enough =
      let q : suc k ≡ i = omega (arith, is) in
      let home : turn m (spoke m first k) == h ≡ true =
      eq-eqb _ _ (ap (spoke m first) q ∙ sym here) in
      rw home refl
  walk_length (suc n) k i h (suc f) here is among enough =
      elim (eqb_tells (turn m (spoke m first k)) h) [
        | inl q ↦ absurd (apart_from (suc k) i (omega arith) (omega (arith, is)) among (q.1 ∙ here))
        | inr q ↦
            let away : turn m (spoke m first k) == h ≡ false = q.0 in
            rw away (ap suc
            (walk_length n (suc k) i h f here (omega (arith, is)) among (omega (arith, enough))))
      ]

  -- so many edges come before the i-th
  so_many_before : (i h : ℕ) → h ≡ spoke m first i → 0 < i → i ≤ count
      → how_many_before m first h ≡ i
  so_many_before zero h here some among = absurd (omega (arith, some))
  so_many_before (suc n) h here some among =
      walk_length n 0 (suc n) h (length m.half_edges) here (omega arith) among
      (let fits = count_fits in omega (arith, among, fits))

module _ {m : Mesh} {v first : ℕ} {P : ℕ → Type 0} where
  -- at first the edge that both ways begin at was seen
  pub closing_in_begins : IsValidMesh m → first < length m.half_edges → origin m first ≡ v
      → P first → IsClosingIn m v first P first first
  closing_in_begins valid within starts seen =
      let r = round_at m valid v first within starts in record {
        valid = valid;
        count = r.0;
        round = r.1;
        low = 0;
        high = r.0;
        order = r.1.some;
        among = omega arith;
        at_left = sym (comes_again m v first r.0 r.1);
        at_right = refl;
        above = λ j over under. subst P (sym (comes_again m v first r.0 r.1)
            ∙ ap (spoke m first) (let q : r.0 ≡ j = omega (arith, over, under) in q)) seen;
        below = λ j under. subst P
            (ap (spoke m first) (let q : 0 ≡ j = omega (arith, under) in q)) seen;
      }

  module _ {left right : ℕ} (w : IsClosingIn m v first P left right) where
    -- both edges are of the mesh
    pub left_within : left < length m.half_edges
    left_within = subst (λ (k : ℕ). k < length m.half_edges) (sym w.at_left) (w.round.within w.high)

    pub right_within : right < length m.half_edges
    right_within =
        subst (λ (k : ℕ). k < length m.half_edges) (sym w.at_right) (w.round.within w.low)

    -- the place of the edge after the left one, clockwise
    one_less : ℕ
    one_less = w.high - 1

    place_is : w.high ≡ suc one_less
    unfolding one_less
    place_is = let order = w.order in omega (arith, order)

    next_left : next m (rev left) ≡ spoke m first one_less
    next_left =
        one_back m v first w.count w.round w.valid.sound one_less left
        (w.at_left ∙ ap (spoke m first) place_is)

    less_among : one_less ≤ w.count
    less_among = let among = w.among in omega (arith, among, place_is)

    not_passed : w.low ≤ one_less
    not_passed = let order = w.order in omega (arith, order, place_is)

    -- the edge after the right one, against the clock
    next_right : rev (prev m right) ≡ spoke m first (suc w.low)
    next_right = ap (λ k. rev (prev m k)) w.at_right

    -- where no edge is left between them all edges of the vertex were seen
    module _ (closed : w.high ≤ suc w.low) (g : ℕ) (within : g < length m.half_edges)
        (starts : origin m g ≡ v) where
      -- P holds of each edge of the round
      any : (i : ℕ) → i < w.count → P (spoke m first i)
      any i among = elim (cases_lt w.low i) [
        | inl over ↦ w.above i (omega (arith, over, closed)) (omega (arith, among))
        | inr under ↦ w.below i under
      ]

      all_seen : P g
      all_seen = let i = w.round.all g within starts in subst P (sym i.2) (any i.0 i.1)

    -- the next edge on the left
    module _ {l : ℕ} (is : l ≡ next m (rev left)) where
      -- it starts at the vertex
      pub left_starts : origin m l ≡ v
      left_starts = ap (origin m) (is ∙ next_left) ∙ w.round.starts one_less

      -- where it is the one on the right all were seen
      pub seen_where_left_meets : l ≡ right → (g : ℕ) → g < length m.half_edges → origin m g ≡ v
          → P g
      seen_where_left_meets same = all_seen (elim (eq-or-lt_of_le not_passed) [
        | inl e ↦ omega (arith, e, place_is)
        | inr less ↦ absurd (w.round.apart w.low one_less less
            (let among = w.among in omega (arith, among, place_is))
            (sym w.at_right ∙ sym same ∙ is ∙ next_left))
      ])

      module _ (away : l ≢ right) where
        still_apart : w.low < one_less
        still_apart = elim (eq-or-lt_of_le not_passed) [
          | inl e ↦ absurd (away (is ∙ next_left ∙ ap (spoke m first) (sym e) ∙ sym w.at_right))
          | inr less ↦ less
        ]

        -- the left way goes on to it, if it was seen
        pub left_goes_on : P l → IsClosingIn m v first P l right
        left_goes_on seen = record {
          valid = w.valid;
          count = w.count;
          round = w.round;
          low = w.low;
          high = one_less;
          order = still_apart;
          among = less_among;
          at_left = is ∙ next_left;
          at_right = w.at_right;
          above = λ j over under. elim (eq-or-lt_of_le over) [
            | inl e ↦ subst P (is ∙ next_left ∙ ap (spoke m first) e) seen
            | inr later ↦ w.above j (omega (arith, later, place_is)) under
          ];
          below = w.below;
        }

        -- fewer edges come before it then
        pub fewer_before : how_many_before m first l < how_many_before m first left
        fewer_before =
            let less = still_apart in
            let among = w.among in
            let new = so_many_before m v first w.count w.round one_less l (is ∙ next_left)
            (omega (arith, less))
            less_among in
            let old = so_many_before m v first w.count w.round w.high left w.at_left
            (omega (arith, place_is)) among in
            omega (arith, new, old, place_is)

    -- the next edge on the right
    module _ {r : ℕ} (is : r ≡ rev (prev m right)) where
      pub right_starts : origin m r ≡ v
      right_starts = ap (origin m) (is ∙ next_right) ∙ w.round.starts (suc w.low)

      -- it ends where the edge before the right one starts
      pub right_ends : origin m (prev m right) ≡ origin m (rev r)
      right_ends = ap (origin m) (sym (rev-rev (prev m right)) ∙ ap rev (sym is))

      pub seen_where_right_meets : r ≡ left → (g : ℕ) → g < length m.half_edges → origin m g ≡ v
          → P g
      seen_where_right_meets same = all_seen (elim (eq-or-lt_of_le w.order) [
        | inl e ↦ omega (arith, e)
        | inr less ↦
            absurd (apart_from m v first w.count w.round (suc w.low) w.high (omega arith) less
            w.among (sym next_right ∙ sym is ∙ same ∙ w.at_left))
      ])

      pub right_goes_on : r ≢ left → P r → IsClosingIn m v first P left r
      right_goes_on away seen = record {
        valid = w.valid;
        count = w.count;
        round = w.round;
        low = suc w.low;
        high = w.high;
        order = elim (eq-or-lt_of_le w.order) [
          | inl e ↦ absurd (away (is ∙ next_right ∙ ap (spoke m first) e ∙ sym w.at_left))
          | inr less ↦ less
        ];
        among = w.among;
        at_left = w.at_left;
        at_right = is ∙ next_right;
        above = w.above;
        below = λ j under. elim (eq-or-lt_of_le under) [
          | inl e ↦ subst P (is ∙ next_right ∙ ap (spoke m first) (sym e)) seen
          | inr earlier ↦ w.below j (omega (arith, earlier))
        ];
      }
