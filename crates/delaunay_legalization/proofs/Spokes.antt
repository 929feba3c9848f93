-- Edges of a vertex that follow one another against the clock, until a first one comes again.
-- Notions: Follow, AreNext, how_many_left, ComesBetween; all_left, one_fewer, next_is_left,
-- none_behind, count_left, one_more_left.
use Rattle.std.proofs.Common.{◌≡◌, ◌≢◌, ◌⊎◌, ℕ, zero, suc, ◌+◌, ◌<◌, ◌≤◌, ◌==◌, true, false}
use Rattle.std.proofs.Common.{[], ◌∷◌, ◌∙◌}
use Rattle.std.proofs.Common.{List, length, map, Some, refl, sym, ap, subst, inl, inr, arith}
use Rattle.std.specs.Prelude.{Contains}
use Rattle.std.specs.List.{range_with_len}
use Rattle.std.proofs.lemmas.Bool.{eq-eqb}
use Rattle.std.proofs.lemmas.Bool.Decides.{eqb_tells}
use Rattle.half_edge_links.specs.{IsRound, IsValidMesh, Mesh, origin, out_edge, spoke, turn}
use Rattle.plane_theorems.proofs.{Contains-cases, Contains-head, Contains-later, IsOnce, once_cons}
use Rattle.plane_theorems.proofs.{once_head, once_tail}
use Rattle.{half_edge_dcel.specs.walk, half_edge_links.proofs.Lists.OneOrbit.edges_go_round}
use Rattle.delaunay_legalization.proofs.{Entries.index_listed, Rounds.spokes_once}
use Rattle.delaunay_legalization.proofs.WorkLists.{at_most_so_many, contains_map, contains_map_from}

-- from edge h on these edges come, and then edge first
pub Follow : Mesh → ℕ → ℕ → List ℕ → Type 0
Follow m first h [] = turn m h ≡ first
Follow m first h (g ∷ gs) = (turn m h ≡ g) × Follow m first g gs

-- edge h and these behind it are edges of vertex v, until the first comes again
pub record AreNext (m : Mesh) (v first h : ℕ) (gs : List ℕ) : Type 0 where
  pub follow : Follow m first h gs
  pub within : (g : ℕ) → Contains (h ∷ gs) g → g < length m.half_edges
  pub starts : (g : ℕ) → Contains (h ∷ gs) g → origin m g ≡ v
  pub once : IsOnce (h ∷ gs)
  pub before : ¬ Contains gs first

-- ---- all edges of a vertex
module _ (m : Mesh) (v first count : ℕ) (round : IsRound m v first count) where
  -- from its i-th edge on the others follow
  round_follows : (i k : ℕ) → (suc i) + k ≡ count
      → Follow m first (spoke m first i) (map (spoke m first) (range_with_len (suc i) k))
  unfolding Follow
  round_follows i zero e =
      ap (spoke m first) (let q : suc i ≡ 0 + count = omega (arith, e) in q) ∙ round.back 0
  round_follows i (suc k) e =
      let q : suc i + 1 ≡ suc (suc i) = omega arith in (
        refl,
        subst (λ j. Follow m first (spoke m first (suc i))
            (map (spoke m first) (range_with_len j k))) (sym q)
            (round_follows (suc i) k (omega (arith, e))),
      )

  module _ (n : ℕ) (one_more : count ≡ suc n) where
    others : List ℕ
    others = map (spoke m first) (range_with_len 1 n)

    whole : map (spoke m first) (range_with_len 0 count) ≡ first ∷ others
    unfolding others
    whole = ap (λ k. map (spoke m first) (range_with_len 0 k)) one_more

    in_round : (g : ℕ) → Contains (first ∷ others) g
        → (i : ℕ) × Contains (range_with_len 0 count) i × (spoke m first i ≡ g)
    in_round g c = contains_map_from (spoke m first) (range_with_len 0 count) g
        (subst (λ (xs : List ℕ). Contains xs g) (sym whole) c)

    others_are_left : AreNext m v first first others
    unfolding others
    others_are_left = record {
      follow = round_follows 0 n (omega (arith, one_more));
      within = λ g c. let y = in_round g c in
          subst (λ (k : ℕ). k < length m.half_edges) y.2 (round.within y.0);
      starts = λ g c. let y = in_round g c in ap (origin m) (sym y.2) ∙ round.starts y.0;
      once = is_once;
      before = once_head first (map (spoke m first) (range_with_len 1 n)) is_once;
    }
      where
        is_once : IsOnce (first ∷ map (spoke m first) (range_with_len 1 n))
        is_once = subst (λ (xs : List ℕ). IsOnce xs) whole (spokes_once m v first count round)

    all_others : (h : ℕ) → h < length m.half_edges → origin m h ≡ v → Contains (first ∷ others) h
    all_others h w e =
        let i = round.all h w e in
        subst (λ (xs : List ℕ). Contains xs h) whole (subst
        (λ (k : ℕ). Contains (map (spoke m first) (range_with_len 0 count)) k) (sym i.2)
        (contains_map (spoke m first) (range_with_len 0 count) i.0 (index_listed count i.0 i.1)))

-- at first all of them are left
pub all_left : (m : Mesh) → IsValidMesh m → (v first : ℕ) → out_edge m v ≡ Some first
    → (gs : List ℕ) × AreNext m v first first gs
    × ((h : ℕ) → h < length m.half_edges → origin m h ≡ v → Contains (first ∷ gs) h)
all_left m valid v first named = go (edges_go_round m valid v first named)
  where
    go : (count : ℕ) × IsRound m v first count → (gs : List ℕ) × AreNext m v first first gs
        × ((h : ℕ) → h < length m.half_edges → origin m h ≡ v → Contains (first ∷ gs) h)
    go (zero, r) = let some = r.some in absurd (omega (arith, some))
    go (suc n, r) = (
      others m v first (suc n) r n refl,
      others_are_left m v first (suc n) r n refl,
      all_others m v first (suc n) r n refl,
    )

-- ---- the next one
module _ (m : Mesh) (v first h : ℕ) where
  -- one fewer is left behind it
  pub one_fewer : (g : ℕ) (gs : List ℕ) → AreNext m v first h (g ∷ gs) → AreNext m v first g gs
  unfolding Follow
  one_fewer g gs left = record {
    follow = left.follow.1;
    within = λ j c. left.within j (Contains-later h (g ∷ gs) j c);
    starts = λ j c. left.starts j (Contains-later h (g ∷ gs) j c);
    once = once_tail h (g ∷ gs) left.once;
    before = λ c. left.before (Contains-later g gs first c);
  }

  -- where the next is not the first, it is the head of those behind
  pub next_is_left : (gs : List ℕ) → AreNext m v first h gs → turn m h ≢ first
      → (rest : List ℕ) × (gs ≡ turn m h ∷ rest)
  unfolding Follow
  next_is_left [] left off = absurd (off left.follow)
  next_is_left (g ∷ gs) left off = (gs, ap (λ j. j ∷ gs) (sym left.follow.0))

  -- where it is the first, none is left behind
  pub none_behind : (gs : List ℕ) → AreNext m v first h gs → turn m h ≡ first → gs ≡ []
  unfolding Follow
  none_behind [] left back = refl
  none_behind (g ∷ gs) left back =
      absurd
      (left.before (subst (Contains (g ∷ gs)) (sym left.follow.0 ∙ back) (Contains-head g gs)))

-- ---- how many are left
-- the walk along the edges that are left comes to just these
walk_along : (m : Mesh) (first : ℕ) (gs : List ℕ) (h fuel : ℕ) → Follow m first h gs
    → ¬ Contains gs first → length (h ∷ gs) ≤ fuel → walk (turn m) first fuel h ≡ h ∷ gs
unfolding Follow
walk_along m first gs h zero f n enough = absurd (omega (arith, enough))
walk_along m first [] h (suc k) f n enough =
    let home : turn m h == first ≡ true = eq-eqb _ _ f in
    rw home refl
walk_along m first (g ∷ gs) h (suc k) f n enough = elim (eqb_tells (turn m h) first) [
  | inl q ↦ absurd (n (subst (Contains (g ∷ gs)) (sym f.0 ∙ q.1) (Contains-head g gs)))
  | inr q ↦
      let away : turn m h == first ≡ false = q.0 in
      rw (away, f.0)
      (ap (λ xs. h ∷ xs) (walk_along m first gs g k f.1 (λ c. n (Contains-later g gs first c))
      (omega (arith, enough))))
]

-- the edges that are left from edge h on, counted
abbrev pub how_many_left : Mesh → ℕ → ℕ → ℕ
how_many_left m first h = length (walk (turn m) first (length m.half_edges) h)

pub count_left : (m : Mesh) (v first h : ℕ) (gs : List ℕ) → AreNext m v first h gs
    → how_many_left m first h ≡ suc (length gs)
count_left m v first h gs left =
    ap (λ xs. length xs) (walk_along m first gs h (length m.half_edges) left.follow
    left.before (at_most_so_many (h ∷ gs) (length m.half_edges) left.once left.within))

-- ---- one comes in between
-- after a flip the edge new comes between edge h and what was behind it
pub record ComesBetween (m new : Mesh) (v h g : ℕ) : Type 0 where
  pub edge_count : length new.half_edges ≡ length m.half_edges
  pub here : turn new h ≡ g
  pub behind : turn new g ≡ turn m h
  pub within : g < length m.half_edges
  pub fresh : origin m g ≢ v
  pub starts : origin new g ≡ v
  pub origins : (j : ℕ) → j < length m.half_edges → origin m j ≡ v → origin new j ≡ v
  pub others : (j : ℕ) → j < length m.half_edges → origin m j ≡ v → j ≢ h → turn new j ≡ turn m j

module _ (m new : Mesh) (v first h g : ℕ) (first_starts : origin m first ≡ v)
    (c : ComesBetween m new v h g) where
  -- edges that stay follow as they did
  still_follow : (gs : List ℕ) (i j : ℕ) → turn new j ≡ turn m i
      → ((k : ℕ) → Contains gs k → turn new k ≡ turn m k) → Follow m first i gs
      → Follow new first j gs
  unfolding Follow
  still_follow [] i j same stay f = same ∙ f
  still_follow (k ∷ gs) i j same stay f = (
    same ∙ f.0,
    still_follow gs k k (stay k (Contains-head k gs)) (λ l d. stay l (Contains-later k gs l d)) f.1,
  )

  pub one_more_left : (gs : List ℕ) → AreNext m v first h gs → AreNext new v first h (g ∷ gs)
  unfolding Follow
  one_more_left gs left = record {
    follow = (
      c.here,
      still_follow gs h g c.behind (λ k d. c.others k (left.within k (Contains-later h gs k d))
          (left.starts k (Contains-later h gs k d))
          (λ e. once_head h gs left.once (subst (Contains gs) e d)))
          left.follow,
    );
    within = λ k d. subst (λ n. k < n) (sym c.edge_count) (within k (cases k d));
    starts = λ k d. starts k (cases k d);
    once = once_cons h (g ∷ gs) (λ d. elim (Contains-cases g gs h d) [
      | inl e ↦ c.fresh (ap (origin m) e ∙ left.starts h (Contains-head h gs))
      | inr d ↦ once_head h gs left.once d
    ]) (once_cons g gs (λ d. c.fresh (left.starts g (Contains-later h gs g d)))
        (once_tail h gs left.once));
    before = λ d. elim (Contains-cases g gs first d) [
      | inl e ↦ c.fresh (ap (origin m) e ∙ first_starts)
      | inr d ↦ left.before d
    ];
  }
    where
      cases : (k : ℕ) → Contains (h ∷ g ∷ gs) k → (k ≡ g) ⊎ Contains (h ∷ gs) k
      cases k d = elim (Contains-cases h (g ∷ gs) k d) [
        | inl e ↦ inr (subst (Contains (h ∷ gs)) e (Contains-head h gs))
        | inr d ↦ elim (Contains-cases g gs k d) [
          | inl e ↦ inl (sym e)
          | inr d ↦ inr (Contains-later h gs k d)
        ]
      ]

      within : (k : ℕ) → (k ≡ g) ⊎ Contains (h ∷ gs) k → k < length m.half_edges
      within k (inl e) = subst (λ j. j < length m.half_edges) (sym e) c.within
      within k (inr d) = left.within k d

      starts : (k : ℕ) → (k ≡ g) ⊎ Contains (h ∷ gs) k → origin new k ≡ v
      starts k (inl e) = ap (origin new) e ∙ c.starts
      starts k (inr d) = c.origins k (left.within k d) (left.starts k d)
