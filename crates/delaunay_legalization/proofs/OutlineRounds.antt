-- Loops of outer edges, by heights: where each loop turns up at a vertex that one outer edge
-- leaves, there is one loop.
-- Notions: IsOut, end, TurnsUp, HasOneLow, IsLowest; next_out, outline_by_low, out_edge, out_pair,
-- same_ends, same_low.
use Rattle.std.proofs.Common.{◌≡◌, ◌+◌, ◌-◌, ◌<◌, ◌≤◌, ◌∙◌}
use Rattle.std.proofs.Common.{ℕ, zero, suc, length, Bool, true, refl, sym, ap, subst}
use Rattle.std.proofs.Common.{arith}
use mathlib.Core.Logic.{inl, inr}
use Rattle.std.specs.Prelude.{ℤ, ◌<ℤ◌, ◌≤ℤ◌, neg_ℤ, Contains}
use Rattle.std.proofs.lemmas.Int.{ints}
use Rattle.std.proofs.lemmas.Bool.{cases_eq}
use Rattle.plane.proofs.{at_most_both_ways, less_if_not_same}
use Rattle.half_edge_links.specs.{AreSoundLinks, face, HasOneOutline, IsClosedAlong, IsOuterEdge}
use Rattle.half_edge_links.specs.{iterate, Mesh, next, origin, prev}
use Rattle.half_edge_links.proofs.{Lists.Orbits.comes_back, step_add}
use Rattle.plane_theorems.proofs.{IsOnce}
use Rattle.{delaunay_legalization.specs.outer_of, plane_theorems.proofs.Tiling.Rising.greatest}
use Rattle.delaunay_legalization.proofs.LineNeighbours.{HaveOwnHeights}
use Rattle.delaunay_legalization.proofs.OuterEdges.{listed, one_edge}

-- ---- a walk that comes back, and its lowest place
module _ (f : ℕ → ℕ) (o k : ℕ) (some : 0 < k) (back : iterate f k o ≡ o) where
  -- each place of the walk is one of the first k
  in_round : (j : ℕ) → (i : ℕ) × (i < k) × (iterate f j o ≡ iterate f i o)
  in_round zero = (0, some, refl)
  in_round (suc j) =
      let r = in_round j in
      elim (cases_eq (suc r.0) k) [
        | inl e ↦ (0, some, ap f r.2 ∙ ap (λ i. iterate f i o) e ∙ back)
        | inr n ↦ (suc r.0, omega (arith, r.1, n), ap f r.2)
      ]

  -- from each place the walk comes back to the start
  to_start : (j : ℕ) → (i : ℕ) × (iterate f i (iterate f j o) ≡ o)
  to_start j =
      let r = in_round j in
      let e : (k - r.0) + r.0 ≡ k = omega (arith, r.1) in (
        k - r.0,
        ap (iterate f (k - r.0)) r.2 ∙ sym (step_add f o (k - r.0) r.0)
            ∙ ap (λ i. iterate f i o) e ∙ back,
      )

  -- one place after the start is lowest
  lowest_place : (height : ℕ → ℤ)
      → (i : ℕ) × ((j : ℕ) → height (iterate f (suc i) o) ≤ℤ height (iterate f j o))
  lowest_place height =
      let g = greatest (λ i. neg_ℤ (height (iterate f i o))) k some in
      let e : suc (g.0 + (k - 1)) ≡ g.0 + k = omega (arith, some) in
      let there : iterate f (suc (g.0 + (k - 1))) o ≡ iterate f g.0 o =
      ap (λ i. iterate f i o) e ∙ step_add f o g.0 k ∙ ap (iterate f g.0) back in (
        g.0 + (k - 1),
        λ j. let r = in_round j in
            at_most _ _ _ _ (ap height there) (ap height r.2) (g.2 r.0 r.1),
      )
    where
      at_most : (a b c d : ℤ) → a ≡ b → d ≡ c → neg_ℤ c ≤ℤ neg_ℤ b → a ≤ℤ d
      at_most a b c d e h l = omega (arith, ints)

-- ---- outer edges, by a height of their origins
-- edge h has the outer face on its left
abbrev pub IsOut : Mesh → ℕ → Type 0
IsOut m h = (h < length m.half_edges) × (face m h ≡ 0)

-- the edge after an outer edge is outer
pub next_out : (m : Mesh) → AreSoundLinks m → (h : ℕ) → IsOut m h → IsOut m (next m h)
next_out m s h o = let e = s.edges h o.0 in (e.next_in, e.same_face ∙ o.1)

along_out : (m : Mesh) → AreSoundLinks m → (h : ℕ) → IsOut m h → (i : ℕ)
    → IsOut m (iterate (next m) i h)
along_out m s h o zero = o
along_out m s h o (suc i) = next_out m s (iterate (next m) i h) (along_out m s h o i)

-- where an edge ends
abbrev pub end : Mesh → ℕ → ℕ
end m h = origin m (next m h)

-- an outer edge comes down to a vertex, and the next one goes up
abbrev pub TurnsUp : Mesh → (ℕ → ℤ) → ℕ → Type 0
TurnsUp m height h = (height (end m h) <ℤ height (origin m h))
    × (height (end m h) <ℤ height (end m (next m h)))

-- no outer edge is level, outer edges turn up at low vertices alone, and one outer edge leaves
-- these
pub record HasOneLow (m : Mesh) (height : ℕ → ℤ) (IsLow : ℕ → Type 0) : Type 0 where
  pub slopes : (h : ℕ) → IsOut m h → ¬ (height (origin m h) ≡ height (end m h))
  pub turns : (h : ℕ) → IsOut m h → TurnsUp m height h → IsLow (end m h)
  pub one : (h g : ℕ) → IsOut m h → IsOut m g → IsLow (origin m h) → IsLow (origin m g) → h ≡ g

module _ (m : Mesh) (s : AreSoundLinks m) where
  next_one : (a b : ℕ) → a < length m.half_edges → b < length m.half_edges
      → next m a ≡ next m b → a ≡ b
  next_one a b k l e = sym (s.edges a k).prev_next ∙ ap (prev m) e ∙ (s.edges b l).prev_next

  comes : (h : ℕ) → IsOut m h
      → (k : ℕ) × (0 < k) × (k ≤ length m.half_edges) × (iterate (next m) k h ≡ h)
  comes h o =
      comes_back (next m) (length m.half_edges) (λ a l. (s.edges a l).next_in) next_one h o.0

  stays_among : (among : ℕ → Bool) → IsClosedAlong m among → (h : ℕ) → IsOut m h → among h ≡ true
      → (i : ℕ) → among (iterate (next m) i h) ≡ true
  stays_among among closed h o is zero = is
  stays_among among closed h o is (suc i) =
      let a = along_out m s h o i in
      closed (iterate (next m) i h) a.0 a.1 (stays_among among closed h o is i)

  module _ (height : ℕ → ℤ) (IsLow : ℕ → Type 0) (low : HasOneLow m height IsLow) where
    -- each outer edge is followed by one that leaves a low vertex
    to_low : (h : ℕ) → IsOut m h → (i : ℕ) × IsLow (origin m (iterate (next m) i h))
    to_low h o =
        let k = comes h o in
        let l = lowest_place (next m) h k.0 k.1 k.3 (λ g. height (origin m g)) in
        let a : ℕ = iterate (next m) l.0 h in
        let a_out = along_out m s h o l.0 in
        let down = less_if_not_same _ _ (l.1 l.0) (λ e. low.slopes a a_out (sym e)) in
        let up = less_if_not_same _ _ (l.1 (suc (suc l.0)))
        (low.slopes (next m a) (next_out m s a a_out)) in
        (suc l.0, low.turns a a_out (down, up))

    -- where at most one outer edge leaves a low vertex, as heights tell it, there is one outline
    pub outline_by_low : HasOneOutline m
    outline_by_low among closed h g h_in g_in h_out g_out is =
        let o : IsOut m h = (h_in, h_out) in
        let q : IsOut m g = (g_in, g_out) in
        let i = to_low h o in
        let j = to_low g q in
        let k = comes g q in
        let back = to_start (next m) g k.0 k.1 k.3 j.0 in
        let out = along_out m s h o i.0 in
        let met = low.one _ _ out (along_out m s g q j.0) i.1 j.1 in
        let there = stays_among among closed _ out (stays_among among closed h o is i.0) back.0 in
        ap among (sym back.1 ∙ ap (iterate (next m) back.0) (sym met)) ∙ there

  -- ---- an outer edge as a pair, with where the next one starts
  -- an outer edge leads from its start to its end
  pub out_edge : (h : ℕ) → IsOut m h → IsOuterEdge m h (origin m h) (end m h)
  out_edge h o =
      record { within = o.0; outer = o.1; source = refl; target = sym (s.edges h o.0).starts }

  -- the pair of its ends is among the outer pairs of the mesh
  pub out_pair : (h : ℕ) → IsOut m h → Contains (outer_of m) (origin m h, end m h)
  out_pair h o = listed m h (origin m h) (end m h) (out_edge h o)

  -- outer edges with the same ends are one
  pub same_ends : IsOnce (outer_of m) → (h g : ℕ) → IsOut m h → IsOut m g → origin m h ≡ origin m g
      → end m h ≡ end m g → h ≡ g
  same_ends once h g o q starts meet =
      let other : IsOuterEdge m g (origin m h) (end m h) =
      subst (λ (e : ℕ × ℕ). IsOuterEdge m g e.0 e.1) (λ t. (sym starts t, sym meet t))
      (out_edge g q) in
      one_edge m once h g (origin m h) (end m h) (out_edge h o) other

-- ---- the lowest of n vertices
-- vertex v is one of n and none of them is lower
abbrev pub IsLowest : (ℕ → ℤ) → ℕ → ℕ → Type 0
IsLowest height n v = (v < n) × ((k : ℕ) → k < n → height v ≤ℤ height k)

-- two lowest of n vertices are one
pub same_low : (height : ℕ → ℤ) (n : ℕ) → HaveOwnHeights height n → (u v : ℕ)
    → IsLowest height n u → IsLowest height n v → u ≡ v
same_low height n apart u v a b = elim (cases_eq u v) [
  | inl e ↦ e
  | inr d ↦
      absurd (apart u v a.0 b.0 d (at_most_both_ways (height u) (height v) (a.1 v b.0) (b.1 u a.0)))
]
