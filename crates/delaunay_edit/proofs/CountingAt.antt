-- The constraints at a vertex are counted, one edge after another.
-- Notions: IsCountingAt; counting_begins, next_within, counting_goes_past, counting_goes_on,
-- counting_ends.
use Rattle.std.proofs.Common.{◌≡◌, ◌⊎◌, ◌↔◌, ◌+◌, ◌/◌, ◌<◌, ◌≤◌, [], ◌∷◌}
use Rattle.std.proofs.Common.{ℕ, suc, Bool, List, length, map, refl, sym}
use Rattle.std.proofs.Common.{ap, ◌∙◌, subst, inl, inr, arith}
use Rattle.std.specs.Prelude.{Contains}
use Rattle.std.specs.Borrow.{Bor}
use Rattle.plane.specs.{IsSamePair, Joins, Point}
use Rattle.plane.proofs.{same_joined, turned_join}
use Rattle.half_edge_links.specs.{origin, rev}
use Rattle.plane_theorems.proofs.{Contains-cases, Contains-head, Contains-later, Contains-none}
use Rattle.plane_theorems.proofs.{IsOnce, once_head}
use Rattle.half_edge_dcel.specs.{Contents, GivesRound}
use Rattle.delaunay_legalization.specs.{constraints_by, IsTriangulated, KeepsIndexes, marked_edges}
use Rattle.delaunay_legalization.specs.{state_of}
use Rattle.delaunay_legalization.proofs.{at_most_so_many, constraints_are_edges, joins_edge}
use Rattle.delaunay_legalization.proofs.Rounds.{IsLeftOfRound, IsWholeRound, next_left}
use Rattle.delaunay_legalization.proofs.Rounds.{none_is_left, one_less_left, whole_round}
use Rattle.delaunay_edit.specs.{EndsAt, HasPairs}
use Rattle.{delaunay_edit.proofs.JoinedPairs.edge_joins, delaunay_legalization.proofs.own_indexes}
use Rattle.delaunay_edit.proofs.PairCounts.{has_pairs_as, no_pairs, one_more}

module _ {V D U F : Type 0} (constraints : List U → List ℕ) (c : Contents V D U F) where
  abbrev pairs_of : List (ℕ × ℕ)
  pairs_of = constraints_by constraints (state_of c)

  -- a constraint among these directed edges joins a and b
  abbrev AmongEdges : List ℕ → ℕ → ℕ → Type 0
  AmongEdges hs a b = (h : ℕ) × Contains hs h × Contains (constraints c.undirected) (h / 2) ×
      IsSamePair a b (origin c.mesh h) (origin c.mesh (rev h))

-- what is left of the edges of vertex v, and how many constraints there were before
pub record IsCountingAt {V D U F : Type 0} (place : V → Point) (marks : U → Bool)
    (constraints : List U → List ℕ)
    (marked : (ds : List U) → constraints ds ≡ marked_edges marks ds) (c : Contents V D U F) (v : ℕ)
    (given : List (Bor (Contents V D U F) × ℕ)) (count : ℕ) : Type 0 where
  pub kept : IsTriangulated place (state_of c)
  pub rest : List ℕ
  pub are_left : IsLeftOfRound c v given rest
  pub few : count + length rest ≤ length c.mesh.half_edges
  pub total : (k : ℕ) → HasPairs (AmongEdges constraints c rest) k
      → HasPairs (EndsAt (pairs_of constraints c) v) (count + k)

module _ {V D U F : Type 0} (place : V → Point) (marks : U → Bool) (constraints : List U → List ℕ)
    (marked : (ds : List U) → constraints ds ≡ marked_edges marks ds) (c : Contents V D U F)
    (kept : IsTriangulated place (state_of c)) (v : ℕ) where
  abbrev pairs : List (ℕ × ℕ)
  pairs = pairs_of constraints c

  abbrev Among : List ℕ → ℕ → ℕ → Type 0
  Among hs a b = AmongEdges constraints c hs a b

  -- all edges of the vertex have all its constraints
  all_among : (given : List (Bor (Contents V D U F) × ℕ)) (w : IsWholeRound c v given) (a b : ℕ)
      → Among w.rest a b ↔ EndsAt pairs v a b
  all_among given w a b = ((λ x. forth x.0 x.1 x.2 x.3), (λ x. back x.0 x.1))
    where
      at_end : (h : ℕ) → origin c.mesh h ≡ v
          → IsSamePair a b (origin c.mesh h) (origin c.mesh (rev h)) → (a ≡ v) ⊎ (b ≡ v)
      at_end h e (inl s) = inl (s.0 ∙ e)
      at_end h e (inr s) = inr (s.1 ∙ e)

      forth : (h : ℕ) → Contains w.rest h → Contains (constraints c.undirected) (h / 2) →
          IsSamePair a b (origin c.mesh h) (origin c.mesh (rev h)) → EndsAt pairs v a b
      forth h there mark same = (
        same_joined pairs a b (origin c.mesh h) (origin c.mesh (rev h)) same
            ((edge_joins place marks constraints marked c kept (origin c.mesh h)
            (origin c.mesh (rev h)) h
            (w.are_left.within h there) refl refl).0 mark),
        at_end h (w.are_left.starts h there) same,
      )

      found : (x y : ℕ) → Joins pairs x y → x ≡ v
          → (h : ℕ) × Contains w.rest h × Contains (constraints c.undirected) (h / 2)
          × (origin c.mesh h ≡ x) × (origin c.mesh (rev h) ≡ y)
      found x y j e =
          let g = joins_edge c.mesh kept.valid.sound x y
          (constraints_are_edges marks constraints marked c.mesh c.undirected
          kept.fits.undirected_fit kept.valid x
          y j) in (
            g.0,
            w.all g.0 g.1 (g.2 ∙ e),
            (edge_joins place marks constraints marked c kept x y g.0 g.1 g.2 g.3).1 j,
            g.2,
            g.3,
          )

      back : Joins pairs a b → (a ≡ v) ⊎ (b ≡ v) → Among w.rest a b
      back j (inl e) = let g = found a b j e in (g.0, g.1, g.2, inl (sym g.3, sym g.4))
      back j (inr e) = let g = found b a (turned_join pairs a b j) e in
          (g.0, g.1, g.2, inr (sym g.4, sym g.3))

  -- before the first edge the count is 0
  pub counting_begins : (d : Bor (Contents V D U F)) (given : List (Bor (Contents V D U F) × ℕ))
      → d.now ≡ c → GivesRound d v given
      → IsCountingAt place marks constraints marked c v given 0
  counting_begins d given same gives =
      let w = whole_round c v d given same kept.valid gives in
      record {
        kept = kept;
        rest = w.rest;
        are_left = w.are_left;
        few =
            let few = at_most_so_many w.rest
            (length c.mesh.half_edges) w.are_left.once w.are_left.within in
            omega (arith, few);
        total = λ k has.
            subst (λ (n : ℕ). HasPairs (EndsAt pairs v) n) (omega arith)
            (has_pairs_as has (all_among given w));
      }

  -- one edge less is left
  without_mark : (i : ℕ) (hs : List ℕ) (k : ℕ) → ¬ Contains (constraints c.undirected) (i / 2)
      → HasPairs (Among hs) k → HasPairs (Among (i ∷ hs)) k
  without_mark i hs k none has = has_pairs_as has (λ a b. (
    (λ x. (x.0, Contains-later i hs x.0 x.1, x.2, x.3)),
    (λ x. elim (Contains-cases i hs x.0 x.1) [
      | inl e ↦
          absurd (none (subst (λ (h : ℕ). Contains (constraints c.undirected) (h / 2)) (sym e) x.2))
      | inr y ↦ (x.0, y, x.2, x.3)
    ]),
  ))

  with_mark : (i : ℕ) (hs : List ℕ) (k : ℕ)
      → ((h : ℕ) → Contains (i ∷ hs) h → h < length c.mesh.half_edges)
      → ((h : ℕ) → Contains (i ∷ hs) h → origin c.mesh h ≡ v) → IsOnce (i ∷ hs)
      → Contains (constraints c.undirected) (i / 2) → HasPairs (Among hs) k
      → HasPairs (Among (i ∷ hs)) (suc k)
  with_mark i hs k within starts once mark has =
      has_pairs_as (one_more has (origin c.mesh i) (origin c.mesh (rev i)) (λ x. apart x.0 x.1 x.3))
      (λ a b. (
        (λ x. elim x [
          | inl y ↦ (y.0, Contains-later i hs y.0 y.1, y.2, y.3)
          | inr s ↦ (i, Contains-head i hs, mark, s)
        ]),
        (λ x. elim (Contains-cases i hs x.0 x.1) [
          | inl e ↦ inr (subst (λ (h : ℕ). IsSamePair a b (origin c.mesh h) (origin c.mesh (rev h)))
              (sym e) x.3)
          | inr y ↦ inl (x.0, y, x.2, x.3)
        ]),
      ))
    where
      indexes : KeepsIndexes c.mesh c.mesh
      indexes = own_indexes (map place c.vertices) c.mesh kept.valid kept.shape

      apart : (h : ℕ) → Contains hs h → ¬ IsSamePair (origin c.mesh i) (origin c.mesh (rev i))
          (origin c.mesh h) (origin c.mesh (rev h))
      apart h there (inl s) = once_head i hs once (subst (λ (x : ℕ). Contains hs x)
          (indexes.edges i h (within i (Contains-head i hs))
          (within h (Contains-later i hs h there))
          (sym s.0, sym s.1)) there)
      apart h there (inr s) = kept.valid.apart h (within h (Contains-later i hs h there))
          (starts h (Contains-later i hs h there) ∙ sym (starts i (Contains-head i hs)) ∙ s.0)

module _ {V D U F : Type 0} {place : V → Point} {marks : U → Bool} {constraints : List U → List ℕ}
    {marked : (ds : List U) → constraints ds ≡ marked_edges marks ds} {c : Contents V D U F} {v : ℕ}
    {given : List (Bor (Contents V D U F) × ℕ)} {count : ℕ}
    (p : IsCountingAt place marks constraints marked c v given count) where
  abbrev Ending : ℕ → Type 0
  Ending n = HasPairs (EndsAt (pairs_of constraints c) v) n

  abbrev Left : List ℕ → ℕ → Type 0
  Left hs k = HasPairs (AmongEdges constraints c hs) k

  abbrev Counting : List (Bor (Contents V D U F) × ℕ) → ℕ → Type 0
  Counting rest n = IsCountingAt place marks constraints marked c v rest n

  -- a handle of the next edge that is given, as an undirected one, is one of the mesh
  pub next_within : {x : Bor (Contents V D U F) × ℕ} {left : List (Bor (Contents V D U F) × ℕ)}
      → given ≡ x ∷ left → {f u : ℕ} → f ≡ x.1 → u ≡ f / 2 → u < length c.undirected
  next_within {x = x} {left = left} e is half =
      let within = p.are_left.within x.1 (next_left c v given p.rest p.are_left x left e) in
      let fit = p.kept.fits.undirected_fit in
      omega (arith, within, fit, is, half)

  module _ {x : Bor (Contents V D U F) × ℕ} {left : List (Bor (Contents V D U F) × ℕ)}
      (e : given ≡ x ∷ left) where
    -- the edge that is given next is the first of those left, and the others are left after it
    s : (others : List ℕ) × (p.rest ≡ x.1 ∷ others) × IsLeftOfRound c v left others
    s = one_less_left c v given p.rest p.are_left x left e

    within_now : (h : ℕ) → Contains (x.1 ∷ s.0) h → h < length c.mesh.half_edges
    within_now h y = p.are_left.within h (subst (λ (xs : List ℕ). Contains xs h) (sym s.1) y)

    starts_now : (h : ℕ) → Contains (x.1 ∷ s.0) h → origin c.mesh h ≡ v
    starts_now h y = p.are_left.starts h (subst (λ (xs : List ℕ). Contains xs h) (sym s.1) y)

    once_now : IsOnce (x.1 ∷ s.0)
    once_now = subst (λ (xs : List ℕ). IsOnce xs) s.1 p.are_left.once

    -- one edge more is left before it is given than after
    size : length p.rest ≡ suc (length s.0)
    size = ap length s.1

    total_now : (k : ℕ) → Left (x.1 ∷ s.0) k → Ending (count + k)
    total_now k has = p.total k (subst (λ (xs : List ℕ). Left xs k) (sym s.1) has)

    going_on : (count_now : ℕ) → count_now ≤ count + 1
        → ((k : ℕ) → Left s.0 k → Ending (count_now + k)) → Counting left count_now
    going_on count_now more total = record {
      kept = p.kept;
      rest = s.0;
      are_left = s.2;
      few = (let few = p.few in omega (arith, size, few, more));
      total = total;
    }

    -- where it is no constraint, the count stays
    pub counting_goes_past : ¬ Contains (constraints c.undirected) (x.1 / 2) → Counting left count
    counting_goes_past none =
        going_on count (omega arith) (λ k has. total_now k
        (without_mark place marks constraints marked c p.kept v x.1 s.0 k none has))

    -- where it is one, the count is one more
    pub counting_goes_on : Contains (constraints c.undirected) (x.1 / 2)
        → Counting left (count + 1)
    counting_goes_on mark = going_on (count + 1) (omega arith) (λ k has.
        subst (λ (n : ℕ). Ending n) (omega arith)
        (total_now (suc k) (with_mark place marks constraints marked c p.kept v x.1 s.0 k within_now
        starts_now once_now mark has)))

  -- when none is left to give, so many constraints end at v
  pub counting_ends : given ≡ [] → Ending count
  counting_ends e =
      subst (λ (n : ℕ). Ending n) (omega arith) (p.total 0 (no_pairs (λ a b x. Contains-none x.0
      (subst (λ (xs : List ℕ). Contains xs x.0) (none_is_left c v given p.rest p.are_left e) x.1))))
