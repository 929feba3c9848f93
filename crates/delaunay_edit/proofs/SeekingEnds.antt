-- The far end of a constraint at a vertex is sought, one edge after another.
-- Notions: IsSeekingEnd; seeking_begins, sought_within, seeking_goes_on, seeking_finds,
-- seeking_ends, not_two, more_than_two.
use Rattle.std.proofs.Common.{◌≡◌, ◌≢◌, ◌⊎◌, ◌/◌, ◌<◌, [], ◌∷◌, ◌∙◌}
use Rattle.std.proofs.Common.{ℕ, List, length, Some, None, sym, ap, subst, inl, inr}
use Rattle.std.specs.Prelude.{Bool, Contains}
use Rattle.std.proofs.lemmas.Bool.{cases_eq}
use Rattle.std.specs.Borrow.{Bor}
use Rattle.half_edge_links.specs.{origin, rev}
use Rattle.plane_theorems.proofs.{Contains-cases, Contains-none}
use Rattle.half_edge_dcel.specs.{Contents, GivesRound}
use Rattle.delaunay_legalization.specs.{constraints_by, IsTriangulated, marked_edges, state_of}
use Rattle.delaunay_legalization.proofs.{constraints_are_edges, joins_edge}
use Rattle.delaunay_legalization.proofs.Rounds.{IsLeftOfRound, IsWholeRound, next_left}
use Rattle.delaunay_legalization.proofs.Rounds.{none_is_left, one_less_left, whole_round}
use Rattle.delaunay_edit.specs.Halves.{AreTwoEnds, IsEndBeside, LeadsBeside}
use Rattle.{delaunay_edit.proofs.JoinedPairs.edge_joins, plane.specs.Joins, plane.specs.Point}

module _ {V D U F : Type 0} (constraints : List U → List ℕ) (c : Contents V D U F) where
  abbrev pairs_of : List (ℕ × ℕ)
  pairs_of = constraints_by constraints (state_of c)

  -- k is the far end of a constraint among these directed edges
  abbrev IsEndAmong : List ℕ → ℕ → Type 0
  IsEndAmong hs k = (h : ℕ) × Contains hs h × Contains (constraints c.undirected) (h / 2)
      × (origin c.mesh (rev h) ≡ k)

module _ {V D U F : Type 0} (place : V → Point) (marks : U → Bool) (constraints : List U → List ℕ)
    (marked : (ds : List U) → constraints ds ≡ marked_edges marks ds) (c : Contents V D U F)
    (v one other : ℕ) where
  -- what is left of the edges of vertex v: a far end that is not among them is one of the two
  pub record IsSeekingEnd (given : List (Bor (Contents V D U F) × ℕ)) : Type 0 where
    pub kept : IsTriangulated place (state_of c)
    pub rest : List ℕ
    pub are_left : IsLeftOfRound c v given rest
    pub past : (k : ℕ) → Joins (pairs_of constraints c) v k
        → ((k ≡ one) ⊎ (k ≡ other)) ⊎ IsEndAmong constraints c rest k

  -- before the first edge all are left
  pub seeking_begins : IsTriangulated place (state_of c) → (d : Bor (Contents V D U F))
      (given : List (Bor (Contents V D U F) × ℕ)) → d.now ≡ c → GivesRound d v given
      → IsSeekingEnd given
  seeking_begins kept d given same gives = record {
    kept = kept;
    rest = w.rest;
    are_left = w.are_left;
    past = λ k j. inr (found k j);
  }
    where
      w : IsWholeRound c v given
      w = whole_round c v d given same kept.valid gives

      found : (k : ℕ) → Joins (pairs_of constraints c) v k → IsEndAmong constraints c w.rest k
      found k j =
          let g = joins_edge c.mesh kept.valid.sound v k
          (constraints_are_edges marks constraints marked c.mesh c.undirected
          kept.fits.undirected_fit kept.valid v k j) in (
            g.0,
            w.all g.0 g.1 g.2,
            (edge_joins place marks constraints marked c kept v k g.0 g.1 g.2 g.3).1 j,
            g.3,
          )

module _ {V D U F : Type 0} {place : V → Point} {marks : U → Bool} {constraints : List U → List ℕ}
    {marked : (ds : List U) → constraints ds ≡ marked_edges marks ds} {c : Contents V D U F}
    {v one other : ℕ} {given : List (Bor (Contents V D U F) × ℕ)}
    (p : IsSeekingEnd place marks constraints marked c v one other given) where
  abbrev pairs : List (ℕ × ℕ)
  pairs = pairs_of constraints c

  module _ {x : Bor (Contents V D U F) × ℕ} {left : List (Bor (Contents V D U F) × ℕ)}
      (e : given ≡ x ∷ left) where
    -- the next edge that is given is one of the mesh, and starts at the vertex
    sought_at : (x.1 < length c.mesh.half_edges) × (origin c.mesh x.1 ≡ v)
    sought_at = let n = next_left c v given p.rest p.are_left x left e in
        (p.are_left.within x.1 n, p.are_left.starts x.1 n)

    -- so a handle of it is one of the directed edges
    pub sought_within : {f : ℕ} → f ≡ x.1 → f < length c.directed
    sought_within is = rw (is, p.kept.fits.directed_fit) sought_at.0

    -- the edge that is given next is the first of those left, and the others are left after it
    s : (others : List ℕ) × (p.rest ≡ x.1 ∷ others) × IsLeftOfRound c v left others
    s = one_less_left c v given p.rest p.are_left x left e

    -- where it does not lead beside the two, the search goes on
    pub seeking_goes_on : ¬ LeadsBeside constraints c one other x.1
        → IsSeekingEnd place marks constraints marked c v one other left
    seeking_goes_on none =
        record { kept = p.kept; rest = s.0; are_left = s.2; past = past_now }
      where
        own : (k h : ℕ) → h ≡ x.1 → Contains (constraints c.undirected) (h / 2)
            → origin c.mesh (rev h) ≡ k → (k ≡ one) ⊎ (k ≡ other)
        own k h same mark is = elim (cases_eq k one) [
          | inl e ↦ inl e
          | inr n ↦ elim (cases_eq k other) [
            | inl e ↦ inr e
            | inr m ↦ absurd (none (
              subst (λ (y : ℕ). Contains (constraints c.undirected) (y / 2)) same mark,
              (λ e. n (sym is ∙ ap (λ (y : ℕ). origin c.mesh (rev y)) same ∙ e)),
              (λ e. m (sym is ∙ ap (λ (y : ℕ). origin c.mesh (rev y)) same ∙ e)),
            ))
          ]
        ]

        past_now : (k : ℕ) → Joins pairs v k
            → ((k ≡ one) ⊎ (k ≡ other)) ⊎ IsEndAmong constraints c s.0 k
        past_now k j = elim (p.past k j) [
          | inl o ↦ inl o
          | inr y ↦ elim (Contains-cases x.1 s.0 y.0
              (subst (λ (hs : List ℕ). Contains hs y.0) s.1 y.1)) [
                | inl same ↦ inl (own k y.0 (sym same) y.2 y.3)
                | inr later ↦ inr (y.0, later, y.2, y.3)
              ]
        ]

    -- where it does, its end is found
    pub seeking_finds : {k : ℕ} → k ≡ origin c.mesh (rev x.1)
        → LeadsBeside constraints c one other x.1 → IsEndBeside pairs v one other (Some k)
    seeking_finds {k = k} is leads = (
      (edge_joins place marks constraints marked c p.kept v k x.1 sought_at.0 sought_at.1
          (sym is)).0 leads.0,
      (λ e. leads.1 (sym is ∙ e)),
      (λ e. leads.2 (sym is ∙ e)),
    )

  -- when none is left to give, there is no other
  pub seeking_ends : given ≡ [] → IsEndBeside pairs v one other None
  seeking_ends e k j = elim (p.past k j) [
    | inl o ↦ o
    | inr y ↦ absurd (Contains-none y.0 (subst (λ (hs : List ℕ). Contains hs y.0)
        (none_is_left c v given p.rest p.are_left e) y.1))
  ]

-- ---- two ends, after three searches
module _ (pairs : List (ℕ × ℕ)) (v : ℕ) where
  -- two of three different ends are not all
  three_ends : (a b x y z : ℕ) → (x ≡ a) ⊎ (x ≡ b) → (y ≡ a) ⊎ (y ≡ b) → (z ≡ a) ⊎ (z ≡ b)
      → y ≢ x → z ≢ x → z ≢ y → ⊥
  three_ends a b x y z (inl p) (inl q) r m n o = m (q ∙ sym p)
  three_ends a b x y z (inr p) (inr q) r m n o = m (q ∙ sym p)
  three_ends a b x y z (inl p) (inr q) (inl r) m n o = n (r ∙ sym p)
  three_ends a b x y z (inl p) (inr q) (inr r) m n o = o (r ∙ sym q)
  three_ends a b x y z (inr p) (inl q) (inl r) m n o = o (r ∙ sym q)
  three_ends a b x y z (inr p) (inl q) (inr r) m n o = n (r ∙ sym p)

  -- where each end is one, there are not two
  pub not_two : (x : ℕ) → ((k : ℕ) → Joins pairs v k → (k ≡ x) ⊎ (k ≡ x))
      → AreTwoEnds pairs v None
  not_two x all a b ends =
      ends.apart (one (all a ends.first) ∙ sym (one (all b ends.second)))
    where
      one : {k : ℕ} → (k ≡ x) ⊎ (k ≡ x) → k ≡ x
      one (inl e) = e
      one (inr e) = e

  module _ (x y : ℕ) (first : IsEndBeside pairs v v v (Some x))
      (second : IsEndBeside pairs v x x (Some y)) where
    -- a third end is one too many
    pub more_than_two : (z : ℕ) → IsEndBeside pairs v x y (Some z) → AreTwoEnds pairs v None
    more_than_two z third a b ends =
        three_ends a b x y z (ends.only x first.0) (ends.only y second.0) (ends.only z third.0)
        second.1 third.1 third.2
