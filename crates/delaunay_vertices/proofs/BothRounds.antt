-- The look for an edge between two vertices, round both of them at once.
-- Notions: EndsThere, IsLooking, AreLooking; none_back, looking_begins, starts_there, none_of_all,
-- none_when_back, looking_goes_on.
use Rattle.std.proofs.Common.{◌≡◌, ◌+◌, ◌<◌, ◌≤◌, ◌∙◌}
use Rattle.std.proofs.Common.{ℕ, length, refl, sym, ap, arith, inl, inr}
use Rattle.std.proofs.lemmas.Bool.{cases_lt}
use Rattle.half_edge_links.specs.{IsRound, IsValidMesh, Mesh, origin, rev, turn}
use Rattle.half_edge_links.proofs.{rev-rev, rev_within}
use Rattle.half_edge_dcel.specs.{Contents, IsMeshWithData}
use Rattle.delaunay_legalization.proofs.{round_at}
use Rattle.{delaunay_vertices.specs.Pairs.HasNoEdgeBetween, half_edge_dcel.proofs.Loops.round_fits}
use Rattle.delaunay_vertices.proofs.Searching.{IsSearching, search_goes_on}

-- edge e ends at vertex u
abbrev pub EndsThere : Mesh → ℕ → ℕ → Type 0
EndsThere m u e = origin m (rev e) ≡ u

-- after so many steps from edge first of vertex i on the walk is at an edge, and none before it
-- ends at vertex j
pub record IsLooking (m : Mesh) (bound i first j count edge : ℕ) : Type 0 where
  pub valid : IsValidMesh m
  pub fit : bound ≡ length m.half_edges
  pub first_in : first < bound
  pub starts : origin m first ≡ i
  pub walk : IsSearching (EndsThere m j) bound m first count edge

-- so it is round i and round j
pub record AreLooking (m : Mesh) (bound i first j second count there back : ℕ) : Type 0 where
  pub outward : IsLooking m bound i first j count there
  pub inward : IsLooking m bound j second i count back

-- an edge goes neither way
pub none_back : {m : Mesh} {i j : ℕ} → IsValidMesh m → HasNoEdgeBetween m j i
    → HasNoEdgeBetween m i j
none_back {m} valid none h within starts ends =
    none (rev h) (rev_within h (length m.half_edges) valid.sound.even within) ends
    (ap (origin m) (rev-rev h) ∙ starts)

-- at its first edge it has passed none
pub looking_begins : {V D U F : Type 0} {c : Contents V D U F} {i first j : ℕ}
    → IsMeshWithData c → first < length c.directed → origin c.mesh first ≡ i
    → IsLooking c.mesh (length c.directed) i first j 0 first
looking_begins whole first_in starts = record {
  valid = whole.valid;
  fit = whole.fits.directed_fit;
  first_in = first_in;
  starts = starts;
  walk = record { within = first_in; here = refl; none = λ k less. absurd (omega (arith, less)) };
}

module _ {m : Mesh} {bound i first j count edge : ℕ}
    (look : IsLooking m bound i first j count edge) where
  round : (n : ℕ) × IsRound m i first n
  round = round_at m look.valid i first (rw look.fit at look.first_in) look.starts

  -- each edge on it starts there
  pub starts_there : origin m edge ≡ i
  starts_there = ap (origin m) look.walk.here ∙ round.1.starts count

  missed : round.0 ≤ count → HasNoEdgeBetween m i j
  missed all h within at ends =
      let k = round.1.all h within at in
      let less = k.1 in
      look.walk.none k.0 (omega (arith, all, less)) (ap (λ e. origin m (rev e)) (sym k.2) ∙ ends)

  -- after as many steps as there are edges, none was missed
  pub none_of_all : bound ≤ count → HasNoEdgeBetween m i j
  none_of_all many =
      let fits = round_fits m i first round.0 look.valid round.1 in
      let fit = look.fit in
      missed (omega (arith, many, fits, fit))

  -- nor where it is back at its first edge
  pub none_when_back : 0 < count → edge ≡ first → HasNoEdgeBetween m i j
  none_when_back some back = elim (cases_lt count round.0) [
    | inl less ↦ absurd (round.1.apart 0 count some less (sym (sym look.walk.here ∙ back)))
    | inr more ↦ missed (omega (arith, more))
  ]

  -- it passes an edge that ends elsewhere
  pub looking_goes_on : {after : ℕ} → ¬ EndsThere m j edge → after < bound → after ≡ turn m edge
      → IsLooking m bound i first j (count + 1) after
  looking_goes_on elsewhere within is = record {
    valid = look.valid;
    fit = look.fit;
    first_in = look.first_in;
    starts = look.starts;
    walk = search_goes_on look.walk elsewhere within is;
  }
