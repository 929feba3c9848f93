-- The search for an edge round a vertex.
-- Lemmas: turned_spoke, turned_end, spoke-within, spoke-starts, missed_more, missed_all,
-- none_joined.
use Rattle.std.proofs.Common.{◌≡◌, ◌≢◌, ◌+◌, ◌-◌, ◌<◌, ◌≤◌, ◌∙◌}
use Rattle.std.proofs.Common.{ℕ, zero, suc, length, Some, sym, ap, inl, inr, arith}
use Rattle.std.proofs.lemmas.Bool.{cases_lt}
use Rattle.half_edge_links.specs.{Mesh, origin, out_edge, prev, rev, spoke, turn}
use Rattle.half_edge_links.proofs.{Lists.OneOrbit.edges_go_round, rev-rev, spoke_at, step_add}
use Rattle.half_edge_dcel.specs.{Contents, IsMeshWithData}
use Rattle.half_edge_dcel.proofs.Loops.{round_fits}

-- one turn further round the vertex
pub turned_spoke : (m : Mesh) (first edge k r p : ℕ) → r ≡ rev p → p ≡ prev m edge
    → edge ≡ spoke m first k → r ≡ spoke m first (k + 1)
turned_spoke m first edge k r p is read reached =
    let more : suc k ≡ k + 1 = omega arith in
    is ∙ ap rev read ∙ ap (turn m) reached ∙ ap (spoke m first) more

-- the edge one turn further ends where the edge before this one starts
pub turned_end : (m : Mesh) (edge r p o : ℕ) → r ≡ rev p → p ≡ prev m edge
    → o ≡ origin m (prev m edge) → o ≡ origin m (rev r)
turned_end m edge r p o is read at =
    at ∙ ap (origin m) (sym read ∙ sym (rev-rev p) ∙ ap rev (sym is))

-- each edge on the walk round a vertex is one of the mesh
pub spoke-within : {V D U F : Type 0} (c : Contents V D U F) (first k : ℕ) → IsMeshWithData c
    → first < length c.directed → spoke c.mesh first k < length c.directed
spoke-within c first k w first_in = rw w.fits.directed_fit
    (spoke_at c.mesh first w.valid.sound (rw w.fits.directed_fit at first_in) k).0

-- each edge on the walk round a vertex starts where the first one does
pub spoke-starts : {V D U F : Type 0} (c : Contents V D U F) (first k : ℕ) → IsMeshWithData c
    → first < length c.directed → origin c.mesh (spoke c.mesh first k) ≡ origin c.mesh first
spoke-starts c first k w first_in =
    (spoke_at c.mesh first w.valid.sound (rw w.fits.directed_fit at first_in) k).1

-- one more edge does not end at the vertex
pub missed_more : (m : Mesh) (first edge end to k : ℕ) → end ≡ origin m (rev edge)
    → edge ≡ spoke m first k → end ≢ to → ((j : ℕ) → j < k → origin m (rev (spoke m first j)) ≢ to)
    → (j : ℕ) → j < k + 1 → origin m (rev (spoke m first j)) ≢ to
missed_more m first edge end to k is reached here before j less =
    elim (cases_lt j k) [
      | inl old ↦ before j old
      | inr more ↦
          let last : j ≡ k = omega (arith, less, more) in
          λ q. here (is ∙ ap (λ h. origin m (rev h)) (reached ∙ ap (spoke m first) (sym last)) ∙ q)
    ]

-- the walk round a vertex goes on as before once it is back
spoke_again : (m : Mesh) (first k j : ℕ) → spoke m first k ≡ first
    → spoke m first (j + k) ≡ spoke m first j
spoke_again m first k j back = step_add (turn m) first j k ∙ ap (λ o. spoke m o j) back

missed_up_to : (m : Mesh) (first to k fuel : ℕ) → 0 < k → spoke m first k ≡ first
    → ((j : ℕ) → j < k → origin m (rev (spoke m first j)) ≢ to) → (j : ℕ) → j ≤ fuel
    → origin m (rev (spoke m first j)) ≢ to
missed_up_to m first to k zero some back before j few = before j (omega (arith, some, few))
missed_up_to m first to k (suc fuel) some back before j few =
    elim (cases_lt j k) [
      | inl less ↦ before j less
      | inr more ↦
          let split : (j - k) + k ≡ j = omega (arith, more) in
          let again : spoke m first j ≡ spoke m first (j - k) =
          ap (spoke m first) (sym split) ∙ spoke_again m first k (j - k) back in
          let rest = missed_up_to m first to k fuel some back before (j - k)
          (omega (arith, few, some, more)) in
          λ q. rest (ap (λ h. origin m (rev h)) (sym again) ∙ q)
    ]

-- where the walk round a vertex is back and no edge on it ends at `to`, none does later
pub missed_all : (m : Mesh) (first to k : ℕ) → 0 < k → spoke m first k ≡ first
    → ((j : ℕ) → j < k → origin m (rev (spoke m first j)) ≢ to) → (j : ℕ)
    → origin m (rev (spoke m first j)) ≢ to
missed_all m first to k some back before j =
    missed_up_to m first to k j some back before j (omega arith)

-- no edge of the vertex was missed
pub none_joined : {V D U F : Type 0} (c : Contents V D U F) (v first to : ℕ) → IsMeshWithData c
    → out_edge c.mesh v ≡ Some first
    → ((j : ℕ) → j < length c.directed → origin c.mesh (rev (spoke c.mesh first j)) ≢ to) → (h : ℕ)
    → h < length c.directed → origin c.mesh h ≡ v → origin c.mesh (rev h) ≢ to
none_joined c v first to w named missed h within starts ends =
    let r = edges_go_round c.mesh w.valid v first named in
    let few = round_fits c.mesh v first r.0 w.valid r.1 in
    let at = r.1.all h (rw (← w.fits.directed_fit) within) starts in
    missed at.0 (omega (arith, at.1, few, w.fits.directed_fit))
    (ap (λ q. origin c.mesh (rev q)) (sym at.2) ∙ ends)
