-- A new vertex outside the hull: with a face on each outer edge that sees it, the mesh stays local.
-- Notions: run_up_to, last_step (along a run); AreOpen (no run comes back), AreSeen (what sees n is
-- on the path); fan_total, fan_turns (of the new faces); `extended`.
use Rattle.std.proofs.Common.{◌≡◌, ◌<◌, [], ◌∷◌, ◌++◌, ℕ, suc, List, refl, sym, ap, subst}
use Rattle.std.proofs.Common.{arith}
use mathlib.Core.Logic.{inl, inr, ◌≢◌}
use Rattle.std.specs.Prelude.{ℤ, pos, ◌+ℤ◌, ◌≤ℤ◌, ◌<ℤ◌, Contains}
use Rattle.std.proofs.lemmas.Int.{ints}
use Rattle.plane.specs.{Face, face, Point, whole, WithinSegment}
use Rattle.plane.proofs.{at_most_if_not_less, bracket, bracket-swap, bracket-turn, IsFresh}
use Rattle.plane.proofs.{left_not_below, negated_below}
use Rattle.plane_theorems.specs.{along, around, FacesChange, fan, IsAntisymmetric, last_of}
use Rattle.plane_theorems.specs.{OuterChange, steps, total}
use Rattle.plane_theorems.proofs.Edits.LocalMesh.Additions.{added, IsWithinNone, LivesUpTo}
use Rattle.plane_theorems.proofs.Edits.LocalMesh.Additions.{new_edges, new_edges_owe, within_outer}
use Rattle.plane_theorems.proofs.Edits.LocalMesh.Changes.{AreAmong, Each, IsOnce, once_cons}
use Rattle.plane_theorems.proofs.Edits.LocalMesh.Changes.{once_none, to_each, to_once}
use Rattle.plane_theorems.proofs.Edits.LocalMesh.Exchange.{AreTurning}
use Rattle.plane_theorems.proofs.Tiling.Counting.{at, SignMesh, within_turned}
use Rattle.plane_theorems.proofs.Tiling.Totals.{Contains-cases, Contains-later, Contains-none}
use Rattle.plane_theorems.proofs.Tiling.Edges as E
use Rattle.plane_theorems.proofs.Tiling.Places as P
use Rattle.plane_theorems.proofs.Edits.Insertion.Hull as H
pub use Rattle.plane_theorems.proofs.Edits.Insertion.Hull.{IsRun}

-- around a fan: its path, to q and back
pub fan_total : (flow : ℕ → ℕ → ℤ) → IsAntisymmetric flow → (q u : ℕ) (vs : List ℕ)
    → total (around flow) (fan q u vs)
    ≡ total (along flow) (steps u vs) +ℤ flow (last_of u vs) q +ℤ flow q u
fan_total flow anti q u [] = omega (arith, ints, anti q u)
fan_total flow anti q u (v ∷ vs) = omega (arith, ints, fan_total flow anti q v vs, anti q v)

-- ---- paths
-- a path with one more vertex has one more step, from its last vertex
pub steps_snoc : (u : ℕ) (vs : List ℕ) (w : ℕ)
    → steps u (vs ++ w ∷ []) ≡ steps u vs ++ (last_of u vs, w) ∷ []
steps_snoc u [] w = refl
steps_snoc u (v ∷ vs) w = ap (λ l. (u, v) ∷ l) (steps_snoc v vs w)

-- a path with one more vertex has one more face at the end of its fan
pub fan_snoc : (q u : ℕ) (vs : List ℕ) (w : ℕ)
    → fan q u (vs ++ w ∷ []) ≡ fan q u vs ++ face (last_of u vs) w q ∷ []
fan_snoc q u [] w = refl
fan_snoc q u (v ∷ vs) w = ap (λ l. face u v q ∷ l) (fan_snoc q v vs w)

-- the end of a path with one more vertex is this vertex
pub last_of_snoc : (u : ℕ) (vs : List ℕ) (w : ℕ) → last_of u (vs ++ w ∷ []) ≡ w
last_of_snoc u [] w = refl
last_of_snoc u (v ∷ vs) w = last_of_snoc v vs w

-- up to the start of one of its steps, and with that step
pub run_up_to : (n : ℕ) (p : ℕ → Point) (outer : List (ℕ × ℕ)) (u : ℕ) (vs : List ℕ) → IsRun n p
    outer u vs → (s r : ℕ) → Contains (steps u vs) (s, r) → (ws : List ℕ) × IsRun n p outer u ws ×
    (last_of u ws ≡ s) × Contains outer (s, r) × (pos 0 <ℤ bracket (at p s) (at p r) (at p n))
run_up_to n p outer u [] run s r h = absurd (Contains-none (s, r) h)
run_up_to n p outer u (v ∷ vs) run s r h =
    elim (Contains-cases (u, v) (steps v vs) (s, r) h) [
      | inl e ↦ (
        [],
        tt,
        ap (λ (x : ℕ × ℕ). x.0) e,
        subst (Contains outer) e run.0,
        subst (λ (x : ℕ × ℕ). pos 0 <ℤ bracket (at p x.0) (at p x.1) (at p n)) e run.1,
      )
      | inr k ↦ (let t = run_up_to n p outer v vs run.2 s r k in
          (v ∷ t.0, (run.0, run.1, t.1), t.2, t.3, t.4))
    ]

-- each face of the fan is on a step of the run
pub fan_from : (n : ℕ) (p : ℕ → Point) (outer : List (ℕ × ℕ)) (u : ℕ) (vs : List ℕ)
    → IsRun n p outer u vs → (g : Face) → Contains (fan n u vs) g → (a b : ℕ)
    × Contains outer (a, b) × (pos 0 <ℤ bracket (at p a) (at p b) (at p n)) × (g ≡ face a b n)
fan_from n p outer u [] r g h = absurd (Contains-none g h)
fan_from n p outer u (v ∷ vs) r g h =
    elim (Contains-cases (face u v n) (fan n v vs) g h)
    [ inl e ↦ (u, v, r.0, r.1, sym e) | inr k ↦ fan_from n p outer v vs r.2 g k ]

-- so its corners are those of outer edges, and n, and turn left
pub fan_turns : (live : ℕ → Type 0) (n : ℕ) (p : ℕ → Point) (outer : List (ℕ × ℕ)) → live n
    → ((e : ℕ × ℕ) → Contains outer e → live e.0 × live e.1) → (u : ℕ) (vs : List ℕ)
    → IsRun n p outer u vs → Each (λ f. AreTurning live p f.a f.b f.c) (fan n u vs)
fan_turns live n p outer last ends u [] r = tt
fan_turns live n p outer last ends u (v ∷ vs) r = let c = ends (u, v) r.0 in
    ((c.0, c.1, last, r.1), fan_turns live n p _ last ends v vs r.2)

-- the last step of a run, an outer edge that has the point n on its left
pub last_step : (n : ℕ) (p : ℕ → Point) (outer : List (ℕ × ℕ)) (u v : ℕ) (vs : List ℕ)
    → IsRun n p outer u (v ∷ vs) → (a : ℕ) × Contains outer (a, last_of v vs)
    × (pos 0 <ℤ bracket (at p a) (at p (last_of v vs)) (at p n))
    × Contains (steps u (v ∷ vs)) (a, last_of v vs)
last_step n p outer u v [] r = (u, r.0, r.1, (0, omega arith, refl))
last_step n p outer u v (w ∷ vs) r = let t = last_step n p _ v w vs r.2 in
    (t.0, t.1, t.2, Contains-later (u, v) (steps v (w ∷ vs)) (t.0, last_of w vs) t.3)

-- no run comes back to its start
abbrev pub AreOpen : ℕ → (ℕ → Point) → List (ℕ × ℕ) → Type 0
AreOpen n p outer = (u v : ℕ) (vs : List ℕ) → IsRun n p outer u (v ∷ vs) → ¬ (last_of v vs ≡ u)

-- then none has a step twice
pub steps_once : (n : ℕ) (p : ℕ → Point) (outer : List (ℕ × ℕ)) → AreOpen n p outer
    → (u : ℕ) (vs : List ℕ) → IsRun n p outer u vs → IsOnce (steps u vs)
steps_once n p outer open' u [] run = once_none
steps_once n p outer open' u (v ∷ vs) run = once_cons (u, v) _
    (λ h. let t = run_up_to n p _ v vs run.2 u v h in open' u v t.0 (run.0, run.1, t.1) t.2)
    (steps_once n p _ open' v vs run.2)

-- what sees the point of index n is on the path
abbrev pub AreSeen : ℕ → (ℕ → Point) → (outer path : List (ℕ × ℕ)) → Type 0
AreSeen n p outer path = (e : ℕ × ℕ) → Contains outer e → pos 0 <ℤ bracket (at p e.0) (at p e.1)
    (at p n) → Contains path e

-- then the rest does not see it
pub unseen : (n : ℕ) (p : ℕ → Point) (outer path : List (ℕ × ℕ)) → AreSeen n p outer path
    → (e : ℕ × ℕ) → Contains outer e → ¬ Contains path e
    → bracket (at p e.0) (at p e.1) (at p n) ≤ℤ pos 0
unseen n p outer path seen e h away = at_most_if_not_less _ _ (λ s. away (seen e h s))

module _ (n : ℕ) (p : ℕ → Point) (faces : List Face) (outer : List (ℕ × ℕ))
    (m : SignMesh n p faces outer) where
  -- the way from u to v has the point of index n on its left
  abbrev Sees : ℕ → ℕ → Type 0
  Sees u v = pos 0 <ℤ bracket (at p u) (at p v) (at p n)

  -- no vertex is on the way from a to n, where an outer edge a b or b a sees n
  start_bare : (a b : ℕ) → Contains outer (a, b) → Sees a b → (k : ℕ) → k < n
      → ¬ WithinSegment (whole (p a)) (whole (p n)) (whole (p k))
  start_bare a b h sees k l w = left_not_below (E.within_second _ _ _ _ (within_turned _ _ _ w)
      (rw (bracket-turn _ _ _) sees)) (m.supporting (a, b) h k l)

  end_bare : (a b : ℕ) → Contains outer (a, b) → Sees a b → (k : ℕ) → k < n
      → ¬ WithinSegment (whole (p n)) (whole (p b)) (whole (p k))
  end_bare a b h sees k l w = left_not_below (E.within_third _ _ _ _
      (within_turned _ _ _ w) (rw bracket-turn at sees)) (m.supporting (a, b) h k l)

  steps_there : (u : ℕ) (vs : List ℕ) → IsRun n p outer u vs → AreAmong (steps u vs) outer
  steps_there u vs run e h = (run_up_to n p _ u vs run e.0 e.1 h).3

  module _ (t u v : ℕ) (vs : List ℕ) (w : ℕ) (before : Contains outer (t, u))
      (run : IsRun n p outer u (v ∷ vs)) (after : Contains outer (last_of v vs, w))
      (blind_before : bracket (at p t) (at p u) (at p n) ≤ℤ pos 0)
      (blind_after : bracket (at p (last_of v vs)) (at p w) (at p n) ≤ℤ pos 0) where
    abbrev last : ℕ
    last = last_of v vs

    first : (u < n) × (v < n) × (u ≢ v)
    first = m.ends (u, v) run.0

    final : (a : ℕ) × Contains outer (a, last_of v vs) × Sees a (last_of v vs)
    final = let t = last_step n p _ u v vs run in (t.0, t.1, t.2)

    final_index : last_of v vs < n
    final_index = (m.ends (final.0, last_of v vs) final.1).1

    starts : (z : ℕ) → z < n → bracket (at p u) (at p n) (at p z) ≤ℤ pos 0
    starts = H.start_supports n p _ _ m (p n) t u v before run.0 blind_before run.1

    finish : (z : ℕ) → z < n → bracket (at p n) (at p (last_of v vs)) (at p z) ≤ℤ pos 0
    finish = H.end_supports n p _ _ m (p n) final.0 _ w final.1 after final.2 blind_after

    seen_is_step : AreSeen n p outer (steps u (v ∷ vs))
    seen_is_step e h sees = H.seen_in_run n p _ _ m e.0 e.1 h sees u v vs run
        (negated_below (bracket-swap _ _ _) (starts e.0 (m.ends e h).0)) finish

    fresh : IsFresh n p
    fresh k h e = left_not_below (rw e run.1) (m.supporting (u, v) run.0 k h)

    -- n is strictly within no old segment: it would be left of none that sees it
    n_outside : IsWithinNone n p outer
    n_outside e h w = P.side_not_outside n p faces outer m (whole (p n))
        (within_outer n p faces outer m e h w) (record { e = (u, v); here = run.0; left = run.1 })

    -- the extended mesh is local
    pub extended : (new : List Face) → FacesChange faces new [] (fan n u (v ∷ vs)) →
        (outer' : List (ℕ × ℕ)) → OuterChange outer outer' (steps u (v ∷ vs))
        (new_edges n u (last_of v vs)) → SignMesh (suc n) p new outer'
    extended new faces_change outer' outer_change = added n p faces new [] (fan n u (v ∷ vs))
        outer outer' (steps u (v ∷ vs)) (new_edges n u last) m (record {
          faces_change = faces_change;
          outer_change = outer_change;
          fresh = fresh;
          some = (u, v, inr (inl (0, omega arith, refl)));
          turning = fan_turns (LivesUpTo n) n p outer (inr refl) (λ e h. let c = m.ends e h in
              (inl c.0, inl c.1)) u (v ∷ vs) run;
          kept = tt;
          right = λ e h away. (
            unseen n p outer (steps u (v ∷ vs)) seen_is_step e h away,
            n_outside e h,
          );
          edges = new_edges_owe n p outer (steps u (v ∷ vs)) u last v final.0 first.0 final_index
              run.1 final.2 (λ e h. let c = m.ends e h in (c.0, c.1))
              (to_each (Contains outer) (steps u (v ∷ vs)) (steps_there u (v ∷ vs) run))
              (to_once (steps u (v ∷ vs)) (steps_once n p outer
              (H.run_is_open n p faces outer m) u (v ∷ vs) run)) starts
              (start_bare u v run.0 run.1) finish (end_bare final.0 last final.1 final.2);
          same = λ flow anti. let t = fan_total flow anti n u (v ∷ vs) in
              omega (arith, ints, anti last n, anti n u);
        })
