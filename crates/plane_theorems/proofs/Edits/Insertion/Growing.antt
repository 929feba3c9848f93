-- A new vertex outside the hull, joined to one outer edge after another: each step, and the end.
-- Notions: one_less (two outer edges go, one comes), faces_gained; extension_begins,
-- extension_goes_on, extension_goes_back, extension_ends.
use Rattle.std.proofs.Common.{◌≡◌, ◌⊎◌, ◌<◌, [], ◌∷◌, ◌++◌, ◌∙◌, ℕ, List, length, refl, sym, ap}
use Rattle.std.proofs.Common.{subst, arith}
use mathlib.Core.Logic.{inl, inr, ◌≢◌}
use Rattle.std.specs.Prelude.{ℤ, pos, ◌+ℤ◌, ◌≤ℤ◌, ◌<ℤ◌, Contains}
use Rattle.std.proofs.lemmas.Int.{ints}
use Rattle.std.proofs.lemmas.List.Elements.{Contains-append_left, Contains-append_right}
use Rattle.std.proofs.lemmas.List.Elements.{Contains-append_cases}
use Rattle.plane.specs.{Face, face, place, Point, TurnsLeft}
use Rattle.plane.proofs.{bracket, bracket-last, bracket-outer, bracket-same, if_left, left_not_zero}
use Rattle.plane_theorems.specs.{FacesChange, fan, IsExtending, IsSeenRun, last_of, LocalMesh}
use Rattle.plane_theorems.specs.{Edits.Laws.ExtensionGoesOn, OuterChange, steps, total}
use Rattle.plane_theorems.specs.Edits.Laws.{ExtensionBegins, ExtensionEnds, ExtensionGoesBack}
use Rattle.plane_theorems.proofs.Edits.Insertion.Extension.{extended, fan_snoc, last_of_snoc}
use Rattle.plane_theorems.proofs.Edits.Insertion.Extension.{steps_snoc}
use Rattle.plane_theorems.proofs.Edits.Insertion.Hull.{IsRun, run_is_open}
use Rattle.plane_theorems.proofs.Edits.LocalMesh.Additions.{new_edges}
use Rattle.plane_theorems.proofs.Edits.LocalMesh.Changes.{change_after, face_kept, IsOnce, of_each}
use Rattle.plane_theorems.proofs.Edits.LocalMesh.Changes.{total_append}
use Rattle.plane_theorems.proofs.{Edits.LocalMesh.Exchange.outer_totals, Tiling.Rising.total_ones}
use Rattle.plane_theorems.proofs.Edits.LocalMesh.Kept.{from_last, with_last}
use Rattle.plane_theorems.proofs.Tiling.Counting.{at, SignMesh}
use Rattle.plane_theorems.proofs.Tiling.Flows.{IsTurnOf, no_turn}
use Rattle.plane_theorems.proofs.Tiling.Tiles.{bracket_not_left, point_at}
use Rattle.plane_theorems.proofs.Tiling.Totals.{Contains-cases, Contains-later, Contains-none}

-- two outer edges go and one comes
pub one_less : (old new : List (ℕ × ℕ)) (d e f : ℕ × ℕ) → OuterChange old new (d ∷ e ∷ []) (f ∷ [])
    → IsOnce old → Contains old d → Contains old e → d ≢ e → ¬ Contains old f
    → length new < length old
one_less old new d e f c o hd he ne nf = less _ _ (total (λ _. pos 1) new) (total (λ _. pos 1) old)
    (total_ones new) (total_ones old) (outer_totals old new _ _ c o
    (((λ s. ne (sym s)), tt), (tt, tt)) (tt, tt) (hd, (he, tt)) (nf, tt) (λ _. pos 1))
  where
    less : (k l : ℕ) (s t : ℤ) → s ≡ pos k → t ≡ pos l
        → s +ℤ (pos 1 +ℤ (pos 1 +ℤ pos 0)) ≡ t +ℤ (pos 1 +ℤ pos 0) → k < l
    less k l s t a b h = omega (arith, ints)

-- ---- pairs
pair_parts : (a b c d : ℕ) → ◌≡◌ {A = ℕ × ℕ} (a, b) (c, d) → (a ≡ c) × (b ≡ d)
pair_parts a b c d e = (ap (λ (x : ℕ × ℕ). x.0) e, ap (λ (x : ℕ × ℕ). x.1) e)

-- an entry of a list of two is one of the two
pub in_two : (d e : ℕ × ℕ) (x : ℕ × ℕ) → Contains (d ∷ e ∷ []) x → (d ≡ x) ⊎ (e ≡ x)
in_two d e x h = elim (Contains-cases d (e ∷ []) x h) [
  | inl s ↦ inl s
  | inr k ↦ elim (Contains-cases e [] x k) [ inl s ↦ inr s | inr z ↦ absurd (Contains-none x z) ]
]

in_one : (d : ℕ × ℕ) (x : ℕ × ℕ) → Contains (d ∷ []) x → d ≡ x
in_one d x h = elim (Contains-cases d [] x h) [ inl s ↦ s | inr z ↦ absurd (Contains-none x z) ]

-- ---- faces that are only added
module _ (old new more : List Face) (gained again : List Face) (c : FacesChange old new [] gained)
    (d : FacesChange new more [] again) (all : List Face)
    (same : (f : Face → ℤ) → total f all ≡ total f gained +ℤ total f again)
    (of : (i j k : ℕ) → IsTurnOf all i j k → IsTurnOf gained i j k ⊎ IsTurnOf again i j k) where
  still : (i j k : ℕ) → IsTurnOf new i j k → IsTurnOf more i j k
  still i j k h =
      elim (face_kept new _ [] again d i j k h) [ inl o ↦ o | inr o ↦ absurd (no_turn i j k o) ]

  -- the faces are the old ones and those gained
  pub faces_gained : FacesChange old more [] all
  faces_gained = record {
    totals = λ f t. omega (arith, ints, d.totals f t, c.totals f t, same f);
    come = λ i j k h. elim
        (of i j k h) [ inl o ↦ still i j k (c.come i j k o) | inr o ↦ d.come i j k o ];
  }

turn_of_append : (xs ys : List Face) (i j k : ℕ) → IsTurnOf (xs ++ ys) i j k
    → IsTurnOf xs i j k ⊎ IsTurnOf ys i j k
turn_of_append xs ys i j k (inl h) =
    elim (Contains-append_cases xs ys (face i j k) h) [ inl x ↦ inl (inl x) | inr x ↦ inr (inl x) ]
turn_of_append xs ys i j k (inr (inl h)) = elim (Contains-append_cases xs ys (face j k i) h)
    [ inl x ↦ inl (inr (inl x)) | inr x ↦ inr (inr (inl x)) ]
turn_of_append xs ys i j k (inr (inr h)) = elim (Contains-append_cases xs ys (face k i j) h)
    [ inl x ↦ inl (inr (inr x)) | inr x ↦ inr (inr (inr x)) ]

-- with a face on one outer edge that sees it, a new vertex outside the hull begins to be joined
pub extension_begins : ExtensionBegins
extension_begins points faces new outer now q u w ends h sees change edges = record {
  second = w;
  rest = [];
  last = refl;
  ends = ends;
  run = (h, sees, tt);
  faces_change = change;
  outer_change = edges;
}

-- ---- the steps
-- where a way has vertex n on its left, the bracket of the three is positive
abbrev SeenSigns : List Point → ℕ → Type 0
SeenSigns points n = (u v : ℕ) → TurnsLeft (place points u) (place points v) (place points n)
    → pos 0 <ℤ bracket (at (point_at points) u) (at (point_at points) v) (at (point_at points) n)

module _ (points : List Point) (q : Point) where
  abbrev n : ℕ
  n = length points

  -- the points, with the new one last
  abbrev p : ℕ → Point
  p = point_at (points ++ q ∷ [])

  -- the way from u to v has the new vertex on its left
  abbrev Sees : ℕ → ℕ → Type 0
  Sees u v = TurnsLeft (place (points ++ q ∷ []) u) (place (points ++ q ∷ []) v)
      (place (points ++ q ∷ []) (length points))

  -- by the sign of the bracket
  pub seen_signs : SeenSigns (points ++ q ∷ []) (length points)
  seen_signs u v h = if_left _ _ _ h

  -- an edge that sees the new vertex does not end or start there
  not_to_last : (u v : ℕ) → Sees u v → v ≢ n
  not_to_last u v h e = left_not_zero (rw e at (seen_signs u v h)) (bracket-last _ _)

  not_from_last : (u v : ℕ) → Sees u v → u ≢ n
  not_from_last u v h e = left_not_zero (rw e at (seen_signs u v h)) (bracket-outer _ _)

  not_same : (u v : ℕ) → Sees u v → u ≢ v
  not_same u v h e = left_not_zero (rw e at (seen_signs u v h)) (bracket-same _ _)

  run_snoc : (outer : List (ℕ × ℕ)) (u : ℕ) (vs : List ℕ) (x : ℕ)
      → IsSeenRun (points ++ q ∷ []) n outer u vs → Contains outer (last_of u vs, x)
      → Sees (last_of u vs) x → IsSeenRun (points ++ q ∷ []) n outer u (vs ++ x ∷ [])
  run_snoc outer u [] x r h s = (h, s, tt)
  run_snoc outer u (v ∷ vs) x r h s = (r.0, r.1, run_snoc _ v vs x r.2 h s)

  -- a run of seen outer edges is one by its signs
  pub run_signs : (outer : List (ℕ × ℕ)) (u : ℕ) (vs : List ℕ)
      → IsSeenRun (points ++ q ∷ []) n outer u vs → IsRun n p outer u vs
  run_signs outer u [] r = tt
  run_signs outer u (v ∷ vs) r = (r.0, seen_signs u v r.1, run_signs _ v vs r.2)

  module _ (faces new : List Face) (outer now : List (ℕ × ℕ)) (u w : ℕ)
      (g : IsExtending points q faces new outer now u w) where
    own_index : (u < n)
    own_index = (g.ends u g.second g.run.0).0

    last_index : w < n
    last_index = rw g.last at (go u (g.second) (g.rest) g.run)
      where
        go : (u v : ℕ) (vs : List ℕ) → IsSeenRun (points ++ q ∷ []) n outer u (v ∷ vs)
            → last_of v vs < n
        go u v [] r = (g.ends u v r.0).1
        go u v (x ∷ vs) r = go v x vs r.2

    -- an old vertex is not the new one
    not_n : (k : ℕ) → k < n → k ≢ n
    not_n k h e = omega arith

    -- an outer edge but the two new ones is an old one, and not of the path
    old_of_now : (e : ℕ × ℕ) → Contains now e → (u, n) ≢ e → (n, w) ≢ e
        → Contains outer e × ¬ Contains (steps u (g.second ∷ g.rest)) e
    old_of_now e h first last = elim (g.outer_change.only e.0 e.1 h) [
      | inl o ↦ o
      | inr o ↦ absurd (of_each (λ d. d ≢ e) (new_edges n u w) (first, (last, tt)) e o refl)
    ]

    start_now : Contains now (u, n)
    start_now = g.outer_change.come u n (0, omega arith, refl)

    end_now : Contains now (n, w)
    end_now = g.outer_change.come n w (1, omega arith, refl)

    -- ---- on to x
    module _ (more : List Face) (less : List (ℕ × ℕ)) (x : ℕ) (next : Contains now (w, x)) (sees :
        Sees w x) (change : FacesChange new more [] (face w x n ∷ [])) (edges :
        OuterChange now less ((n, w) ∷ (w, x) ∷ []) ((n, x) ∷ [])) where
      next_old : Contains outer (w, x) × ¬ Contains (steps u (g.second ∷ g.rest)) (w, x)
      next_old = old_of_now (w, x) next (λ s. not_to_last w x sees (sym (pair_parts u n w x s).1))
          (λ s. not_n w last_index (sym (pair_parts n w w x s).0))

      longer_steps : steps u (g.second ∷ (g.rest ++ x ∷ [])) ≡ steps u (g.second ∷ g.rest) ++
          (w, x) ∷ []
      longer_steps = steps_snoc u (g.second ∷ g.rest) x
          ∙ ap (λ i. steps u (g.second ∷ g.rest) ++ (i, x) ∷ []) g.last

      longer_fan : fan n u (g.second ∷ (g.rest ++ x ∷ []))
          ≡ fan n u (g.second ∷ g.rest) ++ face w x n ∷ []
      longer_fan = fan_snoc n u (g.second ∷ g.rest) x ∙ ap
          (λ i. fan n u (g.second ∷ g.rest) ++ face i x n ∷ []) g.last

      on_faces : FacesChange faces more [] (fan n u (g.second ∷ (g.rest ++ x ∷ [])))
      on_faces = faces_gained _ new _ _ _ g.faces_change change _
          (λ f. ap (total f) longer_fan ∙ total_append f (fan n u (g.second ∷ g.rest))
          (face w x n ∷ [])) (λ i j k h. turn_of_append (fan n u (g.second ∷ g.rest))
          (face w x n ∷ []) i j k (subst (λ l. IsTurnOf l i j k) longer_fan h))

      in_longer : (i j : ℕ) → Contains (steps u (g.second ∷ (g.rest ++ x ∷ []))) (i, j)
          → Contains (steps u (g.second ∷ g.rest)) (i, j) ⊎ ◌≡◌ {A = ℕ × ℕ} (w, x) (i, j)
      in_longer i j h = elim (Contains-append_cases (steps u (g.second ∷ g.rest)) ((w, x) ∷ [])
          (i, j) (subst (λ l. Contains l (i, j)) longer_steps h))
          [ inl k ↦ inl k | inr k ↦ inr (in_one (w, x) (i, j) k) ]

      of_shorter : (i j : ℕ) → Contains (steps u (g.second ∷ g.rest)) (i, j)
          → Contains (steps u (g.second ∷ (g.rest ++ x ∷ []))) (i, j)
      of_shorter i j h = subst (λ l. Contains l (i, j)) (sym longer_steps)
          (Contains-append_left (steps u (g.second ∷ g.rest)) ((w, x) ∷ []) (i, j) h)

      of_next : Contains (steps u (g.second ∷ (g.rest ++ x ∷ []))) (w, x)
      of_next = subst (λ l. Contains l (w, x)) (sym longer_steps) (Contains-append_right
          (steps u (g.second ∷ g.rest)) ((w, x) ∷ []) (w, x) (0, omega arith, refl))

      on_edges : OuterChange outer less (steps u (g.second ∷ (g.rest ++ x ∷ [])))
          ((u, n) ∷ (n, x) ∷ [])
      on_edges = change_after outer now less (steps u (g.second ∷ g.rest)) ((u, n) ∷ (n, w) ∷ [])
          ((n, w) ∷ (w, x) ∷ []) ((n, x) ∷ []) (steps u (g.second ∷ (g.rest ++ x ∷ [])))
          ((u, n) ∷ (n, x) ∷ []) g.outer_change edges (λ e h. of_shorter e.0 e.1 h) (
            (λ h. absurd (not_n n (g.ends n w h).0 refl)),
            ((λ _. of_next), tt),
          )
          (λ e h. elim (in_longer e.0 e.1 h)
          [ inl k ↦ inl k | inr k ↦ inr (1, omega arith, k) ])
          (inl ((0, omega arith, refl), avoids), (inr (0, omega arith, refl), tt))
          ((λ _. (0, omega arith, refl)), ((λ a. absurd (a (0, omega arith, refl))), tt))
          ((1, omega arith, refl), tt)
        where
          avoids : ¬ Contains {X = ℕ × ℕ} ((n, w) ∷ (w, x) ∷ []) (u, n)
          avoids k = of_each (λ e. e ≢ (u, n)) ((n, w) ∷ (w, x) ∷ []) (
            (λ s. not_n u own_index (sym (pair_parts n w u n s).0)),
            ((λ s. not_to_last w x sees (pair_parts w x u n s).1), tt),
          ) (u, n) k refl

      on_shorter : length less < length now
      on_shorter = one_less _ _ (n, w) (w, x) (n, x) edges g.outer_change.once end_now next
          (λ e. not_n w last_index (sym (pair_parts n w w x e).0))
          (λ h. not_n n (g.ends n x (old_of_now (n, x) h
          (λ s. not_to_last w x sees (sym (pair_parts u n n x s).1))
          (λ s. not_same w x sees (pair_parts n w n x s).1)).0).0 refl)

      -- the run goes on to x, with fewer outer edges
      on : IsExtending points q faces more outer less u x × (length less < length now)
      on = (
        record {
          second = g.second;
          rest = g.rest ++ x ∷ [];
          last = last_of_snoc g.second g.rest x;
          ends = g.ends;
          run = run_snoc outer u (g.second ∷ g.rest) x g.run (rw g.last next_old.0)
              (rw g.last sees);
          faces_change = on_faces;
          outer_change = on_edges;
        },
        on_shorter,
      )

    -- ---- back to t
    module _ (more : List Face) (less : List (ℕ × ℕ)) (t : ℕ) (before : Contains now (t, u)) (sees :
        Sees t u) (change : FacesChange new more [] (face t u n ∷ [])) (edges :
        OuterChange now less ((t, u) ∷ (u, n) ∷ []) ((t, n) ∷ [])) where
      before_old : Contains outer (t, u) × ¬ Contains (steps u (g.second ∷ g.rest)) (t, u)
      before_old = old_of_now (t, u) before (λ s. not_n u own_index (sym (pair_parts u n t u s).1))
          (λ s. not_from_last t u sees (sym (pair_parts n w t u s).0))

      back_faces : FacesChange faces more [] (fan n t (u ∷ g.second ∷ g.rest))
      back_faces = faces_gained _ new _ _ _ g.faces_change change _ (λ f. omega (arith, ints))
          (λ i j k h. elim (turn_of_append (face t u n ∷ []) (fan n u (g.second ∷ g.rest)) i j k h)
          [ inl y ↦ inr y | inr y ↦ inl y ])

      back_edges : OuterChange outer less (steps t (u ∷ g.second ∷ g.rest)) ((t, n) ∷ (n, w) ∷ [])
      back_edges = change_after _ _ _ _ ((u, n) ∷ (n, w) ∷ []) ((t, u) ∷ (u, n) ∷ [])
          ((t, n) ∷ []) _ ((t, n) ∷ (n, w) ∷ []) g.outer_change edges
          (λ e h. Contains-later (t, u) (steps u (g.second ∷ g.rest)) e h) (
            (λ _. (0, omega arith, refl)),
            ((λ h. absurd (not_n n (g.ends u n h).1 refl)), tt),
          )
          (λ e h. elim (Contains-cases (t, u) (steps u (g.second ∷ g.rest)) e h)
          [ inl k ↦ inr (0, omega arith, k) | inr k ↦ inl k ])
          (inr (0, omega arith, refl), (inl ((1, omega arith, refl), avoids), tt))
          ((λ a. absurd (a (1, omega arith, refl))), ((λ _. (1, omega arith, refl)), tt))
          ((0, omega arith, refl), tt)
        where
          avoids : ¬ Contains {X = ℕ × ℕ} ((t, u) ∷ (u, n) ∷ []) (n, w)
          avoids k = of_each (λ e. e ≢ (n, w)) ((t, u) ∷ (u, n) ∷ []) (
            (λ s. not_from_last t u sees (pair_parts t u n w s).0),
            ((λ s. not_n u own_index (pair_parts u n n w s).0), tt),
          ) (n, w) k refl

      back_shorter : length less < length now
      back_shorter = one_less _ _ (t, u) (u, n) (t, n) edges g.outer_change.once before
          start_now (λ e. not_n u own_index (pair_parts t u u n e).1)
          (λ h. not_n n (g.ends t n (old_of_now (t, n) h
          (λ s. not_same t u sees (sym (pair_parts u n t n s).0))
          (λ s. not_from_last t u sees (sym (pair_parts n w t n s).0))).0).1 refl)

      -- the run goes back to t, with fewer outer edges
      back : IsExtending points q faces more outer less t w × (length less < length now)
      back = (
        record {
          second = u;
          rest = g.second ∷ g.rest;
          last = g.last;
          ends = g.ends;
          run = (before_old.0, sees, g.run);
          faces_change = back_faces;
          outer_change = back_edges;
        },
        back_shorter,
      )

    -- ---- the end
    module _ (m : LocalMesh points faces outer) (t x : ℕ) (before : Contains now (t, u))
        (after : Contains now (w, x)) (blind_before : ¬ Sees t u) (blind_after : ¬ Sees w x) where
      -- the old mesh is local, by signs, where the new point is listed too
      mesh : SignMesh n p faces outer
      mesh = with_last _ q _ _ m

      signs : IsRun n p outer u (g.second ∷ g.rest)
      signs = run_signs outer u (g.second ∷ g.rest) g.run

      not_closed : w ≢ u
      not_closed e = run_is_open n p _ _ mesh u g.second g.rest signs (g.last ∙ e)

      before_outer : Contains outer (t, u)
      before_outer = (old_of_now (t, u) before (λ s. not_n u own_index
          (sym (pair_parts u n t u s).1)) (λ s. not_closed (pair_parts n w t u s).1)).0

      after_outer : Contains outer (w, x)
      after_outer = (old_of_now (w, x) after (λ s. not_closed (sym (pair_parts u n w x s).0))
          (λ s. not_n w last_index (sym (pair_parts n w w x s).0))).0

      sees_not : (i j : ℕ) → ¬ Sees i j → bracket (at p i) (at p j) (at p n) ≤ℤ pos 0
      sees_not i j h = bracket_not_left _ _ _ h

      -- the mesh with the new vertex is local
      done : LocalMesh (points ++ q ∷ []) new now
      done = from_last _ q new _ (extended n p _ _ mesh t u g.second g.rest x
          before_outer signs (rw g.last after_outer) (sees_not t u blind_before)
          (rw g.last (sees_not w x blind_after)) new g.faces_change _ (rw g.last g.outer_change))

-- the next outer edge that sees the new vertex is joined too, and there is one outer edge less
pub extension_goes_on : ExtensionGoesOn
extension_goes_on points faces new more outer now less q u w x g next sees change edges =
    on _ q _ new _ _ u w g _ _ x next sees change edges

-- the outer edge before that sees the new vertex is joined too, and there is one outer edge less
pub extension_goes_back : ExtensionGoesBack
extension_goes_back points faces new more outer now less q t u w g before sees change edges =
    back _ q _ new _ _ u w g _ _ t before sees change edges

-- where neither the edge before nor the edge after sees the new vertex, the mesh is local
pub extension_ends : ExtensionEnds
extension_ends points faces new outer now q t u w x m g before after blind_before blind_after =
    done _ q _ new _ _ u w g m t x before after blind_before blind_after
