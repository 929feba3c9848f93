-- The two walks of a mesh: round its vertices, and along the outer face.
--   star_walk, outer_walk: the walks
--   stars_exchanged, outline_exchanged: the law of rounds for each
--   IsMoved, exchange_moved: one edge that gets another place
-- Notions: star_walk, outer_walk, IsMoved; star_goes, outer_goes, round_of_outline,
-- stars_exchanged, outline_exchanged, exchange_moved.
use Rattle.std.proofs.Common.{◌≡◌, ◌≢◌, [], ◌∷◌, ℕ, ◌<◌, List, length, refl, sym, ap, ◌∙◌}
use Rattle.half_edge_links.specs.{AreSoundLinks, HasOneOutline, HasStars, KeepsOneOutline, Mesh}
use Rattle.half_edge_links.specs.{next, OnOuter, origin, prev, turn}
use Rattle.half_edge_links.proofs.{Lists.Named.◌and◌, Lists.Rev.rev_within}
use Rattle.half_edge_links.proofs.Relinking.Rounds.{Exchange, HasOneRound, KeepsLabel, one_round}
use Rattle.half_edge_links.proofs.Relinking.Rounds.{stand, stand_first, stand_off, Walk}

-- from each edge to the next one round its origin, against the clock
abbrev pub star_walk : Mesh → Walk
star_walk m = record { Live = λ h. h < length m.half_edges; step = turn m; label = origin m }

-- from each outer edge to the one after it
abbrev pub outer_walk : Mesh → Walk
outer_walk m = record { Live = OnOuter m; step = next m; label = λ h. 0 }

module _ (m : Mesh) (s : AreSoundLinks m) where
  -- the next edge round a vertex starts there
  pub star_goes : KeepsLabel (star_walk m)
  star_goes h within = let here = s.edges h within in (
    rev_within _ _ s.even here.prev_in,
    sym (s.edges (prev m h) here.prev_in).starts ∙ ap (origin m) here.next_prev,
  )

  -- the edge after an outer one is outer
  pub outer_goes : KeepsLabel (outer_walk m)
  outer_goes h outer = let here = s.edges h outer.0 in
      ((here.next_in, here.same_face ∙ outer.1), refl)

-- one loop of the outer face, as one round of the walk along it
pub round_of_outline : (m : Mesh) → HasOneOutline m → HasOneRound (outer_walk m)
round_of_outline m one among closed h g a b same =
    one among (λ k k_in k_outer. closed k (k_in, k_outer)) h g a.0 b.0 a.1 b.1

module _ (m new : Mesh) (s : AreSoundLinks m) (stands : List (ℕ × ℕ))
    (stretches : List (ℕ × List ℕ × ℕ)) (hub : List ℕ) where
  -- each vertex keeps one round of edges where stretches of the walk round it are exchanged
  pub stars_exchanged : Exchange (star_walk m) (star_walk new) stands stretches hub → HasStars m
      → HasStars new
  stars_exchanged x = one_round (star_walk m) (star_walk new) (star_goes m s) stands
      stretches hub x

  -- the outer face keeps one loop where stretches of it are exchanged
  pub outline_exchanged : Exchange (outer_walk m) (outer_walk new) stands stretches hub
      → KeepsOneOutline m new
  outline_exchanged x one among closed h g h_in g_in h_outer g_outer =
      one_round (outer_walk m) (outer_walk new) (outer_goes m s) stands stretches hub x
      (round_of_outline m one) among (λ k live. closed k live.0 live.1) h g (h_in, h_outer)
      (g_in, g_outer) refl

-- t, which stood between p and q on a walk, stands between r and s now
pub record IsMoved (old new : Walk) (t p q r s : ℕ) : Type 0 where
  pub there : (h : ℕ) → old.Live h → new.Live h
  pub back : (h : ℕ) → new.Live h → old.Live h
  pub labels : (h : ℕ) → old.Live h → h ≢ t → new.label h ≡ old.label h
  pub at_r : new.label t ≡ old.label r
  pub t_in : old.Live t
  pub p_in : old.Live p
  pub r_in : old.Live r
  pub was_after : old.step p ≡ t
  pub was_before : old.step t ≡ q
  pub were_joined : old.step r ≡ s
  pub are_joined : new.step p ≡ q
  pub is_after : new.step r ≡ t
  pub is_before : new.step t ≡ s
  pub p_off : p ≢ t
  pub q_off : q ≢ t
  pub r_off : r ≢ t
  pub s_off : s ≢ t
  pub other : (h : ℕ) → old.Live h → h ≢ p → h ≢ r → h ≢ t
      → (new.step h ≡ old.step h) × (old.step h ≢ t)

-- where one thing is moved, it stands for what came after it
pub exchange_moved : (old new : Walk) (t p q r s : ℕ) → IsMoved old new t p q r s
    → Exchange old new ((t, q) ∷ []) ((p, [], q) ∷ (r, t ∷ [], s) ∷ []) []
exchange_moved old new t p q r s w =
    let stands : List (ℕ × ℕ) = (t, q) ∷ [] in
    let off = λ (h : ℕ) (differs : h ≢ t). stand_off stands h (differs, tt) in
    record {
      lives = λ h live none. w.there h live;
      left = (ap (stand stands) w.was_before ∙ off q w.q_off ∙ sym (stand_first t q [])) and tt;
      stretched = (w.p_in and (w.p_off and tt)
          and ap (stand stands) w.was_after ∙ stand_first t q [] and w.are_joined)
          and (w.r_in and (w.r_off and tt) and ap (stand stands) w.were_joined ∙ off s w.s_off
          and w.is_after and (w.there t w.t_in and w.at_r) and w.is_before) and tt;
      other = λ h live off_p off_r off_t. let o = w.other h live off_p off_r off_t in
          o.0 ∙ sym (off (old.step h) o.1);
      kept = λ k live off_t. let was = w.back k live in
          was and (off_t and tt) and w.labels k was off_t;
      alone = tt;
    }
