-- The edges of a vertex are one round, and so are the edges of the outer face, where these are one
-- loop.
-- Lemmas: one_orbit, edges_go_round, outline_goes_round.
use Rattle.std.proofs.Common.{◌≡◌, ℕ, suc, ◌+◌, ◌-◌, ◌<◌, length, sym, ap, ◌∙◌, arith, zero}
use Rattle.half_edge_links.specs.{AreSoundLinks, face, IsClosed, IsClosedAlong, IsValidMesh, Mesh}
use Rattle.half_edge_links.specs.{neighbour, next, origin, prev, rev, spoke, turn}
use Rattle.half_edge_links.specs.{Hull.outer_step, Hull.OutlineGoesRound, Round.EdgesGoRound}
use Rattle.half_edge_links.specs.Move.{IsOneOrbit}
use Rattle.half_edge_links.proofs.{Lists.Orbits.IsPeriod, Lists.Orbits.period_of, Lists.Rev.rev-rev}
use Rattle.half_edge_links.proofs.Lists.Walks.{among_steps, in_period, period_closed, steps_again}
use Rattle.half_edge_links.proofs.Lists.Walks.{steps_apart, to_steps}
use Rattle.half_edge_links.proofs.Removing.Conditions.{spoke_at, turn_in, turn_one}
use Rattle.half_edge_links.proofs.Removing.ShrinkTriangles.{same_triangle}

turns : (m : Mesh) (o : ℕ) → IsValidMesh m → o < length m.half_edges
    → (k : ℕ) × IsPeriod (turn m) o k
turns m o v within = period_of (turn m) (length m.half_edges) (λ a a_in. turn_in m v a a_in)
    (turn_one m v.sound) o within

-- each edge of the vertex is one of the round
in_round : (m : Mesh) (o h k : ℕ) → IsValidMesh m → o < length m.half_edges → IsPeriod (turn m) o k
    → h < length m.half_edges → origin m h ≡ origin m o → (i : ℕ) × (i < k) × (h ≡ spoke m o i)
in_round m o h k v o_in p h_in same =
    let closed : IsClosed m (among_steps (turn m) o (k - 1)) =
    λ g g_in is. period_closed (turn m) o k p g is in
    in_period (turn m) o k h p (v.stars (among_steps (turn m) o (k - 1)) closed o h o_in h_in
    (sym same) (to_steps (turn m) o (k - 1) 0 (omega arith)))

-- in a valid mesh, the walk round a vertex from the edge that it names meets each edge that starts
-- there
pub one_orbit : (m : Mesh) (u : ℕ) → IsValidMesh m → IsOneOrbit m u
one_orbit m u v o h named h_in same =
    let had = v.sound.vertices u o named in
    let p = turns m o v had.0 in
    let found = in_round m o h p.0 v had.0 p.1 h_in (same ∙ sym had.1) in
    (found.0, sym found.2)

-- each vertex with edges has one round of them, its inner faces lying between neighbours that
-- follow
pub edges_go_round : EdgesGoRound
edges_go_round m v u o named =
    let s = v.sound in
    let had = s.vertices u o named in
    let p = turns m o v had.0 in
    let at = spoke_at m o s had.0 in (
      p.0,
      record {
        some = p.1.some;
        back = λ i. steps_again (turn m) o p.0 i p.1;
        within = λ i. (at i).0;
        starts = λ i. (at i).1 ∙ had.1;
        apart = λ i j less j_in. steps_apart (turn m) (length m.half_edges)
            (λ a a_in. turn_in m v a a_in) (turn_one m s) o p.0 i j had.0 p.1 less j_in;
        all = λ h h_in same. in_round m o h p.0 v had.0 p.1 h_in (same ∙ sym had.1);
        corner = λ i inner.
            let h : ℕ = spoke m o i in
            let here = s.edges h (at i).0 in
            let step : spoke m o (i + 1) ≡ turn m h =
            ap (spoke m o) (let e : i + 1 ≡ suc i = omega arith in e) in
            let across : origin m (prev m h) ≡ neighbour m o (i + 1) =
            ap (origin m) (sym (rev-rev (prev m h))) ∙ ap (λ g. origin m (rev g)) (sym step) in
            same_triangle _ _ _ _ _ _ ((at i).1 ∙ had.1) here.starts across;
      },
    )

next_one : (m : Mesh) → AreSoundLinks m → (a b : ℕ) → a < length m.half_edges
    → b < length m.half_edges → next m a ≡ next m b → a ≡ b
next_one m s a b p q same = sym (s.edges a p).prev_next ∙ ap (prev m) same ∙ (s.edges b q).prev_next

step_at : (m : Mesh) (o : ℕ) → AreSoundLinks m → o < length m.half_edges → face m o ≡ 0 → (i : ℕ)
    → (outer_step m o i < length m.half_edges) × (face m (outer_step m o i) ≡ 0)
step_at m o s within outer zero = (within, outer)
step_at m o s within outer (suc i) =
    let was = step_at m o s within outer i in
    let here = s.edges _ was.0 in
    (here.next_in, here.same_face ∙ was.1)

-- the outer edges of a valid mesh with one outer loop are one round
pub outline_goes_round : OutlineGoesRound
outline_goes_round m v one o named =
    let s = v.sound in
    let had = s.outer o named in
    let stays : (a : ℕ) → a < length m.half_edges
    → next m a < length m.half_edges = λ a a_in. (s.edges a a_in).next_in in
    let p = period_of (next m) (length m.half_edges) stays (next_one m s) o had.0 in
    let closed : IsClosedAlong m (among_steps (next m) o (p.0 - 1)) =
    λ h h_in outer is. period_closed (next m) o p.0 p.1 h is in (
      p.0,
      record {
        some = p.1.some;
        back = λ i. steps_again (next m) o p.0 i p.1;
        within = λ i. (step_at m o s had.0 had.1 i).0;
        outer = λ i. (step_at m o s had.0 had.1 i).1;
        apart = λ i j less j_in. steps_apart (next m) (length m.half_edges) stays
            (next_one m s) o p.0 i j had.0 p.1 less j_in;
        all = λ h h_in outer. in_period (next m) o p.0 h p.1 (one (among_steps (next m) o (p.0 - 1))
            closed o h had.0 h_in had.1 outer (to_steps (next m) o (p.0 - 1) 0 (omega arith)));
      },
    )
