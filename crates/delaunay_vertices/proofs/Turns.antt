-- An edge of a vertex between two inner faces may be turned.
-- Lemmas: may_turn, still_within.
use Rattle.std.proofs.Common.{◌≢◌, ℕ, ◌*◌, ◌/◌, ◌<◌, List, length, map, refl, sym, ap, subst}
use Rattle.std.specs.Global.{Vec}
use Rattle.half_edge_links.specs.{IsFlippable, origin, prev, rev, turn}
use Rattle.{half_edge_dcel.specs.Contents, plane.specs.Point}
use Rattle.delaunay_legalization.proofs.{MeshStarFlips.can_turn_spoke, round_at}
use Rattle.delaunay_vertices.specs.{MayTurnAway, TurnsAway}

-- the edge after h can be flipped, and joins no two vertices twice
pub may_turn : {V D U F : Type 0} {place : V → Point} {c : Contents V D U F} {h : ℕ}
    → MayTurnAway place c h → IsFlippable c.mesh (2 * (turn c.mesh h / 2))
    × (origin c.mesh (prev c.mesh (2 * (turn c.mesh h / 2)))
    ≢ origin c.mesh (prev c.mesh (rev (2 * (turn c.mesh h / 2)))))
may_turn {place = place} {c = c} {h = h} may =
    let valid = may.whole.valid in
    let r = round_at c.mesh valid (origin c.mesh h) h
    (rw may.whole.fits.directed_fit at may.within) refl in
    can_turn_spoke (map place c.vertices) c.mesh valid may.shape (origin c.mesh h) h r.0 r.1 0
    may.left may.right may.apart

-- a turn takes no edge away
pub still_within : {V D U F : Type 0} {old new : Contents V D U F} {h : ℕ}
    {listed list : Vec (ℕ × ℕ)} → TurnsAway old new h listed list → {e : ℕ}
    → e < length old.directed → e < length new.directed
still_within {V} {D} {U} {F} t {e} within = subst (λ (ds : List D). e < length ds)
    (sym (ap (λ (c : Contents V D U F). c.directed) t.contents)) within
