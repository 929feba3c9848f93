-- The edges of a vertex are put into a work list, one after another, each with the one after it in
-- its loop.
-- Notions: IsPushing; no_edges, pushing_begins, next_in_mesh, pushing_goes_on, pushing_ends.
use Rattle.std.proofs.Common.{◌≡◌, ℕ, List, [], ◌∷◌, length, ◌<◌, ◌/◌, sym, ◌∙◌, subst}
use Rattle.std.specs.Prelude.{Contains}
use Rattle.std.specs.Borrow.{Bor}
use Rattle.half_edge_links.specs.{IsValidMesh, Mesh, next}
use Rattle.plane_theorems.proofs.{Contains-none, once_none}
use Rattle.half_edge_dcel.specs.{Contents, GivesRound, IsMeshWithData}
use Rattle.delaunay_legalization.specs.{AreEdges, Gains, Star.HasSidesAt, Star.HasStar}
use Rattle.delaunay_legalization.proofs.Rounds.{IsGoingRound, next_within, round_begins, round_ends}
use Rattle.delaunay_legalization.proofs.{Rounds.round_goes_on, Rounds.seen_as, Stars.sides_kept}

-- what is left of the edges of vertex v, and the list so far: it has the sides at each other edge
pub record IsPushing {V D U F : Type 0} (c : Contents V D U F) (v : ℕ)
    (given : List (Bor (Contents V D U F) × ℕ)) (ks : List ℕ) (room_was room : ℕ) : Type 0 where
  pub going : IsGoingRound c v (λ h. HasSidesAt c.mesh h ks) given
  pub edges : AreEdges c.mesh ks
  pub room_stays : room ≡ room_was

-- the empty list is one of edges
pub no_edges : (m : Mesh) → AreEdges m []
no_edges m = record { within = λ k c. absurd (Contains-none k c); once = once_none }

-- at first the round of the vertex is left, or nothing
pub pushing_begins : {V D U F : Type 0} {c : Contents V D U F} {v : ℕ} {d : Bor (Contents V D U F)}
    {given : List (Bor (Contents V D U F) × ℕ)} {ks : List ℕ} {room_was room : ℕ} → d.now ≡ c
    → IsValidMesh c.mesh → GivesRound d v given → ks ≡ [] → room ≡ room_was
    → IsPushing c v given ks room_was room
pushing_begins {c = c} {v = v} {d = d} {given = given} {ks = ks} same valid gives none stays =
    record {
      going = round_begins c v (λ h. HasSidesAt c.mesh h ks) d given same valid gives;
      edges = subst (AreEdges c.mesh) (sym none) (no_edges c.mesh);
      room_stays = stays;
    }

module _ {V D U F : Type 0} {c : Contents V D U F} {v : ℕ}
    {given : List (Bor (Contents V D U F) × ℕ)} {ks : List ℕ} {room_was room : ℕ}
    (p : IsPushing c v given ks room_was room) where
  module _ {x : Bor (Contents V D U F) × ℕ} {left : List (Bor (Contents V D U F) × ℕ)}
      (e : given ≡ x ∷ left) {k : ℕ} (is : k ≡ x.1) where
    -- the next edge is in the mesh
    pub next_in_mesh : IsMeshWithData c → k < length c.directed
    next_in_mesh whole = rw (whole.fits.directed_fit, is)
        (next_within c v (λ h. HasSidesAt c.mesh h ks) given p.going x left e)

    -- after it and the one after it, the list has the sides there too
    pub pushing_goes_on : {mid more : List ℕ} {after room_mid room_now : ℕ} → Gains ks mid (k / 2)
        → after ≡ next c.mesh k → Gains mid more (after / 2) → AreEdges c.mesh more
        → room_mid ≡ room → room_now ≡ room_mid → IsPushing c v left more room_was room_now
    pushing_goes_on {more = more} first at second edges stays still = record {
      going = round_goes_on c v (λ h. HasSidesAt c.mesh h more) given
          (seen_as c v (λ h. HasSidesAt c.mesh h ks) given p.going (λ h. HasSidesAt c.mesh h more)
          (λ h. sides_kept c.mesh h ks more (λ j l. second.kept j (first.kept j l))))
          x left e (subst (λ (h : ℕ). HasSidesAt c.mesh h more) is (record {
            here = second.kept (k / 2) first.there;
            after = subst (λ (z : ℕ). Contains more (z / 2)) at second.there;
          }));
      edges = edges;
      room_stays = still ∙ stays ∙ p.room_stays;
    }

  -- when none is left to give, the list has the sides at each edge of the vertex
  pub pushing_ends : given ≡ [] → HasStar c.mesh v ks
  pushing_ends e = round_ends c v (λ h. HasSidesAt c.mesh h ks) given p.going e
