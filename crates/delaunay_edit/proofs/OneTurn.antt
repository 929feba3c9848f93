-- One edge that crosses a segment is turned towards it, and the lists have those that cross then.
-- Lemmas: turn_can, turned_across, turned_away.
use Rattle.std.proofs.Common.{◌≡◌, ◌≢◌, ◌⊎◌, ◌*◌, ◌/◌, [], ◌∷◌, ◌++◌}
use Rattle.std.proofs.Common.{ℕ, List, map}
use Rattle.half_edge_links.specs.{flipped, FlipsTriangles, IsBetweenFaces, KeepsOuter, origin, prev}
use Rattle.half_edge_links.specs.{rev}
use Rattle.{half_edge_links.proofs.between_faces, plane_theorems.specs.IsMesh}
use Rattle.half_edge_dcel.specs.{Contents, IsMeshWithData}
use Rattle.delaunay_legalization.specs.{AreEdges, faces_of, Gains, GainsRound, outer_of}
use Rattle.delaunay_edit.specs.{ahead, behind, CrossesFromRight, CrossingLists, GoesFromRight}
use Rattle.{delaunay_edit.specs.IsOneSubconstraint, delaunay_edit.specs.KeepRoom, plane.specs.Point}
use Rattle.delaunay_edit.specs.Lists.{HasEntry, IsToTurn, KeepEntries, TurnsOne}
use Rattle.delaunay_edit.proofs.Making.{can_turn, free_on, others_and_made, others_left}
use Rattle.delaunay_edit.proofs.Making.{turns_across, turns_away}
use Rattle.delaunay_edit.proofs.MovedEdges.{crossing_on, held_with_room, others_wait}
use Rattle.delaunay_edit.proofs.Walking.{are_in_mesh, AreInMesh}

module _ {V D U F : Type 0} (at : V → Point) {c : Contents V D U F} {i j e : ℕ} {l : CrossingLists}
    (turning : IsToTurn (map at c.vertices) c i j e l) where
  abbrev points : List Point
  points = map at c.vertices

  -- the ends of the segment are vertices, and the edge is one of the mesh
  turn_in_mesh : AreInMesh c i j e
  turn_in_mesh = are_in_mesh at turning.subconstraint turning.others.others.own.0

  from_right : CrossesFromRight points c.mesh i j e
  from_right = turning.others.others.own.1

  -- it may be turned
  pub turn_can : {k : ℕ} → k ≡ e / 2 → IsBetweenFaces c.mesh (2 * k)
      × (origin c.mesh (prev c.mesh (2 * k)) ≢ origin c.mesh (prev c.mesh (rev (2 * k))))
  turn_can {k = k} is =
      let can = can_turn at c turning.subconstraint.whole i j turning.subconstraint.free
      turning.subconstraint.shape e
      turn_in_mesh.edge from_right turning.nearer k is in
      (between_faces c.mesh (2 * k) can.0, can.1)

  module _ {k : ℕ} (is : k ≡ e / 2) {new : Contents V D U F}
      (contents : new ≡ record c { mesh = new.mesh }) (turned : new.mesh ≡ flipped c.mesh (2 * k))
      (change : FlipsTriangles c.mesh new.mesh (2 * k)) (outer : KeepsOuter c.mesh new.mesh) where
    -- the segment is a subconstraint still
    subconstraint_still : IsMeshWithData new → IsMesh points (faces_of new.mesh) (outer_of new.mesh)
        → IsOneSubconstraint points new i j
    subconstraint_still whole shape = record {
      whole = whole;
      free = free_on points c.mesh new.mesh i j turning.subconstraint.free;
      shape = shape;
    }

    -- where the edge that is made crosses, it waits, and nothing more is left to test
    pub turned_across : IsMeshWithData new → {f : ℕ}
        → ((f ≡ e) × GoesFromRight points i j (ahead c.mesh e) (behind c.mesh e))
        ⊎ ((f ≡ rev e) × GoesFromRight points i j (behind c.mesh e) (ahead c.mesh e))
        → {ks : List ℕ} → AreEdges c.mesh ks → {after : CrossingLists} → KeepRoom l after
        → after.waiting.items ≡ l.waiting.items ++ f ∷ [] → after.unseen.items ≡ l.unseen.items
        → TurnsOne points c new i j ks ks l after
    turned_across whole {f = f} way {ks = ks} edges room pushed unseen =
        let turns = turns_across at c turning.subconstraint.whole i j turning.subconstraint.free
        turning.subconstraint.shape e turn_in_mesh.edge from_right turning.nearer k is new contents
        turned
        change outer (HasEntry l) turning.others.others f way whole.valid ks edges in record {
          turns = turns;
          turn = record {
            subconstraint = subconstraint_still whole turns.shape;
            crossing = others_wait room f pushed unseen (record {
              once = turning.others.once;
              room = turning.others.room;
              others = others_and_made at c turning.subconstraint.whole i j
                  turning.subconstraint.free
                  turning.subconstraint.shape e turn_in_mesh.edge from_right turning.nearer k is new
                  contents turned change outer (HasEntry l) turning.others.others f way;
            });
          };
          room = room;
        }

    -- where it does not, the edges round it are left to test, and the others cross, also when one
    -- goes back
    pub turned_away : IsMeshWithData new
        → (¬ GoesFromRight points i j (ahead c.mesh e) (behind c.mesh e))
        × (¬ GoesFromRight points i j (behind c.mesh e) (ahead c.mesh e)) → {was mid left : List ℕ}
        → AreEdges c.mesh left → Gains was mid ((2 * k) / 2) → GainsRound c.mesh (2 * k) mid left
        → {after : CrossingLists} → KeepEntries l after → TurnsOne points c new i j was left l after
    turned_away whole clear {was = was} {left = left} edges own round same =
        let turns = turns_away at c turning.subconstraint.whole i j turning.subconstraint.free
        turning.subconstraint.shape e
        turn_in_mesh.edge from_right turning.nearer k is new contents turned change outer was left
        edges (record {
          kept = λ l there. round.kept l (own.kept l there);
          next_there = round.next_there;
          prev_there = round.prev_there;
          twin_next_there = round.twin_next_there;
          twin_prev_there = round.twin_prev_there;
        }) (round.kept ((2 * k) / 2) own.there) in record {
          turns = turns;
          turn = record {
            subconstraint = subconstraint_still whole turns.shape;
            crossing = crossing_on (record {
              held = held_with_room turning.others;
              all = others_left at c turning.subconstraint.whole i j turning.subconstraint.free
                  turning.subconstraint.shape e turn_in_mesh.edge from_right turning.nearer k is new
                  contents turned change outer (HasEntry l) turning.others.others clear.0 clear.1;
            }) same;
          };
          room = same.room;
        }
