-- A vertex loses its edges, by the round that the mesh gives of it: inside the hull with three
-- faces or four, on the hull at a corner or on a flat side.
-- Lemmas: leaves_three, inner_choice, four_turned, leaves_four, leaves_corner, leaves_to_line,
-- flat_turned, leaves_flat.
use Rattle.std.proofs.Common.{◌≡◌, ◌⊎◌, ◌<◌, ◌≤◌, ◌-◌, ◌*◌, ◌/◌, [], ◌∙◌}
use Rattle.std.proofs.Common.{ℕ, suc, List, sym, subst, arith}
use mathlib.Core.Logic.{inl, inr, ◌≢◌}
use Rattle.plane.specs.{on, place, Point, side, TurnsLeft, WithinSegment}
use Rattle.half_edge_links.specs.{face, flipped, FlipsTriangles, IsRound, KeepsOuter, neighbour}
use Rattle.half_edge_links.specs.{rev, spoke}
use Rattle.plane_theorems.specs.{IsStar, LineMeshWithout, LocalMesh, LocalMeshWithout}
use Rattle.plane_theorems.specs.{NoneTurnsLeft}
use Rattle.plane_theorems.proofs.Edits.Removal.InnerVertex.{inner_star_flips}
use Rattle.half_edge_dcel.specs.{Contents, FillsHole, IsMeshWithData, LosesStrip}
use Rattle.delaunay_legalization.specs.{faces_of, outer_of}
use Rattle.delaunay_legalization.proofs.MeshHullRemoval.{corner_cut, flat_vertex_goes}
use Rattle.delaunay_legalization.proofs.MeshInnerRemoval.{four_faces_go, three_faces_go}
use Rattle.delaunay_legalization.proofs.MeshStarFlips.{spoke_flippable, spoke_turned}
use Rattle.delaunay_legalization.proofs.{MeshStarFlips.twin_flippable, MeshStars.neighbours_apart}
use Rattle.delaunay_legalization.proofs.MeshStars.{hull_star, hull_strip, inner_star}
use Rattle.delaunay_legalization.proofs.{OuterChanges.outer_kept, RoundShift.three_below}
use Rattle.delaunay_legalization.proofs.StarTurns.{again_end, first_end, second_end, third_end}
use Rattle.delaunay_legalization.proofs.StarTurns.{turns_away, TurnsOff}

module _ {V D U F : Type 0} (points : List Point) (old : Contents V D U F) (before : IsMeshWithData
    old) (local : LocalMesh points (faces_of old.mesh) (outer_of old.mesh)) (v first : ℕ) where
  -- the neighbours that the vertex had
  abbrev nb : ℕ → ℕ
  nb = neighbour old.mesh first

  neighbour_differs : (count : ℕ) → IsRound old.mesh v first count → (i : ℕ) → nb i ≢ v
  neighbour_differs count round i e =
      before.valid.apart (spoke old.mesh first i) (round.within i) (round.starts i ∙ sym e)

  -- ---- inside the hull
  module _ (inner : (i : ℕ) → 0 < face old.mesh (spoke old.mesh first i)) where
    -- three faces become one
    pub leaves_three : (new : Contents V D U F) → IsMeshWithData new → IsRound old.mesh v first 3
        → FillsHole old new v nb → LocalMeshWithout v points (faces_of new.mesh) (outer_of new.mesh)
    leaves_three new after round hole = three_faces_go points old new v nb before after local
        (inner_star points old.mesh before.valid local v first 3 round inner) hole

    -- with four neighbours or more the edge to one of them can be turned, or there are four and v
    -- is strictly between two opposite ones
    pub inner_choice : (count : ℕ) → IsRound old.mesh v first count → 4 ≤ count
        → ((i : ℕ) × (i < count) × TurnsLeft (place points (nb i)) (place points (nb (suc i)))
        (place points (nb (suc (suc i)))) × TurnsLeft (place points v) (place points (nb i))
        (place points (nb (suc (suc i))))) ⊎ ((count ≡ 4) × ((i : ℕ) × (i < count)
        × WithinSegment (place points (nb i)) (place points (nb (suc (suc i)))) (place points v)))
    inner_choice count round four = elim (inner_star_flips points (faces_of old.mesh)
        (outer_of old.mesh) v count nb local star four) [
          | inl r ↦ (let p = three_below nb count star.again round.some r.0 in
              inl (
                p.0,
                p.1,
                subst (λ (x : ℕ × ℕ × ℕ). TurnsLeft (place points x.0) (place points x.1)
                    (place points x.2)) (λ t. (sym p.2 t, sym p.3 t, sym p.4 t)) r.1,
                subst (λ (x : ℕ × ℕ). TurnsLeft (place points v) (place points x.0)
                    (place points x.1))
                    (λ t. (sym p.2 t, sym p.4 t)) r.2,
              ))
          | inr r ↦ (let p = three_below nb count star.again round.some r.1.0 in
              inr (
                r.0,
                (
                  p.0,
                  p.1,
                  subst (λ (x : ℕ × ℕ). WithinSegment (place points x.0)
                      (place points x.1) (place points v)) (λ t. (sym p.2 t, sym p.4 t)) r.1.1,
                ),
              ))
        ]
      where
        star : IsStar (faces_of old.mesh) v count nb
        star = inner_star points old.mesh before.valid local v first count round inner

    -- four faces, with v strictly between neighbours 0 and 2: the edge to neighbour 1 is turned,
    -- then three faces become one
    module _ (between new : Contents V D U F) (middle : IsMeshWithData between)
        (after : IsMeshWithData new) (round : IsRound old.mesh v first 4)
        (turned : between.mesh ≡ flipped old.mesh (2 * (spoke old.mesh first 1 / 2)))
        (faces : FlipsTriangles old.mesh between.mesh (2 * (spoke old.mesh first 1 / 2)))
        (outer : KeepsOuter old.mesh between.mesh) where
      -- the flip turns the second edge of v away from it
      pub four_turned : TurnsOff old.mesh between.mesh (spoke old.mesh first 1)
      four_turned = turns_away old.mesh between.mesh (spoke old.mesh first 1) before.valid.sound
          (spoke_flippable points old.mesh before.valid local v first 4 round 0 (inner 0) (inner 1))
          (twin_flippable points old.mesh before.valid local v first 4 round 0 (inner 0)
          (inner 1)) turned

      -- v within the segment from neighbour 0 to 2: filling the hole leaves a local mesh without v
      pub leaves_four : WithinSegment (place points (nb 0)) (place points (nb 2)) (place points v)
          → FillsHole between new v (neighbour between.mesh first)
          → LocalMeshWithout v points (faces_of new.mesh) (outer_of new.mesh)
      leaves_four within hole =
          four_faces_go points old between new v nb (neighbour between.mesh first) middle after
          local (inner_star points old.mesh before.valid local v first 4 round inner)
          (neighbour_differs 4 round) within
          (spoke_turned points old.mesh before.valid local v first 4 round 0 (inner 0)
          (inner 1) between.mesh faces)
          (outer_kept old.mesh between.mesh local.once outer)
          (first_end old.mesh between.mesh before.valid v first 4 round (omega arith) (inner 0)
          (inner 1) four_turned)
          (second_end old.mesh between.mesh before.valid v first 4 round (omega arith) (inner 0)
          (inner 1) four_turned)
          (third_end old.mesh between.mesh before.valid v first round inner four_turned)
          (again_end old.mesh between.mesh before.valid v first round inner four_turned)
          hole

  -- ---- on the hull, from the outer edge that arrives at v on
  module _ (outer : face old.mesh (rev first) ≡ 0) where
    -- at a corner where no neighbours turn left its faces go
    module _ (new : Contents V D U F) (after : IsMeshWithData new) (count : ℕ)
        (round : IsRound old.mesh v first count)
        (corner : TurnsLeft (place points v) (place points (nb 0)) (place points (nb (count - 1))))
        (bent : NoneTurnsLeft points (count - 1) nb)
        (loses : LosesStrip old new v nb (count - 1)) where
      differ : (i j : ℕ) → i < j → j ≤ count - 1 → nb i ≢ nb j
      differ i j l h e = absurd (let q = neighbours_apart points old.mesh before.valid local v first
          count round i j (omega (arith, l, h)) (let s = round.some in omega (arith, s, h)) e in
          omega (arith, q, l))

      -- other faces are left: they are a local mesh without v
      pub leaves_corner : faces_of new.mesh ≢ []
          → LocalMeshWithout v points (faces_of new.mesh) (outer_of new.mesh)
      leaves_corner some = (corner_cut points old new v (count - 1) nb before after local
          (hull_star points old.mesh before.valid local v first count round outer)
          (neighbour_differs count round) differ loses corner bent).with_faces some

      -- no face is left: what is left is a mesh of a line, without v
      pub leaves_to_line : faces_of new.mesh ≡ [] → LineMeshWithout v points (outer_of new.mesh)
      leaves_to_line none = (corner_cut points old new v (count - 1) nb before after local
          (hull_star points old.mesh before.valid local v first count round outer)
          (neighbour_differs count round) differ loses corner bent).on_line none

    -- on a flat side with two faces: the edge to neighbour 1 is turned, then the flat face goes
    module _ (between new : Contents V D U F) (middle : IsMeshWithData between)
        (after : IsMeshWithData new) (round : IsRound old.mesh v first 3)
        (turned : between.mesh ≡ flipped old.mesh (2 * (spoke old.mesh first 1 / 2)))
        (faces : FlipsTriangles old.mesh between.mesh (2 * (spoke old.mesh first 1 / 2)))
        (kept : KeepsOuter old.mesh between.mesh) where
      -- the face on the left of the first edge is an inner one
      left : 0 < face old.mesh (spoke old.mesh first 0)
      left = (hull_strip points old.mesh before.valid local v first 3 round outer).inner 0
          (omega arith)

      right : 0 < face old.mesh (spoke old.mesh first 1)
      right = (hull_strip points old.mesh before.valid local v first 3 round outer).inner
          1 (omega arith)

      -- the flip turns the one inner edge at v away from it
      pub flat_turned : TurnsOff old.mesh between.mesh (spoke old.mesh first 1)
      flat_turned = turns_away old.mesh between.mesh (spoke old.mesh first 1) before.valid.sound
          (spoke_flippable points old.mesh before.valid local v first 3 round 0 left right)
          (twin_flippable points old.mesh before.valid local v first 3 round 0 left right)
          turned

      -- v on the line through its outer neighbours: what is left is a local mesh without v
      pub leaves_flat : side (place points (nb 0)) (place points v) (place points (nb 2)) ≡ on
          → LosesStrip between new v (neighbour between.mesh first) 1
          → LocalMeshWithout v points (faces_of new.mesh) (outer_of new.mesh)
      leaves_flat flat loses =
          flat_vertex_goes points old between new v nb (neighbour between.mesh first) middle after
          local (hull_star points old.mesh before.valid local v first 3 round outer)
          (neighbour_differs 3 round) flat
          (spoke_turned points old.mesh before.valid local v first 3 round 0 left right
          between.mesh faces)
          (outer_kept old.mesh between.mesh local.once kept)
          (first_end old.mesh between.mesh before.valid v first 3 round
          (omega arith) left right flat_turned)
          (second_end old.mesh between.mesh before.valid v first 3 round
          (omega arith) left right flat_turned)
          loses
