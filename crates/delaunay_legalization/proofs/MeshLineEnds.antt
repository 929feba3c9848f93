-- A vertex of a line has at most two edges, and an edge that is joined to no other is the only one.
-- Lemmas: only_edge, is_outer, line_has_few_edges.
use Rattle.std.proofs.Common.{◌≡◌, ◌⊎◌, ◌<◌, ◌+◌, [], ◌∙◌}
use Rattle.std.proofs.Common.{ℕ, List, length, refl, sym, ap, subst, arith}
use mathlib.Core.Bool.{true}
use mathlib.Core.Logic.{inl, inr, ◌≢◌}
use lib.Dec.{eqb, eqb_refl}
use borrow.Author.Tests.{eqb-true}
use Rattle.std.specs.Prelude.{Contains}
use Rattle.std.proofs.lemmas.Bool.{cases_eq, cases_lt}
use Rattle.plane.specs.{EachPairOnce, Point}
use Rattle.{plane.proofs.is_true, plane_theorems.specs.AreEdgesOf, plane_theorems.specs.LineMesh}
use Rattle.half_edge_links.specs.{face, IsRound, IsValidMesh, Mesh, neighbour, origin, prev, rev}
use Rattle.half_edge_links.specs.{spoke, turn}
use Rattle.half_edge_links.proofs.{Lists.OneOrbit.edges_go_round, rev-rev, rev_within}
use Rattle.{half_edge_dcel.specs.HasFewEdges, plane_theorems.proofs.Tiling.LineMeshes.joins_line}
use Rattle.delaunay_legalization.specs.{edges_of, faces_of, outer_of}
use Rattle.delaunay_legalization.proofs.LineNeighbours.{only_pair, two_neighbours}
use Rattle.delaunay_legalization.proofs.{MeshStays.neighbours_differ, OwnEdges.own_edges}
use Rattle.delaunay_legalization.proofs.{OuterChanges.own_ends, OuterEdges.listed, OuterEdges.real}

-- an edge that comes after itself round a vertex is the vertex's only one
pub only_edge : (m : Mesh) → IsValidMesh m → (g w : ℕ) → origin m g ≡ w → g < length m.half_edges
    → turn m g ≡ g → (h : ℕ) → h < length m.half_edges → origin m h ≡ w → h ≡ g
only_edge m valid g w o k one h l e = eqb-true h g
    (valid.stars (λ x. eqb x g)
    (λ x _ q. ap (λ y. eqb y g) (ap (turn m) (eqb-true x g q) ∙ one) ∙ own) g h k l
    (o ∙ sym e) own)
  where
    own : eqb g g ≡ true
    own = is_true (eqb g g) (eqb_refl g)

module _ (points : List Point) (m : Mesh) (valid : IsValidMesh m) (bare : faces_of m ≡ [])
    (no_inner : length m.face_edges ≡ 0) (line : LineMesh points (outer_of m)) where
  line_once : EachPairOnce (edges_of m)
  line_once = (joins_line points (outer_of m) (edges_of m) line
      (subst (λ fs. AreEdgesOf fs (outer_of m) (edges_of m)) bare (own_edges m valid))).once

  -- each directed edge is an outer one
  pub is_outer : (h : ℕ) → h < length m.half_edges → face m h ≡ 0
  is_outer h k = let f = (valid.sound.edges h k).face_in in omega (arith, f, no_inner)

  way_listed : (h : ℕ) → h < length m.half_edges
      → Contains (outer_of m) (origin m h, origin m (rev h))
  way_listed h k = listed m h (origin m h) (origin m (rev h)) (own_ends m h k (is_outer h k))

  module _ (v first count : ℕ) (round : IsRound m v first count) where
    -- the neighbours of the vertex
    abbrev nb : ℕ → ℕ
    nb = neighbour m first

    leads : (i : ℕ) → Contains (outer_of m) (v, nb i)
    leads i =
        subst (λ x. Contains (outer_of m) (x, nb i)) (round.starts i)
        (way_listed (spoke m first i) (round.within i))

    not_three : ¬ (2 < count)
    not_three many =
        two_neighbours points (outer_of m) line v (nb 0) (nb 1) (nb 2) (leads 0) (leads 1) (leads 2)
        (neighbours_differ m valid line_once v first count round 0 1 (omega arith)
        (omega (arith, many)))
        (neighbours_differ m valid line_once v first count round 1 2 (omega arith) many)
        (neighbours_differ m valid line_once v first count round 0 2 (omega arith) many)

    few_edges : (turn m first ≡ first) ⊎ ((turn m (turn m first) ≡ first) ×
        (origin m (rev first) ≢ origin m (rev (turn m first))))
    few_edges = go (cases_eq count 1)
      where
        go : (count ≡ 1) ⊎ (count ≢ 1) → (turn m first ≡ first) ⊎ ((turn m (turn m first) ≡ first)
            × (origin m (rev first) ≢ origin m (rev (turn m first))))
        go (inl e) = inl (ap (λ n. spoke m first (0 + n)) (sym e) ∙ round.back 0)
        go (inr n) =
            let two : count ≡ 2 = (elim (cases_lt 2 count) as (λ _. count ≡ 2) [
              | inl l ↦ absurd (not_three l)
              | inr l ↦ (let s = round.some in omega (arith, s, l, n))
            ]) in
            inr (
              ap (λ n. spoke m first (0 + n)) (sym two) ∙ round.back 0,
              neighbours_differ m valid line_once v first count round 0 1 (omega arith)
                  (omega (arith, two)),
            )

  -- a vertex of the line
  pub line_has_few_edges : (v : ℕ) → length points ≡ length m.out_edges → HasFewEdges m v
  line_has_few_edges v counted = record {
    few = λ first out. let r = edges_go_round m valid v first out in few_edges v first r.0 r.1;
    whole = λ first out ahead behind.
        let in_mesh = (valid.sound.vertices v first out).0 in
        let at_v = (valid.sound.vertices v first out).1 in
        let u : ℕ = origin m (rev first) in
        let twin_in = rev_within first (length m.half_edges) valid.sound.even in_mesh in
        let one : turn m first ≡ first = ap rev behind ∙ rev-rev first in
        let back_is : prev m (rev first) ≡ first =
        ap (prev m) (sym ahead) ∙ (valid.sound.edges first in_mesh).prev_next in
        let one' : turn m (rev first) ≡ rev first = ap rev back_is in
        pair first in_mesh (λ h k. elim (only_pair points (outer_of m) line v u (origin m h)
        (subst (λ x. Contains (outer_of m) (x, u)) at_v (way_listed first in_mesh))
        (only_at first v at_v in_mesh one)
        (λ j c. only_at (rev first) u refl twin_in one' j c ∙ ap (origin m) (rev-rev first) ∙ at_v)
        (subst (λ n. origin m h < n) (sym counted) (valid.sound.edges h k).origin_in)) as
        (λ _. (h ≡ first) ⊎ (h ≡ rev first)) [
          | inl e ↦ inl (only_edge m valid first v at_v in_mesh one h k e)
          | inr e ↦ inr (only_edge m valid (rev first) u refl twin_in one' h k e)
        ]);
  }
    where
      only_at : (g w : ℕ) → origin m g ≡ w → g < length m.half_edges → turn m g ≡ g → (j : ℕ) →
          Contains (outer_of m) (w, j) → j ≡ origin m (rev g)
      only_at g w o k one j c = let r = real m w j c in sym r.1.target
          ∙ ap (λ x. origin m (rev x)) (only_edge m valid g w o k one r.0 r.1.within r.1.source)

      pigeons : (g h : ℕ) → (0 ≡ g) ⊎ (0 ≡ h) → (1 ≡ g) ⊎ (1 ≡ h) → (2 ≡ g) ⊎ (2 ≡ h) → ⊥
      pigeons g h (inl a) (inl b) c = omega (arith, a, b)
      pigeons g h (inr a) (inr b) c = omega (arith, a, b)
      pigeons g h (inl a) (inr b) (inl c) = omega (arith, a, c)
      pigeons g h (inl a) (inr b) (inr c) = omega (arith, b, c)
      pigeons g h (inr a) (inl b) (inl c) = omega (arith, b, c)
      pigeons g h (inr a) (inl b) (inr c) = omega (arith, a, c)

      pair : (g : ℕ) → g < length m.half_edges
          → ((h : ℕ) → h < length m.half_edges → (h ≡ g) ⊎ (h ≡ rev g)) → length m.half_edges ≡ 2
      pair g k all = elim (cases_lt 2 (length m.half_edges)) as (λ _. length m.half_edges ≡ 2) [
        | inl l ↦ absurd
            (pigeons g (rev g) (all 0 (omega (arith, l))) (all 1 (omega (arith, l))) (all 2 l))
        | inr l ↦ (let even = valid.sound.even in omega (arith, l, even, k))
      ]
