-- Where the middle of a straight constraint went, the far ends of its halves can be joined, and no
-- edge beside it crosses the segment between them.
-- Lemmas: points_apart, joined_in, joined_apart, plain_before, one_less, placed, can_join,
-- free_way, not_joined, none_crosses.
use Rattle.std.proofs.Common.{◌≡◌, ◌≢◌, ◌-◌, ◌<◌, ◌∙◌}
use Rattle.std.proofs.Common.{ℕ, Bool, List, length, map, refl, sym, ap, subst, arith}
use Rattle.std.specs.Prelude.{swap_remove}
use Rattle.std.proofs.lemmas.Bool.Decides.{nat_tests}
use Rattle.std.proofs.lemmas.List.{length-map}
use Rattle.plane.specs.{AreStraightHalves, Cross, Fraction, IsPlain, Joins, place as at, Point}
use Rattle.plane.specs.{Triangulation, whole, WithinSegment}
use Rattle.{half_edge_links.specs.moved, plane.proofs.turned_join}
use Rattle.half_edge_links.proofs.{length-swap_remove, map-swap_remove}
use Rattle.plane_theorems.specs.{EdgesMeetAtVertices, Segments.PathSteps.CanBeJoined}
use Rattle.plane_theorems.proofs.{no_edges_cross, Segments.Constraints.Splits.straight_halves_join}
use Rattle.plane_theorems.proofs.Segments.Constraints.HalvesJoin.{straight_halves_join_after_removal}
use Rattle.delaunay_legalization.specs.{constraints_by, edges_of, faces_of, IsDelaunayTriangulation}
use Rattle.delaunay_legalization.specs.{IsTriangulated, marked_edges, outer_of, point_at}
use Rattle.delaunay_legalization.specs.{points_and_constraints_by, State.State, state_of}
use Rattle.delaunay_legalization.proofs.{constraints_are_edges, own_edges}
use Rattle.delaunay_vertices.specs.{former_index, TakesVertexOut}
use Rattle.{delaunay_vertices.proofs.Passing.left_point, half_edge_dcel.specs.Contents}
use Rattle.delaunay_edit.proofs.{Constrained.plain_with_edges, Walking.in_map, Walking.placed_apart}
use Rattle.{delaunay_edit.proofs.JoinedHalves.former_of_new, delaunay_edit.specs.HasFreeWay}

-- where v has gone, the index of another vertex is below the last
moved_below : (v last k n : ℕ) → v < n → k < n → k ≢ v → n - 1 ≡ last → moved last v k < last
moved_below v last k n hv hk other e = grind (arith, nat_tests)

-- ---- the constraints of a triangulation
module _ {V D U F : Type 0} (place : V → Point) (marks : U → Bool) (constraints : List U → List ℕ)
    (marked : (ds : List U) → constraints ds ≡ marked_edges marks ds) (s : State V D U F)
    (kept : IsTriangulated place s) where
  -- each is an edge
  constraint_edges : (c d : ℕ) → Joins (constraints_by constraints s) c d
      → Joins (edges_of s.mesh) c d
  constraint_edges = constraints_are_edges marks constraints marked s.mesh s.undirected
      kept.fits.undirected_fit kept.valid

  -- and so is a pair of two vertices
  plain_if_triangulated : IsPlain place (points_and_constraints_by constraints s)
  plain_if_triangulated =
      plain_with_edges place s kept (constraints_by constraints s) constraint_edges

  -- two vertices are at different points
  pub points_apart : {a b : ℕ} → (a < length s.vertices) × (b < length s.vertices) × (a ≢ b)
      → {p q : Point} → p ≡ point_at (map place s.vertices) a
      → q ≡ point_at (map place s.vertices) b → p ≢ q
  points_apart {a = a} {b = b} (ha, hb, n) is_p is_q e =
      placed_apart (map place s.vertices) (faces_of s.mesh) (outer_of s.mesh) kept.shape a b
      (in_map place s.vertices a ha) (in_map place s.vertices b hb) n
      (ap whole (sym is_p ∙ e ∙ is_q))

  -- and so are two that a constraint joins, which are vertices
  pub joined_in : {a b : ℕ} → Joins (constraints_by constraints s) a b
      → (a < length s.vertices) × (b < length s.vertices) × (a ≢ b)
  joined_in {a = a} {b = b} joined = plain_if_triangulated.pairs a b joined

  pub joined_apart : {a b : ℕ} → Joins (constraints_by constraints s) a b → {p q : Point}
      → p ≡ point_at (map place s.vertices) a → q ≡ point_at (map place s.vertices) b → p ≢ q
  joined_apart joined is_p is_q = points_apart (joined_in joined) is_p is_q

module _ {V D U F : Type 0} (place : V → Point) (marks : U → Bool) (constraints : List U → List ℕ)
    (marked : (ds : List U) → constraints ds ≡ marked_edges marks ds) (old : State V D U F)
    (legal : IsDelaunayTriangulation place constraints old) where
  abbrev before : List Point
  before = map place old.vertices

  abbrev last : ℕ
  last = length old.vertices - 1

  edges_are : (c d : ℕ) → Joins (constraints_by constraints old) c d
      → Joins (edges_of old.mesh) c d
  edges_are = constraint_edges place marks constraints marked old legal.kept

  pub plain_before : IsPlain place (points_and_constraints_by constraints old)
  plain_before = plain_if_triangulated place marks constraints marked old legal.kept

  -- an edge has two vertices
  ends_in : (c d : ℕ) → Joins (edges_of old.mesh) c d
      → (c < length old.vertices) × (d < length old.vertices) × (c ≢ d)
  ends_in = (plain_with_edges place old legal.kept (edges_of old.mesh) (λ i j h. h)).pairs

  abbrev drawn_before : Triangulation
  drawn_before =
      record { points = before; faces = faces_of old.mesh; edges = edges_of old.mesh }

  -- edges of the old mesh meet only at vertices
  meet : EdgesMeetAtVertices drawn_before
  meet = no_edges_cross before (faces_of old.mesh) (outer_of old.mesh) (edges_of old.mesh)
      legal.kept.shape (own_edges old.mesh legal.kept.valid)

  module _ (mid : Contents V D U F) (v : ℕ) (value : V) (turned : List (ℕ × ℕ)) (takes :
      TakesVertexOut place (points_and_constraints_by constraints) old (state_of mid) v value
      turned) where
    abbrev after : List Point
    after = map place mid.vertices

    -- the vertex that goes is one of the old ones
    here : v < length old.vertices
    here = takes.plain.here

    -- one vertex less
    pub one_less : length mid.vertices ≡ last
    one_less = ap (λ vs. length vs) (takes.plain.vertices value)
        ∙ length-swap_remove old.vertices v value

    points_left : after ≡ swap_remove before v (place value)
    points_left = ap (map place) (takes.plain.vertices value)
        ∙ map-swap_remove place old.vertices v value

    -- each other vertex is where it was
    pub embedding : (k : ℕ) → k < length old.vertices → k ≢ v
        → at after (moved last v k) ≡ at before k
    embedding k hk other =
        let size = length-map old.vertices place in
        let within = here in
        let below = moved_below v last k (length old.vertices) here hk other refl in
        ap (λ (ps : List Point). at ps (moved last v k)) points_left
        ∙ ap whole (left_point before v (place value) (moved last v k)
        (omega (arith, within, size)) (omega (arith, below, size)))
        ∙ ap (λ n. at before (former_index v (n - 1) (moved last v k))) size
        ∙ ap (at before) (former_of_new v last k other)

    module _ (a b : ℕ) (halves : AreStraightHalves place (points_and_constraints_by constraints old)
        v a b) where
      first_in : (a < length old.vertices) × (a ≢ v)
      first_in = let e = plain_before.pairs v a halves.first in (e.1, (λ s. e.2 (sym s)))

      second_in : (b < length old.vertices) × (b ≢ v)
      second_in = let e = plain_before.pairs v b halves.second in (e.1, (λ s. e.2 (sym s)))

      -- the far ends can be joined
      pub can_join : CanBeJoined place (points_and_constraints_by constraints (state_of mid))
          (moved last v a) (moved last v b)
      can_join = straight_halves_join_after_removal place
          (points_and_constraints_by constraints old)
          (points_and_constraints_by constraints (state_of mid)) (faces_of old.mesh)
          (edges_of old.mesh) v a b plain_before meet edges_are
          (turned_join (constraints_by constraints old) v a halves.first) halves.second
          halves.within takes.plain

      -- the way between them is free
      pub free_way : HasFreeWay place constraints mid (moved (length mid.vertices) v a)
          (moved (length mid.vertices) v b)
      free_way =
          subst (λ n. HasFreeWay place constraints mid (moved n v a) (moved n v b)) (sym one_less)
          (record { from = can_join.ends.0; to = can_join.ends.1; free = can_join.free })

      joined_before : ((k : ℕ) → k < length before → k ≢ v → ¬ WithinSegment (at before a)
          (at before b) (at before k)) × (¬ Joins (edges_of old.mesh) a b)
          × ((c d : ℕ) → Joins (edges_of old.mesh) c d → c ≢ v → d ≢ v
          → ¬ Cross (at before a) (at before b) (at before c) (at before d))
      joined_before = straight_halves_join drawn_before a b v meet
          (in_map place old.vertices v here)
          (λ k hk n. placed_apart before (faces_of old.mesh) (outer_of old.mesh) legal.kept.shape k
          v hk (in_map place old.vertices v here) n)
          (edges_are a v (turned_join (constraints_by constraints old) v a halves.first))
          (edges_are v b halves.second) halves.within

      -- they were not joined
      pub not_joined : ¬ Joins (edges_of old.mesh) a b
      not_joined = joined_before.1

      -- no edge beside the vertex crosses their segment
      pub none_crosses : (c d : ℕ) → Joins (edges_of old.mesh) c d → c ≢ v → d ≢ v
          → ¬ Cross (at after (moved last v a)) (at after (moved last v b))
          (at after (moved last v c)) (at after (moved last v d))
      none_crosses c d edge nc nd x =
          let ends = ends_in c d edge in
          joined_before.2 c d edge nc nd
          (subst (λ (q : Fraction × Fraction × Fraction × Fraction). Cross q.0 q.1 q.2 q.3)
          (λ o. (
            embedding a first_in.0 first_in.1 o,
            embedding b second_in.0 second_in.1 o,
            embedding c ends.0 nc o,
            embedding d ends.1 nd o,
          )) x)
