-- An inner vertex with four neighbours, strictly between two of them.
-- Lemmas: reads_apart, between_tested, four_at_next.
use Rattle.std.proofs.Common.{◌≡◌, ◌≢◌, ◌↔◌, ◌<◌, ◌∙◌}
use Rattle.std.proofs.Common.{ℕ, List, length, map, sym, ap, subst, arith, inl, inr}
use Rattle.std.specs.Prelude.{Bool, IsTrue}
use Rattle.std.proofs.lemmas.List.{length-map}
use Rattle.plane.specs.{Point, whole, WithinSegment}
use Rattle.half_edge_links.specs.{AreSoundLinks, IsValidMesh, Mesh, neighbour, origin, rev, spoke}
use Rattle.{half_edge_links.proofs.rev_within, plane_theorems.specs.LocalMesh}
use Rattle.half_edge_dcel.specs.{Contents}
use Rattle.delaunay_legalization.specs.{faces_of, outer_of, point_at}
use Rattle.delaunay_vertices.specs.{HasSpoke, IsInnerStar, Star.IsBetweenAt, Star.IsFourStar}
use Rattle.{delaunay_vertices.proofs.InnerHoles.between_first_or_next, half_edge_links.specs.turn}
use Rattle.delaunay_vertices.proofs.InnerStars.{ends_differ, star_from}

-- edges of different vertices start at different positions
starts_apart : (points : List Point) (m : Mesh) → AreSoundLinks m
    → length m.out_edges ≡ length points → LocalMesh points (faces_of m) (outer_of m) → (a b : ℕ)
    → a < length m.half_edges → b < length m.half_edges → origin m a ≢ origin m b → (p q : Point)
    → p ≡ point_at points (origin m a) → q ≡ point_at points (origin m b) → p ≢ q
starts_apart points m s count local a b a_in b_in differ p q at_p at_q e =
    local.distinct (origin m a) (origin m b)
    (subst (λ (n : ℕ). origin m a < n) count (s.edges a a_in).origin_in)
    (subst (λ (n : ℕ). origin m b < n) count (s.edges b b_in).origin_in)
    differ (ap whole (sym at_p ∙ e ∙ at_q))

-- ---- what is read at an edge of a vertex with four neighbours: its ends, and the end of the edge
-- after the next
module _ {V D U F P : Type 0} {place : V → Point} {IsSite : P → Point → Type 0} {t : P}
    {c : Contents V D U F} {v h second opposite : ℕ} (has : HasSpoke place IsSite c t h)
    (star : IsInnerStar (map place c.vertices) c.mesh v h 4) (is_second : second ≡ turn c.mesh h)
    (is_opposite : opposite ≡ turn c.mesh second) {p a b : Point}
    (at_p : p ≡ point_at (map place c.vertices) (origin c.mesh h))
    (at_a : a ≡ point_at (map place c.vertices) (origin c.mesh (rev h)))
    (at_b : b ≡ point_at (map place c.vertices) (origin c.mesh (rev opposite))) where
  abbrev points : List Point
  points = map place c.vertices

  abbrev m : Mesh
  m = c.mesh

  valid : IsValidMesh m
  valid = has.embedding.kept.valid

  count : length m.out_edges ≡ length points
  count = sym has.embedding.kept.fits.vertices_fit ∙ sym (length-map c.vertices place)

  is : opposite ≡ turn m (turn m h)
  is = is_opposite ∙ ap (turn m) is_second

  at_end : b ≡ point_at points (neighbour m h 2)
  at_end = at_b ∙ ap (λ e. point_at points (origin m (rev e))) is

  -- edge h is one of the mesh
  h_in : h < length m.half_edges
  h_in = star.round.within 0

  back_in : rev h < length m.half_edges
  back_in = rev_within h (length m.half_edges) valid.sound.even h_in

  far_in : rev (spoke m h 2) < length m.half_edges
  far_in = rev_within (spoke m h 2) (length m.half_edges) valid.sound.even (star.round.within 2)

  -- the ends of the two edges that face one another are different points, and the vertex is at
  -- neither
  pub reads_apart : (a ≢ b) × ((p ≢ a) × (p ≢ b))
  reads_apart = (
    starts_apart points m valid.sound count star.shape (rev h) (rev (spoke m h 2)) back_in far_in
        (ends_differ valid star (omega arith)) a b at_a at_end,
    (
      starts_apart points m valid.sound count star.shape h (rev h) h_in back_in
          (valid.apart h h_in) p a at_p at_a,
      starts_apart points m valid.sound count star.shape h (rev (spoke m h 2)) h_in far_in
          (λ e. valid.apart (spoke m h 2) (star.round.within 2)
          (star.round.starts 2 ∙ sym (star.round.starts 0) ∙ e)) p b at_p at_end,
    ),
  )

  -- the test whether the point of the vertex is strictly between them tells whether the vertex is
  -- so at edge h
  pub between_tested : {says : Bool} → IsTrue says ↔ WithinSegment (whole a) (whole b) (whole p)
      → IsTrue says ↔ IsBetweenAt points m h
  between_tested asks = rw (at_a, at_end, at_p) at asks

-- where the vertex is not between the end of one edge and the opposite one, it is so at the next
pub four_at_next : {points : List Point} {m : Mesh} {first after : ℕ} → IsValidMesh m
    → IsFourStar points m first → ¬ IsBetweenAt points m first → after ≡ turn m first
    → after < length m.half_edges
    → IsInnerStar points m (origin m first) after 4 × IsBetweenAt points m after
four_at_next {points} {m} {first} {after} valid four not is within = (
  star_from valid four.star after within (ap (origin m) is ∙ four.star.round.starts 1),
  subst (IsBetweenAt points m) (sym is) (elim (between_first_or_next points m (origin m first) first
      four.star four.between) as (λ _. IsBetweenAt points m (turn m first)) [
        | inl h ↦ absurd (not h)
        | inr h ↦ h
      ]),
)
