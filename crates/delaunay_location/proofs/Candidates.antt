-- Candidates for the vertex that is nearest to a position.
-- Lemmas: candidate_at_end, nearer_than_same, place_within, vertex_within, distance_read,
-- reached_next, reached_on, next_falls, move_to_found.
use Rattle.std.proofs.Common.{◌≡◌, ◌⊎◌, ◌+◌, ◌<◌, ◌∙◌}
use Rattle.std.proofs.Common.{ℕ, List, length, map, sym, ap, subst, to_z, of_z, w64}
use Rattle.std.proofs.Common.{arith}
use Rattle.std.proofs.lemmas.List.{length-map}
use Rattle.std.proofs.lemmas.List.Elements.{All-get_or, All-map}
use Rattle.std.specs.Prelude.{pos, ◌<ℤ◌}
use Rattle.plane.specs.{gap, InRange, IsNearer, place, Point, whole}
use Rattle.plane.proofs.{at_most_and_more, less_is_at_most, less_with_ones}
use Rattle.half_edge_links.specs.{Mesh, origin, rev}
use Rattle.half_edge_links.proofs.{rev-rev}
use Rattle.{delaunay_core.proofs.Projections.gap_passes, plane_theorems.specs.nearer_count}
use Rattle.delaunay_legalization.specs.{IsTriangulated, point_at, State.State, triangulation_of}
use Rattle.delaunay_location.specs.{declared.nearest_walk.Candidate.Candidate, EndsNoNearer}
use Rattle.delaunay_location.specs.Candidate.{IsCandidate, IsNearerCandidate, IsReached}
use Rattle.delaunay_location.proofs.Neighbours.{counted_before, IsMove, nearer_falls}
use Rattle.delaunay_location.proofs.Neighbours.{nearer_if_other, one_counted}

module _ (points : List Point) (m : Mesh) (p : Point) where
  -- a vertex with less squared distance is nearer
  nearer_by_gap : (v w : ℕ) → gap (whole p) (place points v) <ℤ gap (whole p) (place points w)
      → IsNearer (whole p) (place points v) (place points w)
  nearer_by_gap v w less =
      record {
        nearer =
            less_with_ones (gap (whole p) (place points v)) (gap (whole p) (place points w)) less;
      }

  module _ (e : ℕ) (c : Candidate) (is : c.spoke ≡ rev e) (less : gap (whole p)
      (place points (origin m (rev e))) <ℤ gap (whole p) (place points (origin m e))) where
    -- the other direction of an edge that ends nearer ends no nearer
    back_no_nearer : EndsNoNearer points m p c.spoke
    back_no_nearer = subst (EndsNoNearer points m p) (sym is) (λ back.
        let again = subst (λ h. gap (whole p) (place points (origin m h))
        <ℤ gap (whole p) (place points (origin m (rev e))))
        (rev-rev e) back in at_most_and_more _ _ (less_is_at_most less) again)

    -- the end of such an edge is a nearer candidate
    pub candidate_at_end : rev e < length m.half_edges
        → c.distance_2 ≡ gap (whole p) (place points (origin m (rev e)))
        → IsNearerCandidate points m p (origin m e) c
    candidate_at_end within distance = record {
      candidate = record {
        within = subst (λ h. h < length m.half_edges) (sym is) within;
        distance = distance ∙ ap (λ h. gap (whole p) (place points (origin m h))) (sym is);
        ends = back_no_nearer;
      };
      nearer = subst
          (λ h. IsNearer (whole p) (place points (origin m h)) (place points (origin m e))) (sym is)
          (nearer_by_gap (origin m (rev e)) (origin m e) less);
    }

-- a candidate nearer than a vertex known by another name
pub nearer_than_same : {points : List Point} {m : Mesh} {p : Point} {v w : ℕ} {c : Candidate}
    → v ≡ w → IsNearerCandidate points m p v c → IsNearerCandidate points m p w c
nearer_than_same {points = points} {m = m} {p = p} {c = c} same near =
    subst (λ x. IsNearerCandidate points m p x c) same near

-- a vertex of the mesh is one of the points
pub place_within : {V : Type 0} (at : V → Point) (vertices : List V) (v : ℕ) → v < length vertices
    → v < length (map at vertices)
place_within at vertices v w = omega (arith, w, length-map vertices at)

module _ {V D U F : Type 0} {at : V → Point} {s : State V D U F} (kept : IsTriangulated at s)
    {p : Point} where
  -- a candidate is one of the points
  pub vertex_within : {c : Candidate} → IsCandidate (map at s.vertices) s.mesh p c
      → origin s.mesh c.spoke < length (map at s.vertices)
  vertex_within {c = c} is =
      let w = (kept.valid.sound.edges c.spoke is.within).origin_in in
      let fit = kept.fits.vertices_fit in
      omega (arith, w, fit, length-map s.vertices at)

  -- its squared distance, read as 64 bits, is that of where an edge of its vertex starts
  pub distance_read : {c : Candidate} → InRange p → IsCandidate (map at s.vertices) s.mesh p c
      → (h : ℕ) → origin s.mesh h ≡ origin s.mesh c.spoke → to_z w64 (of_z w64 c.distance_2)
      ≡ gap (whole p) (place (map at s.vertices) (origin s.mesh h))
  distance_read {c = c} in_range is h same =
      let points = map at s.vertices in
      let v = origin s.mesh c.spoke in
      gap_passes c.distance_2 p (point_at points v) in_range
      (All-get_or InRange points v (record { x = pos 0; y = pos 0 }) (vertex_within is)
      (All-map InRange at s.vertices kept.in_range))
      is.distance ∙ ap (λ (i : ℕ). gap (whole p) (place points i)) (sym same)

  -- to go from a vertex to a candidate that is nearer is a move
  move_to_nearer : {v : ℕ} {n : Candidate} → v < length (map at s.vertices)
      → IsNearerCandidate (map at s.vertices) s.mesh p v n
      → IsMove (triangulation_of at s) p v (origin s.mesh n.spoke)
  move_to_nearer here near =
      record { here = here; there = vertex_within near.candidate; nearer = near.nearer }

  -- it is reached by this move
  pub reached_next : {v was : ℕ} {n : Candidate} → v < length s.vertices
      → IsNearerCandidate (map at s.vertices) s.mesh p v n
      → IsReached (map at s.vertices) s.mesh p v was (was + 1) n
  reached_next {v = v} here near = record {
    candidate = near.candidate;
    counted = one_counted (move_to_nearer (place_within at s.vertices v here) near);
  }

  -- so is the next candidate of a walk, after those before it
  pub reached_on : {v was now : ℕ} {c n : Candidate}
      → IsReached (map at s.vertices) s.mesh p v was now c
      → IsNearerCandidate (map at s.vertices) s.mesh p (origin s.mesh c.spoke) n
      → IsReached (map at s.vertices) s.mesh p v was (now + 1) n
  reached_on is near = record {
    candidate = near.candidate;
    counted =
        counted_before (move_to_nearer (vertex_within is.candidate) near) is.counted;
  }

  -- fewer vertices are nearer than the next candidate
  pub next_falls : {c n : Candidate} → IsCandidate (map at s.vertices) s.mesh p c
      → IsNearerCandidate (map at s.vertices) s.mesh p (origin s.mesh c.spoke) n
      → nearer_count (triangulation_of at s) (whole p) (origin s.mesh n.spoke)
      < nearer_count (triangulation_of at s) (whole p) (origin s.mesh c.spoke)
  next_falls is near = nearer_falls (move_to_nearer (vertex_within is) near)

  -- so it is to go from a candidate to a vertex found that is its own or nearer, if not its own
  pub move_to_found : {c : Candidate} {k w i j : ℕ} → IsCandidate (map at s.vertices) s.mesh p c
      → k < length s.vertices
      → (k ≡ w) ⊎ IsNearer (whole p) (place (map at s.vertices) k) (place (map at s.vertices) w)
      → w ≡ origin s.mesh c.spoke → i ≡ k → j ≡ w → ¬ (i ≡ j)
      → IsMove (triangulation_of at s) p (origin s.mesh c.spoke) k
  move_to_found {c = c} {k = k} is within found same first second other = record {
    here = vertex_within is;
    there = place_within at s.vertices k within;
    nearer = nearer_if_other (map at s.vertices) p k _ (origin s.mesh c.spoke) _ _ found same
        first second other;
  }
