-- What callers learn of a triangulation, by what its struct keeps.
-- Lemmas: is_delaunay, well_formed.
use Rattle.std.proofs.Common.{◌≡◌, ◌≤◌, ℕ, Bool, List, length, map}
use Rattle.std.proofs.lemmas.List.Elements.{All-map}
use Rattle.plane.specs.{InRange, IsConstrainedDelaunay, Point}
use Rattle.plane_theorems.proofs.Delaunay.Circles.History.{history_free}
use Rattle.delaunay_legalization.specs.{constraints_by, IsDelaunayTriangulation, marked_edges}
use Rattle.{delaunay_legalization.specs.State.State, delaunay_legalization.specs.triangulation_of}
use Rattle.delaunay_legalization.proofs.{laid_out_tiles}
use Rattle.delaunay_edit.specs.{IsDelaunay, IsWellFormed}
use Rattle.{delaunay_edit.proofs.Constrained.plain_with_edges, half_edge_links.specs.MAX_ELEMENTS}
use Rattle.delaunay_edit.proofs.Delaunay.{empty_triple_is_face, marked_constrained_delaunay}

module _ {V D U F : Type 0} (place : V → Point) (marks : U → Bool) (constraints : List U → List ℕ)
    (marked : (ds : List U) → constraints ds ≡ marked_edges marks ds) (s : State V D U F)
    (legal : IsDelaunayTriangulation place constraints s) where
  -- it is Delaunay in the words of callers
  pub is_delaunay : IsDelaunay place constraints s
  is_delaunay =
      let all : IsConstrainedDelaunay (triangulation_of place s) (constraints_by constraints s) =
      marked_constrained_delaunay place marks constraints marked s legal in
      record {
        tiling = laid_out_tiles (map place s.vertices) s.mesh legal.kept.valid legal.kept.shape;
        delaunay = all;
        empty_triples = λ none. empty_triple_is_face place constraints s all none;
        history_free = history_free (triangulation_of place s) (constraints_by constraints s) all;
      }

  -- with no more vertices than there are indexes, it is well-formed, too
  pub well_formed : length s.vertices ≤ MAX_ELEMENTS → IsWellFormed place constraints s
  well_formed small = record {
    small = small;
    in_range = All-map InRange place s.vertices legal.kept.in_range;
    plain = plain_with_edges place s legal.kept
        (constraints_by constraints s) is_delaunay.delaunay.kept;
    kept = legal.kept;
    passing = legal.passing;
    headline = is_delaunay;
  }
