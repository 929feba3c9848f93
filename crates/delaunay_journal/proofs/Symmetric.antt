-- What is asked of two vertices is answered alike in either order.
-- Lemmas: queries_are_symmetric.
use Rattle.std.proofs.Common.{◌≡◌, ◌<◌, ◌∙◌, ℕ, List, length, sym, ap, subst, inl, inr}
use Rattle.half_edge_links.proofs.{rev-rev, rev_within}
use Rattle.{half_edge_dcel.specs.Contents, half_edge_links.specs.origin, half_edge_links.specs.rev}
use Rattle.{delaunay_legalization.specs.edges_of, plane.proofs.turned_join}
use Rattle.{delaunay_legalization.specs.State.State, plane.specs.EachPairOnce, plane.specs.Point}
use Rattle.delaunay_edit.specs.{constraints_of, IsWellFormed}
use Rattle.delaunay_interface.specs.{AreNotJoined, IsEdgeBetween}
use Rattle.{delaunay_journal.specs.Laws.QueriesAreSymmetric, delaunay_legalization.proofs.one_way}

module _ {V D U F : Type 0} (position : V → Point) (constraints : List U → List ℕ)
    (s : State V D U F) (formed : IsWellFormed position constraints s) where
  -- the other direction of an edge is an edge
  back_within : (e : ℕ) → e < length s.directed → rev e < length s.mesh.half_edges
  back_within e within = rev_within e (length s.mesh.half_edges) formed.kept.valid.sound.even
      (subst (λ (n : ℕ). e < n) formed.kept.fits.directed_fit within)

  -- the other direction of the other direction starts where the edge does
  starts_again : (e : ℕ) → origin s.mesh (rev (rev e)) ≡ origin s.mesh e
  starts_again e = ap (origin s.mesh) (rev-rev e)

  -- where no edge goes one way, none goes the other
  not_joined_back : (i j : ℕ) → AreNotJoined s i j → AreNotJoined s j i
  not_joined_back i j none e within from to = none (rev e)
      (subst (λ (n : ℕ). rev e < n) (sym formed.kept.fits.directed_fit) (back_within e within)) to
      (starts_again e ∙ from)

  -- each pair of vertices is joined by at most one edge
  edges_once : EachPairOnce (edges_of s.mesh)
  edges_once = elim formed.headline.tiling [ inl t ↦ t.once | inr t ↦ t.once ]

  -- the edge one way is the other direction of the edge the other way
  edge_back : (i j e f : ℕ) (c d : Contents V D U F) → e < length s.directed
      → f < length s.directed → IsEdgeBetween s i j c e → IsEdgeBetween s j i d f → f ≡ rev e
  edge_back i j e f c d within other p q = one_way s.mesh formed.kept.valid edges_once (rev e) f
      (back_within e within) (subst (λ (n : ℕ). f < n) formed.kept.fits.directed_fit other)
      (q.1 ∙ sym p.2, q.2 ∙ sym p.1 ∙ sym (starts_again e))

-- the answers about two vertices are those in the other order
pub queries_are_symmetric : {V D U F : Type 0} → QueriesAreSymmetric V D U F
queries_are_symmetric = record {
  constraint = λ s i j.
      (turned_join (constraints_of s) i j, turned_join (constraints_of s) j i);
  none = λ position constraints s i j formed. (
    not_joined_back position constraints s formed i j,
    not_joined_back position constraints s formed j i,
  );
  edge = λ position constraints s i j e f c d formed.
      edge_back position constraints s formed i j e f c d;
}
