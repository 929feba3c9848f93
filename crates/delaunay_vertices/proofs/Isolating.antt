-- An inner vertex that is left with four edges, strictly between two of their ends.
-- Lemmas: four_left, four_named.
use Rattle.std.proofs.Common.{◌≡◌, ◌≢◌, ℕ, List, map, sym, ◌∙◌, subst, inl, inr}
use Rattle.half_edge_links.specs.{origin}
use Rattle.{delaunay_vertices.specs.IsInnerStar, half_edge_dcel.specs.Contents, plane.specs.Point}
use Rattle.delaunay_vertices.specs.Star.{IsFourStar, ShrinksStar, StandsBetween}

module _ {V D U F : Type 0} {pairs : List (ℕ × ℕ)} {place : V → Point} {old mid : Contents V D U F}
    {v first count : ℕ} (shrinks : ShrinksStar place old mid v first count pairs) where
  -- where not three edges are left, there are these four
  pub four_left : count ≢ 3 → IsFourStar (map place mid.vertices) mid.mesh first
  four_left more = elim shrinks.reduced [
    | inl e ↦ absurd (more e)
    | inr r ↦ record {
      star = subst (λ (x : ℕ × ℕ). IsInnerStar (map place mid.vertices) mid.mesh x.0 first x.1)
          (λ i. (sym (shrinks.star.round.starts 0) i, r.0 i)) shrinks.star;
      between = subst (λ (x : ℕ). StandsBetween (map place mid.vertices) mid.mesh x first 4)
          (sym (shrinks.star.round.starts 0)) r.1;
    }
  ]

  -- the star of four by another name of the vertex
  pub four_named : {h vertex : ℕ} → v ≡ vertex
      → IsInnerStar (map place mid.vertices) mid.mesh (origin mid.mesh first) h 4
      → IsInnerStar (map place mid.vertices) mid.mesh vertex h 4
  four_named named star = rw (shrinks.star.round.starts 0 ∙ named) at star
