-- Insertion where all vertices are on one line, in the words of specs/: off the line, past an end,
-- and between two neighbours.
-- Notions: over_line_ends, past_end, between.
use Rattle.std.proofs.Common.{◌⊎◌, ℕ, List, [], ◌∷◌, ◌++◌, length, sym, refl, arith}
use mathlib.Core.Logic.{inl, inr}
use Rattle.std.specs.Prelude.{Contains}
use Rattle.plane.specs.{Face, IsSamePair, place, Point}
use Rattle.{plane.proofs.if_left, plane_theorems.proofs.Tiling.Counting.at}
use Rattle.plane_theorems.specs.{Edits.Laws.InsertionPastEndKeeps, IsExtending, LineMesh}
use Rattle.plane_theorems.specs.Edits.Laws.{ExtensionOverLineEnds, InsertionBetweenKeeps}
use Rattle.plane_theorems.proofs.Edits.Insertion.FromLine.{after_is_left, before_is_left, raised}
use Rattle.plane_theorems.proofs.{Edits.Insertion.Growing.run_signs, Edits.LocalMesh.Kept.from_last}
use Rattle.plane_theorems.proofs.{Edits.Insertion.Hull.IsRun, Tiling.Totals.Contains-none}
use Rattle.plane_theorems.proofs.{Edits.LocalMesh.Changes.of_each, Tiling.LineMeshes.same_line}
use Rattle.plane_theorems.proofs.{Tiling.Appended.kept_point, Tiling.Line.SignLine}
use Rattle.plane_theorems.proofs.Tiling.LineMeshes.{line_by_signs, line_extended, line_split}
use Rattle.plane_theorems.proofs.Tiling.Tiles.{bracket_not_left, point_at}

module _ (points : List Point) (new : List Face) (outer now : List (ℕ × ℕ)) (q : Point) (u w : ℕ)
    (m : LineMesh points outer) (g : IsExtending points q [] new outer now u w) where
  -- the old outer edges are those of a line, by signs, where the new point is listed too
  line : SignLine (length points) (point_at (points ++ q ∷ [])) outer
  line = same_line _ _ _ _ (kept_point _ q) (line_by_signs _ _ m)

  -- the edges that were joined are a run, by signs
  run : IsRun (length points) (point_at (points ++ q ∷ [])) outer u (g.second ∷ g.rest)
  run = run_signs points q outer u (g.second ∷ g.rest) g.run

-- off a line of vertices, the new vertex with a face on each edge that sees it makes the mesh local
pub over_line_ends : ExtensionOverLineEnds
over_line_ends points new outer now q u w m g before after =
    let P = point_at (points ++ q ∷ []) in
    let l = line _ new _ _ q u w m g in
    let r = run _ new _ _ q u w m g in
    let at = place (points ++ q ∷ []) in
    from_last _ q new _ (raised _ P _ _ new l u g.second g.rest r
    (λ k h. bracket_not_left _ _ _ (λ s. before k
    (g.outer_change.kept k u h (before_is_left _ P _ now new l u g.second g.rest r
    k h (if_left _ _ _ s))) s))
    (λ k h. bracket_not_left _ _ _
    (λ s. after k
    (rw g.last at (g.outer_change.kept _ k h
    (after_is_left _ P _ now new l u g.second g.rest r k h
    (if_left _ _ _ s))))
    (rw g.last at s)))
    g.faces_change (rw g.last g.outer_change))

-- ---- on the line
of_pair : (i j a b : ℕ) → Contains {X = ℕ × ℕ} ((i, j) ∷ (j, i) ∷ []) (a, b) → IsSamePair a b i j
of_pair i j a b = of_each (λ e. IsSamePair e.0 e.1 i j) ((i, j) ∷ (j, i) ∷ [])
    (inl (refl, refl), (inr (refl, refl), tt)) (a, b)

in_pair : (i j a b : ℕ) → IsSamePair a b i j → Contains {X = ℕ × ℕ} ((i, j) ∷ (j, i) ∷ []) (a, b)
in_pair i j a b (inl e) = (0, omega arith, λ o. (sym e.0 o, sym e.1 o))
in_pair i j a b (inr e) = (1, omega arith, λ o. (sym e.0 o, sym e.1 o))

-- a new vertex past an end of a line of vertices is joined to that end, and the mesh stays a line
pub past_end : InsertionPastEndKeeps
past_end points outer now q i m h fresh past c = line_extended _ q _ _ m i h fresh past
    (λ a b. ((λ x. there a b x), (λ x. back a b x))) c.once
  where
    there : (a b : ℕ) → Contains now (a, b)
        → Contains outer (a, b) ⊎ IsSamePair a b i (length points)
    there a b x = elim (c.only a b x) [ inl o ↦ inl o.0 | inr o ↦ inr (of_pair i _ a b o) ]

    back : (a b : ℕ) → Contains outer (a, b) ⊎ IsSamePair a b i (length points)
        → Contains now (a, b)
    back a b (inl x) = c.kept a b x (λ z. Contains-none (a, b) z)
    back a b (inr x) = c.come a b (in_pair i _ a b x)

-- a new vertex strictly within an edge of a line is joined to both ends in its place
pub between : InsertionBetweenKeeps
between points outer now q i j m h within c = line_split _ q _ _ m i j h within
    (λ a b. ((λ x. there a b x), (λ x. back a b x))) c.once
  where
    there : (a b : ℕ) → Contains now (a, b) → (Contains outer (a, b) × ¬ IsSamePair a b i j)
        ⊎ (IsSamePair a b i (length points) ⊎ IsSamePair a b j (length points))
    there a b x = elim (c.only a b x) [
      | inl o ↦ inl (o.0, λ s. o.1 (in_pair i j a b s))
      | inr o ↦ inr (of_each
          (λ e. IsSamePair e.0 e.1 i (length points) ⊎ IsSamePair e.0 e.1 j (length points))
          ((i, length points) ∷ (length points, j) ∷ (j, length points) ∷ (length points, i) ∷ []) (
            inl (inl (refl, refl)),
            (inr (inr (refl, refl)), (inr (inl (refl, refl)), (inl (inr (refl, refl)), tt))),
          ) (a, b) o)
    ]

    back : (a b : ℕ) → (Contains outer (a, b) × ¬ IsSamePair a b i j) ⊎
        (IsSamePair a b i (length points) ⊎ IsSamePair a b j (length points)) → Contains now (a, b)
    back a b (inl x) = c.kept a b x.0 (λ z. x.1 (of_pair i j a b z))
    back a b (inr (inl (inl e))) = c.come a b (0, omega arith, λ o. (sym e.0 o, sym e.1 o))
    back a b (inr (inl (inr e))) = c.come a b (3, omega arith, λ o. (sym e.0 o, sym e.1 o))
    back a b (inr (inr (inl e))) = c.come a b (2, omega arith, λ o. (sym e.0 o, sym e.1 o))
    back a b (inr (inr (inr e))) = c.come a b (1, omega arith, λ o. (sym e.0 o, sym e.1 o))
