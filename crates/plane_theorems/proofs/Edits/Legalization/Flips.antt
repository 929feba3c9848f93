-- A flip: the faces a b c and a c d of a strictly convex quadrilateral become a b d and b c d, and
-- the mesh stays local.
-- Notions: `flipped`.
use Rattle.std.proofs.Common.{ℕ, ◌<◌, List, [], ◌∷◌, refl, arith}
use mathlib.Core.Logic.{inl, inr}
use Rattle.std.specs.Prelude.{pos, ◌<ℤ◌}
use Rattle.std.proofs.lemmas.Int.{ints}
use Rattle.{plane.proofs.bracket, plane.specs.Face, plane.specs.face, plane.specs.Point}
use Rattle.plane_theorems.specs.{FacesChange, OuterChange}
use Rattle.plane_theorems.proofs.Edits.LocalMesh.Exchange.{all_stay, border_of, edited, IsTouched}
use Rattle.plane_theorems.proofs.Edits.LocalMesh.Exchange.{some_made, to_signs}
use Rattle.plane_theorems.proofs.Tiling.Counting.{at, SignMesh}
use Rattle.plane_theorems.proofs.Tiling.Flows.{IsTurnOf}
use Rattle.plane_theorems.proofs.Tiling.Covering as C

module _ (n : ℕ) (p : ℕ → Point) (old new : List Face) (outer outer' : List (ℕ × ℕ))
    (m : SignMesh n p old outer) (outer_change : OuterChange outer outer' [] []) (a b c d : ℕ)
    (change : FacesChange old new (face a b c ∷ face a c d ∷ []) (face a b d ∷ face b c d ∷ []))
    (first : IsTurnOf old a b c) (second : IsTurnOf old a c d)
    (left : pos 0 <ℤ bracket (at p a) (at p b) (at p d))
    (right : pos 0 <ℤ bracket (at p b) (at p c) (at p d)) where
  abbrev made : List Face
  made = face a b d ∷ face b c d ∷ []

  -- a mesh with an edge turned is one
  pub flipped : SignMesh n p new outer'
  flipped =
      let x = C.turn_corners n p old outer m a b c first in
      let y = C.turn_corners n p old outer m a c d second in
      to_signs (λ k. k < n) n p new _ (λ k h. h) (λ k h. h) (edited (λ k. k < n) n p old new
      _ _ _ _ [] [] m (record {
        faces_change = change;
        outer_change = outer_change;
        distinct = m.distinct;
        some_face = some_made old new _ _ change a (b, d, inl (0, omega arith, refl));
        old_or_new = λ k h. inl h;
        lives = λ k h. inl h;
        turning = ((x.0, x.1, y.2, left), ((x.1, x.2, y.2, right), tt));
        kept = ((at_a, at_b, at_c), ((at_a, at_c, at_d), tt));
        stays = λ e h _. border_of n p old _ m e h;
        edges = all_stay (λ k. k < n) p _;
        same = λ flow anti. omega (arith, ints, anti c a, anti d b);
      }))
    where
      at_a : a < n → IsTouched made [] a
      at_a _ = inl (b, d, inl (0, omega arith, refl))

      at_b : b < n → IsTouched made [] b
      at_b _ = inl (c, d, inl (1, omega arith, refl))

      at_c : c < n → IsTouched made [] c
      at_c _ = inl (d, b, inr (inr (1, omega arith, refl)))

      at_d : d < n → IsTouched made [] d
      at_d _ = inl (b, c, inr (inl (1, omega arith, refl)))
