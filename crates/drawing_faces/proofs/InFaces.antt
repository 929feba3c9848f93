-- The faces that points in holes are in, one point after another.
-- Lemmas: in_no_face, in_more, in_next, all_there.
use Rattle.std.proofs.Common.{◌≡◌, ◌+◌, ◌<◌, ◌≤◌, [], ◌∷◌, ◌++◌, ◌∙◌}
use Rattle.std.proofs.Common.{ℕ, List, length, take, get_or, refl, sym, ap, subst}
use Rattle.std.proofs.Common.{append-nil, append_assoc}
use Rattle.std.specs.Prelude.{ℤ, All}
use Rattle.std.proofs.lemmas.List.{take_more}
use Rattle.std.proofs.lemmas.List.Elements.{All-append}
use Rattle.{delaunay_core.specs.Point2, delaunay_location.specs.PositionInTriangulation}
use Rattle.delaunay_legalization.specs.State.{State}
use Rattle.delaunay_location.specs.{NoTriangulation, OnEdge, OnFace, OnVertex, OutsideOfConvexHull}
use Rattle.drawing_faces.specs.{AreIn, Holes.AddsFacesAt, Holes.IsIn, Holes.IsInNoFace}

-- a position that is on no edge, in no face and not outside is in no face and beside none
pub in_no_face : (at : PositionInTriangulation) → ((e : ℕ) → at ≡ OnEdge e → ⊥)
    → ((f : ℕ) → at ≡ OnFace f → ⊥) → ((e : ℕ) → at ≡ OutsideOfConvexHull e → ⊥) → IsInNoFace at
in_no_face (OnVertex v) no_edge no_face inside = tt
in_no_face (OnEdge e) no_edge no_face inside = absurd (no_edge e refl)
in_no_face (OnFace f) no_edge no_face inside = absurd (no_face f refl)
in_no_face (OutsideOfConvexHull e) no_edge no_face inside = absurd (inside e refl)
in_no_face NoTriangulation no_edge no_face inside = tt

module _ {D U F : Type 0} (s : State (Point2 ℤ) D U F) (constraints : List ℕ) where
  -- one point more
  pub in_more : (ps : List (Point2 ℤ)) (faces : List ℕ) (p : Point2 ℤ) (here : List ℕ)
      → IsIn s constraints p here → AreIn s constraints ps faces
      → AreIn s constraints (ps ++ p ∷ []) (faces ++ here)
  in_more [] faces p here is_in none =
      (here, is_in, ([], ap (λ fs. fs ++ here) none ∙ sym (append-nil here), refl))
  in_more (q ∷ ps) faces p here is_in (there, first, (rest, all, more)) = (
    there,
    first,
    (
      rest ++ here,
      ap (λ fs. fs ++ here) all ∙ append_assoc there rest here,
      in_more ps rest p here is_in more,
    ),
  )

  module _ (holes : List (Point2 ℤ)) (i : ℕ) (d : Point2 ℤ) (faces faces' : List ℕ)
      (adds : AddsFacesAt s constraints (get_or holes i d) faces faces') where
    -- the next point
    pub in_next : i < length holes → AreIn s constraints (take i holes) faces
        → AreIn s constraints (take (i + 1) holes) faces'
    in_next within are =
        subst (AreIn s constraints (take (i + 1) holes)) (sym adds.faces)
        (subst (λ (ps : List (Point2 ℤ)). AreIn s constraints ps (faces ++ adds.here))
        (sym (take_more holes i d within))
        (in_more (take i holes) faces (get_or holes i d) adds.here adds.is_in are))

    -- all faces are there
    pub all_there : All (λ f. f ≤ length s.faces) faces → All (λ f. f ≤ length s.faces) faces'
    all_there there = subst (All (λ f. f ≤ length s.faces)) (sym adds.faces)
        (All-append (λ f. f ≤ length s.faces) faces adds.here there adds.within)
