-- The faces of a layer above 0, taken off the front of a list.
-- Lemmas: inside_ends, inside_kept, inside_left.
use Rattle.std.proofs.Common.{◌≡◌, ◌≢◌, ◌⊎◌, ◌+◌, ◌<◌, ◌≤◌, [], ◌∷◌, ◌++◌, ◌∙◌}
use Rattle.std.proofs.Common.{ℕ, true, false, eqb, List, length, drop, get_or, inl, inr, refl, sym}
use Rattle.std.proofs.Common.{ap, arith}
use Rattle.std.proofs.Common.{append-nil, append_assoc, length-drop, eq-eqb, if◌then◌else◌}
use Rattle.std.proofs.lemmas.Bool.{ne_eqb}
use Rattle.std.proofs.lemmas.List.{at_drop_more}
use Rattle.drawing_faces.specs.{FaceCorners, faces_inside}

-- where there is no face, or no layer, there is none
none_inside : (ns : List ℕ) (fs : List FaceCorners) → (length fs ≡ 0) ⊎ (length ns ≡ 0)
    → faces_inside ns fs ≡ []
none_inside ns [] h = refl
none_inside [] (f ∷ fs) h = refl
none_inside (n ∷ ns) (f ∷ fs) (inl h) = absurd (omega (arith, h))
none_inside (n ∷ ns) (f ∷ fs) (inr h) = absurd (omega (arith, h))

module _ (ns : List ℕ) (fs : List FaceCorners) (i : ℕ) (kept total : List FaceCorners)
    (so_far : kept ++ faces_inside (drop (i + 1) ns) (drop i fs) ≡ total) where
  -- at the end those so far are all
  pub inside_ends : (length fs ≤ i) ⊎ (length ns ≤ i + 1) → kept ≡ total
  inside_ends h =
      let none = none_inside (drop (i + 1) ns) (drop i fs) (elim h [
        | inl few ↦ inl (omega (arith, few, length-drop i fs))
        | inr few ↦ inr (omega (arith, few, length-drop (i + 1) ns))
      ]) in
      sym (append-nil kept) ∙ ap (λ xs. kept ++ xs) (sym none) ∙ so_far

  module _ (d : FaceCorners) (within : i < length fs) (more : i + 1 < length ns) where
    -- the layer and the face that come next stand in front of the rest
    next : faces_inside (drop (i + 1) ns) (drop i fs)
        ≡ faces_inside (get_or ns (i + 1) 0 ∷ drop (i + 1 + 1) ns) (get_or fs i d ∷ drop (i + 1) fs)
    next = ap (λ xs. faces_inside xs (drop i fs)) (at_drop_more (λ xs. xs) ns (i + 1) 0 more)
        ∙ ap (faces_inside (get_or ns (i + 1) 0 ∷ drop (i + 1 + 1) ns))
        (at_drop_more (λ xs. xs) fs i d within)

    -- a face that is kept
    pub inside_kept : get_or ns (i + 1) 0 ≢ 0
        → (kept ++ get_or fs i d ∷ []) ++ faces_inside (drop (i + 1 + 1) ns) (drop (i + 1) fs)
        ≡ total
    inside_kept some =
        let test : eqb (get_or ns (i + 1) 0) 0 ≡ false = ne_eqb _ _ some in
        append_assoc kept (get_or fs i d ∷ []) _
        ∙ ap (λ b. kept ++ (if b then faces_inside (drop (i + 1 + 1) ns) (drop (i + 1) fs) else
        get_or fs i d ∷ faces_inside (drop (i + 1 + 1) ns) (drop (i + 1) fs))) (sym test)
        ∙ ap (λ xs. kept ++ xs) (sym next) ∙ so_far

    -- and one that is not
    pub inside_left : get_or ns (i + 1) 0 ≡ 0
        → kept ++ faces_inside (drop (i + 1 + 1) ns) (drop (i + 1) fs) ≡ total
    inside_left none =
        let test : eqb (get_or ns (i + 1) 0) 0 ≡ true = eq-eqb _ _ none in
        ap (λ b. kept ++ (if b then faces_inside (drop (i + 1 + 1) ns) (drop (i + 1) fs) else
        get_or fs i d ∷ faces_inside (drop (i + 1 + 1) ns) (drop (i + 1) fs))) (sym test)
        ∙ ap (λ xs. kept ++ xs) (sym next) ∙ so_far
