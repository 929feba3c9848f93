-- A change of faces, from permutations of faces with their data; changes of faces one after the
-- other.
-- Lemmas: faces_lost, hole_filled, change_as, both_changes.
use Rattle.std.proofs.Common.{◌≡◌, ◌⊎◌, [], ◌∷◌, ◌++◌, ◌∙◌}
use Rattle.std.proofs.Common.{ℕ, List, map, refl, sym, ap, subst, arith}
use mathlib.Core.Logic.{inl, inr, ◌≢◌}
use Rattle.std.specs.Prelude.{ℤ, pos, ◌+ℤ◌, Contains}
use Rattle.std.specs.List.{AllZip}
use Rattle.std.proofs.lemmas.Int.{ints}
use Rattle.std.proofs.lemmas.List.Sorted.{Contains-permutation, IsPermutation-sym}
use Rattle.plane.specs.{Face, face as corners}
use Rattle.{half_edge_links.specs.Triangle, plane_theorems.proofs.Edits.LocalMesh.Changes.face_kept}
use Rattle.plane_theorems.specs.{FacesChange, IsFaceOf, IsTurnFree, total}
use Rattle.plane_theorems.proofs.{Contains-cases, Contains-head, Contains-none, turn_of_all}
use Rattle.half_edge_dcel.specs.{Contents, faces_between, FillsHole, full_faces, FullFace}
use Rattle.half_edge_dcel.specs.{HasCorners, IsMeshWithData, LosesFaces}
use Rattle.half_edge_dcel.proofs.OuterSums.{total-append, total-permutation}
use Rattle.delaunay_legalization.specs.{corners_of, faces_of}
use Rattle.delaunay_legalization.proofs.FaceChanges.{come_of, contains_map, face_listed}
use Rattle.delaunay_legalization.proofs.{FaceChanges.turned_faces, OwnEdges.total-read}
use Rattle.delaunay_legalization.proofs.MeshDrops.{mapped_twice, whole_faces}
use Rattle.half_edge_links.specs.Flow as Sums

none_made : (new : List Face) (i j k : ℕ) → IsFaceOf [] i j k → IsFaceOf new i j k
none_made new i j k (inl c) = absurd (Contains-none (corners i j k) c)
none_made new i j k (inr (inl c)) = absurd (Contains-none (corners j k i) c)
none_made new i j k (inr (inr c)) = absurd (Contains-none (corners k i j) c)

-- ---- faces with their data
any_turn : {F : Type 0} (g : Face → ℤ) → IsTurnFree g → (x : FullFace F) (t : Triangle)
    → HasCorners x t → g (corners_of x.corners) ≡ g (corners_of t)
any_turn g free x t (inl e) = ap (λ y. g (corners_of y)) e
any_turn g free x t (inr (inl e)) =
    ap (λ y. g (corners_of y)) e ∙ sym (free t.first t.second t.third)
any_turn g free x t (inr (inr e)) = ap (λ y. g (corners_of y)) e ∙ free t.third t.first t.second

lost_total : {F : Type 0} (g : Face → ℤ) → IsTurnFree g
    → (xs : List (FullFace F)) (ts : List Triangle) → AllZip HasCorners xs ts
    → Sums.total (λ (x : FullFace F). g (corners_of x.corners)) xs ≡ total g (map corners_of ts)
lost_total g free [] [] z = refl
lost_total g free [] (t ∷ ts) z = absurd z
lost_total g free (x ∷ xs) [] z = absurd z
lost_total g free (x ∷ xs) (t ∷ ts) z =
    λ i. any_turn g free x t z.0 i +ℤ lost_total g free xs ts z.1 i

module _ {V D U F : Type 0} where
  total_whole : (g : Face → ℤ) (c : Contents V D U F) → IsMeshWithData c → total g (faces_of c.mesh)
      ≡ Sums.total (λ (x : FullFace F). g (corners_of x.corners)) (full_faces c)
  total_whole g c w =
      ap (λ (ts : List Triangle). total g (map corners_of ts)) (sym (whole_faces c w))
      ∙ ap (total g) (mapped_twice (λ (x : FullFace F). x.corners) corners_of
      (λ (x : FullFace F). corners_of x.corners) (full_faces c) (λ x. refl))
      ∙ total-read g (λ (x : FullFace F). corners_of x.corners) (full_faces c)

  -- a face with data, among those of the mesh
  full_listed : (c : Contents V D U F) → IsMeshWithData c → (x : FullFace F)
      → Contains (full_faces c) x → Contains (faces_of c.mesh) (corners_of x.corners)
  full_listed c w x h =
      face_listed c.mesh x.corners (subst (λ (ts : List Triangle). Contains ts x.corners)
      (whole_faces c w) (contains_map (λ (y : FullFace F). y.corners) (full_faces c) x h))

  -- some faces go
  pub faces_lost : (old new : Contents V D U F) (gone : List Triangle) → IsMeshWithData old
      → IsMeshWithData new → LosesFaces old new gone
      → FacesChange (faces_of old.mesh) (faces_of new.mesh) (map corners_of gone) []
  faces_lost old new gone before after (lost, are, perm) = record {
    totals = λ g free. left (total g (faces_of new.mesh)) (total g (faces_of old.mesh))
        (total g (map corners_of gone))
        (Sums.total (λ (x : FullFace F). g (corners_of x.corners)) (full_faces new))
        (Sums.total (λ (x : FullFace F). g (corners_of x.corners)) (full_faces old))
        (Sums.total (λ (x : FullFace F). g (corners_of x.corners)) lost)
        (total_whole g new after) (total_whole g old before) (lost_total g free lost gone are)
        (sym (total-append (λ (x : FullFace F). g (corners_of x.corners)) lost (full_faces new))
        ∙ total-permutation (λ (x : FullFace F). g (corners_of x.corners)) (full_faces old)
        (lost ++ full_faces new) perm);
    come = none_made (faces_of new.mesh);
  }
    where
      left : (n o g fn fo fl : ℤ) → n ≡ fn → o ≡ fo → fl ≡ g → fl +ℤ fn ≡ fo → n +ℤ g ≡ o +ℤ pos 0
      left n o g fn fo fl a b c d = omega (arith, ints)

  -- three faces give way to one
  pub hole_filled : (old new : Contents V D U F) (v : ℕ) (n : ℕ → ℕ) → IsMeshWithData old
      → IsMeshWithData new → FillsHole old new v n → FacesChange (faces_of old.mesh)
      (faces_of new.mesh) (map corners_of (faces_between v n 3)) (corners (n 0) (n 1) (n 2) ∷ [])
  hole_filled old new v n before after h = record {
    totals = λ g free. left (total g (faces_of new.mesh)) (total g (faces_of old.mesh))
        (total g (map corners_of (faces_between v n 3)))
        (Sums.total (λ (x : FullFace F). g (corners_of x.corners)) (full_faces new))
        (Sums.total (λ (x : FullFace F). g (corners_of x.corners)) (full_faces old))
        (Sums.total (λ (x : FullFace F). g (corners_of x.corners)) h.lost)
        (g (corners_of h.made.corners)) (Sums.total (λ (x : FullFace F). g (corners_of x.corners))
        h.rest) (g (corners (n 0) (n 1) (n 2)))
        (total_whole g new after) (total_whole g old before)
        (lost_total g free h.lost (faces_between v n 3) h.lost_are)
        (sym (total-append (λ (x : FullFace F). g (corners_of x.corners)) h.lost h.rest)
        ∙ total-permutation (λ (x : FullFace F). g (corners_of x.corners)) (full_faces old)
        (h.lost ++ h.rest) h.was)
        (total-permutation (λ (x : FullFace F). g (corners_of x.corners)) (full_faces new)
        (h.made ∷ h.rest) h.is)
        (any_turn g free h.made (record { first = n 0; second = n 1; third = n 2 }) h.made_is);
    come = come_of (faces_of new.mesh) (corners (n 0) (n 1) (n 2) ∷ []) (there h.made_is, tt);
  }
    where
      left : (n o g fn fo fl m r z : ℤ) → n ≡ fn → o ≡ fo → fl ≡ g → fl +ℤ r ≡ fo → m +ℤ r ≡ fn
          → m ≡ z → n +ℤ g ≡ o +ℤ (z +ℤ pos 0)
      left n o g fn fo fl m r z a b c d e f = omega (arith, ints)

      made_listed : Contains (faces_of new.mesh) (corners_of h.made.corners)
      made_listed = full_listed new after h.made
          (Contains-permutation (h.made ∷ h.rest) (full_faces new) h.made
          (IsPermutation-sym (full_faces new) (h.made ∷ h.rest) h.is) (Contains-head h.made h.rest))

      there : HasCorners h.made (record { first = n 0; second = n 1; third = n 2 })
          → IsFaceOf (faces_of new.mesh) (n 0) (n 1) (n 2)
      there (inl e) = inl (subst (Contains (faces_of new.mesh)) (ap corners_of e) made_listed)
      there (inr (inl e)) =
          inr (inl (subst (Contains (faces_of new.mesh)) (ap corners_of e) made_listed))
      there (inr (inr e)) =
          inr (inr (subst (Contains (faces_of new.mesh)) (ap corners_of e) made_listed))

-- ---- the same change, its lists written otherwise
-- a change of faces is the same with lists of gone and made faces that have the same sums
pub change_as : (old new gone made gone' made' : List Face) → FacesChange old new gone made
    → ((f : Face → ℤ) → IsTurnFree f → total f gone ≡ total f gone')
    → ((f : Face → ℤ) → IsTurnFree f → total f made ≡ total f made')
    → ((i j k : ℕ) → IsFaceOf made' i j k → IsFaceOf made i j k) → FacesChange old new gone' made'
change_as old new gone made gone' made' c same_gone same_made back = record {
  totals = λ f free. (λ i. total f new +ℤ sym (same_gone f free) i) ∙ c.totals f free
      ∙ (λ i. total f old +ℤ same_made f free i);
  come = λ i j k h. c.come i j k (back i j k h);
}

-- ---- two changes at a vertex v: the first makes of the faces v a b and v b c the faces v a c and
-- a b c, the second takes v a c away again
module _ (one two three : List Face) (v a b c : ℕ) (more : List Face) (made : List Face)
    (va : a ≢ v) (vb : b ≢ v) (vc : c ≢ v) (first :
    FacesChange one two (corners v a b ∷ corners v b c ∷ []) (corners v a c ∷ corners a b c ∷ []))
    (second : FacesChange two three (corners v a c ∷ more) made)
    (at_v : (f : Face) → Contains more f → (f.a ≡ v) ⊎ ((f.b ≡ v) ⊎ (f.c ≡ v))) where
  -- v is one of the three
  abbrev AtV : ℕ → ℕ → ℕ → Type 0
  AtV i j k = (i ≡ v) ⊎ ((j ≡ v) ⊎ (k ≡ v))

  turned_at_v : (i j k : ℕ) → AtV i j k → AtV j k i
  turned_at_v i j k (inl e) = inr (inr e)
  turned_at_v i j k (inr (inl e)) = inl e
  turned_at_v i j k (inr (inr e)) = inr (inl e)

  gone_at_v : (i j k : ℕ) → IsFaceOf (corners v a c ∷ more) i j k → AtV i j k
  gone_at_v i j k h = turn_of_all (corners v a c ∷ more) AtV turned_at_v
      (λ f h. here f (Contains-cases (corners v a c) more f h)) i j k h
    where
      here : (f : Face) → (corners v a c ≡ f) ⊎ Contains more f
          → (f.a ≡ v) ⊎ ((f.b ≡ v) ⊎ (f.c ≡ v))
      here f (inl e) = inl (sym (ap (λ (x : Face). x.a) e))
      here f (inr h) = at_v f h

  -- the face a b c stays
  far_stays : IsFaceOf three a b c
  far_stays = elim (face_kept two three (corners v a c ∷ more) made second a b c
      (first.come a b c (inl (1, omega arith, refl)))) [
        | inl h ↦ h
        | inr h ↦ absurd (elim (gone_at_v a b c h) as
            (λ _. ⊥) [ inl e ↦ va e | inr e ↦ elim e as (λ _. ⊥) [ inl e ↦ vb e | inr e ↦ vc e ] ])
      ]

  -- both changes together: of the faces at v, a b c is left, beside what the second makes
  pub both_changes :
      FacesChange one three (corners v a b ∷ corners v b c ∷ more) (corners a b c ∷ made)
  both_changes = record {
    totals = λ f free. joined (total f one) (total f two) (total f three) (f (corners v a b))
        (f (corners v b c)) (f (corners v a c)) (f (corners a b c)) (total f more) (total f made)
        (first.totals f free) (second.totals f free);
    come = λ i j k h. go i j k h;
  }
    where
      joined : (x y z p q r s m w : ℤ) → y +ℤ (p +ℤ (q +ℤ pos 0)) ≡ x +ℤ (r +ℤ (s +ℤ pos 0))
          → z +ℤ (r +ℤ m) ≡ y +ℤ w → z +ℤ (p +ℤ (q +ℤ m)) ≡ x +ℤ (s +ℤ w)
      joined x y z p q r s m w e f = omega (arith, ints)

      listed : (i j k : ℕ) → Contains (corners a b c ∷ made) (corners i j k) → IsFaceOf three i j k
      listed i j k h = elim (Contains-cases (corners a b c) made (corners i j k) h) [
        | inl e ↦ subst (λ (g : Face). IsFaceOf three g.a g.b g.c) e far_stays
        | inr h ↦ second.come i j k (inl h)
      ]

      go : (i j k : ℕ) → IsFaceOf (corners a b c ∷ made) i j k → IsFaceOf three i j k
      go i j k (inl h) = listed i j k h
      go i j k (inr (inl h)) = turned_faces three k i j (turned_faces three j k i (listed j k i h))
      go i j k (inr (inr h)) = turned_faces three k i j (listed k i j h)
