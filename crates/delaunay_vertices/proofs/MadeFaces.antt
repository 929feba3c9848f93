-- A new vertex is a corner of each face that is made for it, so that no other edge is left to test.
-- The side opposite it was a side of a face before, or an outer edge.
-- Lemmas: made_inside, made_within_side, made_within_outer, made_at_count, made_none, made_first,
-- made_outside.
use Rattle.std.proofs.Common.{◌≡◌, ◌⊎◌, ◌<◌, ◌≤◌, [], ◌∷◌}
use Rattle.std.proofs.Common.{ℕ, List, length, map, refl, sym, ap, subst, inl, inr, arith}
use Rattle.std.specs.Prelude.{Contains}
use Rattle.half_edge_links.specs.{face_edge, HalfSplitsTriangles, InsertsTriangles, IsFlippable}
use Rattle.half_edge_links.specs.{IsInnerEdge, IsValidMesh, Mesh, SplitsTriangles, triangles}
use Rattle.plane_theorems.specs.{FacesChange, fan, IsExtending, IsFaceOf, IsMesh, IsSeenRun}
use Rattle.plane_theorems.proofs.{Contains-cases, Contains-none, face_from, none_in_empty}
use Rattle.plane_theorems.proofs.{turn_of_all}
use Rattle.delaunay_legalization.specs.{corners_of, faces_of, MakesFacesAt, outer_of}
use Rattle.{delaunay_legalization.specs.Star.IsOneOf, half_edge_links.specs.with_vertex}
use Rattle.delaunay_legalization.proofs.{face_before, MeshEdits.split_faces, turned_faces}
use Rattle.delaunay_legalization.proofs.MeshEdits.{face_behind, half_split_faces, inserted_faces}
use Rattle.{delaunay_legalization.proofs.Stars.face_corners, plane.specs.Face, plane.specs.Point}

-- ---- faces with one corner in common
-- j k was a side of a face, or an outer edge
abbrev WasSide : List Face → List (ℕ × ℕ) → ℕ → ℕ → Type 0
WasSide old outer j k = ((o : ℕ) × IsFaceOf old j k o) ⊎ Contains outer (j, k)

-- v is a corner of i j k, and the side opposite each corner that it is was one
record HadSides (old : List Face) (outer : List (ℕ × ℕ)) (v i j k : ℕ) : Type 0 where
  pub corner : IsOneOf v i j k
  pub at_first : i ≡ v → WasSide old outer j k
  pub at_second : j ≡ v → WasSide old outer k i
  pub at_third : k ≡ v → WasSide old outer i j

module _ (old : List Face) (outer : List (ℕ × ℕ)) (v : ℕ) where
  turned_at : (i j k : ℕ) → HadSides old outer v i j k → HadSides old outer v j k i
  turned_at i j k x = record {
    corner = turned x.corner;
    at_first = x.at_second;
    at_second = x.at_third;
    at_third = x.at_first;
  }
    where
      turned : IsOneOf v i j k → IsOneOf v j k i
      turned (inl e) = inr (inr e)
      turned (inr (inl e)) = inl e
      turned (inr (inr e)) = inr (inl e)

  -- a face whose last corner is v, and no other
  last_at : (i j : ℕ) → i < v → j < v → WasSide old outer i j → HadSides old outer v i j v
  last_at i j a b s = record {
    corner = inr (inr refl);
    at_first = λ e. absurd (omega (arith, a, e));
    at_second = λ e. absurd (omega (arith, b, e));
    at_third = λ e. s;
  }

  second_at : (i j : ℕ) → i < v → j < v → WasSide old outer i j → HadSides old outer v j v i
  second_at i j a b s = turned_at i j v (last_at i j a b s)

  first_at : (i j : ℕ) → i < v → j < v → WasSide old outer i j → HadSides old outer v v i j
  first_at i j a b s = turned_at j v i (second_at i j a b s)

  abbrev AreFacesAt : List Face → Type 0
  AreFacesAt [] = Unit {0}
  AreFacesAt (f ∷ fs) = HadSides old outer v f.a f.b f.c × AreFacesAt fs

  each_at : (fs : List Face) → AreFacesAt fs → (f : Face) → Contains fs f
      → HadSides old outer v f.a f.b f.c
  each_at [] a f c = absurd (Contains-none f c)
  each_at (g ∷ gs) a f c = go (Contains-cases g gs f c) (each_at gs a.1 f)
    where
      go : (g ≡ f) ⊎ Contains gs f → (Contains gs f → HadSides old outer v f.a f.b f.c) →
          HadSides old outer v f.a f.b f.c
      go (inl e) r = subst (λ (h : Face). HadSides old outer v h.a h.b h.c) e a.0
      go (inr k) r = r k

  made_by : (new gone made : List Face) → FacesChange old new gone made → AreFacesAt made
      → MakesFacesAt v old outer new
  made_by new gone made change all = record {
    each = λ i j k f. elim (face_from old new gone made change i j k f) [
      | inl x ↦ inl x
      | inr x ↦ inr (of_made i j k x).corner
    ];
    sides = λ j k f. elim (face_from old new gone made change v j k f) [
      | inl x ↦ inl (v, turned_faces old v j k x)
      | inr x ↦ (of_made v j k x).at_first refl
    ];
  }
    where
      of_made : (i j k : ℕ) → IsFaceOf made i j k → HadSides old outer v i j k
      of_made = turn_of_all made (HadSides old outer v) turned_at (each_at made all)

  -- the faces on a run of outer edges
  fan_at : (points : List Point) (n u : ℕ) (vs : List ℕ)
      → ((i j : ℕ) → Contains outer (i, j) → (i < v) × (j < v)) → IsSeenRun points n outer u vs
      → AreFacesAt (fan v u vs)
  fan_at points n u [] ends run = tt
  fan_at points n u (w ∷ ws) ends run =
      let b = ends u w run.0 in
      (last_at u w b.0 b.1 (inr run.0), fan_at points n w ws ends run.2)

-- ---- each case
module _ (points : List Point) (m new : Mesh) (v : ℕ) (w : IsValidMesh m)
    (shape : IsMesh points (faces_of m) (outer_of m))
    (last : v ≡ length points) where
  -- the corners of a face come before v
  before : (i j k : ℕ) → IsFaceOf (faces_of m) i j k → (i < v) × (j < v) × (k < v)
  before i j k f = subst (λ (n : ℕ). (i < n) × (j < n) × (k < n)) (sym last)
      (face_corners points (faces_of m) (outer_of m) shape i j k f)

  -- a face of the mesh has each of its sides, and these end before v
  module _ (i j k : ℕ) (f : IsFaceOf (faces_of m) i j k) where
    first_side : WasSide (faces_of m) (outer_of m) i j
    first_side = inl (k, f)

    second_side : WasSide (faces_of m) (outer_of m) j k
    second_side = inl (i, turned_faces (faces_of m) i j k f)

    third_side : WasSide (faces_of m) (outer_of m) k i
    third_side = inl (j, turned_faces (faces_of m) j k i (turned_faces (faces_of m) i j k f))

  -- where v is put inside a face, each new face has the corner v
  pub made_inside : (f : ℕ) → 0 < f → f ≤ length m.face_edges
      → InsertsTriangles m new v (face_edge m f)
      → MakesFacesAt v (faces_of m) (outer_of m) (faces_of new)
  made_inside f positive within change =
      let h = w.sound.faces f positive within in
      let x : IsInnerEdge m (face_edge m f) = (h.0, subst (λ k. 0 < k) (sym h.1) positive) in
      let e = face_edge m f in
      let g = face_before m e w.sound x in
      let b = before _ _ _ g in
      made_by (faces_of m) (outer_of m) v (faces_of new) _ _
      (inserted_faces m new v e w.sound x change) (
        last_at _ _ v _ _ b.0 b.1 (first_side _ _ _ g),
        (
          last_at _ _ v _ _ b.1 b.2 (second_side _ _ _ g),
          (last_at _ _ v _ _ b.2 b.0 (third_side _ _ _ g), tt),
        ),
      )

  -- so it has where v splits an edge between two inner faces
  pub made_within_side : (e : ℕ) → IsFlippable m e → SplitsTriangles m new v e →
      MakesFacesAt v (faces_of m) (outer_of m) (faces_of new)
  made_within_side e x change =
      let g = face_before m e w.sound (x.within, x.inner) in
      let h = face_behind m e w.sound x in
      let b = before _ _ _ g in
      let c = before _ _ _ h in
      made_by (faces_of m) (outer_of m) v (faces_of new) _ _
      (split_faces m new v e w.sound x change) (
        first_at _ _ v _ _ c.2 c.0 (third_side _ _ _ h),
        (
          second_at _ _ v _ _ c.1 c.2 (second_side _ _ _ h),
          (
            last_at _ _ v _ _ b.1 b.2 (second_side _ _ _ g),
            (last_at _ _ v _ _ b.2 b.0 (third_side _ _ _ g), tt),
          ),
        ),
      )

  -- and where v splits an edge between an inner face and the outer one
  pub made_within_outer : (e : ℕ) → IsInnerEdge m e → HalfSplitsTriangles m new v e →
      MakesFacesAt v (faces_of m) (outer_of m) (faces_of new)
  made_within_outer e x change =
      let g = face_before m e w.sound x in
      let b = before _ _ _ g in
      made_by (faces_of m) (outer_of m) v (faces_of new) _ _
      (half_split_faces m new v e w.sound x change) (
        second_at _ _ v _ _ b.2 b.0 (third_side _ _ _ g),
        (first_at _ _ v _ _ b.1 b.2 (second_side _ _ _ g), tt),
      )

-- the new vertex comes last
pub made_at_count : (old new : List Face) (outer : List (ℕ × ℕ)) (v n : ℕ) → v ≡ n
    → MakesFacesAt v old outer new → MakesFacesAt n old outer new
made_at_count old new outer v n is made = subst (λ (k : ℕ). MakesFacesAt k old outer new) is made

-- on a line there is none
pub made_none : (m new : Mesh) (v : ℕ) → triangles new ≡ []
    → MakesFacesAt v (faces_of m) (outer_of m) (faces_of new)
made_none m new v none =
    record { each = λ i j k f. absurd (gone i j k f); sides = λ j k f. absurd (gone v j k f) }
  where
    gone : (i j k : ℕ) → ¬ IsFaceOf (faces_of new) i j k
    gone i j k f =
        none_in_empty i j k (subst (λ fs. IsFaceOf fs i j k) (ap (map corners_of) none) f)

-- a vertex that is added without edges makes no faces
pub made_first : (m new : Mesh) (v : ℕ) → new ≡ with_vertex m
    → MakesFacesAt v (faces_of m) (outer_of m) (faces_of new)
made_first m new v is =
    subst (λ (x : Mesh). MakesFacesAt v (faces_of m) (outer_of m) (faces_of x)) (sym is)
    (record
    { each = λ i j k f. inl f; sides = λ j k f. inl (v, turned_faces (faces_of m) v j k f) })

-- outside
pub made_outside : (points : List Point) (q : Point) (faces new : List Face)
    (outer now : List (ℕ × ℕ)) (u w v : ℕ) → v ≡ length points
    → IsExtending points q faces new outer now u w → MakesFacesAt v faces outer new
made_outside points q faces new outer now u w v is x =
    let n = length points in
    made_at_count faces new outer n v (sym is)
    (made_by faces outer n new [] (fan n u (x.second ∷ x.rest))
    x.faces_change
    (fan_at faces outer n _ n u (x.second ∷ x.rest) x.ends x.run))
