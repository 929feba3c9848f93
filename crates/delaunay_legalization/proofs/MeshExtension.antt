-- A vertex outside the hull is joined to one outer edge of a mesh after another, by changes of the
-- mesh.
-- Lemmas: ends_below, from_new, to_new, mesh_extension_goes_on, mesh_extension_goes_back,
-- mesh_extension_ends.
use Rattle.std.proofs.Common.{◌≡◌, ◌⊎◌, ◌<◌, [], ◌∷◌, ◌++◌, ◌∙◌}
use Rattle.std.proofs.Common.{ℕ, List, length, refl, sym, ap, subst, arith}
use mathlib.Core.Logic.{inl, inr}
use Rattle.std.specs.Prelude.{pos, ◌+ℤ◌, Contains}
use Rattle.plane.specs.{Face, face as corners, place, Point, TurnsLeft}
use Rattle.half_edge_links.specs.{AddsTriangle, AreSoundLinks, ClosesOuter, face, HasApartEnds}
use Rattle.half_edge_links.specs.{Mesh, next, origin, rev}
use Rattle.half_edge_links.proofs.{rev_within}
use Rattle.plane_theorems.specs.{FacesChange, IsExtending, IsFaceOf, IsSeenRun, last_of, LocalMesh}
use Rattle.plane_theorems.specs.{OuterChange, steps, total}
use Rattle.plane_theorems.proofs.{Contains-cases, Contains-head, Contains-none}
use Rattle.plane_theorems.proofs.Edits.Insertion.Growing.{extension_ends, extension_goes_back}
use Rattle.plane_theorems.proofs.Edits.Insertion.Growing.{extension_goes_on}
use Rattle.delaunay_legalization.specs.{faces_of, outer_of}
use Rattle.delaunay_legalization.proofs.FaceChanges.{turned_faces}
use Rattle.delaunay_legalization.proofs.{MeshEdits.added_faces, OuterEdges.listed, OuterEdges.real}
use Rattle.delaunay_legalization.proofs.OuterChanges.{outer_closed, two_pairs}

-- the ends of outer edges are vertices
pub ends_below : (m : Mesh) (n : ℕ) → AreSoundLinks m → n ≡ length m.out_edges → (i j : ℕ)
    → Contains (outer_of m) (i, j) → (i < n) × (j < n)
ends_below m n s count i j c =
    let r = real m i j c in
    let h = r.0 in
    let first = (s.edges h r.1.within).origin_in in
    let second =
    (s.edges (rev h) (rev_within h (length m.half_edges) s.even r.1.within)).origin_in in
    let p = r.1.source in
    let q = r.1.target in
    (omega arith, omega arith)

-- the same face, from its second corner
face_turned : (old new : List Face) (i j k : ℕ) → FacesChange old new [] (corners i j k ∷ [])
    → FacesChange old new [] (corners j k i ∷ [])
face_turned old new i j k c = record {
  totals = λ f free. c.totals f free ∙ ap (λ z. total f old +ℤ (z +ℤ pos 0)) (free i j k);
  come = λ a b d h. c.come a b d (back a b d h);
}
  where
    one : (x y : Face) → Contains (x ∷ []) y → x ≡ y
    one x y h = elim (Contains-cases x [] y h) as
        (λ _. x ≡ y) [ inl e ↦ e | inr k ↦ absurd (Contains-none y k) ]

    own : (a b d : ℕ) → corners j k i ≡ corners a b d → IsFaceOf (corners i j k ∷ []) a b d
    own a b d e = inr
        (inr (subst (Contains (corners i j k ∷ [])) (λ t. corners (ap (λ (x : Face). x.c) e t) (ap
        (λ (x : Face). x.a) e t) (ap (λ (x : Face). x.b) e t)) (Contains-head (corners i j k) [])))

    back : (a b d : ℕ) → IsFaceOf (corners j k i ∷ []) a b d → IsFaceOf (corners i j k ∷ []) a b d
    back a b d (inl h) = own a b d (one (corners j k i) (corners a b d) h)
    back a b d (inr (inl h)) =
        turned_faces (corners i j k ∷ []) d a b (turned_faces (corners i j k ∷ []) b d a
        (own b d a (one (corners j k i) (corners b d a) h)))
    back a b d (inr (inr h)) =
        turned_faces (corners i j k ∷ []) d a b (own d a b (one (corners j k i) (corners d a b) h))

last_below : (points : List Point) (n len : ℕ) (outer : List (ℕ × ℕ))
    → ((i j : ℕ) → Contains outer (i, j) → (i < len) × (j < len)) → (u v : ℕ) (rest : List ℕ)
    → IsSeenRun points n outer u (v ∷ rest) → last_of v rest < len
last_below points n len outer ends u v [] r = (ends u v r.0).1
last_below points n len outer ends u v (y ∷ ys) r = last_below points n len outer ends v y ys r.2

module _ (points : List Point) (q : Point) (faces : List Face) (outer : List (ℕ × ℕ)) (old : Mesh)
    (u w : ℕ) (x : IsExtending points q faces (faces_of old) outer (outer_of old) u w) where
  start_below : u < length points
  start_below = (x.ends u x.second x.run.0).0

  end_below : w < length points
  end_below = subst (λ k. k < length points) x.last (last_below (points ++ q ∷ []) (length points)
      (length points) outer x.ends u x.second x.rest x.run)

  -- at the new vertex there is one outer edge to it, and one from it
  pub from_new : (i : ℕ) → Contains (outer_of old) (length points, i) → i ≡ w
  from_new i c = go (x.outer_change.only (length points) i c)
    where
      go : (Contains outer (length points, i)
          × (¬ Contains (steps u (x.second ∷ x.rest)) (length points, i))) ⊎ Contains {X = ℕ × ℕ}
          ((u, length points) ∷ (length points, w) ∷ []) (length points, i) → i ≡ w
      go (inl h) = absurd (let k = (x.ends (length points) i h.0).0 in omega arith)
      go (inr h) = elim (two_pairs (length points, i) (u, length points) (length points, w) h) as
          (λ _. i ≡ w) [
            | inl e ↦
                absurd (let k = ap (λ (p : ℕ × ℕ). p.0) e in let l = start_below in omega arith)
            | inr e ↦ sym (ap (λ (p : ℕ × ℕ). p.1) e)
          ]

  -- the one outer edge to the new vertex starts at u
  pub to_new : (i : ℕ) → Contains (outer_of old) (i, length points) → i ≡ u
  to_new i c = go (x.outer_change.only i (length points) c)
    where
      go : (Contains outer (i, length points)
          × (¬ Contains (steps u (x.second ∷ x.rest)) (i, length points))) ⊎ Contains {X = ℕ × ℕ}
          ((u, length points) ∷ (length points, w) ∷ []) (i, length points) → i ≡ u
      go (inl h) = absurd (let k = (x.ends i (length points) h.0).1 in omega arith)
      go (inr h) = elim (two_pairs (i, length points) (u, length points) (length points, w) h) as
          (λ _. i ≡ u) [
            | inl e ↦ sym (ap (λ (p : ℕ × ℕ). p.0) e)
            | inr e ↦ absurd (let k = ap (λ (p : ℕ × ℕ). p.1) e in let l = end_below in omega arith)
          ]

  -- e goes from the new vertex to w, and the outer edge after it sees q: both give way to one from
  -- the new vertex
  pub mesh_extension_goes_on : (new : Mesh) (e n : ℕ) → AreSoundLinks old → HasApartEnds old
      → e < length old.half_edges → face old e ≡ 0 → origin old e ≡ length points
      → TurnsLeft (place (points ++ q ∷ []) (origin old (next old e))) (place (points ++ q ∷ [])
      (origin old (rev (next old e)))) (place (points ++ q ∷ []) (length points)) → AddsTriangle old
      new (origin old e) (origin old (next old e)) (origin old (rev (next old e)))
      → ClosesOuter old new e n → IsExtending points q faces (faces_of new) outer (outer_of new) u
      (origin old (rev (next old e))) × (length (outer_of new) < length (outer_of old))
  mesh_extension_goes_on new e n s apart l o start left change closes =
      extension_goes_on points faces (faces_of old) (faces_of new) outer (outer_of old)
      (outer_of new) q u w far x
      (subst (λ k. Contains (outer_of old) (k, far)) end_is next_listed)
      (subst (λ k. TurnsLeft (place (points ++ q ∷ []) k) (place (points ++ q ∷ []) far)
      (place (points ++ q ∷ []) (length points))) end_is left)
      (face_turned (faces_of old) (faces_of new) (length points) w far (subst
      (λ (k : ℕ × ℕ). FacesChange (faces_of old) (faces_of new) [] (corners k.0 k.1 far ∷ []))
      both_are (added_faces old new (origin old e) (origin old (next old e)) far change)))
      (subst (λ (k : ℕ × ℕ). OuterChange (outer_of old) (outer_of new)
      ((k.0, k.1) ∷ (k.1, far) ∷ []) ((k.0, far) ∷ [])) both_are
      (outer_closed old new e n s x.outer_change.once l o fresh closes))
    where
      far : ℕ
      far = origin old (rev (next old e))

      next_listed : Contains (outer_of old) (origin old (next old e), far)
      next_listed = listed old (next old e) (origin old (next old e)) far (record {
        within = (s.edges e l).next_in;
        outer = (s.edges e l).same_face ∙ o;
        source = refl;
        target = refl;
      })

      own_listed : Contains (outer_of old) (length points, origin old (next old e))
      own_listed = listed old e (length points) (origin old (next old e))
          (record { within = l; outer = o; source = start; target = sym (s.edges e l).starts })

      end_is : origin old (next old e) ≡ w
      end_is = from_new (origin old (next old e)) own_listed

      both_are : ◌≡◌ {A = ℕ × ℕ} (origin old e, origin old (next old e)) (length points, w)
      both_are = λ i. (start i, end_is i)

      fresh : ¬ Contains (outer_of old) (origin old e, far)
      fresh c = apart (next old e) (s.edges e l).next_in
          (end_is ∙ sym (from_new far (subst (λ k. Contains (outer_of old) (k, far)) start c)))

  -- the edge after e goes from u to the new vertex, and e sees q: both give way to one to the new
  -- vertex
  pub mesh_extension_goes_back : (new : Mesh) (e n : ℕ) → AreSoundLinks old → HasApartEnds old
      → e < length old.half_edges → face old e ≡ 0 → origin old (rev (next old e)) ≡ length points
      → TurnsLeft (place (points ++ q ∷ []) (origin old e))
      (place (points ++ q ∷ []) (origin old (next old e)))
      (place (points ++ q ∷ []) (length points)) → AddsTriangle old new (origin old e)
      (origin old (next old e)) (origin old (rev (next old e))) → ClosesOuter old new e n
      → IsExtending points q faces (faces_of new) outer (outer_of new) (origin old e) w
      × (length (outer_of new) < length (outer_of old))
  mesh_extension_goes_back new e n s apart l o finish left change closes =
      extension_goes_back points faces (faces_of old) (faces_of new) outer (outer_of old)
      (outer_of new) q start u w x
      (subst (λ k. Contains (outer_of old) (start, k)) begin_is own_listed)
      (subst (λ k. TurnsLeft (place (points ++ q ∷ []) start) (place (points ++ q ∷ []) k)
      (place (points ++ q ∷ []) (length points))) begin_is left)
      (subst (λ (k : ℕ × ℕ). FacesChange (faces_of old) (faces_of new) []
      (corners start k.0 k.1 ∷ [])) both_are (added_faces old new start
      (origin old (next old e)) (origin old (rev (next old e))) change))
      (subst (λ (k : ℕ × ℕ). OuterChange (outer_of old) (outer_of new)
      ((start, k.0) ∷ (k.0, k.1) ∷ []) ((start, k.1) ∷ [])) both_are
      (outer_closed old new e n s x.outer_change.once l o fresh closes))
    where
      start : ℕ
      start = origin old e

      own_listed : Contains (outer_of old) (start, origin old (next old e))
      own_listed = listed old e start (origin old (next old e))
          (record { within = l; outer = o; source = refl; target = sym (s.edges e l).starts })

      next_listed : Contains (outer_of old) (origin old (next old e), length points)
      next_listed = listed old (next old e) (origin old (next old e)) (length points) (record {
        within = (s.edges e l).next_in;
        outer = (s.edges e l).same_face ∙ o;
        source = refl;
        target = finish;
      })

      begin_is : origin old (next old e) ≡ u
      begin_is = to_new (origin old (next old e)) next_listed

      both_are : ◌≡◌ {A = ℕ × ℕ} (origin old (next old e), origin old (rev (next old e)))
          (u, length points)
      both_are = λ i. (begin_is i, finish i)

      fresh : ¬ Contains (outer_of old) (start, origin old (rev (next old e)))
      fresh c = apart e l (to_new start (subst (λ k. Contains (outer_of old) (start, k)) finish c)
          ∙ sym begin_is ∙ (s.edges e l).starts)

-- neither the outer edge t to u nor the one from w to y sees q: no outer edge does
pub mesh_extension_ends : (points : List Point) (q : Point) (faces : List Face)
    (outer : List (ℕ × ℕ)) (m : Mesh) (t u w y : ℕ) → LocalMesh points faces outer
    → IsExtending points q faces (faces_of m) outer (outer_of m) u w → Contains (outer_of m) (t, u)
    → Contains (outer_of m) (w, y) → ¬ TurnsLeft (place (points ++ q ∷ []) t)
    (place (points ++ q ∷ []) u) (place (points ++ q ∷ []) (length points))
    → ¬ TurnsLeft (place (points ++ q ∷ []) w) (place (points ++ q ∷ []) y)
    (place (points ++ q ∷ []) (length points))
    → LocalMesh (points ++ q ∷ []) (faces_of m) (outer_of m)
mesh_extension_ends points q faces outer m t u w y local x before after back ahead = extension_ends
    points faces (faces_of m) outer (outer_of m) q t u w y local x before after back ahead
