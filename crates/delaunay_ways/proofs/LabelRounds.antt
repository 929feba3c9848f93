-- Labels for the vertices that sides of free faces join to a vertex, edge by edge.
-- Notions: HasLabel; label_given, round_labels, labels_ended, face_within, first_corner, free_place,
-- corner_joins.
use Rattle.std.proofs.Common.{◌≡◌, ◌+◌, ◌-◌, ◌<◌, ◌≤◌, ◌∷◌, [], ◌∙◌, ℕ, Bool, List, length, map}
use Rattle.std.proofs.Common.{ap, sym, subst, arith, inl, IsTrue}
use Rattle.std.specs.Prelude.{Option, Some}
use Rattle.std.specs.Borrow.{Bor}
use Rattle.std.proofs.lemmas.List.{length-map}
use Rattle.plane.specs.{Face, Point, Triangulation, vertex}
use Rattle.half_edge_links.specs.{face_edge, Mesh, origin, rev}
use Rattle.plane_theorems.specs.{face_at, Ways.Chains.IsJoined, Ways.Links.IsLinked}
use Rattle.delaunay_legalization.specs.{drawn, IsTriangulated, state_of}
use Rattle.{delaunay_legalization.proofs.IsGoingRound, delaunay_ways.proofs.Surrounding.hull_of}
use Rattle.delaunay_legalization.proofs.Rounds.{round_ends, round_goes_on, seen_as}
use Rattle.{delaunay_shapes.specs.by_place, half_edge_dcel.specs.Contents}
use Rattle.delaunay_ways.specs.{GivesLabel, IsFlood, KeepsLabels, label_at}
use Rattle.delaunay_ways.proofs.Flooding.{flood_gives, flood_passes, Gave}
use Rattle.delaunay_ways.proofs.FreeSides.{corners_named, end_exists, face_count, IsSide}
use Rattle.delaunay_ways.proofs.FreeSides.{link_has_side, side_is_link}
use Rattle.delaunay_ways.proofs.Joins.{corner_in, face_sees, sight_joins}

-- the end of directed edge h has this label, if it is a side of a free face
abbrev pub HasLabel : Mesh → (ℕ → Bool) → List (Option ℕ) → ℕ → ℕ → Type 0
HasLabel m free labels l h = IsSide m free h → label_at labels (origin m (rev h)) ≡ Some l

module _ {V D U F : Type 0} (at : V → Point) (c : Contents V D U F)
    (whole : IsTriangulated at (state_of c)) (free : ℕ → Bool) (v l : ℕ) where
  abbrev m : Mesh
  m = c.mesh

  abbrev t : Triangulation
  t = drawn (map at c.vertices) m

  -- the end of a side of a free face has a label, or gets it
  pub label_given : (labels labels' : List (Option ℕ)) (left left' : List ℕ) (h w : ℕ)
      → h < length m.half_edges → origin m h ≡ v → IsSide m free h → w ≡ origin m (rev h)
      → IsFlood t (by_place free) labels (v ∷ left) (l + 1) → label_at labels v ≡ Some l
      → GivesLabel labels left w l labels' left'
      → Gave t (by_place free) labels left labels' left' v w l
  label_given labels labels' left left' h w within starts side is f here gives =
      flood_gives t (by_place free) (hull_of at c whole) labels labels' left left' v w l f here
      linked exists gives
    where
      exists : w < length labels
      exists =
          let e = end_exists (map at c.vertices) m whole.valid free h within in
          let n = length-map c.vertices at in
          let k = whole.fits.vertices_fit in
          let count = f.count in
          omega (arith, e, n, k, count, is)

      linked : IsLinked t (by_place free) v w
      linked = subst (λ i. IsLinked t (by_place free) i w) starts
          (subst (IsLinked t (by_place free) (origin m h)) (sym is)
          (side_is_link (map at c.vertices) m whole.valid free h within side))

  module _ (labels labels' : List (Option ℕ)) (kept : KeepsLabels labels labels')
      (y : Bor (Contents V D U F) × ℕ) (given left : List (Bor (Contents V D U F) × ℕ))
      (e : given ≡ y ∷ left) (r : IsGoingRound c v (HasLabel m free labels l) given) where
    -- so this edge is done
    pub round_labels : (IsSide m free y.1 → label_at labels' (origin m (rev y.1)) ≡ Some l)
        → IsGoingRound c v (HasLabel m free labels' l) left
    round_labels is = round_goes_on c v (HasLabel m free labels' l) given
        (seen_as c v (HasLabel m free labels l) given r (HasLabel m free labels' l)
        (λ h seen side. kept (origin m (rev h)) l (seen side))) y left e is

  -- with all edges done, all vertices that are linked with this one have its label
  pub labels_ended : (labels : List (Option ℕ)) (todo : List ℕ)
      (given : List (Bor (Contents V D U F) × ℕ)) (n : ℕ)
      → IsFlood t (by_place free) labels (v ∷ todo) n → label_at labels v ≡ Some l
      → IsGoingRound c v (HasLabel m free labels l) given → given ≡ []
      → IsFlood t (by_place free) labels todo n
  labels_ended labels todo given n f here r none =
      flood_passes t (by_place free) labels todo v l n f here (λ w link.
      let h = link_has_side (map at c.vertices) m whole.valid free v w link in
      sym (ap (label_at labels) h.3)
      ∙ round_ends c v (HasLabel m free labels l) given r none h.0 h.1 h.2 h.4)

module _ {V D U F : Type 0} (at : V → Point) (c : Contents V D U F)
    (whole : IsTriangulated at (state_of c)) (free : ℕ → Bool) where
  abbrev drawing : Triangulation
  drawing = drawn (map at c.vertices) c.mesh

  -- an inner face is one of the list
  pub face_within : (f : ℕ) → 0 < f → f ≤ length c.faces → f - 1 < length drawing.faces
  face_within f inner within =
      let count = face_count (map at c.vertices) c.mesh whole.valid free in
      let fit = whole.fits.faces_fit in
      omega (arith, inner, within, count, fit)

  -- its first corner is where the edge that it names starts
  pub first_corner : (f : ℕ) → 0 < f → f ≤ length c.faces
      → origin c.mesh (face_edge c.mesh f) ≡ (face_at drawing (f - 1)).a
  first_corner f inner within =
      let fit = whole.fits.faces_fit in
      sym (ap (λ (x : Face). x.a) (corners_named (map at c.vertices) c.mesh whole.valid free (f - 1)
      (omega (arith, inner, within, fit))))

  pub free_place : (f : ℕ) → 0 < f → IsTrue (free f) → IsTrue (by_place free (f - 1))
  free_place f inner is = subst (λ k. IsTrue (free k)) (back f inner) is
    where
      back : (f : ℕ) → 0 < f → f ≡ f - 1 + 1
      back f inner = omega (arith, inner)

  -- it sees itself from there
  pub corner_joins : (f v : ℕ) → 0 < f → f ≤ length c.faces → IsTrue (free f)
      → v ≡ origin c.mesh (face_edge c.mesh f)
      → IsJoined drawing (by_place free) (vertex drawing v) (vertex drawing v)
  corner_joins f v inner within is e =
      let w = face_within f inner within in
      let place = corner_in drawing (hull_of at c whole) (by_place free) (f - 1) w
      (free_place f inner is) v (inl (e ∙ first_corner f inner within)) in
      sight_joins drawing (by_place free) (vertex drawing v) (vertex drawing v)
      (face_sees drawing (hull_of at c whole) (by_place free) (f - 1) (vertex drawing v)
      (vertex drawing v) place place)
