-- An edge of a vertex is turned: what is not at the vertex stays.
-- Lemmas: unwritten, turn_stands, turned_stands.
use Rattle.std.proofs.Common.{◌≡◌, ◌≢◌, ◌⊎◌, ◌-◌, ◌*◌, ◌/◌, ◌<◌, [], ◌∷◌, ◌∙◌}
use Rattle.std.proofs.Common.{ℕ, List, length, map, get_or, set, refl, sym, ap, subst, inl, inr}
use Rattle.std.proofs.Common.{arith}
use Rattle.std.specs.Prelude.{Contains}
use Rattle.std.proofs.lemmas.Bool.{cases_eq}
use Rattle.std.proofs.lemmas.List.{length-map, length-set, get_or-set_same, get_or-set_other}
use Rattle.half_edge_links.specs.{along, AreSoundLinks, Ends, ends, face, flipped, FlipsTriangles}
use Rattle.half_edge_links.specs.{IsFlippable, IsInner, Mesh, neighbour, origin, prev, rev}
use Rattle.half_edge_links.specs.{Triangle, triangle_at, triangles, turn}
use Rattle.half_edge_links.proofs.{count_ends, rev-rev, rev_within, Sound.EndsKept.ends_flipped_is}
use Rattle.half_edge_dcel.specs.{Connects, Contents, full_edges, full_edges_of, full_faces}
use Rattle.half_edge_dcel.specs.{full_faces_of, FullEdge, FullFace, IsMeshWithData, joins}
use Rattle.half_edge_dcel.proofs.TakenEdges.{between, listed_face, named_corners}
use Rattle.half_edge_dcel.proofs.{TakenOut.length-full_edges, Touching.with_other_ends}
use Rattle.half_edge_dcel.proofs.Touching.{full_edges-set, full_faces-set, with_other_corners}
use Rattle.{delaunay_legalization.specs.faces_of, half_edge_dcel.proofs.TwoEdges.item_at}
use Rattle.delaunay_legalization.proofs.{halved, round_at}
use Rattle.delaunay_vertices.specs.{HasValueAt, MayTurnAway, Pairs.MakesFaces, StandsBeside}
use Rattle.delaunay_vertices.proofs.{DataStays.no_corner, DataStays.no_end, Turns.may_turn}
use Rattle.{delaunay_vertices.proofs.FacesAfterRemoval.made_turn, plane.specs.Point}

-- an item that is not written stays
pub unwritten : {X : Type 0} (xs : List X) (i j : ℕ) (x y : X) → j ≢ i → j < length xs
    → get_or xs j y ≡ y → (j < length (set xs i x)) × (get_or (set xs i x) j y ≡ y)
unwritten xs i j x y off within is = (
  subst (λ (n : ℕ). j < n) (sym (length-set xs i x)) within,
  get_or-set_other xs i j x y off ∙ is,
)

module _ {V D U F : Type 0} (c new : Contents V D U F) (whole : IsMeshWithData c) (e v : ℕ)
    (flips : IsFlippable c.mesh e) (turned : new.mesh ≡ flipped c.mesh e) (same : new ≡ record c
    { mesh = new.mesh }) (at_v : (origin c.mesh e ≡ v) ⊎ (origin c.mesh (rev e) ≡ v)) where
  abbrev m : Mesh
  m = c.mesh

  -- the links fit together
  s : AreSoundLinks m
  s = whole.valid.sound

  -- ---- edges
  us : length c.undirected ≡ length (ends m)
  us = let n = count_ends m s in let fit = whole.fits.undirected_fit in omega (arith, n, fit)

  -- there are data for both directions of each edge
  ds : length c.directed ≡ 2 * length (ends m)
  ds = let n = count_ends m s in let fit = whole.fits.directed_fit in omega (arith, n, fit)

  half_in : e / 2 < length (ends m)
  half_in = let n = count_ends m s in let within = flips.within in let even = s.even in
      omega (arith, n, within, even)

  -- the ends of the turned edge
  abbrev t : Ends
  t = along e (origin m (prev m e)) (origin m (prev m (rev e)))

  edges_are : (d : FullEdge D U) → full_edges new
      ≡ set (full_edges c) (e / 2) (with_other_ends (get_or (full_edges c) (e / 2) d) t)
  edges_are d =
      (λ i. full_edges_of (ends_flipped_is m new.mesh e s flips turned i)
      (ap (λ (x : Contents V D U F). x.undirected) same i)
      (ap (λ (x : Contents V D U F). x.directed) same i))
      ∙ full_edges-set (ends m) c.undirected c.directed (e / 2) t d us ds half_in

  turned_edge : (x : FullEdge D U) → get_or (full_edges c) (e / 2) x ≡ x → x.source ≢ v
      → x.target ≢ v → ⊥
  turned_edge x is a b =
      let off = no_end v x (joins (origin m e) (origin m (rev e)))
      (between m m c.undirected c.undirected c.directed c.directed e s whole.fits.directed_fit
      whole.fits.undirected_fit flips.within x (sym is)) a b in
      elim at_v as (λ _. ⊥) [ inl q ↦ off.0 q | inr q ↦ off.1 q ]

  edges_beside : (x : FullEdge D U) → Contains (full_edges c) x → x.source ≢ v → x.target ≢ v
      → Contains (full_edges new) x
  edges_beside x (j, within, is) a b =
      let off : j ≢ e / 2 =
      λ q. turned_edge x (ap (λ k. get_or (full_edges c) k x) (sym q) ∙ is) a b in
      let u = unwritten (full_edges c) (e / 2) j
      (with_other_ends (get_or (full_edges c) (e / 2) x) t) x off within is in
      subst (λ (xs : List (FullEdge D U)). Contains xs x) (sym (edges_are x)) (j, u.0, u.1)

  -- the edge that is turned ended at the vertex
  ends_at : (a b : ℕ) (x : FullEdge D U) → Connects x (joins a b) → (a ≡ v) ⊎ (b ≡ v)
      → (x.source ≡ v) ⊎ (x.target ≡ v)
  ends_at a b x (inl q) (inl r) = inl (q.0 ∙ r)
  ends_at a b x (inl q) (inr r) = inr (q.1 ∙ r)
  ends_at a b x (inr q) (inl r) = inr (q.1 ∙ r)
  ends_at a b x (inr q) (inr r) = inl (q.0 ∙ r)

  other_value : (y x : FullEdge D U) → x ≡ with_other_ends y t → y.value ≡ x.value
  unfolding with_other_ends
  other_value y x is = sym (ap (λ (z : FullEdge D U). z.value) is)

  edges_come : (x : FullEdge D U) → Contains (full_edges new) x
      → Contains (full_edges c) x ⊎ HasValueAt c v x.value
  edges_come x h =
      let long = length-full_edges (ends m) c.undirected c.directed us ds in
      let half = half_in in
      let inside : e / 2 < length (full_edges c) = omega (arith, long, half) in
      let y = item_at (full_edges c) (e / 2) inside in
      from_set y.0 inside y.1
      (subst (λ (xs : List (FullEdge D U)). Contains xs x) (edges_are y.0) h)
    where
      from_set : (y : FullEdge D U) → e / 2 < length (full_edges c)
          → y ≡ get_or (full_edges c) (e / 2) y → Contains
          (set (full_edges c) (e / 2) (with_other_ends (get_or (full_edges c) (e / 2) y) t)) x
          → Contains (full_edges c) x ⊎ HasValueAt c v x.value
      from_set y inside here (j, within, is) = elim (cases_eq j (e / 2)) [
        | inl q ↦ inr (record {
          edge = y;
          there = (e / 2, inside, sym here);
          ends = ends_at (origin m e) (origin m (rev e)) y
              (between m m c.undirected c.undirected c.directed c.directed e s
              whole.fits.directed_fit whole.fits.undirected_fit flips.within y here) at_v;
          same = other_value y x
              (sym is ∙ ap (λ k. get_or (set (full_edges c) (e / 2)
              (with_other_ends (get_or (full_edges c) (e / 2) y) t)) k x) q
              ∙ get_or-set_same (full_edges c) (e / 2)
              (with_other_ends (get_or (full_edges c) (e / 2) y) t) x inside
              ∙ ap (λ z. with_other_ends z t) (sym here));
        })
        | inr off ↦ inl (
          j,
          subst (λ (n : ℕ). j < n) (length-set (full_edges c) (e / 2)
              (with_other_ends (get_or (full_edges c) (e / 2) y) t)) within,
          sym (get_or-set_other (full_edges c) (e / 2) j
              (with_other_ends (get_or (full_edges c) (e / 2) y) t) x off) ∙ is,
        )
      ]

  -- ---- faces
  twin_in : rev e < length m.half_edges
  twin_in = rev_within e (length m.half_edges) s.even flips.within

  inner : IsInner m (face m e)
  inner = (flips.inner, (s.edges e flips.within).face_in)

  twin_inner : IsInner m (face m (rev e))
  twin_inner = (flips.twin_inner, (s.edges (rev e) twin_in).face_in)

  -- the vertex is a corner of the face on the left of either direction
  at_corner : (h : ℕ) → h < length m.half_edges → IsInner m (face m h) → (origin m h ≡ v)
      ⊎ (origin m (rev h) ≡ v) → (x : FullFace F) → get_or (full_faces c) (face m h - 1) x ≡ x
      → x.corners.first ≢ v → x.corners.second ≢ v → x.corners.third ≢ v → ⊥
  at_corner h within listed at x is p q r =
      let off = no_corner v x (triangle_at m h)
      (named_corners m h x s within listed.0 (ap (λ (y : FullFace F). y.corners)
      (sym is ∙ listed_face m c.faces (face m h) whole.fits.faces_fit listed x))) p q r in
      elim at as (λ _. ⊥) [ inl o ↦ off.0 o | inr o ↦ off.1 ((s.edges h within).starts ∙ o) ]

  twin_at : (origin m (rev e) ≡ v) ⊎ (origin m (rev (rev e)) ≡ v)
  twin_at = elim at_v as (λ _. (origin m (rev e) ≡ v) ⊎ (origin m (rev (rev e)) ≡ v))
      [ inl q ↦ inr (ap (origin m) (rev-rev e) ∙ q) | inr q ↦ inl q ]

  abbrev a : ℕ
  a = face m e - 1

  abbrev b : ℕ
  b = face m (rev e) - 1

  -- the two faces get other corners
  module _ (ta tb : Triangle)
      (triangles_are : triangles new.mesh ≡ set (set (triangles m) a ta) b tb) where
    one_turned : FullFace F → List (FullFace F)
    one_turned d = set (full_faces c) a (with_other_corners (get_or (full_faces c) a d) ta)

    faces_are : (d : FullFace F)
        → full_faces new ≡ set (one_turned d) b (with_other_corners (get_or (one_turned d) b d) tb)
    unfolding one_turned
    faces_are d =
        let n = length-map m.face_edges (triangle_at m) in
        let fit = whole.fits.faces_fit in
        let one = full_faces-set (triangles m) c.faces a ta d (fit ∙ sym n)
        (omega (arith, n, inner.0, inner.1)) in
        let two = full_faces-set (set (triangles m) a ta) c.faces b tb d
        (fit ∙ sym n ∙ sym (length-set (triangles m) a ta))
        (rw length-set (omega (arith, n, twin_inner.0, twin_inner.1))) in
        (λ i. full_faces_of (triangles_are i) (ap (λ (x : Contents V D U F). x.faces) same i)) ∙ two
        ∙ (λ i. set (one i) b (with_other_corners (get_or (one i) b d) tb))

    faces_beside : (x : FullFace F) → Contains (full_faces c) x → x.corners.first ≢ v
        → x.corners.second ≢ v → x.corners.third ≢ v → Contains (full_faces new) x
    unfolding one_turned
    faces_beside x (j, within, is) p q r =
        let off : j ≢ a = λ o. at_corner e flips.within inner at_v x
        (ap (λ k. get_or (full_faces c) k x) (sym o) ∙ is) p q r in
        let off_twin : j ≢ b = λ o. at_corner (rev e) twin_in twin_inner twin_at x
        (ap (λ k. get_or (full_faces c) k x) (sym o) ∙ is) p q r in
        let one = unwritten (full_faces c) a j
        (with_other_corners (get_or (full_faces c) a x) ta) x off within is in
        let two = unwritten (one_turned x) b j
        (with_other_corners (get_or (one_turned x) b x) tb) x off_twin one.0 one.1 in
        subst (λ (xs : List (FullFace F)). Contains xs x) (sym (faces_are x)) (j, two.0, two.1)

    -- where edge e ends at v, what is beside v stands after its turn
    pub turn_stands : (pairs : List (ℕ × ℕ)) → MakesFaces v pairs (faces_of m) (faces_of new.mesh)
        → StandsBeside c new v pairs
    turn_stands pairs made =
        record { edges = edges_beside; faces = faces_beside; comes = edges_come; made = made }

-- one of the two directions starts at the vertex
starts_or_ends : (m : Mesh) (h v : ℕ) → origin m h ≡ v
    → (origin m (2 * (h / 2)) ≡ v) ⊎ (origin m (rev (2 * (h / 2))) ≡ v)
starts_or_ends m h v starts = elim (halved h) [
  | inl q ↦ inl (ap (origin m) q ∙ starts)
  | inr q ↦ inr (ap (origin m) (ap rev q ∙ rev-rev h) ∙ starts)
]

-- the edge after h is turned, round the vertex where they start
pub turned_stands : {V D U F : Type 0} {place : V → Point} {c new : Contents V D U F} {h : ℕ}
    → MayTurnAway place c h → new.mesh ≡ flipped c.mesh (2 * (turn c.mesh h / 2))
    → new ≡ record c { mesh = new.mesh } → FlipsTriangles c.mesh new.mesh (2 * (turn c.mesh h / 2))
    → StandsBeside c new (origin c.mesh h) ((neighbour c.mesh h 0, neighbour c.mesh h 2) ∷ [])
turned_stands {place = place} {c = c} {new = new} {h = h} may turned same triangles_are =
    let v = origin c.mesh h in
    let r = round_at c.mesh may.whole.valid v h (rw may.whole.fits.directed_fit at may.within)
    refl in
    turn_stands c new may.whole (2 * (turn c.mesh h / 2)) v (may_turn may).0 turned same
    (starts_or_ends c.mesh (turn c.mesh h) v (r.1.starts 1)) _ _ triangles_are
    ((neighbour c.mesh h 0, neighbour c.mesh h 2) ∷ [])
    (made_turn (map place c.vertices) c.mesh new.mesh may.whole.valid may.shape v h r.0 r.1
    may.left may.right triangles_are)
