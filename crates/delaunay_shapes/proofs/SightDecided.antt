-- Whether a position is in a closed free face, by its location; and whether a segment is a line of
-- sight.
-- Lemmas: vertex_there, at_vertex_iff, on_edge_iff, in_face_iff, beyond_tells, sees_if, sees_start,
-- sees_end, goes_free, over_line, of_state.
use Rattle.std.proofs.Common.{◌≡◌, ◌⊎◌, ◌<◌, ◌↔◌, ℕ, Bool, IsTrue, List, length, map}
use Rattle.std.proofs.Common.{false, sym, subst, inl, inr}
use Rattle.std.specs.Prelude.{Contains, All}
use Rattle.plane.specs.{Fraction, IsLineList, Item, Point, TilesHull, Triangulation, whole}
use Rattle.plane.proofs.{end_on_segment, start_on_segment}
use Rattle.half_edge_links.specs.{face, face_edge, Mesh, next, origin, prev, rev}
use Rattle.plane_theorems.specs.{HasFreeFace, IsInFree, IsInSight, PassesFree}
use Rattle.plane_theorems.proofs.Sight.Sights.{in_free_by_place, sight_by_line}
use Rattle.delaunay_legalization.specs.{drawn, IsEmbedding, IsTriangulated, state_of}
use Rattle.{delaunay_legalization.specs.State.State, delaunay_legalization.specs.triangulation_of}
use Rattle.delaunay_location.specs.{IsOverMesh, Locates, NoTriangulation, OnEdge, OnFace, OnVertex}
use Rattle.delaunay_location.specs.{OutsideOfConvexHull, PositionInTriangulation, StartsOutside}
use Rattle.delaunay_location.proofs.Located.{on_that_vertex, outside_that_edge}
use Rattle.{delaunay_location.proofs.Located.without_triangulation, half_edge_dcel.specs.Contents}
use Rattle.delaunay_shapes.specs.{Beside.HasFreeRound, by_place, IsFreeBeside, Passing.GoesFree}
use Rattle.delaunay_shapes.proofs.Crossed.{false_tells}
use Rattle.delaunay_shapes.proofs.MeshFaces.{behind_iff, beside_iff, free_edge, tiles_with}

module _ {V D U F P : Type 0} {at : V → Point} {IsSite : P → Point → Type 0}
    {c : Contents V D U F} {tests : P} (embedding : IsEmbedding at IsSite c tests) (free : ℕ → Bool)
    (p : Point) where
  abbrev m : Mesh
  m = c.mesh

  abbrev points : List Point
  points = map at c.vertices

  abbrev t : Triangulation
  t = drawn points m

  abbrev InFree : Type 0
  InFree = IsInFree t (by_place free) (whole p)

  tiles : (n : ℕ) → n < length t.faces → TilesHull t
  tiles n within = tiles_with points m embedding.kept.valid embedding.kept.shape free n within

  -- a vertex that was found is there
  pub vertex_there : {v : ℕ} → Locates points m p (OnVertex v) → v < length c.vertices
  vertex_there {v = v} l = (on_that_vertex embedding v l).0

  -- at a vertex
  pub at_vertex_iff : (v : ℕ) → Locates points m p (OnVertex v)
      → HasFreeRound m free v ↔ InFree
  at_vertex_iff v l = (
    (λ r. let f = subst (λ (i : ℕ). HasFreeFace t (by_place free) i (origin m (rev r.0))) r.2
        ((beside_iff points m embedding.kept.valid embedding.kept.shape free r.0 r.1).0 r.3) in
        ((in_free_by_place t (tiles f.index f.within) (by_place free) (whole p)).2 v l.location.0
        l.location.1).1 (origin m (rev r.0), f)),
    (λ o. let f = ((in_free_by_place t (tiles o.index o.within) (by_place free) (whole p)).2 v
        l.location.0 l.location.1).0 o in
        let e = free_edge points m embedding.kept.valid embedding.kept.shape free v f.0 f.1 in
        (e.0, e.1, sym e.2, e.4)),
  )

  -- on an edge
  pub on_edge_iff : (e : ℕ) → Locates points m p (OnEdge e)
      → (IsFreeBeside m free e ⊎ IsFreeBeside m free (rev e)) ↔ InFree
  on_edge_iff e l =
      let left = beside_iff points m embedding.kept.valid embedding.kept.shape free e l.handle in
      let right = behind_iff points m embedding.kept.valid embedding.kept.shape free e l.handle in (
        (λ x. elim x [
          | inl y ↦ (let f = left.0 y in ((in_free_by_place t (tiles f.index f.within)
              (by_place free) (whole p)).1 (origin m e) (origin m (rev e)) l.location.0
              l.location.1).1 (inl f))
          | inr y ↦ (let f = right.0 y in ((in_free_by_place t (tiles f.index f.within)
              (by_place free) (whole p)).1 (origin m e) (origin m (rev e)) l.location.0
              l.location.1).1 (inr f))
        ]),
        (λ o. elim (((in_free_by_place t (tiles o.index o.within) (by_place free) (whole p)).1
            (origin m e) (origin m (rev e)) l.location.0 l.location.1).0 o) [
              | inl f ↦ inl (left.1 f)
              | inr f ↦ inr (right.1 f)
            ]),
      )

  -- strictly inside a face
  pub in_face_iff : (f : ℕ) → Locates points m p (OnFace f) → IsTrue (free f) ↔ InFree
  in_face_iff f l = (
    (λ says. let g = listed.0 (
      subst (λ k. 0 < k) (sym named.1) l.handle.0,
      subst (λ k. IsTrue (free k)) (sym named.1) says,
    ) in (law (tiles g.index g.within)).1 g),
    (λ o. subst (λ k. IsTrue (free k)) named.1
        (listed.1 ((law (tiles o.index o.within)).0 o)).1),
  )
    where
      named : (face_edge m f < length m.half_edges) × (face m (face_edge m f) ≡ f)
      named = embedding.kept.valid.sound.faces f l.handle.0 l.handle.1

      starts : origin m (next m (face_edge m f)) ≡ origin m (rev (face_edge m f))
      starts = (embedding.kept.valid.sound.edges (face_edge m f) named.0).starts

      listed : IsFreeBeside m free (face_edge m f) ↔ HasFreeFace t (by_place free)
          (origin m (face_edge m f)) (origin m (next m (face_edge m f)))
      listed = subst (λ (j : ℕ). IsFreeBeside m free (face_edge m f) ↔ HasFreeFace t (by_place free)
          (origin m (face_edge m f)) j) (sym starts)
          (beside_iff points m embedding.kept.valid embedding.kept.shape free (face_edge m f)
          named.0)

      law : TilesHull t → InFree ↔ HasFreeFace t (by_place free) (origin m (face_edge m f))
          (origin m (next m (face_edge m f)))
      law h = (in_free_by_place t h (by_place free) (whole p)).0 (origin m (face_edge m f))
          (origin m (next m (face_edge m f))) (origin m (prev m (face_edge m f))) l.location.0
          l.location.1

  outside : StartsOutside t p → ¬ InFree
  outside s o =
      let h = tiles o.index o.within in
      let e = s.left_of h in
      (in_free_by_place t h (by_place free) (whole p)).3 e.0 e.1 e.2 e.3 o

  -- beyond the hull, or where there is no face, it is in none
  pub beyond_tells : {r : PositionInTriangulation}
      → ((e : ℕ) × (r ≡ OutsideOfConvexHull e)) ⊎ (r ≡ NoTriangulation) → Locates points m p r
      → IsTrue false ↔ InFree
  beyond_tells (inl is) l = false_tells (outside (outside_that_edge embedding is.0
      (subst (Locates points m p) is.1 l)))
  beyond_tells (inr is) l = false_tells (outside (without_triangulation embedding
      (subst (Locates points m p) is l)))

  -- where both ends are in closed free faces, the items decide
  pub sees_if : (q : Point) → InFree → IsInFree t (by_place free) (whole q) → (b : Bool)
      → GoesFree t (by_place free) (whole p) (whole q) b → IsTrue b
      ↔ IsInSight t (by_place free) (whole p) (whole q)
  sees_if q start end b goes =
      let law = sight_by_line t (tiles start.index start.within) (by_place free) (whole p) (whole q)
      goes.0 goes.1 in (
        (λ says. law.1 (start, end, goes.2.0 says)),
        (λ sees. goes.2.1 (law.0 sees).2),
      )

pub sees_start : (t : Triangulation) (free : ℕ → Bool) (p q : Point)
    → IsInSight t free (whole p) (whole q) → IsInFree t free (whole p)
sees_start t free p q sees = sees (whole p) (start_on_segment (whole p) (whole q))

pub sees_end : (t : Triangulation) (free : ℕ → Bool) (p q : Point)
    → IsInSight t free (whole p) (whole q) → IsInFree t free (whole q)
sees_end t free p q sees =
    sees (whole q) (end_on_segment (whole p) (whole q))

-- what holds of the mesh of a line holds of the state that it is of
pub goes_free : {V D U F : Type 0} (at : V → Point) (s : State V D U F) (c : Contents V D U F)
    → state_of c ≡ s → (free : ℕ → Bool) (p q : Fraction) (items : List Item)
    → IsLineList (triangulation_of at s) p q items → (b : Bool) → IsTrue b
    ↔ ((k : Item) → Contains items k → PassesFree (drawn (map at c.vertices) c.mesh) free p q k)
    → GoesFree (triangulation_of at s) free p q b
goes_free {V} {D} {U} {F} at s c same free p q items line b iff = (
  items,
  line,
  subst (λ (x : State V D U F). IsTrue b
      ↔ ((k : Item) → Contains items k → PassesFree (triangulation_of at x) free p q k)) same iff,
)

-- a segment over the mesh of a line over a mesh with the same state
pub over_line : {V D U F P : Type 0} {at : V → Point} {IsSite IsCovered : P → Point → Type 0}
    {c d : Contents V D U F} {tests : P} {p q : Point} → IsEmbedding at IsSite c tests
    → state_of d ≡ state_of c → IsCovered tests p → IsCovered tests q
    → IsOverMesh at IsSite IsCovered d tests p q
over_line {V = V} {D = D} {U = U} {F = F} {at = at} {IsSite = IsSite} {tests = tests} embedding same
    from to = record {
      embedding = record {
        kept = subst (IsTriangulated at) (sym same) embedding.kept;
        sites = subst (λ (x : State V D U F). All (IsSite tests) (map at x.vertices)) (sym same)
            embedding.sites;
      };
      from_covered = from;
      to_covered = to;
    }

-- what holds of a state holds of the same state
pub of_state : {X : Type 0} (P : X → Type 0) (x y : X) → x ≡ y → P y → P x
of_state P x y e h = subst P (sym e) h
