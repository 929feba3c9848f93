-- What the questions about edges say of the items of a segment.
-- Lemmas: crossed_iff, along_iff, second_decides, not_crossed, iff_through, iff_named, true_tells,
-- false_tells, crossed_within, crossing_item, overlap_item.
use Rattle.std.proofs.Common.{◌≡◌, ◌⊎◌, ◌<◌, ◌↔◌, ◌∙◌, ℕ, Bool, IsTrue, List, length, map}
use Rattle.std.proofs.Common.{true, false, refl, sym, ap, subst, inl, inr}
use Rattle.plane.specs.{across, along, Fraction, Item, on, opposite, place, Point, side, whole}
use Rattle.plane.proofs.{side_swapped}
use Rattle.half_edge_links.specs.{Mesh, origin, rev}
use Rattle.{half_edge_links.proofs.rev-rev, plane_theorems.specs.PassesFree}
use Rattle.half_edge_dcel.specs.{Contents, DirectedEdgeHandle}
use Rattle.{delaunay_legalization.proofs.both_ways, delaunay_legalization.specs.drawn}
use Rattle.delaunay_location.specs.{EdgeIntersection, EdgeOverlap, Intersection, IsOverMesh}
use Rattle.delaunay_location.specs.{item_in, mesh_of}
use Rattle.{delaunay_location.proofs.MeshSteps.in_mesh, delaunay_shapes.specs.Beside.IsFreeUnlessOn}
use Rattle.delaunay_shapes.specs.{by_place, IsFreeBeside, Passing.Looking, Passing.Passes}
use Rattle.delaunay_shapes.proofs.MeshFaces.{behind_iff, beside_iff}

-- ---- answers that are known
pub true_tells : {P : Type 0} → P → IsTrue true ↔ P
true_tells so = ((λ _. so), (λ _. refl))

pub false_tells : {P : Type 0} → ¬ P → IsTrue false ↔ P
false_tells none = ((λ t. absurd (both_ways false t refl)), (λ so. absurd (none so)))

-- ---- items
on_swapped : (u v p : Fraction) → side u v p ≡ on → side v u p ≡ on
on_swapped u v p e = side_swapped u v p ∙ ap opposite e

module _ {V D U F P : Type 0} {at : V → Point} {IsSite IsCovered : P → Point → Type 0}
    {c : Contents V D U F} {tests : P} {p q : Point}
    (over : IsOverMesh at IsSite IsCovered c tests p q)
    (free : ℕ → Bool) (h : ℕ) (within : h < length c.directed) where
  abbrev m : Mesh
  m = c.mesh

  abbrev points : List Point
  points = map at c.vertices

  abbrev a : ℕ
  a = origin m h

  abbrev b : ℕ
  b = origin m (rev h)

  abbrev Passed : Item → Type 0
  Passed k = PassesFree (drawn points m) (by_place free) (whole p) (whole q) k

  -- edge h is one of the mesh
  w : h < length m.half_edges
  w = in_mesh over.embedding h within

  -- the reverse of the reverse starts where the edge does
  back : origin m (rev (rev h)) ≡ origin m h
  back = ap (origin m) (rev-rev h)

  -- the faces on both sides of an edge, but those that the segment does not have
  pub crossed_iff : (IsFreeUnlessOn points m free p (rev h) × IsFreeUnlessOn points m free q h)
      ↔ Passed (across a b)
  crossed_iff =
      let left = beside_iff points m over.embedding.kept.valid over.embedding.kept.shape free h w in
      let right = behind_iff points m over.embedding.kept.valid over.embedding.kept.shape free h w
      in (
        (λ x. (
          (λ n. right.0 (x.0 (λ e. n (on_swapped (place points b) (place points a) (whole p) (subst
              (λ (i : ℕ). side (place points b) (place points i) (whole p) ≡ on) back e))))),
          (λ n. left.0 (x.1 n)),
        )),
        (λ x. (
          (λ n. right.1 (x.0 (λ e. n (subst
              (λ (i : ℕ). side (place points b) (place points i) (whole p) ≡ on) (sym back)
              (on_swapped (place points a) (place points b) (whole p) e))))),
          (λ n. left.1 (x.1 n)),
        )),
      )

  -- one of both
  pub along_iff : (IsFreeBeside m free h ⊎ IsFreeBeside m free (rev h)) ↔ Passed (along a b)
  along_iff =
      let left = beside_iff points m over.embedding.kept.valid over.embedding.kept.shape free h w in
      let right = behind_iff points m over.embedding.kept.valid over.embedding.kept.shape free h w
      in (
        (λ x. elim x [ inl f ↦ inl (left.0 f) | inr f ↦ inr (right.0 f) ]),
        (λ x. elim x [ inl f ↦ inl (left.1 f) | inr f ↦ inr (right.1 f) ]),
      )

  -- where the first answer is yes the second one decides
  pub second_decides : (x y : Bool) → IsTrue x → IsTrue x ↔ IsFreeUnlessOn points m free p (rev h)
      → IsTrue y ↔ IsFreeUnlessOn points m free q h → IsTrue y ↔ Passed (across a b)
  second_decides x y says first second = (
    (λ k. crossed_iff.0 (first.0 says, second.0 k)),
    (λ z. second.1 (crossed_iff.1 z).1),
  )

  -- where it is no, so is the answer
  pub not_crossed : (x : Bool) → x ≡ false → IsTrue x ↔ IsFreeUnlessOn points m free p (rev h)
      → IsTrue x ↔ Passed (across a b)
  not_crossed x denied first = (
    (λ t. absurd (both_ways x t denied)),
    (λ z. absurd (both_ways x (first.1 (crossed_iff.1 z).0) denied)),
  )

pub iff_through : {X Y Z : Type 0} → X ↔ Y → Y ↔ Z → X ↔ Z
iff_through f g = ((λ x. g.0 (f.0 x)), (λ z. f.1 (g.1 z)))

-- an answer that is named
pub iff_named : (b d : Bool) (Z : Type 0) → b ≡ d → IsTrue d ↔ Z → IsTrue b ↔ Z
iff_named b d Z e iff = subst (λ (x : Bool). IsTrue x ↔ Z) (sym e) iff

-- ---- an item and its edge
-- an edge of a mesh is within it
pub crossed_within : {V D U F : Type 0} (e : DirectedEdgeHandle V D U F) (c : Contents V D U F)
    → e.dcel.now ≡ c → e.index < length c.directed
crossed_within {V} {D} {U} {F} e c same =
    subst (λ (x : Contents V D U F). e.index < length x.directed) same e.in_range

module _ {V D U F G P : Type 0} (at : V → Point) (free : G → ℕ → Bool)
    (s : Looking V D U F G P) where
  pub crossing_item : (x : Intersection V D U F) (e : DirectedEdgeHandle V D U F)
      → x ≡ EdgeIntersection e → (mesh_of x).now ≡ s.dcel → (y : Bool) → IsTrue y
      ↔ Passes at free s (across (origin s.dcel.mesh e.index) (origin s.dcel.mesh (rev e.index)))
      → IsTrue y ↔ Passes at free s (item_in x)
  crossing_item x e is mesh y iff = subst (λ (k : Item). IsTrue y ↔ Passes at free s k)
      (sym (ap item_in is ∙ ap (λ (c : Contents V D U F). across (origin c.mesh e.index)
      (origin c.mesh (rev e.index))) (sym (ap (λ z. (mesh_of z).now) is) ∙ mesh))) iff

  pub overlap_item : (x : Intersection V D U F) (e : DirectedEdgeHandle V D U F)
      → x ≡ EdgeOverlap e → (mesh_of x).now ≡ s.dcel → (y : Bool) → IsTrue y
      ↔ Passes at free s (along (origin s.dcel.mesh e.index) (origin s.dcel.mesh (rev e.index)))
      → IsTrue y ↔ Passes at free s (item_in x)
  overlap_item x e is mesh y iff = subst (λ (k : Item). IsTrue y ↔ Passes at free s k)
      (sym (ap item_in is ∙ ap (λ (c : Contents V D U F). along (origin c.mesh e.index)
      (origin c.mesh (rev e.index))) (sym (ap (λ z. (mesh_of z).now) is) ∙ mesh))) iff
