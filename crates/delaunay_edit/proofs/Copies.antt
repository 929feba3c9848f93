-- A copy of a triangulation is one.
-- Lemmas: copied_as, same_image, same_constraints, copy_is_one, copy_is_counted.
use Rattle.std.proofs.Common.{◌≡◌, ◌∙◌, [], ◌∷◌}
use Rattle.std.proofs.Common.{ℕ, suc, Bool, List, length, map, refl, sym, ap, subst}
use Rattle.std.specs.Prelude.{All}
use Rattle.std.specs.List.{AllZip}
use Rattle.std.proofs.lemmas.List.{length-map, get_or-map}
use Rattle.std.proofs.lemmas.List.Elements.{All-head, All-map, All-tail}
use Rattle.half_edge_dcel.specs.{Contents}
use Rattle.{half_edge_dcel.specs.Copied.IsCopied, plane.specs.InRange, plane.specs.Point}
use Rattle.delaunay_legalization.specs.{constraints_by, IsDelaunayTriangulation, marked_edges}
use Rattle.delaunay_legalization.specs.{marked_from, State.State, state_of}
use Rattle.delaunay_edit.specs.{IsCopy, IsCounted, KeepsImage}

-- a copy of the mesh is one of what it holds
pub copied_as : {V D U F : Type 0} (RV : V → V → Type 0) (RD : D → D → Type 0)
    (RU : U → U → Type 0) (RF : F → F → Type 0) (old new : Contents V D U F)
    → IsCopied RV RD RU RF old new → IsCopy RV RD RU RF (state_of old) (state_of new)
copied_as RV RD RU RF old new copied = record {
  mesh = copied.mesh;
  vertices = copied.vertices;
  directed = copied.directed;
  undirected = copied.undirected;
  outer = copied.outer;
  faces = copied.faces;
}

same_length : {X : Type 0} (R : X → X → Type 0) (xs ys : List X) → AllZip R xs ys
    → length ys ≡ length xs
same_length R [] [] h = refl
same_length R [] (y ∷ ys) h = absurd h
same_length R (x ∷ xs) [] h = absurd h
same_length R (x ∷ xs) (y ∷ ys) h = ap suc (same_length R xs ys h.1)

-- what the function gives is the same of each
pub same_image : {X Y : Type 0} (R : X → X → Type 0) (f : X → Y) (xs ys : List X)
    → KeepsImage R f xs → AllZip R xs ys → map f ys ≡ map f xs
same_image R f [] [] same h = refl
same_image R f [] (y ∷ ys) same h = absurd h
same_image R f (x ∷ xs) [] same h = absurd h
same_image {X = X} R f (x ∷ xs) (y ∷ ys) same h =
    let Keeps : X → Type 0 = λ z. (w : X) → R z w → f w ≡ f z in
    let first = All-head Keeps x xs same in
    let others = All-tail Keeps x xs same in
    rw (first y h.0, same_image R f xs ys others h.1) refl

same_marks : {U : Type 0} (R : U → U → Type 0) (marks : U → Bool) (first : ℕ) (xs ys : List U)
    → KeepsImage R marks xs → AllZip R xs ys → marked_from marks first ys
    ≡ marked_from marks first xs
same_marks R marks first [] [] same h = refl
same_marks R marks first [] (y ∷ ys) same h = absurd h
same_marks R marks first (x ∷ xs) [] same h = absurd h
same_marks {U = U} R marks first (x ∷ xs) (y ∷ ys) same h =
    let Keeps : U → Type 0 = λ z. (w : U) → R z w → marks w ≡ marks z in
    let here = All-head Keeps x xs same in
    let others = All-tail Keeps x xs same in
    rw (here y h.0, same_marks R marks (suc first) xs ys others h.1) refl

in_range_by_places : {V : Type 0} (place : V → Point) (vs ws : List V) → map place ws ≡ map place vs
    → All (λ v. InRange (place v)) vs → All (λ v. InRange (place v)) ws
in_range_by_places place vs ws same all = λ k d k-in.
    let there = subst (λ (ps : List Point). All InRange ps) (sym same)
    (All-map InRange place vs all) k (place d)
    (rw length-map k-in) in
    subst InRange (get_or-map place ws k d (place d) k-in) there

module _ {V D U F : Type 0} (place : V → Point) (marks : U → Bool) (constraints : List U → List ℕ)
    (marked : (ds : List U) → constraints ds ≡ marked_edges marks ds)
    (RV : V → V → Type 0) (RD : D → D → Type 0) (RU : U → U → Type 0) (RF : F → F → Type 0)
    (old new : State V D U F) (copy : IsCopy RV RD RU RF old new) (same : KeepsImage RU marks
    old.undirected) where
  same_edges : constraints new.undirected ≡ constraints old.undirected
  same_edges = marked new.undirected
      ∙ same_marks RU marks 0 old.undirected new.undirected same copy.undirected
      ∙ sym (marked old.undirected)

  -- where copied edges keep their marks, the same pairs are joined by constraints
  pub same_constraints : constraints_by constraints new ≡ constraints_by constraints old
  same_constraints = rw (copy.mesh, same_edges) refl

  module _ (places : KeepsImage RV place old.vertices) where
    -- where copied vertices keep their places, too, a copy is Delaunay as the first is
    pub copy_is_one : IsDelaunayTriangulation place constraints old
        → IsDelaunayTriangulation place constraints new
    copy_is_one whole =
        let at = same_image RV place old.vertices new.vertices places copy.vertices in
        let vertices = same_length RV old.vertices new.vertices copy.vertices in
        let directed = same_length RD old.directed new.directed copy.directed in
        let undirected = same_length RU old.undirected new.undirected copy.undirected in
        let faces = same_length RF old.faces new.faces copy.faces in
        record {
          kept = record {
            in_range = in_range_by_places place old.vertices new.vertices at whole.kept.in_range;
            few_edges = rw (undirected, vertices) whole.kept.few_edges;
            few_faces = rw (faces, vertices) whole.kept.few_faces;
            valid = rw copy.mesh whole.kept.valid;
            fits = rw (copy.mesh, vertices, directed, undirected, faces) whole.kept.fits;
            shape = rw (at, copy.mesh) whole.kept.shape;
          };
          passing = rw (at, copy.mesh, same_edges) whole.passing;
        }

    -- and has as many constraints
    pub copy_is_counted : (number : ℕ) → IsCounted place constraints old number
        → IsCounted place constraints new number
    copy_is_counted number was =
        record { legal = copy_is_one was.legal; counted = rw same_constraints was.counted }
