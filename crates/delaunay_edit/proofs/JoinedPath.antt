-- What a path leaves to the circle test where a list of edges was left before.
-- Lemmas: path_leaves, path_renamed.
use Rattle.std.proofs.Common.{◌≡◌, ℕ, Bool, List, map, sym, ap, subst, subst₂, inl}
use Rattle.{half_edge_dcel.specs.Contents, plane_theorems.specs.AllPassBut}
use Rattle.delaunay_legalization.specs.{AreLeftToTest, constraint_pairs, faces_of, pairs_at}
use Rattle.{delaunay_edit.specs.AddsPath, delaunay_edit.specs.LeavesToTest, plane.specs.Point}

-- with more constraints no more edges are to be tested
pub path_leaves : {V D U F : Type 0} {place : V → Point} {marks : U → Bool} {mark : U → U}
    {constraints : List U → List ℕ} {old new : Contents V D U F} {i j : ℕ} {was left : List ℕ}
    → AddsPath place marks mark constraints old new i j
    → LeavesToTest (map place old.vertices) old new was left
    → AreLeftToTest place constraints old was → AreLeftToTest place constraints new left
path_leaves {V = V} {D = D} {U = U} {F = F} {place = place} {constraints = constraints} {new = new}
    {left = left} path leaves before = record {
      edges = leaves.edges;
      passing =
          subst (λ (vs : List V). AllPassBut (map place vs) (faces_of new.mesh)
          (constraint_pairs constraints new.mesh new.undirected) (pairs_at new.mesh left))
          (sym (ap (λ (c : Contents V D U F). c.vertices) path.contents))
          (leaves.leaves (constraint_pairs constraints new.mesh new.undirected)
          (λ a b k l f g free untested. before.passing a b k l f g
          (λ h. free ((path.plain.constraints a b).1 (inl h))) untested));
    }

-- the path between two vertices, by other names of them
pub path_renamed : {V D U F : Type 0} {place : V → Point} {marks : U → Bool} {mark : U → U}
    {constraints : List U → List ℕ} {old new : Contents V D U F} {i j k l : ℕ} → i ≡ k → j ≡ l
    → AddsPath place marks mark constraints old new i j
    → AddsPath place marks mark constraints old new k l
path_renamed {place = place} {marks = marks} {mark = mark} {constraints = constraints} {old = old}
    {new = new} e f path =
    subst₂ (AddsPath place marks mark constraints old new) e f path
