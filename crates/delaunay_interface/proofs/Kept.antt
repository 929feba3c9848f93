-- The vertices stay where constraints are added, or where only data change.
-- Lemmas: held_of_same, held_by_copy.
use Rattle.std.proofs.Common.{◌≡◌, List, sym, subst, map}
use Rattle.std.specs.Prelude.{Contains}
use Rattle.std.specs.List.{AllZip}
use Rattle.plane.specs.{IsAtMost, IsAtMostOf, Point}
use Rattle.{delaunay_edit.proofs.Copies.same_image, delaunay_edit.specs.KeepsImage}

-- what is held is of the new vertices where they are the old ones
pub held_of_same : {V : Type 0} (place : V → Point) (holds : Point → Type 0) (vs ws : List V)
    → ws ≡ vs → IsAtMostOf holds (map place vs) → IsAtMostOf holds (map place ws)
held_of_same place holds vs ws same held =
    subst (λ (us : List _). IsAtMostOf holds (map place us)) (sym same) held

-- what a duplicate holds is of the copies of the vertices, which have their positions
pub held_by_copy : {V : Type 0} (place : V → Point) (R : V → V → Type 0) (vs ws : List V)
    → KeepsImage R place vs → AllZip R vs ws
    → (held held' : Point → Type 0) → IsAtMostOf held (map place vs) → IsAtMost held held'
    → IsAtMostOf held' (map place ws)
held_by_copy place R vs ws kept zip held held' old fewer =
    λ p h. subst (λ (ps : List Point). Contains ps p) (sym (same_image R place vs ws kept zip))
    (old p (fewer p h))
