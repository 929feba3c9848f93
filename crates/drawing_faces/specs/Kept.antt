-- Which faces are kept.
use Rattle.std.specs.Prelude.{◌≡◌, ◌⊎◌, [], ◌∷◌, ℕ, suc, List, Contains}
use Rattle.{delaunay_extensions.specs.crossed, delaunay_extensions.specs.Leads, plane.specs.Face}
use Rattle.{drawing_faces.specs.declared.faces.Kept.Kept, half_edge_links.specs.Mesh}
use Rattle.drawing_faces.specs.declared.faces.Kept.TheVariants.{All, Inside}

-- a way to face f crosses no constraint, from the outer face or from one of others
pub record IsOpenFace (m : Mesh) (constraints starts : List ℕ) (f : ℕ) : Type 0 where
  pub start : ℕ
  pub begins : (start ≡ 0) ⊎ Contains starts start
  pub way : List ℕ
  pub leads : Leads m way start f
  pub free : crossed constraints way ≡ 0

-- a face is left out
abbrev pub IsLeftOut : Kept → Mesh → List ℕ → List ℕ → ℕ → Type 0
IsLeftOut All m constraints starts f = ⊥
IsLeftOut Inside m constraints starts f = IsOpenFace m constraints starts f

-- of a list of faces, of which the first has this index, the ones that are not left out, in order
abbrev pub AreKept : (ℕ → Type 0) → ℕ → List Face → List Face → Type 0
AreKept IsOut n [] kept = kept ≡ []
AreKept IsOut n (f ∷ fs) kept = (IsOut n × AreKept IsOut (suc n) fs kept)
    ⊎ ((¬ IsOut n) × ((rest : List Face) × (kept ≡ f ∷ rest) × AreKept IsOut (suc n) fs rest))
