-- The user's part of the data of edges that may be constraints.
use Rattle.std.specs.Prelude.{◌≡◌, [], ◌∷◌}
use Rattle.std.specs.Prelude.{ℕ, zero, suc, false, List, map, refl, slice_set, slice_index_or}
use Rattle.delaunay_legalization.specs.{is_constraint, marked_from}
use Rattle.delaunay_legalization.specs.declared.cdt_edge.CdtEdge.{CdtEdge}

-- the data of all edges, with another user's part at one
abbrev pub with_data : {U : Type 0} → List (CdtEdge U) → ℕ → U → List (CdtEdge U)
with_data es i w =
    slice_set es i (record (slice_index_or es i (record { is_constraint_edge = false; «data» = w }))
    { «data» = w })

-- the same edges are constraints
pub with_data_marks : {U : Type 0} (first : ℕ) (es : List (CdtEdge U)) (i : ℕ) (w : U) →
    marked_from is_constraint first (with_data es i w) ≡ marked_from is_constraint first es
with_data_marks first [] i w = refl
with_data_marks first (e ∷ es) zero w = refl
with_data_marks first (e ∷ es) (suc i) w = rw (with_data_marks (suc first) es i w) refl

-- the user's parts of the others stay
pub with_data_users : {U : Type 0} (es : List (CdtEdge U)) (i : ℕ) (w : U) →
    map (λ e. e.«data») (with_data es i w) ≡ slice_set (map (λ e. e.«data») es) i w
with_data_users [] i w = refl
with_data_users (e ∷ es) zero w = refl
with_data_users (e ∷ es) (suc i) w = rw (with_data_users es i w) refl
