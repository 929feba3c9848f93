-- A path of constraints that is added subconstraint by subconstraint.
-- Notions: IsAddingPath; adding_begins, adding_ends, adding_goes_on, subconstraint_is_clear, adding_adds.
use Rattle.std.proofs.Common.{◌≡◌, ◌≢◌, ◌⊎◌, ◌↔◌, ℕ, ◌<◌, List, length, subst, inl, inr}
use Rattle.plane.specs.{Adds, CanAdd, Cross, IsIndex, IsSamePair, Joins, place, Plain, Point}
use Rattle.plane.specs.{points_of}
use Rattle.plane.proofs.{same-sym, start_on_segment, within_segment-same}
use Rattle.plane_theorems.specs.{AreNextOn, ArePlacedApart}
use Rattle.plane_theorems.proofs.Segments.Constraints.Subconstraints.{next_is_neighbours, path_ends}
use Rattle.plane_theorems.proofs.Segments.Constraints.Subconstraints.{path_goes_on}
use Rattle.plane_theorems.proofs.Segments.Constraints.Whole.{subconstraint_crosses_whole}

-- what is next to one another on the way from w to j is so on the way from i to j
abbrev IsRestOfPath : List Point → ℕ → ℕ → ℕ → Type 0
IsRestOfPath points i j w = (a b : ℕ) → AreNextOn points w j a b → AreNextOn points i j a b

-- the subconstraints from i to vertex w are in the list, and those from w to j are still to come
pub record IsAddingPath (points : List Point) (old now : List (ℕ × ℕ)) (i j w : ℕ) : Type 0 where
  pub within : IsIndex points w
  pub pairs : (a b : ℕ) → (Joins now a b ⊎ AreNextOn points w j a b)
      ↔ (Joins old a b ⊎ AreNextOn points i j a b)
  pub rest : IsRestOfPath points i j w

-- at the start of a path, no subconstraint is in the list yet and all are to come
pub adding_begins : (points : List Point) (old : List (ℕ × ℕ)) (i j : ℕ) → IsIndex points i →
    IsAddingPath points old old i j i
adding_begins points old i j within =
    record { within = within; pairs = λ a b. ((λ x. x), (λ x. x)); rest = λ a b x. x }

module _ (points : List Point) (distinct : ArePlacedApart points) (old now : List (ℕ × ℕ)) (i j w :
    ℕ) (hi : IsIndex points i) (hj : IsIndex points j) (p : IsAddingPath points old now i j w) where
  -- where the path has come to its end, all its subconstraints are joined
  pub adding_ends : w ≡ j → (a b : ℕ) → Joins now a b ↔ (Joins old a b ⊎ AreNextOn points i j a b)
  adding_ends is a b = (
    (λ x. (p.pairs a b).0 (inl x)),
    (λ x. elim ((p.pairs a b).1 x) [
      | inl y ↦ y
      | inr y ↦ absurd
          (path_ends points j distinct a b (subst (λ (k : ℕ). AreNextOn points k j a b) is y))
    ]),
  )

  module _ (v : ℕ) (on_way : w ≢ j) (next : AreNextOn points w j w v) where
    subconstraints : (a b : ℕ) → AreNextOn points w j a b ↔
        (IsSamePair a b w v ⊎ AreNextOn points v j a b)
    subconstraints = path_goes_on points w j v distinct hj on_way next

    -- a joined subconstraint brings the path one vertex further
    pub adding_goes_on : (new : List (ℕ × ℕ))
        → ((a b : ℕ) → Joins new a b ↔ (Joins now a b ⊎ IsSamePair a b w v))
        → IsAddingPath points old new i j v
    adding_goes_on new joined = record {
      within = next.second_index;
      pairs = λ a b. (
        (λ x. elim x [
          | inl y ↦ elim ((joined a b).0 y) [
            | inl z ↦ (p.pairs a b).0 (inl z)
            | inr z ↦ (p.pairs a b).0 (inr ((subconstraints a b).1 (inl z)))
          ]
          | inr y ↦ (p.pairs a b).0 (inr ((subconstraints a b).1 (inr y)))
        ]),
        (λ x. elim ((p.pairs a b).1 x) [
          | inl y ↦ inl ((joined a b).1 (inl y))
          | inr y ↦ elim ((subconstraints a b).0 y) [
            | inl z ↦ inl ((joined a b).1 (inr z))
            | inr z ↦ inr z
          ]
        ]),
      );
      rest = λ a b x. p.rest a b ((subconstraints a b).1 (inr x));
    }

    ends_apart : i ≢ j
    ends_apart e = path_ends points j distinct w v
        (subst (λ (k : ℕ). AreNextOn points k j w v) e (p.rest w v next))

    -- no subconstraint of a path crosses another
    not_a_subconstraint : (a b : ℕ) → AreNextOn points i j a b →
        ¬ Cross (place points w) (place points v) (place points a) (place points b)
    not_a_subconstraint a b subconstraint cross =
        let whole =
        subconstraint_crosses_whole points i j w v a b distinct hi hj ends_apart
        subconstraint.first_index
        subconstraint.second_index subconstraint.apart (p.rest w v next) cross in
        let same = whole.meet.only (place points a) subconstraint.first
        (start_on_segment (place points a) (place points b)) in
        subconstraint.none_between a subconstraint.first_index
        (within_segment-same (place points a) (place points b) whole.at
        (place points a) (same-sym (place points a) whole.at same) whole.within_second)

    -- what is there does not cross the next subconstraint
    pub subconstraint_is_clear : ((a b : ℕ) → Joins old a b
        → ¬ Cross (place points i) (place points j) (place points a) (place points b)) → (a b : ℕ)
        → Joins now a b → IsIndex points a → IsIndex points b → a ≢ b
        → ¬ Cross (place points w) (place points v) (place points a) (place points b)
    subconstraint_is_clear free a b joined ha hb apart cross = elim ((p.pairs a b).0 (inl joined)) [
      | inl y ↦
          free a b y (subconstraint_crosses_whole points i j w v a b distinct hi hj ends_apart ha hb
          apart
          (p.rest w v next) cross)
      | inr y ↦ not_a_subconstraint a b y cross
    ]

-- in the words of plain states
pub adding_adds : {V : Type 0} (position : V → Point) (old new : Plain V) (i j : ℕ)
    → i < length old.vertices → j < length old.vertices → CanAdd position old i j
    → new.vertices ≡ old.vertices → ((a b : ℕ) → Joins new.constraints a b
    ↔ (Joins old.constraints a b ⊎ AreNextOn (points_of position old) i j a b))
    → Adds position old new i j
adding_adds position old new i j hi hj free same joined = record {
  ends = (hi, hj);
  free = free;
  vertices = same;
  constraints = λ a b. (
    (λ x. elim ((joined a b).0 x) [
      | inl y ↦ inl y
      | inr y ↦ inr ((next_is_neighbours position (points_of position old) i j a b).1 y)
    ]),
    (λ x. (joined a b).1 (elim x [
      | inl y ↦ inl y
      | inr y ↦ inr ((next_is_neighbours position (points_of position old) i j a b).0 y)
    ])),
  );
}
