-- How far the nearest vertex is.
-- Notions: IsLeastBefore, IsLeastSoFar, IsLesser; vertex_in_range, least_distance, measured,
-- covered_if_known, least_goes_on, least_found.
use Rattle.std.proofs.Common.{◌≡◌, ◌∙◌, ℕ, ◌<◌, List, length, map, inl, inr, ap, sym, subst, arith}
use Rattle.std.specs.Prelude.{◌⊎◌, ◌+◌, ◌≤◌, ◌≤ℤ◌}
use Rattle.std.specs.Prelude.{ℤ, pos, true, Option, None, Some, is_some, slice_get, All}
use Rattle.std.specs.Prelude.{MatchOption}
use Rattle.std.proofs.lemmas.Bool.{cases_lt}
use Rattle.std.proofs.lemmas.Int.{ints}
use Rattle.std.proofs.lemmas.List.{length-map}
use Rattle.std.proofs.lemmas.List.Elements.{All-get_or}
use Rattle.plane.specs.{gap, InRange, IsNearest, place as at, Point, Triangulation, whole}
use Rattle.delaunay_core.specs.{Point2}
use Rattle.{delaunay_legalization.specs.point_at, triangulate_run.specs.declared.reply.Reply.Reply}
use Rattle.{delaunay_edit.proofs.Removing.read_place, plane.proofs.less_without_ones}
use Rattle.triangulate_run.specs.{HoldsAt, IsListed, nowhere, place, position, SheetPoint}
use Rattle.triangulate_run.specs.Answer.{IsVertexDistance, MayMeasure}
use Rattle.triangulate_run.specs.declared.reply.Reply.TheVariants.{Distance, NoNeighbor}

-- a vertex is in range where all are
pub vertex_in_range : (vs : List (Point2 ℤ)) (i : ℕ) (v : Point2 ℤ) → i < length (map position vs)
    → slice_get vs i ≡ Some v → All InRange (map position vs) → InRange (position v)
vertex_in_range vs i v within e all = subst InRange (read_place position vs i v e)
    (All-get_or InRange (map position vs) i (record { x = pos 0; y = pos 0 }) within all)

-- the squared distance of a vertex that is nearest to p is the least
pub least_distance : (t : Triangulation) (p q : Point) (i : ℕ) (d : ℤ) → IsNearest t (whole p) i
    → point_at t.points i ≡ q → d ≡ gap (whole p) (whole q) → IsVertexDistance t p d
least_distance t p q i d near at is = record {
  nearest = i;
  is_nearest = near;
  distance = is ∙ ap (λ (r : Point). gap (whole p) (whole r)) (sym at);
}

-- the reply by the distance of the nearest vertex to a listed point
pub measured : (points : List SheetPoint) (t : Triangulation) (p : Point) (o : Option ℤ) (r : Reply)
    (vs : List (Point2 ℤ)) → t.points ≡ map position vs → IsListed points p
    → MatchOption o (length vs ≡ 0) (IsVertexDistance t p)
    → MatchOption o (r ≡ NoNeighbor) (λ d. r ≡ Distance d) → MayMeasure points t p r
measured points t p None r vs of_vertices listed none is = rw is (
  listed,
  λ i within. omega (arith, none, within, length-map vs position, ap length of_vertices),
)
measured points t p (Some d) r vs of_vertices listed near is = rw is (listed, near)

-- a point for which a lookup finds an index is covered
pub covered_if_known : (covered : Point → Type 0) (points : List SheetPoint) (p : Point)
    (o : Option ℕ) → All (λ s. covered (place s)) points → is_some o ≡ true
    → MatchOption o (¬ IsListed points p) (λ i. HoldsAt points i p) → covered p
covered_if_known covered points p None all e found = cc
covered_if_known covered points p (Some i) all e (within, at) =
    subst covered at (all i nowhere within)

-- ---- by a look at all vertices
-- one of the points is so far from p, and none before n is nearer
pub record IsLeastBefore (points : List Point) (p : Point) (n : ℕ) (d : ℤ) : Type 0 where
  pub index : ℕ
  pub within : index < length points
  pub distance : d ≡ gap (whole p) (at points index)
  pub least : (k : ℕ) → k < n → d ≤ℤ gap (whole p) (at points k)

-- without a number there are no points so far
abbrev pub IsLeastSoFar : List Point → Point → ℕ → Option ℤ → Type 0
IsLeastSoFar points p n least = MatchOption least (n ≡ 0) (IsLeastBefore points p n)

-- the lesser of two numbers, the first of which may be missing
abbrev pub IsLesser : Option ℤ → ℤ → ℤ → Type 0
IsLesser first second d =
    MatchOption first (d ≡ second) (λ x. ((d ≡ x) × (x ≤ℤ second)) ⊎ ((d ≡ second) × (second ≤ℤ x)))

module _ (points : List Point) (p : Point) (n : ℕ) where
  -- with one more point
  one_more : (d : ℤ) → ((k : ℕ) → k < n → d ≤ℤ gap (whole p) (at points k))
      → d ≤ℤ gap (whole p) (at points n) → (k : ℕ) → k < n + 1 → d ≤ℤ gap (whole p) (at points k)
  one_more d others next k h = elim (cases_lt k n) [
    | inl below ↦ others k below
    | inr beyond ↦ (let same : n ≡ k = omega (arith, h, beyond) in
        subst (λ (i : ℕ). d ≤ℤ gap (whole p) (at points i)) same next)
  ]

  -- it stays the least where the next point is no nearer
  kept_least : (d : ℤ) → IsLeastBefore points p n d → d ≤ℤ gap (whole p) (at points n)
      → IsLeastBefore points p (n + 1) d
  kept_least d so_far next = record {
    index = so_far.index;
    within = so_far.within;
    distance = so_far.distance;
    least = one_more d so_far.least next;
  }

  -- the next point is the nearest
  new_least : (d : ℤ) → n < length points → d ≡ gap (whole p) (at points n)
      → ((k : ℕ) → k < n → d ≤ℤ gap (whole p) (at points k)) → IsLeastBefore points p (n + 1) d
  new_least d within is others =
      record {
        index = n;
        within = within;
        distance = is;
        least = one_more d others (omega (arith, ints, is));
      }

  -- with the distance of one point more the lesser of the two is the least so far
  pub least_goes_on : (least : Option ℤ) (here d : ℤ) → IsLeastSoFar points p n least
      → n < length points → here ≡ gap (whole p) (at points n) → IsLesser least here d
      → IsLeastSoFar points p (n + 1) (Some d)
  least_goes_on None here d none within is lesser =
      new_least d within (lesser ∙ is) (λ k h. absurd (omega (arith, h, none)))
  least_goes_on (Some x) here d so_far within is (inl (e, le)) =
      subst (IsLeastBefore points p (n + 1)) (sym e)
      (kept_least x so_far (subst (λ (g : ℤ). x ≤ℤ g) is le))
  least_goes_on (Some x) here d so_far within is (inr (e, le)) =
      new_least d within (e ∙ is) (λ k h. let l = so_far.least k h in omega (arith, ints, l, e, le))

-- the least of all is the distance of a nearest vertex
least_of_all : (t : Triangulation) (p : Point) (n : ℕ) (d : ℤ) → length t.points ≤ n
    → IsLeastBefore t.points p n d → IsVertexDistance t p d
least_of_all t p n d all least = record {
  nearest = least.index;
  is_nearest = record {
    is_vertex = least.within;
    none_nearer = λ k within nearer.
        let less = less_without_ones (gap (whole p) (at t.points k))
        (gap (whole p) (at t.points least.index))
        nearer.nearer in
        let bound = least.least k (omega (arith, within, all)) in
        let is = least.distance in
        absurd (omega (arith, ints, less, bound, is));
  };
  distance = least.distance;
}

-- the least of all distances looked at is that of a nearest vertex; it is missing without vertices
-- alone
pub least_found : (t : Triangulation) (p : Point) (n count : ℕ) (least : Option ℤ)
    → count ≡ length t.points → count ≤ n → IsLeastSoFar t.points p n least
    → MatchOption least (count ≡ 0) (IsVertexDistance t p)
least_found t p n count None is all none = omega (arith, none, all)
least_found t p n count (Some d) is all least = least_of_all t p n d (omega (arith, is, all)) least
