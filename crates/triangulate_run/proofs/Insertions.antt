-- What an insertion makes of the vertices, and which replies it may get.
-- Lemmas: fresh_if_unknown, unknown_if_fresh, known_if_there, site_if_listed, listed_if_found,
-- places_kept, sites_kept, sites_more, listed_if_known, may_refuse, mesh_kept.
use Rattle.std.proofs.Common.{◌≡◌, ◌+◌, ◌<◌, [], ◌∷◌, ◌++◌, ◌∙◌}
use Rattle.std.proofs.Common.{ℕ, true, List, length, map, get_or, Option, Some, None, is_some, refl}
use Rattle.std.proofs.Common.{sym, ap, subst, arith}
use Rattle.std.specs.Prelude.{◌↔◌, ◌*◌}
use Rattle.std.specs.Prelude.{ℤ, pos, All, MatchOption, Result, Err, IsErrOf, IsOk, slice_set}
use Rattle.std.proofs.lemmas.List.{get_or-map, length-map}
use Rattle.std.proofs.lemmas.List.Elements.{All-push}
use Rattle.std.proofs.Math.Seq.{map-set_same}
use Rattle.std.proofs.lemmas.List.{map-append}
use Rattle.plane.specs.{DifferInPosition, InRange, Point}
use Rattle.delaunay_core.specs.{InsertionError, OutOfIndexes, OutOfMemory, Point2, TooLarge}
use Rattle.delaunay_legalization.specs.{IsKnown, point_at}
use Rattle.{delaunay_legalization.specs.State.State, triangulate_run.specs.Points.IsListedSite}
use Rattle.triangulate_run.specs.{HoldsAt, IsListed, IsSiteAt, nowhere, place, position, Refused}
use Rattle.triangulate_run.specs.{Answer.MayInsert, Answer.most_elements, SheetPoint, stage_by}

module _ (vs : List (Point2 ℤ)) (p : Point2 ℤ) where
  placed : (k : ℕ) (d : Point2 ℤ) → k < length vs
      → point_at (map position vs) k ≡ position (get_or vs k d)
  placed k d h = get_or-map position vs k d (record { x = pos 0; y = pos 0 }) h

  -- where no vertex is at p, all differ from it in position
  pub fresh_if_unknown : ¬ IsKnown (map position vs) (position p)
      → All (DifferInPosition position p) vs
  fresh_if_unknown unknown = λ k d h e. unknown (record
      { index = k; below = omega (arith, h, length-map vs position); here = placed k d h ∙ sym e })

  -- where all differ from it in position, no vertex is at p
  pub unknown_if_fresh : All (DifferInPosition position p) vs
      → ¬ IsKnown (map position vs) (position p)
  unknown_if_fresh fresh known =
      let in_map = known.below in
      let below : known.index < length vs = omega (arith, in_map, length-map vs position) in
      fresh known.index p below (sym known.here ∙ placed known.index p below)

  known_at : (i : ℕ) → i < length vs → point_at (map position vs) i ≡ position p
      → IsKnown (map position vs) (position p)
  known_at i h e = record { index = i; below = omega (arith, h, length-map vs position); here = e }

  -- where a vertex of the list has its position, a vertex is at p
  pub known_if_there : (i : ℕ) → i < length vs → position (get_or vs i p) ≡ position p
      → IsKnown (map position vs) (position p)
  known_if_there i h e = known_at i h (placed i p h ∙ e)

-- a listed site is a site of the tests
pub site_if_listed : (sites : Point → Type 0) (points : List SheetPoint) (p : Point)
    → All (λ s. s.site ≡ true → sites (place s)) points → IsListedSite points p → sites p
site_if_listed sites points p all (i, ((h, at), is_site)) = subst sites at (all i nowhere h is_site)

-- a site for which a lookup finds an index is listed
pub listed_if_found : (points : List SheetPoint) (p : Point) (o : Option ℕ) → is_some o ≡ true
    → MatchOption o (¬ IsListedSite points p) (λ i. IsSiteAt points i p) → IsListedSite points p
listed_if_found points p None e found = cc
listed_if_found points p (Some i) e found = (i, found)

-- ---- the vertices afterwards
-- the vertices keep their positions where one gives way to another at the same place
pub places_kept : (vs : List (Point2 ℤ)) (i : ℕ) (v : Point2 ℤ)
    → position (get_or vs i v) ≡ position v → map position (slice_set vs i v) ≡ map position vs
places_kept vs i v e = map-set_same position vs i v v (sym e)

-- the vertices are sites still where their positions stay
pub sites_kept : (sites : Point → Type 0) (old new : List (Point2 ℤ)) → map position new
    ≡ map position old → All sites (map position old) → All sites (map position new)
sites_kept sites old new e all = subst (λ (ps : List Point). All sites ps) (sym e) all

-- the vertices are sites still where one more is a site
pub sites_more : (sites : Point → Type 0) (old new : List (Point2 ℤ)) (v : Point2 ℤ) → new ≡ old
    ++ v ∷ [] → sites (position v) → All sites (map position old) → All sites (map position new)
sites_more sites old new v e site all = subst (λ (ps : List Point). All sites ps)
    (sym (ap (map position) e ∙ map-append position old (v ∷ [])))
    (All-push sites (map position old) (position v) all site)

-- a point for which a lookup finds an index is listed
pub listed_if_known : (points : List SheetPoint) (p : Point) (o : Option ℕ) → is_some o ≡ true
    → MatchOption o (¬ IsListed points p) (λ i. HoldsAt points i p) → IsListed points p
listed_if_known points p None e found = cc
listed_if_known points p (Some i) e found = (i, found)

-- ---- a refusal
module _ {D U F : Type 0} (constraints : List U → List ℕ) (points : List SheetPoint)
    (old new : State (Point2 ℤ) D U F) (p : Point2 ℤ) (r : Result ℕ InsertionError) where
  -- an insertion that gives an error, and changes nothing, may be answered by a refusal
  pub may_refuse : (e : InsertionError) → r ≡ Err e → InRange (position p)
      → IsListedSite points (position p) → IsErrOf r TooLarge ↔ ¬ InRange (position p)
      → (InRange (position p) → IsKnown (map position old.vertices) (position p) → IsOk r)
      → IsErrOf r OutOfIndexes
      ↔ (InRange (position p) × (¬ IsKnown (map position old.vertices) (position p))
      × (most_elements < 6 * (length old.vertices + 1))) → new ≡ old
      → MayInsert points (stage_by constraints old) p (Refused e) (stage_by constraints new)
  may_refuse TooLarge is in_range site too_large known full same =
      absurd (too_large.0 (rw is refl) in_range)
  may_refuse OutOfIndexes is in_range site too_large known full same =
      let f = full.0 (rw is refl) in (
        record { in_range = in_range; site = site; fresh = fresh_if_unknown old.vertices p f.1 },
        f.2,
        ap (stage_by constraints) same,
      )
  may_refuse OutOfMemory is in_range site too_large known full same =
      let unknown : ¬ IsKnown (map position old.vertices) (position p) =
      λ k. (let ok = known in_range k in cc) in (
        record {
          in_range = in_range;
          site = site;
          fresh = fresh_if_unknown old.vertices p unknown;
        },
        (λ f. (let no = full.1 (in_range, unknown, f) in cc)),
        ap (stage_by constraints) same,
      )

-- where a vertex gave way, the mesh is as it was
pub mesh_kept : {V D U F : Type 0} (old new : State V D U F) (vertices : List V)
    → new ≡ record old { vertices = vertices } → new.mesh ≡ old.mesh
mesh_kept old new vertices e = ap (λ s. s.mesh) e
