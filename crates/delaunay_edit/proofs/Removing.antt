-- A vertex goes from a triangulation.
-- Lemmas: read_place, sites_left, fewer_left, outer_stays, removed_on.
use Rattle.std.proofs.Common.{◌≡◌, ◌∙◌, ◌-◌, ◌≤◌}
use Rattle.std.proofs.Common.{ℕ, List, length, map, Some, sym, ap, subst, arith}
use Rattle.std.specs.Prelude.{All, pos, slice_get, Result, Ok, Err, OnOk, OnErr}
use Rattle.std.proofs.lemmas.List.{length-map, get_or-map}
use Rattle.std.proofs.lemmas.Option.{get_or_from_slice_get, slice_get_within}
use Rattle.half_edge_links.proofs.{length-swap_remove, map-swap_remove}
use Rattle.{half_edge_dcel.specs.Contents, plane.specs.PlainEdits.Drops, plane.specs.Point}
use Rattle.delaunay_legalization.specs.{constraints_by, point_at, points_and_constraints_by}
use Rattle.{delaunay_legalization.specs.State.State, delaunay_legalization.specs.state_of}
use Rattle.{delaunay_vertices.proofs.Removing.all_left, delaunay_vertices.specs.KeepsDataOfOthers}

-- the data that are read at an index have the position that stands there
pub read_place : {V : Type 0} (place : V → Point) (vs : List V) (i : ℕ) (v : V)
    → slice_get vs i ≡ Some v → point_at (map place vs) i ≡ place v
read_place place vs i v e =
    get_or-map place vs i v (record { x = pos 0; y = pos 0 }) (slice_get_within vs i v e)
    ∙ ap place (get_or_from_slice_get vs i v v e)

-- ---- what is left
module _ {V D U F : Type 0} (place : V → Point) (constraints : List U → List ℕ)
    (old new : State V D U F) (v : ℕ) (value : V) {J : ℕ → ℕ → Type 0} (removes : Drops place J
    (points_and_constraints_by constraints old) (points_and_constraints_by constraints new) v) where
  count : length new.vertices ≡ length old.vertices - 1
  count = ap (λ vs. length vs) (removes.vertices value) ∙ length-swap_remove old.vertices v value

  -- the positions that are left are sites as before
  pub sites_left : (sites : Point → Type 0) → All sites (map place old.vertices)
      → All sites (map place new.vertices)
  sites_left sites all =
      let within = removes.here in
      subst (λ (ps : List Point). All sites ps) (sym (ap (map place) (removes.vertices value)
      ∙ map-swap_remove place old.vertices v value))
      (all_left sites (map place old.vertices) v (place value)
      (omega (arith, within, length-map old.vertices place)) all)

  -- there are no more vertices than before
  pub fewer_left : length new.vertices ≤ length old.vertices
  fewer_left = omega (arith, count)

-- the outer face keeps its data, and so it does where a removal was refused
pub outer_stays : {V D U F E : Type 0} (old new : State V D U F) (v : ℕ) (r : Result V E)
    → OnOk r (KeepsDataOfOthers old new v) → OnErr r (new ≡ old) → new.outer ≡ old.outer
outer_stays old new v (Ok value) kept same = kept.outer
outer_stays old new v (Err e) kept same = ap (λ s. s.outer) same

-- edges are flipped afterwards
pub removed_on : {V D U F : Type 0} (place : V → Point) (constraints : List U → List ℕ)
    (old : State V D U F) (mid new : Contents V D U F) (v : ℕ) {J : ℕ → ℕ → Type 0}
    → Drops place J (points_and_constraints_by constraints old)
    (points_and_constraints_by constraints (state_of mid)) v → new ≡ record mid { mesh = new.mesh }
    → constraints_by constraints (state_of new) ≡ constraints_by constraints (state_of mid)
    → Drops place J (points_and_constraints_by constraints old)
    (points_and_constraints_by constraints (state_of new)) v
removed_on {V = V} {D = D} {U = U} {F = F} place constraints old mid new v {J = J} removes contents
    pairs =
    subst (λ (x : List V × List (ℕ × ℕ)). Drops place J (points_and_constraints_by constraints old)
    (record { vertices = x.0; constraints = x.1 }) v)
    (λ o. (sym (ap (λ (c : Contents V D U F). c.vertices) contents) o, sym pairs o)) removes
