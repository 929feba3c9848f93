-- Edges of a vertex are turned away, one after another.
-- Notions: HasTurned; turning_begins, turning_goes_on.
use Rattle.std.proofs.Common.{◌≡◌, ◌+◌, ◌-◌, ◌<◌, ◌≤◌, ◌∙◌, ℕ, refl, ap, arith}
use Rattle.std.specs.Global.{Vec}
use Rattle.std.specs.Prelude.{vec_capacity, vec_len}
use Rattle.half_edge_links.specs.{origin}
use Rattle.{half_edge_dcel.specs.Contents, half_edge_dcel.specs.IsMeshWithData, plane.specs.Point}
use Rattle.delaunay_legalization.specs.{IsTriangulated, state_of}
use Rattle.delaunay_vertices.specs.{StandsBeside, TurnsAway}
use Rattle.delaunay_vertices.proofs.DataStays.{all_stands, stands_turned}

-- vertex v lost edges by turns, and still has so many; what the turned ones join is listed, with
-- room for one more at each edge
pub record HasTurned {V D U F : Type 0} (old now : Contents V D U F) (v count : ℕ)
    (turned : Vec (ℕ × ℕ)) : Type 0 where
  pub contents : now ≡ record old { mesh = now.mesh }
  pub whole : IsMeshWithData now
  pub beside : StandsBeside old now v turned.items
  pub room : vec_len turned + count ≤ vec_capacity turned

-- before the first turn all is as it was
pub turning_begins : {V D U F : Type 0} {place : V → Point} {old : Contents V D U F} {v count : ℕ}
    {turned : Vec (ℕ × ℕ)} → IsTriangulated place (state_of old)
    → vec_len turned + count ≤ vec_capacity turned → HasTurned old old v count turned
turning_begins {old = old} {v = v} {turned = turned} kept room = record {
  contents = refl;
  whole = record { valid = kept.valid; fits = kept.fits };
  beside = all_stands old v turned.items;
  room = room;
}

-- a turn leaves one edge less
pub turning_goes_on : {V D U F : Type 0} {old now new : Contents V D U F} {v count edge : ℕ}
    {turned more : Vec (ℕ × ℕ)} → HasTurned old now v count turned → 0 < count
    → TurnsAway now new edge turned more → origin now.mesh edge ≡ v
    → HasTurned old new v (count - 1) more
turning_goes_on {V} {D} {U} {F} {old} {now} {new} {v} {count} {edge} so_far some t starts = record {
  contents = t.contents
      ∙ ap (λ (c : Contents V D U F). record c { mesh = new.mesh }) so_far.contents;
  whole = t.whole;
  beside = stands_turned old now new v edge so_far.beside t starts;
  room = let fits = so_far.room in let len = t.len in let capacity = t.capacity in
      omega (arith, fits, some, len, capacity);
}
