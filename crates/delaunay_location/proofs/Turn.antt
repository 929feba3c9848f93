-- One call of the iterator along a segment.
-- Notions: IsAfterItem, IsItemIn; alone_after, apart_after, edge_found, vertex_found,
-- overlap_found, at_item, counts_more, gives_some, ready_after.
use Rattle.std.proofs.Common.{◌≡◌, ◌≢◌, ◌↔◌, ◌-◌, ◌≤◌, ◌∷◌, ◌∙◌, Bool, false, IsTrue}
use Rattle.std.proofs.Common.{ℕ, List, Option, Some, None, refl, sym, ap, subst}
use Rattle.std.specs.Borrow.{Bor}
use Rattle.std.specs.Prelude.{ℤ}
use Rattle.half_edge_dcel.specs.{Contents, DirectedEdgeHandle, VertexHandle}
use Rattle.delaunay_core.specs.{place_of}
use Rattle.delaunay_location.specs.{AreLeft, Edge, EdgeIntersection, EdgeOverlap, FixedIntersection}
use Rattle.delaunay_location.specs.{GivesNext, Intersection, IsNext, IsReady, item_in, item_of}
use Rattle.delaunay_location.specs.{LineIntersectionIterator, mesh_of, Overlap, Vertex}
use Rattle.delaunay_location.specs.{Over.IsAtItem, VertexIntersection, Walk.AreFrom}
use Rattle.delaunay_location.proofs.Advance.{further, one_fewer, some_left}
use Rattle.{delaunay_location.proofs.SegmentTests.unless, plane.specs.Item, plane.specs.Point}

-- item j is item i, after which nothing comes from a point to itself, and r from p to another
-- point q
pub record IsAfterItem {V D U F : Type 0} (at : V → Point) (c : Contents V D U F) (p q : Point)
    (i j : FixedIntersection) (r : Option FixedIntersection) : Type 0 where
  pub same : j ≡ i
  pub alone : p ≡ q → r ≡ None
  pub next : p ≢ q → IsNext at c p q (item_of c.mesh i) r

module _ {V D U F : Type 0} {at : V → Point} {c : Contents V D U F} {p q : Point}
    {i j : FixedIntersection} where
  pub alone_after : p ≡ q → j ≡ i → IsAfterItem at c p q i j None
  alone_after ends same =
      record { same = same; alone = λ _. refl; next = λ apart. absurd (apart ends) }

  pub apart_after : {r : Option FixedIntersection} → p ≢ q
      → IsNext at c p q (item_of c.mesh i) r → j ≡ i → IsAfterItem at c p q i j r
  apart_after apart next same =
      record { same = same; alone = λ ends. absurd (apart ends); next = λ _. next }

-- item i, by a handle that has the mesh
pub record IsItemIn {V D U F : Type 0} (d : Bor (Contents V D U F)) (i : FixedIntersection)
    (x : Intersection V D U F) : Type 0 where
  pub item : item_in x ≡ item_of d.now.mesh i
  pub mesh : mesh_of x ≡ d

module _ {V D U F : Type 0} {d : Bor (Contents V D U F)} {k : ℕ} where
  pub edge_found : {h : DirectedEdgeHandle V D U F} → h.dcel ≡ d → h.index ≡ k
      → IsItemIn d (Edge k) (EdgeIntersection h)
  edge_found mesh is = record { item = rw (mesh, is) refl; mesh = mesh }

  pub vertex_found : {h : VertexHandle V D U F} → h.dcel ≡ d → h.index ≡ k
      → IsItemIn d (Vertex k) (VertexIntersection h)
  vertex_found mesh is = record { item = rw is refl; mesh = mesh }

  pub overlap_found : {h : DirectedEdgeHandle V D U F} → h.dcel ≡ d → h.index ≡ k
      → IsItemIn d (Overlap k) (EdgeOverlap h)
  overlap_found mesh is = record { item = rw (mesh, is) refl; mesh = mesh }

module _ {V D U F P S : Type 0} {at : V → Point} {number : S → ℤ}
    {IsSite IsCovered : P → Point → Type 0} {it : LineIntersectionIterator V D U F P S}
    (ready : IsReady at number IsSite IsCovered it) {i : FixedIntersection}
    (is : it.current ≡ Some i) where
  abbrev p : Point
  p = place_of number it.from

  abbrev q : Point
  q = place_of number it.to

  from_here : (items : List Item) → AreLeft at number it items
      → AreFrom at it.dcel.now p q (Some i) items
  from_here items left =
      subst (λ (o : Option FixedIntersection). AreFrom at it.dcel.now p q o items) is left

  -- the segment is at the item, if its ends differ
  pub at_item : {k : FixedIntersection} → i ≡ k → {b : Bool} → IsTrue b ↔ (p ≡ q) → b ≡ false
      → IsAtItem at number (record { dcel = it.dcel.now; tests = it.tests.now }) it.from it.to
      IsCovered k
  at_item named same differs = let here = from_here ready.items ready.are_left in
      rw (← named) (record {
        within = here.0;
        ends = record {
          from_covered = ready.over.from_covered;
          to_covered = ready.over.to_covered;
          apart = unless same differs;
        };
        met = here.1.2.met (unless same differs);
      })

  -- the bound on the items that are left is at least 1
  pub counts_more : 1 ≤ it.left
  counts_more = some_left ready.items (from_here ready.items ready.are_left).1.0
      (item_of it.dcel.now.mesh i) it.left
      (from_here ready.items ready.are_left).1.1 ready.few

  module _ {j : FixedIntersection} {r : Option FixedIntersection}
      (goes : IsAfterItem at it.dcel.now p q i j r) where
    abbrev after : LineIntersectionIterator V D U F P S
    after = record it { current = r; left = it.left - 1 }

    others : (items : List Item) → AreLeft at number it items → (others : List Item)
        × (items ≡ item_of it.dcel.now.mesh i ∷ others) × AreLeft at number after others
    others items left = further ready.over.embedding p q i items (from_here items left) r
        goes.alone goes.next

    -- an answer with the current item of the same mesh gives what is next
    pub gives_some : {x : Intersection V D U F} → IsItemIn it.dcel j x
        → GivesNext at number it (Some x) after
    gives_some found = record {
      same_mesh = refl;
      gives =
          λ items left. let o = others items left in
          let is = found.item ∙ ap (item_of it.dcel.now.mesh) goes.same in
          (found.mesh, (o.0, o.1 ∙ ap (λ (k : Item). k ∷ o.0) (sym is), o.2));
      stays = tt;
    }

    -- the iterator is ready after that
    pub ready_after : IsReady at number IsSite IsCovered after
    ready_after = record {
      over = ready.over;
      items = (others ready.items ready.are_left).0;
      are_left = (others ready.items ready.are_left).2;
      few = one_fewer ready.items (others ready.items ready.are_left).0
          (item_of it.dcel.now.mesh i) it.left
          (others ready.items ready.are_left).1 ready.few;
    }
