-- What is left of a walk from one item to the next.
-- Notions: Others, IsFirstOf; none_further, one_further, further, one_fewer, some_left, first_of,
-- starts_with, starts_at_vertex, walks_line, is_ready.
use Rattle.std.proofs.Common.{◌≡◌, ◌≢◌, ◌⊎◌, ◌+◌, ◌-◌, ◌<◌, ◌≤◌, [], ◌∷◌}
use Rattle.std.proofs.Common.{ℕ, List, length, map, Option, Some, None}
use Rattle.std.proofs.Common.{refl, sym, ap, subst, inl, inr, arith}
use Rattle.std.specs.Prelude.{ℤ}
use Rattle.std.proofs.lemmas.List.{length-map}
use Rattle.plane.specs.{at_vertex, IsLineList, IsSame, IsVertex, Item, Point, Triangulation, vertex}
use Rattle.plane.specs.{whole}
use Rattle.plane_theorems.specs.{IsFirst, IsLaid, IsWalk}
use Rattle.plane_theorems.proofs.{equal_ends, first_on_line, one_point}
use Rattle.plane_theorems.proofs.Segments.Walking.WalkSteps.{each_segment_has_walk}
use Rattle.plane_theorems.proofs.Segments.Walking.WalkSteps.{line_list_is_the_walk, rest_falls}
use Rattle.{half_edge_dcel.specs.Contents, plane_theorems.proofs.Segments.Walking.Steps.first_item}
use Rattle.{delaunay_core.specs.place_of, plane.proofs.decide_point, plane.proofs.same-refl}
use Rattle.delaunay_legalization.specs.{drawn, edges_of, IsEmbedding, point_at, state_of}
use Rattle.{delaunay_legalization.proofs.edges_counted, delaunay_location.proofs.MeshSteps.laid}
use Rattle.delaunay_location.specs.{FixedIntersection, IsNext, IsOverMesh, IsReady, item_of}
use Rattle.delaunay_location.specs.{Items.IsHandleOf, LineIntersectionIterator, Vertex, WalksLine}
use Rattle.delaunay_location.specs.Walk.{AreFrom, ComeAfter, Starts}

module _ {V D U F P : Type 0} {at : V → Point} {IsSite : P → Point → Type 0}
    {c : Contents V D U F} {tests : P} (embedding : IsEmbedding at IsSite c tests) (p q : Point)
    (i : FixedIntersection) (items : List Item) (left : AreFrom at c p q (Some i) items) where
  -- the others are left after the current one
  abbrev pub Others : Option FixedIntersection → Type 0
  Others r = (others : List Item) × (items ≡ item_of c.mesh i ∷ others) × AreFrom at c p q r others

  -- from a point to itself no item is left after the current one
  pub none_further : p ≡ q → Others None
  none_further same = (left.1.0, left.1.1, left.1.2.alone same)

  -- from p to another point q those from the next item on are left
  pub one_further : (apart : p ≢ q) (r : Option FixedIntersection)
      → IsNext at c p q (item_of c.mesh i) r → Others r
  one_further apart None last = (
    left.1.0,
    left.1.1,
    (rest_falls (drawn (map at c.vertices) c.mesh) (laid embedding)
        (whole p) (whole q) (λ e. apart (one_point p q e))).2 (item_of c.mesh i) left.1.0
        (left.1.2.goes_on apart)
        last,
  )
  one_further apart (Some n) next =
      let f = (rest_falls (drawn (map at c.vertices) c.mesh) (laid embedding)
      (whole p) (whole q)
      (λ e. apart (one_point p q e))).1 (item_of c.mesh i) (item_of c.mesh n) left.1.0
      (left.1.2.goes_on apart)
      next.1 in (
        left.1.0,
        left.1.1,
        (
          next.0,
          (
            f.0,
            f.1,
            record {
              met = λ _. next.1.met;
              goes_on = λ _. f.2;
              alone = λ e. absurd (apart e);
            },
          ),
        ),
      )

  -- either way those from what was found next are left
  pub further : (r : Option FixedIntersection) → (p ≡ q → r ≡ None)
      → (p ≢ q → IsNext at c p q (item_of c.mesh i) r) → Others r
  further r alone next = elim (decide_point p q) [
    | inl same ↦ subst Others (sym (alone same)) (none_further same)
    | inr apart ↦ one_further apart r (next apart)
  ]

-- one item fewer
pub one_fewer : (items others : List Item) (k : Item) (n : ℕ) → items ≡ k ∷ others
    → length items ≤ n → length others ≤ n - 1
one_fewer items others k n is few =
    let e = ap (λ (xs : List Item). length xs) is in
    omega (arith, e, few)

-- where items are left, a bound on their number is at least 1
pub some_left : (items others : List Item) (k : Item) (n : ℕ) → items ≡ k ∷ others
    → length items ≤ n → 1 ≤ n
some_left items others k n is few =
    let e = ap (λ (xs : List Item). length xs) is in
    omega (arith, e, few)

-- ---- where a walk begins
-- a first item, with what follows it
pub record IsFirstOf (t : Triangulation) (p q : Point) (k : Item) : Type 0 where
  pub others : List Item
  pub line_list : IsLineList t (whole p) (whole q) (k ∷ others)
  pub after : ComeAfter t p q k others
  pub few : length (k ∷ others) ≤ length t.points + length t.edges

-- an item that a segment meets first begins its line list
pub first_of : (t : Triangulation) (p q : Point) → IsLaid t → p ≢ q → (k : Item)
    → IsFirst t (whole p) (whole q) k → IsFirstOf t p q k
first_of t p q laid apart k first = go walks.0
  where
    ways_apart : ¬ IsSame (whole p) (whole q)
    ways_apart e = apart (one_point p q e)

    walks : ((items : List Item) × IsWalk t (whole p) (whole q) items) × ((items more : List Item)
        → IsWalk t (whole p) (whole q) items → IsWalk t (whole p) (whole q) more → items ≡ more)
        × ((items : List Item) → IsWalk t (whole p) (whole q) items
        → length items ≤ length t.points + length t.edges)
    walks = each_segment_has_walk t laid (whole p) (whole q) ways_apart

    go : (items : List Item) × IsWalk t (whole p) (whole q) items → IsFirstOf t p q k
    go w =
        let r = (rest_falls t laid (whole p) (whole q) ways_apart).3 k w.0 w.1 first in
        let walk = subst (IsWalk t (whole p) (whole q)) r.1 w.1 in
        record {
          others = r.0;
          line_list =
              (line_list_is_the_walk t laid (whole p) (whole q) ways_apart (k ∷ r.0)).1 walk;
          after =
              record { met = λ _. first.met; goes_on = λ _. r.2; alone = λ e. absurd (apart e) };
          few = walks.2 (k ∷ r.0) walk;
        }

first_vertex : (t : Triangulation) (p q : Point) → IsLaid t → p ≢ q → (v : ℕ) → IsVertex t v →
    IsSame (whole p) (vertex t v) → IsFirst t (whole p) (whole q) (at_vertex v)
first_vertex t p q (inl h) apart v is at =
    (first_item t h (whole p) (whole q) (λ e. apart (one_point p q e))).0 v is at
first_vertex t p q (inr l) apart v is at =
    (first_on_line t l.0 l.1 l.2 (whole p) (whole q) (λ e. apart (one_point p q e))).0 v is at

-- at a vertex
begins_at_vertex : (t : Triangulation) (p q : Point) → IsLaid t → (p ≡ q) ⊎ (p ≢ q) → (v : ℕ)
    → IsVertex t v → IsSame (whole p) (vertex t v) → IsFirstOf t p q (at_vertex v)
begins_at_vertex t p q laid (inr apart) v is at =
    first_of t p q laid apart (at_vertex v) (first_vertex t p q laid apart v is at)
begins_at_vertex t p q laid (inl same) v is at = record {
  others = [];
  line_list =
      (equal_ends t (whole p) (whole q) (subst (λ (z : Point). IsSame (whole p) (whole z)) same
      (same-refl (whole p)))).0 v is at;
  after = record { met = λ n. absurd (n same); goes_on = λ n. absurd (n same); alone = λ _. refl };
  few = omega (arith, is);
}

-- ---- the same of a mesh
module _ {V D U F P : Type 0} {at : V → Point} {IsSite : P → Point → Type 0}
    {c : Contents V D U F} {tests : P} (embedding : IsEmbedding at IsSite c tests) where
  few_in : (n : ℕ) → n ≤ length (map at c.vertices) + length (edges_of c.mesh) →
      n ≤ length c.vertices + length c.undirected
  few_in n h =
      let e = length-map c.vertices at in
      let f = edges_counted c (record { valid = embedding.kept.valid; fits = embedding.kept.fits })
      in
      omega (arith, h, e, f)

  -- an item that begins the line list, by a handle of the mesh, is where the walk starts
  pub starts_with : {p q : Point} (i : FixedIntersection) → IsHandleOf c i →
      IsFirstOf (drawn (map at c.vertices) c.mesh) p q (item_of c.mesh i) → Starts at c p q (Some i)
  starts_with i here b = record {
    items = item_of c.mesh i ∷ b.others;
    line_list = b.line_list;
    are_from = (here, (b.others, refl, b.after));
    few = few_in (length (item_of c.mesh i ∷ b.others)) b.few;
  }

  -- where p is a vertex, the walk starts at it
  pub starts_at_vertex : {p q : Point} (v : ℕ) → v < length c.vertices
      → p ≡ point_at (map at c.vertices) v →
      Starts at c p q (Some (Vertex v))
  starts_at_vertex {p = p} {q = q} v here is = starts_with (Vertex v) here
      (begins_at_vertex (drawn (map at c.vertices) c.mesh) p q (laid embedding)
      (decide_point p q)
      v
      (subst (λ (n : ℕ). v < n) (sym (length-map c.vertices at)) here)
      (subst (λ (z : Point). IsSame (whole p) (whole z)) is (same-refl (whole p))))

-- an iterator at the first item of the line list walks it
module _ {V D U F P S : Type 0} {at : V → Point} {number : S → ℤ}
    {it : LineIntersectionIterator V D U F P S}
    (first : Starts at it.dcel.now (place_of number it.from) (place_of number it.to)
    it.current) where
  pub walks_line : WalksLine at number (state_of it.dcel.now) (place_of number it.from)
      (place_of number it.to) it
  walks_line = record {
    state = refl;
    items = first.items;
    line_list = first.line_list;
    are_left = first.are_from;
  }

  -- and is ready, if it counts each item
  pub is_ready : {IsSite IsCovered : P → Point → Type 0}
      → IsOverMesh at IsSite IsCovered it.dcel.now it.tests.now (place_of number it.from)
      (place_of number it.to)
      → length it.dcel.now.vertices + length it.dcel.now.undirected ≤ it.left
      → IsReady at number IsSite IsCovered it
  is_ready over counted = record {
    over = over;
    items = first.items;
    are_left = first.are_from;
    few = omega (arith, first.few, counted);
  }
