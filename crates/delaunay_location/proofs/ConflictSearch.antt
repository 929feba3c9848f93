-- The search for the next conflict along a walk.
-- Notions: IsSearching; searching_begins, searching_goes_on, found, searching_ends.
use Rattle.std.proofs.Common.{◌≡◌, ◌/◌, ◌<◌, ◌≤◌, [], ◌∷◌, ◌++◌}
use Rattle.std.proofs.Common.{append-nil, ℕ, List, length, Some, None, refl, sym, ap}
use Rattle.std.proofs.Common.{◌∙◌, subst, append_assoc, inl, inr, arith}
use Rattle.std.specs.Prelude.{ℤ, Contains}
use Rattle.std.specs.Borrow.{Bor}
use Rattle.std.proofs.lemmas.List.Elements.{Contains-push_cases}
use Rattle.plane.specs.{across, along, at_vertex, EachPairOnce, Item, Point}
use Rattle.half_edge_links.specs.{origin, rev}
use Rattle.plane_theorems.proofs.{Contains-none}
use Rattle.half_edge_dcel.specs.{Contents, DirectedEdgeHandle}
use Rattle.delaunay_legalization.specs.{edges_of, IsEmbedding}
use Rattle.delaunay_legalization.proofs.{one_value, one_way}
use Rattle.delaunay_location.specs.{AreLeft, EdgeIntersection, EdgeOverlap, GivesConflict}
use Rattle.delaunay_location.specs.{GivesNext, HasNoConflict, Intersection, IsConflict, IsReady}
use Rattle.delaunay_location.specs.{item_in, LineIntersectionIterator, mesh_of, VertexIntersection}
use Rattle.delaunay_location.specs.{Conflicts.IsConflictOf, Items.crossed_edge}
use Rattle.delaunay_location.proofs.MeshSteps.{in_mesh, laid}

-- the ends of an item
abbrev first_end : Item → ℕ
first_end (at_vertex v) = v
first_end (across a b) = a
first_end (along a b) = a

abbrev second_end : Item → ℕ
second_end (at_vertex v) = v
second_end (across a b) = b
second_end (along a b) = b

abbrev IsAcrossItem : Item → Type 0
IsAcrossItem (at_vertex v) = ⊥
IsAcrossItem (across a b) = Unit {0}
IsAcrossItem (along a b) = ⊥

some_none : {X : Type 0} (x : X) → ¬ (Some x ≡ None)
some_none x e = cc

none_some : {X : Type 0} (x : X) → ¬ (None ≡ Some x)
none_some x e = cc

module _ {V D U F P : Type 0} {at : V → Point} {IsSite : P → Point → Type 0}
    {c : Contents V D U F} {tests : P} (embedding : IsEmbedding at IsSite c tests)
    (constraints : List U → List ℕ) where
  -- no two edges of the mesh have the same ends
  once : EachPairOnce (edges_of c.mesh)
  once = elim (laid embedding) [
    | inl tiles ↦ tiles.once
    | inr l ↦ l.0.once
  ]

  -- an edge that is no constraint is no conflict
  unmarked : (e : ℕ) → e < length c.directed → ¬ Contains (constraints c.undirected) (e / 2)
      → ¬ IsConflict constraints c (across (origin c.mesh e) (origin c.mesh (rev e)))
  unmarked e within off k =
      off (subst (λ (x : ℕ). Contains (constraints c.undirected) (x / 2)) same k.3)
    where
      same : k.0 ≡ e
      same = one_way c.mesh embedding.kept.valid once e k.0
          (in_mesh embedding e within) (in_mesh embedding k.0 k.1)
          (sym (ap first_end k.2), sym (ap second_end k.2))

-- one more item, which is no conflict
one_more : {V D U F : Type 0} (constraints : List U → List ℕ) (c : Contents V D U F)
    (passed : List Item) (k : Item) → HasNoConflict constraints c passed
    → ¬ IsConflict constraints c k → HasNoConflict constraints c (passed ++ k ∷ [])
one_more constraints c passed k none clear j x =
    elim (Contains-push_cases passed k j x) as (λ _. ¬ IsConflict constraints c j) [
      | inl y ↦ none j y
      | inr e ↦ subst (λ (z : Item). ¬ IsConflict constraints c z) e clear
    ]

module _ {V D U F P S : Type 0} (at : V → Point) (number : S → ℤ)
    (IsSite IsCovered : P → Point → Type 0) (constraints : List U → List ℕ) where
  -- what was passed of the walk
  pub record IsSearching (start now : LineIntersectionIterator V D U F P S) : Type 0 where
    pub ready : IsReady at number IsSite IsCovered now
    pub same_mesh : now.dcel ≡ start.dcel
    pub fewer : now.left ≤ start.left
    pub passed : (items : List Item) → AreLeft at number start items
        → (passed : List Item) × (others : List Item) × (items ≡ passed ++ others)
        × HasNoConflict constraints start.dcel.now passed × AreLeft at number now others

module _ {V D U F P S : Type 0} {at : V → Point} {number : S → ℤ}
    {IsSite IsCovered : P → Point → Type 0} {constraints : List U → List ℕ} where
  -- a search begins before the first item
  pub searching_begins : {start : LineIntersectionIterator V D U F P S}
      → IsReady at number IsSite IsCovered start
      → IsSearching at number IsSite IsCovered constraints start start
  searching_begins ready = record {
    ready = ready;
    same_mesh = refl;
    fewer = omega arith;
    passed = λ items left. ([], items, refl, (λ k x. absurd (Contains-none k x)), left);
  }

  module _ {start now : LineIntersectionIterator V D U F P S}
      (searching : IsSearching at number IsSite IsCovered constraints start now) where
    -- no conflict of the mesh of the walk: neither a vertex nor an overlap, nor an edge that is no
    -- constraint
    no_crossing_item : (x : Intersection V D U F) → crossed_edge x ≡ None → mesh_of x ≡ now.dcel →
        ¬ IsConflict constraints start.dcel.now (item_in x)
    no_crossing_item (EdgeIntersection e) is mesh k = absurd (some_none e is)
    no_crossing_item (VertexIntersection v) is mesh k = subst IsAcrossItem (sym k.2) tt
    no_crossing_item (EdgeOverlap e) is mesh k = subst IsAcrossItem (sym k.2) tt

    unmarked_item : (x : Intersection V D U F) (e : DirectedEdgeHandle V D U F)
        → crossed_edge x ≡ Some e → mesh_of x ≡ now.dcel
        → ¬ Contains (constraints e.dcel.now.undirected) (e.index / 2)
        → ¬ IsConflict constraints start.dcel.now (item_in x)
    unmarked_item (EdgeIntersection y) e is mesh off k =
        unmarked searching.ready.over.embedding constraints y.index
        (subst (λ (d : Bor (Contents V D U F)). y.index < length d.now.directed) mesh y.in_range)
        (λ z. off
        (subst (λ (h : DirectedEdgeHandle V D U F). Contains (constraints h.dcel.now.undirected)
        (h.index / 2)) (one_value y e is) (subst (λ (d : Bor (Contents V D U F)).
        Contains (constraints d.now.undirected) (y.index / 2)) (sym mesh) z)))
        (subst (λ (d : Bor (Contents V D U F)). IsConflict constraints d.now
        (across (origin d.now.mesh y.index) (origin d.now.mesh (rev y.index))))
        (sym searching.same_mesh)
        (subst (λ (d : Bor (Contents V D U F)). IsConflict constraints start.dcel.now
        (across (origin d.now.mesh y.index) (origin d.now.mesh (rev y.index))))
        (mesh ∙ searching.same_mesh) k))
    unmarked_item (VertexIntersection v) e is mesh off k = subst IsAcrossItem (sym k.2) tt
    unmarked_item (EdgeOverlap o) e is mesh off k = subst IsAcrossItem (sym k.2) tt

    -- ---- one call of the walk
    module _ {x : Intersection V D U F} {after : LineIntersectionIterator V D U F P S}
        (gives : GivesNext at number now (Some x) after) where
      missed : (z : Intersection V D U F) → mesh_of z ≡ now.dcel → IsConflictOf constraints z None →
          ¬ IsConflict constraints start.dcel.now (item_in z)
      missed (EdgeIntersection y) mesh none =
          unmarked_item (EdgeIntersection y) y refl mesh (none y refl)
      missed (VertexIntersection v) mesh none = no_crossing_item (VertexIntersection v) refl mesh
      missed (EdgeOverlap o) mesh none = no_crossing_item (EdgeOverlap o) refl mesh

      passes : IsConflictOf constraints x None → ¬ IsConflict constraints start.dcel.now (item_in x)
      passes none = missed x (gives.gives searching.ready.items searching.ready.are_left).0 none

      -- an item that is no conflict is passed
      pub searching_goes_on : IsReady at number IsSite IsCovered after → after.left < now.left →
          IsConflictOf constraints x None
          → IsSearching at number IsSite IsCovered constraints start after
      searching_goes_on ready less none = record {
        ready = ready;
        same_mesh = gives.same_mesh ∙ searching.same_mesh;
        fewer = let before = searching.fewer in omega (arith, less, before);
        passed = λ items left.
            let b = searching.passed items left in
            let n = gives.gives b.1 b.4 in (
              b.0 ++ item_in x ∷ [],
              n.1.0,
              b.2 ∙ ap (λ (l : List Item). b.0 ++ l) n.1.1 ∙ push_middle b.0 (item_in x) n.1.0,
              one_more constraints start.dcel.now b.0 (item_in x) b.3 (passes none),
              n.1.2,
            );
      }
        where
          push_middle : (xs : List Item) (k : Item) (ys : List Item)
              → xs ++ k ∷ ys ≡ (xs ++ k ∷ []) ++ ys
          push_middle xs k ys = sym (append_assoc xs (k ∷ []) ys)

    -- the first conflict
    found_here : (y : DirectedEdgeHandle V D U F) (after : LineIntersectionIterator V D U F P S) →
        GivesNext at number now (Some (EdgeIntersection y)) after
        → Contains (constraints y.dcel.now.undirected) (y.index / 2) →
        GivesConflict at number constraints start (Some y) after
    found_here y after gives marked = record {
      same_mesh = gives.same_mesh ∙ searching.same_mesh;
      gives = λ items left.
          let b = searching.passed items left in
          let n = gives.gives b.1 b.4 in
          let mesh = n.0 ∙ searching.same_mesh in (
            mesh,
            record {
              passed = b.0;
              others = n.1.0;
              all = subst
                  (λ (d : Bor (Contents V D U F)). items ≡ b.0 ++ across (origin d.now.mesh y.index)
                  (origin d.now.mesh (rev y.index))
                  ∷ n.1.0) mesh (b.2 ∙ ap (λ (l : List Item). b.0 ++ l) n.1.1);
              none_passed = b.3;
              constraint = subst (λ (d : Bor (Contents V D U F)). Contains
                  (constraints d.now.undirected) (y.index / 2))
                  mesh marked;
              are_left = n.1.2;
            },
          );
    }

    -- an edge that is crossed and a constraint is the first conflict
    pub found : (x : Intersection V D U F) (e : DirectedEdgeHandle V D U F)
        (after : LineIntersectionIterator V D U F P S) → GivesNext at number now (Some x) after →
        crossed_edge x ≡ Some e
        → Contains (constraints e.dcel.now.undirected) (e.index / 2) →
        GivesConflict at number constraints start (Some e) after
    found (EdgeIntersection y) e after gives is marked =
        subst (λ (h : DirectedEdgeHandle V D U F). GivesConflict at number constraints start
        (Some h) after) same
        (found_here y after gives (subst (λ (h : DirectedEdgeHandle V D U F).
        Contains (constraints h.dcel.now.undirected) (h.index / 2)) (sym same) marked))
      where
        same : y ≡ e
        same = cc
    found (VertexIntersection v) e after gives is marked = absurd (none_some e is)
    found (EdgeOverlap o) e after gives is marked = absurd (none_some e is)

    -- where no item is left, there is no conflict
    pub searching_ends : {after : LineIntersectionIterator V D U F P S}
        → GivesNext at number now None after → GivesConflict at number constraints start None after
    searching_ends gives = record {
      same_mesh = gives.same_mesh ∙ searching.same_mesh;
      gives = λ items left.
          let b = searching.passed items left in
          let n = gives.gives b.1 b.4 in (
            subst (HasNoConflict constraints start.dcel.now)
                (sym (b.2 ∙ ap (λ (l : List Item). b.0 ++ l) n.0 ∙ append-nil b.0)) b.3,
            n.1,
          );
    }
