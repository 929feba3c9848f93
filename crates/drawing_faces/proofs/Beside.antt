-- The faces beside the sides of holes, one item and one side after another.
-- Notions: AddsPassed; left_append, adds_nothing, adds_more, passed_none, passed_more, passed_all,
-- beside_append, beside_one, beside_none, beside_more, beside_within, sides_next.
use Rattle.std.proofs.Common.{◌≡◌, ◌+◌, ◌<◌, ◌≤◌, [], ◌∷◌, ◌++◌, ◌∙◌}
use Rattle.std.proofs.Common.{ℕ, List, length, map, take, get_or, Some, None, refl, sym, ap, subst}
use Rattle.std.proofs.Common.{append-nil, append_assoc}
use Rattle.std.specs.Prelude.{ℤ, All}
use Rattle.std.specs.Borrow.{Bor}
use Rattle.std.proofs.lemmas.List.{map_more}
use Rattle.std.proofs.lemmas.List.Elements.{All-append, All-nil}
use Rattle.plane.specs.{across, along, at_vertex, Item, Point}
use Rattle.{delaunay_core.specs.Point2, half_edge_dcel.specs.Contents}
use Rattle.{delaunay_legalization.specs.State.State, delaunay_legalization.specs.state_of}
use Rattle.delaunay_location.specs.{AreLeft, GivesNext, Intersection, IsReady, item_in}
use Rattle.delaunay_location.specs.{LineIntersectionIterator, mesh_of, Walk.WalksBetween}
use Rattle.drawing_faces.specs.{AddsBeside, DrawnSegment, ends_of, position}
use Rattle.drawing_faces.specs.Sides.{AddsOnLeft, AreBeside, AreOnLeft}

-- ---- items
module _ {V D U F : Type 0} (s : State V D U F) where
  -- behind some items come others
  pub left_append : (items others : List Item) (here there : List ℕ)
      → AreOnLeft s items here → AreOnLeft s others there
      → AreOnLeft s (items ++ others) (here ++ there)
  left_append [] others here there none behind =
      subst (λ (fs : List ℕ). AreOnLeft s others (fs ++ there)) (sym none) behind
  left_append (at_vertex i ∷ items) others here there on behind =
      left_append items others here there on behind
  left_append (across i j ∷ items) others here there on behind =
      left_append items others here there on behind
  left_append (along i j ∷ items) others here there (h, below, from, to, (rest, all, on)) behind = (
    h,
    below,
    from,
    to,
    (
      rest ++ there,
      ap (λ (fs : List ℕ). fs ++ there) all,
      left_append items others rest there on behind,
    ),
  )

  -- nothing comes behind
  pub adds_nothing : (faces : List ℕ) → AddsOnLeft s [] faces faces
  adds_nothing faces = record {
    here = [];
    on_left = refl;
    faces = sym (append-nil faces);
    within = All-nil (λ f. f ≤ length s.faces);
  }

  -- one item more
  pub adds_more : (items others : List Item) (old mid new : List ℕ) → AddsOnLeft s items old mid
      → AddsOnLeft s others mid new → AddsOnLeft s (items ++ others) old new
  adds_more items others old mid new before behind = record {
    here = before.here ++ behind.here;
    on_left = left_append items others before.here behind.here before.on_left behind.on_left;
    faces = behind.faces ∙ ap (λ (fs : List ℕ). fs ++ behind.here) before.faces
        ∙ append_assoc old before.here behind.here;
    within = All-append (λ f. f ≤ length s.faces) before.here behind.here before.within
        behind.within;
  }

-- ---- a way
module _ {V D U F P S : Type 0} (at : V → Point) (number : S → ℤ)
    (IsSite IsCovered : P → Point → Type 0) where
  -- the faces beside what was passed of a way are there
  pub record AddsPassed (start now : LineIntersectionIterator V D U F P S) (old new : List ℕ) :
      Type 0 where
    pub ready : IsReady at number IsSite IsCovered now
    pub same_mesh : now.dcel ≡ start.dcel
    pub passed : (items : List Item) → AreLeft at number start items
        → (done : List Item) × (others : List Item) × (items ≡ done ++ others)
        × AreLeft at number now others × AddsOnLeft (state_of start.dcel.now) done old new

  -- a way begins before the first item
  pub passed_none : (start : LineIntersectionIterator V D U F P S) (faces : List ℕ)
      → IsReady at number IsSite IsCovered start → AddsPassed start start faces faces
  passed_none start faces ready = record {
    ready = ready;
    same_mesh = refl;
    passed = λ items left.
        ([], items, refl, left, adds_nothing (state_of start.dcel.now) faces);
  }

  module _ (start now after : LineIntersectionIterator V D U F P S) (old mid : List ℕ)
      (so_far : AddsPassed start now old mid) where
    -- one item more
    pub passed_more : (x : Intersection V D U F) (new : List ℕ)
        → GivesNext at number now (Some x) after → IsReady at number IsSite IsCovered after
        → AddsOnLeft (state_of (mesh_of x).now) (item_in x ∷ []) mid new
        → AddsPassed start after old new
    passed_more x new gives ready adds = record {
      ready = ready;
      same_mesh = gives.same_mesh ∙ so_far.same_mesh;
      passed = λ items left.
          let b = so_far.passed items left in
          let n = gives.gives b.1 b.3 in
          let mesh : mesh_of x ≡ start.dcel = n.0 ∙ so_far.same_mesh in (
            b.0 ++ item_in x ∷ [],
            n.1.0,
            b.2 ∙ ap (λ (l : List Item). b.0 ++ l) n.1.1
                ∙ sym (append_assoc b.0 (item_in x ∷ []) n.1.0),
            n.1.2,
            adds_more (state_of start.dcel.now) b.0 (item_in x ∷ []) old mid new b.4
                (subst (λ (d : Bor (Contents V D U F)).
                AddsOnLeft (state_of d.now) (item_in x ∷ []) mid new) mesh adds),
          );
    }

    -- where no item is left, all were passed
    pub passed_all : GivesNext at number now None after → (items : List Item)
        → AreLeft at number start items → AddsOnLeft (state_of start.dcel.now) items old mid
    passed_all gives items left =
        let b = so_far.passed items left in
        let n = gives.gives b.1 b.3 in
        subst (λ (l : List Item). AddsOnLeft (state_of start.dcel.now) l old mid)
        (sym (b.2 ∙ ap (λ (l : List Item). b.0 ++ l) n.0 ∙ append-nil b.0)) b.4

-- ---- sides
module _ {D U F : Type 0} (s : State (Point2 ℤ) D U F) where
  -- behind some sides come others
  pub beside_append : (es others : List (ℕ × ℕ)) (here there : List ℕ)
      → AreBeside s es here → AreBeside s others there
      → AreBeside s (es ++ others) (here ++ there)
  beside_append [] others here there none behind =
      subst (λ (fs : List ℕ). AreBeside s others (fs ++ there)) (sym none) behind
  beside_append (e ∷ es) others here there (items, meets, (first, on, (rest, all, more))) behind = (
    items,
    meets,
    (
      first,
      on,
      (
        rest ++ there,
        ap (λ (fs : List ℕ). fs ++ there) all ∙ append_assoc first rest there,
        beside_append es others rest there more behind,
      ),
    ),
  )

  -- one side, by what is left of a way along it
  pub beside_one : {P : Type 0} (e : ℕ × ℕ) (way : LineIntersectionIterator (Point2 ℤ) D U F P ℤ)
      (old new : List ℕ) → WalksBetween position (λ z. z) s e.0 e.1 way
      → ((items : List Item) → AreLeft position (λ z. z) way items
      → AddsOnLeft (state_of way.dcel.now) items old new) → AddsBeside s (e ∷ []) old new
  beside_one e way old new line adds_left =
      let adds : AddsOnLeft s line.items old new =
      subst (λ (t : State (Point2 ℤ) D U F). AddsOnLeft t line.items old new) line.state
      (adds_left line.items line.are_left) in
      record {
        here = adds.here;
        beside = (
          line.items,
          line.line_list,
          (adds.here, adds.on_left, ([], sym (append-nil adds.here), refl)),
        );
        faces = adds.faces;
        within = adds.within;
      }

  -- none
  pub beside_none : (faces : List ℕ) → AddsBeside s [] faces faces
  beside_none faces = record {
    here = [];
    beside = refl;
    faces = sym (append-nil faces);
    within = All-nil (λ f. f ≤ length s.faces);
  }

  -- some sides more
  pub beside_more : (es others : List (ℕ × ℕ)) (old mid new : List ℕ) → AddsBeside s es old mid
      → AddsBeside s others mid new → AddsBeside s (es ++ others) old new
  beside_more es others old mid new before behind = record {
    here = before.here ++ behind.here;
    beside = beside_append es others before.here behind.here before.beside behind.beside;
    faces = behind.faces ∙ ap (λ (fs : List ℕ). fs ++ behind.here) before.faces
        ∙ append_assoc old before.here behind.here;
    within = All-append (λ f. f ≤ length s.faces) before.here behind.here before.within
        behind.within;
  }

  -- all of them are faces
  pub beside_within : (sides : List (ℕ × ℕ)) (old new : List ℕ) → AddsBeside s sides old new
      → All (λ f. f ≤ length s.faces) old → All (λ f. f ≤ length s.faces) new
  beside_within sides old new adds within = subst (All (λ f. f ≤ length s.faces)) (sym adds.faces)
      (All-append (λ f. f ≤ length s.faces) old adds.here within adds.within)

  -- the next side
  pub sides_next : (vertices : List ℕ) (sides : List DrawnSegment) (i : ℕ) (d : DrawnSegment)
      (e : ℕ × ℕ) (old mid new : List ℕ) → i < length sides
      → e ≡ ends_of vertices (get_or sides i d)
      → AddsBeside s (map (ends_of vertices) (take i sides)) old mid
      → AddsBeside s (e ∷ []) mid new
      → AddsBeside s (map (ends_of vertices) (take (i + 1) sides)) old new
  sides_next vertices sides i d e old mid new within is before here =
      subst (λ (es : List (ℕ × ℕ)). AddsBeside s es old new)
      (sym (map_more (ends_of vertices) sides i d within))
      (beside_more (map (ends_of vertices) (take i sides))
      (ends_of vertices (get_or sides i d) ∷ []) old mid new before
      (subst (λ (k : ℕ × ℕ). AddsBeside s (k ∷ []) mid new) is here))
