-- What C is told of a walk along a line, one item after another.
-- Notions: IsPart, IsToldOf; no_more, each_more, walk_begins, walk_goes_on, walk_skips, item_mesh,
-- item_more, walk_ends, meeting_of.
use Rattle.std.proofs.Common.{◌≡◌, ◌∙◌, ◌<◌, ◌≤◌, ◌+◌, ◌++◌, ℕ, Bool, List, [], ◌∷◌, length, set}
use Rattle.std.proofs.Common.{refl, sym, ap, subst, arith, append-nil, append_assoc}
use Rattle.std.proofs.Common.{length-append}
use Rattle.std.specs.Prelude.{None, Some, ℤ}
use Rattle.std.specs.List.{AllZip}
use Rattle.std.specs.Borrow.{Bor}
use Rattle.{half_edge_dcel.specs.Contents, half_edge_links.specs.origin, half_edge_links.specs.rev}
use Rattle.delaunay_legalization.specs.{constraints_by, IsTriangulated, marked_edges, state_of}
use Rattle.delaunay_location.specs.{AreLeft, EdgeIntersection, EdgeOverlap, GivesNext, Intersection}
use Rattle.delaunay_location.specs.{item_in, LineIntersectionIterator, mesh_of, VertexIntersection}
use Rattle.{delaunay_edit.proofs.ConstraintEdges.as_many, delaunay_legalization.specs.State.State}
use Rattle.c_calls.specs.{IsMeeting, Links.IsMetEdge, Links.IsRawMeeting, RawMeeting}
use Rattle.{c_calls.specs.Queries.IsMark, plane.specs.Item, plane.specs.Point}
use Rattle.c_calls.proofs.{Marks.mark_joins, Telling.IsTold, Telling.none_told, Telling.told_more}

-- there are no more answers than items where each has its own
pub no_more : {A B : Type 0} (R : A → B → Type 0) (xs : List A) (ys : List B) → AllZip R xs ys
    → length ys ≤ length xs
no_more R xs ys h = let same = as_many R xs ys h in omega (arith, same)

-- one more pair of elements that go together
pub each_more : {A B : Type 0} (R : A → B → Type 0) (xs : List A) (ys : List B) (x : A) (y : B)
    → AllZip R xs ys → R x y → AllZip R (xs ++ x ∷ []) (ys ++ y ∷ [])
each_more R [] [] x y h r = (r, tt)
each_more R [] (b ∷ bs) x y h r = absurd h
each_more R (a ∷ xs) [] x y h r = absurd h
each_more R (a ∷ xs) (b ∷ bs) x y h r = (h.0, each_more R xs bs x y h.1 r)

module _ {V D U F P S A : Type 0} (at : V → Point) (number : S → ℤ)
    (Each : List Item → List A → Type 0) where
  -- what these answers say of the first of these items was told, and the others are left
  pub record IsPart (items : List Item) (now : LineIntersectionIterator V D U F P S) (count : ℕ)
      (old new : List A) : Type 0 where
    pub passed : List Item
    pub others : List Item
    pub split : items ≡ passed ++ others
    pub left : AreLeft at number now others
    pub answers : List A
    pub each : Each passed answers
    pub told : IsTold answers count old new

  -- so much of a walk was told
  pub record IsToldOf (start now : LineIntersectionIterator V D U F P S) (count : ℕ)
      (old new : List A) : Type 0 where
    pub same_mesh : now.dcel ≡ start.dcel
    pub part : (items : List Item) → AreLeft at number start items
        → IsPart items now count old new

  pub walk_begins : (start : LineIntersectionIterator V D U F P S) (old : List A) → Each [] []
      → IsToldOf start start 0 old old
  walk_begins start old none = record {
    same_mesh = refl;
    part = λ items left. record {
      passed = [];
      others = items;
      split = refl;
      left = left;
      answers = [];
      each = none;
      told = none_told old;
    };
  }

  module _ (start now : LineIntersectionIterator V D U F P S) (count : ℕ) (old new : List A)
      (told : IsToldOf start now count old new) (after : LineIntersectionIterator V D U F P S) where
    module _ (x : Intersection V D U F) (gives : GivesNext at number now (Some x) after) where
      -- one more was told
      pub walk_goes_on : (a : A) → ((ms : List Item) (bs : List A) → Each ms bs
          → Each (ms ++ item_in x ∷ []) (bs ++ a ∷ []))
          → IsToldOf start after (count + 1) old (set new count a)
      walk_goes_on a more = record {
        same_mesh = gives.same_mesh ∙ told.same_mesh;
        part = λ items left.
            let b = told.part items left in
            let n = gives.gives b.others b.left in record {
              passed = b.passed ++ item_in x ∷ [];
              others = n.1.0;
              split = b.split ∙ ap (λ (l : List Item). b.passed ++ l) n.1.1
                  ∙ sym (append_assoc b.passed (item_in x ∷ []) n.1.0);
              left = n.1.2;
              answers = b.answers ++ a ∷ [];
              each = more b.passed b.answers b.each;
              told = told_more b.answers count old new a b.told;
            };
      }

      -- nothing was told of one more
      pub walk_skips : ((ms : List Item) (bs : List A) → Each ms bs → Each (ms ++ item_in x ∷ []) bs)
          → IsToldOf start after count old new
      walk_skips more = record {
        same_mesh = gives.same_mesh ∙ told.same_mesh;
        part = λ items left.
            let b = told.part items left in
            let n = gives.gives b.others b.left in record {
              passed = b.passed ++ item_in x ∷ [];
              others = n.1.0;
              split = b.split ∙ ap (λ (l : List Item). b.passed ++ l) n.1.1
                  ∙ sym (append_assoc b.passed (item_in x ∷ []) n.1.0);
              left = n.1.2;
              answers = b.answers;
              each = more b.passed b.answers b.each;
              told = b.told;
            };
      }

      module _ (items : List Item) (left : AreLeft at number start items) where
        -- an item is one of the mesh
        pub item_mesh : mesh_of x ≡ start.dcel
        item_mesh = let b = told.part items left in
            (gives.gives b.others b.left).0 ∙ told.same_mesh

        -- there are more than were told
        pub item_more : ((ms : List Item) (bs : List A) → Each ms bs → length bs ≤ length ms)
            → count + 1 ≤ length items
        item_more few =
            let b = told.part items left in
            let n = gives.gives b.others b.left in
            let split : length items ≡ length (b.passed ++ item_in x ∷ n.1.0) =
            ap length (b.split ∙ ap (λ (l : List Item). b.passed ++ l) n.1.1) in
            let sum : length (b.passed ++ item_in x ∷ n.1.0)
            ≡ length b.passed + length (item_in x ∷ n.1.0) =
            length-append b.passed (item_in x ∷ n.1.0) in
            let same : length b.answers ≤ length b.passed = few b.passed b.answers b.each in
            let counted : count ≡ length b.answers = b.told.counted in
            omega arith

    pub walk_ends : GivesNext at number now None after → (items : List Item)
        → AreLeft at number start items
        → (answers : List A) × Each items answers × IsTold answers count old new
    walk_ends gives items left =
        let b = told.part items left in
        let n = gives.gives b.others b.left in (
          b.answers,
          subst (λ (l : List Item). Each l b.answers)
              (sym (b.split ∙ ap (λ (l : List Item). b.passed ++ l) n.0 ∙ append-nil b.passed))
              b.each,
          b.told,
        )

module _ {V D U F : Type 0} (place : V → Point) (marks : U → Bool) (constraints : List U → List ℕ)
    (marked : (ds : List U) → constraints ds ≡ marked_edges marks ds)
    (mesh : Bor (Contents V D U F)) (kept : IsTriangulated place (state_of mesh.now)) where
  -- an edge that is met
  met : (s : State V D U F) → s ≡ state_of mesh.now → (h kind : ℕ) (m : RawMeeting)
      → h < length s.directed → IsMetEdge constraints s h kind m
      → (m.kind ≡ kind) × (m.from ≡ origin s.mesh h) × (m.to ≡ origin s.mesh (rev h))
      × IsMark (constraints_by constraints (state_of mesh.now)) (origin s.mesh h)
      (origin s.mesh (rev h)) m.constrained
  met s same h kind m w raw =
      let there = subst (IsTriangulated place) (sym same) kept in
      let fit = there.fits.directed_fit in (
        raw.named,
        raw.edge.starts,
        raw.edge.ends,
        subst (λ (u : State V D U F). IsMark (constraints_by constraints u) (origin s.mesh h)
            (origin s.mesh (rev h)) m.constrained) same
            (mark_joins place marks constraints marked s there h m.constrained
            (omega (arith, fit, w)) raw.edge.marked),
      )

  -- what C is told of an item
  pub meeting_of : (x : Intersection V D U F) (m : RawMeeting) → mesh_of x ≡ mesh
      → IsRawMeeting constraints x m
      → IsMeeting (constraints_by constraints (state_of mesh.now)) (item_in x) m
  meeting_of (EdgeIntersection e) m same raw =
      met (state_of e.dcel.now) (ap (λ d. state_of d.now) same) e.index _ m e.in_range raw
  meeting_of (VertexIntersection v) m same raw = raw
  meeting_of (EdgeOverlap e) m same raw =
      met (state_of e.dcel.now) (ap (λ d. state_of d.now) same) e.index _ m e.in_range raw
