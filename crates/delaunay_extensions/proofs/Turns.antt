-- Vertices that are inserted one after another.
-- Notions: plain_of, NextWas, RefusedWas, IsInserting; one_of_all, next_site, next_was, none_was,
-- refused_was, inserting_begins, inserting_has_place, inserting_goes_on, inserting_ends,
-- inserting_refused, inserting_stops, inserting_refuses.
use Rattle.std.proofs.Common.{◌≡◌, ◌+◌, ◌*◌, ◌<◌, ◌≤◌, [], ◌∷◌, ◌++◌, ◌∙◌}
use Rattle.std.proofs.Common.{ℕ, List, length, map, None, Some, Result, Ok, Err, length-append}
use Rattle.std.proofs.Common.{sym, ap, subst, refl, arith, inl, inr, append_assoc, append-nil}
use Rattle.std.specs.Prelude.{All, slice_get, slice_set}
use Rattle.std.proofs.lemmas.List.{length-map, length_push}
use Rattle.std.proofs.lemmas.List.Elements.{All-head, All-rest}
use Rattle.std.proofs.lemmas.Option.{slice_get_within, get_or_from_slice_get}
use Rattle.plane.specs.{InRange, insert, IsSameState, Plain, Point, Run}
use Rattle.{delaunay_core.specs.OutOfMemory, delaunay_edit.specs.AreSites}
use Rattle.delaunay_legalization.specs.{points_and_constraints_by, State.State}
use Rattle.delaunay_interface.proofs.Stepping.{inserted_grows, inserted_here}
use Rattle.delaunay_extensions.specs.{BulkInsertionError, HaveHandles, InsertsAll, RefusesWhere}
use Rattle.delaunay_extensions.specs.{StopsAt, Vertex}
use Rattle.delaunay_extensions.specs.Bulk.{InsertsInTurn, InsertsNext, InsertsOne, RefusesOne}
use Rattle.{delaunay_extensions.specs.Order.IsListed, half_edge_links.specs.MAX_ELEMENTS}
use Rattle.delaunay_extensions.proofs.Handled.{all_handled, AreHandled, one_handled}
use Rattle.delaunay_extensions.proofs.Refusals.{grows_by_one, refused_for_nothing, why_later}

-- what all of a list have, the one at an index has
pub one_of_all : {V : Type 0} (P : V → Type 0) (list : List V) (i : ℕ) (v : V) → All P list
    → slice_get list i ≡ Some v → P v
one_of_all P list i v all read = subst P (get_or_from_slice_get list i v v read)
    (all i v (slice_get_within list i v read))

-- the first of those that are left may be a site, as each of them may
pub next_site : {V : Type 0} (place : V → Point) (IsSite : Point → Type 0)
    {es rest : List (ℕ × V)} {e : ℕ × V}
    → All (λ f. InRange (place f.1) → IsSite (place f.1)) es → es ≡ e ∷ rest
    → InRange (place e.1) → IsSite (place e.1)
next_site {V = V} place IsSite {rest = rest} {e = e} all is =
    All-head (λ (f : ℕ × V). InRange (place f.1) → IsSite (place f.1)) e rest
    (subst (λ (fs : List (ℕ × V)). All (λ f. InRange (place f.1) → IsSite (place f.1)) fs) is all)

module _ {V D U F : Type 0} (place : V → Point) (constraints : List U → List ℕ) where
  abbrev pub plain_of : State V D U F → Plain V
  plain_of s = points_and_constraints_by constraints s

  -- one more insertion
  turns_push : (es : List (ℕ × V)) (e : ℕ × V) (h : ℕ) (old middle new : State V D U F)
      → InsertsInTurn place constraints es old middle
      → InsertsOne place constraints e.1 h middle new
      → InsertsInTurn place constraints (es ++ e ∷ []) old new
  turns_push [] e h old middle new none one = (
    h,
    (
      new,
      (subst (λ (s : State V D U F). InsertsOne place constraints e.1 h s new) none one, refl),
    ),
  )
  turns_push (f ∷ es) e h old middle new (k, (next, (first, rest))) one =
      (k, (next, (first, turns_push es e h next middle new rest one)))

  -- and so the plain state's edits
  runs_from_turns : (es : List (ℕ × V)) (old new : State V D U F)
      → InsertsInTurn place constraints es old new
      → Run place (map (λ e. insert e.1) es) (plain_of old) (plain_of new)
  runs_from_turns [] old new none = subst (λ (s : State V D U F). IsSameState place (plain_of old)
      (plain_of s)) (sym none)
      (record { vertices = refl; constraints = λ i j. ((λ x. x), (λ x. x)) })
  runs_from_turns (e ∷ es) old new (h, (next, (first, rest))) =
      (plain_of next, (h, first.inserts.ok), runs_from_turns es next new rest)

  -- ---- what one step was
  pub record NextWas (left rest : List (ℕ × V)) (i h : ℕ) (old new : State V D U F) : Type 0 where
    pub vertex : V
    pub is : left ≡ (i, vertex) ∷ rest
    pub one : InsertsOne place constraints vertex h old new

  pub next_was : (left rest : List (ℕ × V)) (i h : ℕ) (old new : State V D U F)
      → InsertsNext place constraints (Ok (Some (i, h))) left rest old new
      → NextWas left rest i h old new
  next_was [] rest i h old new (told, e, same) = absurd (cc)
  next_was (e ∷ es) rest i h old new (is, tries) =
      let told : Some (i, h) ≡ Some (e.0, tries.ok.0) = tries.ok.1.0 in
      let pair : (i, h) ≡ (e.0, tries.ok.0) = cc in
      let at : i ≡ e.0 = ap (λ (p : ℕ × ℕ). p.0) pair in
      let handle : tries.ok.0 ≡ h = sym (ap (λ (p : ℕ × ℕ). p.1) pair) in record {
        vertex = e.1;
        is = ap (λ (k : ℕ). (k, e.1) ∷ es) (sym at)
            ∙ ap (λ (fs : List (ℕ × V)). (i, e.1) ∷ fs) (sym is);
        one = subst (λ (k : ℕ). InsertsOne place constraints e.1 k old new) handle tries.ok.1.1;
      }

  pub none_was : (left rest : List (ℕ × V)) (old new : State V D U F)
      → InsertsNext place constraints (Ok None) left rest old new
      → (left ≡ []) × (new ≡ old)
  none_was [] rest old new (is, e, same) = (refl, same)
  none_was (e ∷ es) rest old new (is, tries) =
      let told : None ≡ Some (e.0, tries.ok.0) = tries.ok.1.0 in absurd (cc)

  pub record RefusedWas (left : List (ℕ × V)) (error : BulkInsertionError)
      (old new : State V D U F) : Type 0 where
    pub entry : ℕ × V
    pub rest : List (ℕ × V)
    pub is : left ≡ entry ∷ rest
    pub refused : RefusesOne place constraints entry error old new

  pub refused_was : (left rest : List (ℕ × V)) (error : BulkInsertionError)
      (old new : State V D U F) → InsertsNext place constraints (Err error) left rest old new
      → RefusedWas left error old new
  refused_was [] rest error old new (told, e, same) = absurd (cc)
  refused_was (e ∷ es) rest error old new (is, tries) =
      record { entry = e; rest = es; is = refl; refused = tries.err }

-- ---- the whole list
-- some of the vertices of a list were inserted in an order, and these are left; those that are
-- there are sites, and so are those that are left
pub record IsInserting {V D U F : Type 0} (place : V → Point) (constraints : List U → List ℕ)
    (IsSite : Point → Type 0) (list : List V) (order left : List (ℕ × V)) (handles : List ℕ)
    (old now : State V D U F) : Type 0 where
  pub listed : IsListed place list order
  pub made : List (ℕ × V)
  pub split : order ≡ made ++ left
  pub turns : InsertsInTurn place constraints made old now
  pub there : All (λ e. slice_get list e.0 ≡ Some e.1) left
  pub handled : AreHandled place list (map (λ e. e.0) left) handles now.vertices
  pub sites : AreSites place IsSite now.vertices
  pub left_sites : All (λ e. InRange (place e.1) → IsSite (place e.1)) left
  pub grown : length now.vertices ≤ length old.vertices + length made

pub inserting_begins : {V D U F : Type 0} {place : V → Point} {constraints : List U → List ℕ}
    {IsSite : Point → Type 0} {list : List V} {order : List (ℕ × V)} {handles : List ℕ}
    {old now : State V D U F} → IsListed place list order → length handles ≡ length order
    → AreSites place IsSite old.vertices → All (λ v. InRange (place v) → IsSite (place v)) list
    → now ≡ old → IsInserting place constraints IsSite list order order handles old now
inserting_begins {V = V} {D = D} {U = U} {F = F} {place = place} {constraints = constraints}
    {IsSite = IsSite} {list = list} {order = order} {handles = handles} {old = old} listed size
    sites list_sites same = subst
    (λ (s : State V D U F). IsInserting place constraints IsSite list order order handles old s)
    (sym same) (record {
      listed = listed;
      made = [];
      split = refl;
      turns = refl;
      there = listed.there;
      handled = record {
        each = λ i v read. inl (listed.places.all i (slice_get_within list i v read));
        size = size ∙ sym (length-map order (λ (e : ℕ × V). e.0)) ∙ listed.places.once;
      };
      sites = sites;
      left_sites = λ k d b. one_of_all (λ (v : V). InRange (place v) → IsSite (place v)) list _ _
          list_sites (listed.there k d b);
      grown = omega arith;
    })

module _ {V D U F : Type 0} {place : V → Point} {constraints : List U → List ℕ}
    {IsSite : Point → Type 0} {list : List V} {order left : List (ℕ × V)} {handles : List ℕ}
    {old now : State V D U F}
    (u : IsInserting place constraints IsSite list order left handles old now)
    (rest : List (ℕ × V)) (new : State V D U F) where
  -- the entry that comes next names the vertex at its index in the list
  read : (e : ℕ × V) (others : List (ℕ × V)) → left ≡ e ∷ others → slice_get list e.0 ≡ Some e.1
  read e others is = All-head (λ (f : ℕ × V). slice_get list f.0 ≡ Some f.1) e others
      (subst (All (λ (f : ℕ × V). slice_get list f.0 ≡ Some f.1)) is u.there)

  module _ (entry : ℕ × ℕ)
      (next : InsertsNext place constraints (Ok (Some entry)) left rest now new) where
    was : NextWas place constraints left rest entry.0 entry.1 now new
    was = next_was place constraints left rest entry.0 entry.1 now new next

    abbrev e : ℕ × V
    e = (entry.0, was.vertex)

    pub inserting_has_place : entry.0 < length handles
    inserting_has_place =
        let within = slice_get_within list entry.0 was.vertex (read e rest was.is) in
        let size = u.handled.size in omega (arith, within, size)

    pub inserting_goes_on : AreSites place IsSite new.vertices → {more : List ℕ}
        → more ≡ slice_set handles entry.0 entry.1
        → IsInserting place constraints IsSite list order rest more old new
    inserting_goes_on sites written = record {
      listed = u.listed;
      made = u.made ++ e ∷ [];
      split = u.split ∙ ap (λ (es : List (ℕ × V)). u.made ++ es) was.is
          ∙ sym (append_assoc u.made (e ∷ []) rest);
      turns = turns_push place constraints u.made e entry.1 old now new u.turns was.one;
      there = All-rest (λ (f : ℕ × V). slice_get list f.0 ≡ Some f.1) e rest left was.is u.there;
      handled = subst
          (λ (hs : List ℕ). AreHandled place list (map (λ f. f.0) rest) hs new.vertices)
          (sym written) (one_handled place list (map (λ f. f.0) left) (map (λ f. f.0) rest) handles
          (plain_of place constraints now) (plain_of place constraints new) entry.0 was.vertex
          entry.1 (ap (map (λ (f : ℕ × V). f.0)) was.is) (read e rest was.is) was.one.inserts.ok
          (inserted_grows place constraints now new was.vertex entry.1 was.one.inserts)
          (inserted_here place constraints now new was.vertex entry.1 was.one.inserts)
          inserting_has_place u.handled);
      sites = sites;
      left_sites = All-rest (λ (f : ℕ × V). InRange (place f.1) → IsSite (place f.1)) e rest left
          was.is u.left_sites;
      grown =
          let one = grows_by_one place (plain_of place constraints now)
          (plain_of place constraints new) was.vertex entry.1 was.one.inserts.ok in
          let before = u.grown in omega (arith, one, before, length_push u.made e);
    }

  -- where none is left, each vertex of the list was inserted, and these are the handles
  pub inserting_ends : InsertsNext place constraints (Ok None) left rest now new
      → InsertsAll place constraints list handles old new
  inserting_ends next =
      let was = none_was place constraints left rest now new next in
      let all : u.made ≡ order = sym (u.split ∙ ap (λ (es : List (ℕ × V)). u.made ++ es) was.0
      ∙ append-nil u.made) in
      let turns : InsertsInTurn place constraints order old new =
      subst (λ (x : List (ℕ × V) × State V D U F). InsertsInTurn place constraints x.0 old x.1)
      (λ i. (all i, sym was.1 i)) u.turns in record {
        order = order;
        listed = u.listed;
        turns = turns;
        runs = runs_from_turns place constraints order old new turns;
        handles_are = subst (λ (s : State V D U F). HaveHandles place list handles s.vertices)
            (sym was.1) (all_handled place list (map (λ e. e.0) left) handles now.vertices u.handled
            (ap (λ (es : List (ℕ × V)). length (map (λ (e : ℕ × V). e.0) es)) was.0));
      }

  module _ (error : BulkInsertionError) (in_range : All (λ v. InRange (place v)) list)
      (few : MAX_ELEMENTS < 6 * (length old.vertices + length list) → ⊥)
      (next : InsertsNext place constraints (Err error) left rest now new) where
    pub ended : RefusedWas place constraints left error now new
    ended = refused_was place constraints left rest error now new next

    inside : InRange (place ended.entry.1)
    inside = one_of_all (λ v. InRange (place v)) list ended.entry.0 ended.entry.1 in_range
        (read ended.entry ended.rest ended.is)

    -- the vertices that were inserted and the one that comes next are of the list
    has_index : MAX_ELEMENTS < 6 * (length now.vertices + 1) → ⊥
    has_index full =
        let split = ap (λ (es : List (ℕ × V)). length es)
        (u.split ∙ ap (λ (es : List (ℕ × V)). u.made ++ es) ended.is) in
        let parts = length-append u.made (ended.entry ∷ ended.rest) in
        let whole = sym (length-map order (λ (e : ℕ × V). e.0)) ∙ u.listed.places.once in
        let grown = u.grown in few (omega (arith, full, split, parts, whole, grown))

    pub inserting_refused : error ≡ Vertex ended.entry.0 OutOfMemory
    inserting_refused = ended.refused.told ∙ ap (Vertex ended.entry.0)
        (why_later place constraints ended.entry.1 ended.refused.why now new ended.refused.refused
        inside has_index)

    pub inserting_stops : StopsAt place constraints list error old new
    inserting_stops =
        let same : new ≡ now = ended.refused.refused.err in inr (record {
          made = u.made;
          entry = ended.entry;
          left = ended.rest;
          listed = subst (IsListed place list)
              (u.split ∙ ap (λ (es : List (ℕ × V)). u.made ++ es) ended.is) u.listed;
          turns = subst (λ (s : State V D U F). InsertsInTurn place constraints u.made old s)
              (sym same) u.turns;
          refused = subst
              (λ (s : State V D U F). RefusesOne place constraints ended.entry error s new)
              (sym same) ended.refused;
          in_range = inside;
          out_of_memory = inserting_refused;
        })

    -- this refusal is none of a vertex out of range, or for want of indexes
    pub inserting_refuses : {R : Type 0} (result : Result R BulkInsertionError)
        → result ≡ Err error → RefusesWhere place list (length old.vertices) result
    inserting_refuses {R} result is =
        let told : result ≡ Err (Vertex ended.entry.0 OutOfMemory) =
        is ∙ ap (λ (e : BulkInsertionError). Err e) inserting_refused in
        refused_for_nothing place list (length old.vertices) result in_range few
        (λ j e. let errors = sym told ∙ e in absurd (cc))
        (λ e. let errors = sym told ∙ e in absurd (cc))
