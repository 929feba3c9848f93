-- Steps of edits that insert vertices and join them.
-- Notions: IsOnPath, AddsTaken; inserted_grows, inserted_here, inserted_sites, lacks_memory,
-- joined_now, crossed_now, may_come, comes_now, begins, one_more, stops_at_vertex, stops_at_join,
-- stays_open, closes, cannot_close, stops_at_from, stops_at_to, both_inserted.
use Rattle.std.proofs.Common.{◌≡◌, ◌≢◌, ◌∙◌, ◌<◌, ◌≤◌, [], ◌∷◌, ◌++◌}
use Rattle.std.proofs.Common.{ℕ, Bool, List, length, map, Result, Ok, Err, Option, None, Some, refl}
use Rattle.std.proofs.Common.{sym, ap, subst, inl, inr, append_assoc, append-nil, arith}
use Rattle.std.specs.Prelude.{All, IsTrue, MatchResult}
use Rattle.std.specs.Iterator.{Yields}
use Rattle.std.proofs.lemmas.List.{get_or_default, length-set, length_push, map-append}
use Rattle.std.proofs.lemmas.List.Elements.{All-contains, All-push}
use Rattle.std.proofs.Math.Seq.{map-set_same}
use Rattle.plane.specs.{CanAdd, InRange, Inserts as InsertsPlain, Plain, Point}
use Rattle.{delaunay_core.specs.OutOfMemory, delaunay_legalization.specs.points_and_constraints_by}
use Rattle.delaunay_legalization.specs.{declared.cdt_edge.CdtEdge.CdtEdge, State.State}
use Rattle.delaunay_edit.specs.{AddsConstraint, AreSites, constrained, constraint_edges}
use Rattle.delaunay_edit.specs.{InsertsVertex, IsDelaunay}
use Rattle.delaunay_interface.specs.ConstraintEdges.{AddsConstraintEdge, AddsConstraintEdges}
use Rattle.delaunay_interface.specs.ConstraintEdges.{ClosesPath, ExtendsPath, JoinsVertices}
use Rattle.delaunay_interface.specs.ConstraintEdges.{MayGive, RefusesEnd, StaysReady, Takes}
use Rattle.delaunay_interface.specs.declared.constraint_error.ConstraintError.{ConstraintError}
use Rattle.delaunay_interface.specs.declared.constraint_error.ConstraintError.TheVariants.{Conflict}
use Rattle.delaunay_interface.specs.declared.constraint_error.ConstraintError.TheVariants.{Insertion}
use Rattle.delaunay_interface.proofs.Held.{new_is_listed, stay_listed}

-- ---- after an insertion
module _ {V : Type 0} (place : V → Point) (old new : Plain V) (v : V) (i : ℕ) where
  -- earlier handles stay handles
  grows : InsertsPlain place old new v i → length old.vertices ≤ length new.vertices
  grows (inl kept) = let e = ap length (kept.vertices) in
      omega (arith, e, length-set old.vertices i v)
  grows (inr (last, more)) =
      let e = ap length (more.vertices) in omega (arith, e, length_push old.vertices v)

  -- the vertex has its index
  here_then : InsertsPlain place old new v i → i < length new.vertices
  here_then (inl kept) =
      let h = kept.here in let e = ap length (kept.vertices) in
      omega (arith, h, e, length-set old.vertices i v)
  here_then (inr (last, more)) =
      let e = ap length (more.vertices) in omega (arith, last, e, length_push old.vertices v)

  -- where all were sites, and the new one is, all are
  sites_then : (sites : Point → Type 0) → InsertsPlain place old new v i
      → All sites (map place old.vertices) → sites (place v) → All sites (map place new.vertices)
  sites_then sites (inl kept) all site =
      subst (All sites) (sym (ap (map place) kept.vertices
      ∙ map-set_same place old.vertices i v v (sym kept.same))) all
  sites_then sites (inr (last, more)) all site =
      subst (All sites)
      (sym (ap (map place) more.vertices ∙ map-append place old.vertices (v ∷ [])))
      (All-push sites (map place old.vertices) (place v) all site)

module _ {V D U F : Type 0} (place : V → Point) (constraints : List U → List ℕ) (old new :
    State V D U F) (v : V) (i : ℕ) (done : InsertsVertex place constraints v (Ok i) old new) where
  -- earlier handles stay handles
  pub inserted_grows : length old.vertices ≤ length new.vertices
  inserted_grows =
      grows place (points_and_constraints_by constraints old)
      (points_and_constraints_by constraints new) v i done.ok

  -- the vertex has its index
  pub inserted_here : i < length new.vertices
  inserted_here = here_then place (points_and_constraints_by constraints old)
      (points_and_constraints_by constraints new) v i done.ok

  -- where all were sites, and the new one is if it is in range, all are
  pub inserted_sites : (sites : Point → Type 0) → AreSites place sites old.vertices →
      (InRange (place v) → sites (place v)) → AreSites place sites new.vertices
  inserted_sites sites all site =
      let was = points_and_constraints_by constraints old in
      let is = points_and_constraints_by constraints new in
      λ in_range. sites_then place was is v i sites done.ok
      (all (λ k d lt. All-contains InRange (map place new.vertices) _ in_range
      (stay_listed place was is v i done.ok _
      (k, lt, get_or_default (map place old.vertices) k _ d lt))))
      (site (All-contains InRange (map place new.vertices) (place v) in_range
      (new_is_listed place was is v i done.ok)))

-- ---- joining
module _ {V D U F : Type 0} (place : V → Point) (from to : ℕ) where
  -- memory was refused
  pub lacks_memory : (s : State V D (CdtEdge U) F) (new : State V D (CdtEdge U) F)
      (result : Result Bool ConstraintError) → result ≡ Err (Insertion OutOfMemory) →
      CanAdd place (constrained s) from to → new ≡ s → JoinsVertices place from to result s new
  lacks_memory s new result is free same =
      subst (λ (r : Result Bool ConstraintError). JoinsVertices place from to r s new)
      (sym is) (record {
        conflict = ((λ e. absurd (cc)), (λ barred. absurd (barred free)));
        memory = inr refl;
        adds = record { plain = tt; told = tt; none_made = tt; «data» = tt; err = same };
      })

  -- the vertices were joined
  pub joined_now : {E : Type 0} (s new : State V D (CdtEdge U) F) (made : Bool)
      (given : Result Bool E) (result : Result Bool ConstraintError) → given ≡ Ok made
      → result ≡ Ok made → CanAdd place (constrained s) from to
      → AddsConstraint place from to given s new → JoinsVertices place from to result s new
  joined_now {E = E} s new made given result gave is free adds =
      let added = subst (λ (r : Result Bool E). AddsConstraint place from to r s new) gave adds in
      subst (λ (r : Result Bool ConstraintError). JoinsVertices place from to r s new)
      (sym is) (record {
        conflict = ((λ e. absurd (cc)), (λ barred. absurd (barred free)));
        memory = tt;
        adds = record {
          plain = added.plain;
          told = added.told;
          none_made = added.none_made;
          «data» = added.«data»;
          err = tt;
        };
      })

  -- a constraint crosses
  pub crossed_now : (s new : State V D (CdtEdge U) F) (result : Result Bool ConstraintError)
      → result ≡ Err Conflict → (¬ CanAdd place (constrained s) from to) × (new ≡ s)
      → JoinsVertices place from to result s new
  crossed_now s new result is barred =
      subst (λ (r : Result Bool ConstraintError). JoinsVertices place from to r s new)
      (sym is) (record {
        conflict = ((λ e. barred.0), (λ crossed. refl));
        memory = inl refl;
        adds = record { plain = tt; told = tt; none_made = tt; «data» = tt; err = barred.1 };
      })

-- ---- what calls of an iterator gave
module _ {I V : Type 0} (steps : I → Option V → I → Type 0) where
  one_taken : (s : I) (xs : List V) (t : I) (x : V) (u : I) → Yields steps s xs t
      → steps t (Some x) u → Yields steps s (xs ++ x ∷ []) u
  one_taken s [] t x u same step = (u, subst (λ (a : I). steps a (Some x) u) (sym same) step, refl)
  one_taken s (y ∷ ys) t x u (j, first, rest) step = (j, first, one_taken j ys t x u rest step)

  -- an item that a call gives may come
  pub may_come : (s : I) (x : V) (u : I) → steps s (Some x) u → MayGive steps s x
  may_come s x u step = ([], u, (s, refl, step))

  -- a first item came, and then a loop over the iterator as it was left took these
  module _ (s : I) (x : V) (rest begun : I) (came : steps s (Some x) rest) (same : begun ≡ rest)
      (xs : List V) (t : I) (taken : Yields steps begun xs t) where
    all_so_far : Yields steps s (x ∷ xs) t
    all_so_far = (rest, came, subst (λ (a : I). Yields steps a xs t) same taken)

    -- an item that the next call gives may come
    pub comes_now : (y : V) (u : I) → steps t (Some y) u → MayGive steps s y
    comes_now y u step = (x ∷ xs, u, (t, all_so_far, step))

-- ---- a path of vertices
-- a path from the vertex at first to that at last, by these further vertices: it goes on from
-- there, handles stay handles, and all is ready for more
pub record IsOnPath {V D U F : Type 0} (place : V → Point) (IsSite : Point → Type 0) (done : List V)
    (first : ℕ) (old : State V D (CdtEdge U) F) (last : ℕ) (now : State V D (CdtEdge U) F) :
    Type 0 where
  pub goes_on : (vs : List V) (result : Result ℕ ConstraintError) (new : State V D (CdtEdge U) F)
      → ExtendsPath place vs last result now new
      → ExtendsPath place (done ++ vs) first result old new
  pub last_in : last < length now.vertices
  pub ready : StaysReady place IsSite old now

-- before a further vertex the path is at its start
pub begins : {V D U F : Type 0} {place : V → Point} {IsSite : Point → Type 0} {first : ℕ}
    {before old : State V D (CdtEdge U) F} → first < length old.vertices
    → StaysReady place IsSite before old → IsOnPath place IsSite [] first old first old
begins first_in ready = record {
  goes_on = λ vs result new e. e;
  last_in = first_in;
  ready = record { grows = omega arith; sites = ready.sites; headline = ready.headline };
}

module _ {V D U F : Type 0} {place : V → Point} {IsSite : Point → Type 0} {done : List V}
    {first last : ℕ} {old now : State V D (CdtEdge U) F}
    (path : IsOnPath place IsSite done first old last now) where
  -- a vertex that is inserted and joined to the one before it is where the path is then
  pub one_more : {v : V} {next : ℕ} {made : Bool} {inserted joined : State V D (CdtEdge U) F}
      → InsertsVertex place constraint_edges v (Ok next) now inserted
      → next < length inserted.vertices → StaysReady place IsSite now inserted
      → JoinsVertices place last next (Ok made) inserted joined
      → joined.vertices ≡ inserted.vertices → IsDelaunay place constraint_edges joined
      → IsOnPath place IsSite (done ++ v ∷ []) first old next joined
  one_more {v = v} i within ready j same headline = record {
    goes_on =
        λ vs result new e. subst (λ (xs : List V). ExtendsPath place xs first result old new)
        (sym (append_assoc done (v ∷ []) vs))
        (path.goes_on (v ∷ vs) result new (inr (record {
          index = _;
          middle = _;
          inserts = i;
          then = inr (record { made = _; middle = _; joins = j; then = e });
        })));
    last_in = rw same within;
    ready = record {
      grows = let so_far = path.ready.grows in let more = ready.grows in
          rw same (omega (arith, so_far, more));
      sites = rw same ready.sites;
      headline = headline;
    };
  }

-- what calls of an iterator gave was inserted and joined, with this result
abbrev pub AddsTaken : {I V D U F : Type 0} → (I → Option V → I → Type 0) → (V → Point) → I → Bool
    → Result (Unit {0}) ConstraintError → (old new : State V D (CdtEdge U) F) → Type 0
AddsTaken {V = V} steps place s closed result old new = (vs : List V) × Takes steps s vs result
    × AddsConstraintEdges place vs closed result old new

-- a first item came from an iterator, its vertex was inserted at first, and a loop took the others
module _ {I V D U F : Type 0} (steps : I → Option V → I → Type 0) (place : V → Point)
    {IsSite : Point → Type 0} {s rest begun : I} (t : I) {v : V} {done : List V} {first last : ℕ}
    {before old now : State V D (CdtEdge U) F} (closed : Bool) (came : steps s (Some v) rest)
    (inserts : InsertsVertex place constraint_edges v (Ok first) before old) (same : begun ≡ rest)
    (taken : Yields steps begun done t) (path : IsOnPath place IsSite done first old last now) where
  so_far : Yields steps s (v ∷ done) t
  so_far = all_so_far steps s v rest begun came same done t taken

  made_up_to : (vs : List V) (ends : Result ℕ ConstraintError)
      (result : Result (Unit {0}) ConstraintError) (middle new : State V D (CdtEdge U) F)
      → ExtendsPath place vs last ends now middle
      → MatchResult ends (λ at. ClosesPath place closed first at result middle new)
      (λ e. (result ≡ Err e) × (new ≡ middle))
      → AddsConstraintEdges place (v ∷ (done ++ vs)) closed result before new
  made_up_to vs ends result middle new e c = inr (record {
    index = first;
    middle = old;
    inserts = inserts;
    then = record {
      path = ends;
      middle = middle;
      extends = path.goes_on vs ends middle e;
      closes = c;
    };
  })

  ended : (result : Result (Unit {0}) ConstraintError) (new : State V D (CdtEdge U) F)
      → ClosesPath place closed first last result now new
      → AddsConstraintEdges place (v ∷ done) closed result before new
  ended result new c =
      subst (λ (xs : List V). AddsConstraintEdges place (v ∷ xs) closed result before new)
      (append-nil done) (made_up_to [] (Ok last) result now new (refl, refl) c)

  -- a further vertex that is refused ends the path, with this error
  pub stops_at_vertex : {w : V} {u : I} {error : ConstraintError} {new : State V D (CdtEdge U) F}
      → steps t (Some w) u → RefusesEnd place w error now new
      → AddsTaken steps place s closed (Err error) before new
  stops_at_vertex {w = w} {u = u} {error = error} {new = new} step refused = (
    v ∷ (done ++ w ∷ []),
    (u, one_taken steps s (v ∷ done) t w u so_far step),
    made_up_to (w ∷ []) (Err error) (Err error) new new
        (inl (record { error = error; refused = refused; told = refl })) (refl, refl),
  )

  -- so does one that is inserted, but not joined to the one before it
  pub stops_at_join : {w : V} {u : I} {next : ℕ} {error : ConstraintError}
      {inserted new : State V D (CdtEdge U) F} → steps t (Some w) u
      → InsertsVertex place constraint_edges w (Ok next) now inserted
      → JoinsVertices place last next (Err error) inserted new
      → AddsTaken steps place s closed (Err error) before new
  stops_at_join {w = w} {u = u} {error = error} {new = new} step i j = (
    v ∷ (done ++ w ∷ []),
    (u, one_taken steps s (v ∷ done) t w u so_far step),
    made_up_to (w ∷ []) (Err error) (Err error) new new
        (inr (record {
          index = _;
          middle = _;
          inserts = i;
          then = inl (record { error = error; refused = j; told = refl });
        })) (refl, refl),
  )

  -- a path that is not to be closed, or is one vertex, ends where it is
  pub stays_open : {u : I} → steps t None u → ¬ (IsTrue closed × (last ≢ first))
      → AddsTaken steps place s closed (Ok tt) before now
  stays_open {u = u} step not = (
    v ∷ done,
    (u, (t, so_far, step)),
    ended (Ok tt) now (record {
      joins = λ c apart. absurd (not (c, apart));
      stays = λ _. (refl, refl);
    }),
  )

  -- one that is to be closed is so where its ends are joined
  pub closes : {u : I} {made : Bool} {new : State V D (CdtEdge U) F} → steps t None u
      → IsTrue closed → last ≢ first → JoinsVertices place last first (Ok made) now new
      → AddsTaken steps place s closed (Ok tt) before new
  closes {u = u} {new = new} step c apart j = (
    v ∷ done,
    (u, (t, so_far, step)),
    ended (Ok tt) new (record {
      joins = λ _ _. inr (record { made = _; middle = new; joins = j; then = (refl, refl) });
      stays = λ none. absurd (none (c, apart));
    }),
  )

  -- where they are not joined, that is the result
  pub cannot_close : {error : ConstraintError} {new : State V D (CdtEdge U) F} → IsTrue closed
      → last ≢ first → JoinsVertices place last first (Err error) now new
      → AddsTaken steps place s closed (Err error) before new
  cannot_close {error = error} {new = new} c apart j = (
    v ∷ done,
    (t, so_far),
    ended (Err error) new (record {
      joins = λ _ _. inl (record { error = error; refused = j; told = refl });
      stays = λ none. absurd (none (c, apart));
    }),
  )

module _ {V D U F : Type 0} (place : V → Point) where
  -- ---- two vertices
  module _ (from to : V) (old new : State V D (CdtEdge U) F) where
    -- the first vertex is refused, and that is the result
    pub stops_at_from : (error : ConstraintError) (result : Result Bool ConstraintError)
        → result ≡ Err error → RefusesEnd place from error old new
        → AddsConstraintEdge place from to result old new
    stops_at_from error result told refused =
        inl (record { error = error; refused = refused; told = told })

    module _ (i : ℕ) (first : State V D (CdtEdge U) F)
        (one : InsertsVertex place constraint_edges from (Ok i) old first) where
      -- the first is inserted, the second is refused, and that is the result
      pub stops_at_to : (error : ConstraintError) (result : Result Bool ConstraintError)
          → result ≡ Err error → RefusesEnd place to error first new
          → AddsConstraintEdge place from to result old new
      stops_at_to error result told refused = inr (record {
        index = i;
        middle = first;
        inserts = one;
        then = inl (record { error = error; refused = refused; told = told });
      })

      -- both are inserted, and the result is that of joining them
      pub both_inserted : (j : ℕ) (second : State V D (CdtEdge U) F)
          → InsertsVertex place constraint_edges to (Ok j) first second
          → (result : Result Bool ConstraintError) → JoinsVertices place i j result second new
          → AddsConstraintEdge place from to result old new
      both_inserted j second two result joins = inr (record {
        index = i;
        middle = first;
        inserts = one;
        then = inr (record { index = j; middle = second; inserts = two; then = joins });
      })
