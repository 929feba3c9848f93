-- How the addition of a chain of constraints that C asks for ended.
-- Lemmas: segment_count, segment_at, closing, turns_stay, one_joined, none_joined, every_joined,
-- joined_well, path_goes_on, path_stops, path_ends, chain_stopped, chain_done, chain_closed,
-- chain_unclosed, chain_empty, chain_missing, no_chain_in_plain, chain_in_constrained.
use Rattle.std.proofs.Common.{◌≡◌, ◌≢◌, ◌<◌, ◌+◌, ◌-◌, ◌∙◌, [], ◌∷◌, ◌++◌, ℕ, zero, suc}
use Rattle.std.proofs.Common.{Bool, true, false, List, length, take, get_or, refl, sym, ap, subst}
use Rattle.std.proofs.Common.{arith}
use Rattle.std.specs.Prelude.{All, Some, slice_get}
use Rattle.std.proofs.lemmas.List.{length_push, take_all, take-append-le, take_more}
use Rattle.std.proofs.lemmas.Option.{slice_get_within, get_or_from_slice_get}
use Rattle.plane.specs.{Adds, CanAdd, Point}
use Rattle.delaunay_legalization.specs.{declared.cdt_edge.CdtEdge.CdtEdge, State.State}
use Rattle.delaunay_edit.specs.{constrained}
use Rattle.c_calls.specs.{AnyTriangulation, Constrained, kept_place, NumberedPoint, OUT_OF_MEMORY}
use Rattle.c_calls.specs.{Edits.addition_refused, Plain, WELL}
use Rattle.c_calls.specs.Edits.{added, Addition, addition_crossing, addition_of_none}
use Rattle.c_calls.specs.Lists.{AddsChainKept, AddsInTurn, all_joined, chain_joined, chain_of_none}
use Rattle.c_calls.specs.Lists.{chain_segments, ChainAddition, joining_crossing, joining_refused}
use Rattle.c_calls.specs.Lists.{segments_from, SegmentsAddition, StopsAtSegment}
use Rattle.c_calls.specs.declared.statuses.TheConstants.{CROSSING, IS_PLAIN, NO_SUCH_VERTEX}
use Rattle.c_calls.proofs.Numbers.{read_before, read_last}

-- ---- the segments of a chain
-- there are as many as there are vertices after the first
count_from : (v : ℕ) (vs : List ℕ) → length (segments_from v vs) ≡ length vs
count_from v [] = refl
count_from v (w ∷ ws) = ap suc (count_from w ws)

pub segment_count : (vs : List ℕ) (k : ℕ) → suc k ≡ length vs
    → length (chain_segments vs false) ≡ k
segment_count [] k size = absurd (omega (arith, size))
segment_count (v ∷ vs) k size = let counted = count_from v vs in omega (arith, counted, size)

-- each goes from a vertex to the next
segment_from : (v : ℕ) (vs : List ℕ) (k : ℕ) → k < length vs
    → slice_get (segments_from v vs) k ≡ Some (get_or (v ∷ vs) k 0, get_or vs k 0)
segment_from v [] k below = absurd (omega (arith, below))
segment_from v (w ∷ ws) zero below = refl
segment_from v (w ∷ ws) (suc k) below = segment_from w ws k (omega (arith, below))

pub segment_at : (vs : List ℕ) (k : ℕ) → suc k < length vs
    → slice_get (chain_segments vs false) k ≡ Some (get_or vs k 0, get_or vs (suc k) 0)
segment_at [] k below = absurd (omega (arith, below))
segment_at (v ∷ vs) k below = segment_from v vs k (omega (arith, below))

-- where the chain is closed, one more goes from the last vertex to the first
closed_from : (v : ℕ) (vs : List ℕ) (w : ℕ) → segments_from v (vs ++ w ∷ [])
    ≡ segments_from v vs ++ (get_or (v ∷ vs) (length vs) 0, w) ∷ []
closed_from v [] w = refl
closed_from v (u ∷ us) w = ap (λ (ss : List (ℕ × ℕ)). (v, u) ∷ ss) (closed_from u us w)

pub closing : (vs : List ℕ) (k : ℕ) → suc k ≡ length vs → chain_segments vs true
    ≡ chain_segments vs false ++ (get_or vs k 0, get_or vs 0 0) ∷ []
closing [] k size = absurd (omega (arith, size))
closing (v ∷ vs) k size =
    let at : length vs ≡ k = omega (arith, size) in
    subst (λ (n : ℕ). segments_from v (vs ++ v ∷ [])
    ≡ segments_from v vs ++ (get_or (v ∷ vs) n 0, v) ∷ []) at (closed_from v vs v)

-- ---- segments that are joined in turn
module _ {V D U F : Type 0} (place : V → Point) where
  -- the vertices stay
  pub turns_stay : (ss : List (ℕ × ℕ)) (old new : State V D (CdtEdge U) F)
      → AddsInTurn place ss old new → new.vertices ≡ old.vertices
  turns_stay [] old new same = ap (λ (s : State V D (CdtEdge U) F). s.vertices) same
  turns_stay (s ∷ ss) old new (middle, (adds, rest)) =
      turns_stay ss middle new rest ∙ adds.vertices

  -- one more
  turns_more : (ss : List (ℕ × ℕ)) (s : ℕ × ℕ) (old middle new : State V D (CdtEdge U) F)
      → AddsInTurn place ss old middle → Adds place (constrained middle) (constrained new) s.0 s.1
      → AddsInTurn place (ss ++ s ∷ []) old new
  turns_more [] s old middle new none adds = (
    new,
    (
      subst (λ (t : State V D (CdtEdge U) F). Adds place (constrained t) (constrained new) s.0 s.1)
          none adds,
      refl,
    ),
  )
  turns_more (t ∷ ts) s old middle new (next, (first, rest)) adds =
      (next, (first, turns_more ts s next middle new rest adds))

  module _ (segments : List (ℕ × ℕ)) (made from to status : ℕ)
      (old middle new : State V D (CdtEdge U) F)
      (next : slice_get segments made ≡ Some (from, to))
      (so_far : AddsInTurn place (take made segments) old middle)
      (adds : Addition place from to status middle new) where
    taken : take (made + 1) segments ≡ take made segments ++ (from, to) ∷ []
    taken = take_more segments made (from, to) (slice_get_within segments made (from, to) next)
        ∙ ap (λ (s : ℕ × ℕ). take made segments ++ s ∷ [])
        (get_or_from_slice_get segments made (from, to) (from, to) next)

    -- the next one was joined
    pub one_joined : status ≡ WELL → AddsInTurn place (take (made + 1) segments) old new
    one_joined well = go adds
      where
        go : Addition place from to status middle new
            → AddsInTurn place (take (made + 1) segments) old new
        go (added is done) = subst (λ (ss : List (ℕ × ℕ)). AddsInTurn place ss old new) (sym taken)
            (turns_more (take made segments) (from, to) old middle new so_far done)
        go (addition_of_none is none same) =
            let differ : NO_SUCH_VERTEX ≡ WELL = sym is ∙ well in absurd (omega (arith, differ))
        go (addition_crossing is both crosses same) =
            let differ : CROSSING ≡ WELL = sym is ∙ well in absurd (omega (arith, differ))
        go (addition_refused is can same) =
            let differ : OUT_OF_MEMORY ≡ WELL = sym is ∙ well in absurd (omega (arith, differ))

    -- it was not
    pub none_joined : status ≢ WELL → from < length old.vertices → to < length old.vertices
        → SegmentsAddition place segments status made old new
    none_joined ill from_in to_in = go adds
      where
        stay : length old.vertices ≡ length middle.vertices
        stay = ap length (sym (turns_stay (take made segments) old middle so_far))

        stop : new ≡ middle → StopsAtSegment place segments made from to old new
        stop same = record {
          next = next;
          joined = subst (λ (s : State V D (CdtEdge U) F). AddsInTurn place (take made segments)
              old s) (sym same) so_far;
        }

        go : Addition place from to status middle new
            → SegmentsAddition place segments status made old new
        go (added is done) = absurd (ill is)
        go (addition_of_none is none same) = absurd (none (
          subst (λ (n : ℕ). from < n) stay from_in,
          subst (λ (n : ℕ). to < n) stay to_in,
        ))
        go (addition_crossing is both crosses same) =
            joining_crossing from to is (stop same)
            (subst (λ (s : State V D (CdtEdge U) F). ¬ CanAdd place (constrained s) from to)
            (sym same) crosses)
        go (addition_refused is can same) =
            joining_refused from to is (stop same)
            (subst (λ (s : State V D (CdtEdge U) F). CanAdd place (constrained s) from to)
            (sym same) can)

  -- all were joined
  pub every_joined : (segments : List (ℕ × ℕ)) (made : ℕ) (old new : State V D (CdtEdge U) F)
      → length segments ≡ made → AddsInTurn place (take made segments) old new
      → SegmentsAddition place segments WELL made old new
  every_joined segments made old new size h =
      all_joined refl (sym size) (subst (λ (ss : List (ℕ × ℕ)). AddsInTurn place ss old new)
      (take_all made segments (omega (arith, size))) h)

  -- what was said of all of them by the status
  pub joined_well : (segments : List (ℕ × ℕ)) (status made : ℕ)
      (old new : State V D (CdtEdge U) F) → status ≡ WELL
      → SegmentsAddition place segments status made old new
      → (made ≡ length segments) × AddsInTurn place segments old new
  joined_well segments status made old new well (all_joined is all h) = (all, h)
  joined_well segments status made old new well (joining_crossing from to is stops crosses) =
      let differ : CROSSING ≡ WELL = sym is ∙ well in absurd (omega (arith, differ))
  joined_well segments status made old new well (joining_refused from to is stops can) =
      let differ : OUT_OF_MEMORY ≡ WELL = sym is ∙ well in absurd (omega (arith, differ))

  -- where it stopped, it stops with more segments behind
  stops_longer : (segments : List (ℕ × ℕ)) (s : ℕ × ℕ) (made from to : ℕ)
      (old new : State V D (CdtEdge U) F) → StopsAtSegment place segments made from to old new
      → StopsAtSegment place (segments ++ s ∷ []) made from to old new
  stops_longer segments s made from to old new stops =
      let within = slice_get_within segments made (from, to) stops.next in record {
        next = read_before segments s (from, to) made stops.next;
        joined = subst (λ (ss : List (ℕ × ℕ)). AddsInTurn place ss old new)
            (sym (take-append-le made segments (s ∷ []) (omega (arith, within)))) stops.joined;
      }

  stopped_longer : (segments : List (ℕ × ℕ)) (s : ℕ × ℕ) (status made : ℕ)
      (old new : State V D (CdtEdge U) F) → status ≢ WELL
      → SegmentsAddition place segments status made old new
      → SegmentsAddition place (segments ++ s ∷ []) status made old new
  stopped_longer segments s status made old new ill (all_joined is all h) = absurd (ill is)
  stopped_longer segments s status made old new ill (joining_crossing from to is stops crosses) =
      joining_crossing from to is (stops_longer segments s made from to old new stops) crosses
  stopped_longer segments s status made old new ill (joining_refused from to is stops can) =
      joining_refused from to is (stops_longer segments s made from to old new stops) can

  -- ---- the path along a list, as far as the segment that ends at its place i
  module _ (vs : List ℕ) (made i status : ℕ) (old middle new : State V D (CdtEdge U) F)
      (count : made + 1 ≡ i) (below : i < length vs)
      (so_far : AddsInTurn place (take made (chain_segments vs false)) old middle)
      (adds : Addition place (get_or vs (i - 1) 0) (get_or vs i 0) status middle new) where
    -- the segment that comes next goes from place i - 1 of the list to place i
    here : slice_get (chain_segments vs false) made ≡ Some (get_or vs (i - 1) 0, get_or vs i 0)
    here =
        let from : made ≡ i - 1 = omega (arith, count) in
        let to : suc made ≡ i = omega (arith, count) in
        subst (λ (n : ℕ). slice_get (chain_segments vs false) made
        ≡ Some (get_or vs n 0, get_or vs i 0)) from
        (subst (λ (n : ℕ). slice_get (chain_segments vs false) made
        ≡ Some (get_or vs made 0, get_or vs n 0)) to
        (segment_at vs made (omega (arith, count, below))))

    -- it goes on
    pub path_goes_on : status ≡ WELL → AddsInTurn place (take i (chain_segments vs false)) old new
    path_goes_on well =
        subst (λ (n : ℕ). AddsInTurn place (take n (chain_segments vs false)) old new) count
        (one_joined (chain_segments vs false) made (get_or vs (i - 1) 0) (get_or vs i 0) status old
        middle new here so_far adds well)

    -- it stops
    pub path_stops : status ≢ WELL → All (λ n. n < length old.vertices) vs
        → SegmentsAddition place (chain_segments vs false) status made old new
    path_stops ill there =
        none_joined (chain_segments vs false) made (get_or vs (i - 1) 0) (get_or vs i 0) status old
        middle new here so_far adds ill (there (i - 1) 0 (omega (arith, below)))
        (there i 0 below)

  -- all of it
  pub path_ends : (vs : List ℕ) (made i : ℕ) (old new : State V D (CdtEdge U) F) → made + 1 ≡ i
      → i ≡ length vs → AddsInTurn place (take made (chain_segments vs false)) old new
      → SegmentsAddition place (chain_segments vs false) WELL made old new
  path_ends vs made i old new count all h =
      every_joined (chain_segments vs false) made old new
      (segment_count vs made (omega (arith, count, all))) h

  -- ---- a chain
  module _ (vs : List ℕ) (k : ℕ) (size : suc k ≡ length vs) (status made : ℕ)
      (old new : State V D (CdtEdge U) F)
      (path : SegmentsAddition place (chain_segments vs false) status made old new) where
    -- it stopped before its end
    pub chain_stopped : (closed : Bool) → status ≢ WELL
        → ChainAddition place vs closed status made old new
    chain_stopped false ill = chain_joined path
    chain_stopped true ill = chain_joined (subst
        (λ (ss : List (ℕ × ℕ)). SegmentsAddition place ss status made old new)
        (sym (closing vs k size))
        (stopped_longer (chain_segments vs false) (get_or vs k 0, get_or vs 0 0) status made old new
        ill path))

    -- it is open, and so it is done
    pub chain_done : (closed : Bool) → closed ≡ false → status ≡ WELL
        → ChainAddition place vs closed WELL made old new
    chain_done closed ends well =
        subst (λ (b : Bool). ChainAddition place vs b WELL made old new) (sym ends)
        (chain_joined (subst (λ (n : ℕ). SegmentsAddition place (chain_segments vs false) n made
        old new) well path))

    module _ (last : State V D (CdtEdge U) F) (closed : Bool) (is_closed : closed ≡ true)
        (well : status ≡ WELL) (end : ℕ)
        (adds : Addition place (get_or vs k 0) (get_or vs 0 0) end new last) where
      -- the segment that closes the path comes next, from the last of the list to the first
      next : slice_get (chain_segments vs true) made ≡ Some (get_or vs k 0, get_or vs 0 0)
      next = ap (λ (ss : List (ℕ × ℕ)). slice_get ss made) (closing vs k size)
          ∙ ap (slice_get (chain_segments vs false ++ (get_or vs k 0, get_or vs 0 0) ∷ []))
          (joined_well (chain_segments vs false) status made old new well path).0
          ∙ read_last (chain_segments vs false) (get_or vs k 0, get_or vs 0 0)

      so_far : AddsInTurn place (take made (chain_segments vs true)) old new
      so_far =
          let told = joined_well (chain_segments vs false) status made old new well path in
          let all = told.0 in
          subst (λ (ss : List (ℕ × ℕ)). AddsInTurn place ss old new)
          (sym (ap (take made) (closing vs k size)
          ∙ take-append-le made (chain_segments vs false) ((get_or vs k 0, get_or vs 0 0) ∷ [])
          (omega (arith, all))
          ∙ take_all made (chain_segments vs false) (omega (arith, all)))) told.1

      -- it was closed
      pub chain_closed : end ≡ WELL → (m : ℕ) → m ≡ length vs
          → ChainAddition place vs closed WELL m old last
      chain_closed done m count =
          let all = (joined_well (chain_segments vs false) status made old new well path).0 in
          let one : m ≡ made + 1 = omega (arith, count, size, all, segment_count vs k size) in
          let whole : length (chain_segments vs true) ≡ m =
          ap length (closing vs k size)
          ∙ length_push (chain_segments vs false) (get_or vs k 0, get_or vs 0 0)
          ∙ omega (arith, count, size, segment_count vs k size) in
          subst (λ (b : Bool). ChainAddition place vs b WELL m old last) (sym is_closed)
          (chain_joined (every_joined (chain_segments vs true) m old last whole
          (subst (λ (n : ℕ). AddsInTurn place (take n (chain_segments vs true)) old last) (sym one)
          (one_joined (chain_segments vs true) made (get_or vs k 0) (get_or vs 0 0) end old new last
          next so_far adds done))))

      -- it was not closed
      pub chain_unclosed : end ≢ WELL → All (λ i. i < length old.vertices) vs
          → ChainAddition place vs closed end made old last
      chain_unclosed ill there =
          subst (λ (b : Bool). ChainAddition place vs b end made old last) (sym is_closed)
          (chain_joined (none_joined (chain_segments vs true) made (get_or vs k 0) (get_or vs 0 0)
          end old new last next so_far adds ill (there k 0 (omega (arith, size)))
          (there 0 0 (omega (arith, size)))))

  -- a chain of no vertex
  pub chain_empty : (vs : List ℕ) (closed : Bool) (s : State V D (CdtEdge U) F) → length vs ≡ 0
      → ChainAddition place vs closed WELL 0 s s
  chain_empty [] closed s none = chain_joined (all_joined refl refl refl)
  chain_empty (v ∷ vs) closed s none = absurd (omega (arith, none))

  -- a vertex is not there
  pub chain_missing : (vs : List ℕ) (closed : Bool) (s : State V D (CdtEdge U) F)
      → ¬ All (λ i. i < length s.vertices) vs
      → ChainAddition place vs closed NO_SUCH_VERTEX 0 s s
  chain_missing vs closed s missing = chain_of_none refl refl missing refl

-- to a plain triangulation
pub no_chain_in_plain : (vs : List ℕ) (closed : Bool) (made : ℕ) (k new : AnyTriangulation)
    (a : State NumberedPoint (Unit {0}) (Unit {0}) (Unit {0})) → k ≡ Plain a → new ≡ Plain a
    → AddsChainKept vs closed IS_PLAIN made k new
no_chain_in_plain vs closed made k new a is stays =
    subst (λ (w : AnyTriangulation). AddsChainKept vs closed IS_PLAIN made w new) (sym is)
    (refl, stays)

-- to a constrained one
pub chain_in_constrained : (vs : List ℕ) (closed : Bool) (status made : ℕ) (k : AnyTriangulation)
    (a b : State NumberedPoint (Unit {0}) (CdtEdge (Unit {0})) (Unit {0})) → k ≡ Constrained a
    → ChainAddition kept_place vs closed status made a b
    → AddsChainKept vs closed status made k (Constrained b)
chain_in_constrained vs closed status made k a b is h =
    subst (λ (w : AnyTriangulation). AddsChainKept vs closed status made w (Constrained b)) (sym is)
    h

-- for the functions that make the edit
pub ruleset chains = (chain_empty, chain_missing)

pub ruleset chains_kept = (no_chain_in_plain, chain_in_constrained)
