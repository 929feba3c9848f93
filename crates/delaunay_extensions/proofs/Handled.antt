-- Handles of the vertices of a list, as they are inserted.
-- Notions: AreHandled; all_handled, one_handled.
use Rattle.std.proofs.Common.{◌≡◌, ◌≢◌, ◌<◌, ◌≤◌, [], ◌∷◌, ◌∙◌, ◌⊎◌}
use Rattle.std.proofs.Common.{ℕ, zero, suc, List, length, map, Some, sym, ap, subst, arith}
use Rattle.std.proofs.Common.{inl, inr}
use Rattle.std.specs.Prelude.{Contains, pos, slice_get, slice_set}
use Rattle.std.proofs.lemmas.List.{length-map, map-append, get_or_append_left, get_or_push}
use Rattle.std.proofs.lemmas.List.{get_or-map, length-set, get_or-set_same, get_or-set_other}
use Rattle.std.proofs.lemmas.Bool.{cases_eq}
use Rattle.std.proofs.lemmas.Option.{slice_get-get_or, slice_get_within, get_or_from_slice_get}
use Rattle.std.proofs.Math.Seq.{map-set_same}
use Rattle.plane.specs.{Inserts, Plain, Point}
use Rattle.delaunay_legalization.specs.{point_at}
use Rattle.delaunay_extensions.specs.{HaveHandles, IsAt}

module _ {V : Type 0} (place : V → Point) where
  -- a vertex that is inserted moves no other
  stays : (old new : Plain V) (v : V) (h k : ℕ) → Inserts place old new v h
      → k < length old.vertices
      → point_at (map place new.vertices) k ≡ point_at (map place old.vertices) k
  stays old new v h k (inl kept) below = ap (λ ps. point_at ps k) (ap (map place) kept.vertices
      ∙ map-set_same place old.vertices h v v (sym kept.same))
  stays old new v h k (inr (last, more)) below = ap (λ ps. point_at ps k)
      (ap (map place) more.vertices ∙ map-append place old.vertices (v ∷ []))
      ∙ get_or_append_left (map place old.vertices) (place v ∷ [])
      (record { x = pos 0; y = pos 0 }) k (omega (arith, below, length-map old.vertices place))

  -- and is at its index then
  lands : (old new : Plain V) (v : V) (h : ℕ) → Inserts place old new v h
      → point_at (map place new.vertices) h ≡ place v
  lands old new v h (inl kept) = stays old new v h h (inl kept) kept.here
      ∙ get_or-map place old.vertices h v (record { x = pos 0; y = pos 0 }) kept.here ∙ kept.same
  lands old new v h (inr (last, more)) =
      ap (point_at (map place new.vertices)) last
      ∙ ap (λ ps. point_at ps (length old.vertices))
      (ap (map place) more.vertices ∙ map-append place old.vertices (v ∷ []))
      ∙ get_or_push (map place old.vertices) (place v) (record { x = pos 0; y = pos 0 })
      (length old.vertices) (length-map old.vertices place)

module _ {V : Type 0} (place : V → Point) (list : List V) where
  -- each vertex of a list has its handle, or its place is left
  pub record AreHandled (left handles : List ℕ) (vertices : List V) : Type 0 where
    pub each : (i : ℕ) (v : V) → slice_get list i ≡ Some v
        → Contains left i ⊎ IsAt place handles vertices i v
    pub size : length handles ≡ length list

  pub all_handled : (left handles : List ℕ) (vertices : List V)
      → AreHandled left handles vertices → length left ≡ 0
      → HaveHandles place list handles vertices
  all_handled left handles vertices have none = record {
    each = λ i v read. go i v (have.each i v read);
    size = have.size;
  }
    where
      go : (i : ℕ) (v : V) → Contains left i ⊎ IsAt place handles vertices i v
          → IsAt place handles vertices i v
      go i v (inl (k, below, here)) = absurd (omega (arith, below, none))
      go i v (inr at) = at

  module _ (left rest handles : List ℕ) (old new : Plain V) (i : ℕ) (v : V) (h : ℕ)
      (is : left ≡ i ∷ rest) (read : slice_get list i ≡ Some v)
      (inserts : Inserts place old new v h) (grows : length old.vertices ≤ length new.vertices)
      (below : h < length new.vertices) where
    -- the handle of the vertex, at its place
    now_at : i < length handles → IsAt place (slice_set handles i h) new.vertices i v
    now_at b = record {
      handle = h;
      given = slice_get-get_or (slice_set handles i h) i h
          (omega (arith, b, length-set handles i h))
          ∙ ap Some (get_or-set_same handles i h h b);
      below = below;
      here = lands place old new v h inserts;
    }

    -- a vertex that has its handle keeps it
    keeps_at : (j : ℕ) (w : V) → j ≢ i → IsAt place handles old.vertices j w
        → IsAt place (slice_set handles i h) new.vertices j w
    keeps_at j w apart at =
        let given = at.given in let under = at.below in
        let inside = slice_get_within handles j at.handle given in record {
          handle = at.handle;
          given = slice_get-get_or (slice_set handles i h) j at.handle
              (omega (arith, inside, length-set handles i h))
              ∙ ap Some (get_or-set_other handles i j h at.handle apart
              ∙ get_or_from_slice_get handles j at.handle at.handle given);
          below = omega (arith, under, grows);
          here = stays place old new v h at.handle inserts under ∙ at.here;
        }

    -- the same, where it is the vertex that was inserted
    same_at : i < length handles → (j : ℕ) (w : V) → j ≡ i → slice_get list j ≡ Some w
        → IsAt place (slice_set handles i h) new.vertices j w
    same_at b j w e got =
        let one : Some v ≡ Some w = sym read ∙ ap (slice_get list) (sym e) ∙ got in
        subst (λ (k : ℕ). IsAt place (slice_set handles i h) new.vertices k w) (sym e)
        (subst (λ (u : V). IsAt place (slice_set handles i h) new.vertices i u)
        (cc) (now_at b))

    later : (j : ℕ) → j ≢ i → Contains left j → Contains rest j
    later j apart c = at_rest (subst (λ (xs : List ℕ). Contains xs j) is c)
      where
        at_rest : Contains (i ∷ rest) j → Contains rest j
        at_rest (zero, below, here) = absurd (apart (sym here))
        at_rest (suc k, below, here) = (k, omega (arith, below), here)

    pub one_handled : i < length handles → AreHandled left handles old.vertices
        → AreHandled rest (slice_set handles i h) new.vertices
    one_handled b have = record {
      each = λ j w got. go j w got (cases_eq j i) (have.each j w got);
      size = length-set handles i h ∙ have.size;
    }
      where
        go : (j : ℕ) (w : V) → slice_get list j ≡ Some w → (j ≡ i) ⊎ (j ≢ i)
            → Contains left j ⊎ IsAt place handles old.vertices j w
            → Contains rest j ⊎ IsAt place (slice_set handles i h) new.vertices j w
        go j w got (inl e) x = inr (same_at b j w e got)
        go j w got (inr apart) (inl c) = inl (later j apart c)
        go j w got (inr apart) (inr at) = inr (keeps_at j w apart at)
