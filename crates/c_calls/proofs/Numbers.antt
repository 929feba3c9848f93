-- How it ended that C gave numbers to vertices.
-- Lemmas: read_other, read_same, read_pushed, read_last, read_before, is_in, no_numbers,
-- one_number, one_more_number, as_many, is_numbered, is_unequal, numbers_none, numbered_in_plain,
-- numbered_in_constrained.
use Rattle.std.proofs.Common.{◌≡◌, ◌≢◌, ◌<◌, ◌+◌, ◌∙◌, ◌⊎◌, [], ◌∷◌, ◌++◌, ℕ, zero, suc}
use Rattle.std.proofs.Common.{List, length, map, take, get_or, refl, sym, ap, subst, inl, inr}
use Rattle.std.proofs.Common.{arith}
use Rattle.std.specs.Prelude.{All, Contains, Some, slice_get, slice_set}
use Rattle.std.proofs.lemmas.List.{length-map, length-set, length-take-le, get_or-set_same}
use Rattle.std.proofs.lemmas.List.{map-set, take_more}
use Rattle.std.proofs.lemmas.Option.{slice_get-get_or, slice_get_within, get_or_from_slice_get}
use Rattle.std.proofs.Math.Seq.{map-set_same}
use Rattle.delaunay_legalization.specs.{declared.cdt_edge.CdtEdge.CdtEdge, State.State}
use Rattle.c_calls.specs.{AnyTriangulation, Constrained, GivesNumbers, NumberedPoint, Plain, WELL}
use Rattle.c_calls.specs.Lists.{numbered, Numbering, numbering_of_none, numbering_unequal}
use Rattle.c_calls.specs.Lists.{NumbersKept}
use Rattle.c_calls.specs.declared.statuses.TheConstants.{NO_SUCH_VERTEX, UNEQUAL_LENGTHS}

-- ---- lists
-- a write leaves what is elsewhere
pub read_other : {X : Type 0} (xs : List X) (i j : ℕ) (x : X) → j ≢ i
    → slice_get (slice_set xs i x) j ≡ slice_get xs j
read_other [] zero j x apart = refl
read_other [] (suc i) j x apart = refl
read_other (y ∷ ys) zero zero x apart = absurd (apart refl)
read_other (y ∷ ys) zero (suc j) x apart = refl
read_other (y ∷ ys) (suc i) zero x apart = refl
read_other (y ∷ ys) (suc i) (suc j) x apart =
    read_other ys i j x (λ same. apart (ap suc same))

-- and its value is there
pub read_same : {X : Type 0} (xs : List X) (i : ℕ) (x : X) → i < length xs
    → slice_get (slice_set xs i x) i ≡ Some x
read_same xs i x below = slice_get-get_or (slice_set xs i x) i x
    (omega (arith, below, length-set xs i x)) ∙ ap Some (get_or-set_same xs i x x below)

-- what a list with one more element has
pub read_pushed : {X : Type 0} (xs : List X) (x y : X) (k : ℕ)
    → slice_get (xs ++ x ∷ []) k ≡ Some y
    → (slice_get xs k ≡ Some y) ⊎ ((k ≡ length xs) × (x ≡ y))
read_pushed [] x y zero read = inr (refl, cc)
read_pushed [] x y (suc k) read = absurd (cc)
read_pushed (z ∷ zs) x y zero read = inl read
read_pushed (z ∷ zs) x y (suc k) read = more (read_pushed zs x y k read)
  where
    more : (slice_get zs k ≡ Some y) ⊎ ((k ≡ length zs) × (x ≡ y))
        → (slice_get (z ∷ zs) (suc k) ≡ Some y) ⊎ ((suc k ≡ length (z ∷ zs)) × (x ≡ y))
    more (inl h) = inl h
    more (inr (at, same)) = inr (ap suc at, same)

-- its last element
pub read_last : {X : Type 0} (xs : List X) (x : X) → slice_get (xs ++ x ∷ []) (length xs) ≡ Some x
read_last [] x = refl
read_last (y ∷ ys) x = read_last ys x

-- what it had
pub read_before : {X : Type 0} (xs : List X) (x y : X) (k : ℕ) → slice_get xs k ≡ Some y
    → slice_get (xs ++ x ∷ []) k ≡ Some y
read_before [] x y k read = absurd (cc)
read_before (z ∷ zs) x y zero read = read
read_before (z ∷ zs) x y (suc k) read = read_before zs x y k read

-- an element is in the list
pub is_in : {X : Type 0} (xs : List X) (x : X) (k : ℕ) → slice_get xs k ≡ Some x → Contains xs x
is_in xs x k read = (k, slice_get_within xs k x read, get_or_from_slice_get xs k x x read)

-- ---- vertices and their numbers
module _ {D U F : Type 0} where
  -- none was named
  pub no_numbers : (s : State NumberedPoint D U F) → GivesNumbers [] [] s s
  no_numbers s = record {
    rest = refl;
    positions = refl;
    others = λ i none. refl;
    given = λ k i n read last number. absurd (cc);
  }

  -- one more was named
  module _ (vertices numbers : List ℕ) (old now new : State NumberedPoint D U F)
      (v n : ℕ) (p : NumberedPoint) (same : length vertices ≡ length numbers)
      (so_far : GivesNumbers vertices numbers old now) (read : slice_get now.vertices v ≡ Some p)
      (is : new ≡ record now
      { vertices = slice_set now.vertices v (record p { number = n }) }) where
    abbrev q : NumberedPoint
    q = record p { number = n }

    written : new.vertices ≡ slice_set now.vertices v q
    written = ap (λ (s : State NumberedPoint D U F). s.vertices) is

    below : v < length now.vertices
    below = slice_get_within now.vertices v p read

    rest_then : new ≡ record old { vertices = new.vertices }
    rest_then = is
        ∙ ap (λ (s : State NumberedPoint D U F). record s { vertices = slice_set now.vertices v q })
        so_far.rest
        ∙ ap (λ (vs : List NumberedPoint). record old { vertices = vs }) (sym written)

    positions_then : map (λ (a : NumberedPoint). a.position) new.vertices
        ≡ map (λ (a : NumberedPoint). a.position) old.vertices
    positions_then = ap (map (λ (a : NumberedPoint). a.position)) written
        ∙ map-set_same (λ (a : NumberedPoint). a.position) now.vertices v q q
        (ap (λ (a : NumberedPoint). a.position)
        (sym (get_or_from_slice_get now.vertices v p q read)))
        ∙ so_far.positions

    elsewhere : (i : ℕ) → i ≢ v → slice_get new.vertices i ≡ slice_get now.vertices i
    elsewhere i apart = ap (λ (vs : List NumberedPoint). slice_get vs i) written
        ∙ read_other now.vertices v i q apart

    number_elsewhere : (i : ℕ) → i ≢ v
        → slice_get (map (λ (a : NumberedPoint). a.number) new.vertices) i
        ≡ slice_get (map (λ (a : NumberedPoint). a.number) now.vertices) i
    number_elsewhere i apart =
        ap (λ (vs : List NumberedPoint). slice_get (map (λ (a : NumberedPoint). a.number) vs) i)
        written
        ∙ ap (λ (ns : List ℕ). slice_get ns i)
        (map-set (λ (a : NumberedPoint). a.number) now.vertices v q)
        ∙ read_other (map (λ (a : NumberedPoint). a.number) now.vertices) v i n apart

    number_there : slice_get (map (λ (a : NumberedPoint). a.number) new.vertices) v ≡ Some n
    number_there =
        ap (λ (vs : List NumberedPoint). slice_get (map (λ (a : NumberedPoint). a.number) vs) v)
        written
        ∙ ap (λ (ns : List ℕ). slice_get ns v)
        (map-set (λ (a : NumberedPoint). a.number) now.vertices v q)
        ∙ read_same (map (λ (a : NumberedPoint). a.number) now.vertices) v n
        (omega (arith, below, length-map now.vertices (λ (a : NumberedPoint). a.number)))

    given_then : (k i m : ℕ) → slice_get (vertices ++ v ∷ []) k ≡ Some i
        → ((j : ℕ) → k < j → slice_get (vertices ++ v ∷ []) j ≢ Some i)
        → slice_get (numbers ++ n ∷ []) k ≡ Some m
        → slice_get (map (λ (a : NumberedPoint). a.number) new.vertices) i ≡ Some m
    given_then k i m named last number =
        go (read_pushed vertices v i k named) (read_pushed numbers n m k number)
      where
        go : (slice_get vertices k ≡ Some i) ⊎ ((k ≡ length vertices) × (v ≡ i))
            → (slice_get numbers k ≡ Some m) ⊎ ((k ≡ length numbers) × (n ≡ m))
            → slice_get (map (λ (a : NumberedPoint). a.number) new.vertices) i ≡ Some m
        go (inl first) (inl second) =
            let inside = slice_get_within vertices k i first in
            let apart : i ≢ v = λ e. last (length vertices) inside
            (read_last vertices v ∙ ap Some (sym e)) in
            number_elsewhere i apart ∙ so_far.given k i m first
            (λ j more there. last j more (read_before vertices v i j there)) second
        go (inl first) (inr (at, e)) =
            let inside = slice_get_within vertices k i first in
            absurd (omega (arith, inside, at, same))
        go (inr (at, e)) (inl second) =
            let inside = slice_get_within numbers k m second in
            absurd (omega (arith, inside, at, same))
        go (inr (at, e)) (inr (place, f)) =
            subst (λ (j : ℕ). slice_get (map (λ (a : NumberedPoint). a.number) new.vertices) j
            ≡ Some m) e (number_there ∙ ap Some f)

    pub one_number : GivesNumbers (vertices ++ v ∷ []) (numbers ++ n ∷ []) old new
    one_number = record {
      rest = rest_then;
      positions = positions_then;
      others = λ i none.
          elsewhere i (λ e. none (is_in (vertices ++ v ∷ []) i (length vertices)
          (read_last vertices v ∙ ap Some (sym e))))
          ∙ so_far.others i (λ (k, within, here). none (is_in (vertices ++ v ∷ []) i k
          (read_before vertices v i k (slice_get-get_or vertices k i within ∙ ap Some here))));
      given = given_then;
    }

  -- one more of two lists
  pub one_more_number : (vertices numbers : List ℕ) (k : ℕ)
      (old now new : State NumberedPoint D U F) (p : NumberedPoint) → k < length vertices
      → length vertices ≡ length numbers → GivesNumbers (take k vertices) (take k numbers) old now
      → slice_get now.vertices (get_or vertices k 0) ≡ Some p
      → new ≡ record now {
        vertices = slice_set now.vertices (get_or vertices k 0)
            (record p { number = get_or numbers k 0 });
      }
      → GivesNumbers (take (k + 1) vertices) (take (k + 1) numbers) old new
  one_more_number vertices numbers k old now new p below same so_far read is =
      let inside : k < length numbers = omega (arith, below, same) in
      subst (λ (vs : List ℕ). GivesNumbers vs (take (k + 1) numbers) old new)
      (sym (take_more vertices k 0 below))
      (subst (λ (ns : List ℕ). GivesNumbers (take k vertices ++ get_or vertices k 0 ∷ []) ns old
      new) (sym (take_more numbers k 0 inside))
      (one_number (take k vertices) (take k numbers) old now new (get_or vertices k 0)
      (get_or numbers k 0) p
      (length-take-le k vertices (omega (arith, below))
      ∙ sym (length-take-le k numbers (omega (arith, inside)))) so_far read is))

  -- the number of vertices stays
  pub as_many : (vertices numbers : List ℕ) (old new : State NumberedPoint D U F)
      → GivesNumbers vertices numbers old new → length new.vertices ≡ length old.vertices
  as_many vertices numbers old new h =
      sym (length-map new.vertices (λ (a : NumberedPoint). a.position))
      ∙ ap length h.positions ∙ length-map old.vertices (λ (a : NumberedPoint). a.position)

  -- ---- how it ended
  pub is_numbered : (vertices numbers : List ℕ) (old new : State NumberedPoint D U F)
      → GivesNumbers vertices numbers old new → Numbering vertices numbers WELL old new
  is_numbered vertices numbers old new h = numbered refl h

  pub is_unequal : (vertices numbers : List ℕ) (s : State NumberedPoint D U F)
      → length vertices ≢ length numbers → Numbering vertices numbers UNEQUAL_LENGTHS s s
  is_unequal vertices numbers s apart = numbering_unequal refl apart refl

  pub numbers_none : (vertices numbers : List ℕ) (s : State NumberedPoint D U F)
      → ¬ All (λ i. i < length s.vertices) vertices → Numbering vertices numbers NO_SUCH_VERTEX s s
  numbers_none vertices numbers s missing = numbering_of_none refl missing refl

-- of a plain triangulation
pub numbered_in_plain : (vertices numbers : List ℕ) (status : ℕ) (k : AnyTriangulation)
    (a b : State NumberedPoint (Unit {0}) (Unit {0}) (Unit {0})) → k ≡ Plain a
    → Numbering vertices numbers status a b → NumbersKept vertices numbers status k (Plain b)
numbered_in_plain vertices numbers status k a b is h =
    subst (λ (w : AnyTriangulation). NumbersKept vertices numbers status w (Plain b)) (sym is) h

-- of a constrained one
pub numbered_in_constrained : (vertices numbers : List ℕ) (status : ℕ) (k : AnyTriangulation)
    (a b : State NumberedPoint (Unit {0}) (CdtEdge (Unit {0})) (Unit {0})) → k ≡ Constrained a
    → Numbering vertices numbers status a b
    → NumbersKept vertices numbers status k (Constrained b)
numbered_in_constrained vertices numbers status k a b is h =
    subst (λ (w : AnyTriangulation). NumbersKept vertices numbers status w (Constrained b)) (sym is)
    h

-- for the functions that make the edit
pub ruleset numberings = (is_numbered, is_unequal, numbers_none)

pub ruleset numberings_kept = (numbered_in_plain, numbered_in_constrained)
