-- What a hierarchy holds when it is made from positions, a copy of a layer, and what is not in one.
-- Lemmas: element_is_listed, of_then_with, sites_of, same_place, none_found.
use Rattle.std.proofs.Common.{◌≡◌, ◌∙◌, ℕ, ◌<◌, ℤ, List, length, map, get_or, sym, ap, subst, arith}
use mathlib.Core.Logic.{⊎_elim}
use Rattle.std.specs.Prelude.{All, Contains, Option, Some, None, Bool, true, false, not}
use Rattle.std.specs.Prelude.{IsTrue, MatchOption, is_some, pos}
use Rattle.std.proofs.lemmas.List.{length-map, get_or-map, get_or_default}
use Rattle.std.proofs.lemmas.List.Elements.{All-contains}
use Rattle.plane.specs.{IsAtMost, IsAtMostOf, IsAtMostWith, Point}
use Rattle.delaunay_core.specs.{place_of, Point2}
use Rattle.delaunay_legalization.specs.{IsKnown}

-- the position of an element is one of those of the list
pub element_is_listed : {V : Type 0} (place : V → Point) (vs : List V) (i : ℕ) (v : V)
    → v ≡ get_or vs i v → i < length vs → Contains (map place vs) (place v)
element_is_listed place vs i v here within = (
  i,
  omega (arith, within, length-map vs place),
  get_or-map place vs i v (place v) within ∙ ap place (sym here),
)

-- at most the positions of a list, with one of them more
pub of_then_with : (now later : Point → Type 0) (points : List Point) (q : Point)
    → IsAtMostOf now points → Contains points q → IsAtMostWith now later q → IsAtMostOf later points
of_then_with now later points q held listed more = λ p h.
    ⊎_elim (λ o. held p o) (λ e. subst (Contains points) (sym e) listed) (more p h)

-- they are sites where all are
pub sites_of : (sites now : Point → Type 0) (points : List Point) → All sites points
    → IsAtMostOf now points → IsAtMost sites now
sites_of sites now points all held = λ p h. All-contains sites points p all (held p h)

-- a clone of a point has its position, where a clone of a number is that number
pub same_place : {S : Type 0} (number : S → ℤ) (clone : S → S → Type 0)
    → ((a b : S) → clone a b → b ≡ a) → (v w : Point2 S) → clone v.x w.x × clone v.y w.y
    → place_of number w ≡ place_of number v
same_place number clone same v w h =
    ap (λ a. place_of number (record { x = a; y = w.y })) (same v.x w.x h.0)
    ∙ ap (λ b. place_of number (record { x = v.x; y = b })) (same v.y w.y h.1)

-- where a search that finds each vertex found none, no point of the list is there
pub none_found : {X : Type 0} (points : List Point) (q : Point) (P : X → Type 0) (found : Option X)
    (vacant : Bool) → MatchOption found (¬ IsKnown points q) P → is_some found ≡ not vacant
    → IsTrue vacant → ¬ Contains points q
none_found points q P None vacant unknown same is at =
    let e = get_or_default points at.0 (record { x = pos 0; y = pos 0 }) q at.1 in
    unknown (record { index = at.0; below = at.1; here = e ∙ at.2 })
none_found points q P (Some x) true unknown same is at = absurd (cc same)
none_found points q P (Some x) false unknown same is at = absurd (cc is)
