-- The edges and faces at a vertex, told by their numbers, and lists of them where one gets other
-- ends or corners.
-- Notions: misses, lacks_corner; has_corner, touches, touches_it, touches_not, ends_off,
-- corner_there, corner_missing, corners_off, which_corner, with_other_ends, full_edges-set,
-- with_other_corners, full_faces-set, along_between.
use Rattle.std.proofs.Common.{◌≡◌, ◌≢◌, ◌⊎◌, ◌*◌, ◌%◌, ◌<◌, ◌==◌, if◌then◌else◌, [], ◌∷◌, ◌∙◌}
use Rattle.std.proofs.Common.{ℕ, zero, suc, Bool, true, false, not, List, length, set, get_or, refl}
use Rattle.std.proofs.Common.{ap, inl, inr, arith}
use Rattle.std.proofs.lemmas.Bool.{cases_eq}
use Rattle.std.proofs.lemmas.Bool.Decides.{nat_tests}
use Rattle.half_edge_links.specs.{along, Ends, Triangle}
use Rattle.half_edge_dcel.specs.{Connects, full_edges_of, full_faces_of, FullEdge, FullFace}
use Rattle.half_edge_dcel.specs.{HasCorners, joins}

-- ---- tests
one_of_three : ℕ → ℕ → ℕ → ℕ → Bool
one_of_three v a b c = if a == v then true else (if b == v then true else (c == v))

to_three : (v a b c : ℕ) → (a ≡ v) ⊎ ((b ≡ v) ⊎ (c ≡ v)) → one_of_three v a b c ≡ true
unfolding one_of_three
to_three v a b c at = grind (arith, nat_tests)

from_three : (v a b c : ℕ) → one_of_three v a b c ≡ true → (a ≡ v) ⊎ ((b ≡ v) ⊎ (c ≡ v))
unfolding one_of_three
from_three v a b c is =
    elim (cases_eq a v) [
      | inl q ↦ inl q
      | inr p ↦ elim (cases_eq b v) [
        | inl q ↦ inr (inl q)
        | inr r ↦
            elim (cases_eq c v) [ inl q ↦ inr (inr q) | inr x ↦ absurd (grind (arith, nat_tests)) ]
      ]
    ]

none_of_three : (v a b c : ℕ) → a ≢ v → b ≢ v → c ≢ v → one_of_three v a b c ≡ false
unfolding one_of_three
none_of_three v a b c p q r = grind (arith, nat_tests)

-- vertex v is a corner of the face
pub has_corner : {F : Type 0} → ℕ → FullFace F → Bool
has_corner v f = one_of_three v f.corners.first f.corners.second f.corners.third

-- vertex v is an end of the edge
pub touches : {D U : Type 0} → ℕ → FullEdge D U → Bool
touches v e = one_of_three v e.source e.target e.target

-- vertex v is no end of the edge
abbrev pub misses : {D U : Type 0} → ℕ → FullEdge D U → Bool
misses v e = not (touches v e)

-- vertex v is no corner of the face
abbrev pub lacks_corner : {F : Type 0} → ℕ → FullFace F → Bool
lacks_corner v f = not (has_corner v f)

-- an edge touches vertex v if v is one of its ends, either first
pub touches_it : {D U : Type 0} (v : ℕ) (e : FullEdge D U) (p : Ends) → Connects e p
    → (p.source ≡ v) ⊎ (p.target ≡ v) → touches v e ≡ true
unfolding touches
touches_it v e p (inl q) (inl a) = to_three v _ _ _ (inl (q.0 ∙ a))
touches_it v e p (inl q) (inr b) = to_three v _ _ _ (inr (inl (q.1 ∙ b)))
touches_it v e p (inr q) (inl a) = to_three v _ _ _ (inr (inl (q.1 ∙ a)))
touches_it v e p (inr q) (inr b) = to_three v _ _ _ (inl (q.0 ∙ b))

-- an edge does not touch vertex v if v is none of its ends, either first
pub touches_not : {D U : Type 0} (v : ℕ) (e : FullEdge D U) (p : Ends) → Connects e p
    → p.source ≢ v → p.target ≢ v → touches v e ≡ false
unfolding touches
touches_not v e p (inl q) a b = rw (q.0, q.1) (none_of_three v _ _ _ a b b)
touches_not v e p (inr q) a b = rw (q.0, q.1) (none_of_three v _ _ _ b a a)

-- an edge does not touch vertex v if it neither starts nor ends there
pub ends_off : {D U : Type 0} (v : ℕ) (e : FullEdge D U) → e.source ≢ v → e.target ≢ v
    → touches v e ≡ false
unfolding touches
ends_off v e a b = none_of_three v _ _ _ a b b

-- a face has corner v if its corners, from one of them on, begin with v
pub corner_there : {F : Type 0} (v : ℕ) (f : FullFace F) (t : Triangle) → HasCorners f t
    → t.first ≡ v → has_corner v f ≡ true
unfolding has_corner
corner_there v f t (inl q) at = rw q (to_three v _ _ _ (inl at))
corner_there v f t (inr (inl q)) at = rw q (to_three v _ _ _ (inr (inr at)))
corner_there v f t (inr (inr q)) at = rw q (to_three v _ _ _ (inr (inl at)))

-- a face does not have corner v if v is none of its corners, from one of them on
pub corner_missing : {F : Type 0} (v : ℕ) (f : FullFace F) (t : Triangle) → HasCorners f t
    → t.first ≢ v → t.second ≢ v → t.third ≢ v → has_corner v f ≡ false
unfolding has_corner
corner_missing v f t (inl q) a b c = rw q (none_of_three v _ _ _ a b c)
corner_missing v f t (inr (inl q)) a b c = rw q (none_of_three v _ _ _ b c a)
corner_missing v f t (inr (inr q)) a b c = rw q (none_of_three v _ _ _ c a b)

-- a face does not have corner v if each of its three corners is another vertex
pub corners_off : {F : Type 0} (v : ℕ) (f : FullFace F) → f.corners.first ≢ v → f.corners.second ≢ v
    → f.corners.third ≢ v → has_corner v f ≡ false
unfolding has_corner
corners_off v f a b c = none_of_three v _ _ _ a b c

-- a face with corner v has it as its first, its second or its third
pub which_corner : {F : Type 0} (v : ℕ) (f : FullFace F) → has_corner v f ≡ true
    → (f.corners.first ≡ v) ⊎ ((f.corners.second ≡ v) ⊎ (f.corners.third ≡ v))
unfolding has_corner
which_corner v f is = from_three v _ _ _ is

-- ---- one edge gets other ends, one face other corners
-- an edge with other ends and the same data
unfoldable pub with_other_ends : {D U : Type 0} → FullEdge D U → Ends → FullEdge D U
with_other_ends x t = record x { source = t.source; target = t.target }

-- other ends for undirected edge k change just this edge in the list of edges with all their data
pub full_edges-set : {D U : Type 0} (es : List Ends) (us : List U) (ds : List D) (k : ℕ) (t : Ends)
    (d : FullEdge D U) → length us ≡ length es → length ds ≡ 2 * length es → k < length es
    → full_edges_of (set es k t) us ds
    ≡ set (full_edges_of es us ds) k (with_other_ends (get_or (full_edges_of es us ds) k d) t)
unfolding with_other_ends
full_edges-set [] us ds k t d p q within = absurd (omega (arith, within))
full_edges-set (x ∷ es) [] ds k t d p q within = absurd (omega (arith, p))
full_edges-set (x ∷ es) (u ∷ us) [] k t d p q within = absurd (omega (arith, q))
full_edges-set (x ∷ es) (u ∷ us) (a ∷ []) k t d p q within = absurd (omega (arith, q))
full_edges-set (x ∷ es) (u ∷ us) (a ∷ b ∷ ds) zero t d p q within = refl
full_edges-set (x ∷ es) (u ∷ us) (a ∷ b ∷ ds) (suc k) t d p q within =
    ap (λ xs. record { source = x.source; target = x.target; value = u; there = a; back = b } ∷ xs)
    (full_edges-set es us ds k t d (omega (arith, p)) (omega (arith, q))
    (omega (arith, within)))

-- a face with other corners and the same data
unfoldable pub with_other_corners : {F : Type 0} → FullFace F → Triangle → FullFace F
with_other_corners f t = record f { corners = t }

-- other corners for face k change just this face in the list of faces with their data
pub full_faces-set : {F : Type 0} (ts : List Triangle) (fs : List F) (k : ℕ) (t : Triangle)
    (d : FullFace F) → length fs ≡ length ts → k < length ts → full_faces_of (set ts k t) fs
    ≡ set (full_faces_of ts fs) k (with_other_corners (get_or (full_faces_of ts fs) k d) t)
unfolding with_other_corners
full_faces-set [] fs k t d p within = absurd (omega (arith, within))
full_faces-set (x ∷ ts) [] k t d p within = absurd (omega (arith, p))
full_faces-set (x ∷ ts) (f ∷ fs) zero t d p within = refl
full_faces-set (x ∷ ts) (f ∷ fs) (suc k) t d p within =
    ap (λ xs. record { corners = x; value = f } ∷ xs)
    (full_faces-set ts fs k t d (omega (arith, p)) (omega (arith, within)))

-- the ends of an edge, in the order of its even directed edge
pub along_between : {D U : Type 0} (e : FullEdge D U) (h a b : ℕ)
    → Connects (with_other_ends e (along h a b)) (joins a b)
unfolding with_other_ends
along_between e h a b =
    elim (cases_eq (h % 2) 0) [
      | inl q ↦ let is : along h a b ≡ record { source = a; target = b } = rw q refl in
          inl (ap (λ (x : Ends). x.source) is, ap (λ (x : Ends). x.target) is)
      | inr q ↦ let one : h % 2 ≡ 1 = omega (arith, q) in
          let is : along h a b ≡ record { source = b; target = a } = rw one refl in
          inr (ap (λ (x : Ends). x.source) is, ap (λ (x : Ends). x.target) is)
    ]
