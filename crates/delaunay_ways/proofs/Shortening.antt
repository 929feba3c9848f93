-- A part of a chain over vertices is replaced by another chain.
-- Notions: all_reversed, moved_over, moved_back; first_place, splice, turned_end, last_place,
-- chain_grows, chain_ends, end_is; done_exist, here_exists, left_exist, spliced.
use Rattle.std.proofs.Common.{◌≡◌, ◌+◌, ◌-◌, ◌<◌, [], ◌∷◌, ◌++◌, ◌∙◌, ℕ, Bool, List, length, map}
use Rattle.std.proofs.Common.{◌≤◌, arith, ap, refl, sym, subst, suc, get_or, drop, Some}
use Rattle.std.specs.Prelude.{All, reverse, slice_get}
use Rattle.std.proofs.lemmas.List.{append-nil, append_assoc, get_or_append_left, reverse-append, reverse-reverse}
use Rattle.std.proofs.lemmas.List.{drop_all, drop_more, length-append}
use Rattle.std.proofs.lemmas.List.Elements.{All-append}
use Rattle.std.proofs.lemmas.List.Sorted.{All-permutation, IsPermutation-reverse}
use Rattle.plane.specs.{IsVertex, place, Point, Triangulation, vertex, whole}
use Rattle.plane_theorems.specs.{IsInSight, Ways.Chains.IsChain}
use Rattle.delaunay_ways.specs.{point_at, Turning.end_place, Ways.IsPathBetween}

-- ---- lists
all_left : {X : Type 0} (P : X → Type 0) (xs ys : List X) → All P (xs ++ ys) → All P xs
all_left P xs ys all k d w = let size = length-append xs ys in
    subst P (get_or_append_left xs ys d k w) (all k d (omega (arith, size, w)))

all_right : {X : Type 0} (P : X → Type 0) (xs ys : List X) → All P (xs ++ ys) → All P ys
all_right P [] ys all = all
all_right P (x ∷ xs) ys all = all_right P xs ys (λ k d w. all (suc k) d (omega (arith, w)))

pub all_reversed : {X : Type 0} (P : X → Type 0) (xs : List X) → All P xs → All P (reverse xs)
all_reversed P xs all = All-permutation P xs (reverse xs) (IsPermutation-reverse xs) all

-- the last element of a list goes over to a reversed one
pub moved_over : {X : Type 0} (xs xs' ys ys' : List X) (x : X) → xs ≡ xs' ++ x ∷ []
    → ys' ≡ ys ++ x ∷ [] → xs' ++ reverse ys' ≡ xs ++ reverse ys
moved_over xs xs' ys ys' x e f =
    ap (λ zs. xs' ++ reverse zs) f ∙ ap (λ zs. xs' ++ zs) (reverse-append ys (x ∷ []))
    ∙ sym (append_assoc xs' (x ∷ []) (reverse ys)) ∙ ap (λ zs. zs ++ reverse ys) (sym e)

-- the last element of a reversed list goes to the end of another
pub moved_back : {X : Type 0} (xs xs' ys ys' : List X) (x : X) → ys ≡ ys' ++ x ∷ []
    → xs' ≡ xs ++ x ∷ [] → xs' ++ reverse ys' ≡ xs ++ reverse ys
moved_back xs xs' ys ys' x e f =
    ap (λ zs. zs ++ reverse ys') f ∙ append_assoc xs (x ∷ []) (reverse ys')
    ∙ ap (λ zs. xs ++ zs) (sym (reverse-append ys' (x ∷ [])) ∙ ap reverse (sym e))

-- ---- ends of chains
module _ (t : Triangulation) where
  -- where a chain over these vertices to q is at first
  abbrev pub first_place : List ℕ → Point → Point
  first_place [] q = q
  first_place (v ∷ vs) q = point_at t.points v

  first_behind : (vs : List ℕ) (v : ℕ) (q : Point)
      → first_place (vs ++ v ∷ []) q ≡ first_place vs (point_at t.points v)
  first_behind [] v q = refl
  first_behind (u ∷ vs) v q = refl

  -- the last one of a reversed list is its first
  pub turned_end : (q : Point) (vs : List ℕ) → first_place (reverse vs) q ≡ end_place t q vs
  turned_end q [] = refl
  turned_end q (v ∷ vs) = ap (λ ws. first_place ws q) (reverse-append (v ∷ []) vs)
      ∙ first_behind (reverse vs) v q ∙ turned_end (point_at t.points v) vs

  last_some : (p : Point) (v : ℕ) (vs : List ℕ) (u : ℕ) → Some u ≡ slice_get (v ∷ vs) (length vs)
      → end_place t p (v ∷ vs) ≡ point_at t.points u
  last_some p v [] u e = ap (point_at t.points) (only e)
    where
      only : Some u ≡ Some v → v ≡ u
      only f = cc
  last_some p v (w ∷ vs) u e = last_some (point_at t.points v) w vs u e

  -- where a chain over vertices is at the last one, by the list
  pub last_place : (p : Point) (vs : List ℕ) (u : ℕ) → Some u ≡ slice_get vs (length vs - 1)
      → end_place t p vs ≡ point_at t.points u
  last_place p [] u e = absurd (cc)
  last_place p (v ∷ vs) u e = last_some p v vs u (e ∙ ap (slice_get (v ∷ vs))
      {x = length (v ∷ vs) - 1} {y = length vs} (omega arith))

  -- it is at p or at a vertex
  pub end_is : (Holds : Point → Type 0) (p : Point) (vs : List ℕ) → Holds p
      → ((v : ℕ) → IsVertex t v → Holds (point_at t.points v)) → All (IsVertex t) vs
      → Holds (end_place t p vs)
  end_is Holds p [] here there all = here
  end_is Holds p (v ∷ vs) here there all =
      end_is Holds (point_at t.points v) vs (there v (all 0 v (omega arith))) there
      (λ k d w. all (suc k) d (omega (arith, w)))

-- ---- chains
module _ (t : Triangulation) (free : ℕ → Bool) where
  abbrev Leads : Point → List ℕ → Point → Type 0
  Leads p vs q = IsChain t free (whole p) (map (vertex t) vs) (whole q)

  -- two chains that meet at a vertex
  joined_at : (p q : Point) (vs ws : List ℕ) (w : ℕ) → Leads p vs (point_at t.points w)
      → Leads (point_at t.points w) ws q → Leads p (vs ++ w ∷ ws) q
  joined_at p q [] ws w l r = (l, r)
  joined_at p q (v ∷ vs) ws w l r = (l.0, joined_at (point_at t.points v) q vs ws w l.1 r)

  -- a chain in place of the first vertex
  begun_anew : (p p' q : Point) (chain ws : List ℕ) (v : ℕ) → Leads p' (v ∷ ws) q
      → Leads p chain (first_place t ws q) → Leads p (chain ++ ws) q
  begun_anew p p' q chain [] v old new =
      subst (λ vs. Leads p vs q) (sym (append-nil chain)) new
  begun_anew p p' q chain (w ∷ ws) v old new = joined_at p q chain ws w new old.1.1

  -- a chain in place of a vertex
  pub splice : (p q : Point) (vs chain ws : List ℕ) (v : ℕ) → Leads p (vs ++ v ∷ ws) q
      → Leads (end_place t p vs) chain (first_place t ws q) → Leads p (vs ++ chain ++ ws) q
  splice p q [] chain ws v old new = begun_anew p p q chain ws v old new
  splice p q (u ∷ vs) chain ws v old new =
      (old.0, splice (point_at t.points u) q vs chain ws v old.1 new)

  -- one more vertex is in sight
  pub chain_grows : (p q : Point) (vs : List ℕ) (i v : ℕ) → i < length vs → v ≡ get_or vs i v
      → IsInSight t free (whole p) (vertex t v) → Leads (point_at t.points v) (drop (i + 1) vs) q
      → Leads p (drop i vs) q
  chain_grows p q vs i v within is sees rest =
      subst (λ ws. Leads p ws q) (sym (drop_more vs i v within
      ∙ ap (λ (x : ℕ). x ∷ drop (i + 1) vs) (sym is))) (sees, rest)

  -- and the end after the last one
  pub chain_ends : (p q : Point) (vs : List ℕ) (i : ℕ) → length vs ≤ i
      → IsInSight t free (whole p) (whole q) → Leads p (drop i vs) q
  chain_ends p q vs i all sees =
      subst (λ ws. Leads p ws q) (sym (drop_all i vs (omega (arith, all)))) sees

  -- ---- what a path consists of
  module _ (p q : Point) (done left : List ℕ) (v : ℕ)
      (path : IsPathBetween t free (whole p) (whole q) (done ++ v ∷ reverse left)) where
    pub done_exist : All (IsVertex t) done
    done_exist = all_left (IsVertex t) done (v ∷ reverse left) path.exist

    rest_exist : All (IsVertex t) (v ∷ reverse left)
    rest_exist = all_right (IsVertex t) done (v ∷ reverse left) path.exist

    pub here_exists : IsVertex t v
    here_exists = rest_exist 0 v (omega arith)

    reversed_exist : All (IsVertex t) (reverse left)
    reversed_exist = all_right (IsVertex t) (v ∷ []) (reverse left) rest_exist

    pub left_exist : All (IsVertex t) left
    left_exist = subst (All (IsVertex t)) (reverse-reverse left)
        (all_reversed (IsVertex t) (reverse left) reversed_exist)

    -- the chain comes in place of the vertex
    pub spliced : (chain : List ℕ)
        → IsPathBetween t free (whole (end_place t p done)) (whole (end_place t q left)) chain
        → IsPathBetween t free (whole p) (whole q) (done ++ chain ++ reverse left)
    spliced chain c = record {
      chain = splice p q done chain (reverse left) v path.chain
          (subst (λ x. Leads (end_place t p done) chain x) (sym (turned_end t q left)) c.chain);
      exist = All-append (IsVertex t) (done ++ chain) (reverse left)
          (All-append (IsVertex t) done chain done_exist c.exist) reversed_exist;
    }

    -- the chain is put before those that are left, and the last one that is done too
    pub stepped : (chain done' left' left2 : List ℕ)
        → IsPathBetween t free (whole (end_place t p done)) (whole (end_place t q left)) chain
        → reverse left' ≡ chain ++ reverse left → done' ++ reverse left2 ≡ done ++ reverse left'
        → IsPathBetween t free (whole p) (whole q) (done' ++ reverse left2)
    stepped chain done' left' left2 c put moved =
        subst (IsPathBetween t free (whole p) (whole q)) (sym (moved
        ∙ ap (λ ws. done ++ ws) put ∙ sym (append_assoc done chain (reverse left))))
        (spliced chain c)

-- the first of a reversed list
pub next_of : (done left left' : List ℕ) (v : ℕ) → left ≡ left' ++ v ∷ []
    → done ++ reverse left ≡ done ++ v ∷ reverse left'
next_of done left left' v e =
    ap (λ ws. done ++ ws) (ap reverse e ∙ reverse-append left' (v ∷ []))
