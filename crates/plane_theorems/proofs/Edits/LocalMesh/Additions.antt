-- One vertex more: an edit that adds the next vertex keeps a mesh local.
-- Notions: LivesUpTo (the vertices, and the new one); not_left, within_outer (where it is);
-- new_edges (its two outer edges), new_edges_owe; IsAddition (what such an edit owes) and `added`.
use Rattle.std.proofs.Common.{◌≡◌, ◌⊎◌, ℕ, suc, ◌<◌, List, [], ◌∷◌, refl, sym, ap, subst, arith}
use mathlib.Core.Logic.{inl, inr}
use Rattle.std.specs.Prelude.{pos, ◌≤ℤ◌, ◌<ℤ◌, Contains}
use Rattle.plane.specs.{Face, Point, whole, WithinSegment}
use Rattle.plane.proofs.{at_most_if_not_less, below_or_last, bracket, bracket-last, bracket-outer}
use Rattle.plane.proofs.{bracket-turn, distinct_with_next, IsFresh, left_not_zero, lift, zero_weak}
use Rattle.plane_theorems.specs.{FacesChange, OuterChange}
use Rattle.plane_theorems.proofs.Edits.LocalMesh.Changes.{Each, of_each, Once, to_each}
use Rattle.plane_theorems.proofs.Edits.LocalMesh.Exchange.{AreTurning, EdgesOwe, edited, IsUsed}
use Rattle.plane_theorems.proofs.Edits.LocalMesh.Exchange.{KeepBalance, some_made, to_signs}
use Rattle.plane_theorems.proofs.Tiling.Counting.{at, SignMesh, within_turned}
use Rattle.plane_theorems.proofs.Tiling.Edges as E
use Rattle.plane_theorems.proofs.Tiling.Covering as C
use Rattle.plane_theorems.proofs.Tiling.Places as P
pub use Rattle.plane_theorems.proofs.Edits.LocalMesh.Exchange.{around_turn_free}

-- the indexes below n, and n
abbrev pub LivesUpTo : ℕ → ℕ → Type 0
LivesUpTo n k = (k < n) ⊎ (k ≡ n)

-- are those below n + 1
pub lives_below : (n k : ℕ) → LivesUpTo n k → k < suc n
lives_below n k (inl h) = omega arith
lives_below n k (inr e) = omega arith

-- point n is not left of the pair, nor strictly within it
abbrev IsRightOf : ℕ → (ℕ → Point) → ℕ × ℕ → Type 0
IsRightOf n p e = (bracket (at p e.0) (at p e.1) (at p n) ≤ℤ pos 0)
    × ¬ WithinSegment (whole (p e.0)) (whole (p e.1)) (whole (p n))

-- none of the points below n is left of the pair
abbrev pub SupportsOld : ℕ → (ℕ → Point) → ℕ × ℕ → Type 0
SupportsOld n p e = (k : ℕ) → k < n → bracket (at p e.0) (at p e.1) (at p k) ≤ℤ pos 0

-- none of them is strictly within it
abbrev pub IsBareOfOld : ℕ → (ℕ → Point) → ℕ × ℕ → Type 0
IsBareOfOld n p e = (k : ℕ) → k < n → ¬ WithinSegment (whole (p e.0)) (whole (p e.1)) (whole (p k))

-- point n is strictly within no pair of the list
abbrev pub IsWithinNone : ℕ → (ℕ → Point) → List (ℕ × ℕ) → Type 0
IsWithinNone n p pairs = (e : ℕ × ℕ) → Contains pairs e
    → ¬ WithinSegment (whole (p e.0)) (whole (p e.1)) (whole (p n))

-- where point n is on the left of no outer edge, it is not above 0 by its bracket
pub not_left : (n : ℕ) (p : ℕ → Point) (faces : List Face) (outer : List (ℕ × ℕ))
    (m : SignMesh n p faces outer) → (P.IsLeftOfOuter n p faces outer m (whole (p n)) → ⊥)
    → (e : ℕ × ℕ) → Contains outer e → bracket (at p e.0) (at p e.1) (at p n) ≤ℤ pos 0
not_left n p faces outer m none e h =
    at_most_if_not_less _ _ (λ s. none (record { e = e; here = h; left = s }))

-- a point strictly within an outer edge is within the side behind it
pub within_outer : (n : ℕ) (p : ℕ → Point) (faces : List Face) (outer : List (ℕ × ℕ))
    (m : SignMesh n p faces outer) (e : ℕ × ℕ) → Contains outer e → WithinSegment (whole (p e.0))
    (whole (p e.1)) (whole (p n)) → P.IsOnSide n p faces outer m (whole (p n))
within_outer n p faces outer m e h w = record {
  u = e.1;
  v = e.0;
  side = C.behind_outer n p _ _ m e.0 e.1 h;
  within = within_turned _ _ _ w;
}

-- an end is not strictly within its own segment
not_own_end : (a b c : Point) → pos 0 <ℤ bracket (lift a) (lift b) (lift c)
    → ¬ WithinSegment (whole a) (whole c) (whole c)
not_own_end a b c turns w = left_not_zero (E.within_third c a b _ (within_turned a c c w)
    (rw (bracket-turn _ _ _) turns)) (bracket-last _ _)

-- where a b c turns left, c is not strictly within the segment from c to b
not_own_start : (a b c : Point) → pos 0 <ℤ bracket (lift a) (lift b) (lift c)
    → ¬ WithinSegment (whole c) (whole b) (whole c)
not_own_start a b c turns w = left_not_zero (E.within_second b c a _
    (within_turned c b c w) (rw bracket-turn at turns)) (bracket-outer _ _)

-- the outer edges from u to n and from n to w
abbrev pub new_edges : ℕ → ℕ → ℕ → List (ℕ × ℕ)
new_edges n u w = (u, n) ∷ (n, w) ∷ []

-- what is owed of them, where u x n and y w n turn left: they support all points and have none
-- strictly within them
pub new_edges_owe : (n : ℕ) (p : ℕ → Point) (outer left : List (ℕ × ℕ)) (u w x y : ℕ) → u < n
    → w < n → pos 0 <ℤ bracket (at p u) (at p x) (at p n) → pos 0 <ℤ bracket (at p y) (at p w)
    (at p n) → ((e : ℕ × ℕ) → Contains outer e → (e.0 < n) × (e.1 < n)) → Each (Contains outer) left
    → Once left → SupportsOld n p (u, n) → IsBareOfOld n p (u, n) → SupportsOld n p (n, w)
    → IsBareOfOld n p (n, w) → EdgesOwe (LivesUpTo n) p outer left (new_edges n u w)
new_edges_owe n p outer left u w x y h k first second old there once a b c d = record {
  comes = (
    record {
      ends = (inl h, inr refl, λ e. omega arith);
      supporting = λ z l. elim l [ inl o ↦ a z o | inr e ↦ rw e (zero_weak (bracket-last _ _)) ];
      bare = λ z l i. elim l [ inl o ↦ b z o i | inr e ↦ not_own_end _ _ _ first (rw e at i) ];
    },
    (
      record {
        ends = (inr refl, inl k, λ e. omega arith);
        supporting =
            λ z l. elim l [ inl o ↦ c z o | inr e ↦ rw e (zero_weak (bracket-outer _ _)) ];
        bare = λ z l i. elim l [ inl o ↦ d z o i | inr e ↦ not_own_start _ _ _ second (rw e at i) ];
      },
      tt,
    ),
  );
  left_there = there;
  left_once = once;
  come_once = (((λ e. let i = ap (λ (x : ℕ × ℕ). x.0) e in omega arith), tt), (tt, tt));
  come_new = (
    (λ z. let i = (old (u, n) z).1 in omega arith),
    ((λ z. let i = (old (n, w) z).0 in omega arith), tt),
  );
}

module _ (n : ℕ) (p : ℕ → Point) (faces new gone made : List Face)
    (outer outer' left come : List (ℕ × ℕ)) (m : SignMesh n p faces outer) where
  -- what an edit that puts the next index, n, owes
  pub record IsAddition : Type 0 where
    pub faces_change : FacesChange faces new gone made
    pub outer_change : OuterChange outer outer' left come
    pub fresh : IsFresh n p
    pub some : IsUsed made n
    pub turning : Each (λ f. AreTurning (LivesUpTo n) p f.a f.b f.c) made
    pub kept : Each (λ f. IsUsed made f.a × IsUsed made f.b × IsUsed made f.c) gone
    pub right : (e : ℕ × ℕ) → Contains outer e → ¬ Contains left e → IsRightOf n p e
    pub edges : EdgesOwe (LivesUpTo n) p outer left come
    pub same : KeepBalance gone made left come

  -- then it keeps the mesh
  pub added : IsAddition → SignMesh (suc n) p new outer'
  added s = to_signs (LivesUpTo n) _ p new _ (λ k h. below_or_last n k h) (lives_below n)
      (edited (LivesUpTo n) n p _ new _ _ _ _ _ _ m (record {
        faces_change = s.faces_change;
        outer_change = s.outer_change;
        distinct = λ i j h k. distinct_with_next n p m.distinct s.fresh i j (lives_below n i h)
            (lives_below n j k);
        some_face = some_made _ new _ _ s.faces_change n s.some;
        old_or_new = λ k h. elim h
            [ inl l ↦ inl l | inr e ↦ inr (inl (subst (IsUsed made) (sym e) s.some)) ];
        lives = λ k h. inl (inl h);
        turning = s.turning;
        kept = to_each _ _ (λ f h.
            let u = of_each (λ f. IsUsed made f.a × IsUsed made f.b × IsUsed made f.c) _ s.kept f
            h
            in ((λ _. inl u.0), (λ _. inl u.1), (λ _. inl u.2)));
        stays = λ e h away. let r = s.right e h away in let c = m.ends e h in record {
          ends = (inl c.0, inl c.1, c.2);
          supporting = λ k l. elim l [ inl x ↦ m.supporting e h k x | inr x ↦ rw x r.0 ];
          bare = λ k l w. elim l [ inl x ↦ m.bare e h k x w | inr x ↦ r.1 (rw x at w) ];
        };
        edges = s.edges;
        same = s.same;
      }))
