-- How each change of a mesh changes its outer edges as pairs of vertices.
-- Lemmas: two_pairs, own_ends, outer_kept, outer_replaced, outer_closed.
use Rattle.std.proofs.Common.{◌≡◌, ◌⊎◌, ◌<◌, ◌+◌, [], ◌∷◌, ◌∙◌}
use Rattle.std.proofs.Common.{ℕ, length, refl, sym, ap, subst, arith}
use mathlib.Core.Logic.{inl, inr, ◌≢◌}
use Rattle.std.specs.Prelude.{Contains}
use Rattle.half_edge_links.specs.{AreSoundLinks, ClosesOuter, face, IsOuterEdge, IsSoundEdge}
use Rattle.half_edge_links.specs.{IsThis, KeepsOuter, Mesh, next, origin, ReplacesOuter, rev}
use Rattle.plane_theorems.proofs.{Contains-cases, Contains-head, Contains-later, Contains-none}
use Rattle.{plane_theorems.proofs.IsOnce, plane_theorems.specs.OuterChange}
use Rattle.{delaunay_legalization.specs.outer_of, half_edge_links.proofs.rev_within}
use Rattle.delaunay_legalization.proofs.OuterEdges.{changed_pairs, ends_at, listed}

one_pair : (x e : ℕ × ℕ) → Contains (e ∷ []) x → e ≡ x
one_pair x e c = elim (Contains-cases e [] x c) as
    (λ _. e ≡ x) [ inl p ↦ p | inr k ↦ absurd (Contains-none x k) ]

-- what a list of two pairs contains is one of them
pub two_pairs : (x d e : ℕ × ℕ) → Contains (d ∷ e ∷ []) x → (d ≡ x) ⊎ (e ≡ x)
two_pairs x d e c = elim (Contains-cases d (e ∷ []) x c) as
    (λ _. (d ≡ x) ⊎ (e ≡ x)) [ inl p ↦ inl p | inr k ↦ inr (one_pair x e k) ]

-- an outer directed edge, with its own ends
pub own_ends : (m : Mesh) (e : ℕ) → e < length m.half_edges → face m e ≡ 0
    → IsOuterEdge m e (origin m e) (origin m (rev e))
own_ends m e l o = record { within = l; outer = o; source = refl; target = refl }

own_pair : (m : Mesh) (e i j : ℕ) → e < length m.half_edges → face m e ≡ 0 → ends_at m e ≡ (i, j)
    → IsOuterEdge m e i j
own_pair m e i j l o p = record {
  within = l;
  outer = o;
  source = ap (λ (x : ℕ × ℕ). x.0) p;
  target = ap (λ (x : ℕ × ℕ). x.1) p;
}

-- the outer edges stay
pub outer_kept : (old new : Mesh) → IsOnce (outer_of old) → KeepsOuter old new
    → OuterChange (outer_of old) (outer_of new) [] []
outer_kept old new once k = changed_pairs old new (λ h. ⊥) (λ h i j. ⊥) [] [] once
    (record {
      kept = λ h i j o _. k.kept h i j o;
      made = λ h i j n. absurd n;
      only = λ h i j o. inl (k.only h i j o, λ n. n);
    })
    (record {
      gone_listed = λ h i j o n. absurd n;
      gone_real = λ i j c. absurd (Contains-none (i, j) c);
      made_listed = λ h i j n. absurd n;
      made_real = λ i j c. absurd (Contains-none (i, j) c);
      made_once = λ h g i j n. absurd n;
      made_fresh = λ h g i j n. absurd n;
    })

-- an outer edge gives way to two by a vertex that no edge had
pub outer_replaced : (old new : Mesh) (e v first last : ℕ) → AreSoundLinks old
    → IsOnce (outer_of old) → e < length old.half_edges → face old e ≡ 0 → v ≡ length old.out_edges
    → ReplacesOuter old new e v first last → OuterChange (outer_of old) (outer_of new)
    ((origin old e, origin old (rev e)) ∷ []) ((origin old e, v) ∷ (v, origin old (rev e)) ∷ [])
outer_replaced old new e v first last s once l o is_new c =
    changed_pairs old new (λ h. h ≡ e) (λ h i j. IsThis first a v h i j ⊎ IsThis last v b h i j)
    ((a, b) ∷ []) ((a, v) ∷ (v, b) ∷ []) once c
    (record {
      gone_listed = λ h i j x p. subst (Contains {X = ℕ × ℕ} ((a, b) ∷ []))
          (λ t. (
            (ap (origin old) (sym p) ∙ x.source) t,
            (ap (λ k. origin old (rev k)) (sym p) ∙ x.target) t,
          )) (Contains-head (a, b) []);
      gone_real = λ i j k. (e, refl, own_pair old e i j l o (one_pair (i, j) (a, b) k));
      made_listed = made_listed;
      made_real = λ i j k. elim (two_pairs (i, j) (a, v) (v, b) k) as
          (λ _. (h : ℕ) × (IsThis first a v h i j ⊎ IsThis last v b h i j)) [
            | inl p ↦ (
              first,
              inl (refl, sym (ap (λ (x : ℕ × ℕ). x.0) p), sym (ap (λ (x : ℕ × ℕ). x.1) p)),
            )
            | inr p ↦
                (last, inr (refl, sym (ap (λ (x : ℕ × ℕ). x.0) p), sym (ap (λ (x : ℕ × ℕ). x.1) p)))
          ];
      made_once = made_once;
      made_fresh = made_fresh;
    })
  where
    a : ℕ
    a = origin old e

    b : ℕ
    b = origin old (rev e)

    fresh : (h : ℕ) → h < length old.half_edges → origin old h ≢ v
    fresh h k p = let q = (s.edges h k).origin_in in omega arith

    made_listed : (h i j : ℕ) → IsThis first a v h i j ⊎ IsThis last v b h i j
        → Contains {X = ℕ × ℕ} ((a, v) ∷ (v, b) ∷ []) (i, j)
    made_listed h i j (inl x) = subst (Contains {X = ℕ × ℕ} ((a, v) ∷ (v, b) ∷ []))
        (λ t. (sym x.1 t, sym x.2 t)) (Contains-head (a, v) ((v, b) ∷ []))
    made_listed h i j (inr x) =
        subst (Contains {X = ℕ × ℕ} ((a, v) ∷ (v, b) ∷ [])) (λ t. (sym x.1 t, sym x.2 t))
        (Contains-later (a, v) ((v, b) ∷ []) (v, b) (Contains-head (v, b) []))

    made_once : (h g i j : ℕ) → IsThis first a v h i j ⊎ IsThis last v b h i j
        → IsThis first a v g i j ⊎ IsThis last v b g i j → h ≡ g
    made_once h g i j (inl x) (inl y) = x.0 ∙ sym y.0
    made_once h g i j (inl x) (inr y) = absurd (fresh e l (sym x.1 ∙ y.1))
    made_once h g i j (inr x) (inl y) = absurd (fresh e l (sym y.1 ∙ x.1))
    made_once h g i j (inr x) (inr y) = x.0 ∙ sym y.0

    made_fresh : (h g i j : ℕ) → IsThis first a v h i j ⊎ IsThis last v b h i j
        → ¬ IsOuterEdge old g i j
    made_fresh h g i j (inl x) y =
        fresh (rev g) (rev_within g (length old.half_edges) s.even y.within) (y.target ∙ x.2)
    made_fresh h g i j (inr x) y = fresh g y.within (y.source ∙ x.1)

-- an outer edge and the next one give way to one, whose pair no outer edge had
pub outer_closed : (old new : Mesh) (e n : ℕ) → AreSoundLinks old → IsOnce (outer_of old)
    → e < length old.half_edges → face old e ≡ 0
    → ¬ Contains (outer_of old) (origin old e, origin old (rev (next old e)))
    → ClosesOuter old new e n
    → OuterChange (outer_of old) (outer_of new) ((origin old e, origin old (next old e))
    ∷ (origin old (next old e), origin old (rev (next old e))) ∷ [])
    ((origin old e, origin old (rev (next old e))) ∷ [])
outer_closed old new e n s once l o fresh c =
    changed_pairs old new (λ h. (h ≡ e) ⊎ (h ≡ next old e)) (λ h i j. IsThis (n + 1) a d h i j)
    ((a, b) ∷ (b, d) ∷ []) ((a, d) ∷ []) once c
    (record {
      gone_listed = gone_listed;
      gone_real = λ i j k. elim (two_pairs (i, j) (a, b) (b, d) k) as
          (λ _. (h : ℕ) × ((h ≡ e) ⊎ (h ≡ next old e)) × IsOuterEdge old h i j) [
            | inl p ↦ (e, inl refl, own_pair old e i j l o ((λ t. (a, sym meets t)) ∙ p))
            | inr p ↦ (
              next old e,
              inr refl,
              own_pair old (next old e) i j here.next_in (here.same_face ∙ o) p,
            )
          ];
      made_listed = λ h i j x. subst (Contains {X = ℕ × ℕ} ((a, d) ∷ []))
          (λ t. (sym x.1 t, sym x.2 t)) (Contains-head (a, d) []);
      made_real = λ i j k. let p = one_pair (i, j) (a, d) k in
          (n + 1, (refl, sym (ap (λ (x : ℕ × ℕ). x.0) p), sym (ap (λ (x : ℕ × ℕ). x.1) p)));
      made_once = λ h g i j x y. x.0 ∙ sym y.0;
      made_fresh = λ h g i j x y. fresh
          (subst (Contains (outer_of old)) (λ t. (x.1 t, x.2 t)) (listed old g i j y));
    })
  where
    here : IsSoundEdge old e
    here = s.edges e l

    a : ℕ
    a = origin old e

    b : ℕ
    b = origin old (next old e)

    d : ℕ
    d = origin old (rev (next old e))

    meets : b ≡ origin old (rev e)
    meets = here.starts

    gone_listed : (h i j : ℕ) → IsOuterEdge old h i j → (h ≡ e) ⊎ (h ≡ next old e)
        → Contains {X = ℕ × ℕ} ((a, b) ∷ (b, d) ∷ []) (i, j)
    gone_listed h i j x (inl p) = subst (Contains {X = ℕ × ℕ} ((a, b) ∷ (b, d) ∷ []))
        (λ t. (
          (ap (origin old) (sym p) ∙ x.source) t,
          (meets ∙ ap (λ k. origin old (rev k)) (sym p)
              ∙ x.target) t,
        )) (Contains-head (a, b) ((b, d) ∷ []))
    gone_listed h i j x (inr p) = subst (Contains {X = ℕ × ℕ} ((a, b) ∷ (b, d) ∷ []))
        (λ t. (
          (ap (origin old) (sym p) ∙ x.source) t,
          (ap (λ k. origin old (rev k)) (sym p)
              ∙ x.target) t,
        )) (Contains-later (a, b) ((b, d) ∷ []) (b, d) (Contains-head (b, d) []))
