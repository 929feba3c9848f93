-- The outer edges of a mesh as pairs of vertices: where each comes from, and how a change of
-- directed edges changes them.
-- Notions: ends_at, GoneAreListed, GoneAreReal, MadeAreListed, MadeAreReal, AreMadeOnce,
-- AreMadeFresh, IsPairs; listed, real, one_edge, each_once, changed_pairs.
use Rattle.std.proofs.Common.{◌≡◌, ◌⊎◌, ◌<◌, ◌∷◌, ◌==◌, if◌then◌else◌, ◌∙◌}
use Rattle.std.proofs.Common.{ℕ, zero, suc, List, length, map, false, refl, sym, ap, subst, arith}
use mathlib.Core.Logic.{inl, inr, ◌≢◌}
use Rattle.std.specs.Prelude.{Contains}
use Rattle.std.proofs.lemmas.Bool.{cases_eq}
use Rattle.std.proofs.lemmas.Grind.{common_steps}
use Rattle.half_edge_links.specs.{Ends, face, IsOuterEdge, Mesh, origin, outer_among, OuterChanges}
use Rattle.{half_edge_links.specs.rev, plane.proofs.less_or_more, plane_theorems.specs.OuterChange}
use Rattle.plane_theorems.proofs.{Contains-cases, Contains-head, Contains-later, Contains-none}
use Rattle.plane_theorems.proofs.{IsOnce, once_cons, once_head, once_none, once_tail}
use Rattle.delaunay_legalization.specs.{outer_of, pair_of}

-- the ends of a directed edge
abbrev pub ends_at : Mesh → ℕ → ℕ × ℕ
ends_at m h = (origin m h, origin m (rev h))

-- the outer ones among the first n directed edges
abbrev outer_below : Mesh → ℕ → List (ℕ × ℕ)
outer_below m n = map pair_of (outer_among m n)

-- the list with a pair before it, if its face is the outer one
abbrev with_outer : ℕ → ℕ × ℕ → List (ℕ × ℕ) → List (ℕ × ℕ)
with_outer zero e xs = e ∷ xs
with_outer (suc k) e xs = xs

one_more : (m : Mesh) (n : ℕ)
    → outer_below m (suc n) ≡ with_outer (face m n) (ends_at m n) (outer_below m n)
one_more m n =
    go (face m n) (record { source = origin m n; target = origin m (rev n) }) (outer_among m n)
  where
    go : (k : ℕ) (e : Ends) (xs : List Ends)
        → map pair_of (if k == 0 then e ∷ xs else xs) ≡ with_outer k (pair_of e) (map pair_of xs)
    go zero e xs = refl
    go (suc k) e xs = let no : (suc k == 0) ≡ false = grind (arith, common_steps) in
        ap (λ b. map pair_of (if b then e ∷ xs else xs)) no

last_or_below : (h n : ℕ) → h < suc n → (h ≡ n) ⊎ (h < n)
last_or_below zero zero l = inl refl
last_or_below zero (suc n) l = inr (omega arith)
last_or_below (suc h) zero l = absurd (omega arith)
last_or_below (suc h) (suc n) l = next (last_or_below h n (omega arith))
  where
    next : (h ≡ n) ⊎ (h < n) → (suc h ≡ suc n) ⊎ (suc h < suc n)
    next (inl e) = inl (ap suc e)
    next (inr k) = inr (omega arith)

listed_first : (k : ℕ) (e : ℕ × ℕ) (xs : List (ℕ × ℕ)) → k ≡ 0 → Contains (with_outer k e xs) e
listed_first zero e xs h = Contains-head e xs
listed_first (suc k) e xs h = absurd (omega arith)

listed_later : (k : ℕ) (e x : ℕ × ℕ) (xs : List (ℕ × ℕ)) → Contains xs x
    → Contains (with_outer k e xs) x
listed_later zero e x xs c = Contains-later e xs x c
listed_later (suc k) e x xs c = c

listed_from : (k : ℕ) (e x : ℕ × ℕ) (xs : List (ℕ × ℕ)) → Contains (with_outer k e xs) x
    → ((k ≡ 0) × (e ≡ x)) ⊎ Contains xs x
listed_from zero e x xs c = elim (Contains-cases e xs x c) as
    (λ _. ((zero ≡ 0) × (e ≡ x)) ⊎ Contains xs x) [ inl p ↦ inl (refl, p) | inr d ↦ inr d ]
listed_from (suc k) e x xs c = inr c

listed_below : (m : Mesh) (n h : ℕ) → h < n → face m h ≡ 0
    → Contains (outer_below m n) (ends_at m h)
listed_below m zero h l o = absurd (omega arith)
listed_below m (suc n) h l o = subst (λ xs. Contains xs (ends_at m h)) (sym (one_more m n))
    (go (last_or_below h n l) (λ k. listed_below m n h k o))
  where
    go : (h ≡ n) ⊎ (h < n) → (h < n → Contains (outer_below m n) (ends_at m h))
        → Contains (with_outer (face m n) (ends_at m n) (outer_below m n)) (ends_at m h)
    go (inl e) r = subst (λ k. Contains (with_outer (face m k) (ends_at m k) (outer_below m n))
        (ends_at m h)) e (listed_first (face m h) (ends_at m h) (outer_below m n) o)
    go (inr k) r = listed_later (face m n) (ends_at m n) (ends_at m h) (outer_below m n) (r k)

real_below : (m : Mesh) (n : ℕ) (x : ℕ × ℕ) → Contains (outer_below m n) x
    → (h : ℕ) × (h < n) × (face m h ≡ 0) × (ends_at m h ≡ x)
real_below m zero x c = absurd (Contains-none x c)
real_below m (suc n) x c = go (listed_from (face m n) (ends_at m n) x (outer_below m n)
    (subst (λ xs. Contains xs x) (one_more m n) c)) (real_below m n x)
  where
    go : ((face m n ≡ 0) × (ends_at m n ≡ x)) ⊎ Contains (outer_below m n) x
        → (Contains (outer_below m n) x → (h : ℕ) × (h < n) × (face m h ≡ 0) × (ends_at m h ≡ x))
        → (h : ℕ) × (h < suc n) × (face m h ≡ 0) × (ends_at m h ≡ x)
    go (inl r) f = (n, omega arith, r.0, r.1)
    go (inr c) f = let r = f c in (r.0, omega (arith, r.1), r.2, r.3)

-- an outer directed edge is listed
pub listed : (m : Mesh) (h i j : ℕ) → IsOuterEdge m h i j → Contains (outer_of m) (i, j)
listed m h i j o = subst (Contains (outer_of m)) (λ t. (o.source t, o.target t))
    (listed_below m (length m.half_edges) h o.within o.outer)

-- what is listed is an outer directed edge
pub real : (m : Mesh) (i j : ℕ) → Contains (outer_of m) (i, j) → (h : ℕ) × IsOuterEdge m h i j
real m i j c = let r = real_below m (length m.half_edges) (i, j) c in (
  r.0,
  record {
    within = r.1;
    outer = r.2;
    source = ap (λ (e : ℕ × ℕ). e.0) r.3;
    target = ap (λ (e : ℕ × ℕ). e.1) r.3;
  },
)

-- ---- each pair once, and each pair of one directed edge
once_later : (k : ℕ) (e : ℕ × ℕ) (xs : List (ℕ × ℕ)) → IsOnce (with_outer k e xs) → IsOnce xs
once_later zero e xs o = once_tail e xs o
once_later (suc k) e xs o = o

not_later : (k : ℕ) (e : ℕ × ℕ) (xs : List (ℕ × ℕ)) → k ≡ 0 → IsOnce (with_outer k e xs)
    → ¬ Contains xs e
not_later zero e xs h o = once_head e xs o
not_later (suc k) e xs h o = absurd (omega arith)

once_with : (k : ℕ) (e : ℕ × ℕ) (xs : List (ℕ × ℕ)) → (k ≡ 0 → ¬ Contains xs e) → IsOnce xs
    → IsOnce (with_outer k e xs)
once_with zero e xs n o = once_cons e xs (n refl) o
once_with (suc k) e xs n o = o

below_unique : (m : Mesh) (n h g : ℕ) → IsOnce (outer_below m n) → h < g → g < n → face m h ≡ 0
    → face m g ≡ 0 → ends_at m h ≡ ends_at m g → ⊥
below_unique m zero h g o l k p q e = omega arith
below_unique m (suc n) h g o l k p q e =
    go (last_or_below g n k) (λ r. below_unique m n h g (once_later (face m n) (ends_at m n)
    (outer_below m n) (subst IsOnce (one_more m n) o)) l r p q e)
  where
    go : (g ≡ n) ⊎ (g < n) → (g < n → ⊥) → ⊥
    go (inl r) f = not_later (face m n) (ends_at m n) (outer_below m n) (ap (face m) (sym r) ∙ q)
        (subst IsOnce (one_more m n) o) (subst (Contains (outer_below m n)) (e ∙ ap (ends_at m) r)
        (listed_below m n h (omega arith) p))
    go (inr r) f = f r

-- where each pair is listed once, it is of one directed edge
pub one_edge : (m : Mesh) → IsOnce (outer_of m) → (h g i j : ℕ) → IsOuterEdge m h i j
    → IsOuterEdge m g i j → h ≡ g
one_edge m o h g i j p q = go (cases_eq h g)
  where
    same : ends_at m h ≡ ends_at m g
    same = λ t. ((p.source ∙ sym q.source) t, (p.target ∙ sym q.target) t)

    go : (h ≡ g) ⊎ (h ≢ g) → h ≡ g
    go (inl e) = e
    go (inr d) = absurd (elim (less_or_more h g d) as (λ _. ⊥) [
      | inl l ↦ below_unique m (length m.half_edges) h g o l q.within p.outer q.outer same
      | inr l ↦ below_unique m (length m.half_edges) g h o l p.within q.outer p.outer (sym same)
    ])

once_below : (m : Mesh) (n : ℕ)
    → ((h g : ℕ) → h < n → g < n → face m h ≡ 0 → face m g ≡ 0 → ends_at m h ≡ ends_at m g → h ≡ g)
    → IsOnce (outer_below m n)
once_below m zero one = once_none
once_below m (suc n) one =
    subst IsOnce (sym (one_more m n)) (once_with (face m n) (ends_at m n) (outer_below m n) other
    (once_below m n (λ h g k l p q e. one h g (omega arith) (omega arith) p q e)))
  where
    other : face m n ≡ 0 → ¬ Contains (outer_below m n) (ends_at m n)
    other o c =
        let r = real_below m n (ends_at m n) c in
        let below = r.1 in
        let found : r.0 ≡ n = one r.0 n (omega arith) (omega arith) r.2 o r.3 in
        omega arith

-- and where each pair is of one directed edge, it is listed once
pub each_once : (m : Mesh) → ((h g i j : ℕ) → IsOuterEdge m h i j → IsOuterEdge m g i j → h ≡ g)
    → IsOnce (outer_of m)
each_once m one = once_below m (length m.half_edges) (λ h g k l p q e. one h g (origin m h)
    (origin m (rev h)) (record { within = k; outer = p; source = refl; target = refl })
    (record {
      within = l;
      outer = q;
      source = ap (λ (x : ℕ × ℕ). x.0) (sym e);
      target = ap (λ (x : ℕ × ℕ). x.1) (sym e);
    }))

-- ---- a change of outer directed edges, as a change of pairs
-- an outer edge that goes is listed
abbrev pub GoneAreListed : Mesh → (ℕ → Type 0) → List (ℕ × ℕ) → Type 0
GoneAreListed old Gone gone = (h i j : ℕ) → IsOuterEdge old h i j → Gone h → Contains gone (i, j)

-- what is listed is an outer edge that goes
abbrev pub GoneAreReal : Mesh → (ℕ → Type 0) → List (ℕ × ℕ) → Type 0
GoneAreReal old Gone gone =
    (i j : ℕ) → Contains gone (i, j) → (h : ℕ) × Gone h × IsOuterEdge old h i j

-- a pair that is made is listed
abbrev pub MadeAreListed : (ℕ → ℕ → ℕ → Type 0) → List (ℕ × ℕ) → Type 0
MadeAreListed Made made = (h i j : ℕ) → Made h i j → Contains made (i, j)

-- a listed pair is made
abbrev pub MadeAreReal : (ℕ → ℕ → ℕ → Type 0) → List (ℕ × ℕ) → Type 0
MadeAreReal Made made = (i j : ℕ) → Contains made (i, j) → (h : ℕ) × Made h i j

-- each pair is made of one edge
abbrev pub AreMadeOnce : (ℕ → ℕ → ℕ → Type 0) → Type 0
AreMadeOnce Made = (h g i j : ℕ) → Made h i j → Made g i j → h ≡ g

-- and is of no outer edge before
abbrev pub AreMadeFresh : Mesh → (ℕ → ℕ → ℕ → Type 0) → Type 0
AreMadeFresh old Made = (h g i j : ℕ) → Made h i j → ¬ IsOuterEdge old g i j

-- the pairs that are gone and those that are made, each once
pub record IsPairs (old : Mesh) (Gone : ℕ → Type 0) (Made : ℕ → ℕ → ℕ → Type 0)
    (gone made : List (ℕ × ℕ)) : Type 0 where
  pub gone_listed : GoneAreListed old Gone gone
  pub gone_real : GoneAreReal old Gone gone
  pub made_listed : MadeAreListed Made made
  pub made_real : MadeAreReal Made made
  pub made_once : AreMadeOnce Made
  pub made_fresh : AreMadeFresh old Made

-- a change of outer directed edges is a change of the outer pairs, where these name the same edges
pub changed_pairs : (old new : Mesh) (Gone : ℕ → Type 0) (Made : ℕ → ℕ → ℕ → Type 0)
    (gone made : List (ℕ × ℕ)) → IsOnce (outer_of old) → OuterChanges old new Gone Made
    → IsPairs old Gone Made gone made → OuterChange (outer_of old) (outer_of new) gone made
changed_pairs old new Gone Made gone made o c p = record {
  kept = λ i j l d. let r = real old i j l in
      listed new r.0 i j (c.kept r.0 i j r.1 (λ g. d (p.gone_listed r.0 i j r.1 g)));
  come = λ i j l. let r = p.made_real i j l in listed new r.0 i j (c.made r.0 i j r.1);
  only = λ i j l. let r = real new i j l in from r.0 i j (c.only r.0 i j r.1);
  once = each_once new (λ h g i j a b. one h g i j (c.only h i j a) (c.only g i j b));
}
  where
    from : (h i j : ℕ) → (IsOuterEdge old h i j × (¬ Gone h)) ⊎ Made h i j
        → (Contains (outer_of old) (i, j) × (¬ Contains gone (i, j))) ⊎ Contains made (i, j)
    from h i j (inl a) = inl (
      listed old h i j a.0,
      λ l. let r = p.gone_real i j l in
          a.1 (subst Gone (one_edge old o r.0 h i j r.2 a.0) r.1),
    )
    from h i j (inr b) = inr (p.made_listed h i j b)

    one : (h g i j : ℕ) → (IsOuterEdge old h i j × (¬ Gone h)) ⊎ Made h i j
        → (IsOuterEdge old g i j × (¬ Gone g)) ⊎ Made g i j → h ≡ g
    one h g i j (inl a) (inl b) = one_edge old o h g i j a.0 b.0
    one h g i j (inl a) (inr b) = absurd (p.made_fresh g h i j b a.0)
    one h g i j (inr a) (inl b) = absurd (p.made_fresh h g i j a b.0)
    one h g i j (inr a) (inr b) = p.made_once h g i j a b
