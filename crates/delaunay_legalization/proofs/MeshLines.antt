-- A mesh of one line: a vertex past an end and a vertex between two neighbours, by changes of the
-- mesh.
-- Lemmas: outer_joined, line_extended, outer_split, line_split_at.
use Rattle.std.proofs.Common.{◌≡◌, ◌⊎◌, ◌<◌, ◌+◌, [], ◌∷◌, ◌++◌, ◌∙◌}
use Rattle.std.proofs.Common.{ℕ, List, length, refl, sym, ap, subst, arith}
use mathlib.Core.Logic.{inl, inr, ◌≢◌}
use Rattle.std.specs.Prelude.{Contains}
use Rattle.plane.specs.{IsIndex, IsPast, place, Point, whole, WithinSegment}
use Rattle.half_edge_links.specs.{AreSoundLinks, face, HasApartEnds, IsOuterEdge, IsThis, Mesh}
use Rattle.half_edge_links.specs.{origin, OuterChanges, rev, SplitsOuter}
use Rattle.half_edge_links.proofs.{rev-rev, rev_within}
use Rattle.plane_theorems.specs.{alone, LineMesh, OuterChange}
use Rattle.plane_theorems.proofs.{Contains-cases, Contains-head, Contains-later, Contains-none}
use Rattle.plane_theorems.proofs.Edits.Insertion.OnLine.{between, past_end}
use Rattle.delaunay_legalization.specs.{outer_of}
use Rattle.delaunay_legalization.proofs.MeshLineRemoval.{first_of, second_of}
use Rattle.{delaunay_legalization.proofs.OuterChanges.two_pairs, plane_theorems.proofs.IsOnce}
use Rattle.delaunay_legalization.proofs.OuterEdges.{AreMadeFresh, AreMadeOnce, changed_pairs}
use Rattle.delaunay_legalization.proofs.OuterEdges.{GoneAreListed, GoneAreReal, listed}
use Rattle.delaunay_legalization.proofs.OuterEdges.{MadeAreListed, MadeAreReal}

-- ---- one of a few pairs
four_pairs : (x a b c d : ℕ × ℕ) → Contains (a ∷ b ∷ c ∷ d ∷ []) x
    → ((a ≡ x) ⊎ (b ≡ x)) ⊎ ((c ≡ x) ⊎ (d ≡ x))
four_pairs x a b c d k = elim (Contains-cases a (b ∷ c ∷ d ∷ []) x k) as
    (λ _. ((a ≡ x) ⊎ (b ≡ x)) ⊎ ((c ≡ x) ⊎ (d ≡ x))) [
      | inl p ↦ inl (inl p)
      | inr l ↦ elim (Contains-cases b (c ∷ d ∷ []) x l) as (λ _. ((a ≡ x) ⊎ (b ≡ x))
          ⊎ ((c ≡ x) ⊎ (d ≡ x))) [ inl p ↦ inl (inr p) | inr n ↦ inr (two_pairs x c d n) ]
    ]

listed_as : (xs : List (ℕ × ℕ)) (a b i j : ℕ) → i ≡ a → j ≡ b → Contains xs (a, b)
    → Contains xs (i, j)
listed_as xs a b i j p q c = subst (Contains xs) (λ t. (sym p t, sym q t)) c

-- ---- an edge from a vertex to a new one
-- an edge from u to a new vertex v and back makes two outer pairs, and no other changes
pub outer_joined : (old new : Mesh) (u v k l : ℕ) → IsOnce (outer_of old) → u ≢ v
    → ((h i j : ℕ) → IsOuterEdge old h i j → (i ≢ v) × (j ≢ v))
    → OuterChanges old new (λ h. ⊥) (λ h i j. IsThis k u v h i j ⊎ IsThis l v u h i j)
    → OuterChange (outer_of old) (outer_of new) [] ((u, v) ∷ (v, u) ∷ [])
outer_joined old new u v k l once apart fresh c = changed_pairs old new (λ h. ⊥)
    (λ h i j. IsThis k u v h i j ⊎ IsThis l v u h i j) [] ((u, v) ∷ (v, u) ∷ []) once c
    (record {
      gone_listed = λ h i j o n. absurd n;
      gone_real = λ i j n. absurd (Contains-none (i, j) n);
      made_listed = made_listed;
      made_real = λ i j n. elim (two_pairs (i, j) (u, v) (v, u) n) as
          (λ _. (h : ℕ) × (IsThis k u v h i j ⊎ IsThis l v u h i j)) [
            | inl p ↦
                (k, inl (refl, sym (first_of (u, v) (i, j) p), sym (second_of (u, v) (i, j) p)))
            | inr p ↦
                (l, inr (refl, sym (first_of (v, u) (i, j) p), sym (second_of (v, u) (i, j) p)))
          ];
      made_once = made_once;
      made_fresh = made_fresh;
    })
  where
    made_listed : (h i j : ℕ) → IsThis k u v h i j ⊎ IsThis l v u h i j
        → Contains {X = ℕ × ℕ} ((u, v) ∷ (v, u) ∷ []) (i, j)
    made_listed h i j (inl x) =
        listed_as ((u, v) ∷ (v, u) ∷ []) u v i j x.1 x.2 (Contains-head (u, v) ((v, u) ∷ []))
    made_listed h i j (inr x) = listed_as ((u, v) ∷ (v, u) ∷ []) v u i j x.1 x.2
        (Contains-later (u, v) ((v, u) ∷ []) (v, u) (Contains-head (v, u) []))

    made_once : (h g i j : ℕ) → IsThis k u v h i j ⊎ IsThis l v u h i j
        → IsThis k u v g i j ⊎ IsThis l v u g i j → h ≡ g
    made_once h g i j (inl x) (inl y) = x.0 ∙ sym y.0
    made_once h g i j (inl x) (inr y) = absurd (apart (sym x.1 ∙ y.1))
    made_once h g i j (inr x) (inl y) = absurd (apart (sym y.1 ∙ x.1))
    made_once h g i j (inr x) (inr y) = x.0 ∙ sym y.0

    made_fresh : (h g i j : ℕ) → IsThis k u v h i j ⊎ IsThis l v u h i j → ¬ IsOuterEdge old g i j
    made_fresh h g i j (inl x) o = (fresh g i j o).1 x.2
    made_fresh h g i j (inr x) o = (fresh g i j o).0 x.1

-- no outer edge has a vertex past the last one
old_ends : (m : Mesh) (n : ℕ) → AreSoundLinks m → n ≡ length m.out_edges → (h i j : ℕ)
    → IsOuterEdge m h i j → (i ≢ n) × (j ≢ n)
old_ends m n s count h i j o =
    let first = (s.edges h o.within).origin_in in
    let second = (s.edges (rev h) (rev_within h (length m.half_edges) s.even o.within)).origin_in in
    let p = o.source in
    let q = o.target in
    ((λ e. omega arith), (λ e. omega arith))

-- a vertex q past the end i of a line, joined to it
pub line_extended : (points : List Point) (q : Point) (old new : Mesh) (i k l : ℕ)
    → AreSoundLinks old → length points ≡ length old.out_edges → LineMesh points (outer_of old)
    → IsIndex points i → ((k : ℕ) → IsIndex points k → place points k ≢ whole q)
    → IsPast (alone points) i (whole q) → OuterChanges old new (λ h. ⊥)
    (λ h a b. IsThis k i (length points) h a b ⊎ IsThis l (length points) i h a b)
    → LineMesh (points ++ q ∷ []) (outer_of new)
line_extended points q old new i k l s count m here free past change =
    past_end points (outer_of old) (outer_of new) q i m here free past (outer_joined old new i
    (length points) k l m.once (λ e. omega arith) (old_ends old (length points) s count) change)

-- ---- both ways of an edge give way to its halves
module _ (old new : Mesh) (e v n : ℕ) (s : AreSoundLinks old) (apart : HasApartEnds old)
    (l : e < length old.half_edges) (bare : length old.face_edges ≡ 0)
    (is_new : v ≡ length old.out_edges) where
  -- h is one of the two sides of e
  abbrev Gone : ℕ → Type 0
  Gone h = (h ≡ e) ⊎ (h ≡ rev e)

  -- edge h from i to j is one of the four between v and an end of e
  abbrev Made : ℕ → ℕ → ℕ → Type 0
  Made h i j = (IsThis e (origin old e) v h i j ⊎ IsThis (n + 1) v (origin old (rev e)) h i j)
      ⊎ (IsThis n (origin old (rev e)) v h i j ⊎ IsThis (rev e) v (origin old e) h i j)

  abbrev gone : List (ℕ × ℕ)
  gone = (origin old e, origin old (rev e)) ∷ (origin old (rev e), origin old e) ∷ []

  abbrev made : List (ℕ × ℕ)
  made = (origin old e, v) ∷ (v, origin old (rev e)) ∷ (origin old (rev e), v)
      ∷ (v, origin old e) ∷ []

  fresh : (h i j : ℕ) → IsOuterEdge old h i j → (i ≢ v) × (j ≢ v)
  fresh = old_ends old v s is_new

  outer_here : (h : ℕ) → h < length old.half_edges → face old h ≡ 0
  outer_here h k = let f = (s.edges h k).face_in in omega arith

  -- e is an outer edge
  own : IsOuterEdge old e (origin old e) (origin old (rev e))
  own = record { within = l; outer = outer_here e l; source = refl; target = refl }

  -- and so is its other side
  back : IsOuterEdge old (rev e) (origin old (rev e)) (origin old e)
  back = let k = rev_within e (length old.half_edges) s.even l in record {
    within = k;
    outer = outer_here (rev e) k;
    source = refl;
    target = ap (origin old) (rev-rev e);
  }

  gone_listed : GoneAreListed old Gone gone
  gone_listed h i j o (inl p) = listed_as gone (origin old e) (origin old (rev e)) i j
      (sym o.source ∙ ap (origin old) p) (sym o.target ∙ ap (λ k. origin old (rev k)) p)
      (Contains-head (origin old e, origin old (rev e)) ((origin old (rev e), origin old e) ∷ []))
  gone_listed h i j o (inr p) =
      listed_as gone (origin old (rev e)) (origin old e) i j (sym o.source ∙ ap (origin old) p)
      (sym o.target ∙ ap (λ k. origin old (rev k)) p ∙ ap (origin old) (rev-rev e))
      (Contains-later (origin old e, origin old (rev e)) ((origin old (rev e), origin old e) ∷ [])
      (origin old (rev e), origin old e) (Contains-head (origin old (rev e), origin old e) []))

  gone_real : GoneAreReal old Gone gone
  gone_real i j c = elim (two_pairs (i, j) (origin old e, origin old (rev e))
      (origin old (rev e), origin old e) c) as (λ _. (h : ℕ) × Gone h × IsOuterEdge old h i j) [
        | inl p ↦ (
          e,
          inl refl,
          record {
            within = own.within;
            outer = own.outer;
            source = first_of (origin old e, origin old (rev e)) (i, j) p;
            target = second_of (origin old e, origin old (rev e)) (i, j) p;
          },
        )
        | inr p ↦ (
          rev e,
          inr refl,
          record {
            within = back.within;
            outer = back.outer;
            source = first_of (origin old (rev e), origin old e) (i, j) p;
            target = back.target ∙ second_of (origin old (rev e), origin old e) (i, j) p;
          },
        )
      ]

  made_listed : MadeAreListed Made made
  made_listed h i j (inl (inl x)) =
      listed_as made (origin old e) v i j x.1 x.2 (0, omega arith, refl)
  made_listed h i j (inl (inr x)) =
      listed_as made v (origin old (rev e)) i j x.1 x.2 (1, omega arith, refl)
  made_listed h i j (inr (inl x)) =
      listed_as made (origin old (rev e)) v i j x.1 x.2 (2, omega arith, refl)
  made_listed h i j (inr (inr x)) =
      listed_as made v (origin old e) i j x.1 x.2 (3, omega arith, refl)

  made_real : MadeAreReal Made made
  made_real i j c = elim (four_pairs (i, j) (origin old e, v) (v, origin old (rev e))
      (origin old (rev e), v) (v, origin old e) c) as (λ _. (h : ℕ) × Made h i j) [
        | inl q ↦ elim q as (λ _. (h : ℕ) × Made h i j) [
          | inl p ↦ (
            e,
            inl (inl (
              refl,
              sym (first_of (origin old e, v) (i, j) p),
              sym (second_of (origin old e, v) (i, j) p),
            )),
          )
          | inr p ↦ (
            n + 1,
            inl (inr (
              refl,
              sym (first_of (v, origin old (rev e)) (i, j) p),
              sym (second_of (v, origin old (rev e)) (i, j) p),
            )),
          )
        ]
        | inr q ↦ elim q as (λ _. (h : ℕ) × Made h i j) [
          | inl p ↦ (
            n,
            inr (inl (
              refl,
              sym (first_of (origin old (rev e), v) (i, j) p),
              sym (second_of (origin old (rev e), v) (i, j) p),
            )),
          )
          | inr p ↦ (
            rev e,
            inr (inr (
              refl,
              sym (first_of (v, origin old e) (i, j) p),
              sym (second_of (v, origin old e) (i, j) p),
            )),
          )
        ]
      ]

  -- the ends of e differ
  away : origin old e ≢ origin old (rev e)
  away = apart e l

  -- e starts at an old vertex
  a_old : origin old e ≢ v
  a_old = (fresh e (origin old e) (origin old (rev e)) own).0

  -- and ends at one
  b_old : origin old (rev e) ≢ v
  b_old = (fresh e (origin old e) (origin old (rev e)) own).1

  made_once : AreMadeOnce Made
  made_once h g i j (inl (inl x)) (inl (inl y)) = x.0 ∙ sym y.0
  made_once h g i j (inl (inl x)) (inl (inr y)) = absurd (a_old (sym x.1 ∙ y.1))
  made_once h g i j (inl (inl x)) (inr (inl y)) = absurd (away (sym x.1 ∙ y.1))
  made_once h g i j (inl (inl x)) (inr (inr y)) = absurd (a_old (sym x.1 ∙ y.1))
  made_once h g i j (inl (inr x)) (inl (inl y)) = absurd (a_old (sym y.1 ∙ x.1))
  made_once h g i j (inl (inr x)) (inl (inr y)) = x.0 ∙ sym y.0
  made_once h g i j (inl (inr x)) (inr (inl y)) = absurd (b_old (sym y.1 ∙ x.1))
  made_once h g i j (inl (inr x)) (inr (inr y)) = absurd (away (sym y.2 ∙ x.2))
  made_once h g i j (inr (inl x)) (inl (inl y)) = absurd (away (sym y.1 ∙ x.1))
  made_once h g i j (inr (inl x)) (inl (inr y)) = absurd (b_old (sym x.1 ∙ y.1))
  made_once h g i j (inr (inl x)) (inr (inl y)) = x.0 ∙ sym y.0
  made_once h g i j (inr (inl x)) (inr (inr y)) = absurd (b_old (sym x.1 ∙ y.1))
  made_once h g i j (inr (inr x)) (inl (inl y)) = absurd (a_old (sym y.1 ∙ x.1))
  made_once h g i j (inr (inr x)) (inl (inr y)) = absurd (away (sym x.2 ∙ y.2))
  made_once h g i j (inr (inr x)) (inr (inl y)) = absurd (b_old (sym y.1 ∙ x.1))
  made_once h g i j (inr (inr x)) (inr (inr y)) = x.0 ∙ sym y.0

  made_fresh : AreMadeFresh old Made
  made_fresh h g i j (inl (inl x)) o = (fresh g i j o).1 x.2
  made_fresh h g i j (inl (inr x)) o = (fresh g i j o).0 x.1
  made_fresh h g i j (inr (inl x)) o = (fresh g i j o).1 x.2
  made_fresh h g i j (inr (inr x)) o = (fresh g i j o).0 x.1

  -- both outer edges between two vertices of a line give way to the four that join them to v
  pub outer_split : IsOnce (outer_of old) → SplitsOuter old new e v n
      → OuterChange (outer_of old) (outer_of new) gone made
  outer_split once c = changed_pairs old new Gone Made gone made once c
      (record {
        gone_listed = gone_listed;
        gone_real = gone_real;
        made_listed = made_listed;
        made_real = made_real;
        made_once = made_once;
        made_fresh = made_fresh;
      })

-- a vertex q strictly within an edge of a line
pub line_split_at : (points : List Point) (q : Point) (old new : Mesh) (e n : ℕ) → AreSoundLinks old
    → HasApartEnds old → length points ≡ length old.out_edges → length old.face_edges ≡ 0
    → LineMesh points (outer_of old) → e < length old.half_edges
    → WithinSegment (place points (origin old e)) (place points (origin old (rev e))) (whole q)
    → SplitsOuter old new e (length points) n → LineMesh (points ++ q ∷ []) (outer_of new)
line_split_at points q old new e n s apart count bare m l within change =
    let o = (let f = (s.edges e l).face_in in let z : face old e ≡ 0 = omega arith in z) in
    between points (outer_of old) (outer_of new) q (origin old e) (origin old (rev e)) m
    (listed old e (origin old e) (origin old (rev e))
    (record { within = l; outer = o; source = refl; target = refl })) within
    (outer_split old new e (length points) n s apart l bare count m.once change)
