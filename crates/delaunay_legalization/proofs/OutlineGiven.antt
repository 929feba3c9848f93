-- The outer edges of a mesh with one outline, as an iterator along it gives them: each once, and
-- after each its next one.
-- Notions: IsOutlineList, indexes, IsGoingAlong; outline_given, along_begins, along_next,
-- along_goes_on, along_ends.
use Rattle.std.proofs.Common.{◌≡◌, ◌⊎◌, ◌+◌, ◌%◌, ◌<◌, [], ◌∷◌}
use Rattle.std.proofs.Common.{ℕ, suc, List, length, map, Option, Some, None, refl}
use Rattle.std.proofs.Common.{sym, ap, ◌∙◌, subst, inl, inr, arith}
use Rattle.std.specs.Prelude.{Contains, slice_index_or}
use Rattle.std.specs.Borrow.{Bor}
use Rattle.std.specs.List.{range_with_len}
use Rattle.std.proofs.Math.Nat.{mod_self, mod-eq_of_lt}
use Rattle.std.proofs.lemmas.Bool.{cases_eq}
use Rattle.std.proofs.lemmas.List.FromFn.{get_or-map-range_with_len, length-map-range_with_len}
use Rattle.half_edge_links.specs.{HasOneOutline, IsValidMesh, iterate, Mesh, next}
use Rattle.plane_theorems.proofs.{Contains-cases, Contains-head, Contains-later, Contains-none}
use Rattle.plane_theorems.proofs.{IsOnce}
use Rattle.half_edge_dcel.specs.{Contents, each_in, GivesOuterLoop, Rounds.IsOuterLoop}
use Rattle.delaunay_legalization.proofs.{Entries.not_some, OutlineRounds.IsOut}

-- all outer edges, each once, and each with its next one after it, the first one after the last
pub record IsOutlineList (m : Mesh) (edges : List ℕ) : Type 0 where
  pub within : (h : ℕ) → Contains edges h → IsOut m h
  pub all : (h : ℕ) → IsOut m h → Contains edges h
  pub once : IsOnce edges
  pub after : (i : ℕ) → i < length edges
      → slice_index_or edges ((i + 1) % length edges) 0 ≡ next m (slice_index_or edges i 0)

-- without an outer edge there is no edge
none_out : (m : Mesh) → IsValidMesh m → m.outer_edge ≡ None → (h : ℕ) → ¬ IsOut m h
none_out m v none h o = let w = o.0 in
    not_some m.outer_edge none (v.sound.has_outer (omega (arith, w)))

empty_list : (m : Mesh) → IsValidMesh m → m.outer_edge ≡ None → IsOutlineList m []
empty_list m v none = record {
  within = λ h c. absurd (Contains-none h c);
  all = λ h o. absurd (none_out m v none h o);
  once = λ i j d l w. absurd (omega (arith, w));
  after = λ i w. absurd (omega (arith, w));
}

module _ (m : Mesh) (first count : ℕ) (loop : IsOuterLoop m first count)
    (one : HasOneOutline m) where
  -- edge i of the loop
  abbrev at : ℕ → ℕ
  at i = iterate (next m) i first

  abbrev edges : List ℕ
  edges = map at (range_with_len 0 count)

  -- the list has as many entries as the loop has edges
  size : length edges ≡ count
  size = length-map-range_with_len at 0 count

  entry : (i d : ℕ) → i < count → slice_index_or edges i d ≡ at i
  entry i d w = get_or-map-range_with_len at 0 count i i d w (omega arith)

  loop_list : IsOutlineList m edges
  loop_list = record {
    within = λ h c.
        let w : c.0 < count = let l = c.1 in omega (arith, l, size) in
        let e : at c.0 ≡ h = sym (entry c.0 h w) ∙ c.2 in
        subst (IsOut m) e (loop.within c.0, loop.outer c.0);
    all = λ h o.
        let r = loop.all one h o.0 o.1 in
        (r.0, let l = r.1 in omega (arith, l, size), entry r.0 h r.1 ∙ sym r.2);
    once = λ i j d l w.
        let j_in : j < count = omega (arith, w, size) in
        let i_in : i < count = omega (arith, l, j_in) in
        λ e. loop.apart i j l j_in (sym (entry i d i_in) ∙ e ∙ entry j d j_in);
    after = λ i w.
        let i_in : i < count = omega (arith, w, size) in
        let turned = following i i_in in
        ap (λ n. slice_index_or edges ((i + 1) % n) 0) size ∙ turned
        ∙ ap (next m) (sym (entry i 0 i_in));
  }
    where
      following : (i : ℕ) → i < count → slice_index_or edges ((i + 1) % count) 0 ≡ next m (at i)
      following i w = elim (cases_eq (i + 1) count) [
        | inl e ↦ ap (λ n. slice_index_or edges (n % count) 0) e
            ∙ ap (λ n. slice_index_or edges n 0) (mod_self count)
            ∙ entry 0 0 loop.some ∙ sym loop.back ∙ ap at (sym e)
            ∙ ap at (let s : i + 1 ≡ suc i = omega arith in s)
        | inr d ↦
            let l : i + 1 < count = omega (arith, w, d) in
            ap (λ n. slice_index_or edges n 0) (mod-eq_of_lt l) ∙ entry (i + 1) 0 l
            ∙ ap at (let s : i + 1 ≡ suc i = omega arith in s)
      ]

-- what is given along the outline
pub outline_given :
    {V D U F : Type 0} (d : Bor (Contents V D U F)) (given : List (Bor (Contents V D U F) × ℕ))
    → IsValidMesh d.now.mesh → HasOneOutline d.now.mesh → GivesOuterLoop d given
    → (edges : List ℕ) × (given ≡ each_in d edges) × IsOutlineList d.now.mesh edges
outline_given {V} {D} {U} {F} d given valid one gives = go d.now.mesh.outer_edge refl
  where
    go : (o : Option ℕ) → d.now.mesh.outer_edge ≡ o
        → (edges : List ℕ) × (given ≡ each_in d edges) × IsOutlineList d.now.mesh edges
    go None e = ([], gives.empty e, empty_list d.now.mesh valid e)
    go (Some first) e =
        let l = gives.loop first e in (
          map (λ i. iterate (next d.now.mesh) i first) (range_with_len 0 l.0),
          l.2,
          loop_list d.now.mesh first l.0 l.1 one,
        )

-- ---- a search along the outline
-- the indexes of what is given
abbrev pub indexes : {C : Type 0} → List (Bor C × ℕ) → List ℕ
indexes given = map (λ x. x.1) given

-- each outer edge is among those that are left, or was seen
pub record IsGoingAlong (m : Mesh) (Seen : ℕ → Type 0) (rest : List ℕ) : Type 0 where
  pub within : (h : ℕ) → Contains rest h → IsOut m h
  pub each : (h : ℕ) → IsOut m h → Contains rest h ⊎ Seen h

indexes_in : {C : Type 0} (d : Bor C) (is : List ℕ) → indexes (each_in d is) ≡ is
indexes_in d [] = refl
indexes_in d (i ∷ is) = ap (λ xs. i ∷ xs) (indexes_in d is)

-- before a search along the outline all outer edges are left
pub along_begins : {V D U F : Type 0} (d : Bor (Contents V D U F))
    (given : List (Bor (Contents V D U F) × ℕ)) (Seen : ℕ → Type 0) → IsValidMesh d.now.mesh
    → HasOneOutline d.now.mesh → GivesOuterLoop d given
    → IsGoingAlong d.now.mesh Seen (indexes given)
along_begins d given Seen valid one gives =
    let g = outline_given d given valid one gives in
    subst (IsGoingAlong d.now.mesh Seen) (sym (ap indexes g.1 ∙ indexes_in d g.0))
    (record { within = g.2.within; each = λ h o. inl (g.2.all h o) })

module _ {C : Type 0} (m : Mesh) (Seen : ℕ → Type 0) (given : List (Bor C × ℕ))
    (going : IsGoingAlong m Seen (indexes given)) where
  -- the next edge that is given is an outer one
  pub along_next : (x : Bor C × ℕ) (left : List (Bor C × ℕ)) → given ≡ x ∷ left → IsOut m x.1
  along_next x left e =
      going.within x.1
      (subst (λ xs. Contains (indexes xs) x.1) (sym e) (Contains-head x.1 (indexes left)))

  -- once it is seen, the way along the outline goes on with the edges after it
  pub along_goes_on : (x : Bor C × ℕ) (left : List (Bor C × ℕ)) → given ≡ x ∷ left → Seen x.1
      → IsGoingAlong m Seen (indexes left)
  along_goes_on x left e seen = record {
    within =
        λ h c. going.within h
        (subst (λ xs. Contains (indexes xs) h) (sym e) (Contains-later x.1 (indexes left) h c));
    each = λ h o. elim (going.each h o) [
      | inl c ↦
          elim (Contains-cases x.1 (indexes left) h (subst (λ xs. Contains (indexes xs) h) e c)) [
            | inl q ↦ inr (subst Seen q seen)
            | inr r ↦ inl r
          ]
      | inr s ↦ inr s
    ];
  }

  -- when none is left to give, each outer edge is seen
  pub along_ends : given ≡ [] → (h : ℕ) → IsOut m h → Seen h
  along_ends e h o = elim (going.each h o) [
    | inl c ↦ absurd (Contains-none h (subst (λ xs. Contains (indexes xs) h) e c))
    | inr s ↦ s
  ]
