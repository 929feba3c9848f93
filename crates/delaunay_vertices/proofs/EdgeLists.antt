-- The edges of a mesh, with their data, where edges are added or one is split.
-- Lemmas: adds_only, adds_on, adds_nothing, splits_at, splits_in_place, along_ends.
use Rattle.std.proofs.Common.{◌≡◌, ◌≢◌, ◌⊎◌, ◌+◌, ◌%◌, [], ◌∷◌, ◌++◌}
use Rattle.std.proofs.Common.{ℕ, zero, suc, Bool, true, false, List, length}
use Rattle.std.proofs.Common.{set, refl, sym, ap, ◌∙◌, subst, Some, inl, inr, arith}
use Rattle.std.specs.Prelude.{All, slice_get, if◌then◌else◌, nat_eq}
use Rattle.std.proofs.lemmas.Bool.{cases_eq}
use Rattle.std.proofs.lemmas.List.{length-set}
use Rattle.std.proofs.lemmas.List.Elements.{All-get_or}
use Rattle.std.proofs.lemmas.Option.{slice_get_within, get_or_from_slice_get}
use Rattle.{half_edge_links.specs.along, half_edge_links.specs.Ends, plane.specs.IsSamePair}
use Rattle.half_edge_dcel.specs.{AddsEdges, Edge, edge_with, edges_of, SplitsEdge, with_ends}
use Rattle.delaunay_legalization.proofs.{MarkedPairs.set_entry, one_value, slice_get-set_other}
use Rattle.delaunay_vertices.specs.{AddsOnly, SplitsAt}
use Rattle.delaunay_vertices.proofs.DataGrowing.{parts_of_edge, some_before, with_ends_other}

-- two values that are the same where they are there
-- an entry of two lists joined is in one of them
before_or_after : {X : Type 0} (xs ys : List X) (l : ℕ) (x : X) → slice_get (xs ++ ys) l ≡ Some x →
    (slice_get xs l ≡ Some x) ⊎ ((i : ℕ) × (slice_get ys i ≡ Some x) × (length xs + i ≡ l))
before_or_after [] ys l x e = inr (l, e, (let z : 0 + l ≡ l = omega arith in z))
before_or_after (y ∷ xs) ys zero x e = inl e
before_or_after (y ∷ xs) ys (suc l) x e = elim (before_or_after xs ys l x e) [
  | inl h ↦ inl h
  | inr h ↦ inr (
    h.0,
    h.1,
    (let f : length xs + h.0 ≡ l = h.2 in
        let z : suc (length xs) + h.0 ≡ suc l = omega (arith, f) in z),
  )
]

after_all : {X : Type 0} (xs ys : List X) (i : ℕ)
    → slice_get (xs ++ ys) (length xs + i) ≡ slice_get ys i
after_all [] ys i = ap (slice_get ys) (let e : 0 + i ≡ i = omega arith in e)
after_all (x ∷ xs) ys i = ap (slice_get (x ∷ xs ++ ys))
    (let e : suc (length xs) + i ≡ suc (length xs + i) = omega arith in e) ∙ after_all xs ys i

with_ends_here : {U : Type 0} (xs : List (Edge U)) (k : ℕ) (e : Ends) (x : Edge U)
    → slice_get xs k ≡ Some x → slice_get (with_ends xs k e) k ≡ Some (edge_with e x.value)
with_ends_here [] k e x h = cc
with_ends_here {U = U} (y ∷ ys) zero e x h =
    ap (λ (z : Edge U). Some (edge_with e z.value)) (one_value y x h)
with_ends_here (y ∷ ys) (suc k) e x h = with_ends_here ys k e x h

length-with_ends : {U : Type 0} (xs : List (Edge U)) (k : ℕ) (e : Ends)
    → length (with_ends xs k e) ≡ length xs
length-with_ends [] k e = refl
length-with_ends (x ∷ xs) zero e = refl
length-with_ends (x ∷ xs) (suc k) e = ap suc (length-with_ends xs k e)

module _ {U : Type 0} (P : U → Type 0) where
  -- the data of edges are among those listed
  listed_value : (es : List Ends) (us : List U) (i : ℕ) (e : Edge U) → All P us →
      slice_get (edges_of es us) i ≡ Some e → P e.value
  listed_value es us i e all h =
      let u = (parts_of_edge es us i e h).1 in
      subst P (get_or_from_slice_get us i e.value e.value u)
      (All-get_or P us i e.value (slice_get_within us i e.value u) all)

module _ {U : Type 0} {P : U → Type 0} where
  -- where edges are added, each other one stays and the new data are as P says
  pub adds_only : {old new : List (Edge U)} {added : List Ends} → AddsEdges P old new added
      → AddsOnly P old new
  adds_only {old = old} {added = added} a = record {
    kept = λ l e h. ap (λ xs. slice_get xs l) a.whole
        ∙ some_before old (edges_of added a.values) l e h;
    added = λ l e h. elim (before_or_after old (edges_of added a.values) l e
        (ap (λ xs. slice_get xs l) (sym a.whole) ∙ h)) [
          | inl was ↦ inl was
          | inr made ↦ inr (listed_value P added a.values made.0 e a.each made.1)
        ];
  }

  -- two such changes one after the other are one
  pub adds_on : {old mid new : List (Edge U)} → AddsOnly P old mid → AddsOnly P mid new
      → AddsOnly P old new
  adds_on a b = record {
    kept = λ l e h. b.kept l e (a.kept l e h);
    added = λ l e h. elim (b.added l e h) [ inl x ↦ a.added l e x | inr x ↦ inr x ];
  }

  -- a list that stays the same is such a change, too
  pub adds_nothing : {old new : List (Edge U)} → new ≡ old → AddsOnly P old new
  adds_nothing same = record {
    kept = λ l e h. ap (λ xs. slice_get xs l) same ∙ h;
    added = λ l e h. inl (ap (λ xs. slice_get xs l) (sym same) ∙ h);
  }

module _ {U : Type 0} (P : U → Type 0) where
  module _ (old new : List (Edge U)) (k v near far : ℕ) (has_ends : (e : Edge U)
      → slice_get old k ≡ Some e → IsSamePair e.source e.target near far) where
    -- both halves come after the others, and their edge gives way to one of the new ones
    pub splits_at : (turned kept other : Ends) (others : List Ends)
        → SplitsEdge P old new k turned kept (other ∷ others)
        → IsSamePair kept.source kept.target near v → IsSamePair other.source other.target far v
        → SplitsAt P old new k v (length old + 1)
    splits_at turned kept other others s kept_ends other_ends = go s.values s.count s.each s.whole
      where
        gone : List (Edge U)
        gone = set old k (edge_with turned s.made)

        same_length : length gone ≡ length old
        same_length = length-set old k (edge_with turned s.made)

        go : (values : List U) → length values ≡ length (other ∷ others) → All P values →
            new ≡ gone ++ edge_with kept s.edge.value ∷ edges_of (other ∷ others) values →
            SplitsAt P old new k v (length old + 1)
        go [] count each whole = absurd (omega (arith, count))
        go (u ∷ us) count each whole = record {
          edge = s.edge;
          was = s.was;
          near = near;
          far = far;
          ends = has_ends s.edge s.was;
          first = length old;
          first_half = edge_with kept s.edge.value;
          first_is = ap (λ xs. slice_get xs (length old)) whole
              ∙ ap (slice_get (gone ++ tail))
              (let e : length old ≡ length gone + 0 = omega (arith, same_length) in e)
              ∙ after_all gone tail 0;
          first_ends = kept_ends;
          first_value = refl;
          second_half = edge_with other u;
          second_is = ap (λ xs. slice_get xs (length old + 1)) whole
              ∙ ap (slice_get (gone ++ tail))
              (let e : length old + 1 ≡ length gone + 1 = omega (arith, same_length) in
              e) ∙ after_all gone tail 1;
          second_ends = other_ends;
          second_value = listed_value P (other ∷ others) (u ∷ us) 0 (edge_with other u) each refl;
          late = omega arith;
          kept = λ l e n h. ap (λ xs. slice_get xs l) whole
              ∙ some_before gone tail l e
              (slice_get-set_other old k l (edge_with turned s.made) n ∙ h);
          added = λ l e h. elim (cases_eq l (length old)) [
            | inl is ↦ inr (inl is)
            | inr n ↦
                elim (before_or_after gone tail l e (ap (λ xs. slice_get xs l) (sym whole) ∙ h)) [
                  | inl x ↦ elim (cases_eq l k) [
                    | inl is ↦ inr (inr (subst (λ (x : Edge U). P x.value)
                        (one_value (edge_with turned s.made) e
                        (sym (set_entry old k s.edge (edge_with turned s.made) s.was)
                        ∙ ap (slice_get gone) (sym is) ∙ x)) s.is_new))
                    | inr o ↦
                        inl (o, sym (slice_get-set_other old k l (edge_with turned s.made) o) ∙ x)
                  ]
                  | inr x ↦ inr (inr (in_tail x.0 e (λ z. n (let f : length gone + x.0 ≡ l = x.2 in
                      omega (arith, f, z, same_length))) x.1))
                ]
          ];
        }
          where
            tail : List (Edge U)
            tail = edge_with kept s.edge.value ∷ edges_of (other ∷ others) (u ∷ us)

            in_tail : (i : ℕ) (e : Edge U) → i ≢ 0 → slice_get tail i ≡ Some e → P e.value
            in_tail zero e n h = absurd (n refl)
            in_tail (suc i) e n h = listed_value P (other ∷ others) (u ∷ us) i e each h

    -- the first half has the place of the edge, and the second comes last
    pub splits_in_place : (turned other : Ends)
        → AddsEdges P (with_ends old k turned) new (other ∷ []) → (edge : Edge U)
        → slice_get old k ≡ Some edge → IsSamePair turned.source turned.target near v
        → IsSamePair other.source other.target far v → SplitsAt P old new k v (length old)
    splits_in_place turned other a edge was turned_ends other_ends =
        go a.values a.count a.each a.whole
      where
        left : List (Edge U)
        left = with_ends old k turned

        same_length : length left ≡ length old
        same_length = length-with_ends old k turned

        go : (values : List U) → length values ≡ length (other ∷ []) → All P values →
            new ≡ left ++ edges_of (other ∷ []) values → SplitsAt P old new k v (length old)
        go [] count each whole = absurd (omega (arith, count))
        go (u ∷ us) count each whole = record {
          edge = edge;
          was = was;
          near = near;
          far = far;
          ends = has_ends edge was;
          first = k;
          first_half = edge_with turned edge.value;
          first_is = ap (λ xs. slice_get xs k) whole
              ∙ some_before left tail k (edge_with turned edge.value)
              (with_ends_here old k turned edge was);
          first_ends = turned_ends;
          first_value = refl;
          second_half = edge_with other u;
          second_is = ap (λ xs. slice_get xs (length old)) whole
              ∙ ap (slice_get (left ++ tail))
              (let e : length old ≡ length left + 0 = omega (arith, same_length) in e)
              ∙ after_all left tail 0;
          second_ends = other_ends;
          second_value = listed_value P (other ∷ []) (u ∷ us) 0 (edge_with other u) each refl;
          late = omega arith;
          kept = λ l e n h. ap (λ xs. slice_get xs l) whole
              ∙ some_before left tail l e (with_ends_other old k l turned n ∙ h);
          added = λ l e h. elim (cases_eq l k) [
            | inl is ↦ inr (inl is)
            | inr n ↦
                elim (before_or_after left tail l e (ap (λ xs. slice_get xs l) (sym whole) ∙ h)) [
                  | inl x ↦ inl (n, sym (with_ends_other old k l turned n) ∙ x)
                  | inr x ↦ inr (inr (listed_value P (other ∷ []) (u ∷ us) x.0 e each x.1))
                ]
          ];
        }
          where
            tail : List (Edge U)
            tail = edges_of (other ∷ []) (u ∷ us)

-- the ends of an edge that is written along one of its directions
pub along_ends : (h a b : ℕ) → IsSamePair (along h a b).source (along h a b).target a b
along_ends h a b = go (nat_eq (h % 2) 0)
  where
    go : (c : Bool) → (let e : Ends = (if c then record { source = a; target = b } else record {
      source = b;
      target = a;
    }) in IsSamePair e.source e.target a b)
    go true = inl (refl, refl)
    go false = inr (refl, refl)
