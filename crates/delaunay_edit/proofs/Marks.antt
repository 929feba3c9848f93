-- Data that get the mark.
-- Lemmas: has_mark, gets_mark, marks_none, marks_one, marks_more.
use Rattle.std.proofs.Common.{◌≡◌, ◌⊎◌, [], ◌∷◌, ◌∙◌}
use Rattle.std.proofs.Common.{ℕ, zero, suc, Bool, true, false, List, set, refl, sym, ap, subst}
use Rattle.std.proofs.Common.{inl, inr}
use Rattle.std.specs.Prelude.{Some, slice_get}
use Rattle.std.proofs.lemmas.Bool.{cases_eq}
use Rattle.{delaunay_legalization.specs.not_both, half_edge_dcel.specs.Contents}
use Rattle.delaunay_legalization.proofs.{MarkedPairs.set_entry, one_value, slice_get-set_other}
use Rattle.delaunay_edit.specs.{MarksEdge, MarksSome}

-- a list stays where an entry is written over by itself
set_same : {X : Type 0} (xs : List X) (k : ℕ) (d : X) → slice_get xs k ≡ Some d → set xs k d ≡ xs
set_same [] k d e = refl
set_same (x ∷ xs) zero d e = ap (λ y. y ∷ xs) (sym (one_value x d e))
set_same (x ∷ xs) (suc k) d e = ap (λ ys. x ∷ ys) (set_same xs k d e)

module _ {V D U F : Type 0} {marks : U → Bool} {marked : U → U} {old : Contents V D U F} {k n : ℕ}
    {d : U} (was : slice_get old.undirected k ≡ Some d) (named : k ≡ n) where
  -- an edge that has the mark
  pub has_mark : marks d ≡ true → MarksEdge marks marked old old n
  has_mark mark = subst (MarksEdge marks marked old old) named (record {
    value = d;
    was = was;
    after = d;
    mark = mark;
    same = inl refl;
    whole = ap (λ (us : List U). record old { undirected = us })
        (sym (set_same old.undirected k d was));
  })

  -- and one that gets it
  pub gets_mark : {had got : U} → marks d ≡ false → ((x : U) → marks (marked x) ≡ true)
      → slice_get old.undirected k ≡ Some had → got ≡ marked had
      → MarksEdge marks marked old (record old { undirected = set old.undirected k got }) n
  gets_mark {had = had} {got = got} free has there made = subst
      (MarksEdge marks marked old (record old { undirected = set old.undirected k got })) named
      (record {
        value = had;
        was = there;
        after = got;
        mark = ap marks made ∙ has had;
        same = inr (
          subst (λ (x : U). marks x ≡ false) (one_value d had (sym was ∙ there)) free,
          made,
        );
        whole = refl;
      })

module _ {U : Type 0} (marks : U → Bool) (marked : U → U) where
  -- data that stay the same
  pub marks_none : (ds : List U) → MarksSome marks marked ds ds
  marks_none ds k d e = inl e

  -- one entry that stays, or gets the mark that it did not have
  pub marks_one : (ds : List U) (k : ℕ) (value after : U) → slice_get ds k ≡ Some value
      → (after ≡ value) ⊎ ((marks value ≡ false) × (after ≡ marked value))
      → MarksSome marks marked ds (set ds k after)
  marks_one ds k value after was same l d e = elim (cases_eq l k) [
    | inr n ↦ inl (slice_get-set_other ds k l after n ∙ e)
    | inl is ↦ (
        let here : slice_get (set ds k after) l ≡ Some after =
        ap (slice_get (set ds k after)) is ∙ set_entry ds k value after was in
        let one : value ≡ d = one_value value d (sym was ∙ ap (slice_get ds) (sym is) ∙ e) in
        elim same [
          | inl s ↦ inl (here ∙ ap (λ (x : U). Some x) (s ∙ one))
          | inr s ↦ inr (
            subst (λ (x : U). marks x ≡ false) one s.0,
            here ∙ ap (λ (x : U). Some x) (s.1 ∙ ap marked one),
          )
        ])
  ]

  -- one such change after another
  pub marks_more : ((x : U) → marks (marked x) ≡ true) → (old now new : List U)
      → MarksSome marks marked old now → MarksSome marks marked now new
      → MarksSome marks marked old new
  marks_more has old now new a b k d e = elim (a k d e) [
    | inl x ↦ b k d x
    | inr x ↦ elim (b k (marked d) x.1) [
      | inl y ↦ inr (x.0, y)
      | inr y ↦ not_both (sym y.0 ∙ has d)
    ]
  ]
