-- Free edges that are listed, and a face that is entered: it is marked, and its free edges are
-- listed.
-- Lemmas: free_one, free_none, free_sides, one_less, stands_at, entered_before, entered_first,
-- less_work.
use Rattle.std.proofs.Common.{◌≡◌, ◌≢◌, ◌⊎◌, ◌↔◌, ◌+◌, ◌<◌, ◌≤◌, [], ◌∷◌, ◌++◌, ◌∙◌}
use Rattle.std.proofs.Common.{ℕ, List, length, get_or, set}
use Rattle.std.proofs.Common.{refl, sym, ap, subst, inl, inr, arith}
use Rattle.std.specs.Prelude.{Contains, cond, nat_eq, not}
use Rattle.std.specs.List.{count_by}
use Rattle.std.proofs.lemmas.Bool.{cases_eq, ne_eqb}
use Rattle.std.proofs.lemmas.List.{set-get_or}
use Rattle.std.proofs.lemmas.List.Elements.{Contains-push, Contains-push_cases}
use Rattle.std.proofs.lemmas.List.Elements.{Contains-append_left}
use Rattle.std.proofs.lemmas.List.Sums.{sum_by-set}
use Rattle.half_edge_links.specs.{AreSoundLinks, face_edge, Mesh, next, prev}
use Rattle.delaunay_extensions.specs.{IsSideOf, weight}
use Rattle.{delaunay_extensions.proofs.Searching.three_sides, plane_theorems.proofs.get_or_any}
use Rattle.drawing_faces.specs.{Flood.Enters, Flood.flood_left, Flood.ListsFree, IsReached}

-- ---- lists of edges
module _ (constraints : List ℕ) where
  pub free_one : (due due' : List ℕ) (h : ℕ) → weight constraints h ≡ 0 → due' ≡ due ++ h ∷ []
      → ListsFree constraints (λ g. g ≡ h) due due'
  free_one due due' h free grown = subst (ListsFree constraints (λ g. g ≡ h) due) (sym grown)
      (record {
        kept = λ g c. Contains-append_left due (h ∷ []) g c;
        there = λ g e w. subst (Contains (due ++ h ∷ [])) (sym e) (Contains-push due h);
        only = λ g c. elim (Contains-push_cases due h g c) [
          | inl d ↦ inl d
          | inr e ↦ inr (sym e, subst (λ x. weight constraints x ≡ 0) e free)
        ];
      })

  pub free_none : (due : List ℕ) (h : ℕ) → weight constraints h ≡ 1
      → ListsFree constraints (λ g. g ≡ h) due due
  free_none due h counts = record {
    kept = λ g c. c;
    there = λ g e w. let same = ap (weight constraints) e in
        absurd (omega (arith, counts, same, w));
    only = λ g c. inl c;
  }

  free_as : (Which Those : ℕ → Type 0) (due due' : List ℕ) → ((h : ℕ) → Which h ↔ Those h)
      → ListsFree constraints Which due due' → ListsFree constraints Those due due'
  free_as Which Those due due' same l = record {
    kept = l.kept;
    there = λ g t w. l.there g ((same g).1 t) w;
    only = λ g c. elim (l.only g c) [
      | inl d ↦ inl d
      | inr w ↦ inr ((same g).0 w.0, w.1)
    ];
  }

  free_both : (Which Those : ℕ → Type 0) (due mid due' : List ℕ)
      → ListsFree constraints Which due mid → ListsFree constraints Those mid due'
      → ListsFree constraints (λ h. Which h ⊎ Those h) due due'
  free_both Which Those due mid due' a b = record {
    kept = λ g c. b.kept g (a.kept g c);
    there = λ g x w. elim x [
      | inl y ↦ b.kept g (a.there g y w)
      | inr y ↦ b.there g y w
    ];
    only = λ g c. elim (b.only g c) [
      | inl d ↦ elim (a.only g d) [ inl e ↦ inl e | inr w ↦ inr (inl w.0, w.1) ]
      | inr w ↦ inr (inr w.0, w.1)
    ];
  }

  -- the three sides of a face
  pub free_sides : (m : Mesh) → AreSoundLinks m → (f e1 e2 e3 : ℕ)
      (due due1 due2 due3 : List ℕ) → 0 < f → f ≤ length m.face_edges
      → e1 ≡ face_edge m f → e2 ≡ next m (face_edge m f) → e3 ≡ prev m (face_edge m f)
      → ListsFree constraints (λ g. g ≡ e1) due due1
      → ListsFree constraints (λ g. g ≡ e2) due1 due2
      → ListsFree constraints (λ g. g ≡ e3) due2 due3
      → ListsFree constraints (IsSideOf m f) due due3
  free_sides m sound f e1 e2 e3 due due1 due2 due3 some few p q r a b c =
      free_as (λ g. ((g ≡ face_edge m f) ⊎ (g ≡ next m (face_edge m f)))
      ⊎ (g ≡ prev m (face_edge m f))) (IsSideOf m f) due due3
      (λ g. three_sides m sound f g some few)
      (free_both (λ g. (g ≡ face_edge m f) ⊎ (g ≡ next m (face_edge m f)))
      (λ g. g ≡ prev m (face_edge m f)) due due2 due3
      (free_both (λ g. g ≡ face_edge m f) (λ g. g ≡ next m (face_edge m f)) due due1 due2
      (subst (λ x. ListsFree constraints (λ g. g ≡ x) due due1) p a)
      (subst (λ x. ListsFree constraints (λ g. g ≡ x) due1 due2) q b))
      (subst (λ x. ListsFree constraints (λ g. g ≡ x) due2 due3) r c))

-- ---- what is left to do
abbrev cost : ℕ → ℕ
cost n = cond (not (nat_eq n 0)) 1 0

cost_of : (n : ℕ) → n ≢ 0 → cost n ≡ 1
cost_of n some = ap (λ b. cond (not b) 1 0) (ne_eqb n 0 some)

-- one face less is left
pub one_less : (reached : List ℕ) (f : ℕ) → f < length reached → ¬ IsReached reached f
    → count_by (λ n. not (nat_eq n 0)) (set reached f 0) + 1
    ≡ count_by (λ n. not (nat_eq n 0)) reached
one_less reached f w new =
    let moved = sum_by-set cost reached f 0 1 w in
    let a = cost_of (get_or reached f 1) new in
    omega (arith, moved, a)

-- ---- a face that is entered
-- what stands at the place of a face, whatever is read past the end
pub stands_at : (reached : List ℕ) (f i n : ℕ) → i ≡ f → f < length reached
    → n ≡ get_or reached i n → get_or reached f 1 ≡ n
stands_at reached f i n e w at =
    get_or_any reached f 1 n w ∙ ap (λ k. get_or reached k n) (sym e) ∙ sym at

module _ (m : Mesh) (constraints reached due : List ℕ) (f : ℕ) where
  -- one that was reached before
  pub entered_before : IsReached reached f → Enters m constraints f reached due reached due
  entered_before r = record {
    marks = sym (ap (set reached f) (sym r) ∙ set-get_or reached f 1);
    before = λ q. refl;
    first = λ new. absurd (new r);
  }

  -- one that was not
  module _ (size : length reached ≡ length m.face_edges + 1) (outer : IsReached reached 0)
      (within : f < length reached) (new : ¬ IsReached reached f) where
    some_face : 0 < f
    some_face = elim (cases_eq f 0) [
      | inl e ↦ absurd (new (subst (IsReached reached) (sym e) outer))
      | inr n ↦ omega (arith, n)
    ]

    pub entered_first : AreSoundLinks m → (reached' due1 due2 due3 : List ℕ) (e1 e2 e3 : ℕ)
        → reached' ≡ set reached f 0
        → e1 ≡ face_edge m f → e2 ≡ next m (face_edge m f) → e3 ≡ prev m (face_edge m f)
        → ListsFree constraints (λ g. g ≡ e1) due due1
        → ListsFree constraints (λ g. g ≡ e2) due1 due2
        → ListsFree constraints (λ g. g ≡ e3) due2 due3
        → Enters m constraints f reached due reached' due3
    entered_first links reached' due1 due2 due3 e1 e2 e3 marks p q r a b c = record {
      marks = marks;
      before = λ q. absurd (new q);
      first = λ n. free_sides constraints m links f e1 e2 e3 due due1 due2 due3 some_face
          (omega (arith, within, size)) p q r a b c;
    }

    -- there is less to do then
    pub less_work : (reached' due1 due2 due3 : List ℕ) → reached' ≡ set reached f 0
        → length due1 ≤ length due + 1 → length due2 ≤ length due1 + 1
        → length due3 ≤ length due2 + 1 → flood_left reached' due3 ≤ flood_left reached due
    less_work reached' due1 due2 due3 marks a b c =
        let counted = ap (count_by (λ n. not (nat_eq n 0))) marks in
        let less = one_less reached f within new in
        omega (arith, counted, less, a, b, c)
