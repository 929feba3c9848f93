-- Which of two lists has a number, and ways that cross sides of polygons an odd number of times.
-- Lemmas: either_false, either_swap, one_number, added, leads_on, odd_on, goes_across.
use Rattle.std.proofs.Common.{◌≡◌, ◌≢◌, ◌⊎◌, ◌+◌, ◌/◌, ◌<◌, ◌≤◌, [], ◌∷◌, ◌++◌, ◌∙◌}
use Rattle.std.proofs.Common.{ℕ, zero, suc, Bool, true, false, List, length, map, set}
use Rattle.std.proofs.Common.{refl, sym, ap, subst, inl, inr, arith}
use mathlib.Core.Bool.{◌||◌}
use Rattle.std.specs.Prelude.{cond, nat_eq}
use Rattle.std.proofs.lemmas.Bool.{cases_eq, ne_eqb}
use Rattle.std.proofs.lemmas.Bool.Decides.{eqb_tells}
use Rattle.std.proofs.Common.{eq-eqb}
use Rattle.half_edge_links.specs.{face, Mesh, rev}
use Rattle.delaunay_extensions.specs.{Leads}
use Rattle.drawing_faces.specs.{either, has, IsDifference, list_at}
use Rattle.drawing_faces.specs.{Polygons.is_odd, Polygons.is_pair, PolygonSearch.HasParities}

-- ---- one of two
pub either_false : (b : Bool) → either b false ≡ b
either_false true = refl
either_false false = refl

either_all : (a b c : Bool) → either a (either b c) ≡ either (either a b) c
either_all true true true = refl
either_all true true false = refl
either_all true false true = refl
either_all true false false = refl
either_all false b c = refl

-- the second of three comes last
pub either_swap : (a b c : Bool) → either (either a b) c ≡ either b (either c a)
either_swap true true true = refl
either_swap true true false = refl
either_swap true false true = refl
either_swap true false false = refl
either_swap false true true = refl
either_swap false true false = refl
either_swap false false true = refl
either_swap false false false = refl

or_false : (b : Bool) → (b || false) ≡ b
or_false true = refl
or_false false = refl

-- ---- lists of edges
list_set_at : {A : Type 0} (f : A → List ℕ) (ls : List A) (i : ℕ) (x : A) → i < length ls
    → list_at (map f (set ls i x)) i ≡ f x
list_set_at f [] i x w = absurd (omega (arith, w))
list_set_at f (l ∷ ls) zero x w = refl
list_set_at f (l ∷ ls) (suc i) x w = list_set_at f ls i x (omega (arith, w))

list_set_off : {A : Type 0} (f : A → List ℕ) (ls : List A) (i e : ℕ) (x : A) → i ≢ e
    → list_at (map f (set ls i x)) e ≡ list_at (map f ls) e
list_set_off f [] i e x n = refl
list_set_off f (l ∷ ls) zero zero x n = absurd (n refl)
list_set_off f (l ∷ ls) zero (suc e) x n = refl
list_set_off f (l ∷ ls) (suc i) zero x n = refl
list_set_off f (l ∷ ls) (suc i) (suc e) x n = list_set_off f ls i e x (λ s. n (ap suc s))

-- an edge is a side of a polygon once more
pub added : {A : Type 0} (f : A → List ℕ) (ls : List A) (edge i polygon : ℕ) (x : A) → i ≡ edge
    → edge < length ls → IsDifference (polygon ∷ []) (list_at (map f ls) edge) (f x) → (e k : ℕ)
    → has (list_at (map f (set ls i x)) e) k
    ≡ either (is_pair edge polygon e k) (has (list_at (map f ls) e) k)
added f ls edge i polygon x is w differs e k = elim (cases_eq edge e) [
  | inl same ↦ ap (λ n. has (list_at (map f (set ls i x)) n) k) (sym same ∙ sym is)
      ∙ ap (λ xs. has xs k) (list_set_at f ls i x (subst (λ (n : ℕ). n < length ls) (sym is) w))
      ∙ differs k
      ∙ ap (λ b. either b (has (list_at (map f ls) edge) k)) (or_false (nat_eq polygon k)
      ∙ ap (λ b. cond b (nat_eq polygon k) false) (sym (eq-eqb edge e same)))
      ∙ ap (λ n. either (is_pair edge polygon e k) (has (list_at (map f ls) n) k)) same
  | inr apart ↦ ap (λ xs. has xs k)
      (list_set_off f ls i e x (λ s. apart (sym is ∙ s)))
      ∙ ap (λ b. either (cond b (nat_eq polygon k) false) (has (list_at (map f ls) e) k))
      (sym (ne_eqb edge e apart))
]

-- ---- ways
module _ (m : Mesh) (borders : ℕ → List ℕ) where
  leads_on : (hs : List ℕ) (h f : ℕ) → Leads m hs f (face m h) → h < length m.half_edges
      → Leads m (hs ++ h ∷ []) f (face m (rev h))
  leads_on [] h f e w = (w, sym e, refl)
  leads_on (g ∷ hs) h f l w = (l.0, l.1, leads_on hs h (face m (rev g)) l.2 w)

  odd_on : (hs : List ℕ) (h k : ℕ) → is_odd borders k (hs ++ h ∷ [])
      ≡ either (is_odd borders k hs) (has (borders (h / 2)) k)
  odd_on [] h k = either_false (has (borders (h / 2)) k)
  odd_on (g ∷ hs) h k = ap (either (has (borders (g / 2)) k)) (odd_on hs h k)
      ∙ either_all (has (borders (g / 2)) k) (is_odd borders k hs) (has (borders (h / 2)) k)

  -- a way goes on across an edge
  pub way_across : (h : ℕ) (here : List ℕ) → h < length m.half_edges
      → HasParities m borders (face m h) here → (hs : List ℕ) × Leads m hs 0 (face m (rev h))
      × ((k : ℕ) → is_odd borders k hs ≡ either (has here k) (has (borders (h / 2)) k))
  way_across h here w p = (
    p.way ++ h ∷ [],
    leads_on p.way h 0 p.leads w,
    λ k. odd_on p.way h k ∙ ap (λ b. either b (has (borders (h / 2)) k)) (sym (p.odd k)),
  )

  pub goes_across : (h : ℕ) (here there : List ℕ) → h < length m.half_edges
      → HasParities m borders (face m h) here → IsDifference here (borders (h / 2)) there
      → HasParities m borders (face m (rev h)) there
  goes_across h here there w p differs = let on = way_across h here w p in record {
    way = on.0;
    leads = on.1;
    odd = λ k. differs k ∙ sym (on.2 k);
  }
