-- The lookups' steps: nothing is found up to a place.
-- Lemmas: none_up_to, not_here, at_found, first_circle, all_listed, all_listed_sites.
use Rattle.std.proofs.Common.{◌≡◌, ◌+◌, ◌<◌, ◌&&◌, ◌∙◌}
use Rattle.std.proofs.Common.{true, ℕ, Bool, false, List, arith, inl, inr, ap, sym, subst}
use Rattle.std.proofs.Common.{[], Some, cond, length, drop, get_or}
use Rattle.std.specs.Ordering.{int_eq}
use Rattle.std.specs.Prelude.{All, Option, MatchOption}
use Rattle.std.proofs.lemmas.List.{get_or_default, at_drop_more}
use Rattle.std.proofs.lemmas.Bool.{cases_eq, and_from, true≢false}
use Rattle.std.proofs.lemmas.Bool.Decides.{Decides-int_eq}
use Rattle.plane.specs.{Point}
use Rattle.triangulate_run.specs.{Circle, IsListed, nowhere, place, point_in, SheetPoint}
use Rattle.triangulate_run.specs.{Points.IsListedSite, Table.circle_in, Table.lists}

-- what holds neither below i nor at i holds at no number below i + 1
pub none_up_to : (P : ℕ → Type 0) (i : ℕ) → ((k : ℕ) → k < i → P k → ⊥) → (P i → ⊥) → (k : ℕ)
    → k < i + 1 → P k → ⊥
none_up_to P i below here k h p = elim (cases_eq k i)
    [ inl same ↦ here (subst P same p) | inr other ↦ let le : k < i = omega arith in below k le p ]

-- where the test of both coordinates fails, the point with index i is not p
pub not_here : (ps : List SheetPoint) (i : ℕ) (p : Point) (b : Bool)
    → b ≡ (int_eq (point_in ps i).x p.x && int_eq (point_in ps i).y p.y) → b ≡ false
    → point_in ps i ≡ p → ⊥
not_here ps i p b e f h = true≢false
    (sym (and_from (int_eq (point_in ps i).x p.x) (int_eq (point_in ps i).y p.y)
    ((Decides-int_eq (point_in ps i).x p.x).1 (ap (λ q. q.x) h))
    ((Decides-int_eq (point_in ps i).y p.y).1 (ap (λ q. q.y) h))) ∙ sym e ∙ f)

-- an index that a lookup gives is as the lookup says
pub at_found : (A : Type 0) (B : ℕ → Type 0) (o : Option ℕ) (i : ℕ) → o ≡ Some i
    → MatchOption o A B → B i
at_found A B o i e found = subst (λ (o : Option ℕ). MatchOption o A B) e found

-- the first circle from place n on is the one there, where it lists the triple, and else the first
-- behind it
pub first_circle : (cs : List Circle) (n i j k : ℕ) (b : Bool) → n < length cs
    → lists (get_or cs n record { triples = []; inside = [] }).triples i j k ≡ b
    → circle_in (drop n cs) i j k ≡ cond b (Some (get_or cs n record { triples = []; inside = [] }))
    (circle_in (drop (n + 1) cs) i j k)
first_circle cs n i j k b h listed =
    at_drop_more (λ cs. circle_in cs i j k) cs n record { triples = []; inside = [] } h
    ∙ ap (λ b. cond b (Some (get_or cs n record { triples = []; inside = [] }))
    (circle_in (drop (n + 1) cs) i j k)) listed

-- each point of a list is listed
pub all_listed : (ps qs : List SheetPoint) → qs ≡ ps → All (λ s. IsListed ps (place s)) qs
all_listed ps qs e = subst (λ qs. All (λ s. IsListed ps (place s)) qs) (sym e)
    (λ k d h. (k, (h, ap place (get_or_default ps k nowhere d h))))

-- each site in a list is a listed site
pub all_listed_sites : (ps qs : List SheetPoint) → qs ≡ ps
    → All (λ s. s.site ≡ true → IsListedSite ps (place s)) qs
all_listed_sites ps qs e =
    subst (λ qs. All (λ s. s.site ≡ true → IsListedSite ps (place s)) qs) (sym e)
    (λ k d h is_site. let same = get_or_default ps k nowhere d h in
    (k, ((h, ap place same), ap (λ s. s.site) same ∙ is_site)))
