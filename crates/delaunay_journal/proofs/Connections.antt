-- Paths of links: they can be joined, turned, and led over other links.
-- Lemmas: one_link, connected_on, connected_over, connected_back, turned_link, along_segment.
use Rattle.std.proofs.Common.{◌<◌, [], ◌∷◌, ◌++◌, ℕ, zero, suc, List, refl, sym, subst}
use Rattle.std.proofs.Common.{inl, inr, arith}
use Rattle.std.specs.Prelude.{nat_abs}
use Rattle.std.proofs.lemmas.Bool.{cases_eq}
use Rattle.plane.specs.{IsIndex, Point, squared_vector}
use Rattle.plane.proofs.{turned_join}
use Rattle.plane_theorems.specs.{AreNextOn, ArePlacedApart, point_of}
use Rattle.plane_theorems.proofs.{path_goes_on, path_shortens}
use Rattle.plane_theorems.proofs.Segments.Constraints.Subconstraints.{path_begins}
use Rattle.delaunay_journal.specs.Splits.{AreConnected, IsLink, Leads}

module _ (J : ℕ → ℕ → Type 0) where
  -- a link is a path
  pub one_link : (i j : ℕ) → J i j → AreConnected J i j
  one_link i j h = (j ∷ [], (h, refl))

  -- a path goes on from the end of another
  leads_on : (i j k : ℕ) (first second : List ℕ) → Leads J i first j → Leads J j second k
      → Leads J i (first ++ second) k
  leads_on i j k [] second h l = subst (λ n. Leads J n second k) (sym h) l
  leads_on i j k (n ∷ first) second h l = (h.0, leads_on n j k first second h.1 l)

  pub connected_on : (i j k : ℕ) → AreConnected J i j → AreConnected J j k → AreConnected J i k
  connected_on i j k a b = (a.0 ++ b.0, leads_on i j k a.0 b.0 a.1 b.1)

  -- where each link has one back, so has each path
  pub connected_back : ((i j : ℕ) → J i j → J j i) → (i j : ℕ) → AreConnected J i j
      → AreConnected J j i
  connected_back turned i j a = back i a.0 a.1
    where
      back : (i : ℕ) (ks : List ℕ) → Leads J i ks j → AreConnected J j i
      back i [] h = ([], sym h)
      back i (n ∷ ks) h =
          connected_on j n i (back n ks h.1) (one_link n i (turned i n h.0))

-- where links are paths of other links, so are paths
pub connected_over : (J K : ℕ → ℕ → Type 0) → ((i j : ℕ) → J i j → AreConnected K i j)
    → (i j : ℕ) → AreConnected J i j → AreConnected K i j
connected_over J K over i j a = go i a.0 a.1
  where
    go : (i : ℕ) (ks : List ℕ) → Leads J i ks j → AreConnected K i j
    go i [] h = ([], h)
    go i (n ∷ ks) h = connected_on K i n j (over i n h.0) (go n ks h.1)

-- a link is one from its other end, too
pub turned_link : (constraints segments : List (ℕ × ℕ)) (i j : ℕ) → IsLink constraints segments i j
    → IsLink constraints segments j i
turned_link constraints segments i j (inl h) = inl (turned_join constraints i j h)
turned_link constraints segments i j (inr h) = inr (turned_join segments i j h)

-- ---- from one end of a segment to the other
module _ (points : List Point) (distinct : ArePlacedApart points) (j : ℕ)
    (j_in : IsIndex points j) where
  -- the neighbours on it are a path
  within : (n i : ℕ)
      → nat_abs (squared_vector (point_of points i) (point_of points j)) < n → IsIndex points i
      → AreConnected (AreNextOn points i j) i j
  within zero i h i_in = absurd (omega (arith, h))
  within (suc n) i h i_in = elim (cases_eq i j) as (λ _. AreConnected (AreNextOn points i j) i j) [
    | inl e ↦ ([], e)
    | inr apart ↦ (
        let next = path_begins points i j distinct i_in j_in apart in
        let shorter = path_shortens points i j next.0 distinct i_in j_in apart next.1 in
        let rest = within n next.0 (omega (arith, h, shorter)) next.1.second_index in
        connected_on (AreNextOn points i j) i next.0 j
        (one_link (AreNextOn points i j) i next.0 next.1)
        (connected_over (AreNextOn points next.0 j) (AreNextOn points i j)
        (λ a b link. one_link (AreNextOn points i j) a b
        ((path_goes_on points i j next.0 distinct j_in apart next.1 a b).1 (inr link)))
        next.0 j rest))
  ]

  pub along_segment : (i : ℕ) → IsIndex points i → AreConnected (AreNextOn points i j) i j
  along_segment i = within
      (suc (nat_abs (squared_vector (point_of points i) (point_of points j)))) i (omega arith)
