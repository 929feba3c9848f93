-- Leads to the vertices that sides of free faces join to a vertex, edge by edge.
-- Notions: IsSpreading, HasLead; spread_begins, spread_adds, round_adds, round_passes, spread_ends.
use Rattle.std.proofs.Common.{◌≡◌, ◌⊎◌, ◌<◌, ◌∷◌, [], ◌∙◌, ℕ, Bool, List, length, map}
use Rattle.std.proofs.Common.{refl, sym, subst, inl, inr, arith}
use Rattle.std.specs.Prelude.{Contains}
use Rattle.std.specs.Borrow.{Bor}
use Rattle.std.specs.List.Sorted.{IsPermutation}
use Rattle.std.proofs.lemmas.List.{length-map}
use Rattle.std.proofs.lemmas.List.Sorted.{Contains-permutation, IsPermutation-sym}
use Rattle.std.proofs.lemmas.List.Elements.{Contains-append_cases, Contains-append_right}
use Rattle.plane.specs.{IsVertex, Point, Triangulation}
use Rattle.half_edge_links.specs.{Mesh, origin, rev}
use Rattle.half_edge_dcel.specs.{Contents}
use Rattle.delaunay_legalization.specs.{drawn, IsTriangulated, state_of}
use Rattle.{delaunay_legalization.proofs.IsGoingRound, plane_theorems.specs.Ways.Links.IsLinked}
use Rattle.delaunay_legalization.proofs.Rounds.{round_ends, round_goes_on, seen_as}
use Rattle.{delaunay_shapes.specs.by_place, delaunay_ways.proofs.PathsRead.only_one}
use Rattle.delaunay_ways.specs.{declared.leads.Lead.Lead, Spreads}
use Rattle.delaunay_ways.proofs.FreeSides.{end_exists, IsSide, link_has_side, side_is_link}

module _ {V D U F : Type 0} (at : V → Point) (c : Contents V D U F) (free : ℕ → Bool)
    (v before : ℕ) (old : List Lead) where
  -- leads were added to vertices that are linked with vertex v
  pub record IsSpreading (leads : List Lead) : Type 0 where
    pub kept : (x : Lead) → Contains old x → Contains leads x
    pub only : (x : Lead) → Contains leads x → Contains old x
        ⊎ ((x.before ≡ before) × IsVertex (drawn (map at c.vertices) c.mesh) x.vertex
        × IsLinked (drawn (map at c.vertices) c.mesh) (by_place free) v x.vertex)

-- there is a lead to the end of directed edge h, if it is a side of a free face
abbrev pub HasLead : Mesh → (ℕ → Bool) → List Lead → ℕ → Type 0
HasLead m free leads h = IsSide m free h
    → (x : Lead) × Contains leads x × (x.vertex ≡ origin m (rev h))

-- what a handle tells, of the edge that it is made from
pub side_as : {V D U F : Type 0} (d e : Bor (Contents V D U F)) (free : ℕ → Bool) (i h : ℕ) → d ≡ e
    → i ≡ h → IsSide d.now.mesh free i → IsSide e.now.mesh free h
side_as {V} {D} {U} {F} d e free i h same is s =
    subst (λ (b : Bor (Contents V D U F)). IsSide b.now.mesh free h) same
    (subst (λ (k : ℕ). IsSide d.now.mesh free k) is s)

pub end_as : {V D U F : Type 0} (d e : Bor (Contents V D U F)) (i h j : ℕ) → d ≡ e → i ≡ h
    → j ≡ origin d.now.mesh (rev i) → j ≡ origin e.now.mesh (rev h)
end_as {V} {D} {U} {F} d e i h j same is s =
    subst (λ (b : Bor (Contents V D U F)). j ≡ origin b.now.mesh (rev h)) same
    (subst (λ (k : ℕ). j ≡ origin d.now.mesh (rev k)) is s)

module _ {V D U F : Type 0} (at : V → Point) (c : Contents V D U F)
    (whole : IsTriangulated at (state_of c)) (free : ℕ → Bool) (v before : ℕ)
    (old : List Lead) where
  abbrev m : Mesh
  m = c.mesh

  abbrev t : Triangulation
  t = drawn (map at c.vertices) m

  abbrev Spreading : List Lead → Type 0
  Spreading = IsSpreading at c free v before old

  pub spread_begins : Spreading old
  spread_begins = record { kept = λ x i. i; only = λ x i. inl i }

  module _ (leads leads' : List Lead) (x : Lead) (p : IsPermutation (x ∷ leads) leads') where
    still : (y : Lead) → Contains leads y → Contains leads' y
    still y i = Contains-permutation (x ∷ leads) leads' y p
        (Contains-append_right (x ∷ []) leads y i)

    pub spread_adds : Spreading leads → (h : ℕ) → h < length m.half_edges → origin m h ≡ v
        → IsSide m free h → x.vertex ≡ origin m (rev h) → x.before ≡ before → Spreading leads'
    spread_adds s h w starts side is here = record {
      kept = λ y i. still y (s.kept y i);
      only = λ y i. elim (Contains-append_cases (x ∷ []) leads y
          (Contains-permutation leads' (x ∷ leads) y (IsPermutation-sym (x ∷ leads) leads' p) i)) [
            | inl d ↦ inr (only_one (λ z. (z.before ≡ before) × IsVertex t z.vertex
                × IsLinked t (by_place free) v z.vertex) x y d (here, exists, linked))
            | inr d ↦ s.only y d
          ];
    }
      where
        exists : IsVertex t x.vertex
        exists =
            let e = end_exists (map at c.vertices) m whole.valid free h w in
            let n = length-map c.vertices at in
            let f = whole.fits.vertices_fit in
            omega (arith, e, n, f, is)

        linked : IsLinked t (by_place free) v x.vertex
        linked = subst (λ i. IsLinked t (by_place free) i x.vertex) starts
            (subst (IsLinked t (by_place free) (origin m h)) (sym is)
            (side_is_link (map at c.vertices) m whole.valid free h w side))

    module _ (y : Bor (Contents V D U F) × ℕ) (given left : List (Bor (Contents V D U F) × ℕ))
        (e : given ≡ y ∷ left) (r : IsGoingRound c v (HasLead m free leads) given) where
      -- with a lead to its end, an edge is done
      pub round_adds : x.vertex ≡ origin m (rev y.1) → IsGoingRound c v (HasLead m free leads') left
      round_adds is = round_goes_on c v (HasLead m free leads') given
          (seen_as c v (HasLead m free leads) given r (HasLead m free leads')
          (λ h seen side. let z = seen side in (z.0, still z.0 z.1, z.2))) y left e
          (λ side. (x, Contains-permutation (x ∷ leads) leads' x p (0, omega arith, refl), is))

  -- an edge that is no side of a free face is done
  pub round_passes : (leads : List Lead) (y : Bor (Contents V D U F) × ℕ)
      (given left : List (Bor (Contents V D U F) × ℕ)) → given ≡ y ∷ left
      → IsGoingRound c v (HasLead m free leads) given → ¬ IsSide m free y.1
      → IsGoingRound c v (HasLead m free leads) left
  round_passes leads y given left e r none =
      round_goes_on c v (HasLead m free leads) given r y left e (λ side. absurd (none side))

  -- at the end of the round there are leads to all
  pub spread_ends : (leads : List Lead) (given : List (Bor (Contents V D U F) × ℕ))
      → Spreading leads → IsGoingRound c v (HasLead m free leads) given → given ≡ []
      → Spreads t (by_place free) v before old leads
  spread_ends leads given s r none = record {
    kept = s.kept;
    there = λ w l.
        let h = link_has_side (map at c.vertices) m whole.valid free v w l in
        let x = round_ends c v (HasLead m free leads) given r none h.0 h.1 h.2 h.4 in
        (x.0, x.1, x.2 ∙ h.3);
    only = s.only;
  }
