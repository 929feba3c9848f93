-- Ways from face to face, and the constraints on them.
-- Lemmas: way_on, no_shorter.
use Rattle.std.proofs.Common.{◌≡◌, ◌+◌, ◌<◌, ◌≤◌, [], ◌∷◌, ◌++◌, ◌∙◌}
use Rattle.std.proofs.Common.{ℕ, List, length, refl, sym, ap, subst, arith}
use Rattle.std.proofs.lemmas.List.Sums.{sum_by-append}
use Rattle.std.specs.Prelude.{cond}
use Rattle.half_edge_links.specs.{face, Mesh, rev}
use Rattle.delaunay_extensions.specs.{crossed, is_constrained, IsMet, layer_at, Leads, weight}
use Rattle.delaunay_extensions.specs.Search.{HasWay, IsReachedAcross}

module _ (m : Mesh) (constraints : List ℕ) where
  -- one edge more
  leads_on : (hs : List ℕ) (h f : ℕ) → Leads m hs f (face m h) → h < length m.half_edges
      → Leads m (hs ++ h ∷ []) f (face m (rev h))
  leads_on [] h f e w = (w, sym e, refl)
  leads_on (g ∷ hs) h f l w = (l.0, l.1, leads_on hs h (face m (rev g)) l.2 w)

  crossed_on : (hs : List ℕ) (h : ℕ)
      → crossed constraints (hs ++ h ∷ []) ≡ crossed constraints hs + weight constraints h
  crossed_on hs h =
      let e = sum_by-append (λ g. cond (is_constrained constraints g) 1 0) hs (h ∷ []) in
      omega (arith, e)

  crossed_first : (hs : List ℕ) (h : ℕ)
      → crossed constraints (h ∷ hs) ≡ weight constraints h + crossed constraints hs
  crossed_first hs h =
      let e = sum_by-append (λ g. cond (is_constrained constraints g) 1 0) (h ∷ []) hs in
      omega (arith, e)

  -- a way goes on across an edge
  pub way_on : (h n : ℕ) → h < length m.half_edges → HasWay m constraints (face m h) n
      → HasWay m constraints (face m (rev h)) (n + weight constraints h)
  way_on h n w way = (
    way.0 ++ h ∷ [],
    leads_on way.0 h 0 way.1 w,
    crossed_on way.0 h ∙ ap (λ (k : ℕ). k + weight constraints h) way.2,
  )

  -- where each edge was crossed, no way is shorter than what is known
  pub no_shorter : (layers : List ℕ) → ((h : ℕ) → h < length m.half_edges
      → IsMet layers (face m h) → IsReachedAcross m constraints layers h) → (hs : List ℕ) (f g : ℕ)
      → Leads m hs f g → IsMet layers f
      → IsMet layers g × (layer_at layers g ≤ layer_at layers f + crossed constraints hs)
  no_shorter layers all [] f g e seen = (
    subst (IsMet layers) e seen,
    subst (λ x. layer_at layers x ≤ layer_at layers f + 0) e (omega arith),
  )
  no_shorter layers all (h ∷ hs) f g l seen =
      let here = all h l.0 (subst (IsMet layers) (sym l.1) seen) in
      let rest = no_shorter layers all hs (face m (rev h)) g l.2 here.seen in
      let first = here.low in
      let last = rest.1 in
      let same = ap (layer_at layers) l.1 in
      let sum = crossed_first hs h in
      (rest.0, omega (arith, first, last, same, sum))
