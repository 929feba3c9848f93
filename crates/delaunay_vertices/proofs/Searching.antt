-- A walk round a vertex that looks for an edge.
-- Notions: IsSearching, IsSeeking; not_so, search_goes_on, seeking_begins, seeking_goes_on,
-- seeking_finds, seeking_has_found, seeking_ends.
use Rattle.std.proofs.Common.{◌≡◌, ◌↔◌, ℕ, ◌+◌, ◌<◌, ◌≤◌, List, length, map, refl, sym, ap, ◌∙◌}
use Rattle.std.proofs.Common.{subst, arith, inl, inr}
use Rattle.std.specs.Prelude.{Bool, false, IsTrue, Some, None}
use Rattle.std.proofs.lemmas.Bool.{cases_eq}
use Rattle.std.proofs.Math.Numerals.{add-one}
use Rattle.half_edge_links.specs.{IsValidMesh, Mesh, origin, spoke, turn}
use Rattle.{half_edge_dcel.specs.Contents, plane.specs.Point}
use Rattle.delaunay_legalization.proofs.{both_ways, round_at}
use Rattle.delaunay_vertices.specs.{HasSpoke, IsSpokeThat, Star.FindsSpoke, Star.Surrounding}

-- what a test that failed asked is not so
pub not_so : {b : Bool} {A : Type 0} → IsTrue b ↔ A → b ≡ false → ¬ A
not_so {b} asks failed a = both_ways b (asks.1 a) failed

-- after so many steps from edge first on the walk is at an edge, and none before it is one
pub record IsSearching (Found : ℕ → Type 0) (bound : ℕ) (m : Mesh)
    (first count edge : ℕ) : Type 0 where
  pub within : edge < bound
  pub here : edge ≡ spoke m first count
  pub none : (k : ℕ) → k < count → ¬ Found (spoke m first k)

-- a step past an edge that is none turns to the next edge
pub search_goes_on : {Found : ℕ → Type 0} {bound : ℕ} {m : Mesh} {first count edge after : ℕ}
    → IsSearching Found bound m first count edge → ¬ Found edge → after < bound
    → after ≡ turn m edge → IsSearching Found bound m first (count + 1) after
search_goes_on {Found = Found} {m = m} {first = first} {count = count} search not within is =
    record {
      within = within;
      here = is ∙ ap (turn m) search.here ∙ ap (spoke m first) (sym (add-one count));
      none = λ k less. elim (cases_eq k count) [
        | inl e ↦ λ f. not (subst Found (ap (spoke m first) e ∙ sym search.here) f)
        | inr n ↦ search.none k (omega (arith, less, n))
      ];
    }

-- ---- of the edges of a vertex of a triangulation, for one of a kind
pub record IsSeeking {D : Type 0} (Is : List Point → Mesh → ℕ → Type 0) (s : Surrounding D)
    (count edge : ℕ) : Type 0 where
  pub valid : IsValidMesh s.mesh
  pub first_in : s.first < length s.mesh.half_edges
  pub walk : IsSearching (Is s.points s.mesh) (length s.directed) s.mesh s.first count edge

-- it begins at its first edge
pub seeking_begins : {V D U F P : Type 0} {place : V → Point} {IsSite : P → Point → Type 0} {t : P}
    {c : Contents V D U F} {first : ℕ} {Is : List Point → Mesh → ℕ → Type 0}
    → HasSpoke place IsSite c t first → IsSeeking Is (record {
      points = map place c.vertices;
      mesh = c.mesh;
      directed = c.directed;
      first = first;
    }) 0 first
seeking_begins has = record {
  valid = has.embedding.kept.valid;
  first_in = rw has.embedding.kept.fits.directed_fit at has.within;
  walk = record { within = has.within; here = refl; none = λ k less. absurd (omega (arith, less)) };
}

module _ {D : Type 0} {Is : List Point → Mesh → ℕ → Type 0} {s : Surrounding D} {count edge : ℕ}
    (seeking : IsSeeking Is s count edge) where
  -- it passes an edge of another kind
  pub seeking_goes_on : {after : ℕ} → ¬ Is s.points s.mesh edge → after < length s.directed
      → after ≡ turn s.mesh edge → IsSeeking Is s (count + 1) after
  seeking_goes_on not within is = record {
    valid = seeking.valid;
    first_in = seeking.first_in;
    walk = search_goes_on seeking.walk not within is;
  }

  -- the edge where it is may be found
  pub seeking_finds : {Found : List Point → Mesh → ℕ → Type 0} → Found s.points s.mesh edge
      → IsSpokeThat Found s edge
  seeking_finds is = record {
    within = seeking.walk.within;
    starts = ap (origin s.mesh) seeking.walk.here ∙ (round_at s.mesh seeking.valid
        (origin s.mesh s.first) s.first seeking.first_in refl).1.starts count;
    is = is;
  }

  -- and none need be missing
  pub seeking_has_found : Is s.points s.mesh edge → {edges : ℕ}
      → FindsSpoke Is s edges (Some edge)
  seeking_has_found is = record { some = seeking_finds is; none = search }

  -- where each was passed, none is found
  pub seeking_ends : {edges : ℕ} → edges ≤ count → FindsSpoke Is s edges None
  seeking_ends all = record {
    some = search;
    none = λ k less. seeking.walk.none k (omega (arith, all, less));
  }
