-- The edges round a vertex cease to be constraints, one after another.
-- Notions: IsFreeing; freeing_begins, still_there, freeing_goes_on, freeing_ends,
-- none_to_free, free_already.
use Rattle.std.proofs.Common.{◌≡◌, ◌≢◌, ◌+◌, ◌*◌, ◌/◌, ◌<◌, ◌≤◌, ◌∙◌}
use Rattle.std.proofs.Common.{ℕ, List, length, set, Some, refl, sym, ap, subst, inl, inr, arith}
use Rattle.std.specs.Prelude.{Bool, true, false, [], Contains, None, slice_get}
use Rattle.std.proofs.lemmas.Bool.{cases_eq}
use Rattle.std.proofs.lemmas.List.{length-set, get_or-set_same}
use Rattle.std.proofs.lemmas.Option.{slice_get_within, get_or_from_slice_get}
use Rattle.std.proofs.Math.Numerals.{add-one}
use Rattle.half_edge_links.specs.{IsRound, origin, out_edge, rev, spoke, turn}
use Rattle.half_edge_links.proofs.{rev_within}
use Rattle.half_edge_dcel.specs.{Contents, IsMeshWithData}
use Rattle.delaunay_legalization.specs.{constraint_pairs, HasEdgeData, marked_edges, pair_at}
use Rattle.delaunay_legalization.proofs.{contains_map, half_of_even, rev_of_even}
use Rattle.delaunay_legalization.proofs.{Constraints.is_constraint_edge, slice_get-set_other}
use Rattle.{delaunay_vertices.specs.Freeing.IsUnmarked, plane_theorems.proofs.Contains-none}
use Rattle.delaunay_vertices.proofs.DataReads.{even_or_odd, half_of_odd}
use Rattle.{delaunay_vertices.proofs.Degrees.starts_none, delaunay_vertices.specs.FreesEdgesAt}

-- the first i edges from edge first on have no mark
pub record IsFreeing {V D U F : Type 0} (marks : U → Bool) (old : Contents V D U F) (first : ℕ)
    (now : Contents V D U F) (i edge : ℕ) : Type 0 where
  pub contents : now ≡ record old { undirected = now.undirected }
  pub count : length now.undirected ≡ length old.undirected
  pub within : edge < length old.directed
  pub here : edge ≡ spoke old.mesh first i
  pub done : (j : ℕ) → j < i → IsUnmarked marks now (spoke old.mesh first j / 2)
  pub others : (k : ℕ) → ((j : ℕ) → spoke old.mesh first j / 2 ≢ k) →
      slice_get now.undirected k ≡ slice_get old.undirected k

-- at the first edge none has been freed yet
pub freeing_begins : {V D U F : Type 0} {marks : U → Bool} {old : Contents V D U F} {first : ℕ}
    → first < length old.directed → IsFreeing marks old first old 0 first
freeing_begins within = record {
  contents = refl;
  count = refl;
  within = within;
  here = refl;
  done = λ j less. absurd (omega (arith, less));
  others = λ k none. refl;
}

module _ {V D U F : Type 0} {marks : U → Bool} {old now : Contents V D U F} {first i edge : ℕ}
    (freeing : IsFreeing marks old first now i edge) where
  module _ {new : Contents V D U F} {change : U → U}
      (written : HasEdgeData change now new (edge / 2)) where
    abbrev x : U
    x = change written.value

    data_are : new.undirected ≡ set now.undirected (edge / 2) x
    data_are = ap (λ (c : Contents V D U F). c.undirected) written.whole

    contents_are : new ≡ record old { undirected = new.undirected }
    contents_are = written.whole ∙ ap (λ (c : Contents V D U F).
        record c { undirected = set now.undirected (edge / 2) x }) freeing.contents
        ∙ ap (λ (us : List U). record old { undirected = us }) (sym data_are)

    unmarked_here : ((d : U) → marks (change d) ≡ false) → IsUnmarked marks new (edge / 2)
    unmarked_here free d is =
        let inside = slice_get_within now.undirected (edge / 2) written.value written.was in
        let read = sym (get_or_from_slice_get (set now.undirected (edge / 2) x) (edge / 2) d x
        (subst (λ (us : List U). slice_get us (edge / 2) ≡ Some d) data_are is))
        ∙ get_or-set_same now.undirected (edge / 2) x x inside in
        ap marks read ∙ free written.value

    unmarked_still : (k : ℕ) → k ≢ edge / 2 → IsUnmarked marks now k → IsUnmarked marks new k
    unmarked_still k off was d is =
        was d (sym (slice_get-set_other now.undirected (edge / 2) k x off)
        ∙ subst (λ (us : List U). slice_get us k ≡ Some d) data_are is)

    -- the data of the directed edges stay
    same_directed : new.directed ≡ old.directed
    same_directed = ap (λ (c : Contents V D U F). c.directed) contents_are

    -- so each edge does
    pub still_there : edge < length new.directed
    still_there = subst (λ (ds : List D). edge < length ds) (sym same_directed) freeing.within

    -- with the mark of the edge gone, the edge that it turns to is the next one
    pub freeing_goes_on : ((d : U) → marks (change d) ≡ false) → {after : ℕ}
        → after < length new.directed → after ≡ turn new.mesh edge
        → IsFreeing marks old first new (i + 1) after
    freeing_goes_on free {after} within is = record {
      contents = contents_are;
      count = ap length data_are ∙ length-set now.undirected (edge / 2) x ∙ freeing.count;
      within = subst (λ (ds : List D). after < length ds) same_directed within;
      here = is ∙ ap (λ (c : Contents V D U F). turn c.mesh edge) contents_are
          ∙ ap (turn old.mesh) freeing.here
          ∙ ap (spoke old.mesh first) (sym (add-one i));
      done = λ j less. elim (cases_eq (spoke old.mesh first j / 2) (edge / 2)) [
        | inl e ↦ subst (IsUnmarked marks new) (sym e) (unmarked_here free)
        | inr n ↦ unmarked_still (spoke old.mesh first j / 2) n (freeing.done j (before j less n))
      ];
      others = λ k none. ap (λ (us : List U). slice_get us k) data_are
          ∙ slice_get-set_other now.undirected (edge / 2) k x
          (λ e. none i (ap (λ (h : ℕ). h / 2) (sym freeing.here) ∙ sym e)) ∙ freeing.others k none;
    }
      where
        before : (j : ℕ) → j < i + 1 → spoke old.mesh first j / 2 ≢ edge / 2 → j < i
        before j less n = elim (cases_eq j i) [
          | inl e ↦ absurd (n (ap (λ (k : ℕ). spoke old.mesh first k / 2) e
              ∙ ap (λ (h : ℕ). h / 2) (sym freeing.here)))
          | inr m ↦ omega (arith, less, m)
        ]

  -- all edges of the vertex are free
  module _ (whole : IsMeshWithData old) {v count : ℕ} (round : IsRound old.mesh v first count)
      (all : count ≤ i) where
    double : (k : ℕ) → k < length old.undirected → 2 * k < length old.mesh.half_edges
    double k within = let f = whole.fits.undirected_fit in omega (arith, f, within)

    by_spoke : (h k : ℕ) → h < length old.mesh.half_edges → origin old.mesh h ≡ v → h / 2 ≡ k
        → IsUnmarked marks now k
    by_spoke h k within at half =
        let s = round.all h within at in
        subst (IsUnmarked marks now) (ap (λ (g : ℕ). g / 2) (sym s.2) ∙ half)
        (freeing.done s.0 (let less = s.1 in omega (arith, less, all)))

    not_round : (k : ℕ) → origin old.mesh (2 * k) ≢ v → origin old.mesh (rev (2 * k)) ≢ v → (j : ℕ)
        → spoke old.mesh first j / 2 ≢ k
    not_round k starts ends j half = elim (even_or_odd (spoke old.mesh first j)) as (λ _. ⊥) [
      | inl q ↦
          starts (ap (origin old.mesh) (sym (q.0 ∙ ap (λ (n : ℕ). 2 * n) half)) ∙ round.starts j)
      | inr q ↦
          ends (ap (origin old.mesh) (rev_of_even k ∙ sym (q.0 ∙ ap (λ (n : ℕ). 2 * n + 1) half))
          ∙ round.starts j)
    ]

    -- when the count of the round is reached, no edge at v has the mark
    pub freeing_ends : FreesEdgesAt marks old now v
    freeing_ends = record {
      contents = freeing.contents;
      count = freeing.count;
      starting = λ k within at. by_spoke (2 * k) k (double k within) at (half_of_even k);
      ending = λ k within at. by_spoke (rev (2 * k)) k
          (rev_within (2 * k) (length old.mesh.half_edges) whole.valid.sound.even (double k within))
          at
          (ap (λ (h : ℕ). h / 2) (rev_of_even k) ∙ half_of_odd k);
      others = λ k starts ends. freeing.others k (not_round k starts ends);
    }

-- a vertex without edges has none to free
module _ {V D U F : Type 0} (marks : U → Bool) (old : Contents V D U F) (v : ℕ)
    (whole : IsMeshWithData old) (none : out_edge old.mesh v ≡ None) where
  not_at : (h : ℕ) → h < length old.mesh.half_edges → origin old.mesh h ≡ v → ⊥
  not_at = starts_none old.mesh v whole.valid.sound none

  -- no edge at the vertex has the mark
  pub none_to_free : FreesEdgesAt marks old old v
  none_to_free = record {
    contents = refl;
    count = refl;
    starting = λ k within at. absurd (not_at (2 * k) (double k within) at);
    ending = λ k within at. absurd (not_at (rev (2 * k))
        (rev_within (2 * k) (length old.mesh.half_edges) whole.valid.sound.even (double k within))
        at);
    others = λ k starts ends. refl;
  }
    where
      double : (k : ℕ) → k < length old.undirected → 2 * k < length old.mesh.half_edges
      double k within = let f = whole.fits.undirected_fit in omega (arith, f, within)

-- where there are no constraints there are none to free
module _ {V D U F : Type 0} {constraints : List U → List ℕ} (marks : U → Bool)
    (old : Contents V D U F) (marked : (ds : List U) → constraints ds ≡ marked_edges marks ds)
    (none : constraint_pairs constraints old.mesh old.undirected ≡ []) where
  unmarked : (k : ℕ) → IsUnmarked marks old k
  unmarked k d is = go (marks d) refl
    where
      go : (b : Bool) → marks d ≡ b → marks d ≡ false
      go false e = e
      go true e = absurd (Contains-none (pair_at old.mesh k)
          (subst (λ (ps : List (ℕ × ℕ)). Contains ps (pair_at old.mesh k)) none
          (contains_map (pair_at old.mesh) (constraints old.undirected) k
          (is_constraint_edge marks constraints marked old.undirected k d is e))))

  -- no edge at the vertex has the mark
  pub free_already : {v : ℕ} → FreesEdgesAt marks old old v
  free_already = record {
    contents = refl;
    count = refl;
    starting = λ k within at. unmarked k;
    ending = λ k within at. unmarked k;
    others = λ k starts ends. refl;
  }
