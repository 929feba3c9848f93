-- How many edges are constraints, which vertices they join, and other data for which none is.
-- Lemmas: few_marks, count_of_fixed, joined_by, joining_edge, same_edge, fixed_if_joined, as_many,
-- none_after, other_data, legal_after.
use Rattle.std.proofs.Common.{◌≡◌, ◌*◌, ◌<◌, ◌≤◌, [], ◌∷◌}
use Rattle.std.proofs.Common.{ℕ, zero, suc, Bool, true, false, List, length, map}
use Rattle.std.proofs.Common.{refl, sym, ap, ◌∙◌, subst, arith, inl, inr}
use Rattle.std.specs.Prelude.{Contains, if◌then◌else◌}
use Rattle.std.specs.List.{AllZip}
use Rattle.std.proofs.lemmas.List.{length-map}
use Rattle.plane.specs.{IsLocallyDelaunay, IsSamePair, Joins, Point}
use Rattle.half_edge_links.specs.{Mesh, origin, rev}
use Rattle.half_edge_links.proofs.{rev-rev, rev_within}
use Rattle.{half_edge_dcel.specs.Contents, half_edge_dcel.specs.Mapped.IsMapped}
use Rattle.delaunay_legalization.specs.{constraint_pairs, constraints_by, drawn, GoSameDirection}
use Rattle.delaunay_legalization.specs.{IsDelaunayTriangulation, IsTriangulated, marked_edges}
use Rattle.delaunay_legalization.specs.{marked_from, pair_at, State.State, state_of}
use Rattle.delaunay_legalization.proofs.{contains_map, contains_map_from, fixed_within, own_indexes}
use Rattle.{delaunay_edit.specs.HasOtherEdgeData, delaunay_legalization.proofs.rev_of_even}

-- ---- how many there are
abbrev add_mark : Bool → ℕ → ℕ
add_mark true n = suc n
add_mark false n = n

-- among the first k of the data
abbrev marks_before : {U : Type 0} → (U → Bool) → List U → ℕ → ℕ
marks_before marks [] k = 0
marks_before marks (d ∷ ds) zero = 0
marks_before marks (d ∷ ds) (suc k) = add_mark (marks d) (marks_before marks ds k)

module _ {U : Type 0} (marks : U → Bool) where
  one_more : (b : Bool) (first : ℕ) (ks : List ℕ) (n : ℕ) → n ≡ length ks →
      add_mark b n ≡ length (if b then first ∷ ks else ks)
  one_more true first ks n e = ap suc e
  one_more false first ks n e = e

  all_marks : (first : ℕ) (ds : List U) (k : ℕ) → length ds ≤ k →
      marks_before marks ds k ≡ length (marked_from marks first ds)
  all_marks first [] k h = refl
  all_marks first (d ∷ ds) zero h = absurd (omega (arith, h))
  all_marks first (d ∷ ds) (suc k) h = one_more (marks d) first (marked_from marks (suc first) ds)
      (marks_before marks ds k) (all_marks (suc first) ds k (omega (arith, h)))

  -- where k edges have at most k marks, one edge more makes it at most one mark more
  few : (b : Bool) (n k : ℕ) → n ≤ k → add_mark b n ≤ suc k
  few true n k h = omega (arith, h)
  few false n k h = omega (arith, h)

  -- among the first k edges at most k have the mark
  pub few_marks : (ds : List U) (k : ℕ) → marks_before marks ds k ≤ k
  few_marks [] k = omega arith
  few_marks (d ∷ ds) zero = omega arith
  few_marks (d ∷ ds) (suc k) = few (marks d) (marks_before marks ds k) k (few_marks ds k)

  module _ (constraints : List U → List ℕ) (marked : (ds : List U)
      → constraints ds ≡ marked_edges marks ds) (m : Mesh) (ds : List U) where
    -- among all edges as many have the mark as there are pairs of constraints
    pub count_of_fixed : (k : ℕ) → length ds ≤ k
        → marks_before marks ds k ≡ length (constraint_pairs constraints m ds)
    count_of_fixed k h = all_marks 0 ds k h ∙ ap (λ (ks : List ℕ). length ks) (sym (marked ds))
        ∙ sym (length-map (constraints ds) (pair_at m))

    -- ---- which vertices they join
    -- the ends of an edge that is a constraint, in either order, are joined by one
    pub joined_by : (a b k : ℕ) → Contains (constraints ds) k
        → IsSamePair a b (origin m (2 * k)) (origin m (rev (2 * k)))
        → Joins (constraint_pairs constraints m ds) a b
    joined_by a b k c (inl s) =
        inl (subst (λ (p : ℕ × ℕ). Contains (constraint_pairs constraints m ds) p)
        (λ i. (sym s.0 i, sym s.1 i)) (contains_map (pair_at m) (constraints ds) k c))
    joined_by a b k c (inr s) =
        inr (subst (λ (p : ℕ × ℕ). Contains (constraint_pairs constraints m ds) p)
        (λ i. (sym s.1 i, sym s.0 i)) (contains_map (pair_at m) (constraints ds) k c))

    -- two vertices that a constraint joins are the ends of an edge that is one
    pub joining_edge : (a b : ℕ) → Joins (constraint_pairs constraints m ds) a b →
        (k : ℕ) × Contains (constraints ds) k × (k < length ds) ×
        IsSamePair a b (origin m (2 * k)) (origin m (rev (2 * k)))
    joining_edge a b (inl h) = let r = contains_map_from (pair_at m) (constraints ds) (a, b) h in (
      r.0,
      r.1,
      fixed_within marks constraints marked ds r.0 r.1,
      inl (ap (λ (p : ℕ × ℕ). p.0) (sym r.2), ap (λ (p : ℕ × ℕ). p.1) (sym r.2)),
    )
    joining_edge a b (inr h) = let r = contains_map_from (pair_at m) (constraints ds) (b, a) h in (
      r.0,
      r.1,
      fixed_within marks constraints marked ds r.0 r.1,
      inr (ap (λ (p : ℕ × ℕ). p.1) (sym r.2), ap (λ (p : ℕ × ℕ). p.0) (sym r.2)),
    )

-- an edge whose ends a constraint joins is that one
module _ {V D U F : Type 0} (place : V → Point) (marks : U → Bool) (constraints : List U → List ℕ)
    (marked : (ds : List U) → constraints ds ≡ marked_edges marks ds) (s : State V D U F)
    (kept : IsTriangulated place s) where
  -- two undirected edges with the same ends are one
  pub same_edge : (k l : ℕ) → k < length s.undirected → l < length s.undirected →
      IsSamePair (origin s.mesh (2 * k)) (origin s.mesh (rev (2 * k))) (origin s.mesh (2 * l))
      (origin s.mesh (rev (2 * l))) → l ≡ k
  same_edge k l v w (inl e) =
      let r = indexes (2 * k) (2 * l) (double k v) (double l w) (sym e.0, sym e.1) in
      omega (arith, r)
    where
      double : (j : ℕ) → j < length s.undirected → 2 * j < length s.mesh.half_edges
      double j h = let f = kept.fits.undirected_fit in omega (arith, f, h)

      indexes : (g h : ℕ) → g < length s.mesh.half_edges → h < length s.mesh.half_edges
          → GoSameDirection s.mesh g s.mesh h → h ≡ g
      indexes = (own_indexes (map place s.vertices) s.mesh kept.valid kept.shape).edges
  same_edge k l v w (inr e) =
      let r = indexes (2 * k) (rev (2 * l)) (double k v)
      (rev_within (2 * l) (length s.mesh.half_edges) kept.valid.sound.even (double l w))
      (sym e.0, ap (origin s.mesh) (rev-rev (2 * l)) ∙ sym e.1) in
      odd k l r
    where
      double : (j : ℕ) → j < length s.undirected → 2 * j < length s.mesh.half_edges
      double j h = let f = kept.fits.undirected_fit in omega (arith, f, h)

      indexes : (g h : ℕ) → g < length s.mesh.half_edges → h < length s.mesh.half_edges
          → GoSameDirection s.mesh g s.mesh h → h ≡ g
      indexes = (own_indexes (map place s.vertices) s.mesh kept.valid kept.shape).edges

      odd : (k l : ℕ) → rev (2 * l) ≡ 2 * k → l ≡ k
      odd k l e = let f = rev_of_even l in omega (arith, e, f)

  -- an edge whose ends a constraint joins is a constraint
  pub fixed_if_joined : (k : ℕ) → k < length s.undirected →
      Joins (constraints_by constraints s) (origin s.mesh (2 * k)) (origin s.mesh (rev (2 * k))) →
      Contains (constraints s.undirected) k
  fixed_if_joined k w j =
      let r = joining_edge marks constraints marked s.mesh s.undirected (origin s.mesh (2 * k))
      (origin s.mesh (rev (2 * k))) j in
      subst (λ (l : ℕ). Contains (constraints s.undirected) l) (same_edge k r.0 w r.2 r.3) r.1

-- ---- other data
module _ {U T : Type 0} (R : U → T → Type 0) where
  -- lists whose items are related one by one are equally long
  pub as_many : (us : List U) (ts : List T) → AllZip R us ts → length us ≡ length ts
  as_many [] [] h = refl
  as_many [] (t ∷ ts) h = absurd h
  as_many (u ∷ us) [] h = absurd h
  as_many (u ∷ us) (t ∷ ts) h = ap suc (as_many us ts h.1)

  module _ (marks : T → Bool) (free : (u : U) (t : T) → R u t → marks t ≡ false) where
    none_from : (first : ℕ) (us : List U) (ts : List T) → AllZip R us ts
        → marked_from marks first ts ≡ []
    none_from first [] [] h = refl
    none_from first [] (t ∷ ts) h = absurd h
    none_from first (u ∷ us) [] h = absurd h
    none_from first (u ∷ us) (t ∷ ts) h =
        ap (λ (b : Bool). if b then first
        ∷ marked_from marks (suc first) ts else marked_from marks (suc first) ts)
        (free u t h.0) ∙ none_from (suc first) us ts h.1

-- without constraints before and after, the circle test holds as before
module _ {V D U T F : Type 0} (place : V → Point) (R : U → T → Type 0) (constraints : List U
    → List ℕ) (marks : T → Bool) (new_fixed : List T → List ℕ) (marked : (ts : List T)
    → new_fixed ts ≡ marked_edges marks ts) (free : (u : U) (t : T) → R u t → marks t ≡ false)
    (old : Contents V D U F) (new : Contents V D T F) (mapped : IsMapped R old new) where
  -- afterwards there are no constraints
  pub none_after : constraints_by new_fixed (state_of new) ≡ []
  none_after = ap (λ (ks : List ℕ). map (pair_at new.mesh) ks)
      (marked new.undirected ∙ none_from R marks free 0 old.undirected new.undirected mapped.each)

  -- the data of the edges are as R says, and all else is as it was
  pub other_data : HasOtherEdgeData R (state_of old) (state_of new)
  other_data = record { each = mapped.each; rest = ap state_of mapped.rest }

  -- a Delaunay triangulation without constraints is one afterwards
  pub legal_after : constraints_by constraints (state_of old) ≡ []
      → IsDelaunayTriangulation place constraints (state_of old)
      → IsDelaunayTriangulation place new_fixed (state_of new)
  legal_after none legal = record {
    kept = kept_after;
    passing =
        subst (λ (cs : List (ℕ × ℕ)). IsLocallyDelaunay
        (drawn (map place new.vertices) new.mesh) cs) (sym none_after)
        (subst (λ (t : State V D T F). IsLocallyDelaunay (drawn (map place t.vertices) t.mesh) [])
        (sym (ap state_of mapped.rest))
        (subst (λ (cs : List (ℕ × ℕ)). IsLocallyDelaunay
        (drawn (map place old.vertices) old.mesh) cs) none
        legal.passing));
  }
    where
      count : length new.undirected ≡ length old.undirected
      count = sym (as_many R old.undirected new.undirected mapped.each)

      middle : IsTriangulated place (let s : State V D T F = record {
        vertices = old.vertices;
        mesh = old.mesh;
        directed = old.directed;
        undirected = new.undirected;
        outer = old.outer;
        faces = old.faces;
      } in s)
      middle = record {
        in_range = legal.kept.in_range;
        few_edges = rw count legal.kept.few_edges;
        few_faces = legal.kept.few_faces;
        valid = legal.kept.valid;
        fits = rw count legal.kept.fits;
        shape = legal.kept.shape;
      }

      kept_after : IsTriangulated place (state_of new)
      kept_after = subst (IsTriangulated place) (sym (ap state_of mapped.rest)) middle
