-- A constraint that is released, and what is left to test then.
-- Lemmas: same_pair_or_not, double, one_edge, released_kept, released_left, released_room,
-- released, added_left, constraints_added.
use Rattle.std.proofs.Common.{◌≡◌, ◌≢◌, ◌⊎◌, ◌↔◌, ◌*◌, ◌<◌, ◌≤◌, [], ◌∷◌, ◌∙◌}
use Rattle.std.proofs.Common.{ℕ, List, length, map, set, sym, ap, subst, inl, inr, arith}
use Rattle.std.specs.Prelude.{Bool, false, Contains}
use Rattle.std.proofs.lemmas.Bool.{cases_eq}
use Rattle.std.proofs.lemmas.List.{length-set}
use Rattle.plane.specs.{AreNeighboursOn, IsSamePair, Joins, Point, points_of}
use Rattle.plane.proofs.{same_joined}
use Rattle.half_edge_links.specs.{Mesh, origin, rev}
use Rattle.half_edge_links.proofs.{rev-rev, rev_within}
use Rattle.plane_theorems.proofs.{Contains-cases, Contains-head, Contains-none, once_none}
use Rattle.{half_edge_dcel.specs.Contents, plane_theorems.specs.AllPassBut}
use Rattle.delaunay_legalization.specs.{AreEdges, AreLeftToTest, constraint_pairs, constraints_by}
use Rattle.delaunay_legalization.specs.{faces_of, HasEdgeData, IsDelaunayTriangulation}
use Rattle.delaunay_legalization.specs.{IsTriangulated, KeepsIndexes, marked_edges, pairs_at}
use Rattle.delaunay_legalization.specs.{points_and_constraints_by, state_of}
use Rattle.delaunay_legalization.proofs.{fixed_within, once_after, own_indexes, rev_of_even}
use Rattle.delaunay_legalization.proofs.{MarkedPairs.unmarking_leaves, MeshLegal.joins_edge}
use Rattle.delaunay_edit.specs.{AddsConstraints, AddsPath, LeavesToTest, MarksSome, ReleasesEdge}

-- two pairs have the same ends, or not
pub same_pair_or_not : (a b u v : ℕ) → IsSamePair a b u v ⊎ (¬ IsSamePair a b u v)
same_pair_or_not a b u v = go (cases_eq a u) (cases_eq b v) (cases_eq a v) (cases_eq b u)
  where
    second : (a ≡ v) ⊎ (a ≢ v) → (b ≡ u) ⊎ (b ≢ u) → ¬ ((a ≡ u) × (b ≡ v))
        → IsSamePair a b u v ⊎ (¬ IsSamePair a b u v)
    second (inl e) (inl f) n = inl (inr (e, f))
    second (inl e) (inr f) n = inr (λ s. elim s as (λ _. ⊥) [ inl x ↦ n x | inr x ↦ f x.1 ])
    second (inr e) q n = inr (λ s. elim s as (λ _. ⊥) [ inl x ↦ n x | inr x ↦ e x.0 ])

    go : (a ≡ u) ⊎ (a ≢ u) → (b ≡ v) ⊎ (b ≢ v) → (a ≡ v) ⊎ (a ≢ v) → (b ≡ u) ⊎ (b ≢ u) →
        IsSamePair a b u v ⊎ (¬ IsSamePair a b u v)
    go (inl e) (inl f) q r = inl (inl (e, f))
    go (inl e) (inr f) q r = second q r (λ x. f x.1)
    go (inr e) f q r = second q r (λ x. e x.0)

-- an edge has the ends of no other
module _ {V D U F : Type 0} (at : V → Point) (c : Contents V D U F)
    (kept : IsTriangulated at (state_of c)) where
  indexes : KeepsIndexes c.mesh c.mesh
  indexes = own_indexes (map at c.vertices) c.mesh kept.valid kept.shape

  -- the first directed edge of an undirected one is in the mesh
  pub double : (j : ℕ) → j < length c.undirected → 2 * j < length c.mesh.half_edges
  double j h = let f = kept.fits.undirected_fit in omega (arith, f, h)

  -- two undirected edges with the same ends are one
  pub one_edge : (k l : ℕ) → k < length c.undirected → l < length c.undirected →
      IsSamePair (origin c.mesh (2 * l)) (origin c.mesh (rev (2 * l))) (origin c.mesh (2 * k))
      (origin c.mesh (rev (2 * k))) → l ≡ k
  one_edge k l v w (inl e) =
      let r = indexes.edges (2 * k) (2 * l) (double k v) (double l w) (e.0, e.1) in omega (arith, r)
  one_edge k l v w (inr e) =
      let r = indexes.edges (2 * k) (rev (2 * l)) (double k v)
      (rev_within (2 * l) (length c.mesh.half_edges) kept.valid.sound.even (double l w))
      (e.1, ap (origin c.mesh) (rev-rev (2 * l)) ∙ e.0) in
      let f = rev_of_even l in
      omega (arith, r, f)

-- the constraint on edge k was taken
module _ {V D U F : Type 0} {at : V → Point} (marks : U → Bool) {constraints : List U → List ℕ}
    (marked : (ds : List U) → constraints ds ≡ marked_edges marks ds) {old mid : Contents V D U F}
    {k : ℕ} (there : Contains (constraints old.undirected) k)
    (legal : IsDelaunayTriangulation at constraints (state_of old)) {change : U → U}
    (free : (d : U) → marks (change d) ≡ false) (written : HasEdgeData change old mid k) where
  -- the constraint is one of the undirected edges
  edge_there : k < length old.undirected
  edge_there = fixed_within marks constraints marked old.undirected k there

  -- the mesh stays
  same : mid.mesh ≡ old.mesh
  same = ap (λ (c : Contents V D U F). c.mesh) written.whole

  -- the vertices stay
  same_vertices : mid.vertices ≡ old.vertices
  same_vertices = ap (λ (c : Contents V D U F). c.vertices) written.whole

  -- a triangulation stays one
  pub released_kept : IsTriangulated at (state_of mid)
  released_kept = subst (λ (c : Contents V D U F). IsTriangulated at (state_of c))
      (sym written.whole) (record {
        in_range = legal.kept.in_range;
        few_edges = rw (length-set old.undirected k (change written.value)) legal.kept.few_edges;
        few_faces = legal.kept.few_faces;
        valid = legal.kept.valid;
        fits = rw (length-set old.undirected k (change written.value)) legal.kept.fits;
        shape = legal.kept.shape;
      })

  abbrev u : ℕ
  u = origin old.mesh (2 * k)

  abbrev v : ℕ
  v = origin old.mesh (rev (2 * k))

  now_is : constraint_pairs constraints mid.mesh mid.undirected
      ≡ constraint_pairs constraints old.mesh (set old.undirected k (change written.value))
  now_is = ap
      (λ (c : Contents V D U F). constraint_pairs constraints c.mesh c.undirected) written.whole

  leaves : (a b : ℕ) → Joins (constraint_pairs constraints mid.mesh mid.undirected) a b ↔
      (Joins (constraint_pairs constraints old.mesh old.undirected) a b × ¬ IsSamePair a b u v)
  leaves a b = subst (λ (ps : List (ℕ × ℕ)). Joins ps a b ↔
      (Joins (constraint_pairs constraints old.mesh old.undirected) a b
      × ¬ IsSamePair a b u v)) (sym now_is)
      (unmarking_leaves marks constraints marked old.undirected k written.value
      (change written.value) written.was
      old.mesh (free written.value)
      (λ l within. one_edge at old legal.kept k l edge_there within) a b)

  -- the pair of edge k joins its ends
  here : Joins (pairs_at old.mesh (k ∷ [])) u v
  here = joins_edge old.mesh (k ∷ []) k (Contains-head k [])

  was_passing : AllPassBut (map at old.vertices) (faces_of old.mesh)
      (constraint_pairs constraints mid.mesh mid.undirected) (pairs_at old.mesh (k ∷ []))
  was_passing i j x l f g unmarked untested =
      legal.passing i j x l f g (λ h. elim (same_pair_or_not i j u v) as (λ _. ⊥) [
        | inl s ↦ untested (same_joined (pairs_at old.mesh (k ∷ [])) i j u v s here)
        | inr n ↦ unmarked ((leaves i j).1 (h, n))
      ])

  -- only this edge is left to test
  released_passing : AllPassBut (map at mid.vertices) (faces_of mid.mesh)
      (constraint_pairs constraints mid.mesh mid.undirected) (pairs_at mid.mesh (k ∷ []))
  released_passing = subst (λ (x : List V × Mesh). AllPassBut (map at x.0) (faces_of x.1)
      (constraint_pairs constraints mid.mesh mid.undirected) (pairs_at x.1 (k ∷ [])))
      (λ o. (sym same_vertices o, sym same o)) was_passing

  -- and it is an edge of the mesh
  listed : AreEdges mid.mesh (k ∷ [])
  listed = subst (λ (m : Mesh). AreEdges m (k ∷ [])) (sym same) (record {
    within = λ l c. elim (Contains-cases k [] l c) [
      | inl e ↦ subst (λ (x : ℕ). 2 * x < length old.mesh.half_edges) e
          (double at old legal.kept k edge_there)
      | inr n ↦ absurd (Contains-none l n)
    ];
    once = once_after [] k once_none (λ c. Contains-none k c);
  })

  pub released_left : AreLeftToTest at constraints mid (k ∷ [])
  released_left = record { edges = listed; passing = released_passing }

  -- there is room for it where there is for three edges for each vertex
  pub released_room : {room : ℕ} → 3 * length old.vertices ≤ room → k < room
  released_room fits =
      let within = edge_there in let few = legal.kept.few_edges in omega (arith, within, few, fits)

  -- after flips that make it Delaunay again, the constraint is released
  pub released : {new : Contents V D U F} → new ≡ record mid { mesh = new.mesh }
      → KeepsIndexes mid.mesh new.mesh →
      constraint_pairs constraints new.mesh new.undirected
      ≡ constraint_pairs constraints mid.mesh mid.undirected →
      IsDelaunayTriangulation at constraints (state_of new)
      → ReleasesEdge at change constraints old new k
  released {new = new} contents indexes constraints_stay now_legal = record {
    value = written.value;
    was = written.was;
    contents = contents
        ∙ ap (λ (c : Contents V D U F). record c { mesh = new.mesh }) written.whole;
    indexes = subst (λ (m : Mesh). KeepsIndexes m new.mesh) same indexes;
    plain = record {
      there = joins_edge old.mesh (constraints old.undirected) k there;
      vertices = ap (λ (c : Contents V D U F). c.vertices) contents ∙ same_vertices;
      constraints = λ a b. subst (λ (ps : List (ℕ × ℕ)). Joins ps a b ↔
          (Joins (constraint_pairs constraints old.mesh old.undirected) a b
          × ¬ IsSamePair a b u v))
          (sym constraints_stay) (leaves a b);
    };
    legal = now_legal;
  }

-- ---- after a path was added
module _ {V D U F : Type 0} {at : V → Point} {marks : U → Bool} {marked : U → U}
    {constraints : List U → List ℕ} {old mid : Contents V D U F} {i j : ℕ}
    (adds : AddsPath at marks marked constraints old mid i j) where
  -- all passed but the constraints, and these are constraints still
  pub added_left : {was left : List ℕ} → LeavesToTest (map at old.vertices) old mid was left
      → IsDelaunayTriangulation at constraints (state_of old)
      → AreLeftToTest at constraints mid left
  added_left {left = left} leaves legal = record {
    edges = leaves.edges;
    passing = subst
        (λ (vs : List V). AllPassBut (map at vs) (faces_of mid.mesh)
        (constraint_pairs constraints mid.mesh mid.undirected) (pairs_at mid.mesh left))
        (sym adds.plain.vertices)
        (λ a b k l f g free untested. leaves.leaves
        (constraint_pairs constraints old.mesh old.undirected)
        (λ a b k l f g unmarked _. legal.passing a b k l f g unmarked) a b k l f g
        (λ x. free ((adds.plain.constraints a b).1 (inl x))) untested);
  }

  -- flips after it add its subconstraints to the constraints
  pub constraints_added : {new : Contents V D U F} → new ≡ record mid { mesh = new.mesh }
      → constraints_by constraints (state_of new) ≡ constraints_by constraints (state_of mid)
      → IsDelaunayTriangulation at constraints (state_of new)
      → AddsConstraints at marks marked constraints old new i j
  constraints_added {new = new} contents same legal = record {
    contents = contents
        ∙ ap (λ (c : Contents V D U F). record c { mesh = new.mesh }) adds.contents
        ∙ ap (λ (us : List U). record old { mesh = new.mesh; undirected = us })
        (sym (ap (λ (c : Contents V D U F). c.undirected) contents));
    marks_some = subst (λ (us : List U). MarksSome marks marked old.undirected us)
        (sym (ap (λ (c : Contents V D U F). c.undirected) contents)) adds.marks_some;
    plain = record {
      ends = adds.plain.ends;
      free = adds.plain.free;
      vertices = ap (λ (c : Contents V D U F). c.vertices) contents ∙ adds.plain.vertices;
      constraints = λ a b. subst (λ (ps : List (ℕ × ℕ)). Joins ps a b ↔
          (Joins (constraints_by constraints (state_of old)) a b ⊎
          AreNeighboursOn at
          (points_of at (points_and_constraints_by constraints (state_of old))) i j a b))
          (sym same)
          (adds.plain.constraints a b);
    };
    legal = legal;
  }
