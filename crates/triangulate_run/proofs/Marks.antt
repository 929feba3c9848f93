-- How many constraints there are, an order of the ends apart.
-- Notions: contents_of; constraints_counted.
use Rattle.std.proofs.Common.{◌≡◌, ◌≤◌, ◌<◌, [], ◌∷◌}
use Rattle.std.proofs.Common.{ℕ, suc, Bool, true, false, List, length, get_or, cond, refl, sym}
use Rattle.std.proofs.Common.{subst, arith}
use Rattle.std.specs.Prelude.{ℤ, All, AllPairs}
use Rattle.std.proofs.lemmas.List.{get_or-map, length-map, get_or_default}
use Rattle.std.proofs.lemmas.List.Elements.{All-nil, All-cons}
use Rattle.std.proofs.lemmas.List.Kept.{AllPairs-cons}
use Rattle.{plane.specs.AreDifferent, plane.specs.EachPairOnce, triangulate_run.specs.position}
use Rattle.{half_edge_dcel.specs.Contents, triangulate_run.specs.Answer.AreSoMany}
use Rattle.delaunay_core.specs.{Point2}
use Rattle.delaunay_legalization.specs.{is_constraint, IsTriangulated, marked_from, pair_at}
use Rattle.delaunay_legalization.specs.{declared.cdt_edge.CdtEdge.CdtEdge, State.State}
use Rattle.delaunay_edit.specs.{constraint_edges, constraints_of}
use Rattle.{delaunay_edit.proofs.Releasing.one_edge, delaunay_legalization.proofs.fixed_within}

-- the indexes of marked data rise
module _ {U : Type 0} (marks : U → Bool) where
  marked_more : (P : List ℕ → Type 0) (b : Bool) (first : ℕ) (rest : List ℕ) → P (first ∷ rest)
      → P rest → P (cond b (first ∷ rest) rest)
  marked_more P true first rest with_it without = with_it
  marked_more P false first rest with_it without = without

  from_first : (low first : ℕ) (ds : List U) → low ≤ first
      → All (λ k. low ≤ k) (marked_from marks first ds)
  from_first low first [] le = All-nil (λ k. low ≤ k)
  from_first low first (d ∷ ds) le =
      let later = marked_from marks (suc first) ds in
      let rest = from_first low (suc first) ds (omega (arith, le)) in
      marked_more (All (λ k. low ≤ k)) (marks d) first later
      (All-cons (λ k. low ≤ k) first later le rest) rest

  rising : (first : ℕ) (ds : List U) → AllPairs (λ k l. k < l) (marked_from marks first ds)
  rising first [] = λ i j d before within. absurd (omega (arith, within))
  rising first (d ∷ ds) =
      let later = marked_from marks (suc first) ds in
      let rest = rising (suc first) ds in
      marked_more (AllPairs (λ k l. k < l)) (marks d) first later
      (AllPairs-cons (λ k l. k < l) first later
      (from_first (suc first) (suc first) ds (omega arith)) rest) rest

-- a mesh with the data of a state, and no room
abbrev pub contents_of : {D U F : Type 0} → State (Point2 ℤ) D U F → Contents (Point2 ℤ) D U F
contents_of s = record {
  mesh = s.mesh;
  vertices = s.vertices;
  directed = s.directed;
  undirected = s.undirected;
  outer = s.outer;
  faces = s.faces;
  room = record { vertices = 0; edges = 0; faces = 0 };
}

module _ {D U F : Type 0} (s : State (Point2 ℤ) D (CdtEdge U) F)
    (kept : IsTriangulated position s) where
  abbrev edges : List ℕ
  edges = constraint_edges s.undirected

  inside : (i : ℕ) → i < length edges → get_or edges i 0 < length s.undirected
  inside i within =
      fixed_within is_constraint constraint_edges (λ ds. refl) s.undirected (get_or edges i 0)
      (i, within, sym (get_or_default edges i 0 (get_or edges i 0) within))

  pair_is : (i : ℕ) (d : ℕ × ℕ) → i < length edges
      → get_or (constraints_of s) i d ≡ pair_at s.mesh (get_or edges i 0)
  pair_is i d within = get_or-map (pair_at s.mesh) edges i 0 d within

  -- no two constraints have the same ends
  once : EachPairOnce (constraints_of s)
  once i j d before within same =
      let j_in : j < length edges = omega (arith, within, length-map edges (pair_at s.mesh)) in
      let i_in : i < length edges = omega (arith, before, j_in) in
      let less = rising is_constraint 0 s.undirected i j 0 before j_in in
      let at_pairs = subst (λ (p : ℕ × ℕ). ¬ AreDifferent p (pair_at s.mesh (get_or edges j 0)))
      (pair_is i d i_in)
      (subst (λ (q : ℕ × ℕ). ¬ AreDifferent (get_or (constraints_of s) i d) q) (pair_is j d j_in)
      (λ differ. differ same)) in
      at_pairs
      (λ h. let e = one_edge position (contents_of s) kept (get_or edges j 0) (get_or edges i 0)
      (inside j j_in) (inside i i_in) h in omega (arith, less, e))

  -- the number of the pairs of constraints is that of the constraints
  pub constraints_counted : (n : ℕ) → n ≡ length (constraints_of s) → AreSoMany (constraints_of s) n
  constraints_counted n is =
      record {
        different = constraints_of s;
        same = λ i j. (λ h. h, λ h. h);
        once = once;
        number = is;
      }
