-- Whether a segment meets a constraint, by the first conflict of its walk.
-- Lemmas: crosses_one, crosses_none, first_decides.
use Rattle.std.proofs.Common.{◌≡◌, ◌≢◌, ◌⊎◌, ◌*◌, ◌/◌, ◌<◌, ◌↔◌, [], ◌∷◌, ◌++◌}
use Rattle.std.proofs.Common.{ℕ, Bool, IsTrue, List, length, map}
use Rattle.std.proofs.Common.{Option, Some, None, is_some, sym, ap, subst, inl, inr, arith}
use Rattle.std.specs.Prelude.{ℤ, Contains}
use Rattle.std.proofs.lemmas.List.Elements.{Contains-append_right}
use Rattle.plane.specs.{across, along, at_vertex, IsEdge, IsLineList, IsListAt, IsSame, Item, Joins}
use Rattle.plane.specs.{Meets, Point, Triangulation, whole}
use Rattle.half_edge_links.specs.{Mesh, origin, rev}
use Rattle.half_edge_dcel.specs.{Contents, DirectedEdgeHandle}
use Rattle.delaunay_legalization.specs.{constraints_by, drawn, marked_edges, pairs_at, point_at}
use Rattle.{delaunay_legalization.specs.State.State, plane_theorems.proofs.Contains-head}
use Rattle.delaunay_legalization.proofs.{both_ways, fixed_within, IsListedEdge, joins_directed}
use Rattle.{delaunay_legalization.proofs.listed_edge, delaunay_legalization.specs.triangulation_of}
use Rattle.delaunay_location.specs.{GivesConflict, HasNoConflict, IntersectsConstraint, IsConflict}
use Rattle.delaunay_location.specs.{IsReady, LineIntersectionIterator, WalksLine}
use Rattle.{delaunay_location.proofs.EitherWay.crossed_either_way, plane.proofs.same-refl}
use Rattle.delaunay_location.proofs.MeshSteps.{ends_apart, in_mesh, joined, not_same}

-- at one point no edge is crossed
none_across : (t : Triangulation) (p : Point) (passed others : List Item) (a b : ℕ) →
    IsListAt t (whole p) (passed ++ across a b ∷ others) → ⊥
none_across t p [] [] a b x = x
none_across t p [] (k ∷ others) a b x = x
none_across t p (at_vertex v ∷ []) others a b x = x
none_across t p (across i j ∷ []) others a b x = x
none_across t p (along i j ∷ []) others a b x = x
none_across t p (at_vertex v ∷ k ∷ passed) others a b x = x
none_across t p (across i j ∷ k ∷ passed) others a b x = x
none_across t p (along i j ∷ k ∷ passed) others a b x = x

below : (h n count : ℕ) → h / 2 < n → 2 * n ≡ count → h < count
below h n count less e = omega (arith, less, e)

module _ {V D U F P S : Type 0} (at : V → Point) (number : S → ℤ) (IsSite IsCovered : P → Point
    → Type 0) (marks : U → Bool) (constraints : List U → List ℕ) (marked : (ds : List U)
    → constraints ds ≡ marked_edges marks ds) (it : LineIntersectionIterator V D U F P S)
    (ready : IsReady at number IsSite IsCovered it) where
  abbrev c : Contents V D U F
  c = it.dcel.now

  abbrev m : Mesh
  m = c.mesh

  abbrev t : Triangulation
  t = drawn (map at c.vertices) m

  abbrev ks : List ℕ
  ks = constraints c.undirected

  module _ (p q : Point) (items : List Item) (list : IsLineList t (whole p) (whole q) items) where
    conflict_is : (passed others : List Item) (h : ℕ)
        → items ≡ passed ++ across (origin m h) (origin m (rev h)) ∷ others → Contains ks (h / 2)
        → IntersectsConstraint t (pairs_at m ks) p q
    conflict_is passed others h all listed = record {
      apart = apart;
      from = origin m h;
      to = origin m (rev h);
      constraint = joins_directed m ks h listed;
      met = (list.met (not_same p q apart) (across (origin m h) (origin m (rev h))) here).1;
    }
      where
        apart : p ≢ q
        apart e = none_across t p passed others (origin m h) (origin m (rev h))
            (subst (IsListAt t (whole p)) all (list.equal_ends
            (subst (λ (z : Point). IsSame (whole p) (whole z)) e (same-refl (whole p)))))

        here : Contains items (across (origin m h) (origin m (rev h)))
        here = subst
            (λ (xs : List Item). Contains xs (across (origin m h) (origin m (rev h)))) (sym all)
            (Contains-append_right passed (across (origin m h) (origin m (rev h)) ∷ others)
            (across (origin m h) (origin m (rev h)))
            (Contains-head (across (origin m h) (origin m (rev h)))
            others))

    -- an edge of a constraint, in this direction or the other
    edge_in : (h : ℕ) → Contains ks (h / 2) → h < length c.directed
    edge_in h listed = subst (λ (n : ℕ). h < n) (sym ready.over.embedding.kept.fits.directed_fit)
        (below h (length c.undirected) (length m.half_edges)
        (fixed_within marks constraints marked c.undirected (h / 2) listed)
        ready.over.embedding.kept.fits.undirected_fit)

    is_conflict : (i j h : ℕ) → IsListedEdge m ks i j h → IsConflict constraints c (across i j)
    is_conflict i j h e =
        (h, edge_in h e.listed, (λ k. across (sym e.start k) (sym e.end k)), e.listed)

    none_is : HasNoConflict constraints c items → ¬ IntersectsConstraint t (pairs_at m ks) p q
    none_is none x = elim ways as (λ _. ⊥) [
      | inl met ↦
          none (across x.from x.to) (list.complete (not_same p q x.apart) (across x.from x.to) met)
          (is_conflict x.from x.to there.0 there.1)
      | inr met ↦
          none (across x.to x.from) (list.complete (not_same p q x.apart) (across x.to x.from) met)
          (is_conflict x.to x.from back.0 back.1)
    ]
      where
        there : (h : ℕ) × IsListedEdge m ks x.from x.to h
        there = listed_edge m ks x.from x.to x.constraint

        flipped : Joins (pairs_at m ks) x.from x.to → Joins (pairs_at m ks) x.to x.from
        flipped (inl y) = inr y
        flipped (inr y) = inl y

        back : (h : ℕ) × IsListedEdge m ks x.to x.from h
        back = listed_edge m ks x.to x.from (flipped x.constraint)

        h_in : there.0 < length c.directed
        h_in = edge_in there.0 there.1.listed

        edge : IsEdge t x.from x.to
        edge = subst (λ (y : ℕ × ℕ). IsEdge t y.0 y.1) (λ k. (there.1.start k, there.1.end k))
            (joined ready.over.embedding there.0 (in_mesh ready.over.embedding there.0 h_in))

        place_at : ℕ → Point
        place_at k = point_at (map at c.vertices) k

        two : place_at x.from ≢ place_at x.to
        two = ends_apart ready.over.embedding there.0 h_in (place_at x.from) (place_at x.to)
            (ap place_at (sym there.1.start)) (ap place_at (sym there.1.end))

        ways : Meets t (whole p) (whole q) (across x.from x.to)
            ⊎ Meets t (whole p) (whole q) (across x.to x.from)
        ways = crossed_either_way t (whole p) (whole q) (not_same p q x.apart) x.from x.to edge
            (not_same (place_at x.from) (place_at x.to) two) x.met

  module _ (s : State V D U F) (p q : Point) (line : WalksLine at number s p q it)
      (after : LineIntersectionIterator V D U F P S) where
    list_here : IsLineList t (whole p) (whole q) line.items
    list_here = subst
        (λ (z : State V D U F). IsLineList (triangulation_of at z) (whole p) (whole q) line.items)
        (sym line.state) line.line_list

    abbrev Intersects : State V D U F → Type 0
    Intersects z = IntersectsConstraint (triangulation_of at z) (constraints_by constraints z) p q

    -- where a conflict was found, the segment intersects a constraint
    pub crosses_one : (e : DirectedEdgeHandle V D U F)
        → GivesConflict at number constraints it (Some e) after → Intersects s
    crosses_one e gives =
        let f = (gives.gives line.items line.are_left).1 in
        subst Intersects line.state
        (conflict_is p q line.items list_here f.passed f.others e.index f.all f.constraint)

    -- where none was found, it intersects none
    pub crosses_none : GivesConflict at number constraints it None after → ¬ Intersects s
    crosses_none gives x =
        none_is p q line.items list_here (gives.gives line.items line.are_left).0
        (subst Intersects (sym line.state) x)

    -- so whether one was found tells whether it does
    pub first_decides : (r : Option (DirectedEdgeHandle V D U F)) (b : Bool) → b ≡ is_some r →
        GivesConflict at number constraints it r after → IsTrue b ↔ Intersects s
    first_decides None b is gives =
        ((λ yes. absurd (both_ways b yes is)), (λ x. absurd (crosses_none gives x)))
    first_decides (Some e) b is gives = ((λ _. crosses_one e gives), (λ _. is))
