-- What a segment meets first from outside a mesh.
-- Lemmas: better_found, found_better, found_within, along_weakened,
-- none_entered, hull_begins, twin_along, alone_outside, enters, nearest_is_first, none_is_first,
-- alone_elsewhere.
use Rattle.std.proofs.Common.{◌≡◌, ◌≢◌, ◌⊎◌, ◌<◌, ◌∙◌, [], ◌∷◌}
use Rattle.std.proofs.Common.{ℕ, List, length, map, Option, Some, None, sym, ap}
use Rattle.std.proofs.Common.{refl, subst, inl, inr, arith}
use Rattle.std.specs.Borrow.{Bor}
use Rattle.std.specs.Prelude.{IfSome, ℤ, ◌<ℤ◌}
use Rattle.std.proofs.lemmas.Int.{ints}
use Rattle.std.proofs.lemmas.Bool.{cases_eq}
use Rattle.std.proofs.lemmas.List.{length-map}
use Rattle.plane.specs.{across, gap, HasFace, IsNearer, IsOuter, IsSame, IsVertex, JoinsLine, left}
use Rattle.plane.specs.{Meets, OnSegment, place, Point, right, side, TilesHull, Triangulation}
use Rattle.plane.proofs.{less_with_ones, less_without_ones, on_of_within, same-refl}
use Rattle.half_edge_links.specs.{face, face_edge, Mesh, next, origin, prev, rev}
use Rattle.half_edge_links.proofs.{rev-rev, rev_within}
use Rattle.plane_theorems.specs.{IsLaid, Segments.LineLaws.ArePlacedOnce}
use Rattle.plane_theorems.proofs.{edge_flipped, equal_ends, first_on_line}
use Rattle.plane_theorems.proofs.Delaunay.Floods.FloodOnLine.{edge_beside}
use Rattle.plane_theorems.proofs.Segments.First.EdgeStarts.{crossing_on_line}
use Rattle.plane_theorems.proofs.Segments.First.OutlineStarts.{IsOnOutline, nearest_of_outline}
use Rattle.plane_theorems.proofs.Segments.First.OutlineStarts.{none_of_outline}
use Rattle.plane_theorems.proofs.Segments.Walking.Steps.{crossing_by_sides, first_item}
use Rattle.half_edge_dcel.specs.{Contents, GivesOuterLoop, hull_left}
use Rattle.half_edge_dcel.specs.declared.rounds.HullIterator.{HullIterator}
use Rattle.delaunay_legalization.specs.{drawn, IsEmbedding}
use Rattle.delaunay_legalization.proofs.{along_ends, along_next, indexes, IsGoingAlong, joins_edge}
use Rattle.delaunay_legalization.proofs.{line_has_none, none_or_some, one_outline}
use Rattle.delaunay_legalization.proofs.OutlineGiven.{along_begins}
use Rattle.delaunay_location.specs.{Edge, Locates, NoTriangulation, OnEdge, OnFace, OnVertex}
use Rattle.delaunay_location.specs.{OutsideOfConvexHull, PositionInTriangulation, StartsOutside}
use Rattle.delaunay_location.specs.{Starts.IsNoBetter, Starts.IsOnSegment, Vertex, Walk.Starts}
use Rattle.delaunay_location.specs.Starts.{IsBetter, IsBetterOf, IsCrossed, IsEntered, IsNearestOf}
use Rattle.delaunay_location.proofs.FirstItems.{alone_inside, nothing, nothing_met, same_ends}
use Rattle.delaunay_location.proofs.{FirstItems.starts_first, Located.without_triangulation}
use Rattle.delaunay_location.proofs.Located.{inside_that_face, outside_that_edge}
use Rattle.delaunay_location.proofs.MeshSteps.{bare, face_at, in_mesh, joined, laid, not_same}
use Rattle.{delaunay_location.proofs.MeshSteps.of_mesh, plane.specs.vertex, plane.specs.whole}

-- ---- the nearest of some vertices
through : (a b c : ℤ) → a <ℤ b → c <ℤ a → c <ℤ b
through a b c h k = omega (arith, ints)

itself : (a : ℤ) → a <ℤ a → ⊥
itself a h = omega (arith, ints)

module _ (points : List Point) (p q : Point) where
  -- vertex k is on the segment
  abbrev On : ℕ → Type 0
  On k = OnSegment (whole p) (whole q) (place points k)

  -- its squared distance from p
  abbrev d : ℕ → ℤ
  d k = gap (whole p) (place points k)

  abbrev Nearer : ℕ → ℕ → Type 0
  Nearer k v = IsNearer (whole p) (place points k) (place points v)

  nearer_of : (k v : ℕ) → Nearer k v → d k <ℤ d v
  nearer_of k v h = less_without_ones (d k) (d v) h.nearer

  -- a vertex that is better than the one before it is on the segment, and no other is better that
  -- was not before
  better_keeps : (r : Option ℕ) (v : ℕ) → IsBetter points p q v r → (k : ℕ)
      → IsNoBetter points p q r k → IsNoBetter points p q (Some v) k
  better_keeps None v better k before on h = before on
  better_keeps (Some o) v better k before on h = before on (record {
    nearer =
        less_with_ones (d k) (d o) (through (d v) (d o) (d k) better.1 (nearer_of k v h));
  })

  -- a vertex is no better than itself
  no_better_itself : (v : ℕ) → IsNoBetter points p q (Some v) v
  no_better_itself v on h = itself (d v) (nearer_of v v h)

  -- one that is not better is no better
  no_better_if : (r : Option ℕ) (v : ℕ) → ¬ IsBetter points p q v r → IsNoBetter points p q r v
  no_better_if None v worse = λ on. worse (on, tt)
  no_better_if (Some o) v worse = λ on h. worse (on, nearer_of v o h)

  -- either way what is kept is the better one
  pub better_found : (r : Option ℕ) (v : ℕ) → v < length points → IsBetter points p q v r
      → IsBetterOf points p q v r (Some v)
  better_found r v within better = record {
    found = (within, better.0);
    kept = better_keeps r v better;
    here = no_better_itself v;
  }

  pub found_better : (r : Option ℕ) (v : ℕ) → IsOnSegment points p q r → ¬ IsBetter points p q v r
      → IsBetterOf points p q v r r
  found_better r v found worse = record {
    found = found;
    kept = λ k before. before;
    here = no_better_if r v worse;
  }

-- what is found on a segment is a vertex
pub found_within : (points : List Point) (p q : Point) (n : ℕ) → length points ≡ n → (r : Option ℕ)
    → IsOnSegment points p q r → IfSome r (λ o. o < n)
found_within points p q n count None x = tt
found_within points p q n count (Some o) x = let less = x.0 in omega (arith, count, less)

-- a search along the outline that has seen edges with a property has seen them with a weaker one
pub along_weakened : {m : Mesh} {Seen Other : ℕ → Type 0} {rest : List ℕ}
    → ((h : ℕ) → Seen h → Other h) → IsGoingAlong m Seen rest → IsGoingAlong m Other rest
along_weakened weaker going = record {
  within = going.within;
  each = λ h o. elim (going.each h o) [ inl c ↦ inl c | inr s ↦ inr (weaker h s) ];
}

-- a segment enters by no edge where the search along the outline has seen none that it crosses
pub none_entered : {V D U F C P : Type 0} {at : V → Point} {IsSite : P → Point → Type 0}
    {c : Contents V D U F} {tests : P} (p q : Point) {given : List (Bor C × ℕ)}
    → IsEmbedding at IsSite c tests → IsGoingAlong c.mesh
    (λ (h : ℕ). ¬ IsCrossed (map at c.vertices) c.mesh p q (rev h)) (indexes given) → given ≡ []
    → (h : ℕ) → h < length c.directed → ¬ IsEntered (map at c.vertices) c.mesh p q h
none_entered {c = c} p q {given = given} embedding going none h within entered =
    along_ends c.mesh _ given going none (rev h) (
      rev_within h (length c.mesh.half_edges) embedding.kept.valid.sound.even
          (in_mesh embedding h within),
      entered.0,
    ) (rw (rev-rev h) entered.1)

-- the outer edges are left before the search along the outline begins
pub hull_begins : {V D U F P : Type 0} {at : V → Point} {IsSite : P → Point → Type 0}
    {d : Bor (Contents V D U F)} {tests : P} {Seen : ℕ → Type 0} {it items : HullIterator V D U F}
    → IsEmbedding at IsSite d.now tests → GivesOuterLoop d (hull_left items) → it ≡ items
    → IsGoingAlong d.now.mesh Seen (indexes (hull_left it))
hull_begins {d = d} {Seen = Seen} {items = items} embedding gives is =
    subst (λ i. IsGoingAlong d.now.mesh Seen (indexes (hull_left i))) (sym is)
    (along_begins d (hull_left items) Seen embedding.kept.valid
    (one_outline _ _ embedding.kept.valid embedding.kept.shape) gives)

-- where an edge is given along the outline, its other direction has the outer face on its right
pub twin_along : {V D U F C P : Type 0} {at : V → Point} {IsSite : P → Point → Type 0}
    {c : Contents V D U F} {tests : P} {Seen : ℕ → Type 0} {given others : List (Bor C × ℕ)}
    {x : Bor C × ℕ} {h : ℕ} → IsEmbedding at IsSite c tests
    → IsGoingAlong c.mesh Seen (indexes given) → given ≡ x ∷ others → h ≡ rev x.1
    → (h < length c.directed) × (face c.mesh (rev h) ≡ 0)
twin_along {c = c} {Seen = Seen} {given = given} {others = others} {x = x} embedding going gives is
    =
    let o = along_next c.mesh Seen given going x others gives in
    rw (is, rev-rev x.1) (
      of_mesh embedding (rev x.1) (rev_within x.1 _ embedding.kept.valid.sound.even o.0),
      o.1,
    )

-- ---- the first item
module _ {V D U F P : Type 0} {at : V → Point} {IsSite : P → Point → Type 0}
    {c : Contents V D U F} {tests : P} (embedding : IsEmbedding at IsSite c tests)
    {p : Point} (outside : StartsOutside (drawn (map at c.vertices) c.mesh) p) where
  abbrev m : Mesh
  m = c.mesh

  abbrev points : List Point
  points = map at c.vertices

  abbrev t : Triangulation
  t = drawn points m

  t_laid : IsLaid t
  t_laid = laid embedding

  -- from p to itself the walk meets nothing
  pub alone_outside : {q : Point} → p ≡ q → Starts at c p q None
  alone_outside {q = q} e = nothing embedding (elim t_laid [
    | inl tiles ↦ (let l = outside.left_of tiles in
        (equal_ends t (whole p) (whole q) (same_ends embedding e)).3 tiles
        l.0 l.1 l.2 l.3)
    | inr line ↦
        (equal_ends t (whole p) (whole q) (same_ends embedding e)).4 line.0
        outside.no_vertex (λ i j edge w. outside.no_edge i j edge
        (on_of_within (vertex t i) (vertex t j) (whole p) w))
  ])

  module _ {q : Point} (apart : p ≢ q) where
    ways_apart : ¬ IsSame (whole p) (whole q)
    ways_apart = not_same p q apart

    met_if : (h : ℕ) → h < length m.half_edges → IsCrossed points m p q h →
        Meets t (whole p) (whole q) (across (origin m h) (origin m (rev h)))
    met_if h w x = elim t_laid [
      | inl tiles ↦
          (crossing_by_sides t tiles (whole p) (whole q) ways_apart (origin m h) (origin m (rev h))
          (joined embedding h w)).1 (x.0.0, x.0.1, x.1.0, x.1.1)
      | inr l ↦ ((crossing_on_line t l.0 l.1 l.2).0 (whole p) (whole q) ways_apart (origin m h)
          (origin m (rev h))
          (joined embedding h w)).1 (x.0.0, x.0.1, x.1.0, x.1.1)
    ]

    crossed_if : (h : ℕ) → h < length m.half_edges
        → Meets t (whole p) (whole q) (across (origin m h) (origin m (rev h)))
        → IsCrossed points m p q h
    crossed_if h w x = elim t_laid [
      | inl tiles ↦ of_four
          ((crossing_by_sides t tiles (whole p) (whole q) ways_apart (origin m h) (origin m (rev h))
          (joined embedding h w)).0 x)
      | inr l ↦
          of_four (((crossing_on_line t l.0 l.1 l.2).0 (whole p) (whole q) ways_apart (origin m h)
          (origin m (rev h)) (joined embedding h w)).0 x)
    ]
      where
        of_four : (side (whole p) (whole q) (vertex t (origin m h)) ≡ left)
            × (side (whole p) (whole q) (vertex t (origin m (rev h))) ≡ right)
            × (side (vertex t (origin m h)) (vertex t (origin m (rev h))) (whole p) ≢ left)
            × (side (vertex t (origin m h)) (vertex t (origin m (rev h))) (whole q) ≢ right)
            → IsCrossed points m p q h
        of_four y = ((y.0, y.1), (y.2, y.3))

    -- an edge through which the segment enters is where the walk starts
    pub enters : (h : ℕ) → h < length c.directed → IsEntered points m p q h
        → Starts at c p q (Some (Edge h))
    enters h within x =
        starts_first embedding apart (Edge h) within (elim t_laid [
          | inl tiles ↦ (first_item t tiles (whole p) (whole q) ways_apart).3 (origin m (rev h))
              (origin m h) met outer
          | inr l ↦ ((first_on_line t l.0 l.1 l.2 (whole p) (whole q) ways_apart).2 (origin m h)
              (origin m (rev h)) met).0
        ])
      where
        w : h < length m.half_edges
        w = in_mesh embedding h within

        met : Meets t (whole p) (whole q) (across (origin m h) (origin m (rev h)))
        met = met_if h w x.1

        r_in : rev h < length m.half_edges
        r_in = rev_within h (length m.half_edges) embedding.kept.valid.sound.even w

        outer : IsOuter t (origin m (rev h)) (origin m h)
        outer = (
          edge_flipped t (origin m h) (origin m (rev h))
              (joined embedding h w),
          subst (λ (k : ℕ). ¬ HasFace t (origin m (rev h)) (origin m k)) (rev-rev h)
              (bare embedding (rev h) r_in x.0),
        )

    module _ (none : (h : ℕ) → h < length c.directed → ¬ IsEntered points m p q h) where
      no_outer_crossed : TilesHull t → (a b : ℕ) → IsOuter t a b
          → ¬ Meets t (whole p) (whole q) (across b a)
      no_outer_crossed tiles a b outer met =
          let h = joins_edge m embedding.kept.valid.sound b a met.0 in
          none h.0 (of_mesh embedding h.0 h.1) (
            twin_is_outer h.0 h.1 h.2 h.3 (none_or_some (face m (rev h.0))),
            crossed_if h.0 h.1 (subst (λ (x : ℕ × ℕ). Meets t (whole p) (whole q) (across x.0 x.1))
                (λ i. (sym h.2 i, sym h.3 i)) met),
          )
        where
          twin_is_outer : (h : ℕ) → h < length m.half_edges → origin m h ≡ b → origin m (rev h) ≡ a
              → (face m (rev h) ≡ 0) ⊎ (0 < face m (rev h)) → face m (rev h) ≡ 0
          twin_is_outer h w e f (inl o) = o
          twin_is_outer h w e f (inr inner) = absurd (outer.1
              (subst (λ (x : ℕ × ℕ). HasFace t x.0 x.1)
              (λ i. (f i, (ap (origin m) (rev-rev h) ∙ e) i)) (
                origin m (prev m (rev h)),
                face_at embedding (rev h)
                    (rev_within h (length m.half_edges) embedding.kept.valid.sound.even w) inner,
              )))

      no_crossed_on_line : JoinsLine t → (a b : ℕ) → ¬ Meets t (whole p) (whole q) (across a b)
      no_crossed_on_line line a b met =
          let h = joins_edge m embedding.kept.valid.sound a b met.0 in
          none h.0 (of_mesh embedding h.0 h.1) (
            twin_is_outer h.0 h.1 (none_or_some (face m (rev h.0))),
            crossed_if h.0 h.1 (subst (λ (x : ℕ × ℕ). Meets t (whole p) (whole q) (across x.0 x.1))
                (λ i. (sym h.2 i, sym h.3 i)) met),
          )
        where
          twin_is_outer : (h : ℕ) → h < length m.half_edges
              → (face m (rev h) ≡ 0) ⊎ (0 < face m (rev h)) → face m (rev h) ≡ 0
          twin_is_outer h w (inl o) = o
          twin_is_outer h w (inr inner) =
              absurd (line_has_none m (origin m (rev h)) (origin m (rev (rev h)))
              (origin m (prev m (rev h))) line.no_face
              (face_at embedding (rev h)
              (rev_within h (length m.half_edges) embedding.kept.valid.sound.even w) inner))

      outer_edge : (a b : ℕ) → IsOuter t a b → (h : ℕ) × (h < length m.half_edges)
          × (face m h ≡ 0) × (origin m h ≡ a) × (origin m (rev h) ≡ b)
      outer_edge a b outer =
          let h = joins_edge m embedding.kept.valid.sound a b outer.0 in
          (h.0, h.1, is_outer h.0 h.1 h.2 h.3 (none_or_some (face m h.0)), h.2, h.3)
        where
          is_outer : (h : ℕ) → h < length m.half_edges → origin m h ≡ a → origin m (rev h) ≡ b
              → (face m h ≡ 0) ⊎ (0 < face m h) → face m h ≡ 0
          is_outer h w e f (inl o) = o
          is_outer h w e f (inr inner) = absurd (outer.1
              (subst (λ (x : ℕ × ℕ). HasFace t x.0 x.1) (λ i. (e i, f i)) (
                origin m (prev m h),
                face_at embedding h w inner,
              )))

      -- an outer edge starts at each vertex of the outline
      outer_from : (w : ℕ) → IsOnOutline t w
          → (h : ℕ) × (h < length m.half_edges) × (face m h ≡ 0) × (origin m h ≡ w)
      outer_from w (inl x) = let h = outer_edge w x.0 x.1 in (h.0, h.1, h.2, h.3)
      outer_from w (inr x) =
          let h = outer_edge x.0 w x.1 in
          let here = embedding.kept.valid.sound.edges h.0 h.1 in
          (next m h.0, here.next_in, here.same_face ∙ h.2, here.starts ∙ h.4)

      -- and at each vertex but a lone one, where all are on one line
      outer_on_line : JoinsLine t → ArePlacedOnce t → (k : ℕ) → IsVertex t k → k ≢ 0
          → (h : ℕ) × (h < length m.half_edges) × (face m h ≡ 0) × (origin m h ≡ k)
      outer_on_line line one k hk other =
          let e = edge_beside t line k 0 hk (omega (arith, hk)) (λ same. other (one k 0 hk
          (omega (arith, hk)) (subst (λ x. IsSame (vertex t k) (whole x)) same
          (same-refl (vertex t k))))) in
          let h = joins_edge m embedding.kept.valid.sound k e.0 e.1 in
          (h.0, h.1, all_outer h.0 h.1 (none_or_some (face m h.0)), h.2)
        where
          all_outer : (h : ℕ) → h < length m.half_edges → (face m h ≡ 0) ⊎ (0 < face m h)
              → face m h ≡ 0
          all_outer h w (inl o) = o
          all_outer h w (inr inner) = absurd (line_has_none m (origin m h) (origin m (rev h))
              (origin m (prev m h)) line.no_face (face_at embedding h w inner))

      -- a vertex on the segment, seen from the outline
      no_better_there : (r : Option ℕ) → IsNearestOf points m p q r → (w : ℕ)
          → (h : ℕ) × (h < length m.half_edges) × (face m h ≡ 0) × (origin m h ≡ w)
          → IsNoBetter points p q r w
      no_better_there r x w h = subst (IsNoBetter points p q r) h.3 (x.outer h.0 h.1 h.2)

      no_better_on_line : JoinsLine t → ArePlacedOnce t → (r : Option ℕ)
          → IsNearestOf points m p q r
          → (w : ℕ) → IsVertex t w → IsNoBetter points p q r w
      no_better_on_line line one r x w hw = elim (cases_eq w 0) [
        | inl e ↦ subst (IsNoBetter points p q r) (sym e) (x.first.first (omega (arith, hw)))
        | inr d ↦ no_better_there r x w (outer_on_line line one w hw d)
      ]

      -- where it enters through none, the walk starts at the nearest vertex on it
      pub nearest_is_first : (v : ℕ) → IsNearestOf points m p q (Some v)
          → Starts at c p q (Some (Vertex v))
      nearest_is_first v x =
          starts_first embedding apart (Vertex v)
          (subst (λ (n : ℕ). v < n) (length-map c.vertices at) x.first.found.0) (elim t_laid [
            | inl tiles ↦ (let l = outside.left_of tiles in
                nearest_of_outline t tiles (whole p) (whole q) ways_apart l.0 l.1 l.2 l.3
                (no_outer_crossed tiles) v x.first.found
                (λ w o met. no_better_there (Some v) x w (outer_from w o) met.1))
            | inr l ↦
                ((first_on_line t l.0 l.1 l.2 (whole p) (whole q) ways_apart).3 outside.no_edge).0
                v x.first.found (λ w met. no_better_on_line l.0 l.2 (Some v) x w met.0 met.1)
          ])

      -- and with no vertex on it the segment meets nothing
      pub none_is_first : IsNearestOf points m p q None → Starts at c p q None
      none_is_first x = nothing_met embedding apart (elim t_laid [
        | inl tiles ↦ (let l = outside.left_of tiles in
            none_of_outline t tiles (whole p) (whole q) ways_apart l.0 l.1 l.2 l.3
            (no_outer_crossed tiles)
            (λ w o met. no_better_there None x w (outer_from w o) met.1))
        | inr l ↦ ((first_on_line t l.0 l.1 l.2 (whole p) (whole q) ways_apart).3 outside.no_edge).1
            (λ w met. no_better_on_line l.0 l.2 None x w met.0 met.1) (no_crossed_on_line l.0)
      ])

-- located neither on a vertex nor on an edge, p meets nothing on the way to itself
pub alone_elsewhere : {V D U F P : Type 0} {at : V → Point} {IsSite : P → Point → Type 0}
    {c : Contents V D U F} {tests : P} {p q : Point} → IsEmbedding at IsSite c tests
    → (l : PositionInTriangulation) → Locates (map at c.vertices) c.mesh p l
    → ((v : ℕ) → ¬ (l ≡ OnVertex v)) → ((e : ℕ) → ¬ (l ≡ OnEdge e)) → p ≡ q → Starts at c p q None
alone_elsewhere embedding (OnVertex v) here no_vertex no_edge same = absurd (no_vertex v refl)
alone_elsewhere embedding (OnEdge e) here no_vertex no_edge same = absurd (no_edge e refl)
alone_elsewhere {c = c} embedding (OnFace f) here no_vertex no_edge same =
    alone_inside embedding (face_edge c.mesh f)
    (of_mesh embedding _ (embedding.kept.valid.sound.faces f here.handle.0 here.handle.1).0)
    (inside_that_face embedding f here) same
alone_elsewhere embedding (OutsideOfConvexHull e) here no_vertex no_edge same =
    alone_outside embedding (outside_that_edge embedding e here) same
alone_elsewhere embedding NoTriangulation here no_vertex no_edge same =
    alone_outside embedding (without_triangulation embedding here) same
