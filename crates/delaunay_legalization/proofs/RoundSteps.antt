-- A legalization that goes round a vertex, from one of its edges to the next.
-- Notions: IsTurningRound, tests_left; turning_begins, h_in, centre_is, turn_fits,
-- turning_goes_on, fewer_turned, turning_goes_next, fewer_next, turning_ends, none_to_turn.
use Rattle.std.proofs.Common.{◌≡◌, ◌≢◌, ℕ, suc, ◌+◌, ◌*◌, ◌/◌, ◌<◌, ◌^◌, List, [], ◌∷◌, ◌++◌}
use Rattle.std.proofs.Common.{length, map, Option, Some, None, IsSome, IsNone, refl, sym, ap, ◌∙◌}
use Rattle.std.proofs.Common.{subst, inl, inr, arith}
use Rattle.std.specs.Prelude.{Contains}
use Rattle.half_edge_links.specs.{flipped, IsValidMesh, Mesh, next, origin, out_edge, prev, rev}
use Rattle.{half_edge_links.specs.turn, plane.proofs.turned_join}
use Rattle.half_edge_links.proofs.{rev-rev, rev_within}
use Rattle.plane_theorems.specs.{IsEmptyRound, IsMesh, lifted_volume}
use Rattle.plane_theorems.proofs.{Contains-cases, Contains-head, Contains-later, Contains-none}
use Rattle.{half_edge_dcel.specs.Contents, plane_theorems.proofs.once_head}
use Rattle.delaunay_legalization.specs.{AreEdges, constraint_pairs, faces_of, FlipsFit, Gains}
use Rattle.delaunay_legalization.specs.{IsFailing, IsPartlyLegal, IsTriangulated, Legalizes}
use Rattle.delaunay_legalization.specs.{outer_of, point_at, state_of}
use Rattle.delaunay_legalization.specs.Around.{CanGoRound, Stays, Turns}
use Rattle.delaunay_legalization.specs.declared.sides.Sides.TheVariants.{Round}
use Rattle.delaunay_legalization.proofs.FarSides.{flip_keeps_empty, GainsFarSides, turned_far}
use Rattle.delaunay_legalization.proofs.{FarSides.with_one, MeshStays.halved, Stepping.steps_end}
use Rattle.delaunay_legalization.proofs.Legalizing.{edges_gained, half_within, IsUnderway}
use Rattle.delaunay_legalization.proofs.Legalizing.{step_fits, step_kept, turned_by}
use Rattle.delaunay_legalization.proofs.{Legalizing.underway_begins, OppositeSides.opposite_begins}
use Rattle.delaunay_legalization.proofs.OppositeTurns.{beyond_differs, comes_between, either_in}
use Rattle.delaunay_legalization.proofs.OppositeTurns.{failing_either, failing_twin}
use Rattle.delaunay_legalization.proofs.OppositeTurns.{opposite_behind, opposite_here}
use Rattle.delaunay_legalization.proofs.{OppositeTurns.opposite_others, Spokes.one_more_left}
use Rattle.{delaunay_legalization.proofs.Pushing.no_edges, plane.specs.Joins, plane.specs.Point}
use Rattle.delaunay_legalization.proofs.RoundLists.{legal_with_more, LieOpposite, none_in}
use Rattle.delaunay_legalization.proofs.RoundLists.{opposites, put_last, PutsLast}
use Rattle.delaunay_legalization.proofs.Spokes.{all_left, AreNext, ComesBetween, count_left}
use Rattle.delaunay_legalization.proofs.Spokes.{how_many_left, next_is_left, none_behind, one_fewer}
use Rattle.delaunay_legalization.proofs.WorkLists.{last_or_before, once_after}
use Rattle.delaunay_legalization.proofs.MeshLegal as M

-- ---- from edge to edge
-- from edge h on the edges opposite vertex v are left to test, until its edge first comes again
pub record IsTurningRound {V D U F : Type 0} (at : V → Point) (fix : List U → List ℕ)
    (was now : Contents V D U F) (v first h start flips : ℕ) : Type 0 where
  pub behind : List ℕ
  pub left : AreNext now.mesh v first h behind
  pub first_in : first < length now.mesh.half_edges
  pub first_starts : origin now.mesh first ≡ v
  pub ks : List ℕ
  pub opposite : LieOpposite now.mesh (h ∷ behind) ks
  pub underway : IsUnderway fix (map at was.vertices) was now ks 0 0 start flips
  pub empty : IsEmptyRound (map at was.vertices) (faces_of now.mesh) v

-- a number that falls from one test to the next
abbrev pub tests_left : List Point → Mesh → ℕ → ℕ → ℕ
tests_left points m first h = 2 * lifted_volume points (faces_of m) + how_many_left m first h

module _ {V D U F : Type 0} {at : V → Point} {fix : List U → List ℕ} {was : Contents V D U F}
    {v first start : ℕ} where
  -- at first all of them
  pub turning_begins : IsTriangulated at (state_of was) → CanGoRound at was v first start
      → IsTurningRound at fix was was v first first start start
  turning_begins kept can = go (all_left was.mesh s v first can.named)
    where
      s : IsValidMesh was.mesh
      s = kept.valid

      go : (gs : List ℕ) × AreNext was.mesh v first first gs × ((h : ℕ)
          → h < length was.mesh.half_edges → origin was.mesh h ≡ v → Contains (first ∷ gs) h)
          → IsTurningRound at fix was was v first first start start
      go (gs, left, all) =
          let o = opposites was.mesh s (first ∷ gs) left.within in
          record {
            behind = gs;
            left = left;
            first_in = left.within first (Contains-head first gs);
            first_starts = left.starts first (Contains-head first gs);
            ks = o.0;
            opposite = o.1.only;
            underway = underway_begins fix (map at was.vertices) was o.0 0 start kept.shape
                o.1.edges (opposite_begins (map at was.vertices)
                (constraint_pairs fix was.mesh was.undirected) was.mesh s.sound v
                o.0 kept.shape can.empty (λ h w e. o.1.all h (all h w e)));
            empty = can.empty;
          }

  module _ {now : Contents V D U F} {h flips : ℕ} (kept : IsTriangulated at (state_of now))
      (t : IsTurningRound at fix was now v first h start flips) where
    abbrev m : Mesh
    m = now.mesh

    s : IsValidMesh m
    s = kept.valid

    abbrev e : ℕ
    e = next m h

    abbrev points : List Point
    points = map at now.vertices

    same_points : points ≡ map at was.vertices
    same_points = ap (λ (c : Contents V D U F). map at c.vertices) t.underway.contents

    shape : IsMesh points (faces_of m) (outer_of m)
    shape = kept.shape

    empty : IsEmptyRound points (faces_of m) v
    empty = subst (λ ps. IsEmptyRound ps (faces_of m) v) (sym same_points) t.empty

    -- the edge is one of the mesh
    pub h_in : h < length m.half_edges
    h_in = t.left.within h (Contains-head h t.behind)

    h_starts : origin m h ≡ v
    h_starts = t.left.starts h (Contains-head h t.behind)

    -- it starts at the vertex, which is where it was
    pub centre_is : {q : Point} → q ≡ point_at (map at was.vertices) v
        → q ≡ point_at points (origin m h)
    centre_is is = is ∙ (λ i. point_at (sym same_points i) (sym h_starts i))

    -- the edge opposite the vertex is one of the mesh
    e_in : e < length m.half_edges
    e_in = (s.sound.edges h h_in).next_in

    -- edge h is the one before it
    h_is : prev m e ≡ h
    h_is = (s.sound.edges h h_in).prev_next

    -- the opposite edge can be put at the end of the work list
    put : (rest : List ℕ) × PutsLast t.ks (e / 2) rest
    put = put_last t.ks (e / 2) t.underway.legal.edges.once

    -- the work list without the opposite edge
    rest : List ℕ
    rest = put.0

    listed : AreEdges m (rest ++ e / 2 ∷ [])
    unfolding rest
    listed = record {
      within = λ j c. elim (last_or_before rest (e / 2) j c) [
        | inl q ↦ subst (λ z. (2 * z) < length m.half_edges) (sym q)
            (half_within m e (length m.half_edges) (e / 2) refl e_in refl)
        | inr d ↦ t.underway.legal.edges.within j (put.1.from j d)
      ];
      once = once_after rest (e / 2) put.1.once put.1.off;
    }

    rest_edges : AreEdges m rest
    unfolding rest
    rest_edges = record {
      within = λ j c. t.underway.legal.edges.within j (put.1.from j c);
      once = put.1.once;
    }

    -- the edge opposite is the last that is left to test
    with_last : IsUnderway fix (map at was.vertices) was now (rest ++ e / 2 ∷ []) 0 0 start flips
    unfolding rest
    with_last = record {
      contents = t.underway.contents;
      constraints = t.underway.constraints;
      legal = legal_with_more (map at was.vertices)
          (constraint_pairs fix was.mesh was.undirected) was.mesh m t.ks
          (rest ++ e / 2 ∷ []) start flips listed put.1.kept t.underway.legal;
      room_stays = refl;
    }

    -- what is left without it lies opposite the vertex behind edge h
    rest_behind : (j : ℕ) → Contains rest j → (g : ℕ) × Contains t.behind g × (j ≡ next m g / 2)
    unfolding rest
    rest_behind j c =
        let y = t.opposite j (put.1.from j c) in
        elim (Contains-cases h t.behind y.0 y.1) [
          | inl q ↦
              absurd (put.1.off (subst (Contains rest) (y.2 ∙ ap (λ z. next m z / 2) (sym q)) c))
          | inr d ↦ (y.0, d, y.2)
        ]

    -- a flip of the edge opposite can be counted
    pub turn_fits : FlipsFit (length was.vertices) start → IsFailing points m e → flips + 1 < 2 ^ 64
    turn_fits fit x = step_fits at fix was now (rest ++ e / 2 ∷ []) 0 0 start flips with_last rest
        (e / 2) refl s fit (failing_either points m s shape h h_in x)

    -- ---- it was turned
    module _ {after : Contents V D U F} {flips_after : ℕ}
        (contents : after ≡ record now { mesh = after.mesh })
        (constraints : constraint_pairs fix after.mesh after.undirected
        ≡ constraint_pairs fix m now.undirected)
        (turns : Turns points m after.mesh h flips flips_after) where
      -- the edge fails
      abbrev x : IsFailing points m e
      x = turns.failing

      more_once : (more : List ℕ) × Gains rest more (next m (rev e) / 2)
      more_once = with_one rest (next m (rev e) / 2)

      more_twice : (more : List ℕ) × Gains more_once.0 more (prev m (rev e) / 2)
      more_twice = with_one more_once.0 (prev m (rev e) / 2)

      abbrev more : List ℕ
      more = more_twice.0

      twin_in : rev e < length m.half_edges
      twin_in = rev_within e (length m.half_edges) s.sound.even e_in

      more_edges : AreEdges m more
      more_edges =
          let twin = s.sound.edges (rev e) twin_in in
          edges_gained m more_once.0 more (prev m (rev e)) (length m.half_edges) refl twin.prev_in
          (edges_gained m rest more_once.0 (next m (rev e))
          (length m.half_edges) refl twin.next_in rest_edges
          more_once.1) more_twice.1

      next_there : Contains more (next m (rev e) / 2)
      next_there = more_twice.1.kept (next m (rev e) / 2) more_once.1.there

      far_sides : GainsFarSides m (2 * (e / 2)) v rest more
      far_sides = elim (halved e) [
        | inl q ↦ record {
          kept = λ j c. more_twice.1.kept j (more_once.1.kept j c);
          far = λ is. (
            subst (λ z. Contains more (next m (rev z) / 2)) (sym q) next_there,
            subst (λ z. Contains more (prev m (rev z) / 2)) (sym q) more_twice.1.there,
          );
          near =
              λ off. absurd (off (ap (λ z. origin m (prev m z)) q ∙ ap (origin m) h_is ∙ h_starts));
        }
        | inr q ↦ record {
          kept = λ j c. more_twice.1.kept j (more_once.1.kept j c);
          far = λ is. absurd (beyond_differs points m s shape h h_in x
              (ap (λ z. origin m (prev m z)) (sym q) ∙ is ∙ sym h_starts));
          near = λ off. (
            subst (λ z. Contains more (next m z / 2)) (sym q) next_there,
            subst (λ z. Contains more (prev m z / 2)) (sym q) more_twice.1.there,
          );
        }
      ]

      legal_after : (first : Mesh) (begin : ℕ) → IsPartlyLegal points
          (constraint_pairs fix m now.undirected) first m (rest ++ e / 2 ∷ []) begin flips
          → IsPartlyLegal points
          (constraint_pairs fix m now.undirected) first after.mesh more begin flips_after
      legal_after first begin p =
          let k_in = either_in points m s shape h h_in x in
          let k_fails = failing_either points m s shape h h_in x in
          subst (λ (y : Mesh). IsPartlyLegal points
          (constraint_pairs fix m now.undirected) first y more begin
          flips_after)
          (sym turns.turned) (turned_far points m s shape (2 * (e / 2)) k_in k_fails v empty
          (constraint_pairs fix m now.undirected) first begin flips_after rest more
          far_sides more_edges
          (λ all round edges. turned_by points (constraint_pairs fix m now.undirected) first m
          (flipped m (2 * (e / 2)))
          rest all (e / 2) begin flips flips_after s refl turns.counted k_fails round edges p))

      opposite_after : LieOpposite after.mesh (h ∷ e ∷ t.behind) more
      opposite_after j c = elim (more_twice.1.only j c) [
        | inl q ↦ (
          e,
          Contains-later h (e ∷ t.behind) e (Contains-head e t.behind),
          q ∙ ap (λ z. z / 2)
              (sym (opposite_behind points m s shape h h_in x after.mesh turns.turned)),
        )
        | inr d ↦ elim (more_once.1.only j d) [
          | inl q ↦ (
            h,
            Contains-head h (e ∷ t.behind),
            q ∙ ap (λ z. z / 2)
                (sym (opposite_here points m s shape h h_in x after.mesh turns.turned)),
          )
          | inr r ↦
              let y = rest_behind j r in (
                y.0,
                Contains-later h (e ∷ t.behind) y.0 (Contains-later e t.behind y.0 y.1),
                y.2 ∙ ap (λ z. z / 2)
                    (sym (opposite_others points m s shape h h_in x after.mesh turns.turned y.0
                    (t.left.starts y.0 (Contains-later h t.behind y.0 y.1) ∙ sym h_starts)
                    (λ i. once_head h t.behind t.left.once (subst (Contains t.behind) i y.1)))),
              )
        ]
      ]

      between : ComesBetween m after.mesh v h e
      between = subst (λ u. ComesBetween m after.mesh u h e) h_starts
          (comes_between points m s shape h h_in x after.mesh turns.turned)

      left_after : AreNext after.mesh v first h (e ∷ t.behind)
      left_after = one_more_left m after.mesh v first h e t.first_starts between t.behind t.left

      -- it comes next, and its far sides are left to test
      pub turning_goes_on : IsTurningRound at fix was after v first h start flips_after
      turning_goes_on = record {
        behind = e ∷ t.behind;
        left = left_after;
        first_in = subst (λ n. first < n) (sym between.edge_count) t.first_in;
        first_starts = between.origins first t.first_in t.first_starts;
        ks = more;
        opposite = opposite_after;
        underway = step_kept at fix was now (rest ++ e / 2 ∷ []) 0 0 start flips with_last rest
            (e / 2) refl after
            more 0
            flips_after contents constraints legal_after refl;
        empty = subst (λ (ps : List Point). IsEmptyRound ps (faces_of after.mesh) v) same_points
            (subst (λ (y : Mesh). IsEmptyRound points (faces_of y) v) (sym turns.turned)
            (flip_keeps_empty points m s shape (2 * (e / 2)) (either_in points m s shape h h_in x)
            (failing_either points m s shape h h_in x) v empty));
      }

      -- with fewer tests left
      pub fewer_turned : tests_left (map at after.vertices) after.mesh first h
          < tests_left points m first h
      fewer_turned =
          let k_in = either_in points m s shape h h_in x in
          let k_fails = failing_either points m s shape h h_in x in
          let falls = M.volume_falls points m s
          (M.local_of points m e s.sound shape (e_in, x.inner)) (2 * (e / 2)) k_in
          k_fails in
          let before = count_left m v first h t.behind t.left in
          let now_left = count_left after.mesh v first h (e ∷ t.behind) left_after in
          let volume : lifted_volume (map at after.vertices) (faces_of after.mesh)
          < lifted_volume points (faces_of m) =
          subst (λ (y : List Point × Mesh). lifted_volume y.0 (faces_of y.1)
          < lifted_volume points (faces_of m))
          (λ i. (
            sym (ap (λ (c : Contents V D U F). map at c.vertices) contents) i,
            sym turns.turned i,
          )) falls in
          smaller (lifted_volume (map at after.vertices) (faces_of after.mesh))
          (lifted_volume points (faces_of m))
          (how_many_left after.mesh first h) (how_many_left m first h)
          (length t.behind) volume now_left before
        where
          smaller : (v w a b n : ℕ) → v < w → a ≡ suc (suc n) → b ≡ suc n → 2 * v + a < 2 * w + b
          smaller v w a b n l p q = omega (arith, l, p, q)

    -- ---- it stayed
    module _ {after : Contents V D U F} {flips_after : ℕ}
        (contents : after ≡ record now { mesh = after.mesh })
        (stays : Stays points
        (constraint_pairs fix m now.undirected) m after.mesh h flips flips_after) where
      passes_either : ¬ Joins (constraint_pairs fix m now.undirected) (origin m (2 * (e / 2)))
          (origin m (rev (2 * (e / 2))))
          → ¬ IsFailing points m (2 * (e / 2))
      passes_either free fails = elim (halved e) [
        | inl q ↦ stays.passes
            (λ joined. free (subst (λ z. Joins (constraint_pairs fix m now.undirected) (origin m z)
            (origin m (rev z))) (sym q) joined)) (subst (IsFailing points m) q fails)
        | inr q ↦ stays.passes
            (λ joined. free (subst (λ z. Joins (constraint_pairs fix m now.undirected) (origin m z)
            (origin m (rev z))) (sym q)
            (subst (λ z. Joins (constraint_pairs fix m now.undirected) (origin m (rev e))
            (origin m z)) (sym (rev-rev e))
            (turned_join (constraint_pairs fix m now.undirected) (origin m e)
            (origin m (rev e)) joined))))
            (subst (IsFailing points m) (rev-rev e)
            (failing_twin points m s shape (rev e) (rev_within e
            (length m.half_edges) s.sound.even e_in) (subst (IsFailing points m) q fails)))
      ]

      without_last : IsUnderway fix (map at was.vertices) was now rest 0 0 start flips
      without_last = step_kept at fix was now (rest ++ e / 2 ∷ []) 0 0 start flips with_last rest
          (e / 2) refl now
          rest 0 flips refl refl
          (λ first begin p. M.dropped points (constraint_pairs fix m now.undirected) first m
          rest (e / 2)
          begin flips s p passes_either) refl

      same_state : let a : Contents V D U F × ℕ = (now, flips) in
          let b : Contents V D U F × ℕ = (after, flips_after) in a ≡ b
      same_state = sym (λ i. (
        (contents ∙ ap (λ (y : Mesh). record now { mesh = y }) stays.same) i,
        stays.counted i,
      ))

      next_turning : turn m h ≢ first → IsTurningRound at fix was now v first (turn m h) start flips
      next_turning off = go (next_is_left m v first h t.behind t.left off)
        where
          go : (others : List ℕ) × (t.behind ≡ turn m h ∷ others)
              → IsTurningRound at fix was now v first (turn m h) start flips
          go (others, is) = record {
            behind = others;
            left = one_fewer m v first h (turn m h) others (subst (AreNext m v first h) is t.left);
            first_in = t.first_in;
            first_starts = t.first_starts;
            ks = rest;
            opposite = λ j c. let y = rest_behind j c in
                (y.0, subst (λ (xs : List ℕ). Contains xs y.0) is y.1, y.2);
            underway = without_last;
            empty = t.empty;
          }

      -- one edge further on
      pub turning_goes_next : {g : ℕ} → g ≡ turn m h → g ≢ first
          → IsTurningRound at fix was after v first g start flips_after
      turning_goes_next is off =
          subst (λ (y : ℕ). IsTurningRound at fix was after v first y start flips_after) (sym is)
          (subst (λ (y : Contents V D U F × ℕ). IsTurningRound at fix was y.0 v first
          (turn m h) start y.1) same_state (next_turning (λ q. off (is ∙ q))))

      -- with fewer tests left
      pub fewer_next : {g : ℕ} → g ≡ turn m h → g ≢ first
          → tests_left (map at after.vertices) after.mesh first g < tests_left points m first h
      fewer_next {g = g} is off =
          go (next_is_left m v first h t.behind t.left (λ q. off (is ∙ q)))
        where
          smaller : (v a b n : ℕ) → a ≡ suc n → b ≡ suc (suc n) → 2 * v + a < 2 * v + b
          smaller v a b n p q = omega (arith, p, q)

          go : (others : List ℕ) × (t.behind ≡ turn m h ∷ others)
              → tests_left (map at after.vertices) after.mesh first g < tests_left points m first h
          go (others, q) =
              let here : AreNext m v first h (turn m h ∷ others) =
              subst (AreNext m v first h) q t.left in
              let before = count_left m v first h (turn m h ∷ others) here in
              let behind = count_left m v first (turn m h) others
              (one_fewer m v first h (turn m h) others here) in
              subst (λ (y : List Point × Mesh × ℕ). tests_left y.0 y.1 first y.2
              < tests_left points m first h)
              (λ i. (
                ap (λ (c : Contents V D U F × ℕ). map at c.0.vertices) same_state i,
                sym stays.same i,
                sym is i,
              ))
              (smaller (lifted_volume points (faces_of m)) (how_many_left m first (turn m h))
              (how_many_left m first h)
              (length others) behind before)

      -- back at the first edge, the triangulation is legalized
      pub turning_ends : {g : ℕ} → g ≡ turn m h → g ≡ first
          → Legalizes at fix was after start flips_after
      turning_ends is back =
          subst (λ (y : Contents V D U F × ℕ). Legalizes at fix was y.0 start y.1) same_state
          (steps_end {sides = Round} {room_was = 0} {all = rest} {room = 0}
          (record { underway = without_last; suffice = tt }) kept
          (none_in rest (λ j c. let y = rest_behind j c in Contains-none y.0
          (subst (λ (xs : List ℕ). Contains xs y.0)
          (none_behind m v first h t.behind t.left (sym is ∙ back)) y.1))))

-- a vertex without edges leaves nothing to test
pub none_to_turn : {V D U F : Type 0} {at : V → Point} {fix : List U → List ℕ}
    {was : Contents V D U F} {v start : ℕ} → IsTriangulated at (state_of was)
    → IsEmptyRound (map at was.vertices) (faces_of was.mesh) v → IsNone (out_edge was.mesh v)
    → Legalizes at fix was was start start
none_to_turn {at = at} {fix = fix} {was = was} {v = v} {start = start} kept empty none =
    steps_end {sides = Round} {room_was = 0} {all = []} {room = 0} (record {
      underway = underway_begins fix (map at was.vertices) was [] 0 start kept.shape
          (no_edges was.mesh) (opposite_begins
          (map at was.vertices) (constraint_pairs fix was.mesh was.undirected) was.mesh
          kept.valid.sound v [] kept.shape empty
          (λ h w is. absurd
          (neither (out_edge was.mesh v) none (subst (λ u. IsSome (out_edge was.mesh u)) is
          (kept.valid.sound.edges h w).has_out))));
      suffice = tt;
    }) kept refl
  where
    neither : (o : Option ℕ) → IsNone o → IsSome o → ⊥
    neither None n x = cc
    neither (Some i) n x = cc
