-- A vertex of a line loses its edges.
-- Lemmas: alone_after, after_turn, passable, end_removable, end_hangs, end_left, is_middle,
-- left_removable, left_hangs, middle_left.
use Rattle.std.proofs.Common.{◌≡◌, ◌≢◌, ◌⊎◌, ◌+◌, ◌*◌, ◌/◌, ◌%◌, ◌<◌, [], ◌∷◌, ◌∙◌}
use Rattle.std.proofs.Common.{ℕ, List, length, map, set, get_or, Some, None, sym, ap, inl, inr}
use Rattle.std.proofs.Common.{arith}
use Rattle.std.proofs.lemmas.Bool.{cases_eq}
use Rattle.std.proofs.lemmas.Bool.Decides.{nat_tests}
use Rattle.std.proofs.lemmas.Int.{ints}
use Rattle.std.specs.Prelude.{ℤ, pos, ◌+ℤ◌}
use Rattle.half_edge_links.specs.{along, AreSoundLinks, around, both_ways, Ends, ends, face}
use Rattle.half_edge_links.specs.{IsPendant, IsRemovable, IsValidMesh, Mesh, MovesEdge, next}
use Rattle.half_edge_links.specs.{origin, out_edge, Passes, prev, Removes, renamed, rev, total}
use Rattle.half_edge_links.specs.{Pass.IsPassable, Remove.out_after, triangle_at, triangles, turn}
use Rattle.half_edge_links.proofs.{count_ends, rev-rev, rev_differs, rev_of_odd, rev_within}
use Rattle.half_edge_links.proofs.Growing.Passing.{beside, IsBeside}
use Rattle.half_edge_links.proofs.Sound.Parts.{rev_of_even}
use Rattle.half_edge_dcel.specs.{Connects, Contents, full_edges, full_edges_of, FullEdge}
use Rattle.half_edge_dcel.specs.{HasFewEdges, IsMeshWithData, joins, OuterSumsChange}
use Rattle.half_edge_dcel.specs.{RemovesFullEdge, TakesOut, Taking.IsMiddle, Taking.PassesVertex}
use Rattle.half_edge_dcel.specs.Removal.{JoinsNeighbours, LeavesLine}
use Rattle.half_edge_dcel.proofs.OuterSums.{edge_ends, either_way, ends_sum, outer_sum}
use Rattle.half_edge_dcel.proofs.OuterSums.{total-permutation, total_edges}
use Rattle.half_edge_dcel.proofs.{Outlines.empty_list, TakenEdges.between, TakenEdges.listed_ends}
use Rattle.half_edge_dcel.proofs.TakenOut.{length-full_edges}
use Rattle.half_edge_dcel.proofs.Touching.{full_edges-set, with_other_ends}
use Rattle.half_edge_dcel.proofs.TwoEdges.{item_at, one_written_one_taken}

out_self : (e : ℕ) → out_after e e ≡ None
out_self e = grind (arith, nat_tests)

-- a vertex whose only edge goes has none
pub alone_after : (m new : Mesh) (e : ℕ) → AreSoundLinks m → IsRemovable m e → next m (rev e) ≡ e
    → Removes m new e → (origin m e < length new.out_edges) × (out_edge new (origin m e) ≡ None)
alone_after m new e s can free r =
    let v_in : origin m e < length new.out_edges =
    omega (arith, (s.edges e can.within).origin_in, r.vertex_count) in
    let none : out_after e (next m (rev e)) ≡ None = ap (out_after e) free ∙ out_self e in
    (v_in, (r.renames.vertices (origin m e) v_in).out ∙ ap (renamed _) (r.unlinks.out ∙ none))

-- the edge before the other side of an edge comes next to it
pub after_turn : (m : Mesh) (h g : ℕ) → AreSoundLinks m → h < length m.half_edges → turn m h ≡ g
    → next m (rev g) ≡ h
after_turn m h g s within is =
    ap (next m) (ap rev (sym is) ∙ rev-rev (prev m h)) ∙ (s.edges h within).next_prev

-- a vertex with two edges can be passed
pub passable : {m : Mesh} {o : ℕ} → AreSoundLinks m → IsMiddle m o → IsPassable m (rev o)
passable {m} {o} s mid =
    let twin_in = rev_within o _ s.even mid.within in
    let other_in = rev_within (prev m o) _ s.even (s.edges o mid.within).prev_in in
    let after : next m (rev o) ≡ turn m o = after_turn m (turn m o) o s other_in mid.two in
    record {
      within = twin_in;
      two = ap (prev m) (rev-rev o) ∙ sym (rev-rev (prev m o)) ∙ ap rev (sym after);
      apart = λ q. mid.corners (sym (ap (λ k. origin m (rev k)) (sym after ∙ q ∙ rev-rev o)));
      corners = λ q. mid.corners (q ∙ ap (λ k. origin m (rev k)) after);
      one_face = mid.one_face;
    }

-- no inner face
no_inner : (m : Mesh) (h : ℕ) → AreSoundLinks m → m.face_edges ≡ [] → h < length m.half_edges
    → face m h ≡ 0
no_inner m h s none within = omega (arith, (s.edges h within).face_in, ap length none)

-- the edge that is left hanging after one passed its vertex
module _ (m mid : Mesh) (e : ℕ) (s : AreSoundLinks m) (can : IsPassable m e)
    (i : Passes m mid e (rev (next m e)) (next m e)) where
  -- the edges beside e
  t : IsBeside m e
  t = beside m e s can

  -- the edge that is left hanging may be removed
  removable_hanging : IsRemovable mid (next m e)
  removable_hanging =
      let p = t in
      let even = s.even in
      let back_in = rev_within (next m e) _ even p.back_in in
      record {
        within = omega (arith, i.edge_count, p.back_in);
        outer = i.faces _ p.back_in ∙ no_inner m _ s can.one_face p.back_in;
        twin_outer = i.faces _ back_in ∙ no_inner m _ s can.one_face back_in;
        whole = λ a b. absurd (both_follow a);
      }
    where
      l : ℕ
      l = next m e

      both_follow : next mid l ≡ rev l → ⊥
      both_follow a =
          let p = t in
          let here = s.edges e can.within in
          let back = s.edges l p.back_in in
          elim (cases_eq l (prev m (rev l))) [
            | inl same ↦ here.proper
                (sym (rev-rev l) ∙ ap rev (sym a ∙ ap (next mid) same ∙ i.next_before) ∙ rev-rev e)
            | inr off ↦ off (sym back.prev_next ∙ ap (prev m)
                (sym (i.other_next l p.back_in here.proper off (λ q. rev_differs l (sym q))) ∙ a))
          ]

-- ---- the edges with their data
module _ {V D U F : Type 0} (c0 c2 : Contents V D U F) (mid : Mesh) (e : ℕ)
    (whole : IsMeshWithData c0) (can : IsPassable c0.mesh e) (moves : MovesEdge c0.mesh mid e
    (origin c0.mesh e) (origin c0.mesh (rev (next c0.mesh e)))) (taken : TakesOut
    (full_edges_of (ends mid) c0.undirected c0.directed) (full_edges c2) (next c0.mesh e / 2)) where
  abbrev m : Mesh
  m = c0.mesh

  abbrev us : List U
  us = c0.undirected

  abbrev ds : List D
  ds = c0.directed

  -- the links fit together
  abbrev s : AreSoundLinks m
  s = whole.valid.sound

  abbrev u : ℕ
  u = origin m e

  abbrev v : ℕ
  v = origin m (rev e)

  abbrev w : ℕ
  w = origin m (rev (next m e))

  abbrev old : List (FullEdge D U)
  old = full_edges c0

  -- the edge of e, with other ends
  abbrev turned : FullEdge D U → FullEdge D U
  turned x = record x { source = (along e u w).source; target = (along e u w).target }

  moved_is : (x : FullEdge D U) → x ≡ get_or old (e / 2) x
      → ((x.source ≡ u) × (turned x ≡ record x { source = u; target = w }))
      ⊎ ((x.source ≡ v) × (turned x ≡ record x { source = w; target = u }))
  moved_is x is =
      let at = listed_ends m m us us ds ds e s whole.fits.directed_fit whole.fits.undirected_fit
      can.within x is in
      elim (cases_eq (e % 2) 0) [
        | inl q ↦
            let e_is : 2 * (e / 2) ≡ e = omega (arith, q) in
            let p : along e u w ≡ record { source = u; target = w } = grind (arith, nat_tests, q) in
            inl (
              at.0 ∙ ap (origin m) e_is,
              ap (λ (y : Ends). record x { source = y.source; target = y.target }) p,
            )
        | inr odd ↦
            let e_is : 2 * (e / 2) + 1 ≡ e = omega (arith, odd) in
            let zero : (2 * (e / 2)) % 2 ≡ 0 = omega arith in
            let t_is : 2 * (e / 2) ≡ rev e = sym (rev_of_odd (2 * (e / 2)) zero) ∙ ap rev e_is in
            let p : along e u w ≡ record { source = w; target = u } =
            grind (arith, nat_tests, odd) in
            inr (
              at.0 ∙ ap (origin m) t_is,
              ap (λ (y : Ends). record x { source = y.source; target = y.target }) p,
            )
      ]

  -- the two edges of vertex v give way to one between its neighbours
  are_joined : JoinsNeighbours c0 c2 v u w
  unfolding with_other_ends
  are_joined =
      let n = count_ends m s in
      let even = s.even in
      let here = s.edges e can.within in
      let us_fit : length us ≡ length (ends m) = omega (arith, n, whole.fits.undirected_fit) in
      let ds_fit : length ds ≡ 2 * length (ends m) = omega (arith, n, whole.fits.directed_fit) in
      let in_ends : e / 2 < length (ends m) = omega (arith, n, can.within, even) in
      let count = length-full_edges (ends m) us ds us_fit ds_fit in
      let in_old : e / 2 < length old = rw count in_ends in
      let x = item_at old (e / 2) in_old in
      let written : full_edges_of (ends mid) us ds ≡ set old (e / 2) (turned x.0) =
      ap (λ es. full_edges_of es us ds) moves
      ∙ full_edges-set (ends m) us ds (e / 2) (along e u w) x.0 us_fit ds_fit in_ends
      ∙ ap (λ y. set old (e / 2) (turned y)) (sym x.1) in
      let off : e / 2 ≢ next m e / 2 = λ q. halves_apart e (next m e) here.proper can.apart q in
      let two = one_written_one_taken old (full_edges_of (ends mid) us ds) (full_edges c2) (e / 2)
      (next m e / 2) x.0 (turned x.0) off in_old x.1 written taken in
      let lost_is = between m m us us ds ds
      (next m e) s whole.fits.directed_fit whole.fits.undirected_fit here.next_in two.0 two.1 in
      record {
        kept = x.0;
        kept_is = between m m us us ds ds e s whole.fits.directed_fit whole.fits.undirected_fit
            can.within x.0 x.1;
        moved = turned x.0;
        moved_is = moved_is x.0 x.1;
        lost = two.0;
        lost_is = rw here.starts at lost_is;
        rest = two.2;
        was = two.3;
        is = two.4;
      }
    where
      -- two edges with one index as undirected ones are the same or the two sides
      halves_apart : (a b : ℕ) → b ≢ a → b ≢ rev a → a / 2 ≢ b / 2
      halves_apart a b p q same = elim (cases_eq (a % 2) 0) [
        | inl even ↦
            q (let r : b ≡ a + 1 = omega (arith, p, same, even) in r ∙ sym (rev_of_even a even))
        | inr odd ↦
            let zero : (2 * (b / 2)) % 2 ≡ 0 = omega arith in
            let a_is : 2 * (b / 2) + 1 ≡ a = omega (arith, same, odd) in
            let b_is : b ≡ 2 * (b / 2) = omega (arith, p, same, odd) in
            q (b_is ∙ sym (rev_of_odd (2 * (b / 2)) zero) ∙ ap rev a_is)
      ]

-- ---- the outer edges
-- the only edge of a vertex goes
outer_end : (m new : Mesh) (v u : ℕ) → IsValidMesh m → IsValidMesh new → triangles new ≡ triangles m
    → ((f : ℕ → ℕ → ℤ) → total (both_ways f) (ends m) ≡ total (both_ways f) (joins v u ∷ [])
    +ℤ total (both_ways f) (ends new)) → OuterSumsChange m new (joins v u ∷ joins u v ∷ []) []
outer_end m new v u valid valid' same sums f =
    let a = outer_sum f m new valid valid' (f v u +ℤ f u v) (pos 0) (pos 0) (pos 0)
    (omega (arith, ints, sums f)) (ap (λ ts. total (around f) ts +ℤ pos 0) same) in
    omega (arith, ints, a)

-- two edges of a vertex give way to one
outer_joined : {V D U F : Type 0} (old new : Contents V D U F) (v u w : ℕ) → IsMeshWithData old
    → IsMeshWithData new → triangles new.mesh ≡ triangles old.mesh → JoinsNeighbours old new v u w
    → OuterSumsChange old.mesh new.mesh (joins v u ∷ joins u v ∷ joins v w ∷ joins w v ∷ [])
    (joins u w ∷ joins w u ∷ [])
outer_joined {V} {D} {U} {F} old new v u w a b same j f =
    let g : FullEdge D U → ℤ = λ x. both_ways f (edge_ends x) in
    let moved_is : Connects j.moved (joins u w) = elim j.moved_is [
      | inl q ↦
          inl (ap (λ (x : FullEdge D U). x.source) q.1, ap (λ (x : FullEdge D U). x.target) q.1)
      | inr q ↦
          inr (ap (λ (x : FullEdge D U). x.source) q.1, ap (λ (x : FullEdge D U). x.target) q.1)
    ] in
    let before = sym (total_edges f old a) ∙ sym (total-permutation g _ _ j.was) in
    let after = sym (total_edges f new b) ∙ sym (total-permutation g _ _ j.is) in
    let k = either_way f j.kept (joins u v) j.kept_is in
    let n = either_way f j.moved (joins u w) moved_is in
    let l = either_way f j.lost (joins v w) j.lost_is in
    let all = outer_sum f old.mesh new.mesh a.valid b.valid (g j.lost +ℤ g j.kept) (g j.moved)
    (pos 0) (pos 0) (omega (arith, ints, before, after))
    (ap (λ ts. total (around f) ts +ℤ pos 0) same) in
    omega (arith, ints, k, n, l, all)

-- ---- the steps
-- a vertex v of a mesh with one face has an edge o
module _ {V D U F : Type 0} {c : Contents V D U F} {v o : ℕ} (w : IsMeshWithData c)
    (one_face : length c.faces ≡ 0) (few : HasFewEdges c.mesh v)
    (at : out_edge c.mesh v ≡ Some o) where
  abbrev sound : AreSoundLinks c.mesh
  sound = w.valid.sound

  starts : (o < length c.mesh.half_edges) × (origin c.mesh o ≡ v)
  starts = sound.vertices v o at

  none : c.mesh.face_edges ≡ []
  none = empty_list c.mesh.face_edges (sym w.fits.faces_fit ∙ one_face)

  -- its only edge may be removed
  pub end_removable : turn c.mesh o ≡ o → IsRemovable c.mesh o
  end_removable alone = record {
    within = starts.0;
    outer = no_inner c.mesh o sound none starts.0;
    twin_outer = no_inner c.mesh (rev o) sound none (rev_within o _ sound.even starts.0);
    whole = few.whole o at;
  }

  -- its only edge hangs
  pub end_hangs : turn c.mesh o ≡ o → IsPendant c.mesh o
  end_hangs alone = inr (after_turn c.mesh o o sound starts.0 alone)

  -- its only edge goes
  pub end_left : {new : Contents V D U F} → turn c.mesh o ≡ o → RemovesFullEdge c new o
      → LeavesLine c new v
  end_left {new} alone r =
      let u : ℕ = origin c.mesh (rev o) in
      let left : LeavesLine c new (origin c.mesh o) = record {
        contents = r.contents;
        alone = alone_after c.mesh new.mesh o sound (end_removable alone)
            (after_turn c.mesh o o sound starts.0 alone) r.removes;
        how = inr (inl (
          u,
          (λ q. w.valid.apart o starts.0 (sym q)),
          r.edges,
          outer_end c.mesh new.mesh (origin c.mesh o) u w.valid r.whole.valid r.triangles
              (λ f. ends_sum f c new _ w r.whole r.edges),
        ));
      } in
      rw starts.1 at left

  -- with two edges it is between two neighbours
  pub is_middle : turn c.mesh o ≢ o → IsMiddle c.mesh o
  is_middle more = elim (few.few o at) [
    | inl alone ↦ absurd (more alone)
    | inr two ↦ record { within = starts.0; one_face = none; two = two.0; corners = two.1 }
  ]

-- a vertex gives way to an edge between its two neighbours
module _ {V D U F : Type 0} {c0 c1 : Contents V D U F} {out left : ℕ}
    (middle : IsMiddle c0.mesh out) (p : PassesVertex c0 c1 out left) where
  can : IsPassable c0.mesh (rev out)
  can = passable p.was.valid.sound middle

  -- once an edge has passed the vertex, the one that is left hanging may be removed
  pub left_removable : IsRemovable c1.mesh left
  left_removable = rw p.left_is
      (removable_hanging c0.mesh c1.mesh (rev out) p.was.valid.sound can p.links)

  -- the edge that is left hanging then has the vertex to itself
  pub left_hangs : IsPendant c1.mesh left
  left_hangs = inr (rw p.left_is p.links.next_there)

  -- once that edge is gone, the vertex has left the line
  pub middle_left : {c2 : Contents V D U F} → RemovesFullEdge c1 c2 left
      → LeavesLine c0 c2 (origin c0.mesh out)
  middle_left {c2} r =
      let m = c0.mesh in
      let e : ℕ = rev out in
      let l : ℕ = next m e in
      let s = p.was.valid.sound in
      let b : IsBeside m e = beside m e s can in
      let passed = p.contents in
      let links = p.links in
      let us_is : c1.undirected ≡ c0.undirected =
      ap (λ (x : Contents V D U F). x.undirected) passed in
      let ds_is : c1.directed ≡ c0.directed = ap (λ (x : Contents V D U F). x.directed) passed in
      let mid_is : full_edges c1 ≡ full_edges_of (ends c1.mesh) c0.undirected c0.directed =
      λ i. full_edges_of (ends c1.mesh) (us_is i) (ds_is i) in
      let taken' : TakesOut (full_edges_of (ends c1.mesh) c0.undirected c0.directed) (full_edges c2)
      (l / 2) = rw (mid_is, p.left_is) at r.taken in
      let j = are_joined c0 c2 c1.mesh e p.was can p.ends taken' in
      let u : ℕ = origin m e in
      let w : ℕ = origin m (rev l) in
      let v_is : origin m (rev e) ≡ origin m out = ap (origin m) (rev-rev out) in
      let r' : Removes c1.mesh c2.mesh l = rw p.left_is at r.removes in
      let gone = alone_after c1.mesh c2.mesh l p.whole.valid.sound
      (removable_hanging m c1.mesh e s can links) links.next_there r' in
      let at_v : origin c1.mesh l ≡ origin m out =
      links.other_origins l b.back_in b.back-twin ∙ b.start ∙ v_is in
      let none : triangles c2.mesh ≡ triangles m = r.triangles ∙ ap (map (triangle_at c1.mesh))
      (links.face_edges ∙ can.one_face) ∙ sym (ap (map (triangle_at m)) can.one_face) in
      let joined : JoinsNeighbours c0 c2 (origin m out) u w = rw v_is at j in
      record {
        contents = r.contents ∙ ap (λ (x : Contents V D U F). record x
            { mesh = c2.mesh; directed = c2.directed; undirected = c2.undirected }) passed;
        alone = rw at_v at gone;
        how = inr (inr (
          u,
          w,
          can.corners,
          joined,
          outer_joined c0 c2 (origin m out) u w p.was r.whole none joined,
        ));
      }
