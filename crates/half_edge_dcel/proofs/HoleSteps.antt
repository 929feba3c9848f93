-- An inner vertex with three faces loses them and its edges, and one face takes their place.
-- Lemmas: first_face, third_face, first_peelable, second_peelable, pendant_within,
-- pendant_removable, border_open, has_room, collapsed.
use Rattle.std.proofs.Common.{◌≡◌, ◌+◌, ◌<◌, ◌≤◌, [], ◌∷◌, ◌++◌, ◌∙◌}
use Rattle.std.proofs.Common.{ℕ, List, length, refl, sym, ap, inr, arith, subst}
use Rattle.std.specs.Prelude.{ℤ, pos}
use Rattle.std.specs.List.{AllZip}
use Rattle.std.specs.List.Sorted.{IsPermutation}
use Rattle.std.proofs.lemmas.Int.{ints}
use Rattle.std.proofs.lemmas.List.Sorted.{IsPermutation-trans, IsPermutation-cons}
use Rattle.std.proofs.lemmas.List.Sorted.{IsPermutation-to_front}
use Rattle.half_edge_links.specs.{after_removal, AreSoundLinks, around, both_ways, face, face_edge}
use Rattle.half_edge_links.specs.{IsAlone, IsOpenTriangle, IsPeelable, IsRemovable, IsWheel}
use Rattle.half_edge_links.specs.{KeepsOneOutline, Mesh, neighbour, next, origin, prev, rev, total}
use Rattle.half_edge_links.specs.{triangle_at, turn}
use Rattle.half_edge_links.proofs.{OuterLoop.OutlineFilled.outline_filled, rev-rev}
use Rattle.half_edge_links.proofs.Removing.CollapseLemmas.{open_triangle, removable_last}
use Rattle.half_edge_links.proofs.Removing.Conditions.{full_wheel, IsFullWheel, peelable, removable}
use Rattle.half_edge_links.proofs.Removing.PeelLemmas.{peels_faces}
use Rattle.half_edge_links.proofs.Removing.WheelEnds.{closed_corners, hole_of_four, hole_of_three}
use Rattle.half_edge_links.proofs.Removing.WheelEnds.{IsHoleOfFour, IsHoleOfThree}
use Rattle.half_edge_dcel.specs.{Connects, Contents, faces_between, FillsHole, full_edges}
use Rattle.half_edge_dcel.specs.{full_edges_of, full_faces, full_faces_of, FullFace, HasCorners}
use Rattle.half_edge_dcel.specs.{IsMeshWithData, joins, LosesEdges, LosesFaces, OuterSumsChange}
use Rattle.half_edge_dcel.specs.{MeshContents.KeepsVertices, RemovesFullEdge, spokes_to}
use Rattle.half_edge_dcel.specs.Taking.{ClosesFullFace, OpensFullFace, PeelsFullEdge}
use Rattle.half_edge_dcel.proofs.LineSteps.{alone_after}
use Rattle.half_edge_dcel.proofs.OuterSums.{any_corner, ends_sum, outer_sum, total-append}
use Rattle.half_edge_dcel.proofs.OuterSums.{total-permutation, total_faces, total_lost_faces}
use Rattle.half_edge_dcel.proofs.StripSteps.{none_gone, one_more_gone, same_but, same_but_edges}
use Rattle.half_edge_dcel.proofs.{StripSteps.same_but_faces, TakenEdges.named_corners}
use Rattle.half_edge_links.proofs.Removing.WheelLemmas as wheel

-- the corners of a face at a vertex with three faces
module _ (m : Mesh) (o : ℕ) (s : AreSoundLinks m) (w : IsFullWheel m o) where
  -- the corners of the first face are the vertex and the first two neighbours
  pub first_face : triangle_at m o
      ≡ record { first = origin m o; second = neighbour m o 0; third = neighbour m o 1 }
  first_face = λ i. record {
    first = origin m o;
    second = (s.edges o w.wheel.within).starts i;
    third = origin m (wheel.before_o m o s w i);
  }

  -- the corners of the third face are the vertex, the third neighbour and the one after it
  pub third_face : triangle_at m (turn m (turn m o))
      ≡ record { first = origin m o; second = neighbour m o 2; third = neighbour m o 3 }
  third_face = λ i. record {
    first = (wheel.turn_starts m o s w (turn m o) (wheel.a_in m o s w)
        ∙ wheel.turn_starts m o s w o w.wheel.within) i;
    second = (s.edges _ (wheel.z_in m o s w)).starts i;
    third = (ap (origin m) (sym (rev-rev (prev m (turn m (turn m o)))))) i;
  }

-- a face between two edges of a vertex
fan_face : (m : Mesh) (a z v c0 c1 c2 : ℕ) → AreSoundLinks m → IsHoleOfFour m a z v c0 c1 c2
    → (joins (origin m a) (origin m (rev a)) ≡ joins v c1)
    × (triangle_at m a ≡ record { first = v; second = c1; third = c2 })
fan_face m a z v c0 c1 c2 s h =
    let f = h.fan in
    let end : origin m (rev a) ≡ c1 = sym (s.edges a f.peelable.within).starts ∙ h.second in
    let last : origin m (prev m a) ≡ c2 = ap (origin m) (sym (rev-rev (prev m a)) ∙ ap rev f.spoke)
    ∙ sym (s.edges z f.within).starts ∙ h.third in (
      λ i. joins (h.start i) (end i),
      λ i. record { first = h.start i; second = h.second i; third = last i },
    )

-- the last edge of a vertex in a hole with three corners joins it and the third of them
last_spoke : (m : Mesh) (z v c0 c1 c2 : ℕ) → AreSoundLinks m → z < length m.half_edges
    → IsHoleOfThree m z v c0 c1 c2 → joins (origin m z) (origin m (rev z)) ≡ joins v c2
last_spoke m z v c0 c1 c2 s within h =
    λ i. joins (h.start i) ((sym (s.edges z within).starts ∙ h.third) i)

-- ---- the outer edges
outer_filled : {V D U F : Type 0} (old new : Contents V D U F) (v : ℕ) (n : ℕ → ℕ)
    (lost : List (FullFace F)) (made : FullFace F) (rest : List (FullFace F)) → n 3 ≡ n 0
    → IsMeshWithData old → IsMeshWithData new → LosesEdges old new (spokes_to v n 3)
    → AllZip HasCorners lost (faces_between v n 3)
    → HasCorners made (record { first = n 0; second = n 1; third = n 2 })
    → IsPermutation (full_faces old) (lost ++ rest)
    → IsPermutation (full_faces new) (made ∷ rest) → OuterSumsChange old.mesh new.mesh [] []
outer_filled {V} {D} {U} {F} old new v n lost made rest again a b edges lost_are made_is was is f =
    let g : FullFace F → ℤ = λ x. around f x.corners in
    let es = ends_sum f old new _ a b edges in
    let before =
    sym (total_faces f old a) ∙ sym (total-permutation g _ _ was) ∙ total-append g lost rest in
    let after = sym (total_faces f new b) ∙ sym (total-permutation g _ _ is) in
    let gone = total_lost_faces f lost (faces_between v n 3) lost_are in
    let come = any_corner f made (record { first = n 0; second = n 1; third = n 2 }) made_is in
    let ge = total (both_ways f) (spokes_to v n 3) in
    let o = outer_sum f old.mesh new.mesh a.valid b.valid ge (pos 0) (total g lost) (g made)
    (omega (arith, ints, es)) (omega (arith, ints, before, after)) in
    let wrap : f (n 2) (n 3) ≡ f (n 2) (n 0) = ap (λ k. f (n 2) k) again in
    let back : f (n 3) v ≡ f (n 0) v = ap (λ k. f k v) again in
    omega (arith, ints, o, gone, come, wrap, back)

-- ---- all steps
-- the steps that take out a vertex with three faces, one after another, leave one face in its place
fills_hole : {V D U F : Type 0} (c0 c1 c2 c3 c4 c5 : Contents V D U F) (o spoke z : ℕ)
    (made : FullFace F) → IsMeshWithData c0 → IsMeshWithData c2 → IsMeshWithData c3
    → IsMeshWithData c5 → (w : IsFullWheel c0.mesh o)
    → (h : IsHoleOfFour c2.mesh spoke z (origin c0.mesh o) (neighbour c0.mesh o 0)
    (neighbour c0.mesh o 1) (neighbour c0.mesh o 2))
    → KeepsVertices c0 c5 → IsAlone c5.mesh (origin c0.mesh o)
    → full_edges c1 ≡ full_edges c0
    → LosesEdges c1 c2 (joins (origin c0.mesh o) (origin c0.mesh (rev o)) ∷ [])
    → LosesEdges c2 c3 (joins (origin c2.mesh spoke) (origin c2.mesh (rev spoke)) ∷ [])
    → LosesEdges c3 c4 (joins (origin c0.mesh o) (neighbour c0.mesh o 2) ∷ [])
    → full_edges c5 ≡ full_edges c4
    → (third : FullFace F) → third.corners
    ≡ triangle_at c0.mesh (face_edge c0.mesh (face c0.mesh (turn c0.mesh (turn c0.mesh o))))
    → made.value ≡ third.value
    → IsPermutation (full_faces c0) (third ∷ full_faces c1)
    → LosesFaces c1 c2 (triangle_at c0.mesh o ∷ [])
    → LosesFaces c2 c3 (triangle_at c2.mesh spoke ∷ []) → full_faces c4 ≡ full_faces c3
    → full_faces c5 ≡ full_faces c4 ++ made ∷ []
    → HasCorners made (record {
      first = neighbour c0.mesh o 0;
      second = neighbour c0.mesh o 1;
      third = neighbour c0.mesh o 2;
    }) → KeepsOneOutline c0.mesh c5.mesh
    → FillsHole c0 c5 (origin c0.mesh o) (neighbour c0.mesh o)
fills_hole {V} {D} {U} {F} c0 c1 c2 c3 c4 c5 o spoke z made whole0 whole2 whole3 whole5 w h same
    alone e01 e12 e23 e34 e45 third third_is value_is f01 f12 f23 f34 f45 made_is one_round =
    let m = c0.mesh in
    let s = whole0.valid.sound in
    let v : ℕ = origin m o in
    let n : ℕ → ℕ = neighbour m o in
    let at_two = fan_face c2.mesh spoke z v (n 0) (n 1) (n 2) whole2.valid.sound h in
    let a1 : LosesEdges c1 c2 (joins v (n 0) ∷ []) = e12 in
    let a2 : LosesEdges c2 c3 (joins v (n 1) ∷ []) = rw at_two.0 at e23 in
    let from0 = one_more_gone Connects (full_edges c1) (full_edges c1) (full_edges c2) []
    (joins v (n 0)) (none_gone Connects (full_edges c1)) a1 in
    let from1 = one_more_gone Connects (full_edges c1) (full_edges c2) (full_edges c3) _
    (joins v (n 1)) from0 a2 in
    let from2 = one_more_gone Connects (full_edges c1) (full_edges c3) (full_edges c4) _
    (joins v (n 2)) from1 e34 in
    let edges : LosesEdges c0 c5 (spokes_to v n 3) = rw (← e01, e45) from2 in
    let b1 : LosesFaces c1 c2 (record { first = v; second = n 0; third = n 1 } ∷ []) =
    rw (first_face m o s w) at f12 in
    let b2 : LosesFaces c2 c3 (record { first = v; second = n 1; third = n 2 } ∷ []) =
    rw at_two.1 at f23 in
    let g0 = one_more_gone HasCorners (full_faces c1) (full_faces c1) (full_faces c2) []
    (record { first = v; second = n 0; third = n 1 })
    (none_gone HasCorners (full_faces c1)) b1 in
    let g1 = one_more_gone HasCorners (full_faces c1) (full_faces c2) (full_faces c3) _
    (record { first = v; second = n 1; third = n 2 }) g0 b2 in
    let third_at : HasCorners third (record { first = v; second = n 2; third = n 3 }) =
    subst (HasCorners third) (third_face m o s w) (named_corners m (turn m (turn m o)) third s
    (wheel.z_in m o s w) w.wheel.third_inner third_is) in
    let was = IsPermutation-trans _ _ _ f01 (IsPermutation-cons third _ _ g1.2) in
    let is : IsPermutation (full_faces c5) (made ∷ full_faces c3) =
    rw (f45, f34) (IsPermutation-to_front (full_faces c3) made) in
    record {
      contents = same;
      alone = alone;
      edges = edges;
      lost = third ∷ g1.0;
      lost_are = (third_at, g1.1);
      made = made;
      made_is = made_is;
      former = (third, (0, omega arith, refl), value_is);
      rest = full_faces c3;
      was = was;
      is = is;
      outer = outer_filled c0 c5 v n (third ∷ g1.0) made (full_faces c3) (ap (λ k. origin m (rev k))
          w.wheel.round) whole0 whole5 edges (third_at, g1.1) made_is was is;
      outline = one_round;
    }

-- ---- what the calls ensure, and what they ask for
module _ {V D U F : Type 0} {c0 c1 : Contents V D U F} {o : ℕ} {value : F} (round : IsWheel c0.mesh
    o) (opening : OpensFullFace c0 c1 (face c0.mesh (turn c0.mesh (turn c0.mesh o))) value) where
  abbrev m : Mesh
  m = c0.mesh

  -- the links fit together
  abbrev s : AreSoundLinks m
  s = opening.was.valid.sound

  -- the vertex has three faces round it
  abbrev w : IsFullWheel m o
  w = full_wheel m o opening.was.valid round

  abbrev third : ℕ
  third = turn m (turn m o)

  -- the first edge may be peeled off once the third face is open
  pub first_peelable : IsPeelable c1.mesh o
  first_peelable = peelable c1.mesh o (wheel.peelable_first m o s w c1.mesh opening.opens)

  module _ {c2 : Contents V D U F} {spoke : ℕ} (one : PeelsFullEdge c1 c2 o spoke) where
    -- once the first edge is gone: one face and a hole, with the three neighbours as corners
    four : (z : ℕ) × IsHoleOfFour c2.mesh spoke z (origin m o) (neighbour m o 0) (neighbour m o 1)
        (neighbour m o 2)
    four = hole_of_four m c1.mesh c2.mesh o spoke s w opening.opens one.peels one.spoke

    -- the second edge may be peeled off once the first is gone
    pub second_peelable : IsPeelable c2.mesh spoke
    second_peelable = peelable c2.mesh spoke four.1.fan.peelable

    module _ {c3 : Contents V D U F} {pendant : ℕ} (two : PeelsFullEdge c2 c3 spoke pendant) where
      three : IsHoleOfThree c3.mesh pendant (origin m o) (neighbour m o 0) (neighbour m o 1)
          (neighbour m o 2)
      three = hole_of_three c2.mesh c3.mesh spoke four.0 pendant _ _ _ _ one.whole.valid.sound
          four.1 two.peels two.spoke

      -- the last edge is in the mesh that the two steps leave
      pub pendant_within : pendant < length c3.mesh.half_edges
      pendant_within = three.fan.within

      -- the last edge may be removed once the two others are gone
      pub pendant_removable : IsRemovable c3.mesh pendant
      pendant_removable =
          removable c3.mesh pendant (removable_last c3.mesh pendant two.whole.valid.sound three.fan)

      module _ {c4 : Contents V D U F} {border : ℕ} (border_is : border
          ≡ after_removal c3.mesh pendant (next c3.mesh pendant))
          (gone : RemovesFullEdge c3 c4 pendant) where
        -- the three edges round the hole are an open triangle once the last edge is gone
        pub border_open : IsOpenTriangle c4.mesh border
        border_open = rw border_is (open_triangle c3.mesh c4.mesh pendant two.whole.valid.sound
            three.fan gone.removes)

        -- there is still room for a face before the hole is filled
        pub has_room : length c4.faces + 1 ≤ c4.room.faces
        has_room =
            let r : c4.room.faces ≡ c1.room.faces =
            ap (λ (x : Contents V D U F). x.room.faces) gone.contents
            ∙ ap (λ (x : Contents V D U F). x.room.faces) two.contents
            ∙ ap (λ (x : Contents V D U F). x.room.faces) one.contents in
            let n : length c4.faces ≡ length c3.faces =
            ap (λ (x : Contents V D U F). length x.faces) gone.contents in
            omega (
              arith,
              opening.spare,
              r,
              n,
              opening.whole.fits.faces_fit,
              one.whole.fits.faces_fit,
              two.whole.fits.faces_fit,
              peels_faces _ _ _ one.peels,
              peels_faces _ _ _ two.peels,
            )

        -- the steps take out the vertex and fill the hole with one face
        pub collapsed : {c5 : Contents V D U F} → ClosesFullFace c4 c5 border value
            → FillsHole c0 c5 (origin m o) (neighbour m o)
        collapsed {c5} closing =
            let made : FullFace F =
            record { corners = triangle_at c4.mesh border; value = value } in
            let third_face : FullFace F =
            record { corners = triangle_at m (face_edge m (face m third)); value = value } in
            let op = opening.opens in
            let a : joins (origin c1.mesh o) (origin c1.mesh (rev o)) ≡ joins (origin m o)
            (origin m (rev o)) = λ i. joins (op.origin o i) (op.origin (rev o) i) in
            let b : triangle_at c1.mesh o ≡ triangle_at m o = λ i. record {
              first = op.origin o i;
              second = (ap (origin c1.mesh) (op.next o) ∙ op.origin (next m o)) i;
              third = (ap (origin c1.mesh) (op.prev o) ∙ op.origin (prev m o)) i;
            } in
            let k01 = opening.contents in
            let k45 = closing.contents in
            let e01 : full_edges c1 ≡ full_edges c0 = λ i. full_edges_of (opening.ends i)
            (ap (λ (x : Contents V D U F). x.undirected) k01 i)
            (ap (λ (x : Contents V D U F). x.directed) k01 i) in
            let e45 : full_edges c5 ≡ full_edges c4 = λ i. full_edges_of (closing.ends i)
            (ap (λ (x : Contents V D U F). x.undirected) k45 i)
            (ap (λ (x : Contents V D U F). x.directed) k45 i) in
            let f34 : full_faces c4 ≡ full_faces c3 = λ i. full_faces_of (gone.triangles i)
            (ap (λ (x : Contents V D U F). x.faces) gone.contents i) in
            let last = last_spoke c3.mesh pendant (origin m o) (neighbour m o 0) (neighbour m o 1)
            (neighbour m o 2) two.whole.valid.sound pendant_within three in
            let same = same_but c0 c4 c5 (same_but c0 c3 c4 (same_but c0 c2 c3
            (same_but c0 c1 c2 (same_but_faces c0 c1 k01) one.contents) two.contents)
            (same_but_edges c3 c4 gone.contents)) (same_but_faces c4 c5 k45) in
            let at_v = alone_after c3.mesh c4.mesh pendant two.whole.valid.sound pendant_removable
            three.fan.pendant gone.removes in
            let alone : IsAlone c5.mesh (origin m o) =
            rw (closing.closes.outs, ← three.start) at_v in
            let corners = closed_corners c3.mesh c4.mesh pendant _ _ _ _ two.whole.valid.sound three
            gone.removes in
            let made_is : HasCorners made (record
            { first = neighbour m o 0; second = neighbour m o 1; third = neighbour m o 2 }) =
            inr (inr (ap (triangle_at c4.mesh) border_is ∙ (λ i. record {
              first = corners.0 i;
              second = corners.1 i;
              third = corners.2 i;
            }))) in
            fills_hole c0 c1 c2 c3 c4 c5 o spoke four.0 made opening.was one.whole two.whole
            closing.whole w four.1 same alone e01 (rw a at one.edges) two.edges
            (rw last at gone.edges) e45 third_face refl refl opening.faces (rw b at one.faces)
            two.faces f34 closing.faces made_is
            (outline_filled m c1.mesh c2.mesh c3.mesh c4.mesh c5.mesh o spoke pendant border s w op
            one.peels one.spoke one.whole.valid.sound two.peels two.spoke two.whole.valid.sound
            gone.removes border_is closing.closes)
