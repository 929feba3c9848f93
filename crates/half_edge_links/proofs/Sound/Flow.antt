-- The sides of the faces and the outer edges are the two directions of the edges.
-- Lemmas: sides_add_up, sides_cancel.
use Rattle.std.proofs.Common.{◌≡◌, ◌≢◌, ◌+◌, ◌-◌, ◌*◌, ◌%◌, ◌<◌, ◌≤◌, [], ◌∷◌, ◌∙◌}
use Rattle.std.proofs.Common.{ℕ, zero, suc, List, length, get_or, refl, sym, ap, inl, inr, arith}
use Rattle.std.specs.Prelude.{ℤ, pos, ◌+ℤ◌, neg_ℤ}
use Rattle.std.proofs.lemmas.Int.{ints}
use Rattle.std.proofs.lemmas.Bool.{cases_eq}
use Rattle.std.proofs.lemmas.Bool.Decides.{nat_tests}
use Rattle.std.proofs.lemmas.List.{length-map, get_or-map}
use Rattle.half_edge_links.specs.{AreSoundLinks, around, both_ways, Ends, ends, face, face_edge}
use Rattle.half_edge_links.specs.{Mesh, next, no_ends, no_triangle, origin, outer_among, outline}
use Rattle.half_edge_links.specs.{prev, rev, total, triangle_at, triangles}
use Rattle.half_edge_links.specs.Flow.{along, SidesAddUp, SidesCancel}
use Rattle.half_edge_links.proofs.Lists.Sums.{at_place, off_place, only_at, same_sum, sum_in_pairs}
use Rattle.half_edge_links.proofs.Lists.Sums.{sum_single, sum_to, sums_added, sums_agree}
use Rattle.half_edge_links.proofs.Lists.Sums.{sums_exchanged, sums_none, total_by_place, zero_first}
use Rattle.half_edge_links.proofs.Lists.Sums.{zero_last}
use Rattle.half_edge_links.proofs.Removing.TakenLists.{count_ends, ends_at}
use Rattle.half_edge_links.proofs.Sound.Parts.{rev_of_even, rev_of_odd}
use Rattle.half_edge_links.proofs.Sound.Triangles.{IsTriangle, same_loop, triangle_at as loop_at}

swapped : (a b : ℤ) → a +ℤ b ≡ b +ℤ a
swapped a b = omega (arith, ints)

three_first : (c : ℤ) → c ≡ c +ℤ pos 0 +ℤ pos 0
three_first c = omega (arith, ints)

three_second : (c : ℤ) → c ≡ pos 0 +ℤ c +ℤ pos 0
three_second c = omega (arith, ints)

three_third : (c : ℤ) → c ≡ pos 0 +ℤ pos 0 +ℤ c
three_third c = omega (arith, ints)

same_three : (a b c x y z : ℤ) → a ≡ x → b ≡ y → c ≡ z → a +ℤ b +ℤ c ≡ x +ℤ y +ℤ z
same_three a b c x y z p q r = cc

module _ (m : Mesh) (s : AreSoundLinks m) (f : ℕ → ℕ → ℤ) where
  abbrev n : ℕ
  n = length m.half_edges

  -- what directed edge k has
  side : ℕ → ℤ
  side k = f (origin m k) (origin m (rev k))

  -- the edges, by their two directions
  over_edges : total (both_ways f) (ends m) ≡ sum_to side n
  unfolding side
  over_edges =
      let count = count_ends m s in
      total_by_place (both_ways f) (ends m) no_ends
      ∙ sums_agree _ _ (length (ends m)) (λ k k_in.
      let even : (2 * k) % 2 ≡ 0 = omega arith in
      let r0 = rev_of_even (2 * k) even in
      let r1 = rev_of_odd (2 * k) even in
      ap (both_ways f) (ends_at m k no_ends s (omega (arith, k_in, count)))
      ∙ same_sum _ _ _ _ (ap (λ j. f (origin m (2 * k)) (origin m j)) (sym r0))
      (ap (λ j. f (origin m (2 * k + 1)) (origin m j)) (sym r1)))
      ∙ sym (sum_in_pairs side (length (ends m)))
      ∙ ap (sum_to side) count

  -- the outer edges
  over_outline : (k : ℕ)
      → total (along f) (outer_among m k) ≡ sum_to (λ j. only_at 0 (side j) (face m j)) k
  unfolding side
  over_outline zero = refl
  over_outline (suc k) =
      elim (cases_eq (face m k) 0) [
        | inl is ↦
            let here : outer_among m (suc k)
            ≡ record { source = origin m k; target = origin m (rev k) } ∷ outer_among m k =
            grind (arith, nat_tests) in
            ap (total (along f)) here ∙ swapped (side k) (total (along f) (outer_among m k))
            ∙ same_sum _ _ _ _ (over_outline k) (sym (at_place 0 (side k) (face m k) is))
        | inr off ↦
            let here : outer_among m (suc k) ≡ outer_among m k = grind (arith, nat_tests) in
            ap (total (along f)) here ∙ sym (zero_last _)
            ∙ same_sum _ _ _ _ (over_outline k) (sym (off_place 0 (side k) (face m k) off))
      ]

  -- the three sides of face g
  over_face : (g : ℕ) → 0 < g → g ≤ length m.face_edges
      → around f (triangle_at m (face_edge m g)) ≡ sum_to (λ k. only_at g (side k) (face m k)) n
  unfolding side
  over_face g some within =
      let had = s.faces g some within in
      let e : ℕ = face_edge m g in
      let t : IsTriangle m e = loop_at m e s had.0 (omega (arith, had.1, some)) in
      let first : f (origin m e) (origin m (next m e)) ≡ side e =
      ap (f (origin m e)) (s.edges e t.h_in).starts in
      let second : f (origin m (next m e)) (origin m (prev m e)) ≡ side (next m e) =
      ap (f (origin m (next m e)))
      (ap (origin m) (sym t.next_next) ∙ (s.edges _ t.next_in).starts) in
      let third : f (origin m (prev m e)) (origin m e) ≡ side (prev m e) =
      ap (f (origin m (prev m e)))
      (ap (origin m) (sym t.next_prev) ∙ (s.edges _ t.prev_in).starts) in
      let x : ℕ → ℤ = only_at e (side e) in
      let y : ℕ → ℤ = only_at (next m e) (side (next m e)) in
      let z : ℕ → ℤ = only_at (prev m e) (side (prev m e)) in
      let sums : sum_to (λ k. x k +ℤ y k +ℤ z k) n ≡ side e +ℤ side (next m e) +ℤ side (prev m e) =
      sums_added (λ k. x k +ℤ y k) z n ∙ same_sum _ _ _ _ (sums_added x y n ∙ same_sum _ _ _ _
      (sum_single e (side e) n t.h_in) (sum_single (next m e) (side (next m e)) n t.next_in))
      (sum_single (prev m e) (side (prev m e)) n t.prev_in) in
      let each : (k : ℕ) → k < n → only_at g (side k) (face m k) ≡ x k +ℤ y k +ℤ z k = λ k k_in.
      elim (cases_eq (face m k) g) [
        | inl is ↦ at_place g (side k) (face m k) is
            ∙ elim (same_loop m e k s t.h_in k_in (omega (arith, had.1, some)) (is ∙ sym had.1)) [
              | inl q ↦ ap side q ∙ three_first (side e)
                  ∙ same_three _ _ _ _ _ _ (sym (at_place e (side e) k q))
                  (sym (off_place (next m e) (side (next m e)) k (λ w. t.next_differs (sym w ∙ q))))
                  (sym (off_place (prev m e) (side (prev m e)) k (λ w. t.prev_differs (sym w ∙ q))))
              | inr (inl q) ↦ ap side q ∙ three_second (side (next m e)) ∙ same_three _ _ _ _ _ _
                  (sym (off_place e (side e) k (λ w. t.next_differs (sym q ∙ w))))
                  (sym (at_place (next m e) (side (next m e)) k q))
                  (sym (off_place (prev m e) (side (prev m e)) k (λ w. t.both_differ (sym q ∙ w))))
              | inr (inr q) ↦ ap side q ∙ three_third (side (prev m e)) ∙ same_three _ _ _ _ _ _
                  (sym (off_place e (side e) k (λ w. t.prev_differs (sym q ∙ w))))
                  (sym (off_place (next m e) (side (next m e)) k (λ w. t.both_differ (sym w ∙ q))))
                  (sym (at_place (prev m e) (side (prev m e)) k q))
            ]
        | inr off ↦
            let not_e : k ≢ e = λ q. off (ap (face m) q ∙ had.1) in
            let not_next : k ≢ next m e = λ q. off (ap (face m) q ∙ t.face_next ∙ had.1) in
            let not_prev : k ≢ prev m e = λ q. off (ap (face m) q ∙ t.face_prev ∙ had.1) in
            off_place g (side k) (face m k) off ∙ three_first (pos 0)
            ∙ same_three _ _ _ _ _ _ (sym (off_place e (side e) k not_e))
            (sym (off_place (next m e) (side (next m e)) k not_next))
            (sym (off_place (prev m e) (side (prev m e)) k not_prev))
      ] in
      same_three _ _ _ _ _ _ first second third ∙ sym sums ∙ sym (sums_agree _ _ n each)

  -- all faces
  over_faces : total (around f) (triangles m)
      ≡ sum_to (λ g. sum_to (λ k. only_at (suc g) (side k) (face m k)) n) (length m.face_edges)
  unfolding side
  over_faces =
      let count = length-map m.face_edges (triangle_at m) in
      total_by_place (around f) (triangles m) no_triangle
      ∙ ap (sum_to (λ k. around f (get_or (triangles m) k no_triangle))) count
      ∙ sums_agree _ _ (length m.face_edges) (λ g g_in.
      let j : suc g - 1 ≡ g = omega arith in
      ap (around f) (get_or-map (triangle_at m) m.face_edges g 0 no_triangle g_in
      ∙ ap (λ i. triangle_at m (get_or m.face_edges i 0)) (sym j))
      ∙ over_face (suc g) (omega arith) (omega (arith, g_in)))

  -- each directed edge is an outer one or has one inner face
  one_face : (k : ℕ) → k < n → side k ≡ only_at 0 (side k) (face m k)
      +ℤ sum_to (λ g. only_at (suc g) (side k) (face m k)) (length m.face_edges)
  unfolding side
  one_face k k_in =
      elim (cases_eq (face m k) 0) [
        | inl is ↦ sym (zero_last (side k)) ∙ same_sum _ _ _ _
            (sym (at_place 0 (side k) (face m k) is)) (sym (sums_none _ (length m.face_edges)
            (λ g g_in. off_place (suc g) (side k) (face m k) (λ q. absurd (omega (arith, q, is))))))
        | inr some ↦
            let here : sum_to (λ g. only_at (suc g) (side k) (face m k)) (length m.face_edges)
            ≡ side k =
            sums_agree _ _ (length m.face_edges) (λ g g_in. elim (cases_eq g (face m k - 1)) [
              | inl q ↦ at_place (suc g) (side k) (face m k) (omega (arith, q, some))
                  ∙ sym (at_place (face m k - 1) (side k) g q)
              | inr q ↦ off_place (suc g) (side k) (face m k) (λ w. q (omega (arith, w)))
                  ∙ sym (off_place (face m k - 1) (side k) g q)
            ]) ∙ sum_single (face m k - 1) (side k) (length m.face_edges)
            (omega (arith, some, (s.edges k k_in).face_in)) in
            sym (zero_first (side k))
            ∙ same_sum _ _ _ _ (sym (off_place 0 (side k) (face m k) some)) (sym here)
      ]

  add_up : total (both_ways f) (ends m)
      ≡ total (around f) (triangles m) +ℤ total (along f) (outline m)
  add_up =
      over_edges
      ∙ sums_agree _ _ n one_face
      ∙ sums_added (λ k. only_at 0 (side k) (face m k))
      (λ k. sum_to (λ g. only_at (suc g) (side k) (face m k)) (length m.face_edges)) n
      ∙ same_sum _ _ _ _ (sym (over_outline n)) (sums_exchanged
      (λ k g. only_at (suc g) (side k) (face m k)) n (length m.face_edges) ∙ sym over_faces)
      ∙ swapped (total (along f) (outline m)) (total (around f) (triangles m))

-- the sides of the inner faces and the outer edges add up to both directions of each edge
pub sides_add_up : SidesAddUp
sides_add_up m v f = add_up m v.sound f

-- both directions of an edge count to nothing
cancel : (a b : ℤ) → a ≡ neg_ℤ b → a +ℤ b ≡ pos 0
cancel a b opposite = omega (arith, ints, opposite)

total_none : (f : ℕ → ℕ → ℤ) (es : List Ends) → ((i j : ℕ) → f i j ≡ neg_ℤ (f j i))
    → total (both_ways f) es ≡ pos 0
total_none f [] opposite = refl
total_none f (e ∷ es) opposite =
    same_sum _ _ _ _ (cancel _ _ (opposite e.source e.target)) (total_none f es opposite)
    ∙ zero_first (pos 0)

-- the sides and the outer edges cancel out where the way back counts against the way there
pub sides_cancel : SidesCancel
sides_cancel m v f opposite = sym (sides_add_up m v f) ∙ total_none f (ends m) opposite
