-- The last edge takes the index of one to which nothing refers.
-- Notions: pair_written; pair_first, pair_second, pair_other, old_left, new_left, old_rev,
-- two_filled, next_written, prev_written, count_written, origin_written, face_written, in_range,
-- joined_but, counts, renames_filled.
use Rattle.std.proofs.Common.{◌≡◌, ◌≢◌, ◌⊎◌, ◌+◌, ◌-◌, ◌%◌, ◌<◌, ◌≤◌, ◌==◌, if◌then◌else◌, ◌∙◌}
use Rattle.std.proofs.Common.{ℕ, List, length, get_or, set, Option, Some, None, refl, sym, ap, inl}
use Rattle.std.proofs.Common.{inr, arith}
use Rattle.std.proofs.lemmas.Bool.{cases_eq}
use Rattle.std.proofs.lemmas.Bool.Decides.{nat_tests}
use Rattle.std.proofs.lemmas.List.{get_or-set_same, get_or-set_other, length-set}
use Rattle.std.specs.List.{swap_remove}
use Rattle.half_edge_links.specs.{AreJoined, edge_at, edge_naming, face, face_edge, HalfEdge}
use Rattle.half_edge_links.specs.{HasLinks, IsKeptEdge, IsSoundBut, Mesh, next, no_edge, origin}
use Rattle.half_edge_links.specs.{out_edge, pair_moved, prev, renamed, rev}
use Rattle.half_edge_links.specs.Remove.{filled, with_face_renamed, with_filled, with_out_renamed}
use Rattle.{half_edge_links.proofs.Lists.Cases.◌each_with◌, half_edge_links.specs.Renames.Renames}
use Rattle.half_edge_links.proofs.Removing.OpenSound.{get_or-swap_remove_other}
use Rattle.half_edge_links.proofs.Removing.OpenSound.{get_or-swap_remove_same, length-swap_remove}
use Rattle.half_edge_links.proofs.Removing.UnlinkSound.{both, face_both, length_both, next_both}
use Rattle.half_edge_links.proofs.Removing.UnlinkSound.{next_both_other, next_of, origin_both}
use Rattle.half_edge_links.proofs.Removing.UnlinkSound.{prev_both, prev_both_other, prev_of}

-- the new index of an element
module _ (from to : ℕ) where
  -- the first of the two that move gets the first new index
  pub pair_first : pair_moved from to from ≡ to
  pair_first = grind (arith, nat_tests)

  -- the second of the two that move gets the index after it
  pub pair_second : pair_moved from to (from + 1) ≡ to + 1
  pair_second = grind (arith, nat_tests)

  -- any other index stays
  pub pair_other : (h : ℕ) → h ≢ from → h ≢ from + 1 → pair_moved from to h ≡ h
  pair_other h a b = grind (arith, nat_tests)

-- where an index is one of the two that move, or not
pair_cases : (from h : ℕ) → (h ≡ from) ⊎ ((h ≡ from + 1) ⊎ ((h ≢ from) × (h ≢ from + 1)))
pair_cases from h = grind arith

module _ (last hole : ℕ) (last_even : last % 2 ≡ 0) (hole_even : hole % 2 ≡ 0)
    (below : hole ≤ last) where
  -- the old index of a new one is that of an edge which is left
  pub old_left : (h : ℕ) → h < last
      → (pair_moved hole last h < last + 2) × (pair_moved hole last h ≢ hole)
      × (pair_moved hole last h ≢ hole + 1) × (pair_moved last hole (pair_moved hole last h) ≡ h)
  old_left h within =
      elim (pair_cases hole h) [
        | inl a ↦ rw (a, pair_first hole last) (
          omega arith,
          λ z. absurd (omega arith),
          λ z. absurd (omega arith),
          pair_first last hole,
        )
        | inr (inl a) ↦ rw (a, pair_second hole last) (
          omega arith,
          λ z. absurd (omega arith),
          λ z. absurd (omega arith),
          pair_second last hole,
        )
        | inr (inr a) ↦ rw (pair_other hole last h a.0 a.1) (
          omega arith,
          a.0,
          a.1,
          pair_other last hole h (λ z. absurd (omega arith)) (λ z. absurd (omega arith)),
        )
      ]

  -- an edge that is left gets an index below the new count, from which its old one follows
  pub new_left : (h : ℕ) → h < last + 2 → h ≢ hole → h ≢ hole + 1
      → (pair_moved last hole h < last) × (pair_moved hole last (pair_moved last hole h) ≡ h)
  new_left h within a b =
      elim (pair_cases last h) [
        | inl c ↦ rw (c, pair_first last hole) (omega arith, pair_first hole last)
        | inr (inl c) ↦ rw (c, pair_second last hole) (omega arith, pair_second hole last)
        | inr (inr c) ↦
            rw (pair_other last hole h c.0 c.1) (omega arith, pair_other hole last h a b)
      ]

  -- the old index of an edge's other side is that of the other side of its old index
  pub old_rev : (h : ℕ) → pair_moved hole last (rev h) ≡ rev (pair_moved hole last h)
  old_rev h =
      elim (pair_cases hole h) [
        | inl a ↦
            let r : rev hole ≡ hole + 1 = grind (arith, nat_tests) in
            let q : rev last ≡ last + 1 = grind (arith, nat_tests) in
            rw (a, r, pair_first hole last, pair_second hole last, q) refl
        | inr (inl a) ↦
            let r : rev (hole + 1) ≡ hole = grind (arith, nat_tests) in
            let q : rev (last + 1) ≡ last = grind (arith, nat_tests) in
            rw (a, r, pair_first hole last, pair_second hole last, q) refl
        | inr (inr a) ↦
            let away : (rev h ≢ hole) × (rev h ≢ hole + 1) = let off = a.0 in let off_next = a.1 in
            grind (arith, nat_tests) in
            rw (pair_other hole last h a.0 a.1, pair_other hole last (rev h) away.0 away.1) refl
      ]

  twice : (h : ℕ) → pair_moved last hole (pair_moved last hole h) ≡ pair_moved last hole h
  twice h =
      elim (pair_cases last h) [
        | inl c ↦ rw (c, pair_first last hole) (elim (cases_eq hole last) [
          | inl d ↦ rw (ap (pair_moved last hole) d, pair_first last hole) refl
          | inr d ↦ pair_other last hole hole d (λ z. absurd (omega arith))
        ])
        | inr (inl c) ↦ rw (c, pair_second last hole) (elim (cases_eq hole last) [
          | inl d ↦ rw (ap (λ i. pair_moved last hole (i + 1)) d, pair_second last hole) refl
          | inr d ↦
              pair_other last hole (hole + 1) (λ z. absurd (omega arith)) (λ z. d (omega arith))
        ])
        | inr (inr c) ↦ rw (pair_other last hole h c.0 c.1, pair_other last hole h c.0 c.1) refl
      ]

  twice_some : (o : Option ℕ) → renamed (pair_moved last hole) (renamed (pair_moved last hole) o)
      ≡ renamed (pair_moved last hole) o
  twice_some None = refl
  twice_some (Some h) = ap (λ (i : ℕ). let o : Option ℕ = Some i in o) (twice h)

  -- two removals of a list's last items into a pair's place
  pub two_filled : {X : Type 0} (xs : List X) (d : X) (h : ℕ) → length xs ≡ last + 2 → h < last
      → get_or (swap_remove (swap_remove xs (hole + 1) d) hole d) h d
      ≡ get_or xs (pair_moved hole last h) d
  two_filled xs d h count within =
      let one = length-swap_remove xs (hole + 1) d in
      let l : length (swap_remove xs (hole + 1) d) - 1 ≡ last = omega arith in
      let k : length xs - 1 ≡ last + 1 = omega arith in
      elim (pair_cases hole h) [
        | inl a ↦ rw (a, pair_first hole last)
            (get_or-swap_remove_same (swap_remove xs (hole + 1) d) hole d (omega arith)
            ∙ ap (λ i. get_or (swap_remove xs (hole + 1) d) i d) l ∙ get_or-swap_remove_other xs
            (hole + 1) last d (omega arith) (λ z. absurd (omega arith)))
        | inr (inl a) ↦ rw (a, pair_second hole last) (get_or-swap_remove_other (swap_remove xs
            (hole + 1) d) hole (hole + 1) d (omega arith) (λ z. absurd (omega arith))
            ∙ get_or-swap_remove_same xs (hole + 1) d (omega arith) ∙ ap (λ i. get_or xs i d) k)
        | inr (inr a) ↦ rw (pair_other hole last h a.0 a.1)
            (get_or-swap_remove_other (swap_remove xs (hole + 1) d) hole h d (omega arith) a.0
            ∙ get_or-swap_remove_other xs (hole + 1) h d (omega arith) a.1)
      ]

abbrev out_of : List (Option ℕ) → ℕ → Option ℕ
out_of os v = get_or os v None

is_zero : {X : Type 0} (f : ℕ) → f ≡ 0 → (x y : X) → (if f == 0 then x else y) ≡ x
is_zero f z x y = rw z refl

not_zero : {X : Type 0} (f : ℕ) → f ≢ 0 → (x y : X) → (if f == 0 then x else y) ≡ y
not_zero f some x y = grind (arith, nat_tests)

-- a link of edge k where edges a and b, which had links to the two edges that move, were written
twice_written : (was one two : ℕ → ℕ) (last hole a b k : ℕ) → was a ≡ last → was b ≡ last + 1
    → (was k ≡ last → k ≡ a) → (was k ≡ last + 1 → k ≡ b) → one a ≡ hole
    → ((j : ℕ) → j ≢ a → one j ≡ was j) → two b ≡ hole + 1 → ((j : ℕ) → j ≢ b → two j ≡ one j)
    → two k ≡ pair_moved last hole (was k)
twice_written was one two last hole a b k at_a at_b is_a is_b first first_off second second_off =
    elim (pair_cases last (was k)) [
      | inl i ↦ second_off k (λ z. absurd (omega (arith, i, ap was z, at_b))) ∙ ap one (is_a i)
          ∙ first ∙ sym (ap (pair_moved last hole) i ∙ pair_first last hole)
      | inr (inl i) ↦ ap two (is_b i) ∙ second
          ∙ sym (ap (pair_moved last hole) i ∙ pair_second last hole)
      | inr (inr i) ↦ second_off k (λ z. i.1 (ap was z ∙ at_b))
          ∙ first_off k (λ z. i.0 (ap was z ∙ at_a)) ∙ sym (pair_other last hole (was k) i.0 i.1)
    ]

module _ (hs : List HalfEdge) (last hole : ℕ) where
  abbrev first : List HalfEdge
  first = both hs (prev_of hs last) hole (next_of hs last) hole

  -- the links to the last two edges lead to their new places
  abbrev pub pair_written : List HalfEdge
  pair_written = both first (prev_of hs (last + 1)) (hole + 1) (next_of hs (last + 1)) (hole + 1)

  module _ (j : AreJoined hs) (at_last : length hs ≡ last + 2) where
    last_in : last < length hs
    last_in = omega arith

    odd_in : last + 1 < length hs
    odd_in = omega arith

    -- the edge after one is the same, under its new index
    pub next_written : (k : ℕ) → k < length hs
        → next_of pair_written k ≡ pair_moved last hole (next_of hs k)
    next_written k within =
        twice_written (next_of hs) (next_of first) (next_of pair_written) last hole
        (prev_of hs last) (prev_of hs (last + 1)) k (j.next_prev last last_in)
        (j.next_prev (last + 1) odd_in)
        (λ i. sym (j.prev_next k within) ∙ ap (prev_of hs) i)
        (λ i. sym (j.prev_next k within) ∙ ap (prev_of hs) i)
        (next_both hs (prev_of hs last) hole (next_of hs last) hole (j.prev_in last last_in))
        (next_both_other hs (prev_of hs last) hole (next_of hs last) hole)
        (next_both first (prev_of hs (last + 1)) (hole + 1) (next_of hs (last + 1)) (hole + 1)
        (rw (length_both hs (prev_of hs last) hole (next_of hs last) hole)
        (j.prev_in (last + 1) odd_in)))
        (next_both_other first (prev_of hs (last + 1)) (hole + 1)
        (next_of hs (last + 1)) (hole + 1))

    -- the edge before one is the same, under its new index
    pub prev_written : (k : ℕ) → k < length hs
        → prev_of pair_written k ≡ pair_moved last hole (prev_of hs k)
    prev_written k within =
        twice_written (prev_of hs) (prev_of first) (prev_of pair_written) last hole
        (next_of hs last) (next_of hs (last + 1)) k (j.prev_next last last_in)
        (j.prev_next (last + 1) odd_in)
        (λ i. sym (j.next_prev k within) ∙ ap (next_of hs) i)
        (λ i. sym (j.next_prev k within) ∙ ap (next_of hs) i)
        (prev_both hs (prev_of hs last) hole (next_of hs last) hole (j.next_in last last_in))
        (prev_both_other hs (prev_of hs last) hole (next_of hs last) hole)
        (prev_both first (prev_of hs (last + 1)) (hole + 1) (next_of hs (last + 1)) (hole + 1)
        (rw (length_both hs (prev_of hs last) hole (next_of hs last) hole)
        (j.next_in (last + 1) odd_in)))
        (prev_both_other first (prev_of hs (last + 1)) (hole + 1)
        (next_of hs (last + 1)) (hole + 1))

    -- there are as many edges
    pub count_written : length pair_written ≡ last + 2
    count_written = length_both first (prev_of hs (last + 1)) (hole + 1) (next_of hs (last + 1))
        (hole + 1) ∙ length_both hs (prev_of hs last) hole (next_of hs last) hole ∙ at_last

    -- each edge starts where it did
    pub origin_written : (k : ℕ) → (edge_at pair_written k).origin ≡ (edge_at hs k).origin
    origin_written k = origin_both first (prev_of hs (last + 1)) (hole + 1) (next_of hs (last + 1))
        (hole + 1) k ∙ origin_both hs (prev_of hs last) hole (next_of hs last) hole k

    -- each edge has its face
    pub face_written : (k : ℕ) → (edge_at pair_written k).face ≡ (edge_at hs k).face
    face_written k = face_both first (prev_of hs (last + 1)) (hole + 1) (next_of hs (last + 1))
        (hole + 1) k ∙ face_both hs (prev_of hs last) hole (next_of hs last) hole k

module _ (m : Mesh) (last hole : ℕ) (b : IsSoundBut m hole)
    (at_last : length m.half_edges ≡ last + 2) where
  last_even : last % 2 ≡ 0
  last_even = let e = b.even in omega arith

  below : hole ≤ last
  below = let w = b.within in let e = b.hole_even in let f = b.even in omega arith

  -- the new index of an edge
  abbrev to : ℕ → ℕ
  to h = pair_moved last hole h

  -- the old index of an edge
  abbrev old : ℕ → ℕ
  old h = pair_moved hole last h

  -- the links of each edge lead to edges, and back
  pub in_range : (l : ℕ) → l < length m.half_edges → (next m l < length m.half_edges)
      × (prev m l < length m.half_edges) × (prev m (next m l) ≡ l) × (next m (prev m l) ≡ l)
  in_range l within =
      elim (pair_cases hole l) [
        | inl i ↦ let n = b.next_self in let p = b.prev_self in
            rw (i, n, p) (rw (← i) within, rw (← i) within, refl, n)
        | inr (inl i) ↦ let n = b.twin_next_self in let p = b.twin_prev_self in
            rw (i, n, p) (rw (← i) within, rw (← i) within, refl, n)
        | inr (inr i) ↦ let here = b.edges l within i.0 i.1 in
            (here.next_in, here.prev_in, here.prev_next, here.next_prev)
      ]

  -- the links of the mesh are joined
  pub joined_but : AreJoined m.half_edges
  joined_but = record {
    next_in = λ l within. (in_range l within).0;
    prev_in = λ l within. (in_range l within).1;
    prev_next = λ l within. (in_range l within).2;
    next_prev = λ l within. (in_range l within).3;
  }

  filled_count : length (with_filled m.half_edges last hole) ≡ last
  unfolding with_filled
  filled_count =
      let second : List HalfEdge = pair_written m.half_edges last hole in
      omega (
        arith,
        length-swap_remove (swap_remove second (hole + 1) no_edge) hole no_edge,
        length-swap_remove second (hole + 1) no_edge,
        count_written m.half_edges last hole joined_but at_last,
      )

  edge_filled : (h : ℕ) → h < last → edge_at (with_filled m.half_edges last hole) h
      ≡ edge_at (pair_written m.half_edges last hole) (old h)
  unfolding with_filled
  edge_filled h within =
      two_filled last hole last_even b.hole_even below (pair_written m.half_edges last hole) no_edge
      h (count_written m.half_edges last hole joined_but at_last) within

  links : (h : ℕ) → h < last → HasLinks (filled m last hole) h (origin m (old h))
      (to (next m (old h))) (to (prev m (old h))) (face m (old h))
  unfolding filled
  links h within =
      let at = edge_filled h within in
      let live = old_left last hole last_even b.hole_even below h within in
      let g_in : old h < length m.half_edges = omega (arith, live.0) in
      record {
        origin = ap (λ (e : HalfEdge). e.origin) at
            ∙ origin_written m.half_edges last hole joined_but at_last (old h);
        next = ap (λ (e : HalfEdge). e.next) at
            ∙ next_written m.half_edges last hole joined_but at_last (old h) g_in;
        prev = ap (λ (e : HalfEdge). e.prev) at
            ∙ prev_written m.half_edges last hole joined_but at_last (old h) g_in;
        face = ap (λ (e : HalfEdge). e.face) at
            ∙ face_written m.half_edges last hole joined_but at_last (old h);
      }

  -- what the lists that name edges are afterwards
  no_out : (v : ℕ) → v ≢ origin m last → v ≢ origin m (last + 1) → (o : Option ℕ) → out_edge m v ≡ o
      → o ≡ renamed (pair_moved last hole) o
  no_out v a c None is = refl
  no_out v a c (Some h) is =
      let had = b.vertices v h is in
      let same = pair_other last hole h (λ z. a (sym had.1 ∙ ap (origin m) z))
      (λ z. c (sym had.1 ∙ ap (origin m) z)) in
      ap (λ (i : ℕ). let o : Option ℕ = Some i in o) (sym same)

  out_at : (outs : List (Option ℕ)) (v : ℕ) → v < length outs → out_of
      (with_out_renamed outs v last hole) v ≡ renamed (pair_moved last hole) (out_of outs v)
  unfolding with_out_renamed
  out_at outs v within = get_or-set_same outs v _ None within

  out_off : (outs : List (Option ℕ)) (v u : ℕ) → u ≢ v
      → out_of (with_out_renamed outs v last hole) u ≡ out_of outs u
  unfolding with_out_renamed
  out_off outs v u differs = get_or-set_other outs v u _ None differs

  length_out : (outs : List (Option ℕ)) (v : ℕ)
      → length (with_out_renamed outs v last hole) ≡ length outs
  unfolding with_out_renamed
  length_out outs v = length-set outs v _

  -- each vertex names the edge that it named, by its new index
  outs : (v : ℕ) → v < length m.out_edges
      → out_edge (filled m last hole) v ≡ renamed (pair_moved last hole) (out_edge m v)
  unfolding filled
  outs v within =
      let one : List (Option ℕ) = with_out_renamed m.out_edges (origin m last) last hole in
      let one_in : v < length one = rw (length_out m.out_edges (origin m last)) within in
      elim (cases_eq v (origin m (last + 1)) each_with cases_eq v (origin m last)) [
        | inl (i, inl j) ↦ rw (← i) (out_at one v one_in
            ∙ rw (← j) (ap (renamed (pair_moved last hole)) (out_at m.out_edges v within)
            ∙ twice_some last hole last_even b.hole_even below (out_edge m v)))
        | inl (i, inr j) ↦ rw (← i) (out_at one v one_in
            ∙ ap (renamed (pair_moved last hole)) (out_off m.out_edges (origin m last) v j))
        | inr (i, inl j) ↦
            out_off one (origin m (last + 1)) v i ∙ rw (← j) (out_at m.out_edges v within)
        | inr (i, inr j) ↦ out_off one (origin m (last + 1)) v i
            ∙ out_off m.out_edges (origin m last) v j ∙ no_out v j i (out_edge m v) refl
      ]

  face_at : (fs : List ℕ) (f : ℕ) → 0 < f → f ≤ length fs → get_or
      (with_face_renamed fs f last hole) (f - 1) 0 ≡ pair_moved last hole (get_or fs (f - 1) 0)
  unfolding with_face_renamed
  face_at fs f some within = elim (cases_eq f 0) [
    | inl z ↦ absurd (omega arith)
    | inr some' ↦
        rw (not_zero f some' fs (set fs (f - 1) (pair_moved last hole (get_or fs (f - 1) 0))))
        (get_or-set_same fs (f - 1) _ 0 (omega arith))
  ]

  face_off : (fs : List ℕ) (f g : ℕ) → 0 < g → g ≢ f
      → get_or (with_face_renamed fs f last hole) (g - 1) 0 ≡ get_or fs (g - 1) 0
  unfolding with_face_renamed
  face_off fs f g some differs = elim (cases_eq f 0) [
    | inl z ↦ rw (is_zero f z fs (set fs (f - 1) (pair_moved last hole (get_or fs (f - 1) 0)))) refl
    | inr some' ↦
        rw (not_zero f some' fs (set fs (f - 1) (pair_moved last hole (get_or fs (f - 1) 0))))
        (get_or-set_other fs (f - 1) (g - 1) _ 0 (λ z. differs (omega arith)))
  ]

  length_face : (fs : List ℕ) (f : ℕ) → length (with_face_renamed fs f last hole) ≡ length fs
  unfolding with_face_renamed
  length_face fs f = elim (cases_eq f 0) [
    | inl z ↦ rw (is_zero f z fs (set fs (f - 1) (pair_moved last hole (get_or fs (f - 1) 0)))) refl
    | inr some' ↦ rw (not_zero f some' fs
        (set fs (f - 1) (pair_moved last hole (get_or fs (f - 1) 0)))) (length-set fs (f - 1) _)
  ]

  named : (f : ℕ) → 0 < f → f ≤ length m.face_edges
      → face_edge (filled m last hole) f ≡ pair_moved last hole (face_edge m f)
  unfolding filled
  named f some within =
      let one : List ℕ = with_face_renamed m.face_edges (face m last) last hole in
      let one_in : f ≤ length one = rw (length_face m.face_edges (face m last)) within in
      elim (cases_eq f (face m (last + 1)) each_with cases_eq f (face m last)) [
        | inl (i, inl j) ↦ rw (← i) (face_at one f some one_in
            ∙ rw (← j) (ap (pair_moved last hole) (face_at m.face_edges f some within)
            ∙ twice last hole last_even b.hole_even below (face_edge m f)))
        | inl (i, inr j) ↦ rw (← i) (face_at one f some one_in
            ∙ ap (pair_moved last hole) (face_off m.face_edges (face m last) f some j))
        | inr (i, inl j) ↦ face_off one (face m (last + 1)) f some i
            ∙ rw (← j) (face_at m.face_edges f some within)
        | inr (i, inr j) ↦
            let had = b.faces f some within in
            let same = pair_other last hole (face_edge m f) (λ z. j (sym had.1 ∙ ap (face m) z))
            (λ z. i (sym had.1 ∙ ap (face m) z)) in
            face_off one (face m (last + 1)) f some i
            ∙ face_off m.face_edges (face m last) f some j ∙ sym same
      ]

  -- there are two directed edges fewer, and as many vertices and faces as before
  pub counts : (length (filled m last hole).half_edges ≡ last)
      × (length (filled m last hole).out_edges ≡ length m.out_edges)
      × (length (filled m last hole).face_edges ≡ length m.face_edges)
  unfolding filled
  counts = (
    filled_count,
    length_out (with_out_renamed m.out_edges (origin m last) last hole) (origin m (last + 1))
        ∙ length_out m.out_edges (origin m last),
    length_face (with_face_renamed m.face_edges (face m last) last hole) (face m (last + 1))
        ∙ length_face m.face_edges (face m last),
  )

  -- each edge but the two of the hole has a new index
  kept : (h : ℕ) → h < length m.half_edges → h ≢ hole → h ≢ hole + 1
      → IsKeptEdge (filled m last hole) (edge_naming last hole) h
  kept h within a c =
      let k = new_left last hole last_even b.hole_even below h (omega arith) a c in
      record { within = omega (arith, counts.0, k.0); back = k.1 }

  outer_is : (filled m last hole).outer_edge ≡ renamed (pair_moved last hole) m.outer_edge
  unfolding filled
  outer_is = refl

  -- the mesh in which the last edge has the free index is the old one under new indexes
  pub renames_filled : Renames m (filled m last hole) (edge_naming last hole)
  renames_filled =
      record {
        even = rw counts.0 last_even;
        edges = λ h within.
            let h_in : h < last = omega (arith, counts.0) in
            let live = old_left last hole last_even b.hole_even below h h_in in
            let g_in : old h < length m.half_edges = omega (arith, live.0) in
            let here = b.edges (old h) g_in live.1 live.2 in
            let nn = b.next_next (old h) g_in live.1 live.2 in
            let pp = b.prev_prev (old h) g_in live.1 live.2 in
            record {
              links = links h h_in;
              sound = here;
              back = live.3;
              next_kept = kept (next m (old h)) here.next_in nn.0 nn.1;
              prev_kept = kept (prev m (old h)) here.prev_in pp.0 pp.1;
              rev_is = old_rev last hole last_even b.hole_even below h;
              origin_in = rw counts.1 here.origin_in;
              origin_back = refl;
              face_in = rw counts.2 here.face_in;
              face_kept = λ some. (some, refl);
            };
        vertices = λ v within. record {
          out = outs v (rw counts.1 at within);
          kept = λ h is. let had = b.vertices v h is in (kept h had.0 had.2 had.3, had.1);
          back = refl;
        };
        faces = λ f some within.
            let had = b.faces f some (rw counts.2 at within) in
            record {
              named = named f some (rw counts.2 at within);
              kept = kept _ had.0 had.2 had.3;
              of = had.1;
              back = refl;
            };
        outer = outer_is;
        outer_kept = λ h is. let had = b.outer h is in (kept h had.0 had.2 had.3, had.1);
        outer_face = refl;
        has_outer = λ some. b.has_outer (omega (arith, counts.0));
      }
