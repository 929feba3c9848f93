-- The lists of the edges of a vertex and of the outer loop.
-- Lemmas: round_fits, gives_round, gives_loop, goes_round, goes_along.
use Rattle.std.proofs.Common.{◌≡◌, ◌≢◌, ◌⊎◌, ◌+◌, ◌-◌, ◌<◌, ◌≤◌, ◌∙◌}
use Rattle.std.proofs.Common.{ℕ, zero, suc, length, Option, Some, None, IfSome, IfNone}
use Rattle.std.proofs.Common.{sym, ap, subst, inl, inr, arith}
use Rattle.std.specs.Borrow.{Bor}
use Rattle.std.proofs.lemmas.Bool.{cases_eq, cases_lt}
use Rattle.half_edge_links.specs.{AreSoundLinks, face, HasOneOutline, IsClosedAlong, IsRound}
use Rattle.half_edge_links.specs.{IsValidMesh, iterate, Mesh, next, out_edge, prev, turn}
use Rattle.{half_edge_links.proofs.Lists.Orbits.comes_back, half_edge_links.proofs.turn_in}
use Rattle.half_edge_links.proofs.{Lists.OneOrbit.edges_go_round, Removing.Conditions.turn_one}
use Rattle.half_edge_links.proofs.Lists.Walks.{among_steps, from_steps, steps_closed, to_steps}
use Rattle.half_edge_dcel.specs.{Contents, each_in, EdgeWalk, GivesOuterLoop, GivesRound, IsEnding}
use Rattle.half_edge_dcel.specs.{IsMeshWithData, Rounds.IsOuterLoop, walk, Walks.walk_left}
use Rattle.half_edge_dcel.proofs.Ranges.{out_edge-within, outer_edge-within}
use Rattle.half_edge_dcel.proofs.Walks.{comes_round, ended, none_left, walk-list, walk_left_is}

-- a round has no more edges than the mesh
pub round_fits : (m : Mesh) (u first count : ℕ) → IsValidMesh m → IsRound m u first count
    → count ≤ length m.half_edges
round_fits m u first count v r =
    let k = comes_back (turn m) (length m.half_edges) (λ a a_in. turn_in m v a a_in)
    (turn_one m v.sound) first (r.within 0) in
    elim (cases_lt k.0 count) [
      | inl less ↦ absurd (r.apart 0 k.0 k.1 less (sym k.3))
      | inr more ↦ omega (arith, more, k.2)
    ]

-- the walk round a vertex from the edge that it names gives its edges, each once
pub gives_round : {V D U F : Type 0} (d : Bor (Contents V D U F)) (v first : ℕ)
    → IsMeshWithData d.now → out_edge d.now.mesh v ≡ Some first
    → GivesRound d v (each_in d (walk (turn d.now.mesh) first (length d.now.directed) first))
gives_round d v first w named = record {
  alone = λ none. let e : Some first ≡ None = sym named ∙ none in absurd (cc);
  round = λ other is.
      let m : Mesh = d.now.mesh in
      let same : first ≡ other = let e : Some first ≡ Some other = sym named ∙ is in cc in
      let r = edges_go_round m w.valid v first named in
      let enough = round_fits m v first r.0 w.valid r.1 in
      let whole : 0 + r.0 ≡ r.0 = omega arith in
      let home = rw whole at (r.1.back 0) in
      let fuel : r.0 ≤ length d.now.directed = omega (arith, enough, w.fits.directed_fit) in
      let listed = walk-list (turn m) first r.0 (length d.now.directed)
      (λ i some less back. r.1.apart 0 i some less (sym back)) home r.1.some fuel in
      rw (← same) (r.0, r.1, ap (each_in d) listed);
}

-- the first number of steps along the outer loop after which it is back
module _ (m : Mesh) (first : ℕ) where
  back_up_to : (n : ℕ) → ((k : ℕ) × (0 < k) × (k ≤ n) × (iterate (next m) k first ≡ first)
      × ((j : ℕ) → 0 < j → j < k → iterate (next m) j first ≢ first))
      ⊎ ((j : ℕ) → 0 < j → j ≤ n → iterate (next m) j first ≢ first)
  back_up_to zero = inr (λ j some less. absurd (omega arith))
  back_up_to (suc n) =
      elim (back_up_to n) [
        | inl found ↦ inl (found.0, found.1, omega (arith, found.2), found.3, found.4)
        | inr none ↦ elim (cases_eq (iterate (next m) (suc n) first) first) [
          | inl back ↦ inl (
            suc n,
            omega arith,
            omega arith,
            back,
            λ j some less. none j some (omega (arith, less)),
          )
          | inr off ↦ inr (λ j some less. elim (cases_eq j (suc n)) [
            | inl last ↦ λ q. off (ap (λ i. iterate (next m) i first) (sym last) ∙ q)
            | inr other ↦ none j some (omega (arith, less, other))
          ])
        ]
      ]

  module _ (s : AreSoundLinks m) (first_in : first < length m.half_edges)
      (first_outer : face m first ≡ 0) where
    along_in : (i : ℕ) → iterate (next m) i first < length m.half_edges
    along_in zero = first_in
    along_in (suc i) = (s.edges _ (along_in i)).next_in

    along_outer : (i : ℕ) → face m (iterate (next m) i first) ≡ 0
    along_outer zero = first_outer
    along_outer (suc i) = (s.edges _ (along_in i)).same_face ∙ along_outer i

    -- equal places are equal so many steps before
    back_by : (i d : ℕ) → iterate (next m) i first ≡ iterate (next m) (i + d) first
        → first ≡ iterate (next m) d first
    back_by zero d same = let e : 0 + d ≡ d = omega arith in rw e at same
    back_by (suc i) d same =
        let e : suc i + d ≡ suc (i + d) = omega arith in
        let again : next m (iterate (next m) i first) ≡ next m (iterate (next m) (i + d) first) =
        rw e at same in
        back_by i d (sym (s.edges _ (along_in i)).prev_next ∙ ap (prev m) again
        ∙ (s.edges _ (along_in (i + d))).prev_next)

    -- where there is one loop, it has each outer edge
    all_along : (count : ℕ) → 0 < count → iterate (next m) count first ≡ first → HasOneOutline m
        → (h : ℕ) → h < length m.half_edges → face m h ≡ 0
        → (i : ℕ) × (i < count) × (h ≡ iterate (next m) i first)
    all_along count some back one h within outer =
        let last : suc (count - 1) ≡ count = omega (arith, some) in
        let round : next m (iterate (next m) (count - 1) first) ≡ first =
        ap (λ j. iterate (next m) j first) last ∙ back in
        let closed : IsClosedAlong m (among_steps (next m) first (count - 1)) =
        λ g g_in zero is. steps_closed (next m) first (count - 1) round g is in
        let at = from_steps (next m) first (count - 1) h
        (one (among_steps (next m) first (count - 1)) closed first h first_in within first_outer
        outer (to_steps (next m) first (count - 1) 0 (omega arith))) in
        (at.0, omega (arith, at.1, some), at.2)

    outer_loop : (count : ℕ) × IsOuterLoop m first count × (count ≤ length m.half_edges)
    outer_loop =
        let k = comes_back (next m) (length m.half_edges) (λ a a_in. (s.edges a a_in).next_in)
        (λ a b a_in b_in same. sym (s.edges a a_in).prev_next ∙ ap (prev m) same
        ∙ (s.edges b b_in).prev_next) first first_in in
        elim (back_up_to (length m.half_edges)) [
          | inr none ↦ absurd (none k.0 k.1 k.2 k.3)
          | inl found ↦ (
            found.0,
            record {
              some = found.1;
              back = found.3;
              within = along_in;
              outer = along_outer;
              apart = λ i j less j_in same.
                  let d : i + (j - i) ≡ j = omega (arith, less) in
                  found.4 (j - i) (omega (arith, less)) (omega (arith, less, j_in))
                  (sym (back_by i (j - i) (same ∙ ap (λ q. iterate (next m) q first) (sym d))));
              all = λ one h within outer. all_along found.0 found.1 found.3 one h within outer;
            },
            found.2,
          )
        ]

-- the walk from the edge that the outer face names gives the edges of its loop, each once
pub gives_loop : {V D U F : Type 0} (d : Bor (Contents V D U F)) (first : ℕ) → IsMeshWithData d.now
    → d.now.mesh.outer_edge ≡ Some first
    → GivesOuterLoop d (each_in d (walk (next d.now.mesh) first (length d.now.directed) first))
gives_loop d first w named = record {
  empty = λ none. let e : Some first ≡ None = sym named ∙ none in absurd (cc);
  loop = λ other is.
      let m : Mesh = d.now.mesh in
      let same : first ≡ other = let e : Some first ≡ Some other = sym named ∙ is in cc in
      let at = w.valid.sound.outer first named in
      let r = outer_loop m first w.valid.sound at.0 at.1 in
      let fuel : r.0 ≤ length d.now.directed = omega (arith, r.2, w.fits.directed_fit) in
      let listed = walk-list (next m) first r.0 (length d.now.directed)
      (λ i some less back. r.1.apart 0 i some less (sym back)) r.1.back r.1.some fuel in
      rw (← same) (r.0, r.1, ap (each_in d) listed);
}

-- a walk from an edge to itself, by a step that leads no two edges to one, comes to its end
module _ {V D U F : Type 0} (f : Mesh → ℕ → ℕ) (w : EdgeWalk V D U F) (d : Bor (Contents V D U F))
    (first : ℕ) (mesh : w.dcel ≡ d) (next_is : w.next ≡ first) (end_is : w.end ≡ first)
    (left_is : w.left ≡ length d.now.directed) where
  begins : (n : ℕ) → length d.now.directed ≡ n → first < n
      → ((x : ℕ) → x < n → f d.now.mesh x < n)
      → ((x y : ℕ) → x < n → y < n → f d.now.mesh x ≡ f d.now.mesh y → x ≡ y) → IsEnding f w
  begins n count within closed one some =
      let k = comes_back (f d.now.mesh) n closed one first within in
      let last : suc (k.0 - 1) ≡ k.0 = omega (arith, k.1) in
      let back : iterate (f d.now.mesh) (suc (k.0 - 1)) first ≡ first =
      ap (λ i. iterate (f d.now.mesh) i first) last ∙ k.3 in
      rw (mesh, next_is, end_is, left_is, count)
      (comes_round (f d.now.mesh) first (k.0 - 1) n first back (omega (arith, k.1, k.2)))

module _ {V D U F : Type 0} (w : EdgeWalk V D U F) (d : Bor (Contents V D U F)) (first : ℕ)
    (whole : IsMeshWithData d.now) (within : first < length d.now.directed) (mesh : w.dcel ≡ d)
    (next_is : w.next ≡ first) (end_is : w.end ≡ first)
    (left_is : w.left ≡ length d.now.directed) where
  first_in : first < length d.now.mesh.half_edges
  first_in = omega (arith, within, whole.fits.directed_fit)

  -- the round of a vertex does
  round_begins : IsEnding turn w
  round_begins =
      begins turn w d first mesh next_is end_is left_is _ whole.fits.directed_fit first_in
      (λ a a_in. turn_in d.now.mesh whole.valid a a_in) (turn_one d.now.mesh whole.valid.sound)

  -- and the outer loop
  loop_begins : IsEnding next w
  loop_begins =
      let s : AreSoundLinks d.now.mesh = whole.valid.sound in
      begins next w d first mesh next_is end_is left_is _ whole.fits.directed_fit first_in
      (λ a a_in. (s.edges a a_in).next_in)
      (λ a b a_in b_in same. sym (s.edges a a_in).prev_next ∙ ap (prev d.now.mesh) same
      ∙ (s.edges b b_in).prev_next)

-- a walk from the edge that is named on, or over none where none is named
module _ {V D U F : Type 0} (w : EdgeWalk V D U F) (d : Bor (Contents V D U F))
    (whole : IsMeshWithData d.now) (mesh : w.dcel ≡ d) where
  -- by a vertex: it goes round the vertex
  pub goes_round : (v : ℕ) (named : Option ℕ) → out_edge d.now.mesh v ≡ named
      → IfNone named (w.left ≡ 0) → IfSome named (λ h. (w.next ≡ h) × (w.end ≡ h)
      × (w.left ≡ length d.now.directed)) → IsEnding turn w × GivesRound d v (walk_left turn w)
  goes_round v None is none some = (
    ended turn w none,
    record {
      alone = λ _. none_left turn w none;
      round = λ first at. let e : None ≡ Some first = sym is ∙ at in absurd (cc);
    },
  )
  goes_round v (Some h) is none some = (
    round_begins w d h whole (out_edge-within d.now v _ whole is) mesh some.0 some.1 some.2,
    subst (GivesRound d v) (sym (walk_left_is turn w d _ _ _ mesh some.1 some.2 some.0))
        (gives_round d v h whole is),
  )

  -- by the outer face: it goes along the outer loop
  pub goes_along : (named : Option ℕ) → d.now.mesh.outer_edge ≡ named
      → IfNone named (w.left ≡ 0) → IfSome named (λ h. (w.next ≡ h) × (w.end ≡ h)
      × (w.left ≡ length d.now.directed)) → IsEnding next w × GivesOuterLoop d (walk_left next w)
  goes_along None is none some = (
    ended next w none,
    record {
      empty = λ _. none_left next w none;
      loop = λ first at. let e : None ≡ Some first = sym is ∙ at in absurd (cc);
    },
  )
  goes_along (Some h) is none some = (
    loop_begins w d h whole (outer_edge-within d.now _ whole is) mesh some.0 some.1 some.2,
    subst (GivesOuterLoop d) (sym (walk_left_is next w d _ _ _ mesh some.1 some.2 some.0))
        (gives_loop d h whole is),
  )
