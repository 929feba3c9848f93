-- What becomes of the constraints where a vertex is appended: one that it is strictly within
-- becomes two.
-- Lemmas: whole_mesh, adding_splits_none, split_without_mark, split_with_mark.
use Rattle.std.proofs.Common.{◌≡◌, ◌≢◌, ◌⊎◌, ◌*◌, ◌/◌, ◌<◌, [], ◌∷◌, ◌++◌}
use Rattle.std.proofs.Common.{ℕ, Bool, true, false, List, length, map, set}
use Rattle.std.proofs.Common.{sym, ap, ◌∙◌, subst, Some, inl, inr, arith}
use Rattle.std.specs.Prelude.{◌↔◌, Contains, slice_get}
use Rattle.std.proofs.lemmas.Bool.{cases_eq}
use Rattle.std.proofs.lemmas.Option.{slice_get_within, get_or_from_slice_get}
use Rattle.plane.specs.{IsHalf, IsSamePair, Joins, place, Point, whole, WithinSegment}
use Rattle.{plane.proofs.pair_turned, plane_theorems.proofs.turned_within}
use Rattle.half_edge_links.specs.{Ends, ends, Mesh, origin, rev}
use Rattle.half_edge_dcel.specs.{Contents, Edge, edges, IsMeshWithData}
use Rattle.delaunay_legalization.specs.{constraint_pairs, constraints_by, edges_of, HasEdgeData}
use Rattle.delaunay_legalization.specs.{IsTriangulated, IsWithinEdge, marked_edges, not_both}
use Rattle.delaunay_legalization.specs.{pair_of, points_and_constraints_by, state_of}
use Rattle.{delaunay_legalization.proofs.one_value, delaunay_vertices.proofs.MarkedEdges.own_ends}
use Rattle.delaunay_legalization.proofs.{EdgePairs.Contains-map, MarkedPairs.marking_joins}
use Rattle.delaunay_legalization.proofs.MeshStays.{same_pair_back, same_pair_on}
use Rattle.delaunay_vertices.specs.{AddsOnly, SplitsAt, SplitsConstraints}
use Rattle.delaunay_vertices.proofs.DataGrowing.{parts_of_edge, within_both}
use Rattle.delaunay_vertices.proofs.MarkedEdges.{joined_with_mark, joins_with_mark, JoinsWithMark}
use Rattle.delaunay_vertices.proofs.NewVertex.{not_within, source_in, target_in}

-- what is triangulated is a mesh with its data
pub whole_mesh : {V D U F : Type 0} {at : V → Point} (c : Contents V D U F)
    → IsTriangulated at (state_of c) → IsMeshWithData c
whole_mesh c kept = record { valid = kept.valid; fits = kept.fits }

-- the edges that stay, where v is appended
module _ {V D U F : Type 0} (at : V → Point) (v : V) (old new : Contents V D U F)
    (was : IsTriangulated at (state_of old)) (now : IsTriangulated at (state_of new))
    (vertices : new.vertices ≡ old.vertices ++ v ∷ []) where
  abbrev WithinPair : ℕ → ℕ → Type 0
  WithinPair a b =
      WithinSegment (place (map at old.vertices) a) (place (map at old.vertices) b) (whole (at v))

  turned_pair : (a b i j : ℕ) → IsSamePair a b i j → WithinPair i j → WithinPair a b
  turned_pair a b i j (inl s) w =
      subst (λ (x : ℕ × ℕ). WithinPair x.0 x.1) (λ o. (sym s.0 o, sym s.1 o)) w
  turned_pair a b i j (inr s) w =
      subst (λ (x : ℕ × ℕ). WithinPair x.0 x.1) (λ o. (sym s.0 o, sym s.1 o))
      (turned_within (place (map at old.vertices) i) (place (map at old.vertices) j)
      (whole (at v)) w)

  -- an edge that keeps its ends does not have v strictly within
  none_within : (k : ℕ) (e : Edge U) (a b : ℕ) → slice_get (edges old) k ≡ Some e →
      (let x : Ends = record { source = e.source; target = e.target } in
      slice_get (ends new.mesh) k ≡ Some x) →
      IsSamePair a b e.source e.target → ¬ WithinPair a b
  none_within k e a b h pair same w =
      not_within at v (state_of old) (state_of new) was now vertices e.source e.target
      (subst (λ (i : ℕ). i < length old.vertices) o.1.0
      (source_in at v (state_of old) (state_of new) was now vertices (2 * k) inside))
      (subst (λ (i : ℕ). i < length old.vertices) o.1.1
      (target_in at v (state_of old) (state_of new) was now vertices (2 * k) inside))
      (inl listed) (turned_pair e.source e.target a b (same_pair_back a b e.source e.target same) w)
    where
      o : (slice_get old.undirected k ≡ Some e.value) ×
          ((origin old.mesh (2 * k) ≡ e.source) × (origin old.mesh (rev (2 * k)) ≡ e.target))
      o = own_ends old (whole_mesh old was) k e h

      inside : 2 * k < length old.directed
      inside = let b = slice_get_within old.undirected k e.value o.0 in
          let d = was.fits.directed_fit in
          let u = was.fits.undirected_fit in omega (arith, b, d, u)

      listed : Contains (edges_of new.mesh) (e.source, e.target)
      listed = Contains-map pair_of (ends new.mesh) k (record { source = 0; target = 0 })
          (e.source, e.target)
          (slice_get_within (ends new.mesh) k
          (record { source = e.source; target = e.target }) pair)
          (ap pair_of (get_or_from_slice_get (ends new.mesh) k
          (record { source = e.source; target = e.target })
          (record { source = 0; target = 0 }) pair))

  module _ (marks : U → Bool) (constraints : List U → List ℕ)
      (marked : (ds : List U) → constraints ds ≡ marked_edges marks ds) (P : U → Type 0)
      (free : (d : U) → P d → marks d ≡ false) where
    -- where edges are added and none is split
    pub adding_splits_none : AddsOnly P (edges old) (edges new) →
        SplitsConstraints at constraints (state_of old) (state_of new) v
    adding_splits_none adds i j = (
      (λ h. let m = joins_with_mark marks constraints marked new (whole_mesh new now) i j h in
          elim (adds.added m.0 m.1.edge m.1.there) [
            | inl there ↦ inl (
              joined_with_mark marks constraints marked old (whole_mesh old was) i j m.0
                  (record { edge = m.1.edge; there = there; mark = m.1.mark; ends = m.1.ends }),
              none_within m.0 m.1.edge i j there
                  (parts_of_edge (ends new.mesh) new.undirected m.0 m.1.edge
                  m.1.there).0 m.1.ends,
            )
            | inr fresh ↦ not_both (sym (free m.1.edge.value fresh) ∙ m.1.mark)
          ]),
      (λ x. elim x [
        | inl y ↦ stays y.0
        | inr y ↦ elim y [
          | inl half ↦ absurd (none_split i half.1.0 half.1.1 half.1.2)
          | inr half ↦ absurd (none_split j half.1.0 half.1.1 half.1.2)
        ]
      ]),
    )
      where
        stays : Joins (constraints_by constraints (state_of old)) i j →
            Joins (constraints_by constraints (state_of new)) i j
        stays h =
            let m = joins_with_mark marks constraints marked old (whole_mesh old was) i j h in
            joined_with_mark marks constraints marked new (whole_mesh new now) i j m.0
            (record {
              edge = m.1.edge;
              there = adds.kept m.0 m.1.edge m.1.there;
              mark = m.1.mark;
              ends = m.1.ends;
            })

        none_split : (a b : ℕ) → Joins (constraints_by constraints (state_of old)) a b
            → ¬ WithinPair a b
        none_split a b h =
            let m = joins_with_mark marks constraints marked old (whole_mesh old was) a b h in
            none_within m.0 m.1.edge a b m.1.there
            (parts_of_edge (ends new.mesh) new.undirected m.0 m.1.edge
            (adds.kept m.0 m.1.edge m.1.there)).0 m.1.ends

    -- where edge k is split at v, the vertex n
    module _ (k n second : ℕ) (mid : Contents V D U F) (w : IsMeshWithData mid)
        (s : SplitsAt P (edges old) (edges mid) k n second) where
      abbrev OtherJoins : ℕ → ℕ → Type 0
      OtherJoins a b = (l : ℕ) × (l ≢ k) × JoinsWithMark marks (edges old) l a b

      abbrev IsMade : ℕ → ℕ → Type 0
      IsMade a b = (marks s.edge.value ≡ true) × (IsSamePair a b s.near n ⊎ IsSamePair a b s.far n)

      -- the constraints afterwards, by the edges before
      abbrev HalfJoins : ℕ → ℕ → Type 0
      HalfJoins a b = OtherJoins a b ⊎ IsMade a b

      -- while the second half has no mark
      first_joins : (a b : ℕ) → Joins (constraints_by constraints (state_of mid)) a b ↔
          (OtherJoins a b ⊎ ((marks s.edge.value ≡ true) × IsSamePair a b s.near n))
      first_joins a b = (
        (λ h. let m = joins_with_mark marks constraints marked mid w a b h in
            elim (s.added m.0 m.1.edge m.1.there) [
              | inl x ↦ inl (
                m.0,
                x.0,
                record { edge = m.1.edge; there = x.1; mark = m.1.mark; ends = m.1.ends },
              )
              | inr x ↦ elim x [
                | inl is ↦ (
                    let one : m.1.edge ≡ s.first_half =
                    one_value m.1.edge s.first_half
                    (sym m.1.there ∙ ap (slice_get (edges mid)) is ∙ s.first_is) in
                    inr (
                      ap marks (sym s.first_value ∙ ap (λ (e : Edge U). e.value) (sym one))
                          ∙ m.1.mark,
                      same_pair_on a b s.first_half.source s.first_half.target s.near n
                          (subst (λ (e : Edge U). IsSamePair a b e.source e.target) one m.1.ends)
                          s.first_ends,
                    ))
                | inr fresh ↦ not_both (sym (free m.1.edge.value fresh) ∙ m.1.mark)
              ]
            ]),
        (λ x. elim x [
          | inl o ↦ joined_with_mark marks constraints marked mid w a b o.0
              (record {
                edge = o.2.edge;
                there = s.kept o.0 o.2.edge o.1 o.2.there;
                mark = o.2.mark;
                ends = o.2.ends;
              })
          | inr y ↦ joined_with_mark marks constraints marked mid w a b s.first
              (record {
                edge = s.first_half;
                there = s.first_is;
                mark = ap marks s.first_value ∙ y.0;
                ends = same_pair_on a b s.near n s.first_half.source s.first_half.target y.1
                    (same_pair_back s.first_half.source s.first_half.target s.near n s.first_ends);
              })
        ]),
      )

      -- an edge without a mark
      free_halves : new.mesh ≡ mid.mesh → new.undirected ≡ mid.undirected
          → marks s.edge.value ≡ false → (a b : ℕ)
          → Joins (constraints_by constraints (state_of new)) a b ↔ HalfJoins a b
      free_halves mesh undirected none a b =
          subst (λ (ps : List (ℕ × ℕ)). Joins ps a b ↔ HalfJoins a b)
          (sym (λ o. constraint_pairs constraints (mesh o) (undirected o))) (
            (λ h. elim
                ((first_joins a b).0 h) [ inl x ↦ inl x | inr x ↦ not_both (sym none ∙ x.0) ]),
            (λ x. (first_joins a b).1
                (elim x [ inl y ↦ inl y | inr y ↦ not_both (sym none ∙ y.0) ])),
          )

      -- one with the mark, which the second half gets too
      marked_halves : (change : U → U) → HasEdgeData change mid new second
          → marks s.edge.value ≡ true → ((d : U) → marks (change d) ≡ true) → (a b : ℕ)
          → Joins (constraints_by constraints (state_of new)) a b ↔ HalfJoins a b
      marked_halves change written has gets a b =
          subst (λ (ps : List (ℕ × ℕ)). Joins ps a b ↔ HalfJoins a b)
          (sym (ap (λ (c : Contents V D U F). constraint_pairs constraints c.mesh c.undirected)
          written.whole)) (
            (λ h. elim (both.0 h) [
              | inl x ↦ elim ((first_joins a b).0 x) [ inl y ↦ inl y | inr y ↦ inr (y.0, inl y.1) ]
              | inr x ↦ inr (
                has,
                inr (same_pair_on a b s.second_half.source s.second_half.target s.far n
                    (subst (λ (z : ℕ × ℕ). IsSamePair a b z.0 z.1)
                    (λ o. (at_second.1.0 o, at_second.1.1 o)) x)
                    s.second_ends),
              )
            ]),
            (λ x. both.1 (elim x [
              | inl y ↦ inl ((first_joins a b).1 (inl y))
              | inr y ↦ elim y.1 [
                | inl z ↦ inl ((first_joins a b).1 (inr (y.0, z)))
                | inr z ↦ inr (subst (λ (z : ℕ × ℕ). IsSamePair a b z.0 z.1)
                    (λ o. (sym at_second.1.0 o, sym at_second.1.1 o))
                    (same_pair_on a b s.far n s.second_half.source s.second_half.target z
                    (same_pair_back s.second_half.source s.second_half.target s.far n
                    s.second_ends)))
              ]
            ])),
          )
        where
          both : Joins (constraint_pairs constraints mid.mesh
              (set mid.undirected second (change written.value))) a b
              ↔ (Joins (constraint_pairs constraints mid.mesh mid.undirected) a b
              ⊎ IsSamePair a b (origin mid.mesh (2 * second)) (origin mid.mesh (rev (2 * second))))
          both = marking_joins marks constraints marked mid.undirected second written.value
              (change written.value)
              written.was mid.mesh (gets written.value) a b

          at_second : (slice_get mid.undirected second ≡ Some s.second_half.value) ×
              ((origin mid.mesh (2 * second) ≡ s.second_half.source) ×
              (origin mid.mesh (rev (2 * second)) ≡ s.second_half.target))
          at_second = own_ends mid w second s.second_half s.second_is

      module _ (last : n ≡ length old.vertices) (mesh : new.mesh ≡ mid.mesh) (e : ℕ)
          (half : k ≡ e / 2) (on_edge : IsWithinEdge (map at old.vertices) old.mesh (at v) e) where
        -- v is strictly within the edge that is split
        carried : (a b : ℕ) → IsSamePair a b s.edge.source s.edge.target → WithinPair a b
        carried a b same = turned_pair a b s.edge.source s.edge.target same
            (subst (λ (x : ℕ × ℕ). WithinPair x.0 x.1) (λ o. (ends_were.1.0 o, ends_were.1.1 o))
            (within_both (map at old.vertices) (at v) old.mesh e (2 * k) on_edge
            (omega (arith, half))))
          where
            ends_were : (slice_get old.undirected k ≡ Some s.edge.value)
                × ((origin old.mesh (2 * k) ≡ s.edge.source)
                × (origin old.mesh (rev (2 * k)) ≡ s.edge.target))
            ends_were = own_ends old (whole_mesh old was) k s.edge s.was

        other_free : (l : ℕ) (a b : ℕ) → l ≢ k → JoinsWithMark marks (edges old) l a b
            → ¬ WithinPair a b
        other_free l a b n m = none_within l m.edge a b m.there
            (subst (λ (x : Mesh). (let y : Ends =
            record { source = m.edge.source; target = m.edge.target } in
            slice_get (ends x) l
            ≡ Some y)) (sym mesh) (parts_of_edge (ends mid.mesh) mid.undirected l m.edge
            (s.kept l m.edge n m.there)).0) m.ends

        halves_split : ((a b : ℕ) → Joins (constraints_by constraints (state_of new)) a b
            ↔ HalfJoins a b) → SplitsConstraints at constraints (state_of old) (state_of new) v
        halves_split now_joins i j = (
          (λ h. elim ((now_joins i j).0 h) [
            | inl o ↦ inl (
              joined_with_mark marks constraints marked old (whole_mesh old was) i j o.0 o.2,
              other_free o.0 i j o.1 o.2,
            )
            | inr y ↦ inr (elim y.1 [
              | inl x ↦ split_half i j s.near s.far x
                  (same_pair_back s.edge.source s.edge.target s.near s.far s.ends)
                  y.0
              | inr x ↦ split_half i j s.far s.near x
                  (pair_turned s.near s.far s.edge.source s.edge.target
                  (same_pair_back s.edge.source s.edge.target s.near s.far s.ends)) y.0
            ])
          ]),
          (λ x. (now_joins i j).1 (elim x [
            | inl y ↦ inl (other_one i j y.0 y.1)
            | inr y ↦
                inr (elim y [ inl h ↦ of_half i j h | inr h ↦ turned_half i j (of_half j i h) ])
          ])),
        )
          where
            the_edge : (l : ℕ) (a b : ℕ) → l ≡ k → JoinsWithMark marks (edges old) l a b →
                IsSamePair a b s.edge.source s.edge.target × (marks s.edge.value ≡ true)
            the_edge l a b is m =
                let one : m.edge ≡ s.edge =
                one_value m.edge s.edge (sym m.there ∙ ap (slice_get (edges old)) is ∙ s.was) in (
                  subst (λ (x : Edge U). IsSamePair a b x.source x.target) one m.ends,
                  ap (λ (x : Edge U). marks x.value) (sym one) ∙ m.mark,
                )

            a_half : (a b near far : ℕ) → a ≡ near → b ≡ n
                → IsSamePair near far s.edge.source s.edge.target → marks s.edge.value ≡ true
                → IsHalf at (points_and_constraints_by constraints (state_of old)) v
                (length old.vertices) a b
            a_half a b near far is late ends mark =
                let same : IsSamePair a far s.edge.source s.edge.target =
                subst (λ (x : ℕ). IsSamePair x far s.edge.source s.edge.target) (sym is) ends in (
                  late ∙ last,
                  (
                    far,
                    joined_with_mark marks constraints marked old (whole_mesh old was) a far k
                        (record { edge = s.edge; there = s.was; mark = mark; ends = same }),
                    carried a far same,
                  ),
                )

            split_half : (a b near far : ℕ) → IsSamePair a b near n
                → IsSamePair near far s.edge.source s.edge.target → marks s.edge.value ≡ true
                → IsHalf at (points_and_constraints_by constraints (state_of old)) v
                (length old.vertices) a b ⊎ IsHalf at
                (points_and_constraints_by constraints (state_of old)) v (length old.vertices) b a
            split_half a b near far (inl x) ends mark = inl (a_half a b near far x.0 x.1 ends mark)
            split_half a b near far (inr x) ends mark = inr (a_half b a near far x.1 x.0 ends mark)

            other_one : (a b : ℕ) → Joins (constraints_by constraints (state_of old)) a b
                → ¬ WithinPair a b → OtherJoins a b
            other_one a b h free_of =
                let m =
                joins_with_mark marks constraints marked old (whole_mesh old was) a b h in
                elim (cases_eq m.0 k) [
                  | inl is ↦ absurd (free_of (carried a b (the_edge m.0 a b is m.1).0))
                  | inr o ↦ (m.0, o, m.1)
                ]

            of_half : (a b : ℕ) → IsHalf at (points_and_constraints_by constraints (state_of old)) v
                (length old.vertices) a b → IsMade a b
            of_half a b h =
                let m = joins_with_mark marks constraints marked old
                (whole_mesh old was) a h.1.0 h.1.1 in
                elim (cases_eq m.0 k) [
                  | inr o ↦ absurd (other_free m.0 a h.1.0 o m.1 h.1.2)
                  | inl is ↦ (
                      let t = the_edge m.0 a h.1.0 is m.1 in (
                        t.1,
                        elim (same_pair_on a h.1.0 s.edge.source s.edge.target s.near
                            s.far t.0 s.ends) [
                              | inl x ↦ inl (inl (x.0, h.0 ∙ sym last))
                              | inr x ↦ inr (inl (x.0, h.0 ∙ sym last))
                            ],
                      ))
                ]

            turned_half : (a b : ℕ) → IsMade b a → IsMade a b
            turned_half a b y = (
              y.0,
              elim y.1 [
                | inl x ↦ inl (pair_turned b a s.near n x)
                | inr x ↦ inr (pair_turned b a s.far n x)
              ],
            )

        -- so for both
        pub split_without_mark : new.undirected ≡ mid.undirected → marks s.edge.value ≡ false →
            SplitsConstraints at constraints (state_of old) (state_of new) v
        split_without_mark undirected none = halves_split (free_halves mesh undirected none)

        -- the split edge was a constraint and its second half gets the mark: both halves are
        -- constraints
        pub split_with_mark : (change : U → U) → HasEdgeData change mid new second
            → marks s.edge.value ≡ true → ((d : U) → marks (change d) ≡ true)
            → SplitsConstraints at constraints (state_of old) (state_of new) v
        split_with_mark change written has gets =
            halves_split (marked_halves change written has gets)
