-- The pairs that constraints join, where edges stay, become constraints or cease to be.
-- Notions: IsMarked, JoinsByMark; set_entry, same_as_third, joined_by_mark, mark_joins,
-- pairs_stay, marking_joins, unmarking_leaves.
use Rattle.std.proofs.Common.{◌≡◌, ◌≢◌, ◌⊎◌, ◌↔◌, ◌*◌, ◌<◌, [], ◌∷◌}
use Rattle.std.proofs.Common.{ℕ, zero, suc, Bool, true, false, List, length}
use Rattle.std.proofs.Common.{get_or, set, refl, sym, ap, ◌∙◌, subst, inl, inr}
use Rattle.std.specs.Prelude.{Contains, Some, slice_get}
use Rattle.std.proofs.lemmas.Bool.{cases_eq}
use Rattle.std.proofs.lemmas.Option.{slice_get_within, slice_get-get_or}
use Rattle.half_edge_links.specs.{Mesh, origin, rev}
use Rattle.delaunay_legalization.specs.{constraint_pairs, GoSameDirection, marked_edges, not_both}
use Rattle.{delaunay_legalization.specs.pair_at, plane.specs.IsSamePair, plane.specs.Joins}
use Rattle.delaunay_legalization.proofs.Constraints.{fixed_edge_is, fixed_within}
use Rattle.delaunay_legalization.proofs.Constraints.{is_constraint_edge}
use Rattle.delaunay_legalization.proofs.Entries.{one_value, some_entry}
use Rattle.delaunay_legalization.proofs.MeshStays.{slice_get-set_other}
use Rattle.delaunay_legalization.proofs.WorkLists.{contains_map, contains_map_from, same_map}

-- what was written is read
pub set_entry : {X : Type 0} (xs : List X) (k : ℕ) (d x : X) → slice_get xs k ≡ Some d →
    slice_get (set xs k x) k ≡ Some x
set_entry [] k d x e = cc
set_entry (y ∷ ys) zero d x e = refl
set_entry (y ∷ ys) (suc k) d x e = set_entry ys k d x e

-- two pairs with the ends of a third have the same ends
pub same_as_third : (a b u v x y : ℕ) → IsSamePair a b u v → IsSamePair a b x y → IsSamePair u v x y
same_as_third a b u v x y (inl s) (inl t) = inl (sym s.0 ∙ t.0, sym s.1 ∙ t.1)
same_as_third a b u v x y (inl s) (inr t) = inr (sym s.0 ∙ t.0, sym s.1 ∙ t.1)
same_as_third a b u v x y (inr s) (inl t) = inr (sym s.1 ∙ t.1, sym s.0 ∙ t.0)
same_as_third a b u v x y (inr s) (inr t) = inl (sym s.1 ∙ t.1, sym s.0 ∙ t.0)

module _ {U : Type 0} (marks : U → Bool) (constraints : List U → List ℕ)
    (marked : (ds : List U) → constraints ds ≡ marked_edges marks ds) where
  -- an edge with the mark
  pub record IsMarked (ds : List U) (k : ℕ) : Type 0 where
    pub value : U
    pub has : slice_get ds k ≡ Some value
    pub mark : marks value ≡ true

  -- an edge with the mark joins a and b
  pub record JoinsByMark (m : Mesh) (ds : List U) (a b : ℕ) : Type 0 where
    pub edge : ℕ
    pub is : IsMarked ds edge
    pub ends : IsSamePair a b (origin m (2 * edge)) (origin m (rev (2 * edge)))

  -- two vertices are joined by a constraint exactly if they are the ends of an edge with the mark
  pub joined_by_mark : (m : Mesh) (ds : List U) (a b : ℕ) → JoinsByMark m ds a b →
      Joins (constraint_pairs constraints m ds) a b
  joined_by_mark m ds a b j = go j.ends (contains_map (pair_at m) (constraints ds) j.edge
      (is_constraint_edge marks constraints marked ds j.edge j.is.value j.is.has j.is.mark))
    where
      go : IsSamePair a b (origin m (2 * j.edge)) (origin m (rev (2 * j.edge))) →
          Contains (constraint_pairs constraints m ds) (pair_at m j.edge) →
          Joins (constraint_pairs constraints m ds) a b
      go (inl s) c =
          inl (subst (λ (p : ℕ × ℕ). Contains (constraint_pairs constraints m ds) p)
          (λ i. (sym s.0 i, sym s.1 i)) c)
      go (inr s) c =
          inr (subst (λ (p : ℕ × ℕ). Contains (constraint_pairs constraints m ds) p)
          (λ i. (sym s.1 i, sym s.0 i)) c)

  marked_at : (ds : List U) (k : ℕ) → Contains (constraints ds) k → IsMarked ds k
  marked_at ds k c =
      let within = fixed_within marks constraints marked ds k c in
      let d = get_or ds k (some_entry ds k within) in
      let has = slice_get-get_or ds k (some_entry ds k within) within in
      record { value = d; has = has; mark = fixed_edge_is marks constraints marked ds k d has c }

  -- vertices that a constraint joins are the ends of an edge with the mark
  pub mark_joins : (m : Mesh) (ds : List U) (a b : ℕ)
      → Joins (constraint_pairs constraints m ds) a b → JoinsByMark m ds a b
  mark_joins m ds a b (inl h) = let r = contains_map_from (pair_at m) (constraints ds) (a, b) h in
      record {
        edge = r.0;
        is = marked_at ds r.0 r.1;
        ends = inl (ap (λ (p : ℕ × ℕ). p.0) (sym r.2), ap (λ (p : ℕ × ℕ). p.1) (sym r.2));
      }
  mark_joins m ds a b (inr h) = let r = contains_map_from (pair_at m) (constraints ds) (b, a) h in
      record {
        edge = r.0;
        is = marked_at ds r.0 r.1;
        ends = inr (ap (λ (p : ℕ × ℕ). p.1) (sym r.2), ap (λ (p : ℕ × ℕ). p.0) (sym r.2));
      }

  -- where each constraint keeps its ends, the pairs stay
  pub pairs_stay : (m n : Mesh) (ds : List U)
      → ((k : ℕ) → Contains (constraints ds) k → GoSameDirection m (2 * k) n (2 * k))
      → constraint_pairs constraints n ds ≡ constraint_pairs constraints m ds
  pairs_stay m n ds same =
      same_map (pair_at n) (pair_at m) (constraints ds) (λ k c. let s = same k c in
      λ i. (s.0 i, s.1 i))

  -- ---- other data of one edge
  module _ (ds : List U) (k : ℕ) (d x : U) (was : slice_get ds k ≡ Some d) where
    other_stays : (l : ℕ) → l ≢ k → IsMarked ds l → IsMarked (set ds k x) l
    other_stays l n is =
        record { value = is.value; has = slice_get-set_other ds k l x n ∙ is.has; mark = is.mark }

    other_was : (l : ℕ) → l ≢ k → IsMarked (set ds k x) l → IsMarked ds l
    other_was l n is = record {
      value = is.value;
      has = sym (slice_get-set_other ds k l x n) ∙ is.has;
      mark = is.mark;
    }

    module _ (m : Mesh) (mark : marks x ≡ true) where
      -- edge k has the mark then
      here : (l : ℕ) → l ≡ k → IsMarked (set ds k x) l
      here l e = subst (IsMarked (set ds k x)) (sym e)
          (record { value = x; has = set_entry ds k d x was; mark = mark })

      -- with the mark it joins its ends too
      pub marking_joins : (a b : ℕ) → Joins (constraint_pairs constraints m (set ds k x)) a b
          ↔ (Joins (constraint_pairs constraints m ds) a b
          ⊎ IsSamePair a b (origin m (2 * k)) (origin m (rev (2 * k))))
      marking_joins a b = (
        (λ h. let j = mark_joins m (set ds k x) a b h in
            elim (cases_eq j.edge k) [
              | inl e ↦ inr (subst
                  (λ (l : ℕ). IsSamePair a b (origin m (2 * l)) (origin m (rev (2 * l)))) e j.ends)
              | inr n ↦ inl (joined_by_mark m ds a b (record {
                edge = j.edge;
                is = other_was j.edge n j.is;
                ends = j.ends;
              }))
            ]),
        (λ h. elim h [
          | inl was_joined ↦ (let j = mark_joins m ds a b was_joined in
              joined_by_mark m (set ds k x) a b (record {
                edge = j.edge;
                is = elim (cases_eq j.edge k)
                    [ inl e ↦ here j.edge e | inr n ↦ other_stays j.edge n j.is ];
                ends = j.ends;
              }))
          | inr same ↦
              joined_by_mark m (set ds k x) a b (record { edge = k; is = here k refl; ends = same })
        ]),
      )

    -- without it the others stay, where no other edge has its ends
    pub unmarking_leaves : (m : Mesh) → marks x ≡ false
        → ((l : ℕ) → l < length ds → IsSamePair (origin m (2 * l)) (origin m (rev (2 * l)))
        (origin m (2 * k)) (origin m (rev (2 * k))) → l ≡ k) → (a b : ℕ)
        → Joins (constraint_pairs constraints m (set ds k x)) a b
        ↔ (Joins (constraint_pairs constraints m ds) a b
        × ¬ IsSamePair a b (origin m (2 * k)) (origin m (rev (2 * k))))
    unmarking_leaves m free only a b = (
      (λ h. let j = mark_joins m (set ds k x) a b h in
          let n : j.edge ≢ k = λ e. not_here j.edge e j.is in
          let was_marked = other_was j.edge n j.is in (
            joined_by_mark m ds a b (record { edge = j.edge; is = was_marked; ends = j.ends }),
            (λ same. n (only j.edge (slice_get_within ds j.edge was_marked.value was_marked.has)
                (same_as_third a b (origin m (2 * j.edge)) (origin m (rev (2 * j.edge)))
                (origin m (2 * k))
                (origin m (rev (2 * k))) j.ends same))),
          )),
      (λ h. let j = mark_joins m ds a b h.0 in
          let n : j.edge ≢ k =
          λ e. h.1 (subst
          (λ (l : ℕ). IsSamePair a b (origin m (2 * l)) (origin m (rev (2 * l)))) e j.ends) in
          joined_by_mark m (set ds k x) a b
          (record { edge = j.edge; is = other_stays j.edge n j.is; ends = j.ends })),
    )
      where
        not_here : (l : ℕ) → l ≡ k → ¬ IsMarked (set ds k x) l
        not_here l e is =
            let read = sym is.has ∙ ap (slice_get (set ds k x)) e ∙ set_entry ds k d x was in
            not_both (sym free ∙ ap marks (sym (one_value is.value x read)) ∙ is.mark)
