-- A vertex went, the far ends of its straight halves were joined, if it had such, and edges were
-- flipped: what the removal made of points, constraints and data, and of their number.
-- Notions: IsTakenOut; can_settle, taken_out.
use Rattle.std.proofs.Common.{◌≡◌, ◌⊎◌, ◌↔◌, ◌+◌, ◌-◌, ◌≤◌, ◌∙◌}
use Rattle.std.proofs.Common.{ℕ, Bool, List, length, map, Option, Some, None}
use Rattle.std.proofs.Common.{refl, sym, ap, subst, inl, inr, arith}
use Rattle.std.specs.Prelude.{IfSome, true}
use Rattle.plane.specs.{AreStraightHalves, EachPairOnce, IsSamePair, Joins, Plain, Point, Removes}
use Rattle.{plane.proofs.same_joined, plane.proofs.turned_join, plane_theorems.specs.AllPassBut}
use Rattle.{half_edge_dcel.specs.Contents, half_edge_links.specs.moved}
use Rattle.delaunay_legalization.specs.{constraints_by, faces_of, IsDelaunayTriangulation}
use Rattle.delaunay_legalization.specs.{KeepsIndexes, marked_edges, points_and_constraints_by}
use Rattle.{delaunay_legalization.specs.State.State, delaunay_legalization.specs.state_of}
use Rattle.delaunay_vertices.specs.{KeepsDataOfOthers, pairs_left, TakesVertexOut}
use Rattle.delaunay_vertices.proofs.DataLegalized.{legalized_keeps_others}
use Rattle.delaunay_edit.specs.{AddsPath, AreHalvesAt, EndsAt, HasFreeWay, HasPairs, IsCounted}
use Rattle.delaunay_edit.specs.Halves.{CanSettle, IsLoss, Settles}
use Rattle.delaunay_edit.proofs.{DifferentConstraints.constraints_once, EditCounts.removed_number}
use Rattle.delaunay_edit.proofs.FarEnds.{can_join, free_way, one_less, plain_before}
use Rattle.delaunay_edit.proofs.JoinedHalves.{removes_and_joins, removes_without_halves}
use Rattle.delaunay_edit.proofs.{JoiningData.beside_stays, PairCounts.same_number}
use Rattle.delaunay_edit.proofs.PairCounts.{has_pairs_as, listed_pairs, no_pairs, one_more}
use Rattle.{delaunay_edit.proofs.Removing.removed_on, delaunay_legalization.proofs.mark_joins}

-- vertex v was taken out of a triangulation with so many constraints, of which so many were lost
pub record IsTakenOut {V D U F : Type 0} (place : V → Point) (constraints : List U → List ℕ)
    (old new : State V D U F) (v number lost : ℕ) : Type 0 where
  pub plain : Removes place (points_and_constraints_by constraints old)
      (points_and_constraints_by constraints new) v
  pub «data» : KeepsDataOfOthers old new v
  pub counted : IsCounted place constraints new (number - lost)
  pub some : lost ≤ number

module _ {V D U F : Type 0} (place : V → Point) (marks : U → Bool) (can_mark : Bool) (mark : U → U)
    (constraints : List U → List ℕ)
    (marked : (ds : List U) → constraints ds ≡ marked_edges marks ds)
    (can : (d : U) → marks d ≡ true → can_mark ≡ true)
    (has_mark : (d : U) → can_mark ≡ true → marks (mark d) ≡ true) (old : State V D U F)
    (legal : IsDelaunayTriangulation place constraints old) (v : ℕ) where
  abbrev last : ℕ
  last = length old.vertices - 1

  abbrev plain_of : State V D U F → Plain V
  plain_of s = points_and_constraints_by constraints s

  -- where there is a constraint, data can have the mark
  can_if_joined : (i j : ℕ) → Joins (constraints_by constraints old) i j → can_mark ≡ true
  can_if_joined i j h =
      let m = mark_joins marks constraints marked old.mesh old.undirected i j h in
      can m.is.value m.is.mark

  module _ (mid : Contents V D U F) (value : V) (turned : List (ℕ × ℕ)) (takes :
      TakesVertexOut place (points_and_constraints_by constraints) old (state_of mid) v value
      turned) where
    -- what the removal leaves can be settled
    pub can_settle : (halves : Option (ℕ × ℕ)) → AreHalvesAt place (plain_of old) v halves
        → (pairs : List (ℕ × ℕ)) → AllPassBut (map place mid.vertices) (faces_of mid.mesh)
        (constraints_by constraints (state_of mid)) (pairs_left (length mid.vertices) v pairs)
        → CanSettle place can_mark constraints mid v halves pairs
    can_settle halves are pairs passing = record {
      kept = takes.kept;
      passing = passing;
      way = ways halves are;
    }
      where
        ways : (halves : Option (ℕ × ℕ))
            → AreHalvesAt place (plain_of old) v halves
            → IfSome halves (λ p. (can_mark ≡ true) × HasFreeWay place constraints mid
            (moved (length mid.vertices) v p.0) (moved (length mid.vertices) v p.1))
        ways None none = tt
        ways (Some p) are = (
          can_if_joined v p.0 are.first,
          free_way place marks constraints marked old legal mid v value turned takes p.0 p.1 are,
        )

    module _ (new : Contents V D U F) (flips_before flips_after : ℕ) where
      abbrev Settled : Option (ℕ × ℕ) → Type 0
      Settled halves =
          Settles place marks mark constraints mid new v halves flips_before flips_after

      -- the path between a and b was added, where vertex n has the index v now
      abbrev Path : ℕ → ℕ → ℕ → Contents V D U F → Type 0
      Path n a b middle =
          AddsPath place marks mark constraints mid middle (moved n v a) (moved n v b)

      -- the path between the far ends, by the indexes that they have
      path_now : (a b : ℕ) (middle : Contents V D U F) → Path (length mid.vertices) a b middle
          → Path last a b middle
      path_now a b middle = subst (λ n. Path n a b middle)
          (one_less place marks constraints marked old legal mid v value turned takes)

      -- constraints that come with it
      pairs_settled : (a b : ℕ) → AreStraightHalves place (plain_of old) v a b
          → Settled (Some (a, b)) → (c d : ℕ)
          → Joins (constraints_by constraints (state_of new)) c d
          ↔ (Joins (constraints_by constraints (state_of mid)) c d
          ⊎ IsSamePair c d (moved last v a) (moved last v b))
      pairs_settled a b halves s c d =
          let path = path_now a b s.middle s.path in
          let subconstraint = (can_join place marks constraints marked old legal mid v value turned
          takes a
          b halves).one_subconstraint c d in
          subst (λ (ps : List (ℕ × ℕ)). Joins ps c d
          ↔ (Joins (constraints_by constraints (state_of mid)) c d
          ⊎ IsSamePair c d (moved last v a) (moved last v b))) (sym s.legalizes.constraints) (
            (λ h. elim ((path.plain.constraints c d).0 h)
                [ inl o ↦ inl o | inr n ↦ inr (subconstraint.0 n) ]),
            (λ h. (path.plain.constraints c d).1
                (elim h [ inl o ↦ inl o | inr e ↦ inr (subconstraint.1 e) ])),
          )

      -- the vertices are those that the removal left
      vertices_settled : (halves : Option (ℕ × ℕ)) → Settled halves → new.vertices ≡ mid.vertices
      vertices_settled None s =
          ap (λ (c : Contents V D U F). c.vertices) s.legalizes.contents
          ∙ ap (λ (c : Contents V D U F). c.vertices) s.path
      vertices_settled (Some p) s =
          ap (λ (c : Contents V D U F). c.vertices) s.legalizes.contents
          ∙ ap (λ (c : Contents V D U F). c.vertices) s.path.contents

      -- the vertex was removed from the plain state
      settled_removes : (halves : Option (ℕ × ℕ))
          → AreHalvesAt place (plain_of old) v halves → Settled halves
          → Removes place (plain_of old) (plain_of (state_of new)) v
      settled_removes None none s =
          removes_without_halves place (plain_of old) v (plain_of (state_of new))
          (removed_on place constraints old mid new v takes.plain
          (subst (λ (c : Contents V D U F). new ≡ record c { mesh = new.mesh }) s.path
          s.legalizes.contents)
          (s.legalizes.constraints
          ∙ ap (λ (c : Contents V D U F). constraints_by constraints (state_of c)) s.path)) none
      settled_removes (Some p) halves s =
          removes_and_joins place (plain_of old) v p.0 p.1 halves
          (plain_before place marks constraints marked old legal) (plain_of (state_of mid))
          (plain_of (state_of new)) takes.plain
          (vertices_settled (Some p) s) (pairs_settled p.0 p.1 halves s)

      -- what stood beside the vertex, and stands afterwards, has its data
      settled_keeps : (halves : Option (ℕ × ℕ))
          → AreHalvesAt place (plain_of old) v halves
          → Settled halves → KeepsDataOfOthers old (state_of new) v
      settled_keeps None none s =
          legalized_keeps_others place old mid new v takes.beside takes.kept s.legalizes.legal.kept
          (subst (λ (c : Contents V D U F). new ≡ record c { mesh = new.mesh }) s.path
          s.legalizes.contents)
          (subst (λ (c : Contents V D U F). KeepsIndexes c.mesh new.mesh) s.path
          s.legalizes.indexes)
      settled_keeps (Some p) halves s =
          let path = path_now p.0 p.1 s.middle s.path in
          legalized_keeps_others place old s.middle new v
          (beside_stays place marks mark constraints marked
          (λ d. has_mark d (can_if_joined v p.0 halves.first)) old legal mid v value turned takes
          p.0 p.1 halves s.middle path) path.kept s.legalizes.legal.kept s.legalizes.contents
          s.legalizes.indexes

      -- ---- the number of constraints
      once_before : EachPairOnce (constraints_by constraints old)
      once_before = constraints_once place marks constraints marked old legal.kept

      once_between : EachPairOnce (constraints_by constraints (state_of mid))
      once_between = constraints_once place marks constraints marked (state_of mid) takes.kept

      -- the ends of two constraints are those of two
      two_end : (a b : ℕ)
          → AreStraightHalves place (plain_of old) v a b
          → HasPairs (EndsAt (constraints_by constraints old) v) 2
      two_end a b halves = has_pairs_as
          (one_more (one_more (no_pairs {J = λ _ _. ⊥} (λ c d n. n)) v a (λ n. n)) v b apart)
          (λ c d. (forth c d, back c d))
        where
          apart : ¬ (⊥ ⊎ IsSamePair v b v a)
          apart (inl n) = n
          apart (inr (inl s)) = halves.apart (sym s.1)
          apart (inr (inr s)) =
              ((plain_before place marks constraints marked old legal).pairs v a halves.first).2 s.0

          end : (c d x : ℕ) → IsSamePair c d v x → (c ≡ v) ⊎ (d ≡ v)
          end c d x (inl s) = inl s.0
          end c d x (inr s) = inr s.1

          forth : (c d : ℕ) → (⊥ ⊎ IsSamePair c d v a) ⊎ IsSamePair c d v b
              → EndsAt (constraints_by constraints old) v c d
          forth c d (inl (inl n)) = absurd n
          forth c d (inl (inr s)) =
              (same_joined (constraints_by constraints old) c d v a s halves.first, end c d a s)
          forth c d (inr s) =
              (same_joined (constraints_by constraints old) c d v b s halves.second, end c d b s)

          other : (c d k : ℕ) → IsSamePair c d v k → (k ≡ a) ⊎ (k ≡ b)
              → (⊥ ⊎ IsSamePair c d v a) ⊎ IsSamePair c d v b
          other c d k s (inl e) = inl (inr (subst (λ x. IsSamePair c d v x) e s))
          other c d k s (inr e) = inr (subst (λ x. IsSamePair c d v x) e s)

          back : (c d : ℕ) → EndsAt (constraints_by constraints old) v c d
              → (⊥ ⊎ IsSamePair c d v a) ⊎ IsSamePair c d v b
          back c d (j, inl e) = other c d d (inl (e, refl)) (halves.only d
              (subst (λ x. Joins (constraints_by constraints old) x d) e j))
          back c d (j, inr e) = other c d c (inr (refl, e)) (halves.only c
              (turned_join (constraints_by constraints old) c v
              (subst (λ x. Joins (constraints_by constraints old) c x) e j)))

      -- so many fewer than before
      settled_number : (halves : Option (ℕ × ℕ))
          → AreHalvesAt place (plain_of old) v halves
          → Settled halves → (lost : ℕ) → IsLoss (constraints_by constraints old) v halves lost
          → length (constraints_by constraints old)
          ≡ lost + length (constraints_by constraints (state_of new))
      settled_number None none s lost ending =
          removed_number place (plain_of old) (plain_of (state_of mid)) once_before once_between v
          lost (plain_before place marks constraints marked old legal) takes.plain ending
          ∙ ap (λ (ps : List (ℕ × ℕ)). lost + length ps)
          (sym (s.legalizes.constraints
          ∙ ap (λ (c : Contents V D U F). constraints_by constraints (state_of c)) s.path))
      settled_number (Some p) halves s lost one =
          let fewer = removed_number place (plain_of old) (plain_of (state_of mid)) once_before
          once_between v 2 (plain_before place marks constraints marked old legal) takes.plain
          (two_end p.0 p.1 halves) in
          let more = same_number (listed_pairs (constraints_by constraints (state_of new))
          (constraints_once place marks constraints marked (state_of new) s.legalizes.legal.kept))
          (one_more (listed_pairs (constraints_by constraints (state_of mid)) once_between)
          (moved last v p.0) (moved last v p.1)
          (can_join place marks constraints marked old legal mid v value turned takes p.0 p.1
          halves).not_yet) (pairs_settled p.0 p.1 halves s) in
          omega (arith, fewer, more, one)

    -- ---- all together
    -- the vertex is taken out, and the kept number is less by the constraints that were lost
    pub taken_out : {new : Contents V D U F} {flips_before flips_after : ℕ}
        {halves : Option (ℕ × ℕ)} → AreHalvesAt place (plain_of old) v halves
        → Settles place marks mark constraints mid new v halves flips_before flips_after
        → {lost : ℕ} → IsLoss (constraints_by constraints old) v halves lost → {number : ℕ}
        → IsCounted place constraints old number
        → IsTakenOut place constraints old (state_of new) v number lost
    taken_out {new = new} {flips_before = before} {flips_after = after} {halves = halves} are
        settled {lost = lost} loss counted =
        let fewer = settled_number new before after halves are settled lost loss in
        let was = counted.counted in
        record {
          plain = settled_removes new before after halves are settled;
          «data» = settled_keeps new before after halves are settled;
          counted = record { legal = settled.legalizes.legal; counted = omega (arith, fewer, was) };
          some = omega (arith, fewer, was);
        }
