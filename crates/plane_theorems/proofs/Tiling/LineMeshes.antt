-- Meshes of points on one line, over lists of points: none, one, one more past an end or between
-- two neighbours; and that they join the line.
-- Lemmas: line_by_signs, same_line, no_vertex, one_vertex, joins_line, line_extended, line_split.
use Rattle.std.proofs.Common.{◌≡◌, ◌⊎◌, ◌↔◌, ◌<◌, [], ◌∷◌, ◌++◌, ◌∙◌}
use Rattle.std.proofs.Common.{ℕ, zero, suc, List, length, refl, sym, subst, arith}
use mathlib.Core.Logic.{inl, inr, ◌≢◌}
use Rattle.std.specs.Prelude.{ℤ, pos, ◌+ℤ◌, ◌≤ℤ◌, Contains, AllPairs}
use Rattle.std.proofs.lemmas.Int.{ints}
use Rattle.plane.specs.{AreNeighbours, IsIndex, IsPast, IsSamePair, JoinsLine, on, place, Point}
use Rattle.plane.specs.{side, whole, WithinSegment}
use Rattle.plane.proofs.{bracket, bracket-last, if_on, lift, on_if}
use Rattle.plane_theorems.specs.{alone, along, AreEdgesOf, LineMesh, total}
use Rattle.plane_theorems.proofs.Tiling.Appended.{kept_point, last_point, length_appended}
use Rattle.plane_theorems.proofs.Tiling.Flows.{HasSide, is_pair, no_turn}
use Rattle.plane_theorems.proofs.{Tiling.Line.Adjoin, Tiling.Line.SignLine, Tiling.Tiles.point_at}
use Rattle.plane_theorems.proofs.Tiling.Loops.{edge_of_outer, edges_once, listed_once, way_of_edge}
use Rattle.plane_theorems.proofs.Tiling.Totals.{Contains-none}
use Rattle.plane_theorems.proofs.Tiling.Line as L

-- ---- the two readings
-- a line of vertices is one by its places
pub line_by_signs : (points : List Point) (outer : List (ℕ × ℕ)) → LineMesh points outer
    → SignLine (length points) (point_at points) outer
line_by_signs points outer m = record {
  distinct = λ i j h k n e. m.distinct i j h k n (λ o. whole (e o));
  straight = λ i j k a b c. if_on (place points i) (place points j) (place points k)
      (m.straight i j k a b c);
  neighbours =
      λ i j. ((λ h. there i j ((m.neighbours i j).0 h)), (λ s. (m.neighbours i j).1 (back i j s)));
  once = m.once;
}
  where
    there : (i j : ℕ) → AreNeighbours (alone points) i j
        → Adjoin (length points) (point_at points) i j
    there i j s = record {
      apart = s.apart;
      first = s.first;
      second = s.second;
      none_between = s.none_between;
    }

    back : (i j : ℕ) → Adjoin (length points) (point_at points) i j
        → AreNeighbours (alone points) i j
    back i j s = record {
      apart = s.apart;
      first = s.first;
      second = s.second;
      none_between = s.none_between;
    }

line_by_words : (points : List Point) (outer : List (ℕ × ℕ))
    → SignLine (length points) (point_at points) outer → LineMesh points outer
line_by_words points outer m = record {
  distinct = λ i j h k n e. m.distinct i j h k n (λ o. record { x = (e o).x; y = (e o).y });
  straight = λ i j k a b c. on_if (place points i) (place points j) (place points k)
      (m.straight i j k a b c);
  neighbours =
      λ i j. ((λ h. back i j ((m.neighbours i j).0 h)), (λ s. (m.neighbours i j).1 (there i j s)));
  once = m.once;
}
  where
    there : (i j : ℕ) → AreNeighbours (alone points) i j
        → Adjoin (length points) (point_at points) i j
    there i j s = record {
      apart = s.apart;
      first = s.first;
      second = s.second;
      none_between = s.none_between;
    }

    back : (i j : ℕ) → Adjoin (length points) (point_at points) i j
        → AreNeighbours (alone points) i j
    back i j s = record {
      apart = s.apart;
      first = s.first;
      second = s.second;
      none_between = s.none_between;
    }

-- the mesh speaks of no point but those of the first n indexes
pub same_line : (n : ℕ) (p q : ℕ → Point) (outer : List (ℕ × ℕ)) → ((k : ℕ) → k < n → p k ≡ q k)
    → SignLine n p outer → SignLine n q outer
same_line n p q outer e m = record {
  distinct = λ i j h k a s. m.distinct i j h k a (e i h ∙ s ∙ sym (e j k));
  straight = λ i j k a b c. (λ o. bracket (lift (sym (e i a) o)) (lift (sym (e j b) o))
      (lift (sym (e k c) o))) ∙ m.straight i j k a b c;
  neighbours = λ i j. (
    (λ h. moved p q e i j ((m.neighbours i j).0 h)),
    (λ s. (m.neighbours i j).1 (moved q p (λ k h. sym (e k h)) i j s)),
  );
  once = m.once;
}
  where
    moved : (p q : ℕ → Point) → ((k : ℕ) → k < n → p k ≡ q k) → (i j : ℕ) → Adjoin n p i j
        → Adjoin n q i j
    moved p q e i j s = record {
      apart = s.apart;
      first = s.first;
      second = s.second;
      none_between = λ k h w. s.none_between k h
          (subst (λ (x : Point × Point × Point). WithinSegment (whole x.0) (whole x.1) (whole x.2))
          (λ o. (sym (e i s.first) o, sym (e j s.second) o, sym (e k h) o)) w);
    }

-- ---- no vertex, and one
-- no vertices on a line need no edges
pub no_vertex : LineMesh [] []
no_vertex = record {
  distinct = λ i j h k n e. absurd (omega arith);
  straight = λ i j k a b c. absurd (omega arith);
  neighbours = λ i j. (
    (λ h. absurd (Contains-none (i, j) h)),
    (λ s. absurd (let h = s.first in omega arith)),
  );
  once = λ i j d h k. absurd (omega arith);
}

-- one vertex is a mesh on a line, with no outer edge
pub one_vertex : (q : Point) → LineMesh (q ∷ []) []
one_vertex q = record {
  distinct = λ i j h k n e. absurd (omega arith);
  straight = λ i j k a b c. one i j k a b c;
  neighbours = λ i j. (
    (λ h. absurd (Contains-none (i, j) h)),
    (λ s. absurd (let h = s.first in let k = s.second in let n = s.apart in omega arith)),
  );
  once = λ i j d h k. absurd (omega arith);
}
  where
    one : (i j k : ℕ) → i < 1 → j < 1 → k < 1
        → side (place (q ∷ []) i) (place (q ∷ []) j) (place (q ∷ []) k) ≡ on
    one zero zero zero a b c = on_if (whole q) (whole q) (whole q) (bracket-last (lift q) (lift q))
    one (suc i) j k a b c = absurd (omega arith)
    one zero (suc j) k a b c = absurd (omega arith)
    one zero zero (suc k) a b c = absurd (omega arith)

-- ---- with its own edges the mesh joins the line
-- the edges of a line join neighbours, and no others
pub joins_line : (points : List Point) (outer edges : List (ℕ × ℕ)) → LineMesh points outer
    → AreEdgesOf [] outer edges → JoinsLine (record { points = points; faces = []; edges = edges })
joins_line points outer edges m own = record {
  straight = m.straight;
  no_face = refl;
  neighbours = λ i j. (
    (λ h. there i j (way_of_edge [] outer edges own i j h)),
    (λ s. edge_of_outer [] outer edges own i j ((m.neighbours i j).1 (record
        { apart = s.apart; first = s.first; second = s.second; none_between = s.none_between }))),
  );
  once = edges_once [] outer edges own
      (λ u v. bare (total (along (is_pair u v)) outer) (listed_once outer m.once u v));
}
  where
    bare : (z : ℤ) → z ≤ℤ pos 1 → (pos 0 +ℤ z) ≤ℤ pos 1
    bare z h = omega (arith, ints)

    there : (i j : ℕ) → HasSide [] i j ⊎ Contains outer (i, j)
        → AreNeighbours (record { points = points; faces = []; edges = edges }) i j
    there i j (inl s) = absurd (no_turn i j s.0 s.1)
    there i j (inr h) = let s = (m.neighbours i j).0 h in record {
      apart = s.apart;
      first = s.first;
      second = s.second;
      none_between = s.none_between;
    }

module _ (points : List Point) (q : Point) (old new : List (ℕ × ℕ)) (m : LineMesh points old) where
  -- the old outer edges are those of a line, by signs, where the new point is listed too
  own : SignLine (length points) (point_at (points ++ q ∷ [])) old
  own = same_line (length points) (point_at points) (point_at (points ++ q ∷ [])) old
      (kept_point points q) (line_by_signs points old m)

  in_words : SignLine (suc (length points)) (point_at (points ++ q ∷ [])) new
      → LineMesh (points ++ q ∷ []) new
  in_words s = line_by_words (points ++ q ∷ []) new
      (subst (λ n. SignLine n (point_at (points ++ q ∷ [])) new) (sym (length_appended points q)) s)

  -- past the end i, apart from all vertices: q is joined to i. (Past the only vertex is any point
  -- apart from it.)
  pub line_extended : (i : ℕ) → IsIndex points i
      → ((k : ℕ) → IsIndex points k → place points k ≢ whole q) → IsPast (alone points) i (whole q)
      → ((a b : ℕ) → Contains new (a, b) ↔ (Contains old (a, b) ⊎ IsSamePair a b i (length points)))
      → AllPairs (λ d e. d ≢ e) new → LineMesh (points ++ q ∷ []) new
  line_extended i h fresh past change once =
      in_words (L.extended (length points) (point_at (points ++ q ∷ [])) old new own i h
      (λ k l e. fresh k l (λ o. whole ((kept_point points q k l ∙ e ∙ last_point points q) o)))
      (λ k l n. subst (λ (x : Point × Point × Point). WithinSegment (whole x.0) (whole x.1)
      (whole x.2)) (λ o. (
        sym (last_point points q) o,
        kept_point points q k l o,
        kept_point points q i h o,
      )) (past k l n))
      change once)

  -- strictly within the pair of neighbours i and j: q is joined to both in its place
  pub line_split : (i j : ℕ) → Contains old (i, j)
      → WithinSegment (place points i) (place points j) (whole q)
      → ((a b : ℕ) → Contains new (a, b) ↔ ((Contains old (a, b) × ¬ IsSamePair a b i j)
      ⊎ (IsSamePair a b i (length points) ⊎ IsSamePair a b j (length points))))
      → AllPairs (λ d e. d ≢ e) new → LineMesh (points ++ q ∷ []) new
  line_split i j edge within change once =
      let s = (m.neighbours i j).0 edge in
      in_words (L.between (length points) (point_at (points ++ q ∷ [])) old new own i j edge
      (subst (λ (x : Point × Point × Point). WithinSegment (whole x.0) (whole x.1) (whole x.2))
      (λ o. (
        kept_point points q i s.first o,
        kept_point points q j s.second o,
        sym (last_point points q) o,
      )) within)
      change once)
