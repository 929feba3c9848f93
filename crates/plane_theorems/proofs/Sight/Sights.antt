-- Lines of sight, in the definitions' words.
-- Lemmas: in_free_by_place, sight_by_line.
use Rattle.std.proofs.Common.{◌≡◌, ◌<◌, ℕ, List, [], ◌∷◌, length, refl, sym, subst}
use mathlib.Core.Logic.{◌⊎◌, inl, inr}
use Rattle.std.specs.Prelude.{◌↔◌}
use Rattle.std.specs.Prelude.{pos, Bool, IsTrue, Contains}
use Rattle.std.proofs.lemmas.List.{get_or_default}
use Rattle.plane.specs.{face, Fraction, InsideCorners, IsEdge, IsFace, IsLineList, IsListAt}
use Rattle.plane.specs.{IsOuter, IsSame, IsVertex, Item, Meets, on, side, TilesHull, Triangulation}
use Rattle.plane.specs.{TurnsLeft, vertex, WithinSegment}
use Rattle.plane.proofs.{end_on_segment, left_not_zero, not_left_strict, not_right_strict, on_if}
use Rattle.plane.proofs.{on_of_within, only_point, right_not_zero, same-sym, start_on_segment}
use Rattle.plane.proofs.{turned_face, turns_of_one, weak, zero_weak_left}
use Rattle.plane_theorems.specs.{face_at, HasFreeFace, IsInFree, IsInSight, IsTurned, PassesFree}
use Rattle.plane_theorems.specs.Sight.Sight.{InFreeByPlace, SightByLine}
use Rattle.plane_theorems.proofs.Delaunay.Floods.Flooded.{side_of_segment}
use Rattle.plane_theorems.proofs.Delaunay.Points.Bracket.{above_if_left, bracket, bracket-first}
use Rattle.plane_theorems.proofs.Delaunay.Points.Bracket.{bracket-second}
use Rattle.plane_theorems.proofs.Delaunay.Points.Nudges.{Closed, closed-turned, closed_of_inside}
use Rattle.plane_theorems.proofs.Delaunay.Segments.LineItems.{between_of}
use Rattle.plane_theorems.proofs.Delaunay.Tilings.Faces.{turned-above}
use Rattle.plane_theorems.proofs.Delaunay.Tilings.Ground.{closed_of, inside_of, triangle_of_closed}
use Rattle.plane_theorems.proofs.Delaunay.Tilings.Meets.{on_side-closed, on_side-swapped, OnSide}
use Rattle.plane_theorems.proofs.Delaunay.Tilings.OuterEdges.{face_not_left_of_outer}
use Rattle.plane_theorems.proofs.{Segments.Items.Begins.signs_of, Sight.SharedPoints.decide_same}
use Rattle.plane_theorems.proofs.Segments.Items.SideSigns.{none_if_on}
use Rattle.plane_theorems.proofs.Sight.Covered.{beside_either, covered_along, covers-same}
use Rattle.plane_theorems.proofs.Sight.Covered.{edge_differs, items_are_free}
use Rattle.plane_theorems.proofs.Sight.Coverings.{free_beside, free_where_shared, HasBeside}
use Rattle.plane_theorems.proofs.Sight.Entered.{FreeAtItems, IsCoveredFree}
use Rattle.plane_theorems.proofs.Tiling.Totals.{Contains-cases, Contains-none}
use Rattle.plane.specs.Line as L

on_if_none : (u v x : Fraction) → bracket u v x ≡ pos 0 → side u v x ≡ on
unfolding bracket
on_if_none u v x e = on_if u v x e

-- a list of one entry has no other
only : (k m : Item) → Contains (k ∷ []) m → k ≡ m
only k m c = elim (Contains-cases k [] m c) [ inl e ↦ e | inr d ↦ absurd (Contains-none m d) ]

module _ (t : Triangulation) (h : TilesHull t) (free : ℕ → Bool) where
  -- a free face of the list, from whichever corner
  record Free (i j k : ℕ) : Type 0 where
    index : ℕ
    within : index < length t.faces
    is_free : IsTrue (free index)
    corners : IsTurned (face_at t index).a (face_at t index).b (face_at t index).c i j k

  turned_corners : (a b c i j k : ℕ) → IsTurned a b c i j k → IsTurned a b c j k i
  turned_corners a b c i j k (inl s) = inr (inl (s.1, s.2, s.0))
  turned_corners a b c i j k (inr (inl s)) = inr (inr (s.1, s.2, s.0))
  turned_corners a b c i j k (inr (inr s)) = inl (s.1, s.2, s.0)

  turned : (i j k : ℕ) → Free i j k → Free j k i
  turned i j k f = record {
    index = f.index;
    within = f.within;
    is_free = f.is_free;
    corners = turned_corners (face_at t f.index).a (face_at t f.index).b (face_at t f.index).c i j k
        f.corners;
  }

  -- what holds of a triple and of its turns
  from_turned : (P : ℕ → ℕ → ℕ → Type 0) → ((i j k : ℕ) → P i j k → P j k i) → (a b c i j k : ℕ)
      → IsTurned a b c i j k → P a b c → P i j k
  from_turned P next a b c i j k s x = go s
    where
      named : (d e f : ℕ) → i ≡ d → j ≡ e → k ≡ f → P d e f → P i j k
      named d e f p q r y = subst (λ u. P u j k) (sym p)
          (subst (λ v. P d v k) (sym q) (subst (λ w. P d e w) (sym r) y))

      go : IsTurned a b c i j k → P i j k
      go (inl s) = named a b c s.0 s.1 s.2 x
      go (inr (inl s)) = named b c a s.0 s.1 s.2 (next a b c x)
      go (inr (inr s)) = named c a b s.0 s.1 s.2 (next b c a (next a b c x))

  listed : (n : ℕ) → n < length t.faces
      → IsFace t (face_at t n).a (face_at t n).b (face_at t n).c
  listed n within = inl (n, within, get_or_default t.faces n (face_at t n) (face 0 0 0) within)

  is_face : (i j k : ℕ) → Free i j k → IsFace t i j k
  is_face i j k f = from_turned (IsFace t) (turned_face t) (face_at t f.index).a
      (face_at t f.index).b (face_at t f.index).c i j k f.corners (listed f.index f.within)

  abbrev Covers : Fraction → Type 0
  Covers x = IsCoveredFree t h Free is_face turned x

  abbrev Beside : ℕ → ℕ → Type 0
  Beside i j = HasBeside t h Free is_face turned i j

  covers_of : (x : Fraction) → IsInFree t free x → Covers x
  covers_of x o = record {
    a = (face_at t o.index).a;
    b = (face_at t o.index).b;
    c = (face_at t o.index).c;
    is_free = record {
      index = o.index;
      within = o.within;
      is_free = o.is_free;
      corners = inl (refl, refl, refl);
    };
    closed = closed_of _ _ _ x (h.turning _ _ _ (listed o.index o.within)) o.inside;
  }

  in_free_of : (x : Fraction) → Covers x → IsInFree t free x
  in_free_of x o = let f = o.is_free in record {
    index = f.index;
    within = f.within;
    is_free = f.is_free;
    inside = triangle_of_closed _ _ _ x (h.turning _ _ _ (listed f.index f.within))
        (from_turned (λ i j k. Closed (vertex t i) (vertex t j) (vertex t k) x)
        (λ i j k c. closed-turned c) o.a o.b o.c (face_at t f.index).a (face_at t f.index).b
        (face_at t f.index).c (turns_of_one (face_at t f.index).a (face_at t f.index).b
        (face_at t f.index).c o.a o.b o.c (face_at t f.index).a (face_at t f.index).b
        (face_at t f.index).c f.corners (inl (refl, refl, refl))) o.closed);
  }

  has_free_of : (i j : ℕ) → Beside i j → HasFreeFace t free i j
  has_free_of i j s = record {
    index = s.1.index;
    within = s.1.within;
    is_free = s.1.is_free;
    third = s.0;
    corners = s.1.corners;
  }

  beside_of : (i j : ℕ) → HasFreeFace t free i j → Beside i j
  beside_of i j s = (
    s.third,
    record {
      index = s.index;
      within = s.within;
      is_free = s.is_free;
      corners = s.corners;
    },
  )

  module _ (p q : Fraction) (apart : ¬ IsSame p q) where
    passes : FreeAtItems t h Free is_face turned p q → (m : Item) → Meets t p q m
        → PassesFree t free p q m
    passes f (L.at_vertex i) m = tt
    passes f (L.across i j) m =
        let s = signs_of t p q apart i j (edge_differs t h i j m.0) m in (
          (λ n. has_free_of j i (f.left_behind i j m
              (not_left_strict s.start (λ e. n (on_if_none (vertex t i) (vertex t j) p e))))),
          (λ n. has_free_of i j (f.entered i j m
              (not_right_strict s.end (λ e. n (on_if_none (vertex t i) (vertex t j) q e))))),
        )
    passes f (L.along i j) m = elim (f.along i j m) [
      | inl s ↦ inl (has_free_of i j s)
      | inr s ↦ inr (has_free_of j i s)
    ]

    items_of : IsInFree t free p → IsInFree t free q
        → ((m : Item) → Meets t p q m → PassesFree t free p q m)
        → FreeAtItems t h Free is_face turned p q
    items_of start end all = record {
      start = covers_of p start;
      end = covers_of q end;
      entered = λ a b m l. beside_of a b ((all (L.across a b) m).1
          (λ e. left_not_zero l (none_if_on (vertex t a) (vertex t b) q e)));
      left_behind = λ a b m l. beside_of b a ((all (L.across a b) m).0
          (λ e. right_not_zero l (none_if_on (vertex t a) (vertex t b) p e)));
      along = λ a b m. elim (all (L.along a b) m) [
        | inl s ↦ inl (beside_of a b s)
        | inr s ↦ inr (beside_of b a s)
      ];
    }

    sight_if : IsInFree t free p → IsInFree t free q
        → ((m : Item) → Meets t p q m → PassesFree t free p q m) → IsInSight t free p q
    sight_if start end all r there = in_free_of r
        (covered_along t h Free is_face turned p q apart (items_of start end all) r there)

    items_if : IsInSight t free p q → IsInFree t free p × IsInFree t free q
        × ((m : Item) → Meets t p q m → PassesFree t free p q m)
    items_if sight =
        let f = items_are_free t h Free is_face turned p q apart
        (λ r there. covers_of r (sight r there)) in
        (in_free_of p f.start, in_free_of q f.end, passes f)

  in_free-same : (y x : Fraction) → IsSame y x → IsInFree t free y → IsInFree t free x
  in_free-same y x e o =
      in_free_of x (covers-same t h Free is_face turned y x e (covers_of y o))

  -- ---- where a point in a closed free face is
  in_face : (i j k : ℕ) (p : Fraction) → IsFace t i j k → InsideCorners t i j k p
      → IsInFree t free p ↔ HasFreeFace t free i j
  in_face i j k p f inside = (
    (λ o. let c = covers_of p o in has_free_of i j (
      k,
      free_where_shared t h Free is_face turned i j
          k c.a c.b c.c f c.is_free p (inside_of _ _ _ p (h.turning i j k f) inside) c.closed,
    )),
    (λ b. let s = beside_of i j b in in_free_of p (record {
      a = i;
      b = j;
      c = k;
      is_free = free_beside t h Free is_face turned i j k s.0 f s.1;
      closed = closed_of_inside (inside_of _ _ _ p (h.turning i j k f) inside);
    })),
  )

  on_edge : (i j : ℕ) (p : Fraction) → IsEdge t i j → WithinSegment (vertex t i) (vertex t j) p
      → IsInFree t free p ↔ (HasFreeFace t free i j ⊎ HasFreeFace t free j i)
  on_edge i j p e within = (there, back)
    where
      side_p : OnSide (vertex t i) (vertex t j) p
      side_p =
          side_of_segment (vertex t i) (vertex t j) p (on_of_within (vertex t i) (vertex t j) p
          within)

      both : Beside i j ⊎ Beside j i → HasFreeFace t free i j ⊎ HasFreeFace t free j i
      both (inl s) = inl (has_free_of i j s)
      both (inr s) = inr (has_free_of j i s)

      there : IsInFree t free p → HasFreeFace t free i j ⊎ HasFreeFace t free j i
      there o = both (beside_either t h Free is_face turned i j e p (between_of _ _ p within)
          (covers_of p o))

      covers : (u v : ℕ) → Beside u v → OnSide (vertex t u) (vertex t v) p → Covers p
      covers u v s o = record {
        a = u;
        b = v;
        c = s.0;
        is_free = s.1;
        closed = on_side-closed (vertex t u) (vertex t v) (vertex t s.0) p o
            (above_if_left _ _ _ (h.turning u v s.0 (is_face u v s.0 s.1)));
      }

      back : HasFreeFace t free i j ⊎ HasFreeFace t free j i → IsInFree t free p
      back (inl s) = in_free_of p (covers i j (beside_of i j s) side_p)
      back (inr s) = in_free_of p
          (covers j i (beside_of j i s) (on_side-swapped (vertex t i) (vertex t j) p side_p))

  at_vertex : (i : ℕ) (p : Fraction) → IsVertex t i → IsSame p (vertex t i)
      → IsInFree t free p ↔ ((j : ℕ) × HasFreeFace t free i j)
  at_vertex i p v e = (there, back)
    where
      named : (a b c : ℕ) → Free a b c → i ≡ a → (j : ℕ) × HasFreeFace t free i j
      named a b c f s = (b, has_free_of i b (c, subst (λ x. Free x b c) (sym s) f))

      there : IsInFree t free p → (j : ℕ) × HasFreeFace t free i j
      there o = pick (h.empty c.a c.b c.c i f v
          (triangle_of_closed _ _ _ _ (h.turning c.a c.b c.c f) c.closed))
        where
          c : Covers (vertex t i)
          c = covers-same t h Free is_face turned p (vertex t i) e (covers_of p o)

          f : IsFace t c.a c.b c.c
          f = is_face c.a c.b c.c c.is_free

          pick : (i ≡ c.a) ⊎ ((i ≡ c.b) ⊎ (i ≡ c.c)) → (j : ℕ) × HasFreeFace t free i j
          pick (inl s) = named c.a c.b c.c c.is_free s
          pick (inr (inl s)) = named c.b c.c c.a (turned c.a c.b c.c c.is_free) s
          pick (inr (inr s)) =
              named c.c c.a c.b (turned c.b c.c c.a (turned c.a c.b c.c c.is_free)) s

      back : (j : ℕ) × HasFreeFace t free i j → IsInFree t free p
      back s = in_free-same (vertex t i) p (same-sym p (vertex t i) e) (in_free_of (vertex t i)
          (corner s.0 (beside_of i s.0 s.1)))
        where
          corner : (j : ℕ) → Beside i j → Covers (vertex t i)
          corner j b = record {
            a = i;
            b = j;
            c = b.0;
            is_free = b.1;
            closed = record {
              first = zero_weak_left (bracket-first (vertex t i) (vertex t j));
              second = weak (turned-above _ _ _
                  (above_if_left _ _ _ (h.turning i j b.0 (is_face i j b.0 b.1))));
              third = zero_weak_left (bracket-second (vertex t b.0) (vertex t i));
            };
          }

  beyond : (i j : ℕ) (p : Fraction) → IsOuter t i j → TurnsLeft (vertex t i) (vertex t j) p
      → ¬ IsInFree t free p
  beyond i j p outer turns o = face_not_left_of_outer t h i j _ _ _ p outer
      (listed o.index o.within) o.inside turns

-- a point in a closed free face, by where it is
pub in_free_by_place : InFreeByPlace
in_free_by_place t h free p = (
  (λ i j k f inside. in_face t h free i j k p f inside),
  (λ i j e within. on_edge t h free i j p e within),
  (λ i v e. at_vertex t h free i p v e),
  (λ i j outer turns. beyond t h free i j p outer turns),
)

-- ---- a line of sight, by its line list
-- of a point to itself: the vertex there, or the edge that carries it
passes_alone : (t : Triangulation) (h : TilesHull t) (free : ℕ → Bool) (p q : Fraction)
    → IsInFree t free p → (items : List Item) → IsListAt t p items → (m : Item)
    → Contains items m → PassesFree t free p q m
passes_alone t h free p q o [] there m c = absurd (Contains-none m c)
passes_alone t h free p q o (L.at_vertex i ∷ []) there m c =
    subst (PassesFree t free p q) (only (L.at_vertex i) m c) tt
passes_alone t h free p q o (L.along i j ∷ []) there m c =
    subst (PassesFree t free p q) (only (L.along i j) m c)
    ((on_edge t h free i j p there.0 there.1).0 o)
passes_alone t h free p q o (L.across i j ∷ []) there m c = absurd there
passes_alone t h free p q o (L.at_vertex i ∷ k ∷ items) there m c = absurd there
passes_alone t h free p q o (L.along i j ∷ k ∷ items) there m c = absurd there
passes_alone t h free p q o (L.across i j ∷ k ∷ items) there m c = absurd there

pub sight_by_line : SightByLine
sight_by_line t h free p q items line = elim (decide_same p q) [
  | inl e ↦ (
    (λ sight.
        let o = sight p (start_on_segment p q) in
        (o, sight q (end_on_segment p q), passes_alone t h free p q o items (line.equal_ends e))),
    (λ s r there. in_free-same t h free p r (same-sym r p (only_point p q r e there)) s.0),
  )
  | inr n ↦ (
    (λ sight. let s = items_if t h free p q n sight in
        (s.0, s.1, λ m c. s.2 m (line.met n m c))),
    (λ s. sight_if t h free p q n s.0 s.1 (λ m met. s.2 m (line.complete n m met))),
  )
]
