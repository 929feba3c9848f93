-- The invariant between its two readings.
-- Lemmas: by_words, same_points.
use Rattle.std.proofs.Common.{◌≡◌, ◌<◌, [], ◌∙◌, ℕ, List, length, sym, subst}
use mathlib.Core.Logic.{◌≢◌}
use Rattle.std.specs.Prelude.{pos, ◌≤ℤ◌, ◌<ℤ◌, Contains}
use Rattle.plane.specs.{Face, place, Point, whole, WithinSegment}
use Rattle.plane.proofs.{bracket, if_left, left_if, left_not_below, lift}
use Rattle.plane_theorems.specs.{LocalMesh}
use Rattle.plane_theorems.proofs.Tiling.Counting.{at, SignMesh}
use Rattle.plane_theorems.proofs.{Tiling.Tiles.point_at, Tiling.Totals.Contains-none}

-- from signs back to the words of specs/
pub by_words : (points : List Point) (faces : List Face) (outer : List (ℕ × ℕ))
    → SignMesh (length points) (point_at points) faces outer → LocalMesh points faces outer
by_words points faces outer m = record {
  distinct = λ i j h k n e. m.distinct i j h k n (λ o. record { x = (e o).x; y = (e o).y });
  some_face = not_empty faces m.some_face;
  used = m.used;
  corners = m.corners;
  turning = λ f h. left_if (place points f.a) (place points f.b) (place points f.c) (m.turning f h);
  ends = m.ends;
  supporting = λ e h k l t. left_not_below
      (if_left (place points e.0) (place points e.1) (place points k) t) (m.supporting e h k l);
  bare = m.bare;
  once = m.once;
  balanced = m.balanced;
}
  where
    not_empty : (xs : List Face) → (f : Face) × Contains xs f → xs ≢ []
    not_empty xs f e = Contains-none f.0 (subst (λ l. Contains l f.0) e f.1)

-- the invariant speaks of no point but those of the first n indexes
pub same_points : (n : ℕ) (p q : ℕ → Point) (faces : List Face) (outer : List (ℕ × ℕ))
    → ((k : ℕ) → k < n → p k ≡ q k) → SignMesh n p faces outer → SignMesh n q faces outer
same_points n p q faces outer e m = record {
  distinct = λ i j h k a s. m.distinct i j h k a (e i h ∙ s ∙ sym (e j k));
  some_face = m.some_face;
  used = m.used;
  corners = m.corners;
  turning = λ f h. let c = m.corners f h in
      subst (λ z. pos 0 <ℤ z) (moved f.a f.b f.c c.0 c.1 c.2) (m.turning f h);
  ends = m.ends;
  supporting = λ d h k l. let c = m.ends d h in
      subst (λ z. z ≤ℤ pos 0) (moved d.0 d.1 k c.0 c.1 l) (m.supporting d h k l);
  bare = λ d h k l w. let c = m.ends d h in
      m.bare d h k l (subst (λ (x : Point × Point × Point). WithinSegment (whole x.0) (whole x.1)
      (whole x.2)) (λ i. (sym (e d.0 c.0) i, sym (e d.1 c.1) i, sym (e k l) i)) w);
  once = m.once;
  balanced = m.balanced;
}
  where
    moved : (a b c : ℕ) → a < n → b < n → c < n
        → bracket (at p a) (at p b) (at p c) ≡ bracket (at q a) (at q b) (at q c)
    moved a b c h k l i = bracket (lift (e a h i)) (lift (e b k i)) (lift (e c l i))
