-- The outer edges of a mesh of points on one line are one loop: it turns up at one end of the line.
-- Lemmas: line_outline.
use Rattle.std.proofs.Common.{◌≡◌, ℕ, ◌<◌, List, [], length, sym, ap, ◌∙◌, subst}
use mathlib.Core.Logic.{inl, inr, ◌≢◌}
use Rattle.std.specs.Prelude.{ℤ, ◌<ℤ◌, Contains}
use Rattle.std.proofs.lemmas.Bool.{cases_eq}
use Rattle.std.proofs.lemmas.List.{length-map}
use Rattle.plane.proofs.{less_both_ways, less_if_not_same, lt_or_ge_ℤ}
use Rattle.half_edge_links.specs.{HasOneOutline, IsOuterEdge, IsValidMesh, Mesh, next, origin, prev}
use Rattle.half_edge_links.specs.{rev, triangle_at, triangles}
use Rattle.{half_edge_links.proofs.rev-rev, half_edge_links.proofs.rev_within, plane.specs.Point}
use Rattle.plane_theorems.specs.{LineMesh}
use Rattle.plane_theorems.proofs.{Adjoin, line_by_signs, next_turned, point_at, SignLine}
use Rattle.delaunay_legalization.specs.{corners_of, faces_of, outer_of}
use Rattle.delaunay_legalization.proofs.MeshLineEnds.{is_outer, only_edge}
use Rattle.delaunay_legalization.proofs.OuterEdges.{one_edge, real}
use Rattle.delaunay_legalization.proofs.OutlineRounds.{end, IsLowest, IsOut, next_out, out_edge}
use Rattle.delaunay_legalization.proofs.OutlineRounds.{out_pair, outline_by_low, same_ends}
use Rattle.delaunay_legalization.proofs.OutlineRounds.{same_low, TurnsUp}
use Rattle.delaunay_legalization.proofs.LineNeighbours as N

-- ---- a mesh of points on one line: by their places along it
module _ (points : List Point) (m : Mesh) (valid : IsValidMesh m) (bare : faces_of m ≡ [])
    (line : LineMesh points (outer_of m)) where
  abbrev n : ℕ
  n = length points

  abbrev p : ℕ → Point
  p = point_at points

  no_inner : length m.face_edges ≡ 0
  no_inner =
      sym (length-map m.face_edges (triangle_at m)) ∙ sym (length-map (triangles m) corners_of)
      ∙ ap length bare

  signs : SignLine n p (outer_of m)
  signs = line_by_signs points (outer_of m) line

  next_to : (h : ℕ) → IsOut m h → Adjoin n p (origin m h) (end m h)
  next_to h o = (signs.neighbours (origin m h) (end m h)).0 (out_pair m valid.sound h o)

  module _ (a b : ℕ) (a_in : a < n) (b_in : b < n) (apart : a ≢ b) where
    height : ℕ → ℤ
    height = N.spot n p (outer_of m) signs a b a_in b_in apart

    differ : N.HaveOwnHeights height n
    unfolding height
    differ = N.own_spots n p (outer_of m) signs a b a_in b_in apart

    one_up : (v x y : ℕ) → Adjoin n p v x → Adjoin n p v y → height v <ℤ height x
        → height v <ℤ height y → x ≡ y
    unfolding height
    one_up v x y f g h k = elim (cases_eq x y) [
      | inl e ↦ e
      | inr d ↦ absurd (N.one_above n p (outer_of m) signs a b a_in b_in apart v x y f g h k d)
    ]

    down_from : (v k : ℕ) → v < n → k < n → height k <ℤ height v
        → (j : ℕ) × Contains (outer_of m) (v, j) × (height j <ℤ height v)
    unfolding height
    down_from v k h l d = N.below_edge n p (outer_of m) signs a b a_in b_in apart v k h l d

    -- where outer edges turn up they go back along the same edge, which is the only one there
    module _ (h : ℕ) (o : IsOut m h) (up : TurnsUp m height h) where
      starts : origin m (rev h) ≡ end m h
      starts = sym (valid.sound.edges h o.0).starts

      after : Adjoin n p (end m h) (end m (next m h))
      after = next_to (next m h) (next_out m valid.sound h o)

      back_to : end m (next m h) ≡ origin m h
      back_to =
          let from = next_turned n p (origin m h) (end m h) (next_to h o) in
          one_up (end m h) (end m (next m h)) (origin m h) after from up.1 up.0

      -- the other side of h is an outer edge, from the end of h to its start
      back : IsOuterEdge m (rev h) (end m h) (origin m h)
      back = record {
        within = rev_within h (length m.half_edges) valid.sound.even o.0;
        outer = is_outer points m valid bare no_inner line (rev h)
            (rev_within h (length m.half_edges) valid.sound.even o.0);
        source = starts;
        target = ap (origin m) (rev-rev h);
      }

      turned_back : next m h ≡ rev h
      turned_back = one_edge m line.once (next m h) (rev h) (end m h) (origin m h)
          (subst (IsOuterEdge m (next m h) (end m h)) back_to
          (out_edge m valid.sound (next m h) (next_out m valid.sound h o))) back

      alone_there : (g : ℕ) → g < length m.half_edges → origin m g ≡ end m h → g ≡ rev h
      alone_there g l e = only_edge m valid (rev h) (end m h) starts back.within
          (ap rev (ap (prev m) (sym turned_back) ∙ (valid.sound.edges h o.0).prev_next)) g l e

      none_below : (k : ℕ) → k < n → ¬ (height k <ℤ height (end m h))
      none_below k l d =
          let j = down_from (end m h) k (next_to h o).second l d in
          let g = real m (end m h) j.0 j.1 in
          let there = alone_there g.0 g.1.within g.1.source in
          let ends : j.0 ≡ origin m h =
          sym g.1.target ∙ ap (λ i. origin m (rev i)) there ∙ ap (origin m) (rev-rev h) in
          let below = subst (λ i. height i <ℤ height (end m h)) ends j.2 in
          less_both_ways (height (origin m h)) (height (end m h)) below up.0

      turns : IsLowest height n (end m h)
      turns = (
        (next_to h o).second,
        λ k l. elim (lt_or_ge_ℤ (height k) (height (end m h))) [
          | inl d ↦ absurd (none_below k l d)
          | inr u ↦ u
        ],
      )

    goes_up : (h : ℕ) → IsOut m h → IsLowest height n (origin m h)
        → height (origin m h) <ℤ height (end m h)
    goes_up h o l =
        let f = next_to h o in
        less_if_not_same (height (origin m h)) (height (end m h)) (l.1 (end m h) f.second)
        (differ (origin m h) (end m h) f.first f.second f.apart)

    outline_on_line : HasOneOutline m
    outline_on_line = outline_by_low m valid.sound height (IsLowest height n) (record {
      slopes = λ h o. let f = next_to h o in differ (origin m h) (end m h) f.first f.second f.apart;
      turns = turns;
      one = λ h g o q x y.
          let starts = same_low height n differ (origin m h) (origin m g) x y in
          let other = subst (λ v. Adjoin n p v (end m g)) (sym starts) (next_to g q) in
          let rises = subst (λ v. height v <ℤ height (end m g)) (sym starts) (goes_up g q y) in
          same_ends m valid.sound line.once h g o q starts
          (one_up (origin m h) (end m h) (end m g) (next_to h o) other (goes_up h o x) rises);
    })

  -- a mesh of one line, without faces, has one outline
  pub line_outline : HasOneOutline m
  line_outline among closed h g h_in g_in h_out g_out is =
      let f = next_to h (h_in, h_out) in
      let outline = outline_on_line (origin m h) (end m h) f.first f.second f.apart in
      outline among closed h g h_in g_in h_out g_out is
