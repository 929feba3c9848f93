-- Whether a segment overlaps another along its way is decided: by two brackets, and by how far the
-- ends are on the way.
-- Notions: Overlaps; through_last, overlaps_if, decide_overlap.
use Rattle.std.proofs.Common.{◌≡◌, ◌∙◌, arith, subst}
use mathlib.Core.Logic.{◌⊎◌, inl, inr}
use Rattle.std.specs.Prelude.{ℤ, pos, ◌<ℤ◌, ◌≤ℤ◌, ◌+ℤ◌, ◌-ℤ◌, ◌*ℤ◌}
use Rattle.std.proofs.lemmas.Int.{ints}
use Rattle.plane.specs.{Fraction, IsNearer, IsSame, OnSegment, OverlapAlong}
use Rattle.plane.proofs.{bracket, decide_below, Decision, difference_is_positive, end_on_segment}
use Rattle.plane.proofs.{IsWhole, less_by_difference, less_is_at_most, lt_of_mul-lt-mul_ℤ}
use Rattle.plane.proofs.{lt_or_ge_ℤ, mul-le-mul_ℤ, mul-lt-mul_ℤ, mul-pos_ℤ, on_of_within}
use Rattle.plane.proofs.{on_segment_is, only_point, pos_of_mul-pos_ℤ, positive_above}
use Rattle.plane.proofs.{product_zero_left, reach, reach-end, reach-start, reach_of_two, same-sym}
use Rattle.plane.proofs.{same-trans, same_not_nearer, start_on_segment, vec, weak, weights_x}
use Rattle.plane.proofs.{Centre.swap_first, Decisions.decide_zero, Segments.weights_w, weights_y}
use Rattle.plane_theorems.proofs.Delaunay.Points.AlongSegment.{before, nearer_if, not_before}
use Rattle.plane_theorems.proofs.Delaunay.Points.AlongSegment.{not_past, on_line, on_line_last}
use Rattle.plane_theorems.proofs.Delaunay.Points.AlongSegment.{reach_less, within_on_line}
use Rattle.plane_theorems.proofs.{Segments.Items.Orders.through_weak, Segments.Items.Slopes.even}

-- a / u rises to b / v, and does not fall from there to c / w
pub through_last : (a u b v c w : ℤ) → (a *ℤ v) <ℤ (b *ℤ u) → (b *ℤ w) ≤ℤ (c *ℤ v) → pos 0 <ℤ u
    → pos 0 <ℤ v → pos 0 <ℤ w → (a *ℤ w) <ℤ (c *ℤ u)
through_last a u b v c w h k hu hv hw = lt_of_mul-lt-mul_ℤ {k = v} hv
    (chain (mul-lt-mul_ℤ {k = w} hw h) (mul-le-mul_ℤ {k = u} (weak hu) k) (swap_first v a w)
    (swap_first w b u)
    (swap_first v c u))
  where
    chain : {x y z x' y' z' : ℤ} → x <ℤ y → y' ≤ℤ z → x' ≡ x → y ≡ y' → z' ≡ z → x' <ℤ z'
    chain h k e d c = omega (arith, ints)

from_none : (a b w x : ℤ) → a ≡ pos 0 → pos 0 <ℤ b → pos 0 <ℤ w → (a *ℤ x) <ℤ (b *ℤ w)
from_none a b w x e h k =
    let z = product_zero_left {a = a} x e in let m = mul-pos_ℤ {a = b} {b = w} h k in
    omega (arith, ints)

-- u and v are on the line, u first; u is before q, and v past p
pub record Overlaps (p q u v : Fraction) : Type 0 where
  pub on_u : bracket (vec p) (vec q) (vec u) ≡ pos 0
  pub on_v : bracket (vec p) (vec q) (vec v) ≡ pos 0
  pub along : pos 0 <ℤ (reach p q v *ℤ u.w -ℤ reach p q u *ℤ v.w)
  pub starts : (reach p q u *ℤ q.w) <ℤ (reach p q q *ℤ u.w)
  pub ends : pos 0 <ℤ reach p q v

overlaps_is : (p q u v : Fraction) → ¬ IsSame p q → OverlapAlong p q u v → Overlaps p q u v
overlaps_is p q u v apart o = record {
  on_u = on_line p q u v o;
  on_v = on_line_last p q u v o;
  along = before p q u v o;
  starts = through_last (reach p q u) u.w (reach p q o.far) o.far.w (reach p q q) q.w
      (through_weak (reach p q u) u.w (reach p q o.near) o.near.w (reach p q o.far) o.far.w
      (not_before p q u v o o.near o.near_second) less u.positive o.near.positive o.far.positive)
      ((on_segment_is p q o.far apart).0 o.far_first).2 u.positive o.far.positive q.positive;
  ends = raised (reach p q o.near) o.far.w (reach p q o.far) o.near.w (reach p q v) v.w less
      ((on_segment_is p q o.near apart).0 o.near_first).1
      (not_past p q u v o o.far o.far_second) o.near.positive
      o.far.positive v.positive;
}
  where
    less : (reach p q o.near *ℤ o.far.w) <ℤ (reach p q o.far *ℤ o.near.w)
    less = reach_less p q apart o.near o.far o.near_first o.far_first o.from_s

    above_weak : (a wb b wa : ℤ) → (a *ℤ wb) ≤ℤ (b *ℤ wa) → pos 0 <ℤ a → pos 0 <ℤ wa
        → pos 0 <ℤ wb → pos 0 <ℤ b
    above_weak a wb b wa h ha hwa hwb = pos_of_mul-pos_ℤ {k = wa} {x = b} hwa
        (let p = mul-pos_ℤ {a = a} {b = wb} ha hwb in omega (arith, ints, lib.IntN.*ℤ_comm b wa))

    raised : (rn wf rf wn rv wv : ℤ) → (rn *ℤ wf) <ℤ (rf *ℤ wn) → pos 0 ≤ℤ rn
        → (rf *ℤ wv) ≤ℤ (rv *ℤ wf) → pos 0 <ℤ wn → pos 0 <ℤ wf → pos 0 <ℤ wv → pos 0 <ℤ rv
    raised rn wf rf wn rv wv h hn k pn pf pv =
        above_weak rf wv rv wf k (positive_above rn wf rf wn h hn pn pf) pf pv

module _ (p q u v : Fraction) (apart : ¬ IsSame p q) (o : Overlaps p q u v) where
  -- p is on the line of p and q
  on_p : bracket (vec p) (vec q) (vec p) ≡ pos 0
  on_p = ((on_segment_is p q p apart).0 (start_on_segment p q)).0

  -- and so is q
  on_q : bracket (vec p) (vec q) (vec q) ≡ pos 0
  on_q = ((on_segment_is p q q apart).0 (end_on_segment p q)).0

  -- where both segments have begun
  record Near : Type 0 where
    at : Fraction
    first : OnSegment p q at
    second : OnSegment u v at
    before_q : (reach p q at *ℤ q.w) <ℤ (reach p q q *ℤ at.w)
    before_v : (reach p q at *ℤ v.w) <ℤ (reach p q v *ℤ at.w)

  -- both segments have begun at p or at u
  near : Near
  near = go (lt_or_ge_ℤ (reach p q u) (pos 0))
    where
      after : (ru pw rp uw : ℤ) → ru <ℤ pos 0 → rp ≡ pos 0 → pos 0 <ℤ pw
          → pos 0 <ℤ (rp *ℤ uw -ℤ ru *ℤ pw)
      after ru pw rp uw h e k = let z = product_zero_left {a = rp} uw e in
          let m = mul-pos_ℤ {a = lib.IntN.neg_ℤ ru} {b = pw} (omega (arith, ints)) k in
          omega (arith, ints, Rattle.plane.proofs.IntegerLaws.neg-mul_ℤ ru pw)

      go : (reach p q u <ℤ pos 0) ⊎ (pos 0 ≤ℤ reach p q u) → Near
      go (inl h) = record {
        at = p;
        first = start_on_segment p q;
        second = on_of_within u v p (within_on_line p q apart u p v o.on_u on_p o.on_v
            (after (reach p q u) p.w (reach p q p) u.w h (reach-start p q) p.positive)
            (difference_is_positive _ _
            (from_none (reach p q p) (reach p q v) p.w v.w (reach-start p q) o.ends
            p.positive)));
        before_q = from_none (reach p q p) (reach p q q) p.w q.w (reach-start p q)
            (reach-end p q apart) p.positive;
        before_v =
            from_none (reach p q p) (reach p q v) p.w v.w (reach-start p q) o.ends p.positive;
      }
      go (inr h) = record {
        at = u;
        first = (on_segment_is p q u apart).1 (o.on_u, h, less_is_at_most o.starts);
        second = start_on_segment u v;
        before_q = o.starts;
        before_v = less_by_difference _ _ o.along;
      }

  -- where one ends
  record Far : Type 0 where
    at : Fraction
    first : OnSegment p q at
    second : OnSegment u v at
    after : (n : Near) → (reach p q n.at *ℤ at.w) <ℤ (reach p q at *ℤ n.at.w)

  -- one of them ends at q or at v
  far : Far
  far = go (lt_or_ge_ℤ (reach p q q *ℤ v.w) (reach p q v *ℤ q.w))
    where
      go : ((reach p q q *ℤ v.w) <ℤ (reach p q v *ℤ q.w))
          ⊎ ((reach p q v *ℤ q.w) ≤ℤ (reach p q q *ℤ v.w)) → Far
      go (inl h) = record {
        at = q;
        first = end_on_segment p q;
        second = on_of_within u v q (within_on_line p q apart u q v o.on_u on_q o.on_v
            (difference_is_positive _ _ o.starts) (difference_is_positive _ _ h));
        after = λ n. n.before_q;
      }
      go (inr h) = record {
        at = v;
        first = (on_segment_is p q v apart).1 (o.on_v, weak o.ends, h);
        second = end_on_segment u v;
        after = λ n. n.before_v;
      }

  from_p : IsNearer p near.at far.at
  from_p = nearer_if p q apart near.at far.at near.first far.first (far.after near)

  two_ends : ¬ IsSame u v
  two_ends e = same_not_nearer p near.at far.at
      (same-trans near.at u far.at (only_point u v near.at e near.second)
      (same-sym far.at u (only_point u v far.at e far.second))) from_p

  -- u and v have the order of p and q
  from_start : IsNearer u near.at far.at
  from_start = nearer_if u v two_ends near.at far.at near.second far.second
      (less_by_difference _ _
      (pos_of_mul-pos_ℤ {k = reach p q v *ℤ u.w -ℤ reach p q u *ℤ v.w} o.along
      (subst (λ z. pos 0 <ℤ z)
      (even (reach u v v) u.w v.w near.at.w far.at.w (reach u v near.at) (reach u v far.at)
      (reach p q u) (reach p q v) (reach p q near.at) (reach p q far.at)
      (spread near.at near.second)
      (spread far.at far.second)
      ∙ lib.IntN.*ℤ_comm (reach u v far.at *ℤ near.at.w -ℤ reach u v near.at *ℤ far.at.w)
      (reach p q v *ℤ u.w -ℤ reach p q u *ℤ v.w))
      (mul-pos_ℤ {a = reach u v v *ℤ u.w} (mul-pos_ℤ (reach-end u v two_ends) u.positive)
      (difference_is_positive _ _ (far.after near))))))
    where
      spread : (z : Fraction) → OnSegment u v z
          → (reach u v v *ℤ u.w) *ℤ reach p q z ≡ (reach u v v *ℤ z.w -ℤ reach u v z *ℤ v.w)
          *ℤ reach p q u +ℤ (reach u v z *ℤ u.w) *ℤ reach p q v
      spread z h = let on = ((on_segment_is u v z two_ends).0 h).0 in
          reach_of_two IsWhole p q u v z (record {
            k = reach u v v *ℤ z.w -ℤ reach u v z *ℤ v.w;
            l = reach u v z *ℤ u.w;
            n = reach u v v *ℤ u.w;
            k_allowed = record {};
            l_allowed = record {};
            positive = mul-pos_ℤ (reach-end u v two_ends) u.positive;
            x = weights_x u v z on;
            y = weights_y u v z on;
            w = weights_w (reach u v v) (reach u v z) u.w v.w z.w;
          })

  -- an edge on the line, in the segment's direction, overlaps it where their parts meet
  pub overlaps_if : OverlapAlong p q u v
  overlaps_if = record {
    near = near.at;
    far = far.at;
    near_first = near.first;
    near_second = near.second;
    far_first = far.first;
    far_second = far.second;
    from_s = from_p;
    from_u = from_start;
  }

-- whether u v is overlapped along the way from p to q
pub decide_overlap : (p q u v : Fraction) → ¬ IsSame p q → Decision (OverlapAlong p q u v)
decide_overlap p q u v apart = go (decide_zero (bracket (vec p) (vec q) (vec u)))
    (decide_zero (bracket (vec p) (vec q) (vec v)))
    (decide_below (pos 0) (reach p q v *ℤ u.w -ℤ reach p q u *ℤ v.w))
    (decide_below (reach p q u *ℤ q.w) (reach p q q *ℤ u.w)) (decide_below (pos 0) (reach p q v))
  where
    go : Decision (bracket (vec p) (vec q) (vec u) ≡ pos 0)
        → Decision (bracket (vec p) (vec q) (vec v) ≡ pos 0)
        → Decision (pos 0 <ℤ (reach p q v *ℤ u.w -ℤ reach p q u *ℤ v.w))
        → Decision ((reach p q u *ℤ q.w) <ℤ (reach p q q *ℤ u.w)) → Decision (pos 0 <ℤ reach p q v)
        → Decision (OverlapAlong p q u v)
    go (inl a) (inl b) (inl c) (inl d) (inl e) =
        inl (overlaps_if p q u v apart
        (record { on_u = a; on_v = b; along = c; starts = d; ends = e }))
    go (inr a) b c d e = inr (λ o. a (overlaps_is p q u v apart o).on_u)
    go a (inr b) c d e = inr (λ o. b (overlaps_is p q u v apart o).on_v)
    go a b (inr c) d e = inr (λ o. c (overlaps_is p q u v apart o).along)
    go a b c (inr d) e = inr (λ o. d (overlaps_is p q u v apart o).starts)
    go a b c d (inr e) = inr (λ o. e (overlaps_is p q u v apart o).ends)
