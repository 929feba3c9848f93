-- A taut way grows by a point that its last point sees.
-- Notions: IsFirstPart, first_part, part_pops, part_goes_on; IsPulled, pull_begins, next_is_seen,
-- pull_goes_on, pull_ends.
use Rattle.std.proofs.Common.{◌≡◌, ◌⊎◌, ◌+◌, ◌-◌, ◌<◌, ◌≤◌, [], ◌∷◌, ◌++◌, ◌∙◌, ℕ, Bool}
use Rattle.std.proofs.Common.{List, length, map, drop, Option, Some, None, IsSome, sym, subst}
use Rattle.std.proofs.Common.{arith, ap, refl, inl, inr, get_or}
use Rattle.std.specs.Prelude.{All, option_to_list, pos}
use Rattle.std.proofs.lemmas.List.{drop_all, drop_more, get_or-map, get_or_append_left}
use Rattle.std.proofs.lemmas.List.{length-append, length-map, map-append}
use Rattle.std.proofs.Math.Seq.{get_or-append_seam}
use Rattle.plane.specs.{IsVertex, place, Point, Triangulation, vertex, whole}
use Rattle.plane_theorems.specs.{IsInSight, Ways.Chains.IsChain, Ways.Chains.IsJoined}
use Rattle.delaunay_ways.specs.{point_at, Pulling.CanGoOn, Pulling.CanSkipLast, Pulling.GoesOn}
use Rattle.delaunay_ways.specs.Ways.{IsTaut, IsWay}

abbrev no_point : Point
no_point = record { x = pos 0; y = pos 0 }

-- the point that was added
added : (points : List Point) (p : Point) (k : ℕ) → k ≡ length points
    → point_at (points ++ p ∷ []) k ≡ p
added points p k e = subst (λ n. point_at (points ++ p ∷ []) n ≡ p) (sym e)
    (get_or-append_seam points p [] no_point)

-- those before it
before_it : (points : List Point) (p : Point) (k : ℕ) → k < length points
    → point_at (points ++ p ∷ []) k ≡ point_at points k
before_it points p k w = get_or_append_left points (p ∷ []) no_point k w

one_longer : (points : List Point) (p : Point) → length (points ++ p ∷ []) ≡ length points + 1
one_longer points p = length-append points (p ∷ [])

-- ---- a list that loses its last element
pub popped : {X : Type 0} (xs ys : List X) (r : Option X) → xs ≡ ys ++ option_to_list r → IsSome r
    → (x : X) × (xs ≡ ys ++ x ∷ [])
popped xs ys None e s = absurd (cc)
popped xs ys (Some x) e s = (x, e)

pub all_before : {X : Type 0} (P : X → Type 0) (xs ys : List X) (x : X) → xs ≡ ys ++ x ∷ []
    → All P xs → All P ys
all_before P xs ys x e all k d w =
    let size = ap length e ∙ length-append ys (x ∷ []) in
    subst P (ap (λ zs. get_or zs k d) e ∙ get_or_append_left ys (x ∷ []) d k w)
    (all k d (omega (arith, size, w)))

pub map_push : {X : Type 0} (f : X → Point) (xs ys : List X) (x : X) → xs ≡ ys ++ x ∷ []
    → map f xs ≡ map f ys ++ f x ∷ []
map_push f xs ys x e = ap (map f) e ∙ map-append f ys (x ∷ [])

module _ (t : Triangulation) (free : ℕ → Bool) where
  -- points of the first list up to one that sees the next point
  pub record IsFirstPart (points : List Point) (next : Point) (part : List Point) : Type 0 where
    pub some : 0 < length part
    pub few : length part ≤ length points
    pub kept : (k : ℕ) → k < length part → point_at part k ≡ point_at points k
    pub seen : IsInSight t free (place part (length part - 1)) (whole next)

  pub first_part : (points : List Point) (next : Point) → CanGoOn t free points next
      → IsFirstPart points next points
  first_part points next c = record {
    some = c.some;
    few = omega arith;
    kept = λ k w. refl;
    seen = c.seen;
  }

  -- one point less, where the one before it sees the next
  pub part_pops : (points : List Point) (next : Point) (part part' : List Point) (x : Point)
      → IsFirstPart points next part → part ≡ part' ++ x ∷ [] → CanSkipLast t free part next
      → IsFirstPart points next part'
  part_pops points next part part' x f e skip =
      let more = skip.several in
      let sees = skip.seen in
      let size = ap length e ∙ one_longer part' x in
      let few = f.few in
      record {
        some = omega (arith, size, more);
        few = omega (arith, size, few);
        kept = λ k w. sym (before_it part' x k w) ∙ ap (λ ps. point_at ps k) (sym e)
            ∙ f.kept k (omega (arith, size, w));
        seen = subst (λ p. IsInSight t free (whole p) (whole next))
            (ap (λ k. point_at part k) {x = length part - 2} {y = length part' - 1}
            (omega (arith, size)) ∙ ap (λ ps. point_at ps (length part' - 1)) e
            ∙ before_it part' x (length part' - 1) (omega (arith, size, more))) sees;
      }

  -- the next point is added, where the one before the last does not see it
  module _ (points : List Point) (next : Point) (part points' : List Point)
      (c : IsTaut t free points) (f : IsFirstPart points next part)
      (unseen : ¬ CanSkipLast t free part next)
      (e : points' ≡ part ++ next ∷ []) where
    size : length points' ≡ length part + 1
    size = ap length e ∙ one_longer part next

    old_one : (k : ℕ) → k < length part → point_at points' k ≡ point_at points k
    old_one k w = ap (λ ps. point_at ps k) e ∙ before_it part next k w ∙ f.kept k w

    same_part : (k : ℕ) → k < length part → point_at points' k ≡ point_at part k
    same_part k w = ap (λ ps. point_at ps k) e ∙ before_it part next k w

    new_one : (k : ℕ) → k ≡ length part → point_at points' k ≡ next
    new_one k is = ap (λ ps. point_at ps k) e ∙ added part next k is

    abbrev Sees : Point → Point → Type 0
    Sees p q = IsInSight t free (whole p) (whole q)

    two_ways : (a n : ℕ) → a < n + 1 → (a < n) ⊎ (a ≡ n)
    two_ways a n w = grind (arith, w)

    legs : (k : ℕ) → k + 1 < length points' → Sees (point_at points' k) (point_at points' (k + 1))
    legs k w = go (two_ways (k + 1) (length part) (omega (arith, w, size)))
      where
        go : (k + 1 < length part) ⊎ (k + 1 ≡ length part)
            → Sees (point_at points' k) (point_at points' (k + 1))
        go (inl more) = let few = f.few in
            subst (λ p. Sees p (point_at points' (k + 1)))
            (sym (old_one k (omega (arith, more))))
            (subst (λ q. Sees (point_at points k) q) (sym (old_one (k + 1) more))
            (c.legs k (omega (arith, more, few))))
        go (inr is) = subst (λ p. Sees p (point_at points' (k + 1)))
            (ap (λ n. point_at part n) {x = length part - 1} {y = k} (omega (arith, is))
            ∙ sym (same_part k (omega (arith, is))))
            (subst (λ q. Sees (point_at part (length part - 1)) q) (sym (new_one (k + 1) is))
            f.seen)

    taut : (k : ℕ) → k + 2 < length points' → ¬ Sees (point_at points' k) (point_at points' (k + 2))
    taut k w = go (two_ways (k + 2) (length part) (omega (arith, w, size)))
      where
        seen : (k + 2 ≡ length part) → Sees (point_at points' k) (point_at points' (k + 2))
            → Sees (point_at part (length part - 2)) next
        seen is s = (subst (λ p. Sees p next) (same_part k (omega (arith, is))
            ∙ ap (λ n. point_at part n) {x = k} {y = length part - 2} (omega (arith, is)))
            (subst (λ q. Sees (point_at points' k) q) (new_one (k + 2) is) s))

        go : (k + 2 < length part) ⊎ (k + 2 ≡ length part)
            → ¬ Sees (point_at points' k) (point_at points' (k + 2))
        go (inl more) s = let few = f.few in c.taut k (omega (arith, more, few))
            (subst (λ p. Sees p (point_at points (k + 2))) (old_one k (omega (arith, more)))
            (subst (λ q. Sees (point_at points' k) q) (old_one (k + 2) more) s))
        go (inr is) s = unseen (record { several = omega (arith, is); seen = seen is s })

    pub part_goes_on : GoesOn t free points next points'
    part_goes_on = let some = f.some in let few = f.few in record {
      several = omega (arith, some, size);
      few = omega (arith, few, size);
      kept = λ k w. old_one k (omega (arith, w, size));
      ends = new_one (length points' - 1) (omega (arith, size));
      taut = record { legs = legs; taut = taut };
    }

  -- ---- over the vertices of a path
  module _ (p q : Point) (path : List ℕ) where
    -- the point is that of a vertex
    abbrev IsSpot : Point → Type 0
    IsSpot x = (v : ℕ) × IsVertex t v × (x ≡ point_at t.points v)

    -- a taut way from p over vertices to the last point before vertex i of the path
    pub record IsPulled (i : ℕ) (points : List Point) : Type 0 where
      pub some : 0 < length points
      pub starts : point_at points 0 ≡ p
      pub inner : (k : ℕ) → 0 < k → k < length points
          → (v : ℕ) × IsVertex t v × (point_at points k ≡ point_at t.points v)
      pub taut : IsTaut t free points
      pub chain : IsChain t free (place points (length points - 1)) (map (vertex t) (drop i path))
          (whole q)

    pub pull_begins : (points : List Point) → points ≡ p ∷ []
        → IsChain t free (whole p) (map (vertex t) path) (whole q) → IsPulled 0 points
    pull_begins points e chain = subst (IsPulled 0) (sym e) (record {
      some = omega arith;
      starts = refl;
      inner = λ k more w. absurd (omega (arith, more, w));
      taut = record {
        legs = λ k w. absurd (omega (arith, w));
        taut = λ k w. absurd (omega (arith, w));
      };
      chain = chain;
    })

    module _ (i : ℕ) (points : List Point) (s : IsPulled i points) where
      module _ (within : i < length path) (v : ℕ) (is : v ≡ get_or path i v) where
        rest : IsChain t free (place points (length points - 1))
            (map (vertex t) (v ∷ drop (i + 1) path)) (whole q)
        rest = subst (λ vs. IsChain t free (place points (length points - 1)) (map (vertex t) vs)
            (whole q)) (drop_more path i v within
            ∙ ap (λ (x : ℕ). x ∷ drop (i + 1) path) (sym is)) s.chain

        pub next_is_seen : (next : Point) → next ≡ point_at t.points v
            → CanGoOn t free points next
        next_is_seen next e = record {
          some = s.some;
          taut = s.taut;
          seen = subst (λ x. IsInSight t free (place points (length points - 1)) (whole x)) (sym e)
              rest.0;
        }

        pub pull_goes_on : (next : Point) (points' : List Point) → IsVertex t v
            → next ≡ point_at t.points v → GoesOn t free points next points'
            → IsPulled (i + 1) points'
        pull_goes_on next points' exists e g =
            let several = g.several in
            let few = g.few in
            record {
              some = omega (arith, several);
              starts = g.kept 0 (omega (arith, several)) ∙ s.starts;
              inner = λ k more w. spot k more w (one_or_last k w);
              taut = g.taut;
              chain = subst (λ x. IsChain t free (whole x) (map (vertex t) (drop (i + 1) path))
                  (whole q)) (sym (g.ends ∙ e)) rest.1;
            }
          where
            one_or_last : (k : ℕ) → k < length points' → (k + 1 < length points')
                ⊎ (k ≡ length points' - 1)
            one_or_last k w = grind (arith, w)

            spot : (k : ℕ) → 0 < k → k < length points' → (k + 1 < length points')
                ⊎ (k ≡ length points' - 1) → IsSpot (point_at points' k)
            spot k more w (inl old) = let few = g.few in
                let z = s.inner k more (omega (arith, old, few)) in
                (z.0, z.1, g.kept k old ∙ z.2)
            spot k more w (inr last) = (v, exists, ap (point_at points') last ∙ g.ends ∙ e)

      -- at the end of the path the last point sees q
      pub end_is_seen : (i ≡ length path) → CanGoOn t free points q
      end_is_seen all = record {
        some = s.some;
        taut = s.taut;
        seen = subst (λ vs. IsChain t free (place points (length points - 1)) (map (vertex t) vs)
            (whole q)) (nothing path i all) s.chain;
      }
        where
          nothing : (xs : List ℕ) (n : ℕ) → n ≡ length xs → drop n xs ≡ []
          nothing xs n e = drop_all n xs (omega (arith, e))

      pub pull_ends : (points' : List Point) → GoesOn t free points q points'
          → IsJoined t free (whole p) (whole q) → IsWay t free p q points'
      pull_ends points' g joined =
          let several = g.several in
          let few = g.few in
          record {
            several = several;
            starts = g.kept 0 (omega (arith, several)) ∙ s.starts;
            ends = g.ends;
            inner = λ k more w. let z = s.inner k more (omega (arith, w, few)) in
                (z.0, z.1, g.kept k w ∙ z.2);
            taut = g.taut;
            joined = joined;
          }

-- the point before the last one, by the list that the points are read from
module _ {X : Type 0} (f : X → Point) (t : Triangulation) (free : ℕ → Bool) (xs : List X)
    (next : Point) (k : ℕ) (last : k + 2 ≡ length xs) (y : X) (is : y ≡ get_or xs k y) where
  size_is : length (map f xs) ≡ length xs
  size_is = length-map xs f

  spot_is : point_at (map f xs) (length (map f xs) - 2) ≡ f y
  spot_is = ap (point_at (map f xs)) {x = length (map f xs) - 2} {y = k}
      (omega (arith, last, size_is)) ∙ get_or-map f xs k y no_point (omega (arith, last))
      ∙ ap f (sym is)

  pub skip_of : IsInSight t free (whole (f y)) (whole next) → CanSkipLast t free (map f xs) next
  skip_of sees = record {
    several = omega (arith, last, size_is);
    seen = subst (λ p. IsInSight t free (whole p) (whole next)) (sym spot_is) sees;
  }

  pub seen_of : CanSkipLast t free (map f xs) next → IsInSight t free (whole (f y)) (whole next)
  seen_of s = subst (λ p. IsInSight t free (whole p) (whole next)) spot_is s.seen
