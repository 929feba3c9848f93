-- The list of the edges that cross a segment, where one of them is turned.
-- Lemmas: one_way, starts_ahead, ends_behind, vector_is, way_crosses, way_ends, made_clear,
-- made_clear_back, others_are_all, others_still, taken, put_waiting.
use Rattle.std.proofs.Common.{◌≡◌, ◌≢◌, ◌⊎◌, ◌*◌, ◌/◌, ◌<◌, [], ◌∷◌, ◌++◌, ◌∙◌}
use Rattle.std.proofs.Common.{ℕ, List, length, refl, sym, ap, subst}
use mathlib.Core.Logic.{inl, inr}
use Rattle.std.specs.Prelude.{Contains}
use Rattle.std.proofs.lemmas.Bool.{cases_eq}
use Rattle.std.proofs.lemmas.List.Elements.{Contains-push_cases}
use Rattle.plane.specs.{left, place, Point, right, side, TurnsLeft}
use Rattle.half_edge_links.specs.{Flips, IsFlippable, IsValidMesh, Mesh, origin, rev}
use Rattle.half_edge_links.proofs.{rev-rev}
use Rattle.delaunay_legalization.proofs.{contains_before, contains_last, halved, once_after}
use Rattle.delaunay_legalization.proofs.WorkLists.{last_not_before, once_before}
use Rattle.delaunay_edit.specs.{ahead, AreAllCrossing, behind, CrossesFromRight, GoesFromRight}
use Rattle.delaunay_edit.specs.{Crossing.AreOthersCrossing, Lists.AreOnce, Lists.IsIn}
use Rattle.{delaunay_edit.proofs.Towards.others_stay, delaunay_legalization.specs.GoSameDirection}

left_not_right : left ≡ right → ⊥
left_not_right e = cc

-- an edge does not cross from the right both ways
pub one_way : (points : List Point) (m : Mesh) (i j e : ℕ) → CrossesFromRight points m i j e
    → ¬ CrossesFromRight points m i j (rev e)
one_way points m i j e c d = left_not_right (sym d.to_left ∙ subst
    (λ (h : ℕ). side (place points i) (place points j) (place points (origin m h)) ≡ right)
    (sym (rev-rev e)) c.from_right)

module _ (points : List Point) (m : Mesh) (s : IsValidMesh m) (i j e : ℕ)
    (can : IsFlippable m (2 * (e / 2))) (new : Mesh) (moves : Flips m new (2 * (e / 2))) where
  -- ---- each other edge crosses as before
  twins : (h : ℕ) → (h ≡ 2 * (e / 2)) ⊎ (h ≡ rev (2 * (e / 2))) → (h ≡ e) ⊎ (h ≡ rev e)
  twins h o = elim (halved e) [
    | inl q ↦ elim o [ inl r ↦ inl (r ∙ q) | inr r ↦ inr (r ∙ ap rev q) ]
    | inr q ↦ elim o [ inl r ↦ inr (r ∙ q) | inr r ↦ inl (r ∙ ap rev q ∙ rev-rev e) ]
  ]

  other_stays : (h : ℕ) → h ≢ e → h ≢ rev e → GoSameDirection m h new h
  other_stays h n o = others_stay m new (2 * (e / 2)) s.sound can moves h
      (λ q. elim (twins h (inl q)) as (λ _. ⊥) [ inl r ↦ n r | inr r ↦ o r ])
      (λ q. elim (twins h (inr q)) as (λ _. ⊥) [ inl r ↦ n r | inr r ↦ o r ])

  -- the edge that is made, in the direction of e, goes from the corner ahead to the one behind
  pub starts_ahead : origin new e ≡ ahead m e
  starts_ahead = elim (halved e) [
    | inl q ↦ subst (λ (h : ℕ). origin new h ≡ ahead m h) q moves.edge.origin
    | inr q ↦ twice (subst (λ (h : ℕ). origin new (rev h) ≡ behind m h) q moves.twin.origin)
  ]
    where
      twice : origin new (rev (rev e)) ≡ behind m (rev e) → origin new e ≡ ahead m e
      twice is = subst (λ (h : ℕ). origin new h ≡ ahead m h) (rev-rev e) is

  pub ends_behind : origin new (rev e) ≡ behind m e
  ends_behind = elim (halved e) [
    | inl q ↦ subst (λ (h : ℕ). origin new (rev h) ≡ behind m h) q moves.twin.origin
    | inr q ↦ subst (λ (h : ℕ). origin new h ≡ ahead m h) q moves.edge.origin
  ]

  -- so it crosses in a direction where a way between these corners does
  crosses_from : (h v y : ℕ) → origin new h ≡ v → origin new (rev h) ≡ y
      → GoesFromRight points i j v y → CrossesFromRight points new i j h
  crosses_from h v y starts ends goes =
      let at = subst (λ (x : ℕ × ℕ). GoesFromRight points i j x.0 x.1)
      (λ k. (sym starts k, sym ends k)) goes in
      record { from_right = at.0; to_left = at.1; start = at.2; end = at.3 }

  goes_from : (h v y : ℕ) → origin new h ≡ v → origin new (rev h) ≡ y
      → CrossesFromRight points new i j h → GoesFromRight points i j v y
  goes_from h v y starts ends c = subst (λ (x : ℕ × ℕ). GoesFromRight points i j x.0 x.1)
      (λ k. (starts k, ends k)) (c.from_right, c.to_left, c.start, c.end)

  back_ends : origin new (rev (rev e)) ≡ ahead m e
  back_ends = ap (origin new) (rev-rev e) ∙ starts_ahead

  -- in the direction that was told
  abbrev Way : ℕ → Type 0
  Way f = ((f ≡ e) × GoesFromRight points i j (ahead m e) (behind m e))
      ⊎ ((f ≡ rev e) × GoesFromRight points i j (behind m e) (ahead m e))

  pub vector_is : (f : ℕ) → Way f → (f ≡ e) ⊎ (f ≡ rev e)
  vector_is f (inl way) = inl way.0
  vector_is f (inr way) = inr way.0

  pub way_crosses : (f : ℕ) → Way f → CrossesFromRight points new i j f
  way_crosses f (inl way) = subst (λ (h : ℕ). CrossesFromRight points new i j h) (sym way.0)
      (crosses_from e (ahead m e) (behind m e) starts_ahead ends_behind way.1)
  way_crosses f (inr way) = subst (λ (h : ℕ). CrossesFromRight points new i j h) (sym way.0)
      (crosses_from (rev e) (behind m e) (ahead m e) ends_behind back_ends way.1)

  -- its ends are these two corners
  pub way_ends : (f : ℕ) → Way f → ((origin new f ≡ ahead m e) × (origin new (rev f) ≡ behind m e))
      ⊎ ((origin new f ≡ behind m e) × (origin new (rev f) ≡ ahead m e))
  way_ends f (inl way) = inl (
    ap (origin new) way.0 ∙ starts_ahead,
    ap (λ (h : ℕ). origin new (rev h)) way.0 ∙ ends_behind,
  )
  way_ends f (inr way) = inr (
    ap (origin new) way.0 ∙ ends_behind,
    ap (λ (h : ℕ). origin new (rev h)) way.0 ∙ back_ends,
  )

  -- and in none if none was
  pub made_clear : ¬ GoesFromRight points i j (ahead m e) (behind m e)
      → ¬ CrossesFromRight points new i j e
  made_clear clear c = clear (goes_from e (ahead m e) (behind m e) starts_ahead ends_behind c)

  pub made_clear_back : ¬ GoesFromRight points i j (behind m e) (ahead m e)
      → ¬ CrossesFromRight points new i j (rev e)
  made_clear_back clear c =
      clear (goes_from (rev e) (behind m e) (ahead m e) ends_behind back_ends c)

  -- the sides that tell whether a way crosses
  abbrev At : ℕ → ℕ → Type 0
  At v y = (side (place points i) (place points j) (place points v) ≡ right)
      × TurnsLeft (place points i) (place points j) (place points y)
      × TurnsLeft (place points v) (place points y) (place points i)
      × (side (place points v) (place points y) (place points j) ≡ right)

  crosses_still : (h : ℕ) → h ≢ e → h ≢ rev e → CrossesFromRight points m i j h
      → CrossesFromRight points new i j h
  crosses_still h n o c =
      let w = other_stays h n o in
      let at = subst (λ (x : ℕ × ℕ). At x.0 x.1) (λ k. (sym w.0 k, sym w.1 k))
      (c.from_right, c.to_left, c.start, c.end) in
      record { from_right = at.0; to_left = at.1; start = at.2; end = at.3 }

  crossed_before : (h : ℕ) → h ≢ e → h ≢ rev e → CrossesFromRight points new i j h
      → CrossesFromRight points m i j h
  crossed_before h n o c =
      let w = other_stays h n o in
      let at = subst (λ (x : ℕ × ℕ). At x.0 x.1) (λ k. (w.0 k, w.1 k))
      (c.from_right, c.to_left, c.start, c.end) in
      record { from_right = at.0; to_left = at.1; start = at.2; end = at.3 }

  -- ---- the others, of which this holds
  module _ (In : ℕ → Type 0) (others : AreOthersCrossing points m i j e In) where
    not_twin : (h : ℕ) → In h → h ≢ rev e
    not_twin h there is = one_way points m i j e others.own.1
        (subst (λ (k : ℕ). CrossesFromRight points m i j k) is (others.cross h there).1)

    still_cross : (h : ℕ) → In h → (h < length new.half_edges) × CrossesFromRight points new i j h
    still_cross h there =
        let was = others.cross h there in (
          subst (λ (n : ℕ). h < n) (sym moves.edge_count) was.0,
          crosses_still h (others.other h there) (not_twin h there) was.1,
        )

    still_in : (h : ℕ) → h ≢ e → h ≢ rev e → h < length new.half_edges
        → CrossesFromRight points new i j h → In h
    still_in h n o within c = elim (others.all h (subst (λ (k : ℕ). h < k) moves.edge_count within)
        (crossed_before h n o c)) [ inl is ↦ absurd (n is) | inr there ↦ there ]

    -- where the edge that is made does not cross, they are all that cross
    pub others_are_all : ¬ CrossesFromRight points new i j e
        → ¬ CrossesFromRight points new i j (rev e) → AreAllCrossing points new i j In
    others_are_all not_so not_back = record {
      cross = still_cross;
      all = λ h within c. still_in h
          (λ is. not_so (subst (λ (k : ℕ). CrossesFromRight points new i j k) is c))
          (λ is. not_back (subst (λ (k : ℕ). CrossesFromRight points new i j k) is c)) within c;
    }

    -- where it crosses, they and it are
    module _ (f : ℕ) (way : (f ≡ e) ⊎ (f ≡ rev e)) (f_in : f < length new.half_edges)
        (crosses : CrossesFromRight points new i j f) where
      other_way : (h : ℕ) → h ≢ f → CrossesFromRight points new i j h → (h ≢ e) × (h ≢ rev e)
      other_way h n c = elim way [
        | inl is ↦ (
          (λ same. n (same ∙ sym is)),
          (λ same. one_way points new i j f crosses (subst (λ (k : ℕ).
              CrossesFromRight points new i j k) (same ∙ ap rev (sym is)) c)),
        )
        | inr is ↦ (
          (λ same. one_way points new i j f crosses (subst (λ (k : ℕ).
              CrossesFromRight points new i j k) (same ∙ sym (rev-rev e) ∙ ap rev (sym is)) c)),
          (λ same. n (same ∙ sym is)),
        )
      ]

      pub others_still : AreOthersCrossing points new i j f In
      others_still = record {
        own = (f_in, crosses);
        cross = still_cross;
        other = λ h there is. elim way as (λ _. ⊥) [
          | inl same ↦ others.other h there (is ∙ same)
          | inr same ↦ not_twin h there (is ∙ same)
        ];
        all = λ h within c. elim (cases_eq h f) [
          | inl is ↦ inl is
          | inr n ↦ inr (let o = other_way h n c in still_in h o.0 o.1 within c)
        ];
      }

-- ---- in two lists
module _ (points : List Point) (m : Mesh) (i j : ℕ) (ws us : List ℕ) (e : ℕ) where
  -- the last of those that are to be seen is taken out
  pub taken : AreOnce ws (us ++ e ∷ []) → AreAllCrossing points m i j (IsIn ws (us ++ e ∷ []))
      → AreOnce ws us × AreOthersCrossing points m i j e (IsIn ws us)
  taken once all = (
    record {
      first = once.first;
      second = once_before us e once.second;
      apart = λ h a b. once.apart h a (contains_before us e h b);
    },
    record {
      own = all.cross e (inr (contains_last us e));
      cross = λ h there. all.cross h (elim there [
        | inl a ↦ inl a
        | inr b ↦ inr (contains_before us e h b)
      ]);
      other = λ h there is. elim there as (λ _. ⊥) [
        | inl a ↦ once.apart e (subst (Contains ws) is a) (contains_last us e)
        | inr b ↦ last_not_before us e once.second (subst (Contains us) is b)
      ];
      all = λ h within c. elim (all.all h within c) [
        | inl a ↦ inr (inl a)
        | inr b ↦ elim (Contains-push_cases us e h b) [
          | inl before ↦ inr (inr before)
          | inr is ↦ inl (sym is)
        ]
      ];
    },
  )

  module _ (once : AreOnce ws us) (others : AreOthersCrossing points m i j e (IsIn ws us)) where
    -- it waits
    pub put_waiting : AreOnce (ws ++ e ∷ []) us
        × AreAllCrossing points m i j (IsIn (ws ++ e ∷ []) us)
    put_waiting = (
      record {
        first = once_after ws e once.first (λ h. others.other e (inl h) refl);
        second = once.second;
        apart = λ h a b. elim (Contains-push_cases ws e h a) as (λ _. ⊥) [
          | inl before ↦ once.apart h before b
          | inr is ↦ others.other h (inr b) (sym is)
        ];
      },
      record {
        cross = λ h there. elim there [
          | inl a ↦ elim (Contains-push_cases ws e h a) [
            | inl before ↦ others.cross h (inl before)
            | inr is ↦ subst
                (λ (k : ℕ). (k < length m.half_edges) × CrossesFromRight points m i j k) is
                others.own
          ]
          | inr b ↦ others.cross h (inr b)
        ];
        all = λ h within c. elim (others.all h within c) [
          | inl is ↦ inl (subst (Contains (ws ++ e ∷ [])) (sym is) (contains_last ws e))
          | inr there ↦ elim there [
            | inl a ↦ inl (contains_before ws e h a)
            | inr b ↦ inr b
          ]
        ];
      },
    )
