-- Chains over vertices that are linked, and why there is none where these are apart.
-- Lemmas: path_is_chain, apart_is_not_joined, corners_at_vertex, corners_on_edge, corners_in_face.
use Rattle.std.proofs.Common.{◌≡◌, ◌<◌, ℕ, Bool, List, [], ◌∷◌, length, map, IsTrue}
use Rattle.std.proofs.Common.{get_or, zero, suc, arith, refl, sym, subst}
use mathlib.Core.Logic.{◌⊎◌, inl, inr}
use Rattle.std.specs.Prelude.{pos, ◌<ℤ◌, Contains}
use Rattle.std.proofs.lemmas.List.Elements.{Contains-get_or, Contains-append_cases}
use Rattle.plane.specs.{Face, face, Fraction, HasFace, InsideCorners, IsEdge, IsFace, IsSame}
use Rattle.plane.specs.{IsVertex, TilesHull, Triangulation, vertex, WithinSegment}
use Rattle.plane.proofs.{end_on_segment, turned_face, weak, zero_weak_left}
use Rattle.plane_theorems.specs.{face_at, HasFreeFace, IsCorner, IsInFree, IsInSight, IsTurned}
use Rattle.plane_theorems.specs.Ways.Chains.{IsChain, IsJoined}
use Rattle.plane_theorems.specs.Ways.Links.{AreApart, AreSharedCorners, BeginsIn, IsLinked}
use Rattle.plane_theorems.specs.Ways.Links.{IsMarked, IsPath}
use Rattle.plane_theorems.proofs.Delaunay.Points.Bracket.{above_if_left, bracket, bracket-first}
use Rattle.plane_theorems.proofs.{Delaunay.Points.Bracket.bracket-second, Sight.Covered.covers-same}
use Rattle.plane_theorems.proofs.Delaunay.Points.Nudges.{Closed, closed-turned}
use Rattle.plane_theorems.proofs.{Delaunay.Segments.LineItems.between_of, Ways.Together.AnyMarked}
use Rattle.plane_theorems.proofs.Delaunay.Tilings.Faces.{Between, between-swapped, turned-above}
use Rattle.plane_theorems.proofs.Delaunay.Tilings.Ground.{closed_of, inside_of, triangle_of_closed}
use Rattle.plane_theorems.proofs.Sight.Coverings.{at_side, free_where_shared, HasBeside}
use Rattle.plane_theorems.proofs.{Sight.Coverings.not_right_along, Sight.Entered.IsCoveredFree}
use Rattle.plane_theorems.proofs.Ways.Reached.{all_met, HasPoint, IsFollowed, seen_is_met}

module _ (t : Triangulation) (h : TilesHull t) where
  listed : (n : ℕ) → n < length t.faces
      → IsFace t (face_at t n).a (face_at t n).b (face_at t n).c
  listed n within = inl (Contains-get_or t.faces n (face 0 0 0) within)

  turns : (n : ℕ) → n < length t.faces
      → pos 0 <ℤ bracket (vertex t (face_at t n).a) (vertex t (face_at t n).b)
      (vertex t (face_at t n).c)
  turns n within = above_if_left _ _ _ (h.turning _ _ _ (listed n within))

  -- a corner is in its closed triangle
  first_closed : (a b c : Fraction) → pos 0 <ℤ bracket a b c → Closed a b c a
  first_closed a b c t = record {
    first = zero_weak_left (bracket-first a b);
    second = weak (turned-above a b c t);
    third = zero_weak_left (bracket-second c a);
  }

  corner_closed : (n : ℕ) → n < length t.faces → (v : ℕ) → IsCorner (face_at t n) v
      → HasPoint t (vertex t v) (face_at t n)
  corner_closed n w v (inl e) = subst (λ i. HasPoint t (vertex t i) (face_at t n)) (sym e)
      (first_closed _ _ _ (turns n w))
  corner_closed n w v (inr (inl e)) = subst (λ i. HasPoint t (vertex t i) (face_at t n)) (sym e)
      (closed-turned (closed-turned (first_closed _ _ _ (turned-above _ _ _ (turns n w)))))
  corner_closed n w v (inr (inr e)) = subst (λ i. HasPoint t (vertex t i) (face_at t n)) (sym e)
      (closed-turned (first_closed _ _ _
      (turned-above _ _ _ (turned-above _ _ _ (turns n w)))))

  -- two points of a closed free face see each other
  sees_within : (free : ℕ → Bool) (n : ℕ) → n < length t.faces → IsTrue (free n) → (p q : Fraction)
      → HasPoint t p (face_at t n) → HasPoint t q (face_at t n) → IsInSight t free p q
  sees_within free n w f p q cp cq r on = record {
    index = n;
    within = w;
    is_free = f;
    inside = triangle_of_closed _ _ _ r (h.turning _ _ _ (listed n w)) (record {
      first = not_right_along p q r on _ _ cp.first cq.first;
      second = not_right_along p q r on _ _ cp.second cq.second;
      third = not_right_along p q r on _ _ cp.third cq.third;
    });
  }

  -- ---- the corners of each face at a point
  module _ (n : ℕ) (within : n < length t.faces) where
    abbrev f : Face
    f = face_at t n

    -- the face from whichever corner
    abbrev Named : ℕ → ℕ → ℕ → Type 0
    Named i j k = IsTurned f.a f.b f.c i j k

    named_turned : (i j k : ℕ) → Named i j k → Named j k i
    named_turned i j k (inl s) = inr (inl (s.1, s.2, s.0))
    named_turned i j k (inr (inl s)) = inr (inr (s.1, s.2, s.0))
    named_turned i j k (inr (inr s)) = inl (s.1, s.2, s.0)

    named_face : (i j k : ℕ) → Named i j k → IsFace t i j k
    named_face i j k (inl s) = put s.0 s.1 s.2 (listed n within)
      where
        put : (i ≡ f.a) → (j ≡ f.b) → (k ≡ f.c) → IsFace t f.a f.b f.c → IsFace t i j k
        put d e g x = subst (λ u. IsFace t u j k) (sym d) (subst (λ u. IsFace t f.a u k) (sym e)
            (subst (λ u. IsFace t f.a f.b u) (sym g) x))
    named_face i j k (inr (inl s)) = put s.0 s.1 s.2 (turned_face t _ _ _ (listed n within))
      where
        put : (i ≡ f.b) → (j ≡ f.c) → (k ≡ f.a) → IsFace t f.b f.c f.a → IsFace t i j k
        put d e g x = subst (λ u. IsFace t u j k) (sym d) (subst (λ u. IsFace t f.b u k) (sym e)
            (subst (λ u. IsFace t f.b f.c u) (sym g) x))
    named_face i j k (inr (inr s)) = put s.0 s.1 s.2
        (turned_face t _ _ _ (turned_face t _ _ _ (listed n within)))
      where
        put : (i ≡ f.c) → (j ≡ f.a) → (k ≡ f.b) → IsFace t f.c f.a f.b → IsFace t i j k
        put d e g x = subst (λ u. IsFace t u j k) (sym d) (subst (λ u. IsFace t f.c u k) (sym e)
            (subst (λ u. IsFace t f.c f.a u) (sym g) x))

    corner_named : (i j k : ℕ) → Named i j k → IsCorner f i
    corner_named i j k (inl s) = inl s.0
    corner_named i j k (inr (inl s)) = inr (inl s.0)
    corner_named i j k (inr (inr s)) = inr (inr s.0)

    second_named : (i j k : ℕ) → Named i j k → IsCorner f j
    second_named i j k s = corner_named j k i (named_turned i j k s)

    third_named : (i j k : ℕ) → Named i j k → IsCorner f k
    third_named i j k s = second_named j k i (named_turned i j k s)

    own : Named f.a f.b f.c
    own = inl (refl, refl, refl)

    -- at a vertex
    vertex_shared : (v : ℕ) (p : Fraction) → IsVertex t v → IsSame p (vertex t v) → HasPoint t p f
        → IsCorner f v
    vertex_shared v p is e c = h.empty f.a f.b f.c v (listed n within) is
        (triangle_of_closed _ _ _ _ (h.turning _ _ _ (listed n within)) at)
      where
        o : IsCoveredFree t h Named named_face named_turned (vertex t v)
        o = covers-same t h Named named_face named_turned p (vertex t v) e (record {
          a = f.a;
          b = f.b;
          c = f.c;
          is_free = own;
          closed = c;
        })

        turn_back : (i j k : ℕ) → Named i j k
            → Closed (vertex t i) (vertex t j) (vertex t k) (vertex t v)
            → HasPoint t (vertex t v) f
        turn_back i j k (inl s) x = put s.0 s.1 s.2 x
          where
            put : (i ≡ f.a) → (j ≡ f.b) → (k ≡ f.c)
                → Closed (vertex t i) (vertex t j) (vertex t k) (vertex t v)
                → HasPoint t (vertex t v) f
            put d e g x = subst (λ u. Closed (vertex t f.a) (vertex t f.b) (vertex t u) (vertex t v))
                g (subst (λ u. Closed (vertex t f.a) (vertex t u) (vertex t k) (vertex t v)) e
                (subst (λ u. Closed (vertex t u) (vertex t j) (vertex t k) (vertex t v)) d x))
        turn_back i j k (inr (inl s)) x = put s.0 s.1 s.2 x
          where
            put : (i ≡ f.b) → (j ≡ f.c) → (k ≡ f.a)
                → Closed (vertex t i) (vertex t j) (vertex t k) (vertex t v)
                → HasPoint t (vertex t v) f
            put d e g x = closed-turned (closed-turned
                (subst (λ u. Closed (vertex t f.b) (vertex t f.c) (vertex t u) (vertex t v))
                g (subst (λ u. Closed (vertex t f.b) (vertex t u) (vertex t k) (vertex t v)) e
                (subst (λ u. Closed (vertex t u) (vertex t j) (vertex t k) (vertex t v)) d x))))
        turn_back i j k (inr (inr s)) x = put s.0 s.1 s.2 x
          where
            put : (i ≡ f.c) → (j ≡ f.a) → (k ≡ f.b)
                → Closed (vertex t i) (vertex t j) (vertex t k) (vertex t v)
                → HasPoint t (vertex t v) f
            put d e g x = closed-turned
                (subst (λ u. Closed (vertex t f.c) (vertex t f.a) (vertex t u) (vertex t v))
                g (subst (λ u. Closed (vertex t f.c) (vertex t u) (vertex t k) (vertex t v)) e
                (subst (λ u. Closed (vertex t u) (vertex t j) (vertex t k) (vertex t v)) d x)))

        at : HasPoint t (vertex t v) f
        at = turn_back o.a o.b o.c o.is_free o.closed

    -- within an edge
    edge_shared : (i j : ℕ) (p : Fraction) → IsEdge t i j
        → WithinSegment (vertex t i) (vertex t j) p → HasPoint t p f → IsCorner f i × IsCorner f j
    edge_shared i j p e w c = go ((h.sides i j).0 e)
      where
        m : Between (vertex t i) (vertex t j) p
        m = between_of _ _ p w

        pick : HasBeside t h Named named_face named_turned i j
            ⊎ HasBeside t h Named named_face named_turned j i → IsCorner f i × IsCorner f j
        pick (inl s) = (corner_named i j s.0 s.1, second_named i j s.0 s.1)
        pick (inr s) = (second_named j i s.0 s.1, corner_named j i s.0 s.1)

        turn : HasBeside t h Named named_face named_turned j i
            ⊎ HasBeside t h Named named_face named_turned i j → IsCorner f i × IsCorner f j
        turn (inl s) = pick (inr s)
        turn (inr s) = pick (inl s)

        go : HasFace t i j ⊎ HasFace t j i → IsCorner f i × IsCorner f j
        go (inl g) = pick (at_side t h Named named_face named_turned i j g.0 g.1 p m f.a f.b f.c
            own c)
        go (inr g) = turn (at_side t h Named named_face named_turned j i g.0 g.1 p
            (between-swapped (vertex t i) (vertex t j) p m) f.a f.b f.c own c)

    -- strictly inside a face
    face_shared : (i j k : ℕ) (p : Fraction) → IsFace t i j k → InsideCorners t i j k p
        → HasPoint t p f → Named i j k
    face_shared i j k p g inside c = free_where_shared t h Named named_face named_turned i j k
        f.a f.b f.c g own p (inside_of _ _ _ p (h.turning i j k g) inside) c

-- the vertices that are not reached
abbrev Outside : (ℕ → Type 0) → ℕ → Type 0
Outside Reached i = ¬ Reached i

-- one of three
one_of : (P : ℕ → Type 0) (a b c v : ℕ) → Contains (a ∷ b ∷ c ∷ []) v → P a → P b → P c → P v
one_of P a b c v s x y z = go (Contains-append_cases (a ∷ []) (b ∷ c ∷ []) v s)
  where
    only : (a : ℕ) → Contains (a ∷ []) v → a ≡ v
    only a h = at h.0 h.1 h.2
      where
        at : (k : ℕ) → k < length (a ∷ []) → get_or (a ∷ []) k v ≡ v → a ≡ v
        at zero l e = e
        at (suc k) l e = absurd (omega (arith, l))

    more : Contains (b ∷ []) v ⊎ Contains (c ∷ []) v → P v
    more (inl s) = subst P (only b s) y
    more (inr s) = subst P (only c s) z

    go : Contains (a ∷ []) v ⊎ Contains (b ∷ c ∷ []) v → P v
    go (inl s) = subst P (only a s) x
    go (inr s) = more (Contains-append_cases (b ∷ []) (c ∷ []) v s)

module _ (t : Triangulation) (hull : (n : ℕ) → n < length t.faces → TilesHull t) where
  pub corners_at_vertex : (v : ℕ) (p : Fraction) → IsVertex t v → IsSame p (vertex t v)
      → AreSharedCorners t p (v ∷ v ∷ v ∷ [])
  corners_at_vertex v p is e n w inside i s =
      let h = hull n w in
      let c = vertex_shared t h n w v p is e (closed_of _ _ _ p (h.turning _ _ _ (listed t h n w))
      inside) in one_of (IsCorner (face_at t n)) v v v i s c c c

  pub corners_on_edge : (i j : ℕ) (p : Fraction) → IsEdge t i j
      → WithinSegment (vertex t i) (vertex t j) p → AreSharedCorners t p (i ∷ j ∷ j ∷ [])
  corners_on_edge i j p e within n w inside v s =
      let h = hull n w in
      let c = edge_shared t h n w i j p e within (closed_of _ _ _ p
      (h.turning _ _ _ (listed t h n w)) inside) in one_of (IsCorner (face_at t n)) i j j v s c.0 c.1
      c.1

  pub corners_in_face : (i j k : ℕ) (p : Fraction) → IsFace t i j k → InsideCorners t i j k p
      → AreSharedCorners t p (i ∷ j ∷ k ∷ [])
  corners_in_face i j k p g inside n w c v s =
      let h = hull n w in
      let m = face_shared t h n w i j k p g inside (closed_of _ _ _ p
      (h.turning _ _ _ (listed t h n w)) c) in one_of (IsCorner (face_at t n)) i j k v s
      (corner_named t h n w i j k m) (second_named t h n w i j k m) (third_named t h n w i j k m)

  module _ (free : ℕ → Bool) where
    -- a position in a closed free face sees a corner of each face that has it
    corner_is_seen : (p : Fraction) (vs : List ℕ) → IsInFree t free p → AreSharedCorners t p vs
        → (v : ℕ) → Contains vs v
        → IsInSight t free p (vertex t v) × IsInSight t free (vertex t v) p
    corner_is_seen p vs o shared v s =
        let h = hull o.index o.within in
        let c = closed_of _ _ _ p (h.turning _ _ _ (listed t h o.index o.within)) o.inside in
        let d = corner_closed t h o.index o.within v (shared o.index o.within o.inside v s) in (
          sees_within t h free o.index o.within o.is_free p (vertex t v) c d,
          sees_within t h free o.index o.within o.is_free (vertex t v) p d c,
        )

    turned_corners : (n i j k : ℕ) → IsTurned (face_at t n).a (face_at t n).b (face_at t n).c i j k
        → IsCorner (face_at t n) i × IsCorner (face_at t n) j
    turned_corners n i j k (inl s) = (inl s.0, inr (inl s.1))
    turned_corners n i j k (inr (inl s)) = (inr (inl s.0), inr (inr s.1))
    turned_corners n i j k (inr (inr s)) = (inr (inr s.0), inl s.1)

    free_side_is_seen : (i j : ℕ) → HasFreeFace t free i j
        → IsInSight t free (vertex t i) (vertex t j) × IsInSight t free (vertex t j) (vertex t i)
    free_side_is_seen i j f =
        let h = hull f.index f.within in
        let k = turned_corners f.index i j f.third f.corners in
        let c = corner_closed t h f.index f.within i k.0 in
        let d = corner_closed t h f.index f.within j k.1 in (
          sees_within t h free f.index f.within f.is_free (vertex t i) (vertex t j) c d,
          sees_within t h free f.index f.within f.is_free (vertex t j) (vertex t i) d c,
        )

    link_is_seen : (i j : ℕ) → IsLinked t free i j → IsInSight t free (vertex t j) (vertex t i)
    link_is_seen i j (inl f) = (free_side_is_seen i j f).1
    link_is_seen i j (inr f) = (free_side_is_seen j i f).0

    -- over linked vertices a chain leads to a position that the last one is a corner of
    path_goes_on : (q : Fraction) (last : List ℕ) → ((v : ℕ) → Contains last v
        → IsInSight t free (vertex t v) q) → (v : ℕ) (vs : List ℕ) → IsPath t free last (v ∷ vs)
        → IsChain t free (vertex t v) (map (vertex t) vs) q
    path_goes_on q last seen v [] path = seen v path
    path_goes_on q last seen v (w ∷ vs) path =
        (link_is_seen w v path.0, path_goes_on q last seen w vs path.1)

    pub path_is_chain : (p q : Fraction) (first last vs : List ℕ) → IsInFree t free p
        → IsInFree t free q → AreSharedCorners t p first → AreSharedCorners t q last
        → BeginsIn first vs → IsPath t free last vs → IsChain t free p (map (vertex t) vs) q
    path_is_chain p q first last [] op oq sp sq begins path = absurd path
    path_is_chain p q first last (v ∷ vs) op oq sp sq begins path = (
      (corner_is_seen p first op sp v begins).0,
      path_goes_on q last (λ w c. (corner_is_seen q last oq sq w c).1) v vs path,
    )

    -- ---- no chain where vertices are apart
    module _ (Reached : ℕ → Type 0) (followed : IsFollowed t free Reached) where
      abbrev IsMetAt : Fraction → Type 0
      IsMetAt p = (n : ℕ) → (n < length t.faces) × IsTrue (free n) → HasPoint t p (face_at t n)
          → Reached (face_at t n).a × Reached (face_at t n).b × Reached (face_at t n).c

      leg_is_met : (p q : Fraction) → IsInSight t free p q → IsMetAt p → IsInFree t free p
          → IsMetAt q
      leg_is_met p q sees met o = λ m g c.
          let h = hull o.index o.within in
          let d = closed_of _ _ _ p (h.turning _ _ _ (listed t h o.index o.within)) o.inside in
          seen_is_met t h free Reached followed p q sees o.index (o.within, o.is_free)
          (met o.index (o.within, o.is_free) d) d m g c

      chain_is_met : (p q : Fraction) (inner : List Fraction) → IsChain t free p inner q
          → IsMetAt p → IsInFree t free p → IsMetAt q
      chain_is_met p q [] sees met o = leg_is_met p q sees met o
      chain_is_met p q (r ∷ rs) chain met o = chain_is_met r q rs chain.1
          (leg_is_met p r chain.0 met o) (chain.0 r (end_on_segment p r))

    pub apart_is_not_joined : (p q : Fraction) (first last : List ℕ) (v w : ℕ) → Contains first v
        → Contains last w → IsInFree t free p → IsInFree t free q → AreSharedCorners t p first
        → AreSharedCorners t q last → AreApart t free first last → ¬ IsJoined t free p q
    apart_is_not_joined p q first last v w fv lw op oq sp sq apart joined =
        none_there (sq oq.index oq.within oq.inside w lw) (chain_is_met (Outside (IsMarked apart.marks)) followed p q joined.0
        joined.1 met op oq.index (oq.within, oq.is_free) (closed_at q oq))
      where
        followed : IsFollowed t free (Outside (IsMarked apart.marks))
        followed i j side out r = out (apart.followed j i r (inr side))

        closed_at : (x : Fraction) → (o : IsInFree t free x) → HasPoint t x (face_at t o.index)
        closed_at x o = let h = hull o.index o.within in
            closed_of _ _ _ x (h.turning _ _ _ (listed t h o.index o.within)) o.inside

        marked : (n : ℕ) → IsCorner (face_at t n) v → (h : TilesHull t)
            → AnyMarked t h (Outside (IsMarked apart.marks)) (face_at t n).a (face_at t n).b (face_at t n).c
        marked n (inl e) h = inl (λ r. apart.none v fv (subst (IsMarked apart.marks) (sym e) r))
        marked n (inr (inl e)) h = inr (inl (λ r. apart.none v fv (subst (IsMarked apart.marks) (sym e) r)))
        marked n (inr (inr e)) h = inr (inr (λ r. apart.none v fv (subst (IsMarked apart.marks) (sym e) r)))

        met : IsMetAt (Outside (IsMarked apart.marks)) followed p
        met n f c = let h = hull n f.0 in all_met t h free (Outside (IsMarked apart.marks)) followed n f
            (marked n (sp n f.0 (triangle_of_closed _ _ _ p (h.turning _ _ _ (listed t h n f.0)) c)
            v fv) h)

        none_there : IsCorner (face_at t oq.index) w → (Outside (IsMarked apart.marks)) (face_at t oq.index).a
            × (Outside (IsMarked apart.marks)) (face_at t oq.index).b × (Outside (IsMarked apart.marks)) (face_at t oq.index).c → ⊥
        none_there (inl e) o = o.0 (subst (IsMarked apart.marks) e (apart.begun w lw))
        none_there (inr (inl e)) o = o.1 (subst (IsMarked apart.marks) e (apart.begun w lw))
        none_there (inr (inr e)) o = o.2 (subst (IsMarked apart.marks) e (apart.begun w lw))
