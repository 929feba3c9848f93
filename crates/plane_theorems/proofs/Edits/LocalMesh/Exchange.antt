-- The law of exchange: some faces and outer edges give way to others, and a mesh of the vertices
-- that live then is left. What lives is a property of indexes: all vertices, all but one, or one
-- more.
-- Notions: IsUsed, IsTouched (a corner of a face, or an end of a pair too); AreTurning, AllTurn
-- (live corners that turn left); IsBorder (a pair of live ends that supports all live vertices);
-- KeepBalance; MeshOver (a mesh of the live vertices); EdgesOwe, IsExchange and `exchanged`, the
-- law; IsEdit and `edited`, the law for a mesh. Its cases: Additions, Cuts, Flips.
use Rattle.std.proofs.Common.{◌≡◌, ◌⊎◌, ◌<◌, [], ◌∷◌, ℕ, List, refl, arith}
use mathlib.Core.Logic.{inl, inr, ◌≢◌}
use Rattle.std.specs.Prelude.{ℤ, pos, ◌+ℤ◌, ◌≤ℤ◌, ◌<ℤ◌, Contains}
use Rattle.std.proofs.lemmas.Int.{ints}
use Rattle.plane.specs.{Face, face, Point, whole, WithinSegment}
use Rattle.plane.proofs.{at_most_if_not_less, bracket, bracket-turn}
use Rattle.plane_theorems.specs.{along, AreBalanced, around, FacesChange, IsAntisymmetric, IsCorner}
use Rattle.plane_theorems.specs.{IsTurnFree, OuterChange, total}
use Rattle.plane_theorems.proofs.Edits.LocalMesh.Changes.{changed_total, corner_of_each, Each}
use Rattle.plane_theorems.proofs.Edits.LocalMesh.Changes.{face_from, face_kept, has_pair_or_not}
use Rattle.plane_theorems.proofs.Edits.LocalMesh.Changes.{IsOnce, of_each, of_once, Once}
use Rattle.plane_theorems.proofs.Edits.LocalMesh.Changes.{turn_of_all}
use Rattle.plane_theorems.proofs.Tiling.Counting.{at, SignMesh}
use Rattle.plane_theorems.proofs.Tiling.Flows.{HasSide, is_pair, is_pair_nonneg, IsTurnOf, no_turn}
use Rattle.plane_theorems.proofs.Tiling.Flows.{side_counts, side_found, turned}
use Rattle.plane_theorems.proofs.Tiling.Totals.{total_nonneg, total_positive}
use Rattle.plane_theorems.proofs.Tiling.Covering as C
use Rattle.plane_theorems.proofs.Tiling.Loops as L

-- ---- corners and ends
-- k is a corner of one of the faces
abbrev pub IsUsed : List Face → ℕ → Type 0
IsUsed faces k = (i j : ℕ) × IsTurnOf faces k i j

-- a vertex that some rotation of a face begins with is one of the corners of a face in the list
corner_of_used : (faces : List Face) (k : ℕ) → IsUsed faces k
    → (f : Face) × Contains faces f × IsCorner f k
corner_of_used faces k (i, j, inl h) = (face k i j, h, inl refl)
corner_of_used faces k (i, j, inr (inl h)) = (face i j k, h, inr (inr refl))
corner_of_used faces k (i, j, inr (inr h)) = (face j k i, h, inr (inl refl))

-- or an end of one of the pairs
abbrev pub IsTouched : List Face → List (ℕ × ℕ) → ℕ → Type 0
IsTouched faces pairs k =
    IsUsed faces k ⊎ ((e : ℕ × ℕ) × Contains pairs e × ((k ≡ e.0) ⊎ (k ≡ e.1)))

-- in the words of specs/
pub touched_in_words : (faces : List Face) (pairs : List (ℕ × ℕ)) (k : ℕ) → IsTouched faces pairs k
    → ((f : Face) × Contains faces f × IsCorner f k)
    ⊎ ((e : ℕ × ℕ) × Contains pairs e × ((k ≡ e.0) ⊎ (k ≡ e.1)))
touched_in_words faces pairs k (inl u) = inl (corner_of_used _ k u)
touched_in_words faces pairs k (inr e) = inr e

-- what comes is there
touched_after : (old new gone made : List Face) (outer outer' left come : List (ℕ × ℕ))
    → FacesChange old new gone made → OuterChange outer outer' left come → (k : ℕ)
    → IsTouched made come k → IsTouched new outer' k
touched_after _ _ _ _ _ _ _ _ c d k (inl (i, j, h)) = inl (i, j, c.come k i j h)
touched_after _ _ _ _ _ _ _ _ c d k (inr (e, h, s)) = inr (e, d.come e.0 e.1 h, s)

-- where a face is made, there is one
pub some_made : (old new gone made : List Face) → FacesChange old new gone made → (k : ℕ)
    → IsUsed made k → new ≢ []
some_made old new gone made c k (i, j, h) e = no_turn k i j (rw e at (c.come k i j h))

-- ---- sums
-- a flow's sum round a face is the same in the next rotation
pub around_turn_free : (flow : ℕ → ℕ → ℤ) → IsTurnFree (around flow)
around_turn_free flow i j k = omega (arith, ints)

-- what is made and comes has the sum of what is gone and left, for each flow
abbrev pub KeepBalance : (gone made : List Face) (left come : List (ℕ × ℕ)) → Type 0
KeepBalance gone made left come = (flow : ℕ → ℕ → ℤ) → IsAntisymmetric flow → total (around flow)
    made +ℤ total (along flow) come ≡ total (around flow) gone +ℤ total (along flow) left

-- the outer edges' totals after a change
pub outer_totals : (old new left come : List (ℕ × ℕ)) → OuterChange old new left come → IsOnce old
    → Once left → Once come → Each (Contains old) left → Each (λ e. ¬ Contains old e) come
    → (f : ℕ × ℕ → ℤ) → total f new +ℤ total f left ≡ total f old +ℤ total f come
outer_totals old new left come c o l m there apart f = changed_total f old new _ _ o c.once
    (of_once _ l) (of_once _ m) (of_each (Contains old) _ there)
    (of_each (λ e. ¬ Contains old e) _ apart) (λ e h. kept e h (has_pair_or_not _ e.0 e.1))
    (λ e h. c.come e.0 e.1 h) (λ e h. c.only e.0 e.1 h)
  where
    kept : (e : ℕ × ℕ) → Contains old e → Contains left e ⊎ (¬ Contains left e)
        → Contains new e ⊎ Contains left e
    kept e h (inl k) = inr k
    kept e h (inr k) = inl (c.kept e.0 e.1 h k)

-- a side of the removed faces that the made ones do not have is a side no more
pub side_gone : (n : ℕ) (p : ℕ → Point) (faces new gone made : List Face) (outer : List (ℕ × ℕ))
    → SignMesh n p faces outer → FacesChange faces new gone made → (u v : ℕ) → HasSide gone u v
    → ¬ HasSide made u v → ¬ HasSide new u v
side_gone n p faces new gone made outer m change u v g none h =
    at_most _ _ _ _ _ (change.totals _ (around_turn_free (is_pair u v))) (side_counts gone u v g)
    (at_most_if_not_less _ _ none_made) (L.way_once n p _ _ m u v)
    (total_nonneg (along (is_pair u v)) outer (λ e _. is_pair_nonneg u v e.0 e.1))
    (side_counts new u v h)
  where
    at_most : (old new gone made outer : ℤ) → new +ℤ gone ≡ old +ℤ made → pos 1 ≤ℤ gone
        → made ≤ℤ pos 0 → (old +ℤ outer) ≤ℤ pos 1 → pos 0 ≤ℤ outer → pos 1 ≤ℤ new → ⊥
    at_most old new gone made outer a b c d e f = omega (arith, ints)

    none_made : pos 0 <ℤ total (around (is_pair u v)) made → ⊥
    none_made l = let r = total_positive _ _ l in none (side_found _ u v r.0 r.1 r.2)

-- ---- the law
module _ (live : ℕ → Type 0) (p : ℕ → Point) where
  -- live corners that turn left, whichever is named first
  abbrev pub AreTurning : ℕ → ℕ → ℕ → Type 0
  AreTurning i j k = live i × live j × live k × (pos 0 <ℤ bracket (at p i) (at p j) (at p k))

  -- each face has such corners
  abbrev pub AllTurn : List Face → Type 0
  AllTurn faces = (i j k : ℕ) → IsTurnOf faces i j k → AreTurning i j k

  -- where it is so in the rotation that is listed
  pub all_turn : (faces : List Face) → Each (λ f. AreTurning f.a f.b f.c) faces → AllTurn faces
  all_turn faces t = turn_of_all _ AreTurning (λ i j k t.
      (t.1, t.2, t.0, rw bracket-turn at t.3)) (of_each (λ f. AreTurning f.a f.b f.c) _ t)

  -- two live ends, with no live vertex on the left of the way between them, nor strictly within it
  pub record IsBorder (e : ℕ × ℕ) : Type 0 where
    pub ends : live e.0 × live e.1 × (e.0 ≢ e.1)
    pub supporting : (k : ℕ) → live k → bracket (at p e.0) (at p e.1) (at p k) ≤ℤ pos 0
    pub bare : (k : ℕ) → live k → ¬ WithinSegment (whole (p e.0)) (whole (p e.1)) (whole (p k))

  -- what is owed of the outer edges: those that come are such pairs and were not there, those that
  -- are left were
  pub record EdgesOwe (outer left come : List (ℕ × ℕ)) : Type 0 where
    pub comes : Each IsBorder come
    pub left_there : Each (Contains outer) left
    pub left_once : Once left
    pub come_once : Once come
    pub come_new : Each (λ e. ¬ Contains outer e) come

  -- nothing, where all stay
  pub all_stay : (outer : List (ℕ × ℕ)) → EdgesOwe outer [] []
  all_stay outer =
      record { comes = tt; left_there = tt; left_once = tt; come_once = tt; come_new = tt }

  -- a local mesh of the live vertices, by signs
  pub record MeshOver (faces : List Face) (outer : List (ℕ × ℕ)) : Type 0 where
    pub distinct : (i j : ℕ) → live i → live j → i ≢ j → ¬ (p i ≡ p j)
    pub some_face : faces ≢ []
    pub used : (k : ℕ) → live k → IsTouched faces outer k
    pub turning : AllTurn faces
    pub border : (e : ℕ × ℕ) → Contains outer e → IsBorder e
    pub once : IsOnce outer
    pub balanced : AreBalanced faces outer

  module _ (old new gone made : List Face) (outer outer' left come : List (ℕ × ℕ)) where
    -- what an exchange owes: of the vertices, of the faces that are there then, and of the outer
    -- edges that stay and that come
    pub record IsExchange : Type 0 where
      pub faces_change : FacesChange old new gone made
      pub outer_change : OuterChange outer outer' left come
      pub distinct : (i j : ℕ) → live i → live j → i ≢ j → ¬ (p i ≡ p j)
      pub some_face : new ≢ []
      pub used : (k : ℕ) → live k → IsTouched new outer' k
      pub turning : AllTurn new
      pub stays : (e : ℕ × ℕ) → Contains outer e → ¬ Contains left e → IsBorder e
      pub edges : EdgesOwe outer left come
      pub same : KeepBalance gone made left come

    -- what is left is a mesh
    pub exchanged : IsOnce outer → AreBalanced old outer → IsExchange → MeshOver new outer'
    exchanged once balanced s = record {
      distinct = s.distinct;
      some_face = s.some_face;
      used = s.used;
      turning = s.turning;
      border = λ e h. elim (s.outer_change.only e.0 e.1 h)
          [ inl o ↦ s.stays e o.0 o.1 | inr o ↦ of_each IsBorder come s.edges.comes e o ];
      once = s.outer_change.once;
      balanced = λ flow anti.
          let f = s.faces_change.totals (around flow) (around_turn_free flow) in
          let e = outer_totals outer outer' left come s.outer_change once s.edges.left_once
          s.edges.come_once s.edges.left_there s.edges.come_new (along flow) in
          omega (arith, ints, s.same flow anti, balanced flow anti);
    }

-- ---- of a mesh
module _ (live : ℕ → Type 0) (n : ℕ) (p : ℕ → Point) (old new gone made : List Face)
    (outer outer' left come : List (ℕ × ℕ)) (m : SignMesh n p old outer) where
  -- if it lives, k is touched by what comes
  abbrev IsKept : ℕ → Type 0
  IsKept k = live k → IsTouched made come k

  -- what an edit owes: of the faces and outer edges that come, and of the vertices that live no
  -- more
  pub record IsEdit : Type 0 where
    pub faces_change : FacesChange old new gone made
    pub outer_change : OuterChange outer outer' left come
    pub distinct : (i j : ℕ) → live i → live j → i ≢ j → ¬ (p i ≡ p j)
    pub some_face : new ≢ []
    pub old_or_new : (k : ℕ) → live k → (k < n) ⊎ IsTouched made come k
    pub lives : (k : ℕ) → k < n
        → live k ⊎ ((live k → ⊥) × ((a b : ℕ) → IsTurnOf old k a b → IsTurnOf gone k a b))
    pub turning : Each (λ f. AreTurning live p f.a f.b f.c) made
    pub kept : Each (λ f. IsKept f.a × IsKept f.b × IsKept f.c) gone
    pub stays : (e : ℕ × ℕ) → Contains outer e → ¬ Contains left e → IsBorder live p e
    pub edges : EdgesOwe live p outer left come
    pub same : KeepBalance gone made left come

  -- then it leaves a mesh of the live vertices
  pub edited : IsEdit → MeshOver live p new outer'
  edited s = exchanged live p old new _ _ _ _ _ _ m.once m.balanced (record {
    faces_change = s.faces_change;
    outer_change = s.outer_change;
    distinct = s.distinct;
    some_face = s.some_face;
    used = λ k h. elim (s.old_or_new k h) [
      | inl l ↦ (let f = C.face_at n p old _ m k l in
          elim (face_kept old new _ _ s.faces_change k f.0 f.1 f.2)
          [ inl o ↦ inl (f.0, f.1, o) | inr o ↦ there k (kept k f.0 f.1 o h) ])
      | inr t ↦ there k t
    ];
    turning = turning;
    stays = s.stays;
    edges = s.edges;
    same = s.same;
  })
    where
      there : (k : ℕ) → IsTouched made come k → IsTouched new outer' k
      there = touched_after old new _ _ _ _ _ _ s.faces_change s.outer_change

      made_turns : AllTurn live p made
      made_turns = all_turn live p _ s.turning

      kept : (i j k : ℕ) → IsTurnOf gone i j k → live i → IsTouched made come i
      kept = corner_of_each _ (λ i _ _. live i → IsTouched made come i) s.kept

      -- a corner of a new face lives
      lives : (i j k : ℕ) → IsTurnOf new i j k → i < n → live i
      lives i j k h l = elim (s.lives i l) [
        | inl y ↦ y
        | inr d ↦ elim (face_from old new _ _ s.faces_change i j k h) [
          | inl o ↦ absurd (side_gone n p old new _ _ _ m s.faces_change i j
              (k, d.1 j k o) (λ q. d.0 (made_turns i j q.0 q.1).0) (k, h))
          | inr o ↦ (made_turns i j k o).0
        ]
      ]

      turning : AllTurn live p new
      turning i j k h = elim (face_from old new _ _ s.faces_change i j k h) [
        | inl o ↦ (let c = C.turn_corners n p old _ m i j k o in
            let h' = turned new i j k h in (
              lives i j k h c.0,
              lives j k i h' c.1,
              lives k i j (turned new j k i h') c.2,
              C.turn_left_of n p old _ m i j k o,
            ))
        | inr o ↦ made_turns i j k o
      ]

-- where the indexes below n live, it is a mesh by signs
pub to_signs : (live : ℕ → Type 0) (n : ℕ) (p : ℕ → Point) (faces : List Face)
    (outer : List (ℕ × ℕ)) → ((k : ℕ) → k < n → live k) → ((k : ℕ) → live k → k < n)
    → MeshOver live p faces outer → SignMesh n p faces outer
to_signs live n p faces outer to of m = record {
  distinct = λ i j h k. m.distinct i j (to i h) (to j k);
  some_face = some _ m.some_face;
  used = λ k h. touched_in_words _ _ k (m.used k (to k h));
  corners = λ f h. let t = m.turning f.a f.b f.c (inl h) in
      (of f.a t.0, of f.b t.1, of f.c t.2);
  turning = λ f h. (m.turning f.a f.b f.c (inl h)).3;
  ends = λ e h. let b = (m.border e h).ends in (of e.0 b.0, of e.1 b.1, b.2);
  supporting = λ e h k l. (m.border e h).supporting k (to k l);
  bare = λ e h k l. (m.border e h).bare k (to k l);
  once = m.once;
  balanced = m.balanced;
}
  where
    some : (xs : List Face) → xs ≢ [] → (f : Face) × Contains xs f
    some [] n = absurd (n refl)
    some (x ∷ xs) n = (x, (0, omega arith, refl))

-- an outer edge of a mesh
pub border_of : (n : ℕ) (p : ℕ → Point) (faces : List Face) (outer : List (ℕ × ℕ))
    → SignMesh n p faces outer → (e : ℕ × ℕ) → Contains outer e → IsBorder (λ k. k < n) p e
border_of n p faces outer m e h =
    record { ends = m.ends e h; supporting = m.supporting e h; bare = m.bare e h }
