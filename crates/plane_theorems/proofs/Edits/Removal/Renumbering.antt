-- A vertex goes, and the last one takes its index: the mesh of all others, renumbered, is a local
-- mesh of the points that are left.
-- Notions: old_index, new_below, old_of_new, new_of_old (indexes); left_count, left_place (points);
-- from_map.
use Rattle.std.proofs.Common.{◌≡◌, ◌⊎◌, ◌<◌, [], ◌∷◌, ◌∙◌, ℕ, suc, List, length, map, get_or, set}
use Rattle.std.proofs.Common.{refl, sym, ap, subst, arith}
use Prim.Native.Nat.{◌-◌}
use mathlib.Core.Logic.{inl, inr, ◌≢◌}
use Rattle.std.specs.Prelude.{pos, ◌+ℤ◌, nat_eq, if◌then◌else◌, swap_remove, Contains, AllPairs}
use Rattle.std.proofs.lemmas.Bool.{cases_eq}
use Rattle.std.proofs.lemmas.Bool.Decides.{nat_tests}
use Rattle.std.proofs.lemmas.List.{length-take, length-set, get_or-take}
use Rattle.std.proofs.lemmas.List.{get_or-set_same, get_or-set_other}
use Rattle.plane.specs.{AreNeighbours, Face, Fraction, IsIndex, place, Point, side, TurnsLeft}
use Rattle.plane.specs.{whole, WithinSegment}
use Rattle.plane.proofs.{at_most_last, one_more_than_last}
use Rattle.plane_theorems.specs.{alone, along, AreNeighboursBut, around, IsCorner, IsOther}
use Rattle.plane_theorems.specs.{LineMesh, LineMeshWithout, LocalMesh, LocalMeshWithout, new_index}
use Rattle.plane_theorems.specs.Edits.Removal.{renumbered, renumbered_pair}
use Rattle.plane_theorems.specs.Edits.RemovalLaws.{LastTakesFreedIndex, LastTakesFreedIndexOnLine}
use Rattle.plane_theorems.proofs.Edits.LocalMesh.Changes.{mapped, once_under_map, total_map}
use Rattle.plane_theorems.proofs.Tiling.Totals.{Contains-none, get_or_any}
pub use Rattle.plane_theorems.proofs.Edits.LocalMesh.Changes.{from_map}

-- ---- the indexes
module _ (v last : ℕ) where
  -- the index that a vertex had before the last one moved
  pub old_index : ℕ → ℕ
  old_index j = if nat_eq j v then last else j

  new_of_last : (k : ℕ) → k ≡ last → new_index v last k ≡ v
  new_of_last k e = grind (arith, nat_tests)

  new_of_other : (k : ℕ) → k ≢ last → new_index v last k ≡ k
  new_of_other k n = grind (arith, nat_tests)

  old_of_freed : (j : ℕ) → j ≡ v → old_index j ≡ last
  unfolding old_index
  old_of_freed j e = grind (arith, nat_tests)

  old_of_other : (j : ℕ) → j ≢ v → old_index j ≡ j
  unfolding old_index
  old_of_other j n = grind (arith, nat_tests)

  -- an old index is one of the others'
  pub old_below : (j : ℕ) → v < suc last → j < last → (old_index j < suc last) × (old_index j ≢ v)
  old_below j hv h =
      elim (cases_eq j v) [ inl e ↦ freed (old_of_freed j e) e | inr n ↦ kept (old_of_other j n) n ]
    where
      freed : old_index j ≡ last → j ≡ v → (old_index j < suc last) × (old_index j ≢ v)
      freed e s = (omega arith, λ q. omega arith)

      kept : old_index j ≡ j → j ≢ v → (old_index j < suc last) × (old_index j ≢ v)
      kept e n = (omega arith, λ q. n (sym e ∙ q))

  -- a new index is below the last
  pub new_below : (k : ℕ) → v < suc last → k < suc last → k ≢ v → new_index v last k < last
  new_below k hv h n = elim (cases_eq k last) [
    | inl e ↦ omega (arith, new_of_last k e)
    | inr d ↦ omega (arith, new_of_other k d)
  ]

  -- the new index of an old one is the index itself
  pub new_of_old : (j : ℕ) → j < last → new_index v last (old_index j) ≡ j
  new_of_old j h = elim (cases_eq j v) [
    | inl e ↦ new_of_last (old_index j) (old_of_freed j e) ∙ sym e
    | inr n ↦ ap (new_index v last) (old_of_other j n) ∙ new_of_other j (omega arith)
  ]

  -- the old index of a new one is the index itself
  pub old_of_new : (k : ℕ) → k ≢ v → old_index (new_index v last k) ≡ k
  old_of_new k n = elim (cases_eq k last) [
    | inl e ↦ old_of_freed _ (new_of_last k e) ∙ sym e
    | inr d ↦ ap old_index (new_of_other k d) ∙ old_of_other k n
  ]

  -- two others have different new indexes
  pub new_apart : (i k : ℕ) → i ≢ v → k ≢ v → new_index v last i ≡ new_index v last k → i ≡ k
  new_apart i k n d e = sym (old_of_new i n) ∙ ap old_index e ∙ old_of_new k d

  -- ---- the points, old and new
  module _ (points new : List Point) (v_index : v < suc last) (count : length points ≡ suc last)
      (count_new : length new ≡ last)
      (same : (j : ℕ) → j < last → place new j ≡ place points (old_index j)) where
    other : (j : ℕ) → IsIndex new j → IsOther points v (old_index j)
    other j h = let o = old_below j v_index (rw count_new at h) in
        (rw count o.0, o.1)

    -- the new index of a vertex besides v is one of the new points
    here : (k : ℕ) → IsOther points v k → IsIndex new (new_index v last k)
    here k o = rw count_new (new_below k v_index (rw count at o.0) o.1)

    at_new : (k : ℕ) → IsOther points v k → place new (new_index v last k) ≡ place points k
    at_new k o = same _ (new_below k v_index (rw count at o.0) o.1)
        ∙ ap (place points) (old_of_new k o.1)

    at_old : (j : ℕ) → IsIndex new j → place new j ≡ place points (old_index j)
    at_old j h = same j (rw count_new at h)

    -- the new index of the old index of j is j
    back : (j : ℕ) → IsIndex new j → new_index v last (old_index j) ≡ j
    back j h = new_of_old j (rw count_new at h)

    -- pairs of others that differ still do
    once_renumbered : (pairs : List (ℕ × ℕ)) → AllPairs (λ d e. d ≢ e) pairs
        → ((e : ℕ × ℕ) → Contains pairs e → (e.0 ≢ v) × (e.1 ≢ v))
        → AllPairs (λ d e. d ≢ e) (map (renumbered_pair v last) pairs)
    once_renumbered pairs once others = once_under_map _ _ once (λ a b x y q.
        let s = others a x in let t = others b y in λ o. (
          new_apart a.0 b.0 s.0 t.0 (ap (λ z. z.0) q) o,
          new_apart a.1 b.1 s.1 t.1 (ap (λ z. z.1) q) o,
        ))

    -- ---- the mesh
    module _ (faces : List Face) (outer : List (ℕ × ℕ))
        (m : LocalMeshWithout v points faces outer) where
      of_face : (P : Face → Type 0) → ((f : Face) → Contains faces f → P (renumbered v last f))
          → (g : Face) → Contains (map (renumbered v last) faces) g → P g
      of_face P h g c = let r = from_map _ _ g c in subst P r.2 (h r.0 r.1)

      of_pair : (P : ℕ × ℕ → Type 0) → ((e : ℕ × ℕ) → Contains outer e → P
          (renumbered_pair v last e)) → (g : ℕ × ℕ) → Contains
          (map (renumbered_pair v last) outer) g → P g
      of_pair P h g c = let r = from_map _ _ g c in subst P r.2 (h r.0 r.1)

      not_empty : (fs : List Face) → fs ≢ [] → map (renumbered v last) fs ≢ []
      not_empty [] n e = n refl
      not_empty (f ∷ fs) n e = Contains-none (renumbered v last f)
          (subst (λ l. Contains l (renumbered v last f)) e (0, omega arith, refl))

      -- each index is a corner of a renumbered face or an end of a renumbered outer edge
      used : (j : ℕ) → IsIndex new j → ((f : Face) × Contains (map (renumbered v last) faces) f
          × IsCorner f j) ⊎ ((e : ℕ × ℕ) × Contains (map (renumbered_pair v last) outer) e ×
          ((j ≡ e.0) ⊎ (j ≡ e.1)))
      used j h = elim (m.used (old_index j) (other j h)) [
        | inl u ↦ inl (renumbered v last u.0, mapped _ _ u.0 u.1, corner u.0 u.2)
        | inr u ↦ inr (renumbered_pair v last u.0, mapped _ _ u.0 u.1, end u.0 u.2)
      ]
        where
          named : (k : ℕ) → old_index j ≡ k → j ≡ new_index v last k
          named k e = sym (back j h) ∙ ap (new_index v last) e

          corner : (f : Face) → IsCorner f (old_index j) → IsCorner (renumbered v last f) j
          corner f (inl e) = inl (named f.a e)
          corner f (inr (inl e)) = inr (inl (named f.b e))
          corner f (inr (inr e)) = inr (inr (named f.c e))

          end : (e : ℕ × ℕ) → (old_index j ≡ e.0) ⊎ (old_index j ≡ e.1)
              → (j ≡ new_index v last e.0) ⊎ (j ≡ new_index v last e.1)
          end e (inl s) = inl (named e.0 s)
          end e (inr s) = inr (named e.1 s)

      -- two ends and a third vertex, seen before and after
      seen : (P : Fraction → Fraction → Fraction → Type 0) (i j k : ℕ) → IsOther points v i
          → IsOther points v j → IsIndex new k
          → P (place new (new_index v last i)) (place new (new_index v last j)) (place new k)
          → P (place points i) (place points j) (place points (old_index k))
      seen P i j k a b c = subst (λ (o : Fraction × Fraction × Fraction). P o.0 o.1 o.2)
          (λ s. (at_new i a s, at_new j b s, at_old k c s))

      -- a mesh without the vertex, renumbered, is a mesh of the points that are left
      pub renumbering :
          LocalMesh new (map (renumbered v last) faces) (map (renumbered_pair v last) outer)
      renumbering = record {
        distinct = λ i j h k n e. m.distinct (old_index i) (old_index j) (other i h) (other j k)
            (λ s. n (sym (back i h) ∙ ap (new_index v last) s ∙ back j k))
            (sym (at_old i h) ∙ e ∙ at_old j k);
        some_face = not_empty _ m.some_face;
        used = used;
        corners = of_face (λ g. IsIndex new g.a × IsIndex new g.b × IsIndex new g.c)
            (λ f h. let c = m.corners f h in (here f.a c.0, here f.b c.1, here f.c c.2));
        turning = of_face (λ g. TurnsLeft (place new g.a) (place new g.b) (place new g.c))
            (λ f h. let c = m.corners f h in
            subst (λ (o : Fraction × Fraction × Fraction). TurnsLeft o.0 o.1 o.2) (λ s. (
              sym (at_new f.a c.0) s,
              sym (at_new f.b c.1) s,
              sym (at_new f.c c.2) s,
            )) (m.turning f h));
        ends = of_pair (λ g. IsIndex new g.0 × IsIndex new g.1 × (g.0 ≢ g.1)) (λ e h. let c =
            m.ends e h in (here e.0 c.0, here e.1 c.1, λ q. c.2 (new_apart e.0 e.1 c.0.1 c.1.1 q)));
        supporting = of_pair (λ g. (k : ℕ) → IsIndex new k → ¬ TurnsLeft (place new g.0)
            (place new g.1) (place new k)) (λ e h k l t. let c = m.ends e h in
            m.supporting e h (old_index k) (other k l) (seen TurnsLeft e.0 e.1 k c.0 c.1 l t));
        bare = of_pair (λ g. (k : ℕ) → IsIndex new k → ¬ WithinSegment (place new g.0)
            (place new g.1) (place new k)) (λ e h k l t. let c = m.ends e h in
            m.bare e h (old_index k) (other k l) (seen WithinSegment e.0 e.1 k c.0 c.1 l t));
        once = once_renumbered _ m.once (λ e h. let c = m.ends e h in (c.0.1, c.1.1));
        balanced = λ flow anti. (λ i. total_map (renumbered v last) (around flow) faces i +ℤ
            total_map (renumbered_pair v last) (along flow) outer i) ∙ m.balanced
            (λ a b. flow (new_index v last a) (new_index v last b)) (λ a b. anti _ _);
      }

    -- ---- the mesh of a line
    module _ (outer : List (ℕ × ℕ)) (m : LineMeshWithout v points outer) where
      -- neighbours afterwards were neighbours but for v
      next_then : (i j : ℕ) → AreNeighbours (alone new) i j
          → AreNeighboursBut v points (old_index i) (old_index j)
      next_then i j s = record {
        apart = λ e. s.apart (sym (back i s.first) ∙ ap (new_index v last) e ∙ back j s.second);
        first = other i s.first;
        second = other j s.second;
        none_between = λ k o w. s.none_between _ (here k o)
            (subst (λ (q : Fraction × Fraction × Fraction). WithinSegment q.0 q.1 q.2)
            (λ t. (sym (at_old i s.first) t, sym (at_old j s.second) t, sym (at_new k o) t)) w);
      }

      next_now : (i j : ℕ) → AreNeighboursBut v points i j
          → AreNeighbours (alone new) (new_index v last i) (new_index v last j)
      next_now i j s = record {
        apart = λ e. s.apart (new_apart i j s.first.1 s.second.1 e);
        first = here i s.first;
        second = here j s.second;
        none_between = λ k h w. s.none_between (old_index k) (other k h)
            (subst (λ (q : Fraction × Fraction × Fraction). WithinSegment q.0 q.1 q.2)
            (λ t. (at_new i s.first t, at_new j s.second t, at_old k h t)) w);
      }

      there : (i j : ℕ) → Contains (map (renumbered_pair v last) outer) (i, j)
          → AreNeighbours (alone new) i j
      there i j h =
          let r = from_map _ _ (i, j) h in
          subst (λ (o : ℕ × ℕ). AreNeighbours (alone new) o.0 o.1) r.2
          (next_now r.0.0 r.0.1 ((m.neighbours r.0.0 r.0.1).0 r.1))

      again : (i j : ℕ) → AreNeighbours (alone new) i j
          → Contains (map (renumbered_pair v last) outer) (i, j)
      again i j s = subst (λ (o : ℕ × ℕ). Contains (map (renumbered_pair v last) outer) o)
          (λ t. (back i s.first t, back j s.second t)) (mapped _ _ (old_index i, old_index j)
          ((m.neighbours (old_index i) (old_index j)).1 (next_then i j s)))

      -- a line without the vertex, renumbered, is a line of the points that are left
      pub line_renumbering : LineMesh new (map (renumbered_pair v last) outer)
      line_renumbering = record {
        distinct = λ i j h k n e. m.distinct (old_index i) (old_index j) (other i h)
            (other j k) (λ s. n (sym (back i h) ∙ ap (new_index v last) s ∙ back j k))
            (sym (at_old i h) ∙ e ∙ at_old j k);
        straight = λ i j k a b c. (λ o. side (at_old i a o) (at_old j b o) (at_old k c o))
            ∙ m.straight (old_index i) (old_index j) (old_index k) (other i a) (other j b)
            (other k c);
        neighbours = λ i j. (there i j, again i j);
        once = once_renumbered _ m.once (λ e h. let s = (m.neighbours e.0 e.1).0 h in
            (s.first.1, s.second.1));
      }

-- ---- the points that are left
-- one point fewer is left
pub left_count : (points : List Point) (v : ℕ) (d : Point) → v < length points
    → length (swap_remove points v d) ≡ length points - 1
left_count points v d h = omega (
  arith,
  length-take {A = Point} (length points - 1) (set points v (get_or points (length points - 1) d)),
  length-set {A = Point} points v (get_or points (length points - 1) d),
)

-- what is read beyond the end of a list of points
abbrev nowhere : Point
nowhere = record { x = pos 0; y = pos 0 }

-- of the points that are left, the one of index j is at the place of its old index
pub left_place : (points : List Point) (v : ℕ) (d : Point) → v < length points → (j : ℕ)
    → j < length points - 1
    → place (swap_remove points v d) j ≡ place points (old_index v (length points - 1) j)
left_place points v d h j l = ap whole (go (cases_eq j v))
  where
    last_index : length points - 1 < length points
    last_index = omega arith

    go : (j ≡ v) ⊎ (j ≡ v → ⊥) → get_or (swap_remove points v d) j nowhere
        ≡ get_or points (old_index v (length points - 1) j) nowhere
    go (inl e) = get_or-take _ (set _ v _) j nowhere l ∙ ap
        (λ i. get_or (set points v (get_or points (length points - 1) d)) i nowhere) e ∙
        get_or-set_same _ v _ nowhere h ∙ get_or_any _ _ d nowhere
        last_index ∙ ap (λ i. get_or points i nowhere)
        (sym (old_of_freed v _ j e))
    go (inr n) = get_or-take _ (set _ v _) j nowhere l ∙ get_or-set_other _ v j _ nowhere n ∙ ap
        (λ i. get_or points i nowhere) (sym (old_of_other v _ j n))

-- where a vertex has gone and the last one takes its index, the mesh is local
pub last_takes_freed_index : LastTakesFreedIndex
last_takes_freed_index points faces outer v d h m = renumbering v _ _ (swap_remove _ v d)
    (at_most_last v _ h) (one_more_than_last v _ h) (left_count _ v d h) (left_place _ v d h) _ _ m

-- on a line too, the last vertex takes the index of the one that has gone
pub last_takes_freed_index_on_line : LastTakesFreedIndexOnLine
last_takes_freed_index_on_line points outer v d h m = line_renumbering v _ _ (swap_remove _ v d)
    (at_most_last v _ h) (one_more_than_last v _ h) (left_count _ v d h) (left_place _ v d h) _ m
