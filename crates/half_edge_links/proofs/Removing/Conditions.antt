-- What the steps of a removal need, and how it follows from what always holds of a mesh.
-- IsUnlinkable m e: an edge between the outer face and itself, with all that taking it out needs
-- IsHullEdge m h: an inner face on the left, the outer one on the right, and two different ends
-- IsFullWheel m o: a vertex with three different faces, and with no further edge
-- IsFullStrip m h k: a hull vertex with k different faces in a row, and with no further edge
-- IsFanOfTwo m a z, IsFanOfOne m z: what is left of a wheel after one edge, and after two, are gone
-- unlinkable, removable: in a valid mesh, `IsRemovable` gives `IsUnlinkable`; and back
-- full_wheel, full_strip: in a valid mesh, `IsWheel` gives `IsFullWheel`, and `IsStrip`
--   `IsFullStrip`
-- flippable: in a valid mesh, an edge with inner faces on both sides has two different ones
-- spoke_at: each edge on the walk around a vertex is an edge of the mesh and starts there
-- turn_one: the walk around a vertex is one to one
use Rattle.std.proofs.Common.{◌≡◌, ◌≢◌, ◌⊎◌, ◌+◌, ◌-◌, ◌<◌, ◌≤◌, ◌==◌, if◌then◌else◌, ◌∙◌}
use Rattle.std.proofs.Common.{ℕ, zero, suc, Bool, true, length, Some, refl, sym, ap, inl, inr}
use Rattle.std.proofs.Common.{arith}
use Rattle.std.proofs.lemmas.Bool.{eq-eqb, eqb-true}
use Rattle.std.proofs.lemmas.Bool.Decides.{nat_tests}
use Rattle.half_edge_links.specs.{AreSoundLinks, face, IsBetweenFaces, IsClosed, IsFlippable}
use Rattle.half_edge_links.specs.{IsPeelable, IsRemovable, IsStrip, IsValidMesh, IsWheel, Mesh}
use Rattle.half_edge_links.specs.{next, origin, prev, rev, spoke, turn}
use Rattle.half_edge_links.proofs.Lists.Orbits.{step_add, step_back}
use Rattle.half_edge_links.proofs.Lists.Rev.{rev-rev, rev_differs, rev_within}
use Rattle.half_edge_links.proofs.Lists.Walks.{among_steps, from_steps, steps_closed, to_steps}
use Rattle.half_edge_links.proofs.Sound.Triangles.{IsTriangle, same_loop, triangle_at}

-- an edge with the outer face on both sides, that can be taken out: where it is the last one at an
-- end in its loop, it is the only one there
pub record IsUnlinkable (m : Mesh) (e : ℕ) : Type 0 where
  pub within : e < length m.half_edges
  pub outer : face m e ≡ 0
  pub twin_outer : face m (rev e) ≡ 0
  pub ends : origin m e ≢ origin m (rev e)
  pub start_alone : next m (rev e) ≡ e → (h : ℕ) → h < length m.half_edges
      → origin m h ≡ origin m e → h ≡ e
  pub end_alone : next m e ≡ rev e → (h : ℕ) → h < length m.half_edges
      → origin m h ≡ origin m (rev e) → h ≡ rev e
  pub start_free : next m (rev e) ≢ prev m e
  pub end_free : prev m (rev e) ≢ next m e
  pub whole : next m e ≡ rev e → prev m e ≡ rev e → length m.half_edges ≡ 2

-- an edge with an inner face on its left and the outer one on its right
pub record IsHullEdge (m : Mesh) (h : ℕ) : Type 0 where
  pub within : h < length m.half_edges
  pub inner : 0 < face m h
  pub outer : face m (rev h) ≡ 0
  pub ends : origin m h ≢ origin m (rev h)

-- a vertex with three faces round it: o, the next and the one after it are all edges out of it
pub record IsFullWheel (m : Mesh) (o : ℕ) : Type 0 where
  pub wheel : IsWheel m o
  pub first_apart : face m o ≢ face m (turn m o)
  pub second_apart : face m (turn m o) ≢ face m (turn m (turn m o))
  pub third_apart : face m (turn m (turn m o)) ≢ face m o
  pub first_end : origin m (rev o) ≢ origin m o
  pub second_end : origin m (rev (turn m o)) ≢ origin m o
  pub third_end : origin m (rev (turn m (turn m o))) ≢ origin m o
  pub only : (h : ℕ) → h < length m.half_edges → origin m h ≡ origin m o
      → (h ≡ o) ⊎ ((h ≡ turn m o) ⊎ (h ≡ turn m (turn m o)))

-- a vertex with two edges, a and then z: a face between them, and a hole of four edges on the other
-- side
pub record IsFanOfTwo (m : Mesh) (a z : ℕ) : Type 0 where
  pub peelable : IsHullEdge m a
  pub spoke : turn m a ≡ z
  pub within : z < length m.half_edges
  pub same : origin m z ≡ origin m a
  pub ends : origin m (rev z) ≢ origin m a
  pub gap : next m (rev a) ≡ z
  pub round : next m (next m (next m z)) ≡ rev a
  pub off : origin m (next m (next m z)) ≢ origin m a
  pub apart : next m (next m z) ≢ next m z
  pub only : (h : ℕ) → h < length m.half_edges → origin m h ≡ origin m a → (h ≡ a) ⊎ (h ≡ z)
  pub unnamed : (k : ℕ) → m.outer_edge ≡ Some k
      → (k ≢ rev a) × (k ≢ z) × (k ≢ next m z) × (k ≢ next m (next m z))

-- a vertex with one edge, z, in a hole of three more edges
pub record IsFanOfOne (m : Mesh) (z : ℕ) : Type 0 where
  pub within : z < length m.half_edges
  pub outer : face m z ≡ 0
  pub pendant : next m (rev z) ≡ z
  pub ends : origin m z ≢ origin m (rev z)
  pub round : next m (next m (next m (next m z))) ≡ rev z
  pub first_off : (next m z ≢ z) × (next m z ≢ rev z)
  pub second_off : (next m (next m z) ≢ z) × (next m (next m z) ≢ rev z)
  pub third_off : (next m (next m (next m z)) ≢ z) × (next m (next m (next m z)) ≢ rev z)
  pub apart : (next m (next m z) ≢ next m z) × (next m (next m (next m z)) ≢ next m z)
      × (next m (next m (next m z)) ≢ next m (next m z))
  pub only : (h : ℕ) → h < length m.half_edges → origin m h ≡ origin m z → h ≡ z
  pub unnamed : (k : ℕ) → m.outer_edge ≡ Some k → (k ≢ z) × (k ≢ rev z) × (k ≢ next m z)
      × (k ≢ next m (next m z)) × (k ≢ next m (next m (next m z)))

-- a vertex with k inner faces, one after the other from edge h on, and the outer face between the
-- last edge and h
pub record IsFullStrip (m : Mesh) (h k : ℕ) : Type 0 where
  pub strip : IsStrip m h k
  pub apart : (i j : ℕ) → i < j → j < k → face m (spoke m h i) ≢ face m (spoke m h j)
  pub ends : (i : ℕ) → i ≤ k → origin m (rev (spoke m h i)) ≢ origin m h
  pub only : (g : ℕ) → g < length m.half_edges → origin m g ≡ origin m h
      → (i : ℕ) × (i ≤ k) × (g ≡ spoke m h i)

-- an edge that is alone at its start, where the walk round it comes back at once
pub alone_at : (m : Mesh) (e : ℕ) → IsValidMesh m → e < length m.half_edges → next m (rev e) ≡ e
    → (h : ℕ) → h < length m.half_edges → origin m h ≡ origin m e → h ≡ e
alone_at m e v within back h h_in same =
    let turned : rev (prev m e) ≡ e = ap (λ k. rev (prev m k)) (sym back) ∙ ap rev
    (v.sound.edges (rev e) (rev_within _ _ v.sound.even within)).prev_next ∙ rev-rev e in
    let closed : IsClosed m (λ k. k == e) = λ k k_in is. eq-eqb (rev (prev m k)) e
    (ap (λ j. rev (prev m j)) (eqb-true k e is) ∙ turned) in
    eqb-true h e (v.stars (λ k. k == e) closed e h within h_in (sym same) (eq-eqb e e refl))

-- the edge after one into a vertex is not the edge itself, whose ends differ
free_at : (m : Mesh) (e : ℕ) → IsValidMesh m → e < length m.half_edges → next m (rev e) ≢ prev m e
free_at m e v within same =
    let here = v.sound.edges e within in
    let there = v.sound.edges (rev e) (rev_within _ _ v.sound.even within) in
    let before = v.sound.edges (prev m e) here.prev_in in
    v.apart (prev m e) here.prev_in (ap (origin m) (sym same) ∙ there.starts
    ∙ ap (origin m) (rev-rev e ∙ sym here.next_prev) ∙ before.starts)

-- in a valid mesh, an edge that may be removed can be taken out of its loops
pub unlinkable : (m : Mesh) (e : ℕ) → IsValidMesh m → IsRemovable m e → IsUnlinkable m e
unlinkable m e v can =
    let t_in = rev_within e (length m.half_edges) v.sound.even can.within in
    record {
      within = can.within;
      outer = can.outer;
      twin_outer = can.twin_outer;
      ends = v.apart e can.within;
      start_alone = λ q. alone_at m e v can.within q;
      end_alone = λ q. alone_at m (rev e) v t_in (ap (next m) (rev-rev e) ∙ q);
      start_free = free_at m e v can.within;
      end_free = λ q. free_at m (rev e) v t_in (ap (next m) (rev-rev e) ∙ sym q);
      whole = can.whole;
    }

-- an edge that can be taken out of its loops may be removed
pub removable : (m : Mesh) (e : ℕ) → IsUnlinkable m e → IsRemovable m e
removable m e can = assumption

-- in a valid mesh, an edge that may be peeled off has different ends
pub hull_edge : (m : Mesh) (h : ℕ) → IsValidMesh m → IsPeelable m h → IsHullEdge m h
hull_edge m h v can = record {
  within = can.within;
  inner = can.inner;
  outer = can.outer;
  ends = v.apart h can.within;
}

-- an edge of the hull with different ends may be peeled off
pub peelable : (m : Mesh) (h : ℕ) → IsHullEdge m h → IsPeelable m h
peelable m h can = record { within = can.within; inner = can.inner; outer = can.outer }

module _ (m : Mesh) (v : IsValidMesh m) (h : ℕ) (within : h < length m.half_edges) where
  -- the next edge round the start of an edge is in the mesh
  pub turn_in : turn m h < length m.half_edges
  turn_in = rev_within _ _ v.sound.even (v.sound.edges h within).prev_in

  -- the next edge round the start of an edge starts there too
  pub turn_starts : origin m (turn m h) ≡ origin m h
  turn_starts = let here = v.sound.edges h within in
      sym (v.sound.edges (prev m h) here.prev_in).starts ∙ ap (origin m) here.next_prev

  -- edges from one vertex with one inner face are one
  pub same_spoke : (g : ℕ) → g < length m.half_edges → 0 < face m h → face m g ≡ face m h
      → origin m g ≡ origin m h → g ≡ h
  same_spoke g g_in inner one_face same =
      let here = v.sound.edges h within in
      elim (same_loop m h g v.sound within g_in inner one_face) [
        | inl is ↦ is
        | inr (inl is) ↦ absurd (v.apart h within (sym same ∙ ap (origin m) is ∙ here.starts))
        | inr (inr is) ↦ absurd
            (v.apart (prev m h) here.prev_in (ap (origin m) (sym is) ∙ same ∙ sym turn_starts))
      ]

  -- the next edge round the start of an edge with an inner face has another face
  pub turned_apart : 0 < face m h → face m (turn m h) ≢ face m h
  turned_apart inner one_face =
      let t : IsTriangle m h = triangle_at m h v.sound within inner in
      let back : prev m h ≡ rev h = sym (rev-rev (prev m h))
      ∙ ap rev (same_spoke (turn m h) turn_in inner one_face turn_starts) in
      v.apart (next m h) t.next_in ((v.sound.edges h within).starts
      ∙ ap (origin m) (sym (t.next_next ∙ back)) ∙ (v.sound.edges (next m h) t.next_in).starts)

-- one of three edges
in_three : ℕ → ℕ → ℕ → ℕ → Bool
in_three o a z k = if k == o then true else (if k == a then true else (k == z))

to_three : (o a z k : ℕ) → (k ≡ o) ⊎ ((k ≡ a) ⊎ (k ≡ z)) → in_three o a z k ≡ true
unfolding in_three
to_three o a z k at = grind (arith, nat_tests)

from_three : (o a z k : ℕ) → in_three o a z k ≡ true → (k ≡ o) ⊎ ((k ≡ a) ⊎ (k ≡ z))
unfolding in_three
from_three o a z k is = grind (arith, nat_tests)

-- in a valid mesh, the three faces of a wheel differ, and its three edges are all those of its
-- vertex
pub full_wheel : (m : Mesh) (o : ℕ) → IsValidMesh m → IsWheel m o → IsFullWheel m o
full_wheel m o v w =
    let a : ℕ = turn m o in
    let z : ℕ = turn m (turn m o) in
    let a_in = turn_in m v o w.within in
    let z_in = turn_in m v a a_in in
    let a_at = turn_starts m v o w.within in
    let z_at = turn_starts m v a a_in ∙ a_at in
    let closed : IsClosed m (in_three o a z) =
    λ k k_in is. to_three o a z (turn m k) (elim (from_three o a z k is) [
      | inl q ↦ inr (inl (ap (turn m) q))
      | inr b ↦ elim b [ inl q ↦ inr (inr (ap (turn m) q)) | inr q ↦ inl (ap (turn m) q ∙ w.round) ]
    ]) in
    record {
      wheel = w;
      first_apart = λ q. turned_apart m v o w.within w.first_inner (sym q);
      second_apart = λ q. turned_apart m v a a_in w.second_inner (sym q);
      third_apart = λ q. turned_apart m v z z_in w.third_inner (ap (face m) w.round ∙ sym q);
      first_end = λ q. v.apart o w.within (sym q);
      second_end = λ q. v.apart a a_in (a_at ∙ sym q);
      third_end = λ q. v.apart z z_in (z_at ∙ sym q);
      only = λ h h_in same. from_three o a z h (v.stars (in_three o a z) closed o h w.within h_in
          (sym same) (to_three o a z o (inl refl)));
    }

-- each edge on the walk round a vertex is an edge of the mesh and starts there
pub spoke_at : (m : Mesh) (h : ℕ) → AreSoundLinks m → h < length m.half_edges → (i : ℕ)
    → (spoke m h i < length m.half_edges) × (origin m (spoke m h i) ≡ origin m h)
spoke_at m h s within zero = (within, refl)
spoke_at m h s within (suc i) =
    let was = spoke_at m h s within i in
    let here = s.edges _ was.0 in (
      rev_within _ (length m.half_edges) s.even here.prev_in,
      sym (s.edges _ here.prev_in).starts ∙ ap (origin m) here.next_prev ∙ was.1,
    )

-- the walk round a vertex is one to one
pub turn_one : (m : Mesh) → AreSoundLinks m → (a b : ℕ) → a < length m.half_edges
    → b < length m.half_edges → turn m a ≡ turn m b → a ≡ b
turn_one m s a b p q same =
    let prevs : prev m a ≡ prev m b = sym (rev-rev (prev m a)) ∙ ap rev same ∙ rev-rev (prev m b) in
    sym (s.edges a p).next_prev ∙ ap (next m) prevs ∙ (s.edges b q).next_prev

-- in a valid mesh, the faces of a strip differ, and its edges are all those of its vertex
pub full_strip : (m : Mesh) (h k : ℕ) → IsValidMesh m → IsStrip m h k → IsFullStrip m h k
full_strip m h k v f =
    let s = v.sound in
    let at = spoke_at m h s f.within in
    let round : turn m (spoke m h k) ≡ h =
    ap (λ j. rev (prev m j)) (sym f.gap)
    ∙ ap rev (s.edges (rev h) (rev_within _ _ s.even f.within)).prev_next ∙ rev-rev h in
    let closed : IsClosed m (among_steps (turn m) h k) =
    λ g g_in is. steps_closed (turn m) h k round g is in
    record {
      strip = f;
      apart = λ i j less j_in same.
          let one = same_spoke m v (spoke m h i) (at i).0 (spoke m h j) (at j).0
          (f.inner i (omega arith)) (sym same) ((at j).1 ∙ sym (at i).1) in
          let d : i + (j - i) ≡ j = omega arith in
          let back = step_back (turn m) (length m.half_edges) (λ a a_in. turn_in m v a a_in)
          (turn_one m s) h i (j - i) f.within (sym one ∙ ap (spoke m h) (sym d)) in
          let k_is : k - (j - i) + (j - i) ≡ k = omega arith in
          let again : spoke m h k ≡ spoke m h (k - (j - i)) = ap (spoke m h) (sym k_is) ∙ step_add
          (turn m) h (k - (j - i)) (j - i) ∙ ap (λ g. spoke m g (k - (j - i))) (sym back) in
          absurd (omega (arith, f.inner (k - (j - i)) (omega arith), f.last, ap (face m) again));
      ends = λ i less q. v.apart (spoke m h i) (at i).0 ((at i).1 ∙ sym q);
      only = λ g g_in same. from_steps (turn m) h k g (v.stars (among_steps (turn m) h k) closed h g
          f.within g_in (sym same) (to_steps (turn m) h k 0 (omega arith)));
    }

-- the two faces of an edge differ, if one is an inner one
pub faces_apart : (m : Mesh) (e : ℕ) → IsValidMesh m → e < length m.half_edges → 0 < face m e
    → face m e ≢ face m (rev e)
faces_apart m e v within inner same =
    let s = v.sound in
    let t : IsTriangle m e = triangle_at m e s within inner in
    let twin_in = rev_within e _ s.even within in
    elim (same_loop m e (rev e) s within twin_in inner (sym same)) [
      | inl is ↦ rev_differs e is
      | inr (inl is) ↦
          let back : next m (rev e) ≡ prev m e = ap (next m) is ∙ t.next_next in
          v.apart (prev m e) t.prev_in (ap (origin m) (sym back) ∙ (s.edges (rev e) twin_in).starts
          ∙ ap (origin m) (rev-rev e ∙ sym t.next_prev) ∙ (s.edges (prev m e) t.prev_in).starts)
      | inr (inr is) ↦ v.apart (next m e) t.next_in ((s.edges e within).starts
          ∙ ap (origin m) (is ∙ sym t.next_next) ∙ (s.edges (next m e) t.next_in).starts)
    ]

-- so an edge with inner faces on both sides has two of them
pub flippable : (m : Mesh) (e : ℕ) → IsValidMesh m → e < length m.half_edges → 0 < face m e
    → 0 < face m (rev e) → IsFlippable m e
flippable m e v within inner twin_inner = record {
  within = within;
  inner = inner;
  twin_inner = twin_inner;
  apart = faces_apart m e v within inner;
}

-- and may be turned
pub turns_between : (m : Mesh) (e : ℕ) → IsValidMesh m → IsBetweenFaces m e → IsFlippable m e
turns_between m e v b = flippable m e v b.within b.inner b.twin_inner

-- an edge that may be turned has inner faces on both sides
pub between_faces : (m : Mesh) (e : ℕ) → IsFlippable m e → IsBetweenFaces m e
between_faces m e can =
    record { within = can.within; inner = can.inner; twin_inner = can.twin_inner }
