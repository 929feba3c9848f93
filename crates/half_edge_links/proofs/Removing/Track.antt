-- The edges that are left once one was removed, under their new indexes.
-- Notions: IsLeft, last_pair, pair_at, name, former, left_walk; side_left, former_is, name_in,
-- name_same, origin_at, face_at, next_at, next_before, next_twin_before, old_at, rev_at, outer_at.
use Rattle.std.proofs.Common.{◌≡◌, ◌≢◌, ◌-◌, ◌%◌, ◌<◌, ◌≤◌, ◌∙◌}
use Rattle.std.proofs.Common.{ℕ, length, Some, sym, ap, inl, inr, arith}
use Rattle.half_edge_links.specs.{AreSoundLinks, edge_naming, face, IsKeptEdge, Mesh, next, origin}
use Rattle.half_edge_links.specs.{pair_moved, prev, Removes, renamed, rev}
use Rattle.half_edge_links.specs.{Remove.outer_after, Renames.IsRenamedEdge}
use Rattle.half_edge_links.proofs.Lists.Rev.{rev-rev, rev_within}
use Rattle.half_edge_links.proofs.Relinking.Rounds.{renamed_walk, Walk}
use Rattle.half_edge_links.proofs.{Removing.Conditions.IsUnlinkable, Sound.RenameSound.kept_edge}
use Rattle.half_edge_links.proofs.Removing.FillSound.{new_left, old_left, old_rev}
use Rattle.half_edge_links.proofs.Removing.UnlinkSound.{after_cases, sides, sides_back}

-- an edge that is left
pub record IsLeft (m : Mesh) (e k : ℕ) : Type 0 where
  pub within : k < length m.half_edges
  pub other : k ≢ e
  pub other_side : k ≢ rev e

-- and its other side
pub side_left : (m : Mesh) (e k : ℕ) → AreSoundLinks m → IsLeft m e k → IsLeft m e (rev k)
side_left m e k s l = record {
  within = rev_within _ _ s.even l.within;
  other = λ z. l.other_side (sym (rev-rev k) ∙ ap rev z);
  other_side = λ z. l.other (sym (rev-rev k) ∙ ap rev z ∙ rev-rev e);
}

-- the last two directed edges take the place of e and its other side: the first of each two
abbrev pub last_pair : Mesh → ℕ
last_pair m = length m.half_edges - 2

-- the even one of edge e and its reverse
abbrev pub pair_at : ℕ → ℕ
pair_at e = e - e % 2

module _ (m new : Mesh) (e : ℕ) (s : AreSoundLinks m) (can : IsUnlinkable m e)
    (r : Removes m new e) where
  -- the new index
  abbrev pub name : ℕ → ℕ
  name k = pair_moved (last_pair m) (pair_at e) k

  last_even : last_pair m % 2 ≡ 0
  last_even = let even = s.even in let w = can.within in omega arith

  hole_even : pair_at e % 2 ≡ 0
  hole_even = omega arith

  below : pair_at e ≤ last_pair m
  below = let even = s.even in let w = can.within in omega arith

  kept_left : (k : ℕ) → IsLeft m e k → IsKeptEdge new (edge_naming (last_pair m) (pair_at e)) k
  kept_left k l =
      let off = sides_back m r.between e s can r.unlinks k l.other l.other_side in
      let n = new_left (last_pair m) (pair_at e) last_even hole_even below k
      (omega (arith, l.within)) off.0 off.1 in
      record { within = omega (arith, n.0, r.edge_count); back = n.1 }

  -- the index before
  abbrev pub former : ℕ → ℕ
  former h = pair_moved (pair_at e) (last_pair m) h

  -- a walk on the new mesh, under the indexes before
  abbrev pub left_walk : Walk → Walk
  left_walk w = renamed_walk w name former (IsLeft m e)

  -- the index before the removal, of an edge that is left
  pub former_is : (k : ℕ) → IsLeft m e k → former (name k) ≡ k
  former_is k l = (kept_left k l).back

  -- the new index is one of the new mesh
  pub name_in : (k : ℕ) → IsLeft m e k → name k < length new.half_edges
  name_in k l = (kept_left k l).within

  -- edges that are left with the same new index are the same
  pub name_same : (a b : ℕ) → IsLeft m e a → IsLeft m e b → name a ≡ name b → a ≡ b
  name_same a b p q same = sym (kept_left a p).back ∙ ap (pair_moved (pair_at e) (last_pair m)) same
      ∙ (kept_left b q).back

  links : (k : ℕ) → IsLeft m e k
      → IsRenamedEdge r.between new (edge_naming (last_pair m) (pair_at e)) (name k) k
  links k l =
      kept_edge r.between new (edge_naming (last_pair m) (pair_at e)) r.renames k (kept_left k l)

  -- an edge that is left starts where it did
  pub origin_at : (k : ℕ) → IsLeft m e k → origin new (name k) ≡ origin m k
  origin_at k l = (links k l).links.origin ∙ r.unlinks.origins k

  -- an edge that is left has the face that it had
  pub face_at : (k : ℕ) → IsLeft m e k → face new (name k) ≡ face m k
  face_at k l = (links k l).links.face ∙ r.unlinks.faces k

  -- the same edge comes next, unless e or its other side came next
  pub next_at : (k : ℕ) → IsLeft m e k → k ≢ prev m e → k ≢ prev m (rev e)
      → next new (name k) ≡ name (next m k)
  next_at k l a b = (links k l).links.next
      ∙ ap (pair_moved (last_pair m) (pair_at e)) (r.unlinks.other_next k l.other l.other_side a b)

  -- after the edge before e comes the one after the other side of e
  pub next_before : (k : ℕ) → IsLeft m e k → k ≡ prev m e
      → next new (name k) ≡ name (next m (rev e))
  next_before k l is = (links k l).links.next ∙ ap (pair_moved (last_pair m) (pair_at e))
      (ap (next r.between) is ∙ r.unlinks.before (λ z. l.other_side (is ∙ z)))

  -- after the edge before the other side of e comes the one after e
  pub next_twin_before : (k : ℕ) → IsLeft m e k → k ≡ prev m (rev e)
      → next new (name k) ≡ name (next m e)
  next_twin_before k l is = (links k l).links.next ∙ ap (pair_moved (last_pair m) (pair_at e))
      (ap (next r.between) is ∙ r.unlinks.twin_before (λ z. l.other (is ∙ z)))

  -- each edge of the new mesh is one that is left
  pub old_at : (h : ℕ) → h < length new.half_edges → IsLeft m e (former h)
      × (name (former h) ≡ h)
  old_at h within =
      let o = old_left (last_pair m) (pair_at e) last_even hole_even below h
      (omega (arith, r.edge_count)) in
      let off =
      sides m r.between e s can r.unlinks (pair_moved (pair_at e) (last_pair m) h) o.1 o.2 in
      (record { within = omega (arith, o.0); other = off.0; other_side = off.1 }, o.3)

  -- the other side of an edge that is left is the same edge as before
  pub rev_at : (k : ℕ) → IsLeft m e k → rev (name k) ≡ name (rev k)
  rev_at k l =
      let o = old_at (rev (name k))
      (rev_within (name k) (length new.half_edges) r.renames.even (name_in k l)) in
      sym o.1 ∙ ap (pair_moved (last_pair m) (pair_at e)) (old_rev (last_pair m)
      (pair_at e) last_even hole_even below (name k) ∙ ap rev (kept_left k l).back)

  -- the outer face names the same edge, if this is left
  pub outer_at : (k : ℕ) → IsLeft m e k → m.outer_edge ≡ Some k → new.outer_edge ≡ Some (name k)
  outer_at k l is =
      let after =
      r.unlinks.outer_edge ∙ ap (λ o. outer_after o e (rev e) (next m e) (prev m e)) is in
      elim (after_cases k e (rev e) (next m e) (prev m e)) [
        | inl i ↦ absurd (elim i.0 [ inl z ↦ l.other z | inr z ↦ l.other_side z ])
        | inr i ↦ r.renames.outer
            ∙ ap (renamed (pair_moved (last_pair m) (pair_at e))) (after ∙ i.2)
      ]
