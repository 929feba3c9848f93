-- Edges that cross a segment move from one of their lists to the other.
-- Notions: ListsAllCrossing; nothing_left, less_by_room, shorter, longer, room_on, room_stays,
-- fewer_fit, can_step, can_wait, crossing_on, turn_on, crossing_begins, held_with_room,
-- moved_back, none_waits, none_taken, others_taken, others_wait.
use Rattle.std.proofs.Common.{◌≡◌, ◌+◌, ◌-◌, ◌<◌, ◌≤◌, ◌≢◌, [], ◌∷◌, ◌++◌, ◌∙◌}
use Rattle.std.proofs.Common.{ℕ, List, length, take, sym, ap, subst, arith}
use Rattle.std.proofs.Common.{append-nil}
use Rattle.std.proofs.Common.{length-append, vec_len, vec_capacity}
use mathlib.Core.Logic.{inl, inr}
use Rattle.std.specs.Prelude.{AllPairs, Contains}
use Rattle.std.proofs.lemmas.List.Elements.{Contains-push_cases}
use Rattle.{plane.specs.Point, plane_theorems.proofs.Contains-none, plane_theorems.proofs.once_none}
use Rattle.half_edge_links.specs.{Mesh}
use Rattle.delaunay_legalization.proofs.{contains_before, contains_last, once_after}
use Rattle.{delaunay_legalization.proofs.Legalizing.drained, half_edge_dcel.specs.Contents}
use Rattle.delaunay_legalization.proofs.WorkLists.{last_not_before, once_before}
use Rattle.delaunay_edit.specs.{AreAllCrossing, AreToTurn, CrossingLists, HaveRoom, KeepRoom}
use Rattle.delaunay_edit.specs.Lists.{AreHeld, AreOnce, IsIn, KeepEntries, ListCrossing, ListOthers}
use Rattle.delaunay_edit.proofs.CrossingList.{put_waiting, taken}

-- ---- of two lists of numbers
-- the last entry of the first is put at the end of the second
module _ (ws us : List ℕ) (e : ℕ) where
  moved_once : AreOnce (ws ++ e ∷ []) us → AreOnce ws (us ++ e ∷ [])
  moved_once once = record {
    first = once_before ws e once.first;
    second = once_after us e once.second (λ b. once.apart e (contains_last ws e) b);
    apart = λ h a b. elim (Contains-push_cases us e h b) as (λ _. ⊥) [
      | inl before ↦ once.apart h (contains_before ws e h a) before
      | inr is ↦ last_not_before ws e once.first (subst (Contains ws) (sym is) a)
    ];
  }

  moved_kept : (h : ℕ) → IsIn (ws ++ e ∷ []) us h → IsIn ws (us ++ e ∷ []) h
  moved_kept h (inl a) = elim (Contains-push_cases ws e h a) [
    | inl before ↦ inl before
    | inr is ↦ inr (subst (λ (k : ℕ). Contains (us ++ e ∷ []) k) is (contains_last us e))
  ]
  moved_kept h (inr b) = inr (contains_before us e h b)

  moved_only : (h : ℕ) → IsIn ws (us ++ e ∷ []) h → IsIn (ws ++ e ∷ []) us h
  moved_only h (inl a) = inl (contains_before ws e h a)
  moved_only h (inr b) = elim (Contains-push_cases us e h b) [
    | inl before ↦ inr before
    | inr is ↦ inl (subst (λ (k : ℕ). Contains (ws ++ e ∷ []) k) is (contains_last ws e))
  ]

-- a list from which nothing could be taken is as it was
unchanged : (xs ys : List ℕ) → xs ≡ ys ++ [] → ys ≡ xs
unchanged xs ys e = sym (append-nil ys) ∙ sym e

-- and empty
pub nothing_left : (xs ys : List ℕ) (v : ℕ) → xs ≡ ys ++ [] → ys ≡ take (v - 1) xs → v ≡ 0 → ys ≡ []
nothing_left xs ys v e f z = unchanged xs ys e ∙ drained xs ys v e f z

-- ---- numbers of entries
one_moved : (a b c d room : ℕ) → a ≡ c + 1 → d ≡ b + 1 → a + b ≤ room → c + d ≤ room
one_moved a b c d room e f fits = omega arith

one_taken : (a b c d room : ℕ) → c ≡ a → b ≡ d + 1 → a + b ≤ room → c + d + 1 ≤ room
one_taken a b c d room e f fits = omega arith

one_more_there : (a b c d room : ℕ) → c ≡ a + 1 → d ≡ b → a + b + 1 ≤ room → c + d ≤ room
one_more_there a b c d room e f fits = omega arith

pub less_by_room : (len a b room : ℕ) → len ≡ a → a + b + 1 ≤ room → len < room
less_by_room len a b room e fits = omega arith

less_if_popped : (len a b c room : ℕ) → len ≡ b → a ≡ c + 1 → a + b ≤ room → len < room
less_if_popped len a b c room e f fits = omega arith

pub shorter : (a b : ℕ) → a ≡ b + 1 → b < a
shorter a b e = omega arith

pub longer : (xs ys : List ℕ) (e : ℕ) → xs ≡ ys ++ e ∷ [] → length xs ≡ length ys + 1
longer xs ys e is = ap (λ (zs : List ℕ). length zs) is ∙ length-append ys (e ∷ [])

same_length : (xs ys : List ℕ) → xs ≡ ys → length xs ≡ length ys
same_length xs ys is = ap (λ (zs : List ℕ). length zs) is

-- ---- of the lists of crossing edges
-- room that stays twice stays
pub room_on : {old now new : CrossingLists} → KeepRoom old now → KeepRoom now new
    → KeepRoom old new
room_on a b = record {
  waiting = b.waiting ∙ a.waiting;
  unseen = b.unseen ∙ a.unseen;
}

-- the same room suffices for as many
pub room_stays : {n k : ℕ} {old new : CrossingLists} → KeepRoom old new → k ≡ n → HaveRoom n old
    → HaveRoom k new
room_stays {n = n} {k = k} {old = old} {new = new} same count room = record {
  waiting = fits (vec_capacity old.waiting) (vec_capacity new.waiting) same.waiting room.waiting;
  unseen = fits (vec_capacity old.unseen) (vec_capacity new.unseen) same.unseen room.unseen;
}
  where
    fits : (was now : ℕ) → now ≡ was → n ≤ was → k ≤ now
    fits was now is enough = omega (arith, is, enough, count)

-- room for so many is room for fewer
pub fewer_fit : (n k : ℕ) (l : CrossingLists) → k ≤ n → HaveRoom n l → HaveRoom k l
fewer_fit n k l few room = record {
  waiting = fits (vec_capacity l.waiting) room.waiting;
  unseen = fits (vec_capacity l.unseen) room.unseen;
}
  where
    fits : (room : ℕ) → n ≤ room → k ≤ room
    fits room enough = omega (arith, enough, few)

-- where the last entry of one list is taken out, the other has room for it
module _ {l : CrossingLists} (held : AreHeld l) (left : List ℕ) (e : ℕ) where
  pub can_step : l.waiting.items ≡ left ++ e ∷ [] → vec_len l.unseen < vec_capacity l.unseen
  can_step popped = less_if_popped (vec_len l.unseen) (length l.waiting.items)
      (length l.unseen.items) (length left) (vec_capacity l.unseen) l.unseen.ok.0
      (longer l.waiting.items left e popped) held.room.unseen

  pub can_wait : l.unseen.items ≡ left ++ e ∷ [] → vec_len l.waiting < vec_capacity l.waiting
  can_wait popped = less_by_room (vec_len l.waiting) (length l.waiting.items) (length left)
      (vec_capacity l.waiting) l.waiting.ok.0 (one_fewer (length l.waiting.items)
      (length l.unseen.items) (length left) (vec_capacity l.waiting)
      (longer l.unseen.items left e popped) held.room.waiting)
    where
      one_fewer : (a b c room : ℕ) → b ≡ c + 1 → a + b ≤ room → a + c + 1 ≤ room
      one_fewer a b c room f fits = omega arith

-- where their edges are all that cross, the same edges are
pub crossing_on : {points : List Point} {m : Mesh} {i j : ℕ} {old new : CrossingLists}
    → ListCrossing points m i j old → KeepEntries old new → ListCrossing points m i j new
crossing_on lists same = record {
  held = same.held;
  all = record {
    cross = λ h there. lists.all.cross h (same.only h there);
    all = λ h within c. same.kept h (lists.all.all h within c);
  };
}

pub turn_on : {V D U F : Type 0} {points : List Point} {c : Contents V D U F} {i j : ℕ}
    {old new : CrossingLists} → AreToTurn points c i j old → KeepEntries old new
    → AreToTurn points c i j new
turn_on turn same = record {
  subconstraint = turn.subconstraint;
  crossing = crossing_on
      turn.crossing same;
}

-- a list has the directed edges that cross the segment from the right, each once, and is no longer
-- than the list of undirected edges
pub record ListsAllCrossing {V D U F : Type 0} (points : List Point) (c : Contents V D U F)
    (i j : ℕ) (hs : List ℕ) : Type 0 where
  pub once : AllPairs (λ k l. k ≢ l) hs
  pub all : AreAllCrossing points c.mesh i j (Contains hs)
  pub few : length hs ≤ length c.undirected

-- the edges of one walk, all to be seen again
pub crossing_begins : {V D U F : Type 0} {points : List Point} {c : Contents V D U F} {i j : ℕ}
    (l : CrossingLists) → ListsAllCrossing points c i j l.waiting.items → l.unseen.items ≡ []
    → HaveRoom (length c.undirected) l → ListCrossing points c.mesh i j l
crossing_begins {c = c} l lists none room = record {
  held = record {
    once = subst (AreOnce l.waiting.items) (sym none) (record {
      first = lists.once;
      second = once_none;
      apart = λ h a b. Contains-none h b;
    });
    room = record {
      waiting = fits (vec_capacity l.waiting) room.waiting;
      unseen = fits (vec_capacity l.unseen) room.unseen;
    };
  };
  all = record {
    cross = λ h there. elim there [
      | inl a ↦ lists.all.cross h a
      | inr b ↦ absurd (Contains-none h (subst (λ (zs : List ℕ). Contains zs h) none b))
    ];
    all = λ h within crosses. inl (lists.all.all h within crosses);
  };
}
  where
    beside : (a b n room : ℕ) → a ≤ n → b ≡ 0 → n ≤ room → a + b ≤ room
    beside a b n room e f g = omega arith

    fits : (room : ℕ) → length c.undirected ≤ room
        → length l.waiting.items + length l.unseen.items ≤ room
    fits room enough = beside (length l.waiting.items) (length l.unseen.items)
        (length c.undirected) room lists.few (same_length l.unseen.items [] none) enough

-- lists with room for one more have room for all
pub held_with_room : {points : List Point} {m : Mesh} {i j e : ℕ} {l : CrossingLists}
    → ListOthers points m i j e l → AreHeld l
held_with_room {l = l} lists = record {
  once = lists.once;
  room = record {
    waiting = less (vec_capacity l.waiting) lists.room.waiting;
    unseen = less (vec_capacity l.unseen) lists.room.unseen;
  };
}
  where
    less : (room : ℕ) → length l.waiting.items + length l.unseen.items + 1 ≤ room
        → length l.waiting.items + length l.unseen.items ≤ room
    less room fits = omega (arith, fits)

module _ {old new : CrossingLists} (same : KeepRoom old new) where
  fits_new : (n : ℕ) → HaveRoom n old → HaveRoom n new
  fits_new n room = record {
    waiting = subst (λ (k : ℕ). n ≤ k) (sym same.waiting) room.waiting;
    unseen = subst (λ (k : ℕ). n ≤ k) (sym same.unseen) room.unseen;
  }

  -- ---- back
  -- the last one that waits is to be seen again
  pub moved_back : (e : ℕ) → old.waiting.items ≡ new.waiting.items ++ e ∷ []
      → new.unseen.items ≡ old.unseen.items ++ e ∷ [] → AreHeld old → KeepEntries old new
  moved_back e popped pushed held =
      let room = fits_new (length old.waiting.items + length old.unseen.items) held.room in record {
        held = record {
          once = subst (AreOnce new.waiting.items) (sym pushed)
              (moved_once new.waiting.items old.unseen.items e
              (subst (λ (xs : List ℕ). AreOnce xs old.unseen.items) popped held.once));
          room = record {
            waiting = moved (vec_capacity new.waiting) room.waiting;
            unseen = moved (vec_capacity new.unseen) room.unseen;
          };
        };
        room = same;
        kept = λ h there. subst (λ (ys : List ℕ). IsIn new.waiting.items ys h) (sym pushed)
            (moved_kept new.waiting.items old.unseen.items e h
            (subst (λ (xs : List ℕ). IsIn xs old.unseen.items h) popped there));
        only = λ h there. subst (λ (xs : List ℕ). IsIn xs old.unseen.items h) (sym popped)
            (moved_only new.waiting.items old.unseen.items e h
            (subst (λ (ys : List ℕ). IsIn new.waiting.items ys h) pushed there));
      }
    where
      moved : (room : ℕ) → length old.waiting.items + length old.unseen.items ≤ room
          → length new.waiting.items + length new.unseen.items ≤ room
      moved room fits = one_moved (length old.waiting.items) (length old.unseen.items)
          (length new.waiting.items) (length new.unseen.items) room
          (longer old.waiting.items new.waiting.items e popped)
          (longer new.unseen.items old.unseen.items e pushed) fits

  -- where none could be taken out, all is as it was
  same_entries : new.waiting.items ≡ old.waiting.items → new.unseen.items ≡ old.unseen.items
      → AreHeld old → KeepEntries old new
  same_entries waiting unseen held =
      let room = fits_new (length old.waiting.items + length old.unseen.items) held.room in record {
        held = record {
          once = subst (λ (x : List ℕ × List ℕ). AreOnce x.0 x.1)
              (λ o. (sym waiting o, sym unseen o)) held.once;
          room = record {
            waiting = as_before (vec_capacity new.waiting) room.waiting;
            unseen = as_before (vec_capacity new.unseen) room.unseen;
          };
        };
        room = same;
        kept = λ h there. subst (λ (x : List ℕ × List ℕ). IsIn x.0 x.1 h)
            (λ o. (sym waiting o, sym unseen o)) there;
        only = λ h there. subst (λ (x : List ℕ × List ℕ). IsIn x.0 x.1 h)
            (λ o. (waiting o, unseen o)) there;
      }
    where
      as_before : (room : ℕ) → length old.waiting.items + length old.unseen.items ≤ room
          → length new.waiting.items + length new.unseen.items ≤ room
      as_before room fits = subst (λ (x : List ℕ × List ℕ). length x.0 + length x.1 ≤ room)
          (λ o. (sym waiting o, sym unseen o)) fits

  -- where none waits
  pub none_waits : old.waiting.items ≡ new.waiting.items ++ []
      → new.unseen.items ≡ old.unseen.items → AreHeld old → KeepEntries old new
  none_waits popped unseen held =
      same_entries (unchanged old.waiting.items new.waiting.items popped) unseen held

  -- or none is to be seen
  pub none_taken : old.unseen.items ≡ new.unseen.items ++ []
      → new.waiting.items ≡ old.waiting.items → AreHeld old → KeepEntries old new
  none_taken popped waiting held =
      same_entries waiting (unchanged old.unseen.items new.unseen.items popped) held

  -- ---- on
  module _ {points : List Point} {m : Mesh} {i j : ℕ} (e : ℕ) where
    -- the next one to be seen is taken out
    pub others_taken : old.unseen.items ≡ new.unseen.items ++ e ∷ []
        → new.waiting.items ≡ old.waiting.items → ListCrossing points m i j old
        → ListOthers points m i j e new
    others_taken popped waiting lists =
        let parts = taken points m i j new.waiting.items new.unseen.items e
        (subst (λ (x : List ℕ × List ℕ). AreOnce x.0 x.1) (λ o. (sym waiting o, popped o))
        lists.held.once)
        (subst (λ (x : List ℕ × List ℕ). AreAllCrossing points m i j (IsIn x.0 x.1))
        (λ o. (sym waiting o, popped o)) lists.all) in
        let room = fits_new (length old.waiting.items + length old.unseen.items) lists.held.room in
        record {
          once = parts.0;
          room = record {
            waiting = less (vec_capacity new.waiting) room.waiting;
            unseen = less (vec_capacity new.unseen) room.unseen;
          };
          others = parts.1;
        }
      where
        less : (room : ℕ) → length old.waiting.items + length old.unseen.items ≤ room
            → length new.waiting.items + length new.unseen.items + 1 ≤ room
        less room fits = one_taken (length old.waiting.items) (length old.unseen.items)
            (length new.waiting.items) (length new.unseen.items) room
            (same_length new.waiting.items old.waiting.items waiting)
            (longer old.unseen.items new.unseen.items e popped) fits

    -- it waits
    pub others_wait : new.waiting.items ≡ old.waiting.items ++ e ∷ []
        → new.unseen.items ≡ old.unseen.items → ListOthers points m i j e old
        → ListCrossing points m i j new
    others_wait pushed unseen lists =
        let parts = put_waiting points m i j old.waiting.items old.unseen.items e lists.once
        lists.others in
        let room = fits_new (length old.waiting.items + length old.unseen.items + 1) lists.room in
        record {
          held = record {
            once = subst (λ (x : List ℕ × List ℕ). AreOnce x.0 x.1)
                (λ o. (sym pushed o, sym unseen o)) parts.0;
            room = record {
              waiting = more (vec_capacity new.waiting) room.waiting;
              unseen = more (vec_capacity new.unseen) room.unseen;
            };
          };
          all = subst (λ (x : List ℕ × List ℕ). AreAllCrossing points m i j (IsIn x.0 x.1))
              (λ o. (sym pushed o, sym unseen o)) parts.1;
        }
      where
        more : (room : ℕ) → length old.waiting.items + length old.unseen.items + 1 ≤ room
            → length new.waiting.items + length new.unseen.items ≤ room
        more room fits = one_more_there (length old.waiting.items) (length old.unseen.items)
            (length new.waiting.items) (length new.unseen.items) room
            (longer new.waiting.items old.waiting.items e pushed)
            (same_length new.unseen.items old.unseen.items unseen) fits
