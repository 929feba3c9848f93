-- No edge joins a vertex to itself, and each vertex has one round of edges, after a removal.
-- Lemmas: stars_same, apart_same, apart_removed, stars_removed, moved_back.
use Rattle.std.proofs.Common.{◌≡◌, ◌≢◌, [], ◌∷◌, ◌-◌, ◌%◌, ◌<◌, ◌∙◌}
use Rattle.std.proofs.Common.{ℕ, List, length, refl, sym, ap, inl, inr}
use Rattle.std.proofs.lemmas.Bool.{cases_eq}
use Rattle.half_edge_links.specs.{AreSoundLinks, HasApartEnds, HasStars, IsAlone, Mesh, MovesVertex}
use Rattle.half_edge_links.specs.{next, origin, prev, Removes, rev}
use Rattle.half_edge_links.proofs.Growing.FaceBeside.{differs_alone}
use Rattle.half_edge_links.proofs.Lists.Cases.{◌each_with◌, ◌or_else◌}
use Rattle.half_edge_links.proofs.{Lists.Named.◌and◌, Removing.RemoveSound.sound_removed}
use Rattle.half_edge_links.proofs.Lists.Rev.{rev-rev, rev_differs, rev_same, rev_within}
use Rattle.half_edge_links.proofs.Relinking.Rounds.{Exchange, one_round, round_renamed, stand}
use Rattle.half_edge_links.proofs.Relinking.Rounds.{stand_first, stand_off, stand_second}
use Rattle.half_edge_links.proofs.Relinking.Walks.{star_goes, star_walk}
use Rattle.half_edge_links.proofs.Removing.Conditions.{IsUnlinkable}
use Rattle.half_edge_links.proofs.Removing.OpenSound.{moved_hit, moved_miss}
use Rattle.half_edge_links.proofs.Removing.Track.{former, former_is, IsLeft, left_walk, name}
use Rattle.half_edge_links.proofs.Removing.Track.{name_in, next_at, next_before, next_twin_before}
use Rattle.half_edge_links.proofs.Removing.Track.{old_at, origin_at, rev_at, side_left}

-- a mesh with the same walk round each vertex, and the same origins but for their names
module _ (m new : Mesh) (count : length new.half_edges ≡ length m.half_edges)
    (prevs : (k : ℕ) → prev new k ≡ prev m k) where
  -- each vertex keeps one round of edges, if edges with the same start now had the same before
  pub stars_same : ((h g : ℕ) → h < length m.half_edges → g < length m.half_edges
      → origin new h ≡ origin new g → origin m h ≡ origin m g) → HasStars m → HasStars new
  stars_same origins stars among closed h g h_in g_in same is =
      stars among (λ k k_in on. ap (λ j. among (rev j)) (sym (prevs k))
      ∙ closed k (rw count k_in) on) h g (rw (← count) h_in) (rw (← count) g_in)
      (origins h g (rw (← count) h_in) (rw (← count) g_in) same) is

  -- the ends of each edge still differ, if edges with the same start now had the same before
  pub apart_same : length m.half_edges % 2 ≡ 0 → ((h g : ℕ) → h < length m.half_edges
      → g < length m.half_edges → origin new h ≡ origin new g → origin m h ≡ origin m g)
      → HasApartEnds m → HasApartEnds new
  apart_same even origins apart h within same =
      let h_in : h < length m.half_edges = rw (← count) within in
      apart h h_in (origins h (rev h) h_in (rev_within _ _ even h_in) same)

module _ (m new : Mesh) (e : ℕ) (s : AreSoundLinks m) (can : IsUnlinkable m e)
    (r : Removes m new e) where
  -- the new index of an edge that is left
  abbrev nm : ℕ → ℕ
  nm k = name m new e s can r k

  -- the ends of each edge still differ once an edge is removed
  pub apart_removed : HasApartEnds m → HasApartEnds new
  apart_removed apart h within same =
      let o = old_at m new e s can r h within in
      let l = o.0 in
      let k : ℕ = former m new e s can r h in
      let side : IsLeft m e (rev k) = side_left m e k s l in
      let here : origin new h ≡ origin m k =
      ap (origin new) (sym o.1) ∙ origin_at m new e s can r _ l in
      let there : origin new (rev h) ≡ origin m (rev k) =
      ap (λ j. origin new (rev j)) (sym o.1) ∙ ap (origin new) (rev_at m new e s can r _ l)
      ∙ origin_at m new e s can r _ side in
      apart k l.within (sym here ∙ same ∙ there)

  -- what came before a side that goes, round its vertex, is followed by what came after it
  exchange : Exchange (star_walk m) (left_walk m new e s can r (star_walk new))
      ((e, rev (prev m e)) ∷ (rev e, rev (prev m (rev e))) ∷ []) [] []
  exchange =
      let t_in : rev e < length m.half_edges = rev_within _ _ s.even can.within in
      let at_e = s.edges e can.within in
      let at_t = s.edges (rev e) t_in in
      let p : ℕ = prev m e in
      let x : ℕ = prev m (rev e) in
      let p_e : p ≢ e = λ z. at_e.proper (sym (ap (next m) z) ∙ at_e.next_prev) in
      let x_t : x ≢ rev e = λ z. at_t.proper (sym (ap (next m) z) ∙ at_t.next_prev) in
      let stands : List (ℕ × ℕ) = (e, rev p) ∷ (rev e, rev x) ∷ [] in
      let first : stand stands e ≡ rev p = stand_first e (rev p) ((rev e, rev x) ∷ []) in
      let second : stand stands (rev e) ≡ rev x =
      stand_second e (rev p) (rev e) (rev x) [] (rev_differs e) in
      let off = λ (k : ℕ) (b : k ≢ e) (c : k ≢ rev e). stand_off stands (rev k)
      ((λ z. c (sym (rev-rev k) ∙ ap rev z)) and (λ z. b (rev_same k e z)) and tt) in
      let behind = λ (b k : ℕ) (l : IsLeft m e b) (is : next new (nm b) ≡ nm k).
      ap (λ j. former m new e s can r (rev j)) (ap (prev new) (sym is)
      ∙ ((sound_removed m new e r).edges _ (name_in m new e s can r b l)).prev_next)
      ∙ ap (former m new e s can r) (rev_at m new e s can r b l)
      ∙ former_is m new e s can r (rev b) (side_left m e b s l) in
      record {
        lives = λ k within none.
            let l : IsLeft m e k =
            record { within = within; other = none.0; other_side = none.1.0 } in
            (l, name_in m new e s can r k l);
        left = (elim (cases_eq p (rev e)) [
          | inl z ↦ ap (stand stands) (ap rev z ∙ rev-rev e)
          | inr c ↦ off p p_e c ∙ sym first
        ]) and (elim (cases_eq x e) [
          | inl z ↦ ap (stand stands) (ap rev z)
          | inr b ↦ off x b x_t ∙ sym second
        ]) and tt;
        stretched = tt;
        other = λ k within off_e off_t.
            let here = s.edges k within in
            let next_is = λ (b : ℕ) (is : prev m k ≡ b). ap (next m) (sym is) ∙ here.next_prev in
            elim (cases_eq (prev m k) (rev e) or_else cases_eq (prev m k) e) [
              | inl z ↦
                  let l : IsLeft m e p = record {
                    within = at_e.prev_in;
                    other = p_e;
                    other_side = λ c. off_e (sym (next_is (rev e) z) ∙ ap (next m) (sym c)
                        ∙ at_e.next_prev);
                  } in
                  behind p k l (next_before m new e s can r p l refl ∙ ap nm (next_is (rev e) z))
                  ∙ sym (ap (stand stands) (ap rev z ∙ rev-rev e) ∙ first)
              | inr (b, inl z) ↦
                  let l : IsLeft m e x = record {
                    within = at_t.prev_in;
                    other = λ c. off_t (sym (next_is e z) ∙ ap (next m) (sym c) ∙ at_t.next_prev);
                    other_side = x_t;
                  } in
                  behind x k l (next_twin_before m new e s can r x l refl ∙ ap nm (next_is e z))
                  ∙ sym (ap (stand stands) (ap rev z) ∙ second)
              | inr (b, inr c) ↦
                  let l : IsLeft m e (prev m k) =
                  record { within = here.prev_in; other = c; other_side = b } in
                  behind (prev m k) k l (next_at m new e s can r _ l
                  (λ z. off_e (sym here.next_prev ∙ ap (next m) z ∙ at_e.next_prev))
                  (λ z. off_t (sym here.next_prev ∙ ap (next m) z ∙ at_t.next_prev))
                  ∙ ap nm here.next_prev) ∙ sym (off (prev m k) c b)
            ];
        kept = λ k is. is.0.within and (is.0.other and is.0.other_side and tt)
            and origin_at m new e s can r k is.0;
        alone = tt;
      }

  -- each vertex keeps one round of edges once an edge is removed
  pub stars_removed : HasStars m → HasStars new
  stars_removed stars = round_renamed (star_walk new) nm (former m new e s can r) (IsLeft m e)
      (star_goes new (sound_removed m new e r)) (old_at m new e s can r) (one_round (star_walk m)
      (left_walk m new e s can r (star_walk new)) (star_goes m s) _ _ _ exchange stars)

-- edges of one vertex were so before the last one took the index of one without edges
pub moved_back : (m new : Mesh) (v : ℕ) → AreSoundLinks m → IsAlone m v → MovesVertex m new v
    → (h g : ℕ) → h < length m.half_edges → g < length m.half_edges → origin new h ≡ origin new g
    → origin m h ≡ origin m g
moved_back m new v s alone c h g h_in g_in same =
    let last : ℕ = length m.out_edges - 1 in
    let at_h = c.origins h h_in in
    let at_g = c.origins g g_in in
    elim (cases_eq (origin m h) last each_with cases_eq (origin m g) last) [
      | inl (a, inl b) ↦ a ∙ sym b
      | inl (a, inr b) ↦ absurd ((differs_alone m g v s g_in alone)
          (sym (at_g ∙ moved_miss last v _ b) ∙ sym same ∙ at_h ∙ moved_hit last v _ a))
      | inr (a, inl b) ↦ absurd ((differs_alone m h v s h_in alone)
          (sym (at_h ∙ moved_miss last v _ a) ∙ same ∙ at_g ∙ moved_hit last v _ b))
      | inr (a, inr b) ↦ sym (at_h ∙ moved_miss last v _ a) ∙ same ∙ at_g ∙ moved_miss last v _ b
    ]
