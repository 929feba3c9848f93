-- One edge gets other ends and another goes.
-- Lemmas: item_at, one_written_one_taken.
use Rattle.std.proofs.Common.{◌≡◌, ◌≢◌, ◌+◌, ◌-◌, ◌<◌, [], ◌∷◌, ◌∙◌}
use Rattle.std.proofs.Common.{ℕ, List, length, set, get_or, sym, ap, inl, inr, arith}
use Rattle.std.proofs.lemmas.Bool.{cases_eq}
use Rattle.std.proofs.lemmas.List.{length-set, get_or-set_same, get_or-set_other, get_or_default}
use Rattle.std.proofs.lemmas.List.Sorted.{IsPermutation-remove, IsPermutation-trans}
use Rattle.std.proofs.lemmas.List.Sorted.{IsPermutation-cons}
use Rattle.std.proofs.lemmas.Grind.{common_steps}
use Rattle.std.specs.List.{remove}
use Rattle.std.specs.List.Sorted.{IsPermutation}
use Rattle.{half_edge_dcel.proofs.TakenOut.permuted, half_edge_dcel.specs.TakesOut}

remove-set : {X : Type 0} (xs : List X) (i : ℕ) (y : X) → remove (set xs i y) i ≡ remove xs i
remove-set xs i y = grind (arith, common_steps)

-- a list has an item at each place below its length
pub item_at : {X : Type 0} (xs : List X) (k : ℕ) → k < length xs → (x : X) × (x ≡ get_or xs k x)
item_at [] k within = absurd (omega (arith, within))
item_at (y ∷ ys) k within = let x = get_or (y ∷ ys) k y in (x, get_or_default (y ∷ ys) k y x within)

module _ {X : Type 0} (old mid new : List X) (k j : ℕ) (kept now : X) (apart : k ≢ j)
    (within : k < length old) (is : kept ≡ get_or old k kept) (written : mid ≡ set old k now)
    (taken : TakesOut mid new j) where
  same_length : length mid ≡ length old
  same_length = ap length written ∙ length-set old k now

  -- the list before the write, without the item that goes
  unwritten : (new_k : ℕ) → (new_k < length new) × (get_or new new_k now ≡ now)
      × TakesOut old (set new new_k kept) j → (lost : X) × (lost ≡ get_or old j lost)
      × (rest : List X) × IsPermutation old (lost ∷ kept ∷ rest) × IsPermutation new (now ∷ rest)
  unwritten i f =
      let l = item_at old j (f.2.within) in
      let less : i < length (set new i kept) = rw length-set f.0 in
      let a = permuted old (set new i kept) j l.0 f.2 l.1 in
      let b = IsPermutation-remove (set new i kept) i kept less
      (sym (get_or-set_same new i kept kept f.0)) in
      let b' : IsPermutation (set new i kept) (kept ∷ remove new i) =
      rw (remove-set new i kept) at b in (
        l.0,
        l.1,
        remove new i,
        IsPermutation-trans _ _ _ a (IsPermutation-cons l.0 _ _ b'),
        IsPermutation-remove new i now f.0 (sym f.1),
      )

  -- but for the written item and the one that goes, the lists have the same items
  pub one_written_one_taken : (lost : X) × (lost ≡ get_or old j lost) × (rest : List X)
      × IsPermutation old (lost ∷ kept ∷ rest) × IsPermutation new (now ∷ rest)
  one_written_one_taken =
      let n = taken.count in
      let w = taken.within in
      let at : (i : ℕ) (d : X) → i ≢ k → get_or mid i d ≡ get_or old i d =
      λ i d off. ap (λ l. get_or l i d) written ∙ get_or-set_other old k i now d off in
      let here : (d : X) → get_or mid k d ≡ now =
      λ d. ap (λ l. get_or l k d) written ∙ get_or-set_same old k now d within in
      let keeps : (d : X)
      → get_or old k d ≡ kept = λ d. get_or_default old k d kept within ∙ sym is in
      elim (cases_eq (k + 1) (length old)) [
        | inl last ↦
            let more : j + 1 < length mid = omega (arith, w, apart, last, same_length) in
            let j_in : j < length new = omega (arith, more, n) in
            let last_is : length mid - 1 ≡ k = omega (arith, same_length, last) in
            unwritten j (
              j_in,
              taken.here now more ∙ ap (λ i. get_or mid i now) last_is ∙ here now,
              record {
                within = omega (arith, w, same_length);
                count = rw length-set (omega (arith, n, same_length));
                here = λ d m. get_or-set_same new j kept d j_in ∙ sym (keeps d) ∙ ap
                    (λ i. get_or old i d) (let e : k ≡ length old - 1 = omega (arith, last) in e);
                other = λ i d off m. get_or-set_other new j i kept d off
                    ∙ taken.other i d off (omega (arith, m, same_length))
                    ∙ at i d (λ q. absurd (omega (arith, q, m, last)));
              },
            )
        | inr off_last ↦
            let m : k + 1 < length mid = omega (arith, within, off_last, same_length) in
            let k_in : k < length new = omega (arith, m, n) in
            unwritten k (
              k_in,
              taken.other k now apart m ∙ here now,
              record {
                within = omega (arith, w, same_length);
                count = rw length-set (omega (arith, n, same_length));
                here = λ d more. get_or-set_other new k j kept d (λ q. apart (sym q))
                    ∙ taken.here d (omega (arith, more, same_length))
                    ∙ at (length mid - 1) d (λ q. absurd (omega (arith, q, m)))
                    ∙ ap (λ i. get_or old (i - 1) d) same_length;
                other = λ i d off more. elim (cases_eq i k) [
                  | inl q ↦ ap (λ x. get_or (set new k kept) x d) q ∙ get_or-set_same new k kept d
                      k_in ∙ sym (keeps d) ∙ ap (λ x. get_or old x d) (sym q)
                  | inr q ↦ get_or-set_other new k i kept d q
                      ∙ taken.other i d off (omega (arith, more, same_length)) ∙ at i d q
                ];
              },
            )
      ]
