-- A list that is turned into another one, item by item.
-- Notions: MapsSoFar; all_zip-push, maps_begins, maps_goes_on, maps_ends, fewer_made.
use Rattle.std.proofs.Common.{◌≡◌, ◌<◌, [], ◌∷◌, ◌++◌, ◌∙◌}
use Rattle.std.proofs.Common.{List, length, sym, ap, arith, append_assoc, append-nil, length-append}
use Rattle.std.specs.List.{AllZip}
use Rattle.std.proofs.lemmas.Slice.Zip.{AllZip-long}

-- what stands before the rest is turned already
pub record MapsSoFar {A B : Type 0} (R : A → B → Type 0) (all rest : List A)
    (made : List B) : Type 0 where
  pub done : List A
  pub split : all ≡ done ++ rest
  pub each : AllZip R done made

module _ {A B : Type 0} (R : A → B → Type 0) where
  -- two lists that fit item by item still do with one more item that fits at the end of each
  pub all_zip-push : (xs : List A) (ys : List B) (x : A) (y : B) → AllZip R xs ys → R x y
      → AllZip R (xs ++ x ∷ []) (ys ++ y ∷ [])
  all_zip-push [] [] x y each here = (here, tt)
  all_zip-push [] (z ∷ zs) x y each here = absurd each
  all_zip-push (w ∷ ws) [] x y each here = absurd each
  all_zip-push (w ∷ ws) (z ∷ zs) x y each here = (each.0, all_zip-push ws zs x y each.1 here)

  -- before the first item nothing is turned
  pub maps_begins : (all rest : List A) (made : List B) → rest ≡ all → made ≡ []
      → MapsSoFar R all rest made
  maps_begins all rest made is none = record { done = []; split = sym is; each = rw none tt }

  -- with the next item turned too, what stands before the rest is turned
  pub maps_goes_on : (all rest after : List A) (made : List B) (x : A) (y : B)
      → MapsSoFar R all rest made → rest ≡ x ∷ after → R x y
      → MapsSoFar R all after (made ++ y ∷ [])
  maps_goes_on all rest after made x y so_far is here = record {
    done = so_far.done ++ x ∷ [];
    split = so_far.split ∙ ap (λ q. so_far.done ++ q) is
        ∙ sym (append_assoc so_far.done (x ∷ []) after);
    each = all_zip-push so_far.done made x y so_far.each here;
  }

  -- once no item is left, the whole list is turned
  pub maps_ends : (all rest : List A) (made : List B) → MapsSoFar R all rest made → length rest ≡ 0
      → AllZip R all made
  maps_ends all [] made so_far none = rw (so_far.split, append-nil so_far.done) so_far.each
  maps_ends all (x ∷ xs) made so_far none = absurd (omega (arith, none))

  -- there is one item fewer than all while one is left
  pub fewer_made : (all rest after : List A) (made : List B) (x : A) → MapsSoFar R all rest made
      → rest ≡ x ∷ after → length made < length all
  fewer_made all rest after made x so_far is =
      rw (
        so_far.split,
        is,
        length-append so_far.done (x ∷ after),
        AllZip-long R so_far.done made so_far.each,
      ) (omega arith)
