-- Data of a mesh that grows: lists of edges with their data, and items that move to the end of a
-- list.
-- Lemmas: edges_of-set, length-ends, adds_edges, splits_edge, along-even, moves_item,
-- move_edge_data.
use Rattle.std.proofs.Common.{◌≡◌, ◌*◌, ◌%◌, [], ◌∷◌, ◌++◌, ◌∙◌, ◌≢◌, ◌<◌}
use Rattle.std.proofs.Common.{ℕ, zero, suc, List, length, refl, sym, ap, arith, set, get_or, Some}
use Rattle.std.proofs.Common.{append_assoc}
use Rattle.std.specs.Prelude.{slice_get}
use Rattle.std.proofs.lemmas.List.{length-map, length-set, set-append_left}
use Rattle.std.proofs.lemmas.Grind.{common_steps}
use Rattle.std.proofs.lemmas.Option.{gets}
use Rattle.half_edge_links.specs.{along, Ends, ends, Mesh, origins, rev}
use Rattle.half_edge_links.proofs.{rev_differs, rev_within, Sound.Ends.length-paired}
use Rattle.half_edge_dcel.specs.{AddsEdges, edge_with, edges_of, FitsMesh, Grows, SplitsEdge}
use Rattle.half_edge_dcel.specs.{Growth.MovesItem, Growth.MovesTwoItems, with_ends}

-- edges with their data of two lists in a row are those of the first and then those of the second
edges_of-append : {U : Type 0} (es fs : List Ends) (us vs : List U) → length us ≡ length es
    → edges_of (es ++ fs) (us ++ vs) ≡ edges_of es us ++ edges_of fs vs
edges_of-append [] fs [] vs same = refl
edges_of-append [] fs (u ∷ us) vs same = absurd (omega (arith, same))
edges_of-append (e ∷ es) fs [] vs same = absurd (omega (arith, same))
edges_of-append (e ∷ es) fs (u ∷ us) vs same =
    ap (λ q. edge_with e u ∷ q) (edges_of-append es fs us vs (omega (arith, same)))

-- other ends and the same data
pub edges_of-set : {U : Type 0} (es : List Ends) (us : List U) (k : ℕ) (e : Ends)
    → edges_of (set es k e) us ≡ with_ends (edges_of es us) k e
edges_of-set [] us k e = refl
edges_of-set (x ∷ es) [] zero e = refl
edges_of-set (x ∷ es) [] (suc k) e = refl
edges_of-set (x ∷ es) (u ∷ us) zero e = refl
edges_of-set (x ∷ es) (u ∷ us) (suc k) e = ap (λ q. edge_with x u ∷ q) (edges_of-set es us k e)

-- there is one list entry for each undirected edge
pub length-ends : {m : Mesh} {v d u f : ℕ} → FitsMesh m v d u f → u ≡ length (ends m)
length-ends {m} fit =
    let count : length (origins m) ≡ length m.half_edges = length-map m.half_edges _ in
    let even : length (origins m) % 2 ≡ 0 = omega (arith, count, fit.undirected_fit) in
    omega (arith, length-paired (origins m) even, count, fit.undirected_fit)

-- edges with default data are added after edges whose ends may have changed
pub adds_edges : {U : Type 0} {P : U → Type 0} {new fs : List Ends} {us us' : List U}
    (es : List Ends) → length us ≡ length es → new ≡ es ++ fs → Grows P us us' (length fs)
    → AddsEdges P (edges_of es us) (edges_of new us') fs
adds_edges {fs = fs} {us = us} es fit whole g = record {
  values = g.added;
  count = g.count;
  each = g.each;
  whole = rw (whole, g.whole) (edges_of-append es fs us g.added fit);
}

-- other ends and other data
edges_of-set_both : {U : Type 0} (es : List Ends) (us : List U) (k : ℕ) (e : Ends) (u : U)
    → length us ≡ length es
    → edges_of (set es k e) (set us k u) ≡ set (edges_of es us) k (edge_with e u)
edges_of-set_both [] [] k e u same = refl
edges_of-set_both [] (y ∷ us) k e u same = absurd (omega (arith, same))
edges_of-set_both (x ∷ es) [] k e u same = absurd (omega (arith, same))
edges_of-set_both (x ∷ es) (y ∷ us) zero e u same = refl
edges_of-set_both (x ∷ es) (y ∷ us) (suc k) e u same =
    ap (λ q. edge_with x y ∷ q) (edges_of-set_both es us k e u (omega (arith, same)))

slice_get-edges_of : {U : Type 0} (es : List Ends) (us : List U) (k : ℕ) (u : U) (d : Ends)
    → length us ≡ length es → slice_get us k ≡ Some u
    → slice_get (edges_of es us) k ≡ Some (edge_with (get_or es k d) u)
slice_get-edges_of es [] k u d same is = absurd (cc)
slice_get-edges_of [] (y ∷ us) k u d same is = absurd (omega (arith, same))
slice_get-edges_of (x ∷ es) (y ∷ us) zero u d same is =
    let e : y ≡ u = cc in ap (λ q. Some (edge_with x q)) e
slice_get-edges_of (x ∷ es) (y ∷ us) (suc k) u d same is =
    slice_get-edges_of es us k u d (omega (arith, same)) is

-- an edge is split: its data move to the first new edge
pub splits_edge : {U : Type 0} {P : U → Type 0} {new others : List Ends} {us us' : List U} {k : ℕ}
    {turned kept : Ends} (es : List Ends) → length us ≡ length es
    → new ≡ set es k turned ++ kept ∷ others → MovesItem P us us' k (length others)
    → SplitsEdge P (edges_of es us) (edges_of new us') k turned kept others
splits_edge {others = others} {us = us} {k = k} {turned = turned} {kept = kept} es fit whole i =
    let nowhere : Ends = record { source = 0; target = 0 } in
    let same : length (set us k i.made) ≡ length (set es k turned) =
    length-set us k i.made ∙ fit ∙ sym (length-set es k turned) in
    record {
      edge = edge_with (get_or es k nowhere) i.kept;
      was = slice_get-edges_of es us k i.kept nowhere fit i.was;
      made = i.made;
      is_new = i.is_new;
      values = i.added;
      count = i.count;
      each = i.each;
      whole = rw (whole, i.whole) (edges_of-append (set es k turned) (kept ∷ others)
          (set us k i.made) (i.kept ∷ i.added) same ∙ ap (λ q. q ++ edge_with kept i.kept
          ∷ edges_of others i.added) (edges_of-set_both es us k turned i.made fit));
    }

-- the ends of the even directed edge of an undirected one
pub along-even : (k a b : ℕ) → along (2 * k) a b ≡ record { source = a; target = b }
along-even k a b = let even : (2 * k) % 2 ≡ 0 = omega arith in rw even refl

-- ---- items that move to the end of a list
slice_get-set_other : {X : Type 0} (xs : List X) (i j : ℕ) (a x : X) → j ≢ i
    → slice_get (set xs i a) j ≡ Some x → slice_get xs j ≡ Some x
slice_get-set_other xs i j a x apart is = grind (arith, common_steps, gets)

slice_get-append : {X : Type 0} (xs ys : List X) (j : ℕ) (x : X) → j < length xs
    → slice_get (xs ++ ys) j ≡ Some x → slice_get xs j ≡ Some x
slice_get-append [] ys j x less is = absurd (omega (arith, less))
slice_get-append (y ∷ xs) ys zero x less is = is
slice_get-append (y ∷ xs) ys (suc j) x less is =
    slice_get-append xs ys j x (omega (arith, less)) is

-- an item that was taken, with a new one left for it, and pushed has moved to the end of what was
-- there
pub moves_item : {X : Type 0} {P : X → Type 0} {left pushed new : List X} {more : ℕ} (old : List X)
    (i : ℕ) (kept made : X) → slice_get old i ≡ Some kept → P made → left ≡ set old i made
    → pushed ≡ left ++ kept ∷ [] → Grows P pushed new more → MovesItem P old new i more
moves_item old i kept made was fresh leaves push g = record {
  kept = kept;
  was = was;
  made = made;
  is_new = fresh;
  added = g.added;
  count = g.count;
  each = g.each;
  whole = rw (g.whole, push, leaves) (append_assoc (set old i made) (kept ∷ []) g.added);
}

-- a list of no items
no_items : {X : Type 0} (xs : List X) → length xs ≡ 0 → xs ≡ []
no_items [] none = refl
no_items (x ∷ xs) none = absurd (omega (arith, none))

-- the data of an edge and of its twin move to the end, one after the other
pub move_edge_data : {X : Type 0} {P : X → Type 0} {old middle new : List X} {m : Mesh}
    {v u f e more : ℕ} → FitsMesh m v (length old) u f → e < length m.half_edges
    → MovesItem P old middle e 0 → MovesItem P middle new (rev e) more
    → MovesTwoItems P old new e (rev e) more
move_edge_data {X = X} {old = old} {middle = middle} {m = m} {e = e} fit e_in one two =
    let even : length m.half_edges % 2 ≡ 0 = omega (arith, fit.undirected_fit) in
    let within = rev_within e (length m.half_edges) even e_in in
    let left : List X = set old e one.made in
    let less : rev e < length left =
    omega (arith, within, fit.directed_fit, length-set old e one.made) in
    let first : middle ≡ left ++ one.kept ∷ [] =
    one.whole ∙ ap (λ q. left ++ one.kept ∷ q) (no_items one.added one.count) in
    record {
      kept = one.kept;
      was = one.was;
      also_kept = two.kept;
      also_was = slice_get-set_other old e (rev e) one.made two.kept (rev_differs e)
          (slice_get-append left (one.kept ∷ []) (rev e) two.kept less (rw first at two.was));
      made = one.made;
      is_new = one.is_new;
      also_made = two.made;
      also_new = two.is_new;
      added = two.added;
      count = two.count;
      each = two.each;
      whole = rw (two.whole, first, set-append_left left (one.kept ∷ []) (rev e) two.made less)
          (append_assoc (set left (rev e) two.made) (one.kept ∷ []) (two.kept ∷ two.added));
    }
