-- An item goes from a list and the last one takes its place, also in lists of edges and faces with
-- their data.
-- Notions: full_edge, full_face; takes_out, permuted, taken_item, length-full_edges,
-- get_or-full_edges, full_edges_taken, length-full_faces, get_or-full_faces, full_faces_taken,
-- full_faces-append.
use Rattle.std.proofs.Common.{◌≡◌, ◌+◌, ◌-◌, ◌*◌, ◌<◌, [], ◌∷◌, ◌++◌, ◌∙◌}
use Rattle.std.proofs.Common.{ℕ, zero, suc, List, length, get_or, refl, sym, ap, inl, inr, arith}
use Rattle.std.proofs.lemmas.Bool.{cases_eq}
use Rattle.std.proofs.lemmas.List.{same_lists, get_or_default}
use Rattle.std.proofs.lemmas.List.Sorted.{IsPermutation-swap_remove}
use Rattle.std.specs.List.{swap_remove}
use Rattle.std.specs.List.Sorted.{IsPermutation}
use Rattle.half_edge_links.specs.{Ends, Triangle}
use Rattle.half_edge_links.proofs.{get_or-swap_remove_same, length-swap_remove, swap_remove_default}
use Rattle.half_edge_links.proofs.Removing.OpenSound.{get_or-swap_remove_other}
use Rattle.half_edge_dcel.specs.{full_edges_of, full_faces_of, FullEdge, FullFace, TakesOut}
use Rattle.half_edge_dcel.specs.Removal.{TakesOutPair}

-- once item k is taken out, the last item is in its place, and the others are where they were
pub takes_out : {X : Type 0} (xs : List X) (k : ℕ) (d : X) → k < length xs
    → TakesOut xs (swap_remove xs k d) k
takes_out xs k d within = record {
  within = within;
  count = omega (arith, length-swap_remove xs k d, within);
  here = λ e more. ap (λ l. get_or l k e) (swap_remove_default xs k d e (omega (arith, within)))
      ∙ get_or-swap_remove_same xs k e more;
  other =
      λ j e off more. ap (λ l. get_or l j e) (swap_remove_default xs k d e (omega (arith, within)))
      ∙ get_or-swap_remove_other xs k j e more off;
}

-- the list is the one that `swap_remove` gives
swap_removed : {X : Type 0} (old new : List X) (k : ℕ) (x : X) → TakesOut old new k
    → new ≡ swap_remove old k x
swap_removed old new k x t =
    let s = takes_out old k x t.within in
    let a = t.count in
    let b = s.count in
    same_lists new (swap_remove old k x) (omega (arith, a, b)) (λ j d within.
    elim (cases_eq j k) [
      | inl is ↦ ap (λ i. get_or new i d) is ∙ t.here d (omega (arith, within, a, is))
          ∙ sym (s.here d (omega (arith, within, a, is)))
          ∙ ap (λ i. get_or (swap_remove old k x) i d) (sym is)
      | inr off ↦ t.other j d off (omega (arith, within, a))
          ∙ sym (s.other j d off (omega (arith, within, a)))
    ])

-- a list is, in some order, what is left once item k is taken out, and this item
pub permuted : {X : Type 0} (old new : List X) (k : ℕ) (x : X) → TakesOut old new k
    → x ≡ get_or old k x → IsPermutation old (x ∷ new)
permuted old new k x t is =
    rw (swap_removed old new k x t) (IsPermutation-swap_remove old k x t.within is)

-- the item that goes
pub taken_item : {X : Type 0} (old new : List X) (k : ℕ) → TakesOut old new k
    → (x : X) × (x ≡ get_or old k x) × IsPermutation old (x ∷ new)
taken_item [] new k t = absurd (omega (arith, t.within))
taken_item (y ∷ ys) new k t =
    let x = get_or (y ∷ ys) k y in
    let is = get_or_default (y ∷ ys) k y x t.within in
    (x, is, permuted (y ∷ ys) new k x t is)

-- ---- edges with their data
module _ {D U : Type 0} where
  -- there are as many edges with their data as pairs of ends
  pub length-full_edges : (es : List Ends) (us : List U) (ds : List D) → length us ≡ length es
      → length ds ≡ 2 * length es → length (full_edges_of es us ds) ≡ length es
  length-full_edges [] us ds p q = refl
  length-full_edges (e ∷ es) [] ds p q = absurd (omega (arith, p))
  length-full_edges (e ∷ es) (u ∷ us) [] p q = absurd (omega (arith, q))
  length-full_edges (e ∷ es) (u ∷ us) (a ∷ []) p q = absurd (omega (arith, q))
  length-full_edges (e ∷ es) (u ∷ us) (a ∷ b ∷ ds) p q =
      ap suc (length-full_edges es us ds (omega (arith, p)) (omega (arith, q)))

  -- one item of each list
  abbrev pub full_edge : Ends → U → D → D → FullEdge D U
  full_edge e u a b =
      record { source = e.source; target = e.target; value = u; there = a; back = b }

  -- an edge with its data has the ends, the undirected data and the two directed data at its index
  pub get_or-full_edges : (es : List Ends) (us : List U) (ds : List D) (k : ℕ) (e : Ends) (u : U)
      (a b : D) → length us ≡ length es → length ds ≡ 2 * length es → k < length es
      → (d : FullEdge D U) → get_or (full_edges_of es us ds) k d
      ≡ full_edge (get_or es k e) (get_or us k u) (get_or ds (2 * k) a) (get_or ds (2 * k + 1) b)
  get_or-full_edges [] us ds k e u a b p q within d = absurd (omega (arith, within))
  get_or-full_edges (x ∷ es) [] ds k e u a b p q within d = absurd (omega (arith, p))
  get_or-full_edges (x ∷ es) (y ∷ us) [] k e u a b p q within d = absurd (omega (arith, q))
  get_or-full_edges (x ∷ es) (y ∷ us) (c ∷ []) k e u a b p q within d = absurd (omega (arith, q))
  get_or-full_edges (x ∷ es) (y ∷ us) (c ∷ g ∷ ds) zero e u a b p q within d = refl
  get_or-full_edges (x ∷ es) (y ∷ us) (c ∷ g ∷ ds) (suc k) e u a b p q within d =
      let i : 2 * suc k ≡ suc (suc (2 * k)) = omega arith in
      let j : 2 * suc k + 1 ≡ suc (suc (2 * k + 1)) = omega arith in
      get_or-full_edges es us ds k e u a b (omega (arith, p)) (omega (arith, q))
      (omega (arith, within)) d
      ∙ sym (ap (λ n. full_edge (get_or es k e) (get_or us k u) (get_or (c ∷ g ∷ ds) n a)
      (get_or ds (2 * k + 1) b)) i)
      ∙ sym (ap (λ n. full_edge (get_or es k e) (get_or us k u) (get_or (c ∷ g ∷ ds) (2 * suc k) a)
      (get_or (c ∷ g ∷ ds) n b)) j)

  -- edge k goes from the edges with their data if it goes from the ends and from the data
  pub full_edges_taken : (es es' : List Ends) (us us' : List U) (ds ds' : List D) (k : ℕ)
      → length us ≡ length es → length ds ≡ 2 * length es → TakesOut es es' k → TakesOut us us' k
      → TakesOutPair ds ds' k → TakesOut (full_edges_of es us ds) (full_edges_of es' us' ds') k
  full_edges_taken es es' us us' ds ds' k p q te tu td =
      let n = length-full_edges es us ds p q in
      let a = te.count in
      let b = tu.count in
      let c = td.count in
      let p' : length us' ≡ length es' = omega (arith, p, a, b) in
      let q' : length ds' ≡ 2 * length es' = omega (arith, q, a, c) in
      let n' = length-full_edges es' us' ds' p' q' in
      record {
        within = omega (arith, n, te.within);
        count = omega (arith, n, n', a);
        here = λ d more.
            let e : Ends = record { source = d.source; target = d.target } in
            let m : k + 1 < length es = omega (arith, more, n) in
            let last : ℕ = length es - 1 in
            let first_is : length ds - 2 ≡ 2 * last = omega (arith, q, m) in
            let second_is : length ds - 1 ≡ 2 * last + 1 = omega (arith, q, m) in
            let u_is : length us - 1 ≡ last = omega (arith, p) in
            let x = te.here e m in
            let y = tu.here d.value (omega (arith, m, p)) ∙ ap (λ i. get_or us i d.value) u_is in
            let z =
            td.first d.there (omega (arith, m, q)) ∙ ap (λ i. get_or ds i d.there) first_is in
            let w =
            td.second d.back (omega (arith, m, q)) ∙ ap (λ i. get_or ds i d.back) second_is in
            get_or-full_edges es' us' ds' k e d.value d.there d.back p' q' (omega (arith, m, a)) d
            ∙ rw (x, y, z, w) (sym
            (get_or-full_edges es us ds last e d.value d.there d.back p q (omega (arith, m)) d))
            ∙ ap (λ i. get_or (full_edges_of es us ds) i d)
            (let s : last ≡ length (full_edges_of es us ds) - 1 = omega (arith, n) in s);
        other = λ j d off more.
            let e : Ends = record { source = d.source; target = d.target } in
            let m : j + 1 < length es = omega (arith, more, n) in
            let x = te.other j e off m in
            let y = tu.other j d.value off (omega (arith, m, p)) in
            let z = td.other (2 * j) d.there (λ i. off (omega (arith, i)))
            (λ i. absurd (omega (arith, i))) (omega (arith, m, q)) in
            let w = td.other (2 * j + 1) d.back (λ i. absurd (omega (arith, i)))
            (λ i. off (omega (arith, i))) (omega (arith, m, q)) in
            get_or-full_edges es' us' ds' j e d.value d.there d.back p' q' (omega (arith, m, a)) d
            ∙ rw (x, y, z, w) (sym
            (get_or-full_edges es us ds j e d.value d.there d.back p q (omega (arith, m)) d));
      }

-- ---- faces with their data
module _ {F : Type 0} where
  -- there are as many faces with their data as triangles
  pub length-full_faces : (ts : List Triangle) (fs : List F) → length fs ≡ length ts
      → length (full_faces_of ts fs) ≡ length ts
  length-full_faces [] fs p = refl
  length-full_faces (t ∷ ts) [] p = absurd (omega (arith, p))
  length-full_faces (t ∷ ts) (f ∷ fs) p = ap suc (length-full_faces ts fs (omega (arith, p)))

  -- a face with its data
  abbrev pub full_face : Triangle → F → FullFace F
  full_face t f = record { corners = t; value = f }

  -- a face with its data has the corners and the data at its index
  pub get_or-full_faces : (ts : List Triangle) (fs : List F) (k : ℕ) (t : Triangle) (f : F)
      → length fs ≡ length ts → k < length ts → (d : FullFace F)
      → get_or (full_faces_of ts fs) k d ≡ full_face (get_or ts k t) (get_or fs k f)
  get_or-full_faces [] fs k t f p within d = absurd (omega (arith, within))
  get_or-full_faces (x ∷ ts) [] k t f p within d = absurd (omega (arith, p))
  get_or-full_faces (x ∷ ts) (y ∷ fs) zero t f p within d = refl
  get_or-full_faces (x ∷ ts) (y ∷ fs) (suc k) t f p within d =
      get_or-full_faces ts fs k t f (omega (arith, p)) (omega (arith, within)) d

  -- face k goes from the faces with their data if it goes from the corners and from the data
  pub full_faces_taken : (ts ts' : List Triangle) (fs fs' : List F) (k : ℕ) → length fs ≡ length ts
      → TakesOut ts ts' k → TakesOut fs fs' k
      → TakesOut (full_faces_of ts fs) (full_faces_of ts' fs') k
  full_faces_taken ts ts' fs fs' k p tt tf =
      let n = length-full_faces ts fs p in
      let a = tt.count in
      let b = tf.count in
      let p' : length fs' ≡ length ts' = omega (arith, p, a, b) in
      let n' = length-full_faces ts' fs' p' in
      record {
        within = omega (arith, n, tt.within);
        count = omega (arith, n, n', a);
        here = λ d more.
            let m : k + 1 < length ts = omega (arith, more, n) in
            let last : ℕ = length ts - 1 in
            let f_is : length fs - 1 ≡ last = omega (arith, p) in
            let x = tt.here d.corners m in
            let y = tf.here d.value (omega (arith, m, p)) ∙ ap (λ i. get_or fs i d.value) f_is in
            get_or-full_faces ts' fs' k d.corners d.value p' (omega (arith, m, a)) d
            ∙ rw (x, y)
            (sym (get_or-full_faces ts fs last d.corners d.value p (omega (arith, m)) d))
            ∙ ap (λ i. get_or (full_faces_of ts fs) i d)
            (let s : last ≡ length (full_faces_of ts fs) - 1 = omega (arith, n) in s);
        other = λ j d off more.
            let m : j + 1 < length ts = omega (arith, more, n) in
            let x = tt.other j d.corners off m in
            let y = tf.other j d.value off (omega (arith, m, p)) in
            get_or-full_faces ts' fs' j d.corners d.value p' (omega (arith, m, a)) d
            ∙ rw (x, y) (sym (get_or-full_faces ts fs j d.corners d.value p (omega (arith, m)) d));
      }

  -- the faces with their data of two lists one after the other are those of each
  pub full_faces-append : (ts us : List Triangle) (fs gs : List F) → length fs ≡ length ts
      → full_faces_of (ts ++ us) (fs ++ gs) ≡ full_faces_of ts fs ++ full_faces_of us gs
  full_faces-append [] us [] gs p = refl
  full_faces-append [] us (f ∷ fs) gs p = absurd (omega (arith, p))
  full_faces-append (t ∷ ts) us [] gs p = absurd (omega (arith, p))
  full_faces-append (t ∷ ts) us (f ∷ fs) gs p =
      ap (λ xs. full_face t f ∷ xs) (full_faces-append ts us fs gs (omega (arith, p)))
