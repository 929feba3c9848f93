-- A search for the faces that are reached past no constraint: its beginning, its steps and its end.
-- Notions: AreBegun; open_across, begun, stays_reached, taken, open_start, open_next, next_within,
-- all_open, begin_first, begin_more, begin_last, edge_within, next_small, next_entered,
-- next_keeps, small_face, told_open.
use Rattle.std.proofs.Common.{◌≡◌, ◌≢◌, ◌⊎◌, ◌+◌, ◌<◌, ◌≤◌, [], ◌∷◌, ◌++◌, ◌∙◌}
use Rattle.std.proofs.Common.{ℕ, zero, suc, List, length, get_or}
use Rattle.std.proofs.Common.{refl, sym, ap, subst, inl, inr, arith}
use Rattle.std.specs.Prelude.{All, Contains, cond, slice_index_or}
use Rattle.std.proofs.lemmas.Bool.{cases_eq}
use Rattle.std.proofs.lemmas.List.{get_or-set_same, get_or-set_other, length-set}
use Rattle.std.proofs.lemmas.List.Elements.{Contains-push, Contains-push_cases}
use Rattle.std.proofs.lemmas.List.Elements.{Contains-append_left}
use Rattle.std.proofs.lemmas.List.Sums.{sum_by-append}
use Rattle.plane.proofs.{below_or_last}
use Rattle.half_edge_links.specs.{AreSoundLinks, face, Mesh, rev}
use Rattle.{half_edge_links.proofs.rev_within, plane_theorems.proofs.get_or_any}
use Rattle.delaunay_extensions.specs.{AreLayers, crossed, is_constrained, Leads, weight}
use Rattle.drawing_faces.specs.{Flood.Enters, IsFlood, IsReached, Kept.IsOpenFace, MarkOpenFaces}

-- whether a face was reached
told : (reached : List ℕ) (f : ℕ) → IsReached reached f ⊎ (¬ IsReached reached f)
told reached f = cases_eq (slice_index_or reached f 1) 0

-- ---- ways
-- a way behind another
leads_append : (m : Mesh) (hs ks : List ℕ) (f g k : ℕ) → Leads m hs f g → Leads m ks g k
    → Leads m (hs ++ ks) f k
leads_append m [] ks f g k e l = subst (λ x. Leads m ks x k) (sym e) l
leads_append m (h ∷ hs) ks f g k l r =
    (l.0, l.1, leads_append m hs ks (face m (rev h)) g k l.2 r)

-- what both cross
crossed_append : (constraints hs ks : List ℕ)
    → crossed constraints (hs ++ ks) ≡ crossed constraints hs + crossed constraints ks
crossed_append constraints hs ks =
    sum_by-append (λ g. cond (is_constrained constraints g) 1 0) hs ks

-- ---- the search
module _ (m : Mesh) (constraints starts : List ℕ) where
  -- a search between two steps, and one that is to enter face f
  abbrev Searches : List ℕ → List ℕ → Type 0
  Searches reached due = IsFlood m constraints starts (λ f. ⊥) reached due

  abbrev SearchesTo : ℕ → List ℕ → List ℕ → Type 0
  SearchesTo f reached due = IsFlood m constraints starts (λ g. g ≡ f) reached due

  -- a face that is reached across a free edge is open
  pub open_across : (h : ℕ) → h < length m.half_edges → weight constraints h ≡ 0
      → IsOpenFace m constraints starts (face m h)
      → IsOpenFace m constraints starts (face m (rev h))
  open_across h within free o =
      let none = o.free in
      let more = crossed_append constraints o.way (h ∷ []) in
      record {
        start = o.start;
        begins = o.begins;
        way = o.way ++ h ∷ [];
        leads = leads_append m o.way (h ∷ []) o.start (face m h) (face m (rev h)) o.leads
            (within, refl, refl);
        free = omega (arith, none, more, free);
      }

  -- faces of layer 0 to begin with
  pub begun : AreSoundLinks m → (layers : List ℕ) → AreLayers m constraints layers
      → Searches layers []
  begun links layers are = record {
    size = are.count;
    outer = at 0 some_face outer_zero;
    sound = from_outer;
    leading = λ h c. absurd (let w = c.1 in omega (arith, w));
    done = λ h within r free. inr (inl (across h within r free));
  }
    where
      some_face : 0 < length layers
      some_face = let c = are.count in omega (arith, c)

      within_list : (xs : List ℕ) (i : ℕ) → get_or xs i 1 ≡ 0 → i < length xs
      within_list [] i e = absurd (omega (arith, e))
      within_list (x ∷ xs) zero e = omega arith
      within_list (x ∷ xs) (suc i) e = let w = within_list xs i e in omega (arith, w)

      zero_at : (f : ℕ) → IsReached layers f → get_or layers f 0 ≡ 0
      zero_at f r = get_or_any layers f 0 1 (within_list layers f r) ∙ r

      at : (f : ℕ) → f < length layers → get_or layers f 0 ≡ 0 → IsReached layers f
      at f w e = get_or_any layers f 1 0 w ∙ e

      outer_zero : get_or layers 0 0 ≡ 0
      outer_zero =
          let least = (are.each 0 some_face).least [] refl in
          omega (arith, least)

      from_outer : (f : ℕ) → IsReached layers f → IsOpenFace m constraints starts f
      from_outer f r = let l = (are.each f (within_list layers f r)).way in record {
        start = 0;
        begins = inl refl;
        way = l.0;
        leads = l.1;
        free = l.2 ∙ zero_at f r;
      }

      across : (h : ℕ) → h < length m.half_edges → IsReached layers (face m h)
          → weight constraints h ≡ 0 → IsReached layers (face m (rev h))
      across h within r free =
          let l = (are.each (face m h) (within_list layers (face m h) r)).way in
          let zero_here = zero_at (face m h) r in
          let more = crossed_append constraints l.0 (h ∷ []) in
          let some = l.2 in
          let inner = (links.edges (rev h)
          (rev_within h (length m.half_edges) links.even within)).face_in in
          let count = are.count in
          let there : face m (rev h) < length layers = omega (arith, inner, count) in
          let least = (are.each (face m (rev h)) there).least (l.0 ++ h ∷ [])
          (leads_append m l.0 (h ∷ []) 0 (face m h) (face m (rev h)) l.1 (within, refl, refl)) in
          at (face m (rev h)) there (omega (arith, least, more, some, zero_here, free))

  -- a face is entered
  module _ (reached reached' due due' : List ℕ) (f : ℕ)
      (flood : SearchesTo f reached due)
      (enters : Enters m constraints f reached due reached' due')
      (within : f < length reached) (o : IsOpenFace m constraints starts f) where
    at_f : IsReached reached' f
    at_f = ap (λ xs. slice_index_or xs f 1) enters.marks
        ∙ get_or-set_same reached f 0 1 within

    off_f : (g : ℕ) → g ≢ f
        → slice_index_or reached' g 1 ≡ slice_index_or reached g 1
    off_f g apart = ap (λ xs. slice_index_or xs g 1) enters.marks
        ∙ get_or-set_other reached f g 0 1 apart

    pub stays_reached : (g : ℕ) → IsReached reached g → IsReached reached' g
    stays_reached g r = elim (cases_eq g f) [
      | inl e ↦ subst (IsReached reached') (sym e) at_f
      | inr apart ↦ off_f g apart ∙ r
    ]

    before_or_f : (g : ℕ) → IsReached reached' g → (g ≡ f) ⊎ IsReached reached g
    before_or_f g r = elim (cases_eq g f) [
      | inl e ↦ inl e
      | inr apart ↦ inr (sym (off_f g apart) ∙ r)
    ]

    next_reached : (h : ℕ) → IsReached reached (face m (rev h)) ⊎ (face m (rev h) ≡ f)
        → IsReached reached' (face m (rev h))
    next_reached h (inl r) = stays_reached (face m (rev h)) r
    next_reached h (inr e) = subst (IsReached reached') (sym e) at_f

    -- what edges are listed then
    list_kept : (h : ℕ) → Contains due h → Contains due' h
    list_kept h c = elim (told reached f) [
      | inl r ↦ subst (λ (xs : List ℕ). Contains xs h) (sym (enters.before r)) c
      | inr new ↦ (enters.first new).kept h c
    ]

    leading' : (h : ℕ) → Contains due' h
        → (h < length m.half_edges) × IsReached reached' (face m h) × (weight constraints h ≡ 0)
    leading' h c = elim (told reached f) [
      | inl r ↦ old h (flood.leading h (subst (λ (xs : List ℕ). Contains xs h) (enters.before r) c))
      | inr new ↦ elim ((enters.first new).only h c) [
        | inl d ↦ old h (flood.leading h d)
        | inr w ↦ (w.0.0, subst (IsReached reached') (sym w.0.1) at_f, w.1)
      ]
    ]
      where
        old : (g : ℕ) → (g < length m.half_edges) × IsReached reached (face m g)
            × (weight constraints g ≡ 0) → (g < length m.half_edges)
            × IsReached reached' (face m g) × (weight constraints g ≡ 0)
        old g (w, r, free) = (w, stays_reached (face m g) r, free)

    done_old : (h : ℕ) → h < length m.half_edges → IsReached reached (face m h)
        → weight constraints h ≡ 0 → Contains due' h ⊎ IsReached reached' (face m (rev h))
    done_old h w r free = elim (flood.done h w r free) [
      | inl c ↦ inl (list_kept h c)
      | inr n ↦ inr (next_reached h n)
    ]

    done' : (h : ℕ) → h < length m.half_edges → IsReached reached' (face m h)
        → weight constraints h ≡ 0 → Contains due' h ⊎ IsReached reached' (face m (rev h))
    done' h w r free = elim (told reached (face m h)) [
      | inl old ↦ done_old h w old free
      | inr new ↦ elim (before_or_f (face m h) r) [
        | inl e ↦ inl ((enters.first (λ q. new (subst (IsReached reached) (sym e) q))).there h
            (w, e) free)
        | inr old ↦ absurd (new old)
      ]
    ]

    entered : Searches reached' due'
    entered = record {
      size = ap length enters.marks ∙ length-set reached f 0 ∙ flood.size;
      outer = stays_reached 0 flood.outer;
      sound = λ g r. elim (before_or_f g r) [
        | inl e ↦ subst (IsOpenFace m constraints starts) (sym e) o
        | inr old ↦ flood.sound g old
      ];
      leading = leading';
      done = λ h w r free. elim (done' h w r free) [ inl c ↦ inl c | inr n ↦ inr (inl n) ];
    }

  -- an edge is taken, to be crossed
  pub taken : (reached due due' : List ℕ) (h : ℕ) → due ≡ due' ++ h ∷ []
      → Searches reached due → SearchesTo (face m (rev h)) reached due'
  taken reached due due' h split flood = record {
    size = flood.size;
    outer = flood.outer;
    sound = flood.sound;
    leading = λ g c. flood.leading g (subst (λ (xs : List ℕ). Contains xs g) (sym split)
        (Contains-append_left due' (h ∷ []) g c));
    done = λ g w r free. elim (flood.done g w r free) [
      | inl c ↦ elim (Contains-push_cases due' h g
          (subst (λ (xs : List ℕ). Contains xs g) split c)) [
            | inl d ↦ inl d
            | inr e ↦ inr (inr (ap (λ x. face m (rev x)) (sym e)))
          ]
      | inr (inl n) ↦ inr (inl n)
      | inr (inr e) ↦ absurd e
    ];
  }

  -- a face may come next that no edge leads to
  may_enter : (f : ℕ) (reached due : List ℕ) → Searches reached due → SearchesTo f reached due
  may_enter f reached due flood = record {
    size = flood.size;
    outer = flood.outer;
    sound = flood.sound;
    leading = flood.leading;
    done = λ g w r free. elim (flood.done g w r free) [
      | inl c ↦ inl c
      | inr (inl n) ↦ inr (inl n)
      | inr (inr e) ↦ absurd e
    ];
  }

  -- the faces that the search begins at are open
  pub open_start : (k : ℕ) → k < length starts
      → IsOpenFace m constraints starts (get_or starts k 0)
  open_start k within = record {
    start = get_or starts k 0;
    begins = inr (k, within, get_or_any starts k (get_or starts k 0) 0 within);
    way = [];
    leads = refl;
    free = refl;
  }

  -- an edge that is taken leads to a face that is open
  pub open_next : (reached due due' : List ℕ) (h : ℕ) → due ≡ due' ++ h ∷ []
      → Searches reached due → IsOpenFace m constraints starts (face m (rev h))
  open_next reached due due' h split flood =
      let l = flood.leading h (subst (λ (xs : List ℕ). Contains xs h) (sym split)
      (Contains-push due' h)) in
      open_across h l.0 l.2 (flood.sound (face m h) l.1)

  -- and stands in the list of faces
  pub next_within : AreSoundLinks m → (reached due due' : List ℕ) (h : ℕ) → due ≡ due' ++ h ∷ []
      → Searches reached due
      → (h < length m.half_edges) × (face m (rev h) < length reached)
  next_within links reached due due' h split flood =
      let l = flood.leading h (subst (λ (xs : List ℕ). Contains xs h) (sym split)
      (Contains-push due' h)) in
      let inner = (links.edges (rev h)
      (rev_within h (length m.half_edges) links.even l.0)).face_in in
      let size = flood.size in
      (l.0, omega (arith, inner, size))

  -- with no edge left, all that is open was reached
  follows : (reached : List ℕ) → Searches reached [] → (way : List ℕ) (f g : ℕ)
      → Leads m way f g → crossed constraints way ≡ 0 → IsReached reached f → IsReached reached g
  follows reached flood [] f g e none r = subst (IsReached reached) e r
  follows reached flood (h ∷ hs) f g (w, at, rest) none r =
      let sum = crossed_append constraints (h ∷ []) hs in
      let free : weight constraints h ≡ 0 = omega (arith, sum, none) in
      let later : crossed constraints hs ≡ 0 = omega (arith, sum, none) in
      follows reached flood hs (face m (rev h)) g rest later
      (across (flood.done h w (subst (IsReached reached) (sym at) r) free))
    where
      across : Contains [] h ⊎ (IsReached reached (face m (rev h)) ⊎ ⊥)
          → IsReached reached (face m (rev h))
      across (inl c) = absurd (let w = c.1 in omega (arith, w))
      across (inr (inl q)) = q
      across (inr (inr e)) = absurd e

  -- the marks are those of open faces, once each of the starts was reached
  pub all_open : (reached : List ℕ) → Searches reached []
      → ((f : ℕ) → Contains starts f → IsReached reached f)
      → MarkOpenFaces m constraints starts reached
  all_open reached flood begun = record {
    size = flood.size;
    sound = flood.sound;
    complete = λ f o. follows reached flood o.way o.start f o.leads o.free
        (first o.start o.begins);
  }
    where
      first : (s : ℕ) → (s ≡ 0) ⊎ Contains starts s → IsReached reached s
      first s (inl e) = subst (IsReached reached) (sym e) flood.outer
      first s (inr c) = begun s c

  -- ---- the starts, one after another
  -- as many as i were reached
  pub record AreBegun (reached due : List ℕ) (i : ℕ) : Type 0 where
    pub flood : Searches reached due
    pub begun : (k : ℕ) → k < i → IsReached reached (get_or starts k 0)

  pub begin_first : (reached due : List ℕ) → Searches reached due → AreBegun reached due 0
  begin_first reached due flood =
      record { flood = flood; begun = λ k h. absurd (omega (arith, h)) }

  -- one more
  module _ (reached reached' due due' : List ℕ) (i f d : ℕ) (is : f ≡ get_or starts i d)
      (within : i < length starts) (so_far : AreBegun reached due i)
      (enters : Enters m constraints f reached due reached' due') (small : f < length reached) where
    is_start : f ≡ get_or starts i 0
    is_start = is ∙ get_or_any starts i d 0 within

    start_is_open : IsOpenFace m constraints starts f
    start_is_open = subst (IsOpenFace m constraints starts) (sym is_start) (open_start i within)

    may : SearchesTo f reached due
    may = may_enter f reached due so_far.flood

    pub begin_more : AreBegun reached' due' (i + 1)
    begin_more = record {
      flood = entered reached reached' due due' f may enters small start_is_open;
      begun = λ k h. elim (below_or_last i k (omega (arith, h))) [
        | inl less ↦ stays_reached reached reached' due due' f may enters small start_is_open
            (get_or starts k 0) (so_far.begun k less)
        | inr last ↦ subst (IsReached reached')
            (is_start ∙ ap (λ j. get_or starts j 0) (sym last))
            (at_f reached reached' due due' f may enters small start_is_open)
      ];
    }

  pub begin_last : (reached due : List ℕ) (i : ℕ) → AreBegun reached due i → length starts ≤ i
      → (f : ℕ) → Contains starts f → IsReached reached f
  begin_last reached due i so_far last f c = let w = c.1 in
      subst (IsReached reached) (get_or_any starts c.0 0 f c.1 ∙ c.2)
      (so_far.begun c.0 (omega (arith, w, last)))

  -- ---- an edge was crossed
  module _ (links : AreSoundLinks m) (reached due all : List ℕ) (h f : ℕ)
      (split : all ≡ due ++ h ∷ []) (flood : Searches reached all) (at : f ≡ face m (rev h)) where
    next_is_open : IsOpenFace m constraints starts f
    next_is_open = subst (IsOpenFace m constraints starts) (sym at)
        (open_next reached all due h split flood)

    pub edge_within : h < length m.half_edges
    edge_within = (next_within links reached all due h split flood).0

    pub next_small : f < length reached
    next_small = subst (λ g. g < length reached) (sym at)
        (next_within links reached all due h split flood).1

    but_next : SearchesTo f reached due
    but_next = subst (λ x. SearchesTo x reached due) (sym at)
        (taken reached all due h split flood)

    module _ (reached' due' : List ℕ) (enters : Enters m constraints f reached due reached' due')
      where
        pub next_entered : Searches reached' due'
        next_entered =
            entered reached reached' due due' f but_next enters next_small next_is_open

        pub next_keeps : (g : ℕ) → IsReached reached g → IsReached reached' g
        next_keeps = stays_reached reached reached' due due' f but_next enters next_small
            next_is_open

-- a face of a mesh stands in the list
pub small_face : (m : Mesh) (faces : ℕ) (reached starts : List ℕ) (i f d : ℕ)
    → faces ≡ length m.face_edges → length reached ≡ length m.face_edges + 1
    → All (λ g. g ≤ faces) starts → i < length starts → f ≡ get_or starts i d
    → f < length reached
small_face m faces reached starts i f d fit size few within is =
    let bound = few i d within in omega (arith, bound, fit, size, is)

-- whether a face is open is told by its number
pub told_open : (m : Mesh) (constraints starts reached : List ℕ)
    → MarkOpenFaces m constraints starts reached → (f : ℕ) → f < length reached
    → (get_or reached f 0 ≡ 0 → IsOpenFace m constraints starts f)
    × (get_or reached f 0 ≢ 0 → ¬ IsOpenFace m constraints starts f)
told_open m constraints starts reached are f w = (
  λ e. are.sound f (get_or_any reached f 1 0 w ∙ e),
  λ some o. some (get_or_any reached f 0 1 w ∙ are.complete f o),
)
