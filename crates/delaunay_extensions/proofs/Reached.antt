-- Each face is reached from the outer one. Where faces were left, the sides between them would
-- cancel out, and so would their areas; but each face turns left, and has a positive area.
-- Lemmas: goes, flow, all_reached, all_layers, search_ends.
use Rattle.std.proofs.Common.{◌≡◌, ◌⊎◌, ◌-◌, ◌<◌, ◌≤◌, [], ◌∙◌}
use Rattle.std.proofs.Common.{ℕ, zero, suc, List, length, get_or, map, refl, sym, ap, subst, arith}
use Rattle.std.proofs.Common.{eq-eqb}
use mathlib.Core.Logic.{inl, inr}
use mathlib.Core.Bool.{Bool, true, false, ◌&&◌, ◌||◌}
use Rattle.std.specs.Prelude.{ℤ, pos, ◌+ℤ◌, ◌≤ℤ◌, ◌<ℤ◌, neg_ℤ, Contains, cond, nat_eq}
use Rattle.std.proofs.lemmas.Bool.{cases_eq, eqb-true}
use Rattle.std.proofs.lemmas.Int.{ints}
use Rattle.std.proofs.lemmas.List.{length-map}
use Rattle.plane.proofs.{bracket, bracket-sum, bracket-swap, if_left, lift}
use Rattle.half_edge_links.specs.{face, face_edge, IsValidMesh, Mesh, next, origin, prev, rev}
use Rattle.half_edge_links.specs.{triangle_at, triangles}
use Rattle.half_edge_links.proofs.{rev-rev, rev_within}
use Rattle.plane_theorems.specs.{along, around, IsAntisymmetric, IsMesh, LocalMesh, total}
use Rattle.plane_theorems.proofs.{get_or_any, Tiling.Totals.all_none, Tiling.Totals.total_at_least}
use Rattle.{half_edge_dcel.specs.Contents, plane.specs.Face, plane.specs.Point, plane.specs.whole}
use Rattle.delaunay_legalization.specs.{corners_of, faces_of, IsTriangulated, outer_of, state_of}
use Rattle.delaunay_legalization.proofs.{contains_map, edge_of_face, own_indexes, real}
use Rattle.delaunay_legalization.proofs.MeshStars.{IsEdgeOfFace}
use Rattle.delaunay_extensions.specs.{AreLayers, IsMet, IsSearching, layer_at}
use Rattle.delaunay_extensions.specs.Search.{IsFound, IsLayered, unseen}
use Rattle.delaunay_extensions.specs.declared.search.LayerSearch.{LayerSearch}
use Rattle.delaunay_extensions.proofs.{Searching.all_found, Ways.no_shorter}
use Rattle.half_edge_links.proofs.Sound.Triangles as T

-- ---- a test of the numbers below a bound
abbrev any_below : (ℕ → Bool) → ℕ → Bool
any_below test zero = false
any_below test (suc k) = test k || any_below test k

or_last : (a b : Bool) → b ≡ true → (a || b) ≡ true
or_last true b e = refl
or_last false b e = e

one_of : (a b : Bool) → (a || b) ≡ true → (a ≡ true) ⊎ (b ≡ true)
one_of true b e = inl refl
one_of false b e = inr e

-- two tests that are true are true together
both : (a b : Bool) → a ≡ true → b ≡ true → (a && b) ≡ true
both a b e d = ap (λ x. x && b) e ∙ d

-- and where they are true together, each is
each : (a b : Bool) → (a && b) ≡ true → (a ≡ true) × (b ≡ true)
each true b e = (refl, e)
each false b e = absurd (cc)

passes : (test : ℕ → Bool) (n h : ℕ) → h < n → test h ≡ true → any_below test n ≡ true
passes test zero h w e = absurd (omega (arith, w))
passes test (suc n) h w e = elim (cases_eq h n) [
  | inl is ↦ ap (λ b. b || any_below test n) (ap test (sym is) ∙ e)
  | inr off ↦ or_last (test n) (any_below test n) (passes test n h (omega (arith, w, off)) e)
]

passed_by : (test : ℕ → Bool) (n : ℕ) → any_below test n ≡ true
    → (h : ℕ) × (h < n) × (test h ≡ true)
passed_by test zero e = absurd (cc)
passed_by test (suc n) e = elim (one_of (test n) (any_below test n) e) [
  | inl is ↦ (n, omega arith, is)
  | inr later ↦ let r = passed_by test n later in
      let w = r.1 in (r.0, omega (arith, w), r.2)
]

whether : (b : Bool) → (b ≡ true) ⊎ (b ≡ false)
whether true = inl refl
whether false = inr refl

-- ---- sums of three and of two
three_none : (a b c : ℤ) → a ≡ pos 0 → b ≡ pos 0 → c ≡ pos 0 → a +ℤ b +ℤ c ≡ pos 0
three_none a b c x y z = omega (arith, ints, x, y, z)

three_some : (a b c x y z s : ℤ) → a ≡ x → b ≡ y → c ≡ z → s ≡ y +ℤ z +ℤ x → pos 0 <ℤ s
    → pos 0 <ℤ (a +ℤ b +ℤ c)
three_some a b c x y z s p q r e h = omega (arith, ints, p, q, r, e, h)

at_least_none : (a : ℤ) → a ≡ pos 0 → pos 0 ≤ℤ a
at_least_none a e = omega (arith, ints, e)

above_none : (a : ℤ) → pos 0 <ℤ a → pos 0 ≤ℤ a
above_none a h = omega (arith, ints, h)

no_balance : (a b c : ℤ) → pos 0 <ℤ c → c ≤ℤ a → b ≡ pos 0 → a +ℤ b ≡ pos 0 → ⊥
no_balance a b c h k e z = omega (arith, ints, h, k, e, z)

none_is_opposite : pos 0 ≡ neg_ℤ (pos 0)
none_is_opposite = refl

-- ---- faces that were left
module _ (points : List Point) (m : Mesh) (v : IsValidMesh m)
    (shape : IsMesh points (faces_of m) (outer_of m)) (constraints layers : List ℕ)
    (found : IsFound m constraints layers) where
  abbrev n : ℕ
  n = length m.half_edges

  abbrev IsLeft : ℕ → Type 0
  IsLeft f = layer_at layers f ≡ unseen

  abbrev origin_point : Point
  origin_point = record { x = pos 0; y = pos 0 }

  -- the point of a vertex
  abbrev p : ℕ → Point
  p i = get_or points i origin_point

  -- an edge from i to j with a face on its left that was left
  abbrev test : ℕ → ℕ → ℕ → Bool
  test i j h = nat_eq (origin m h) i
      && (nat_eq (origin m (rev h)) j && nat_eq (layer_at layers (face m h)) unseen)

  -- whether there is such an edge from i to j
  pub goes : ℕ → ℕ → Bool
  goes i j = any_below (test i j) n

  goes_there : (i j h : ℕ) → h < n → origin m h ≡ i → origin m (rev h) ≡ j → IsLeft (face m h)
      → goes i j ≡ true
  unfolding goes
  goes_there i j h w a b l = passes (test i j) n h w (both _ _ (eq-eqb _ _ a)
      (both _ _ (eq-eqb _ _ b) (eq-eqb _ _ l)))

  goes_by : (i j : ℕ) → goes i j ≡ true → (h : ℕ) × (h < n) × (origin m h ≡ i)
      × (origin m (rev h) ≡ j) × IsLeft (face m h)
  unfolding goes
  goes_by i j e =
      let r = passed_by (test i j) n e in
      let a = each _ _ r.2 in
      let b = each _ _ a.1 in
      (r.0, r.1, eqb-true _ _ a.0, eqb-true _ _ b.0, eqb-true _ _ b.1)

  -- the face on the other side of an edge was left, too
  left_across : (h : ℕ) → h < n → IsLeft (face m h) → IsLeft (face m (rev h))
  left_across h w l = elim (cases_eq (layer_at layers (face m (rev h))) unseen) [
    | inl e ↦ e
    | inr seen ↦ absurd ((found.crossed (rev h) (rev_within h n v.sound.even w) seen).seen
        (subst (λ x. layer_at layers (face m x) ≡ unseen) (sym (rev-rev h)) l))
  ]

  turned : (i j : ℕ) → goes i j ≡ true → goes j i ≡ true
  turned i j e =
      let r = goes_by i j e in
      goes_there j i (rev r.0) (rev_within r.0 n v.sound.even r.1) r.3
      (ap (origin m) (rev-rev r.0) ∙ r.2) (left_across r.0 r.1 r.4)

  goes_back : (i j : ℕ) → goes i j ≡ goes j i
  goes_back i j = elim (whether (goes i j)) [
    | inl e ↦ e ∙ sym (turned i j e)
    | inr e ↦ elim (whether (goes j i)) [
      | inl d ↦ turned j i d ∙ sym d
      | inr d ↦ e ∙ sym d
    ]
  ]

  -- an edge of a face that was not left
  goes_not : (i j h : ℕ) → h < n → origin m h ≡ i → origin m (rev h) ≡ j → IsMet layers (face m h)
      → goes i j ≡ false
  goes_not i j h w a b seen = elim (whether (goes i j)) [
    | inl e ↦ let r = goes_by i j e in
        let same = (own_indexes points m v shape).edges h r.0 w r.1
        (r.2 ∙ sym a, r.3 ∙ sym b) in
        absurd (seen (ap (λ x. layer_at layers (face m x)) (sym same) ∙ r.4))
    | inr e ↦ e
  ]

  -- the area between an edge and the origin, where the face on its left was left
  abbrev area : ℕ → ℕ → ℤ
  area i j = bracket (lift (p i)) (lift (p j)) (lift origin_point)

  -- that area where there is such an edge, and 0 elsewhere
  pub flow : ℕ → ℕ → ℤ
  flow i j = cond (goes i j) (area i j) (pos 0)

  flow_some : (i j : ℕ) → goes i j ≡ true → flow i j ≡ area i j
  unfolding flow
  flow_some i j e = ap (λ b. cond b (area i j) (pos 0)) e

  flow_none : (i j : ℕ) → goes i j ≡ false → flow i j ≡ pos 0
  unfolding flow
  flow_none i j e = ap (λ b. cond b (area i j) (pos 0)) e

  antisymmetric : IsAntisymmetric flow
  antisymmetric i j = elim (whether (goes i j)) [
    | inl e ↦ flow_some i j e ∙ bracket-swap (lift (p i)) (lift (p j)) (lift origin_point)
        ∙ ap neg_ℤ (sym (flow_some j i (turned i j e)))
    | inr e ↦ flow_none i j e ∙ none_is_opposite
        ∙ ap neg_ℤ (sym (flow_none j i (sym (goes_back i j) ∙ e)))
  ]

  -- the ends of the three edges of a face
  module _ (h i j k : ℕ) (of : IsEdgeOfFace m h i j k) where
    -- the three edges round the face
    t : T.IsTriangle m h
    t = T.triangle_at m h v.sound of.inner.0 of.inner.1

    first_end : origin m (rev h) ≡ j
    first_end = sym (v.sound.edges h of.inner.0).starts ∙ of.second

    second_end : origin m (rev (next m h)) ≡ k
    second_end = sym (v.sound.edges (next m h) t.next_in).starts
        ∙ ap (origin m) t.next_next ∙ of.third

    third_end : origin m (rev (prev m h)) ≡ i
    third_end = sym (v.sound.edges (prev m h) t.prev_in).starts
        ∙ ap (origin m) t.next_prev ∙ of.first

    none_around : IsMet layers (face m h)
        → flow i j +ℤ flow j k +ℤ flow k i ≡ pos 0
    none_around seen = three_none (flow i j) (flow j k) (flow k i)
        (flow_none i j (goes_not i j h of.inner.0 of.first first_end seen))
        (flow_none j k (goes_not j k (next m h) t.next_in of.second second_end
        (subst (IsMet layers) (sym t.face_next) seen)))
        (flow_none k i (goes_not k i (prev m h) t.prev_in of.third third_end
        (subst (IsMet layers) (sym t.face_prev) seen)))

    some_around : IsLeft (face m h)
        → pos 0 <ℤ bracket (lift (p i)) (lift (p j)) (lift (p k))
        → pos 0 <ℤ (flow i j +ℤ flow j k +ℤ flow k i)
    some_around left turns = three_some (flow i j) (flow j k) (flow k i)
        (area i j) (area j k) (area k i) (bracket (lift (p i)) (lift (p j)) (lift (p k)))
        (flow_some i j (goes_there i j h of.inner.0 of.first first_end left))
        (flow_some j k (goes_there j k (next m h) t.next_in of.second second_end
        (ap (layer_at layers) t.face_next ∙ left)))
        (flow_some k i (goes_there k i (prev m h) t.prev_in of.third third_end
        (ap (layer_at layers) t.face_prev ∙ left)))
        (bracket-sum (p i) (p j) (p k) origin_point) turns

  module _ (local : LocalMesh points (faces_of m) (outer_of m)) where
    turns : (f : Face) → Contains (faces_of m) f
        → pos 0 <ℤ bracket (lift (p f.a)) (lift (p f.b)) (lift (p f.c))
    turns f c = if_left (whole (p f.a)) (whole (p f.b)) (whole (p f.c)) (local.turning f c)

    not_negative : (f : Face) → Contains (faces_of m) f → pos 0 ≤ℤ around flow f
    not_negative f c =
        let r = edge_of_face m v.sound f.a f.b f.c (inl c) in
        elim (cases_eq (layer_at layers (face m r.0)) unseen) [
          | inl left ↦ above_none (around flow f)
              (some_around r.0 f.a f.b f.c r.1 left (turns f c))
          | inr seen ↦ at_least_none (around flow f) (none_around r.0 f.a f.b f.c r.1 seen)
        ]

    outer_seen : (h : ℕ) → face m h ≡ 0 → IsMet layers (face m h)
    outer_seen h e l = let z = ap (layer_at layers) e in
        let o = found.outer in absurd (omega (arith, z, o, l))

    outline_none : total (along flow) (outer_of m) ≡ pos 0
    outline_none = all_none (along flow) (outer_of m) (λ e c.
        let r = real m e.0 e.1 c in
        flow_none e.0 e.1 (goes_not e.0 e.1 r.0 r.1.within r.1.source r.1.target
        (outer_seen r.0 r.1.outer)))

    -- a face that was left
    none_left : (f : ℕ) → 0 < f → f ≤ length m.face_edges → ¬ IsLeft f
    none_left f some within left =
        let h = face_edge m f in
        let had = v.sound.faces f some within in
        let inner : 0 < face m h = let e = had.1 in omega (arith, e, some) in
        let corners : Face = corners_of (triangle_at m h) in
        let at : f - 1 < length m.face_edges = omega (arith, some, within) in
        let named : Contains m.face_edges h = (f - 1, at, get_or_any m.face_edges (f - 1) h 0 at) in
        let c : Contains (faces_of m) corners = contains_map corners_of (triangles m)
        (triangle_at m h) (contains_map (triangle_at m) m.face_edges h named) in
        let of : IsEdgeOfFace m h corners.a corners.b corners.c =
        record { inner = (had.0, inner); first = refl; second = refl; third = refl } in
        no_balance (total (around flow) (faces_of m)) (total (along flow) (outer_of m))
        (around flow corners)
        (some_around h corners.a corners.b corners.c of
        (ap (layer_at layers) had.1 ∙ left) (turns corners c))
        (total_at_least (around flow) (faces_of m) not_negative corners c) outline_none
        (local.balanced flow antisymmetric)

  no_faces : faces_of m ≡ [] → (f : ℕ) → f < length layers → f ≡ 0
  no_faces none f w =
      let a = ap length none in
      let b = length-map (triangles m) corners_of in
      let c = length-map m.face_edges (triangle_at m) in
      let d = found.count in
      omega (arith, a, b, c, d, w)

  pub all_reached : (f : ℕ) → f < length layers → IsMet layers f
  all_reached f w left = elim shape [
    | inl local ↦ elim (cases_eq f 0) [
      | inl e ↦ let z = ap (layer_at layers) e in
          let o = found.outer in absurd (omega (arith, z, o, left))
      | inr some ↦ let d = found.count in
          none_left local f (omega (arith, some)) (omega (arith, d, w)) left
    ]
    | inr line ↦ let z = ap (layer_at layers) (no_faces line.0 f w) in
        let o = found.outer in absurd (omega (arith, z, o, left))
  ]

  outer_is_seen : IsMet layers 0
  outer_is_seen e = let o = found.outer in omega (arith, e, o)

  -- what the search has found are the layers
  pub all_layers : AreLayers m constraints layers
  all_layers = record {
    count = found.count;
    each = λ f w.
        let same = get_or_any layers f 0 unseen w in
        let ways = found.ways f (all_reached f w) in record {
          way = (ways.0, ways.1, ways.2 ∙ sym same);
          least = λ hs leads.
              let less = (no_shorter m constraints layers found.crossed hs 0 f leads
              outer_is_seen).1 in
              let o = found.outer in
              omega (arith, same, less, o);
        };
  }

-- a search with no edge left has the layers
pub search_ends : {V D U F : Type 0} (at : V → Point) {c : Contents V D U F}
    {constraints : List ℕ} (old new : LayerSearch)
    → IsTriangulated at (state_of c) → new.layers ≡ old.layers
    → (old.now.items ≡ []) × (old.later.items ≡ [])
    → IsSearching c constraints old.layers.items old.now.items old.later.items old.layer
    → AreLayers c.mesh constraints new.layers.items
search_ends at {c = c} {constraints = constraints} old new kept same none s =
    subst (λ v. AreLayers c.mesh constraints v.items) (sym same)
    (all_layers (map at c.vertices) c.mesh kept.valid kept.shape constraints old.layers.items
    (all_found c.mesh constraints old.layers.items old.layer
    (subst (λ xs. IsLayered c.mesh constraints old.layers.items xs [] old.layer) none.0
    (subst (λ xs. IsLayered c.mesh constraints old.layers.items old.now.items xs old.layer) none.1
    s.layered)) s.outer))
