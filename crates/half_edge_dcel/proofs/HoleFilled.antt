-- A vertex whose edges but three were turned away from it loses these, and the hole is filled.
-- Lemmas: edges_miss, faces_miss, hole_filled, hole_filled_by, fan_of_three.
use Rattle.std.proofs.Common.{◌≡◌, ◌≢◌, ◌+◌, ◌-◌, ◌*◌, ◌<◌, [], ◌∷◌, ◌++◌, ◌∙◌}
use Rattle.std.proofs.Common.{ℕ, zero, suc, true, false, List, length, get_or, refl, sym, ap, inl}
use Rattle.std.proofs.Common.{arith, subst, Option, Some, None}
use Rattle.std.specs.Prelude.{pos, ◌+ℤ◌, IsSome}
use Rattle.std.specs.List.{All, AllZip, Contains, filter}
use Rattle.std.specs.List.Sorted.{IsPermutation}
use Rattle.std.proofs.lemmas.Bool.{false≢true}
use Rattle.std.proofs.lemmas.List.{get_or_default}
use Rattle.std.proofs.lemmas.List.Elements.{All-cons, All-head, All-nil, All-tail, All-weaker}
use Rattle.std.proofs.lemmas.List.Elements.{All-contains, Contains-append_left}
use Rattle.std.proofs.lemmas.List.Elements.{Contains-append_right, Contains-get_or}
use Rattle.std.proofs.lemmas.List.Sorted.{All-permutation, Contains-permutation, IsPermutation-sym}
use Rattle.std.proofs.lemmas.List.Sorted.{IsPermutation-trans, IsPermutation-cons}
use Rattle.std.proofs.lemmas.List.Sorted.{IsPermutation-append_left, IsPermutation-append_right}
use Rattle.std.proofs.lemmas.List.Sorted.{IsPermutation-filter_both, IsPermutation-middle}
use Rattle.half_edge_links.specs.{AreSoundLinks, Ends, ends, face_edge, IsAlone, IsInner, Mesh}
use Rattle.half_edge_links.specs.{neighbour, next, origin, out_edge, prev, total, Triangle}
use Rattle.{half_edge_links.specs.Flow.along, half_edge_links.specs.triangle_at}
use Rattle.half_edge_links.proofs.{count_ends, ends_at}
use Rattle.half_edge_dcel.specs.{Connects, Contents, faces_between, FillsHole, full_edges}
use Rattle.half_edge_dcel.specs.{full_faces, FullEdge, FullFace, HasCorners, HasFreeTip, IsHub}
use Rattle.half_edge_dcel.specs.{IsMeshWithData, joins, spokes_to}
use Rattle.half_edge_dcel.specs.Hole.{FillsWithFan, HasDataOf}
use Rattle.half_edge_dcel.proofs.Filtered.{Contains-filter, sorted_out}
use Rattle.half_edge_dcel.proofs.Hubs.{count_faces, faces_round, no_face_of, round_faces}
use Rattle.half_edge_dcel.proofs.{Hubs.round_faces_are, Turning.all_zip-push}
use Rattle.half_edge_dcel.proofs.{TakenEdges.listed_face, TurnedEdge.HasTurned, TurnedEdge.value_at}
use Rattle.half_edge_dcel.proofs.TakenOut.{get_or-full_edges, length-full_edges}
use Rattle.half_edge_dcel.proofs.Touching.{corner_there, corners_off, ends_off, has_corner}
use Rattle.half_edge_dcel.proofs.Touching.{lacks_corner, misses, touches, touches_it}

-- ---- a vertex without edges
module _ {V D U F : Type 0} (c : Contents V D U F) (v : ℕ) (whole : IsMeshWithData c)
    (alone : IsAlone c.mesh v) where
  abbrev m : Mesh
  m = c.mesh

  -- the links fit together
  s : AreSoundLinks m
  s = whole.valid.sound

  starts_off : (h : ℕ) → h < length m.half_edges → origin m h ≢ v
  starts_off h within q =
      let none : out_edge m (origin m h) ≡ None = ap (out_edge m) q ∙ alone.1 in
      let no : IsSome (out_edge m (origin m h)) = (s.edges h within).has_out in
      none_some _ none no
    where
      none_some : (x : Option ℕ) → x ≡ None → IsSome x → ⊥
      none_some None is some = false≢true some
      none_some (Some y) is some = cc

  -- no edge ends at it
  pub edges_miss : All (λ e. touches v e ≡ false) (full_edges c)
  edges_miss k d within =
      let n = count_ends m s in
      let us : length c.undirected ≡ length (ends m) =
      omega (arith, n, whole.fits.undirected_fit) in
      let ds : length c.directed ≡ 2 * length (ends m) =
      omega (arith, n, whole.fits.directed_fit) in
      let long = length-full_edges (ends m) c.undirected c.directed us ds in
      let p : Ends = record { source = d.source; target = d.target } in
      let inside : 2 * k + 1 < length m.half_edges = omega (arith, within, long, n) in
      let read = get_or-full_edges (ends m) c.undirected c.directed k p d.value d.there d.back us ds
      (omega (arith, within, long)) d in
      let at = ends_at m k p s inside in
      let source_is = ap (λ (x : FullEdge D U). x.source) read ∙ ap (λ (x : Ends). x.source) at in
      let target_is = ap (λ (x : FullEdge D U). x.target) read ∙ ap (λ (x : Ends). x.target) at in
      ends_off v (get_or (full_edges c) k d) (λ q. starts_off (2 * k) (omega (arith, inside))
      (sym source_is ∙ q)) (λ q. starts_off (2 * k + 1) inside (sym target_is ∙ q))

  -- it is no corner of a face
  pub faces_miss : All (λ f. has_corner v f ≡ false) (full_faces c)
  faces_miss k d within =
      let long = count_faces m c.faces whole.fits.faces_fit in
      let inner : IsInner m (suc k) = (omega arith, omega (arith, within, long)) in
      let k_is : suc k - 1 ≡ k = omega arith in
      let h : ℕ = face_edge m (suc k) in
      let h_in = (s.faces (suc k) inner.0 inner.1).0 in
      let here = s.edges h h_in in
      let listed : (get_or (full_faces c) k d).corners ≡ triangle_at m h = ap
      (λ q. (get_or (full_faces c) q d).corners) (sym k_is) ∙ ap (λ (x : FullFace F). x.corners)
      (listed_face m c.faces (suc k) whole.fits.faces_fit inner d) in
      corners_off v (get_or (full_faces c) k d) (λ q. starts_off h h_in
      (sym (ap (λ (x : Triangle). x.first) listed) ∙ q)) (λ q. starts_off (next m h)
      here.next_in (sym (ap (λ (x : Triangle). x.second) listed) ∙ q)) (λ q. starts_off
      (prev m h) here.prev_in (sym (ap (λ (x : Triangle). x.third) listed) ∙ q))

-- ---- lists
spokes_touch : {D U : Type 0} (v w : ℕ) (n : ℕ → ℕ) (xs : List (FullEdge D U)) (k : ℕ) → w ≡ v
    → AllZip Connects xs (spokes_to w n k) → All (λ e. touches v e ≡ true) xs
spokes_touch v w n [] k at z = All-nil _
spokes_touch v w n (x ∷ xs) zero at z = absurd z
spokes_touch {D} {U} v w n (x ∷ xs) (suc k) at z =
    All-cons (λ (e : FullEdge D U). touches v e ≡ true) x xs
    (touches_it v x (joins w (n k)) z.0 (inl at)) (spokes_touch v w n xs k at z.1)

between_touch : {F : Type 0} (v w : ℕ) (n : ℕ → ℕ) (xs : List (FullFace F)) (k : ℕ) → w ≡ v
    → AllZip HasCorners xs (faces_between w n k) → All (λ f. has_corner v f ≡ true) xs
between_touch v w n [] k at z = All-nil _
between_touch v w n (x ∷ xs) zero at z = absurd z
between_touch {F} v w n (x ∷ xs) (suc k) at z = All-cons (λ (f : FullFace F). has_corner v f ≡ true)
    x xs (corner_there v x (record { first = w; second = n k; third = n (suc k) }) z.0 at)
    (between_touch v w n xs k at z.1)

-- the first spoke, at the end of the list
first_last : (v : ℕ) (n : ℕ → ℕ) (k : ℕ)
    → spokes_to v n (suc k) ≡ spokes_to v (λ i. n (suc i)) k ++ joins v (n 0) ∷ []
first_last v n zero = refl
first_last v n (suc k) = ap (λ xs. joins v (n (suc k)) ∷ xs) (first_last v n k)

-- the edges that went: those that were turned, and between them the last three
module _ {D U : Type 0} (v : ℕ) (n : ℕ → ℕ) (turned : ℕ) (lost : List (FullEdge D U))
    (lost_are : AllZip Connects lost (spokes_to v (λ i. n (suc i)) turned)) where
  in_order : (xs : List (FullEdge D U)) → AllZip Connects xs
      (joins v (n (suc (suc turned))) ∷ joins v (n (suc turned)) ∷ joins v (n 0) ∷ [])
      → (all : List (FullEdge D U)) × AllZip Connects all (spokes_to v n (suc (suc (suc turned))))
      × IsPermutation (lost ++ xs) all × ((x : FullEdge D U) → Contains lost x → Contains all x)
  in_order [] z = absurd z
  in_order (a ∷ []) z = absurd z.1
  in_order (a ∷ b ∷ []) z = absurd z.1.1
  in_order (a ∷ b ∷ c ∷ []) z = (
    a ∷ b ∷ (lost ++ c ∷ []),
    (
      z.0,
      (
        z.1.0,
        subst (λ (ps : List Ends). AllZip Connects (lost ++ c ∷ []) ps)
            (sym (first_last v n turned)) (all_zip-push Connects lost
            (spokes_to v (λ i. n (suc i)) turned) c (joins v (n 0)) lost_are z.1.1.0),
      ),
    ),
    IsPermutation-trans _ _ _ (IsPermutation-middle lost a (b ∷ c ∷ []))
        (IsPermutation-cons a _ _ (IsPermutation-middle lost b (c ∷ []))),
    λ x at. Contains-append_right (a ∷ b ∷ []) (lost ++ c ∷ []) x
        (Contains-append_left lost (c ∷ []) x at),
  )
  in_order (a ∷ b ∷ c ∷ y ∷ ys) z = absurd z.1.1.1

-- ---- all together
module _ {V D U F : Type 0} (old c new : Contents V D U F) (o turned : ℕ)
    (whole_old : IsMeshWithData old) (whole : IsMeshWithData c) (whole_new : IsMeshWithData new)
    (w : IsHub old.mesh o (suc (suc (suc turned)))) (tip : HasFreeTip (neighbour old.mesh o)
    (suc (suc (suc turned)))) (f : HasTurned old c o (suc (suc (suc turned))) turned)
    (g : FillsHole c new (origin c.mesh o) (neighbour c.mesh o)) where
  abbrev v : ℕ
  v = origin old.mesh o

  -- the neighbours that the vertex had
  abbrev n : ℕ → ℕ
  n = neighbour old.mesh o

  abbrev K : ℕ
  K = suc (suc (suc turned))

  first_is : neighbour c.mesh o 1 ≡ n (suc turned)
  first_is = f.ends_at 1 (omega arith) (omega (arith, f.sum))
      ∙ ap n (let e : turned + 1 ≡ suc turned = omega arith in e)

  next_is : neighbour c.mesh o 2 ≡ n (suc (suc turned))
  next_is = f.ends_at 2 (omega arith) (omega (arith, f.sum))
      ∙ ap n (let e : turned + 2 ≡ suc (suc turned) = omega arith in e)

  alone : IsAlone new.mesh v
  alone = subst (IsAlone new.mesh) f.start g.alone

  -- ---- edges
  edges_out : IsPermutation (filter (touches v) (full_edges c)) g.edges.0
      × IsPermutation (filter (misses v) (full_edges c)) (full_edges new)
  edges_out = sorted_out (touches v) (misses v) (λ x. refl) (full_edges c) g.edges.0
      (full_edges new) g.edges.2 (spokes_touch v (origin c.mesh o)
      (neighbour c.mesh o) g.edges.0 3 f.start g.edges.1) (edges_miss new v whole_new alone)

  last_three : AllZip Connects g.edges.0
      (joins v (n (suc (suc turned))) ∷ joins v (n (suc turned)) ∷ joins v (n 0) ∷ [])
  last_three = subst (λ (ps : List Ends). AllZip Connects g.edges.0 ps) (λ i. joins (f.start i)
      (next_is i) ∷ joins (f.start i) (first_is i) ∷ joins (f.start i) (f.tip i) ∷ []) g.edges.1

  all_edges : (all : List (FullEdge D U)) × AllZip Connects all (spokes_to v n K) × IsPermutation
      (f.lost ++ g.edges.0) all × ((x : FullEdge D U) → Contains f.lost x → Contains all x)
  all_edges = in_order v n turned f.lost f.lost_are g.edges.0 last_three

  old_edges : IsPermutation (full_edges old) (all_edges.0 ++ filter (misses v) (full_edges old))
  old_edges =
      let both = IsPermutation-filter_both (touches v) (misses v) (λ x. refl) (full_edges old) in
      let there = IsPermutation-trans _ _ _ f.touching (IsPermutation-trans _ _ _
      (IsPermutation-append_right f.lost _ _ edges_out.0) all_edges.2) in
      IsPermutation-trans _ _ _ both
      (IsPermutation-append_left (filter (misses v) (full_edges old)) _ _ there)

  -- ---- faces
  rest_misses : All (λ x. has_corner v x ≡ false) g.rest
  rest_misses = All-tail (λ x. has_corner v x ≡ false) g.made g.rest
      (All-permutation (λ x. has_corner v x ≡ false) _ _ g.is (faces_miss new v whole_new alone))

  lost_touch : All (λ x. has_corner v x ≡ true) g.lost
  lost_touch = between_touch v (origin c.mesh o) (neighbour c.mesh o) g.lost 3 f.start g.lost_are

  faces_out : IsPermutation (filter (has_corner v) (full_faces c)) g.lost
      × IsPermutation (filter (lacks_corner v) (full_faces c)) g.rest
  faces_out = sorted_out (has_corner v) (lacks_corner v) (λ x. refl)
      (full_faces c) g.lost g.rest g.was lost_touch rest_misses

  two_more : 0 < suc (suc turned)
  two_more = omega arith

  lost_round : List (FullFace F)
  lost_round = round_faces old o (suc (suc turned)) whole_old w two_more tip

  lost_round_are : AllZip HasCorners lost_round (faces_between v n K)
  unfolding lost_round
  lost_round_are = round_faces_are old o (suc (suc turned)) whole_old w two_more tip

  old_faces :
      IsPermutation (full_faces old) (lost_round ++ filter (lacks_corner v) (full_faces old))
  unfolding lost_round
  old_faces =
      let both =
      IsPermutation-filter_both (has_corner v) (lacks_corner v) (λ x. refl) (full_faces old) in
      IsPermutation-trans _ _ _ both (IsPermutation-append_left (filter (lacks_corner v)
      (full_faces old)) _ _ (faces_round old o (suc (suc turned)) whole_old w two_more tip))

  new_faces : IsPermutation (full_faces new)
      ((g.made ∷ f.faces) ++ filter (lacks_corner v) (full_faces old))
  new_faces = IsPermutation-trans _ _ _ g.is (IsPermutation-cons g.made _ _
      (IsPermutation-trans _ _ _ (IsPermutation-sym _ _ faces_out.1) f.lacking))

  made_corners : HasCorners g.made
      (record { first = n 0; second = n (suc turned); third = n (suc (suc turned)) })
  made_corners = subst (λ (t : Triangle). HasCorners g.made t)
      (λ i. record { first = f.tip i; second = first_is i; third = next_is i }) g.made_is

  -- what the round has
  in_round : (x : FullFace F) → Contains (filter (has_corner v) (full_faces old)) x
      → Contains lost_round x
  unfolding lost_round
  in_round x at =
      Contains-permutation _ _ x (faces_round old o (suc (suc turned)) whole_old w two_more tip) at

  made_former : (x : FullFace F) × Contains lost_round x × (g.made.value ≡ x.value)
  made_former =
      let x : FullFace F = g.former.0 in
      let d : FullFace F = no_face_of v old.outer in
      let at : Contains (full_faces c) x = Contains-permutation _ _ x (IsPermutation-sym _ _ g.was)
      (Contains-append_left g.lost g.rest x g.former.1) in
      let i : ℕ = at.0 in
      let read : get_or (full_faces c) i d ≡ x = get_or_default (full_faces c) i d x at.1 ∙ at.2 in
      let there : has_corner v (get_or (full_faces c) i d) ≡ true = ap (has_corner v) read
      ∙ All-contains (λ y. has_corner v y ≡ true) g.lost x lost_touch g.former.1 in
      let fs : c.faces ≡ old.faces = ap (λ (y : Contents V D U F). y.faces) f.contents in
      let long = count_faces c.mesh c.faces whole.fits.faces_fit in
      let long_old = count_faces old.mesh old.faces whole_old.fits.faces_fit in
      let counts : length c.faces ≡ length old.faces = ap length fs in
      let inside : i < length (full_faces old) = omega
      (arith, at.1, long, long_old, counts, whole.fits.faces_fit, whole_old.fits.faces_fit) in
      let y : FullFace F = get_or (full_faces old) i d in
      let value_is : x.value ≡ y.value =
      ap (λ (z : FullFace F). z.value) (sym read) ∙ value_at c whole i d at.1
      ∙ ap (λ xs. get_or xs i d.value) fs ∙ sym (value_at old whole_old i d inside) in (
        y,
        in_round y (Contains-filter (has_corner v) (full_faces old) y
            (Contains-get_or (full_faces old) i d inside) (f.corners i there)),
        g.former.2 ∙ value_is,
      )

  -- vertex v loses its edges and faces, and a fan of faces between its neighbours fills the hole
  pub hole_filled : FillsWithFan old new v n K
  hole_filled =
      let three_less : K - 3 ≡ turned = omega arith in
      let two_less : K - 2 ≡ suc turned = omega arith in
      record {
        contents = g.contents ∙ ap (λ (x : Contents V D U F). record x {
          mesh = new.mesh;
          directed = new.directed;
          undirected = new.undirected;
          faces = new.faces;
        }) f.contents;
        alone = alone;
        lost_edges = all_edges.0;
        lost_edges_are = all_edges.1;
        made_edges = f.made;
        made_edges_are = rw three_less f.made_are;
        former_edges = All-weaker (λ e. (x : FullEdge D U) × Contains f.lost x × HasDataOf e x)
            (λ e. (x : FullEdge D U) × Contains all_edges.0 x × HasDataOf e x)
            (λ e h. (h.0, all_edges.3 h.0 h.1, h.2)) f.made f.former;
        other_edges = filter (misses v) (full_edges old);
        edges_were = old_edges;
        edges_are = IsPermutation-trans _ _ _ (IsPermutation-sym _ _ edges_out.1) f.missing;
        lost_faces = lost_round;
        lost_faces_are = lost_round_are;
        made_faces = g.made ∷ f.faces;
        made_faces_are = rw two_less (made_corners, f.faces_are);
        former_faces = All-cons (λ x. (y : FullFace F) × Contains lost_round y
            × (x.value ≡ y.value)) g.made f.faces made_former
            (All-weaker (λ x. (y : FullFace F) × Contains (filter (has_corner v) (full_faces old)) y
            × (x.value ≡ y.value)) (λ x. (y : FullFace F) × Contains lost_round y × (x.value
            ≡ y.value)) (λ x h. (h.0, in_round h.0 h.1, h.2)) f.faces f.former_faces);
        other_faces = filter (lacks_corner v) (full_faces old);
        faces_were = old_faces;
        faces_are = new_faces;
        outer = λ h. g.outer h ∙ ap (λ x. total (along h) x +ℤ pos 0) f.outer;
        outline = λ one. g.outline (f.outline one);
      }

-- the same, for a count of edges
pub hole_filled_by : {V D U F : Type 0} {old c new : Contents V D U F} {o k turned : ℕ}
    → turned + 3 ≡ k → IsMeshWithData new → HasTurned old c o k turned
    → FillsHole c new (origin c.mesh o) (neighbour c.mesh o)
    → FillsWithFan old new (origin old.mesh o) (neighbour old.mesh o) k
hole_filled_by {old} {c} {new} {o} {k} {turned} is whole f g =
    let at : suc (suc (suc turned)) ≡ k = omega (arith, is) in
    let back : k ≡ suc (suc (suc turned)) = sym at in
    rw back (hole_filled old c new o turned f.was f.whole whole (rw back at f.round)
    (rw back at f.free) (rw back at f) g)

-- a fan of one face fills a hole of three edges
pub fan_of_three : {V D U F : Type 0} (old new : Contents V D U F) (v : ℕ) (n : ℕ → ℕ)
    → FillsWithFan old new v n 3 → FillsHole old new v n
fan_of_three {V} {D} {U} {F} old new v n f =
    let faces = one_face f.made_faces f.made_faces_are f.former_faces f.faces_are in
    record {
      contents = f.contents;
      alone = f.alone;
      edges = (
        f.lost_edges,
        f.lost_edges_are,
        IsPermutation-trans _ _ _ f.edges_were (IsPermutation-append_right f.lost_edges _ _
            (IsPermutation-sym _ _ (no_edge f.made_edges f.made_edges_are f.edges_are))),
      );
      lost = f.lost_faces;
      lost_are = f.lost_faces_are;
      made = faces.0;
      made_is = faces.1;
      former = faces.2;
      rest = f.other_faces;
      was = f.faces_were;
      is = faces.3;
      outer = f.outer;
      outline = f.outline;
    }
  where
    no_edge : (made : List (FullEdge D U)) → AllZip Connects made []
        → IsPermutation (full_edges new) (made ++ f.other_edges)
        → IsPermutation (full_edges new) f.other_edges
    no_edge [] z is = is
    no_edge (x ∷ xs) z is = absurd z

    one_face : (made : List (FullFace F))
        → AllZip HasCorners made (record { first = n 0; second = n 1; third = n 2 } ∷ [])
        → All (λ x. (g : FullFace F) × Contains f.lost_faces g × (x.value ≡ g.value)) made
        → IsPermutation (full_faces new) (made ++ f.other_faces)
        → (x : FullFace F) × HasCorners x (record { first = n 0; second = n 1; third = n 2 })
        × ((g : FullFace F) × Contains f.lost_faces g × (x.value ≡ g.value))
        × IsPermutation (full_faces new) (x ∷ f.other_faces)
    one_face [] z from is = absurd z
    one_face (x ∷ []) z from is = (
      x,
      z.0,
      All-head
          (λ y. (g : FullFace F) × Contains f.lost_faces g × (y.value ≡ g.value)) x [] from,
      is,
    )
    one_face (x ∷ y ∷ xs) z from is = absurd z.1
