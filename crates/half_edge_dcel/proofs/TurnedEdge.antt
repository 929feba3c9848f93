-- Edges of an inner vertex are turned away from it, one after the other, and what that makes of the
-- lists of edges and faces.
-- Notions: HasTurned; gone_edge, gone_between, come_edge, come_between, come_data, edges_lose,
-- edges_gain, come_face, come_corners, faces_gain, come_at, fewer_there, turned_none, value_at,
-- turned_next, turned_can, turned_wheel.
use Rattle.std.proofs.Common.{◌≡◌, ◌≢◌, ◌-◌, ◌/◌, ◌<◌, ◌≤◌, ◌∷◌, ◌∙◌, ◌+◌, [], ◌++◌}
use Rattle.std.proofs.Common.{ℕ, zero, suc, true, false, not, List, length, set, get_or, refl, sym}
use Rattle.std.proofs.Common.{ap, inl, inr, arith, subst}
use Rattle.std.specs.List.{filter, All, AllZip, Contains}
use Rattle.std.specs.List.Sorted.{IsPermutation}
use Rattle.std.proofs.lemmas.Bool.{cases_eq}
use Rattle.std.proofs.lemmas.List.{length-map, length-set, get_or-set_other}
use Rattle.std.proofs.lemmas.List.Sorted.{IsPermutation-trans, IsPermutation-refl}
use Rattle.std.proofs.lemmas.List.Sorted.{IsPermutation-cons, IsPermutation-append_right}
use Rattle.std.proofs.lemmas.List.Sorted.{IsPermutation-middle}
use Rattle.std.proofs.lemmas.List.Elements.{All-cons, All-nil, All-weaker, Contains-append_right}
use Rattle.std.proofs.lemmas.List.Elements.{Contains-get_or}
use Rattle.half_edge_links.specs.{along, AreSoundLinks, Ends, ends, face, FlipsTriangles, IsInner}
use Rattle.half_edge_links.specs.{IsWheel, KeepsOneOutline, KeepsOuter, Mesh, MovesEdge, neighbour}
use Rattle.half_edge_links.specs.{next, origin, outer_among, outline, prev, rev, spoke, Triangle}
use Rattle.half_edge_links.specs.{triangle_at, triangles, turn}
use Rattle.half_edge_links.proofs.{count_ends, IsTriangle, rev-rev, spoke_at}
use Rattle.half_edge_links.proofs.{Removing.Conditions.faces_apart, triangle_at as loop_at}
use Rattle.half_edge_dcel.specs.{Connects, Contents, full_edges, full_edges_of, full_faces}
use Rattle.half_edge_dcel.specs.{full_faces_of, FullEdge, FullFace, HasCorners, HasFreeTip, IsHub}
use Rattle.half_edge_dcel.specs.{IsMeshWithData, joins, spokes_to}
use Rattle.half_edge_dcel.specs.Hole.{CanTurnAway, fan_edges, fan_faces, HasDataOf, TurnsAway}
use Rattle.half_edge_dcel.proofs.Filtered.{Contains-filter, filter_gains, filter_loses}
use Rattle.half_edge_dcel.proofs.{Filtered.filter_stays, Outlines.listed, Outlines.passed_over}
use Rattle.half_edge_dcel.proofs.Hubs.{count_faces, ends_after, hub_after, no_face_of, start_after}
use Rattle.{half_edge_dcel.proofs.Hubs.tip_after, half_edge_dcel.proofs.TwoEdges.item_at}
use Rattle.half_edge_dcel.proofs.TakenEdges.{between, listed_face, named_corners}
use Rattle.half_edge_dcel.proofs.TakenOut.{get_or-full_faces, length-full_edges}
use Rattle.half_edge_dcel.proofs.Touching.{along_between, corner_missing, corner_there}
use Rattle.half_edge_dcel.proofs.Touching.{full_edges-set, full_faces-set, has_corner, lacks_corner}
use Rattle.half_edge_dcel.proofs.Touching.{misses, touches, touches_it, touches_not}
use Rattle.half_edge_dcel.proofs.Touching.{with_other_corners, with_other_ends}

other_way : {D U : Type 0} (e : FullEdge D U) (a b : ℕ) → Connects e (joins a b)
    → Connects e (joins b a)
other_way e a b (inl q) = inr q
other_way e a b (inr q) = inl q

module _ {V D U F : Type 0} (c new : Contents V D U F) (o l v tip_end first_end next_end : ℕ)
    (whole : IsMeshWithData c) (w : IsHub c.mesh o (suc l)) (some : 1 < l) (v_is : origin c.mesh o
    ≡ v) (tip_is : neighbour c.mesh o 0 ≡ tip_end) (first_is : neighbour c.mesh o 1 ≡ first_end)
    (next_is : neighbour c.mesh o 2 ≡ next_end) (same : new ≡ record c { mesh = new.mesh }) where
  abbrev m : Mesh
  m = c.mesh

  abbrev e : ℕ
  e = turn m o

  -- the links fit together
  s : AreSoundLinks m
  s = whole.valid.sound

  -- each edge of the round is one of the mesh and starts at the vertex
  at : (i : ℕ) → (spoke m o i < length m.half_edges) × (origin m (spoke m o i) ≡ v)
  at i = let a = spoke_at m o s w.within i in (a.0, a.1 ∙ v_is)

  off_at : (i : ℕ) → neighbour m o i ≢ v
  off_at i q = whole.valid.apart (spoke m o i) (at i).0 ((at i).1 ∙ sym q)

  -- the three edges of the first face
  t : IsTriangle m o
  t = loop_at m o s w.within (w.inner 0 (omega arith))

  -- the other side of the edge that is turned comes before the first edge
  twin : rev e ≡ prev m o
  twin = rev-rev (prev m o)

  -- the corners round the edge
  after : origin m (prev m e) ≡ next_end
  after = ap (origin m) (sym (rev-rev (prev m e))) ∙ next_is

  before : origin m (prev m (rev e)) ≡ tip_end
  before = ap (λ h. origin m (prev m h)) twin ∙ ap (origin m) t.prev_prev
      ∙ (s.edges o w.within).starts ∙ tip_is

  -- the edge after that side starts at the vertex
  back : origin m (next m (rev e)) ≡ v
  back = ap (λ h. origin m (next m h)) twin ∙ ap (origin m) t.next_prev ∙ v_is

  tip_off : tip_end ≢ v
  tip_off q = off_at 0 (tip_is ∙ q)

  next_off : next_end ≢ v
  next_off q = off_at 2 (next_is ∙ q)

  -- ---- edges
  edge_in : e / 2 < length (full_edges c)
  edge_in =
      let n = count_ends m s in
      let long = length-full_edges (ends m) c.undirected c.directed (omega (
        arith,
        n,
        whole.fits.undirected_fit,
      )) (omega (arith, n, whole.fits.directed_fit)) in
      let e_in = (at 1).0 in
      let even = s.even in
      omega (arith, long, n, e_in, even)

  -- the edge before it is turned
  pub gone_edge : FullEdge D U
  gone_edge = (item_at (full_edges c) (e / 2) edge_in).0

  gone_is : gone_edge ≡ get_or (full_edges c) (e / 2) gone_edge
  unfolding gone_edge
  gone_is = (item_at (full_edges c) (e / 2) edge_in).1

  -- before the turn the edge joins the vertex and the second neighbour
  pub gone_between : Connects gone_edge (joins v first_end)
  gone_between =
      let b = between m m c.undirected c.undirected c.directed c.directed e s
      whole.fits.directed_fit whole.fits.undirected_fit (at 1).0 gone_edge gone_is in
      let is : joins (origin m e) (origin m (rev e)) ≡ joins v first_end =
      λ i. joins ((at 1).1 i) (first_is i) in
      subst (Connects gone_edge) is b

  -- the edge after it was turned
  pub come_edge : FullEdge D U
  come_edge = with_other_ends gone_edge (along e (origin m (prev m e)) (origin m (prev m (rev e))))

  -- after the turn the edge joins the first neighbour and the third one
  pub come_between : Connects come_edge (joins tip_end next_end)
  unfolding come_edge
  come_between =
      let is : joins (origin m (prev m e)) (origin m (prev m (rev e))) ≡ joins next_end tip_end =
      λ i. joins (after i) (before i) in
      other_way come_edge next_end tip_end (subst (Connects come_edge) is
      (along_between gone_edge e (origin m (prev m e)) (origin m (prev m (rev e)))))

  -- after the turn the edge has all data that it had before
  pub come_data : HasDataOf come_edge gone_edge
  unfolding come_edge with_other_ends
  come_data = refl

  module _
      (ends_are : MovesEdge m new.mesh e (origin m (prev m e)) (origin m (prev m (rev e)))) where
    edges_are : full_edges new ≡ set (full_edges c) (e / 2) come_edge
    unfolding come_edge
    edges_are =
        let n = count_ends m s in
        let even = s.even in
        let e_in = (at 1).0 in
        let t : Ends = along e (origin m (prev m e)) (origin m (prev m (rev e))) in
        (λ i. full_edges_of (ends_are i) ((same i).undirected) ((same i).directed))
        ∙ full_edges-set (ends m) c.undirected c.directed (e / 2) t gone_edge
        (omega (arith, n, whole.fits.undirected_fit))
        (omega (arith, n, whole.fits.directed_fit)) (omega (arith, n, e_in, even))
        ∙ ap (λ x. set (full_edges c) (e / 2) (with_other_ends x t)) (sym gone_is)

    -- the edges at the vertex are the former ones but for the one that was turned
    pub edges_lose : IsPermutation (filter (touches v) (full_edges c))
        (gone_edge ∷ filter (touches v) (full_edges new))
    edges_lose =
        let p = filter_loses (touches v) (full_edges c) (e / 2) come_edge gone_edge edge_in
        (ap (touches v) (sym gone_is)
        ∙ touches_it v gone_edge (joins v first_end) gone_between (inl refl))
        (touches_not v come_edge (joins tip_end next_end) come_between tip_off next_off) in
        rw (edges_are, gone_is) p

    -- the edges that miss the vertex are the former ones and the one that was turned
    pub edges_gain : IsPermutation (filter (misses v) (full_edges new))
        (come_edge ∷ filter (misses v) (full_edges c))
    edges_gain =
        let p = filter_gains (misses v) (full_edges c) (e / 2) come_edge gone_edge edge_in
        (ap (misses v) (sym gone_is)
        ∙ ap not (touches_it v gone_edge (joins v first_end) gone_between (inl refl))) (ap not
        (touches_not v come_edge (joins tip_end next_end) come_between tip_off next_off)) in
        rw edges_are p

  -- ---- faces
  module _ (d : FullFace F) (faces_are : FlipsTriangles m new.mesh e) where
    abbrev a : ℕ
    a = face m e - 1

    abbrev b : ℕ
    b = face m (rev e) - 1

    -- the corners of the face on the left of the turned edge
    abbrev ta : Triangle
    ta = record {
      first = origin m (prev m e);
      second = origin m (prev m (rev e));
      third = origin m (next m e);
    }

    -- the corners of the face on its other side
    abbrev tb : Triangle
    tb = record {
      first = origin m (prev m (rev e));
      second = origin m (prev m e);
      third = origin m (next m (rev e));
    }

    twin_face : face m (rev e) ≡ face m o
    twin_face = ap (face m) twin ∙ t.face_prev

    inner_e : IsInner m (face m e)
    inner_e = (w.inner 1 (omega (arith, some)), (s.edges e (at 1).0).face_in)

    inner_o : IsInner m (face m o)
    inner_o = (w.inner 0 (omega arith), (s.edges o w.within).face_in)

    inner_twin : IsInner m (face m (rev e))
    inner_twin = rw twin_face inner_o

    -- there are as many faces with data as inner faces
    long : length (full_faces c) ≡ length m.face_edges
    long = count_faces m c.faces whole.fits.faces_fit

    -- the face on the left of e is one of them
    a_in : a < length (full_faces c)
    a_in = omega (arith, long, inner_e.0, inner_e.1)

    -- that face
    was : FullFace F
    was = get_or (full_faces c) a d

    -- the face that leaves the vertex
    pub come_face : FullFace F
    come_face = with_other_corners was ta

    middle : List (FullFace F)
    middle = set (full_faces c) a come_face

    turned_face : FullFace F
    turned_face = with_other_corners (get_or middle b d) tb

    list_is : full_faces new ≡ set middle b turned_face
    unfolding middle turned_face come_face was
    list_is =
        let n = length-map m.face_edges (triangle_at m) in
        let fit = whole.fits.faces_fit in
        let one = full_faces-set (triangles m) c.faces a ta d (fit ∙ sym n)
        (omega (arith, n, inner_e.0, inner_e.1)) in
        let two = full_faces-set (set (triangles m) a ta) c.faces b tb d
        (fit ∙ sym n ∙ sym (length-set (triangles m) a ta))
        (rw length-set (omega (arith, n, inner_twin.0, inner_twin.1))) in
        (λ i. full_faces_of (faces_are i) ((same i).faces)) ∙ two
        ∙ (λ i. set (one i) b (with_other_corners (get_or (one i) b d) tb))

    was_there : has_corner v was ≡ true
    unfolding was
    was_there = corner_there v was (triangle_at m e)
        (named_corners m e was s (at 1).0 inner_e.0 (ap (λ (x : FullFace F). x.corners)
        (listed_face m c.faces (face m e) whole.fits.faces_fit inner_e d))) (at 1).1

    other_there : has_corner v (get_or (full_faces c) b d) ≡ true
    other_there =
        let at_o = corner_there v (get_or (full_faces c) (face m o - 1) d) (triangle_at m o)
        (named_corners m o (get_or (full_faces c) (face m o - 1) d) s w.within inner_o.0
        (ap (λ (x : FullFace F). x.corners)
        (listed_face m c.faces (face m o) whole.fits.faces_fit inner_o d))) v_is in
        ap (λ f. has_corner v (get_or (full_faces c) (f - 1) d)) twin_face ∙ at_o

    -- the face that leaves the vertex has the first three neighbours as corners
    pub come_corners :
        HasCorners come_face (record { first = tip_end; second = first_end; third = next_end })
    unfolding come_face with_other_corners
    come_corners = inr (inr (λ i. record {
      first = after i;
      second = before i;
      third = ((s.edges e (at 1).0).starts ∙ first_is) i;
    }))

    come_off : has_corner v come_face ≡ false
    come_off = corner_missing v come_face
        (record { first = tip_end; second = first_end; third = next_end }) come_corners tip_off
        (λ q. off_at 1 (first_is ∙ q)) next_off

    turned_there : has_corner v turned_face ≡ true
    unfolding turned_face with_other_corners
    turned_there = corner_there v turned_face (record {
      first = origin m (next m (rev e));
      second = origin m (prev m (rev e));
      third = origin m (prev m e);
    }) (inr (inl refl)) back

    -- the faces without the vertex as a corner are the former ones and the one that leaves it
    pub faces_gain : IsPermutation (filter (lacks_corner v) (full_faces new))
        (come_face ∷ filter (lacks_corner v) (full_faces c))
    unfolding middle was
    faces_gain =
        let one = filter_gains (lacks_corner v) (full_faces c) a come_face d a_in (ap not was_there)
        (ap not come_off) in
        let kept = get_or-set_other (full_faces c) a b come_face d (λ q. faces_apart m e whole.valid
        (at 1).0 inner_e.0 (omega (arith, q, inner_e.0, inner_twin.0))) in
        let two = filter_stays (lacks_corner v) middle b turned_face d
        (rw length-set (omega (arith, long, inner_twin.0, inner_twin.1)))
        (ap not (ap (has_corner v) kept ∙ other_there)) (ap not turned_there) in
        rw list_is (IsPermutation-trans _ _ _ two one)

    -- its data are those of a face at the vertex
    pub come_at : (a < length (full_faces c)) × (has_corner v (get_or (full_faces c) a d) ≡ true)
        × (come_face.value ≡ (get_or (full_faces c) a d).value)
    unfolding come_face was with_other_corners
    come_at = (a_in, was_there, refl)

    -- no face has got the vertex as a corner
    pub fewer_there : (i : ℕ) → has_corner v (get_or (full_faces new) i d) ≡ true
        → has_corner v (get_or (full_faces c) i d) ≡ true
    unfolding middle was
    fewer_there i is =
        elim (cases_eq i a) [
          | inl q ↦ ap (λ k. has_corner v (get_or (full_faces c) k d)) q ∙ was_there
          | inr p ↦ elim (cases_eq i b) [
            | inl q ↦ ap (λ k. has_corner v (get_or (full_faces c) k d)) q ∙ other_there
            | inr r ↦
                let kept = get_or-set_other middle b i turned_face d r
                ∙ get_or-set_other (full_faces c) a i come_face d p in
                ap (has_corner v) (sym kept ∙ ap (λ xs. get_or xs i d) (sym list_is)) ∙ is
          ]
        ]

-- ---- the outer edges stay
same_among : (m new : Mesh) → KeepsOuter m new → (k : ℕ) → k ≤ length m.half_edges
    → k ≤ length new.half_edges → outer_among new k ≡ outer_among m k
same_among m new o zero p q = refl
same_among m new o (suc k) p q =
    let rest = same_among m new o k (omega (arith, p)) (omega (arith, q)) in
    elim (cases_eq (face m k) 0) [
      | inl is ↦
          let now = o.kept k (origin m k) (origin m (rev k))
          (record { within = omega (arith, p); outer = is; source = refl; target = refl }) in
          listed new k now.outer
          ∙ (λ i. record { source = now.source i; target = now.target i } ∷ rest i)
          ∙ sym (listed m k is)
      | inr off ↦
          let still : face new k ≢ 0 =
          λ z. off (o.only k (origin new k) (origin new (rev k)) (record
          { within = omega (arith, q); outer = z; source = refl; target = refl })).outer in
          passed_over new k (omega (arith, still)) ∙ rest
          ∙ sym (passed_over m k (omega (arith, off)))
    ]

-- where the outer edges stay and there are as many directed edges, the list of outer edges is the
-- same
same_outline : (m new : Mesh) → KeepsOuter m new → length new.half_edges ≡ length m.half_edges
    → outline new ≡ outline m
same_outline m new o count = ap (outer_among new) count
    ∙ same_among m new o (length m.half_edges) (omega arith) (omega (arith, count))

-- ---- several edges
-- a vertex with k faces round it from edge o on has lost so many of its edges, from the second on,
-- and their faces with the vertex; those that are left follow each other as before
pub record HasTurned {V D U F : Type 0} (old c : Contents V D U F) (o k turned : ℕ) : Type 0 where
  pub was : IsMeshWithData old
  pub whole : IsMeshWithData c
  pub round : IsHub old.mesh o k
  pub free : HasFreeTip (neighbour old.mesh o) k
  pub left : ℕ
  pub sum : turned + left ≡ k
  pub hub : IsHub c.mesh o left
  pub start : origin c.mesh o ≡ origin old.mesh o
  pub tip : neighbour c.mesh o 0 ≡ neighbour old.mesh o 0
  pub ends_at : (i : ℕ) → 0 < i → i ≤ left
      → neighbour c.mesh o i ≡ neighbour old.mesh o (turned + i)
  pub contents : c ≡ record old { mesh = c.mesh }
  pub outer : outline c.mesh ≡ outline old.mesh
  pub outline : KeepsOneOutline old.mesh c.mesh
  pub lost : List (FullEdge D U)
  pub lost_are : AllZip Connects lost
      (spokes_to (origin old.mesh o) (λ i. neighbour old.mesh o (suc i)) turned)
  pub touching : IsPermutation (filter (touches (origin old.mesh o)) (full_edges old))
      (lost ++ filter (touches (origin old.mesh o)) (full_edges c))
  pub made : List (FullEdge D U)
  pub made_are : AllZip Connects made (fan_edges (neighbour old.mesh o) turned)
  pub missing : IsPermutation (filter (misses (origin old.mesh o)) (full_edges c))
      (made ++ filter (misses (origin old.mesh o)) (full_edges old))
  pub former : All (λ e. (f : FullEdge D U) × Contains lost f × HasDataOf e f) made
  pub faces : List (FullFace F)
  pub faces_are : AllZip HasCorners faces (fan_faces (neighbour old.mesh o) turned)
  pub lacking : IsPermutation (filter (lacks_corner (origin old.mesh o)) (full_faces c))
      (faces ++ filter (lacks_corner (origin old.mesh o)) (full_faces old))
  pub former_faces : All (λ f. (g : FullFace F) × Contains
      (filter (has_corner (origin old.mesh o)) (full_faces old)) g × (f.value ≡ g.value)) faces
  pub corners : (i : ℕ) → has_corner (origin old.mesh o)
      (get_or (full_faces c) i (no_face_of (origin old.mesh o) old.outer)) ≡ true
      → has_corner (origin old.mesh o)
      (get_or (full_faces old) i (no_face_of (origin old.mesh o) old.outer)) ≡ true

-- before the first step no edge is turned away from the vertex
pub turned_none : {V D U F : Type 0} {c : Contents V D U F} {o k : ℕ} → IsMeshWithData c
    → IsHub c.mesh o k → HasFreeTip (neighbour c.mesh o) k → HasTurned c c o k 0
turned_none {c} {o} {k} whole w free = record {
  was = whole;
  whole = whole;
  round = w;
  free = free;
  left = k;
  sum = omega arith;
  hub = w;
  start = refl;
  tip = refl;
  ends_at = λ i some less. ap (neighbour c.mesh o) (let e : i ≡ 0 + i = omega arith in e);
  contents = refl;
  outer = refl;
  outline = λ one. one;
  lost = [];
  lost_are = tt;
  touching = IsPermutation-refl _;
  made = [];
  made_are = tt;
  missing = IsPermutation-refl _;
  former = All-nil _;
  faces = [];
  faces_are = tt;
  lacking = IsPermutation-refl _;
  former_faces = All-nil _;
  corners = λ i is. is;
}

-- the data of the faces are those of the list
pub value_at : {V D U F : Type 0} (c : Contents V D U F) → IsMeshWithData c
    → (i : ℕ) (d : FullFace F) → i < length (full_faces c)
    → (get_or (full_faces c) i d).value ≡ get_or c.faces i d.value
value_at {V} {D} {U} {F} c whole i d within =
    let n = length-map c.mesh.face_edges (triangle_at c.mesh) in
    let long = count_faces c.mesh c.faces whole.fits.faces_fit in
    ap (λ (x : FullFace F). x.value) (get_or-full_faces (triangles c.mesh) c.faces i d.corners
    d.value (whole.fits.faces_fit ∙ sym n) (omega (arith, within, long, n)) d)

-- one more item in front, and one fewer behind
moves_over : {X : Type 0} (xs ys zs ws : List X) (x : X) → IsPermutation xs (ys ++ zs)
    → IsPermutation zs (x ∷ ws) → IsPermutation xs ((x ∷ ys) ++ ws)
moves_over xs ys zs ws x p q = IsPermutation-trans _ _ _ p
    (IsPermutation-trans _ _ _ (IsPermutation-append_right ys _ _ q) (IsPermutation-middle ys x ws))

grows_by : {X : Type 0} (xs ys zs ws : List X) (x : X) → IsPermutation xs (x ∷ ys)
    → IsPermutation ys (zs ++ ws) → IsPermutation xs ((x ∷ zs) ++ ws)
grows_by xs ys zs ws x p q = IsPermutation-trans _ _ _ p (IsPermutation-cons x _ _ q)

module _ {V D U F : Type 0} {old c : Contents V D U F} {o k turned : ℕ}
    (f : HasTurned old c o k turned) (more : turned + 3 < k) where
  abbrev v : ℕ
  v = origin old.mesh o

  -- the neighbours that the vertex had
  abbrev n : ℕ → ℕ
  n = neighbour old.mesh o

  abbrev l : ℕ
  l = f.left - 1

  left_is : f.left ≡ suc l
  left_is = omega (arith, f.sum, more)

  -- more than three edges are left
  many : 2 < l
  many = omega (arith, f.sum, more)

  -- the vertex is still a hub, with l + 1 faces
  w : IsHub c.mesh o (suc l)
  w = rw left_is at f.hub

  end_at : (i j : ℕ) → 0 < i → i ≤ suc l → turned + i ≡ j → neighbour c.mesh o i ≡ n j
  end_at i j some less is = f.ends_at i some (rw left_is less) ∙ ap n is

  -- the first neighbour is still none of those that it gets an edge to
  free : HasFreeTip (neighbour c.mesh o) (suc l)
  free i some less q =
      f.free (turned + i) (omega (arith, some)) (omega (arith, less, f.sum, left_is))
      (sym (end_at i (turned + i) (omega (arith, some)) (omega (arith, less)) refl) ∙ q ∙ f.tip)

  first_is : neighbour c.mesh o 1 ≡ n (suc turned)
  first_is = end_at 1 (suc turned) (omega arith) (omega (arith, many)) (omega arith)

  next_is : neighbour c.mesh o 2 ≡ n (suc (suc turned))
  next_is = end_at 2 (suc (suc turned)) (omega arith) (omega (arith, many)) (omega arith)

  module _ {new : Contents V D U F} (t : TurnsAway c new o) where
    -- a face to read where a list has none
    abbrev d : FullFace F
    d = no_face_of v old.outer

    -- the edge that the turn takes away from the vertex, with its data
    gone : FullEdge D U
    gone = gone_edge c new o l v (n 0) (n (suc turned)) (n (suc (suc turned))) f.whole w
        (omega (arith, many)) f.start f.tip first_is next_is t.contents

    -- the edge that it becomes
    come : FullEdge D U
    come = come_edge c new o l v (n 0) (n (suc turned)) (n (suc (suc turned))) f.whole w
        (omega (arith, many)) f.start f.tip first_is next_is t.contents

    come_f : FullFace F
    come_f = come_face c new o l v (n 0) (n (suc turned)) (n (suc (suc turned))) f.whole w
        (omega (arith, many)) f.start f.tip first_is next_is t.contents d t.triangles

    come_f_former : (g : FullFace F) × Contains (filter (has_corner v) (full_faces old)) g
        × (come_f.value ≡ g.value)
    unfolding come_f
    come_f_former =
        let a : ℕ = face c.mesh (turn c.mesh o) - 1 in
        let at = come_at c new o l v (n 0) (n (suc turned)) (n (suc (suc turned))) f.whole w
        (omega (arith, many)) f.start f.tip first_is next_is t.contents d t.triangles in
        let fs : c.faces ≡ old.faces = ap (λ (x : Contents V D U F). x.faces) f.contents in
        let long = count_faces c.mesh c.faces f.whole.fits.faces_fit in
        let long_old = count_faces old.mesh old.faces f.was.fits.faces_fit in
        let counts : length c.faces ≡ length old.faces = ap length fs in
        let inside : a < length (full_faces old) = omega
        (arith, at.0, long, long_old, counts, f.whole.fits.faces_fit, f.was.fits.faces_fit) in
        let value_is = at.2 ∙ value_at c f.whole a d at.0 ∙ ap (λ xs. get_or xs a d.value) fs
        ∙ sym (value_at old f.was a d inside) in (
          get_or (full_faces old) a d,
          Contains-filter (has_corner v) (full_faces old) _
              (Contains-get_or (full_faces old) a d inside) (f.corners a at.1),
          value_is,
        )

    -- for the next count of a loop
    pub turned_next : {next_turned : ℕ} → next_turned ≡ suc turned
        → HasTurned old new o k next_turned
    unfolding gone come come_f
    turned_next counted = rw counted (record {
      was = f.was;
      whole = t.whole;
      round = f.round;
      free = f.free;
      left = l;
      sum = omega (arith, f.sum, left_is);
      hub = hub_after c.mesh o l f.whole.valid w (omega (arith, many)) free new.mesh t.flips many;
      start = start_after c.mesh o l f.whole.valid w (omega (arith, many)) free new.mesh t.flips
          many ∙ f.start;
      tip =
          tip_after c.mesh o l f.whole.valid w (omega (arith, many)) free new.mesh t.flips many
          ∙ f.tip;
      ends_at = λ i some less. ends_after c.mesh o l f.whole.valid w
          (omega (arith, many)) free new.mesh t.flips many i some less
          ∙ end_at (suc i) (suc turned + i) (omega arith) (omega (arith, less)) (omega arith);
      contents =
          t.contents ∙ ap (λ (x : Contents V D U F). record x { mesh = new.mesh }) f.contents;
      outer = same_outline c.mesh new.mesh t.outer t.flips.edge_count ∙ f.outer;
      outline = λ one. t.outline (f.outline one);
      lost = gone ∷ f.lost;
      lost_are = (
        gone_between c new o l v (n 0) (n (suc turned)) (n (suc (suc turned))) f.whole w
            (omega (arith, many)) f.start f.tip first_is next_is t.contents,
        f.lost_are,
      );
      touching = moves_over _ f.lost _ _ gone f.touching
          (edges_lose c new o l v (n 0) (n (suc turned)) (n (suc (suc turned))) f.whole w
          (omega (arith, many)) f.start f.tip first_is next_is t.contents t.ends);
      made = come ∷ f.made;
      made_are = (
        come_between c new o l v (n 0) (n (suc turned)) (n (suc (suc turned))) f.whole w
            (omega (arith, many)) f.start f.tip first_is next_is t.contents,
        f.made_are,
      );
      missing = grows_by _ _ f.made _ come
          (edges_gain c new o l v (n 0) (n (suc turned)) (n (suc (suc turned))) f.whole w
          (omega (arith, many)) f.start f.tip first_is next_is t.contents t.ends) f.missing;
      former = All-cons
          (λ e. (x : FullEdge D U) × Contains (gone ∷ f.lost) x × HasDataOf e x) come f.made (
            gone,
            (0, omega arith, refl),
            come_data c new o l v (n 0) (n (suc turned)) (n
                (suc (suc turned))) f.whole w
                (omega (arith, many)) f.start f.tip first_is next_is t.contents,
          )
          (All-weaker (λ e. (x : FullEdge D U) × Contains f.lost x × HasDataOf e x)
          (λ e. (x : FullEdge D U) × Contains (gone ∷ f.lost) x × HasDataOf e x) (λ e h. (
            h.0,
            Contains-append_right (gone ∷ []) f.lost h.0 h.1,
            h.2,
          )) f.made f.former);
      faces = come_f ∷ f.faces;
      faces_are = (
        come_corners c new o l v (n 0) (n (suc turned)) (n (suc (suc turned))) f.whole w
            (omega (arith, many)) f.start f.tip first_is next_is t.contents d t.triangles,
        f.faces_are,
      );
      lacking = grows_by _ _ f.faces _ come_f
          (faces_gain c new o l v (n 0) (n (suc turned)) (n (suc (suc turned))) f.whole w
          (omega (arith, many)) f.start f.tip first_is next_is t.contents d t.triangles) f.lacking;
      former_faces =
          All-cons (λ x. (g : FullFace F) × Contains (filter (has_corner v) (full_faces old)) g
          × (x.value ≡ g.value)) come_f f.faces come_f_former f.former_faces;
      corners =
          λ i is. f.corners i (fewer_there c new o l v (n 0) (n (suc turned)) (n (suc (suc turned)))
          f.whole w (omega (arith, many)) f.start f.tip first_is next_is t.contents d t.triangles i
          is);
    })

-- ---- what the steps ask for
module _ {V D U F : Type 0} {old c : Contents V D U F} {o k turned : ℕ}
    (f : HasTurned old c o k turned) where
  -- as long as at least three edges are left, the first one has an inner face
  turned_first : turned + 3 ≤ k → 0 < face c.mesh o
  turned_first more = f.hub.inner 0 (omega (arith, f.sum, more))

  -- as long as at least three edges are left, the second one has an inner face
  turned_second : turned + 3 ≤ k → 0 < face c.mesh (turn c.mesh o)
  turned_second more = f.hub.inner 1 (omega (arith, f.sum, more))

  -- as long as more than three edges are left, the second one can be turned away
  pub turned_can : turned + 3 < k → CanTurnAway c.mesh o
  turned_can more = record {
    within = f.hub.within;
    before = turned_first (omega (arith, more));
    behind = turned_second (omega (arith, more));
    corners = λ q. f.free (turned + 2) (omega arith) (omega (arith, more))
        (sym (f.ends_at 2 (omega arith) (omega (arith, f.sum, more))) ∙ q ∙ f.tip);
  }

  -- once three edges are left, the vertex has three faces round it
  pub turned_wheel : turned + 3 ≡ k → IsWheel c.mesh o
  turned_wheel last = record {
    within = f.hub.within;
    first_inner = turned_first (omega (arith, last));
    second_inner = turned_second (omega (arith, last));
    third_inner = f.hub.inner 2 (omega (arith, f.sum, last));
    round = ap (spoke c.mesh o) (let e : 3 ≡ f.left = omega (arith, f.sum, last) in e)
        ∙ f.hub.round;
  }
