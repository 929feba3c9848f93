-- The ends of the edges, the outer edges and the corners of the faces after a removal.
-- Lemmas: removes_triangle, ends_opened, ends_loop_closed, ends_at, count_ends, removes_ends,
-- outer_left, removes_outer, opens_outer, closes_outer, peels_outer, peels_triangle, peels_ends,
-- moves_ends, moves_triangles, moves_outer.
use Rattle.std.proofs.Common.{◌≡◌, ◌≢◌, ◌⊎◌, ◌+◌, ◌-◌, ◌*◌, ◌/◌, ◌%◌, ◌<◌, [], ◌∷◌, ◌∙◌}
use Rattle.std.proofs.Common.{ℕ, List, length, get_or, map, refl, sym, ap, inl, inr, arith}
use Rattle.std.proofs.lemmas.Bool.{cases_eq}
use Rattle.std.proofs.lemmas.List.{same_lists, length-map, get_or-map}
use Rattle.std.specs.List.{swap_remove}
use Rattle.half_edge_links.specs.{after_removal, AreSoundLinks, ClosesLoop, Ends, ends, face}
use Rattle.half_edge_links.specs.{IsInner, IsOpenTriangle, IsOuterEdge, Mesh, moved, MovesVertex}
use Rattle.half_edge_links.specs.{next, no_ends, no_triangle, Opens, origin, origins, pair_moved}
use Rattle.half_edge_links.specs.{Peels, prev, Removes, rev, Triangle, triangle_at, triangles}
use Rattle.half_edge_links.specs.{Outline.paired, Taken.RemovesTriangle}
use Rattle.half_edge_links.specs.Taken.{ClosesLoopOuter, MovesEnds, MovesOuter, MovesTriangles}
use Rattle.half_edge_links.specs.Taken.{OpensOuter, PeelsOuter, RemovesEnds, RemovesOuter}
use Rattle.half_edge_links.proofs.{Lists.Cases.◌or_else◌, Sound.Ends.length-origins}
use Rattle.half_edge_links.proofs.Lists.Rev.{rev_within}
use Rattle.half_edge_links.proofs.{OuterLoop.Outer.same_outer, Removing.PeelLemmas.removable_opened}
use Rattle.half_edge_links.proofs.Removing.Conditions.{IsHullEdge, IsUnlinkable}
use Rattle.half_edge_links.proofs.Removing.FillSound.{pair_first, pair_other, pair_second}
use Rattle.half_edge_links.proofs.Removing.OpenSound.{get_or-swap_remove_other}
use Rattle.half_edge_links.proofs.Removing.OpenSound.{get_or-swap_remove_same, length-swap_remove}
use Rattle.half_edge_links.proofs.Removing.OpenSound.{sound_opened, swap_remove_default}
use Rattle.half_edge_links.proofs.Removing.ShrinkTriangles.{sides_removed, triangle_moved}
use Rattle.half_edge_links.proofs.Removing.ShrinkTriangles.{triangles_opened, triangles_peeled}
use Rattle.half_edge_links.proofs.Removing.Track.{face_at, IsLeft, last_pair, name_in, old_at}
use Rattle.half_edge_links.proofs.Removing.Track.{origin_at, pair_at, rev_at, side_left}
use Rattle.half_edge_links.proofs.Sound.Ends.{get_or-ends, get_or-origins, length-ends_twice}
use Rattle.half_edge_links.proofs.Sound.Triangles.{IsTriangle, same_loop, triangle_at as loop_at}

-- the corners of an inner face that is given to the outer one go, and the last face takes its index
pub removes_triangle : (m new : Mesh) (f : ℕ) → IsInner m f → Opens m new f
    → RemovesTriangle m new f
removes_triangle m new f inner o =
    let n = length-map m.face_edges (triangle_at m) in
    triangles_opened m new f o ∙ swap_remove_default (triangles m) (f - 1)
    (triangle_at m 0) no_triangle (omega (arith, n, inner.0, inner.1))

same_origins_ends : (m new : Mesh) → length new.half_edges ≡ length m.half_edges
    → ((k : ℕ) → k < length m.half_edges → origin new k ≡ origin m k) → ends new ≡ ends m
same_origins_ends m new count same =
    ap paired (same_lists (origins new) (origins m)
    (length-origins new ∙ count ∙ sym (length-origins m)) (λ k d within.
    let k_in : k < length m.half_edges = omega (arith, within, length-origins new, count) in
    get_or-origins new k d (omega (arith, k_in, count)) ∙ same k k_in
    ∙ sym (get_or-origins m k d k_in)))

-- no edge has other ends after a face is given to the outer one
pub ends_opened : (m new : Mesh) (f : ℕ) → Opens m new f → ends new ≡ ends m
ends_opened m new f o = same_origins_ends m new o.edge_count (λ k k_in. o.origin k)

-- no edge has other ends after a loop becomes a face
pub ends_loop_closed : (m new : Mesh) (h : ℕ) → ClosesLoop m new h → ends new ≡ ends m
ends_loop_closed m new h c = same_origins_ends m new c.edge_count (λ k k_in. c.origins k)

-- the two ends of each edge, by its index
pub ends_at : (m : Mesh) (k : ℕ) (d : Ends) → AreSoundLinks m → 2 * k + 1 < length m.half_edges
    → get_or (ends m) k d ≡ record { source = origin m (2 * k); target = origin m (2 * k + 1) }
ends_at m k d s = get_or-ends m k d

-- a sound mesh has two directed edges for each undirected one
pub count_ends : (m : Mesh) → AreSoundLinks m → 2 * length (ends m) ≡ length m.half_edges
count_ends m s = length-ends_twice m s

module _ (m new : Mesh) (e : ℕ) (s : AreSoundLinks m) (can : IsUnlinkable m e) (r : Removes m new e)
    (s' : AreSoundLinks new) where
  -- the ends of the edge go, and the last undirected edge takes its index
  pub removes_ends : RemovesEnds m new e
  removes_ends =
      let n = count_ends m s in
      let n' = count_ends new s' in
      let count = r.edge_count in
      same_lists (ends new) (swap_remove (ends m) (e / 2) no_ends)
      (omega (arith, n, n', count, length-swap_remove (ends m) (e / 2) no_ends)) (λ k d within.
      let second_in : 2 * k + 1 < length new.half_edges = omega (arith, within, n') in
      let a = (sides_removed m new e s can r (2 * k) (omega (arith, second_in))).0 in
      let b = (sides_removed m new e s can r (2 * k + 1) second_in).0 in
      let read = ends_at new k d s' second_in in
      elim (cases_eq k (e / 2)) [
        | inl is ↦
            let at_hole : 2 * k ≡ pair_at e = omega (arith, is) in
            let at_second : 2 * k + 1 ≡ (pair_at e) + 1 = omega (arith, is) in
            let j : ℕ = length (ends m) - 1 in
            let last_is : 2 * j ≡ last_pair m = omega (arith, n, can.within) in
            let last_second : 2 * j + 1 ≡ (last_pair m) + 1 = omega (arith, n, can.within) in
            let a' : origin new (2 * k) ≡ origin m (2 * j) =
            a ∙ ap (λ i. origin m (pair_moved (pair_at e) (last_pair m) i)) at_hole
            ∙ ap (origin m) (pair_first (pair_at e) (last_pair m) ∙ sym last_is) in
            let b' : origin new (2 * k + 1) ≡ origin m (2 * j + 1) =
            b ∙ ap (λ i. origin m (pair_moved (pair_at e) (last_pair m) i)) at_second
            ∙ ap (origin m) (pair_second (pair_at e) (last_pair m) ∙ sym last_second) in
            let was = ends_at m j d s (omega (arith, n, can.within)) in
            let fits : k + 1 < length (ends m) = omega (arith, n, second_in, count) in
            let there = ap (λ i. get_or (swap_remove (ends m) i no_ends) k d) (sym is)
            ∙ ap (λ xs. get_or xs k d)
            (swap_remove_default (ends m) k no_ends d (omega (arith, fits)))
            ∙ get_or-swap_remove_same (ends m) k d fits in
            read ∙ rw (a', b') refl ∙ sym was ∙ sym there
        | inr off ↦
            let off_first : 2 * k ≢ (pair_at e) = λ q. off (omega (arith, q)) in
            let off_second : 2 * k ≢ (pair_at e) + 1 = λ q. absurd (omega (arith, q)) in
            let off_third : 2 * k + 1 ≢ (pair_at e) = λ q. absurd (omega (arith, q)) in
            let off_fourth : 2 * k + 1 ≢ (pair_at e) + 1 = λ q. off (omega (arith, q)) in
            let a' : origin new (2 * k) ≡ origin m (2 * k) = a ∙ ap (origin m)
            (pair_other (pair_at e) (last_pair m) (2 * k) off_first off_second) in
            let b' : origin new (2 * k + 1) ≡ origin m (2 * k + 1) = b ∙ ap (origin m)
            (pair_other (pair_at e) (last_pair m) (2 * k + 1) off_third off_fourth) in
            let fits : k + 1 < length (ends m) = omega (arith, n, second_in, count) in
            let was = ends_at m k d s (omega (arith, second_in, count)) in
            let there = ap (λ xs. get_or xs k d)
            (swap_remove_default (ends m) (e / 2) no_ends d (omega (arith, fits)))
            ∙ get_or-swap_remove_other (ends m) (e / 2) k d fits off in
            read ∙ rw (a', b') refl ∙ sym was ∙ sym there
      ])

  -- an edge that is left, with its ends
  pub outer_left : (k a b : ℕ) → IsLeft m e k → IsOuterEdge m k a b
      → IsOuterEdge new (after_removal m e k) a b
  outer_left k a b l o = record {
    within = name_in m new e s can r k l;
    outer = face_at m new e s can r k l ∙ o.outer;
    source = origin_at m new e s can r k l ∙ o.source;
    target = ap (origin new) (rev_at m new e s can r k l)
        ∙ origin_at m new e s can r (rev k) (side_left m e k s l) ∙ o.target;
  }

  -- the other outer edges stay, under their new indexes
  pub removes_outer : RemovesOuter m new e
  removes_outer = record {
    kept =
        λ h a b o p q. outer_left h a b (record { within = o.within; other = p; other_side = q }) o;
    only = λ h a b o.
        let was = old_at m new e s can r h o.within in
        let k : ℕ = pair_moved (pair_at e) (last_pair m) h in
        let l = was.0 in
        let source : origin m k ≡ a =
        sym (origin_at m new e s can r k l) ∙ ap (origin new) was.1 ∙ o.source in
        let target : origin m (rev k) ≡ b =
        sym (origin_at m new e s can r (rev k) (side_left m e k s l)) ∙ ap (origin new)
        (sym (rev_at m new e s can r k l)) ∙ ap (λ j. origin new (rev j)) was.1 ∙ o.target in (
          k,
          l.other,
          l.other_side,
          record {
            within = l.within;
            outer = sym (face_at m new e s can r k l) ∙ ap (face new) was.1 ∙ o.outer;
            source = source;
            target = target;
          },
          was.1,
        );
  }

-- the edges of an inner face that is given to the outer one become outer, and no others
pub opens_outer : (m new : Mesh) (f : ℕ) → AreSoundLinks m → IsInner m f → Opens m new f
    → OpensOuter m new f
opens_outer m new f s inner o = record {
  kept = λ h a b was stays. same_outer m new h a b was (omega (arith, o.edge_count, was.within))
      (o.other h was.within (λ q. absurd (omega (arith, q, was.outer, inner.0)))
      (λ q. absurd (omega (arith, q, was.outer, inner.0, inner.1))))
      (o.origin h) (o.origin (rev h));
  made = λ h a b made. record {
    within = omega (arith, o.edge_count, made.0);
    outer = o.gone h made.0 made.1;
    source = o.origin h ∙ made.2;
    target = o.origin (rev h) ∙ made.3;
  };
  only = λ h a b now.
      let h_in : h < length m.half_edges = omega (arith, o.edge_count, now.within) in
      elim (cases_eq (face m h) f or_else cases_eq (face m h) (length m.face_edges)) [
        | inl is ↦
            inr (h_in, is, sym (o.origin h) ∙ now.source, sym (o.origin (rev h)) ∙ now.target)
        | inr (off, inl last) ↦ absurd (omega (arith, o.last h h_in last off, now.outer, inner.0))
        | inr (off, inr other) ↦ inl (
          same_outer new m h a b now h_in (sym (o.other h h_in off other)) (sym (o.origin h))
              (sym (o.origin (rev h))),
          λ none. none,
        )
      ];
}

-- the three edges of an open triangle that becomes a face are outer no more; the other outer edges
-- stay
pub closes_outer : (m new : Mesh) (h : ℕ) → IsOpenTriangle m h → ClosesLoop m new h
    → ClosesLoopOuter m new h
closes_outer m new h can c = record {
  kept = λ k a b was stays. same_outer m new k a b was (omega (arith, c.edge_count, was.within))
      (c.other k (λ q. stays (inl q)) (λ q. stays (inr (inl q))) (λ q. stays (inr (inr q))))
      (c.origins k) (c.origins (rev k));
  made = λ k a b none. absurd none;
  only = λ k a b now.
      let k_in : k < length m.half_edges = omega (arith, c.edge_count, now.within) in
      let off : (k ≡ h) ⊎ ((k ≡ next m h) ⊎ (k ≡ prev m h))
      → ⊥ = λ q. absurd (omega (arith, c.here k q, now.outer)) in
      inl (
        same_outer new m k a b now k_in
            (sym (c.other k (λ q. off (inl q)) (λ q. off (inr (inl q))) (λ q. off (inr (inr q)))))
            (sym (c.origins k)) (sym (c.origins (rev k))),
        off,
      );
}

-- where an edge of the hull is peeled off, the other two edges of its face become outer
pub peels_outer : (m new : Mesh) (h : ℕ) → AreSoundLinks m → IsHullEdge m h → Peels m new h
    → AreSoundLinks new → PeelsOuter m new h
peels_outer m new h s can p s' =
    let inner : IsInner m (face m h) = (can.inner, (s.edges h can.within).face_in) in
    let mid : Mesh = p.opened in
    let sm : AreSoundLinks mid = sound_opened m mid (face m h) s inner p.opens in
    let opened : OpensOuter m mid (face m h) = opens_outer m mid (face m h) s inner p.opens in
    let gone : RemovesOuter mid new h =
    removes_outer mid new h sm (removable_opened m mid h s can p.opens) p.removes s' in
    let t : IsTriangle m h = loop_at m h s can.within can.inner in
    let name : (k : ℕ) → after_removal mid h k ≡ after_removal m h k =
    λ k. ap (λ n. pair_moved (n - 2) (h - h % 2) k) p.opens.edge_count in
    let second : IsOuterEdge mid (next m h) (origin m (next m h)) (origin m (prev m h)) =
    opened.made (next m h) _ _ (
      t.next_in,
      t.face_next,
      refl,
      sym (s.edges _ t.next_in).starts ∙ ap (origin m) t.next_next,
    ) in
    let third : IsOuterEdge mid (prev m h) (origin m (prev m h)) (origin m h) =
    opened.made (prev m h) _ _ (
      t.prev_in,
      t.face_prev,
      refl,
      sym (s.edges _ t.prev_in).starts ∙ ap (origin m) t.next_prev,
    ) in
    let off : (k : ℕ) → face m k ≡ face m h
    → k ≢ rev h = λ k is q. absurd (omega (arith, can.inner, can.outer, is, ap (face m) q)) in
    record {
      kept = λ k a b o differs. rw (name k) at (gone.kept k a b (opened.kept k a b o (λ none. none))
          (λ q. absurd (omega (arith, can.inner, o.outer, ap (face m) q))) differs);
      second = rw (name (next m h)) at (gone.kept _ _ _ second t.next_differs (off _ t.face_next));
      third = rw (name (prev m h)) at (gone.kept _ _ _ third t.prev_differs (off _ t.face_prev));
      only = λ k a b o.
          let was = gone.only k a b o in (
            was.0,
            sym (name was.0) ∙ was.4,
            elim (opened.only was.0 a b was.3) [
              | inl old ↦ inr (inr (was.2, old.0))
              | inr made ↦ elim (same_loop m h was.0 s can.within made.0 can.inner made.1) [
                | inl is ↦ absurd (was.1 is)
                | inr b ↦ elim b [ inl is ↦ inl is | inr is ↦ inr (inl is) ]
              ]
            ],
          );
    }

-- where an edge of the hull is peeled off, the corners of its face go, and the last takes their
-- index
pub peels_triangle : (m new : Mesh) (h : ℕ) → AreSoundLinks m → IsHullEdge m h → Peels m new h
    → RemovesTriangle m new (face m h)
peels_triangle m new h s can p =
    let here = s.edges h can.within in
    let n = length-map m.face_edges (triangle_at m) in
    triangles_peeled m new h s can p ∙ swap_remove_default (triangles m) (face m h - 1)
    (triangle_at m 0) no_triangle (omega (arith, n, can.inner, here.face_in))

-- where an edge of the hull is peeled off, its ends go, and the last undirected edge takes its
-- index
pub peels_ends : (m new : Mesh) (h : ℕ) → AreSoundLinks m → IsHullEdge m h → Peels m new h
    → AreSoundLinks new → RemovesEnds m new h
peels_ends m new h s can p s' =
    let inner : IsInner m (face m h) = (can.inner, (s.edges h can.within).face_in) in
    let sm : AreSoundLinks p.opened = sound_opened m p.opened (face m h) s inner p.opens in
    removes_ends p.opened new h sm (removable_opened m p.opened h s can p.opens) p.removes s'
    ∙ ap (λ xs. swap_remove xs (h / 2) no_ends)
    (same_origins_ends m p.opened p.opens.edge_count (λ k k_in. p.opens.origin k))

paired-map : (f : ℕ → ℕ) (xs : List ℕ) → paired (map f xs)
    ≡ map (λ (t : Ends). record { source = f t.source; target = f t.target }) (paired xs)
paired-map f [] = refl
paired-map f (a ∷ []) = refl
paired-map f (a ∷ b ∷ rest) =
    ap (λ (q : List Ends). record { source = f a; target = f b } ∷ q) (paired-map f rest)

module _ (m new : Mesh) (v : ℕ) (s : AreSoundLinks m) (c : MovesVertex m new v) where
  -- the new index of a vertex
  abbrev to : ℕ → ℕ
  to k = moved (length m.out_edges - 1) v k

  -- the ends of the edges are the former ones, with v as the name of the last vertex
  pub moves_ends : MovesEnds m new v
  moves_ends =
      let n = length-origins m in
      let n' = length-origins new in
      ap paired (same_lists (origins new) (map to (origins m))
      (n' ∙ c.edge_count ∙ sym n ∙ sym (length-map (origins m) to)) (λ k d within.
      let k_in : k < length m.half_edges = omega (arith, within, n', c.edge_count) in
      get_or-origins new k d (omega (arith, within, n')) ∙ c.origins k k_in
      ∙ ap to (sym (get_or-origins m k 0 k_in))
      ∙ sym (get_or-map to (origins m) k 0 d (omega (arith, k_in, n)))))
      ∙ paired-map to (origins m)

  -- the corners of the faces are the former ones, with v as the name of the last vertex
  pub moves_triangles : MovesTriangles m new v
  moves_triangles =
      let n = length-map m.face_edges (triangle_at m) in
      let n' = length-map new.face_edges (triangle_at new) in
      let count : length new.face_edges ≡ length m.face_edges = ap length c.face_edges in
      let moved_at : Triangle → Triangle = λ (t :
      Triangle). record { first = to t.first; second = to t.second; third = to t.third } in
      same_lists (triangles new) (map moved_at (triangles m))
      (n' ∙ count ∙ sym n ∙ sym (length-map (triangles m) moved_at)) (λ k d within.
      let k_new : k < length new.face_edges = omega (arith, within, n') in
      let k_in : k < length m.face_edges = omega (arith, k_new, count) in
      let j : k + 1 - 1 ≡ k = omega arith in
      let h : ℕ = get_or m.face_edges k 0 in
      let h_in : h < length m.half_edges =
      rw j at (s.faces (k + 1) (omega arith) (omega (arith, k_in))).0 in
      get_or-map (triangle_at new) new.face_edges k 0 d k_new
      ∙ ap (λ xs. triangle_at new (get_or xs k 0)) c.face_edges
      ∙ triangle_moved m new v h s c h_in
      ∙ ap moved_at (sym (get_or-map (triangle_at m) m.face_edges k 0 no_triangle k_in))
      ∙ sym (get_or-map moved_at (triangles m) k no_triangle d (omega (arith, n, k_in))))

  -- the outer edges are the former ones, with v as the name of the last vertex
  pub moves_outer : MovesOuter m new v
  moves_outer = record {
    kept = λ h a b o. record {
      within = rw c.edge_count o.within;
      outer = c.faces h ∙ o.outer;
      source = c.origins h o.within ∙ ap to o.source;
      target = c.origins (rev h) (rev_within _ _ s.even o.within) ∙ ap to o.target;
    };
    only = λ h a b o.
        let h_in : h < length m.half_edges = rw (← c.edge_count) o.within in (
          origin m h,
          origin m (rev h),
          record {
            within = h_in;
            outer = sym (c.faces h) ∙ o.outer;
            source = refl;
            target = refl;
          },
          sym o.source ∙ c.origins h h_in,
          sym o.target ∙ c.origins (rev h) (rev_within _ _ s.even h_in),
        );
  }
