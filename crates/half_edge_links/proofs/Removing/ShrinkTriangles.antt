-- The corners of the faces, and the ends of the edges, after elements went.
-- Lemmas: same_triangle, get_map, map-swap_remove, triangles_opened, triangles_closed,
-- triangles_removed, sides_removed, triangles_peeled, triangle_moved.
use Rattle.std.proofs.Common.{◌≡◌, ◌+◌, ◌-◌, ◌<◌, [], ◌∷◌, ◌++◌, ◌∙◌}
use Rattle.std.proofs.Common.{ℕ, zero, suc, List, length, get_or, set, take, map, refl, sym, ap}
use Rattle.std.proofs.Common.{arith}
use Rattle.std.proofs.lemmas.List.{map-set, take-map, get_or-map, length-map, same_lists}
use Rattle.std.proofs.lemmas.List.{map-append}
use Rattle.std.specs.List.{swap_remove}
use Rattle.half_edge_links.specs.{AreSoundLinks, ClosesLoop, edge_naming, face, face_edge, IsInner}
use Rattle.half_edge_links.specs.{IsKeptEdge, Mesh, moved, MovesVertex, next, Opens, origin}
use Rattle.half_edge_links.specs.{pair_moved, Peels, prev, Removes, rev, Triangle, triangle_at}
use Rattle.half_edge_links.specs.{triangles}
use Rattle.half_edge_links.proofs.{Lists.Rev.rev_within, Removing.PeelLemmas.removable_opened}
use Rattle.half_edge_links.proofs.Removing.Conditions.{IsHullEdge, IsUnlinkable}
use Rattle.half_edge_links.proofs.{Removing.OpenSound.sound_opened, Sound.RenameSound.kept_edge}
use Rattle.half_edge_links.proofs.Removing.Track.{last_pair, pair_at}
use Rattle.half_edge_links.proofs.Removing.UnlinkSound.{inner_next, inner_prev}

-- triangles with the same three corners are the same
pub same_triangle : (a b c x y z : ℕ) → a ≡ x → b ≡ y → c ≡ z
    → (let t : Triangle = record { first = a; second = b; third = c } in t)
    ≡ record { first = x; second = y; third = z }
same_triangle a b c x y z p q r = cc

map_same : {X Y : Type 0} (f g : X → Y) (xs : List X) → ((x : X) → f x ≡ g x) → map f xs ≡ map g xs
map_same f g [] same = refl
map_same f g (x ∷ xs) same = let a = same x in let b = map_same f g xs same in cc

-- an entry of a mapped list
pub get_map : {X Y : Type 0} (f : X → Y) (xs : List X) (n : ℕ) (d : X)
    → get_or (map f xs) n (f d) ≡ f (get_or xs n d)
get_map f [] n d = refl
get_map f (x ∷ xs) zero d = refl
get_map f (x ∷ xs) (suc n) d = get_map f xs n d

-- an item may be taken out before a function is applied to the list, or after
pub map-swap_remove : {X Y : Type 0} (f : X → Y) (xs : List X) (i : ℕ) (d : X)
    → map f (swap_remove xs i d) ≡ swap_remove (map f xs) i (f d)
map-swap_remove f xs i d =
    let n = length-map xs f in
    let a = take-map f (length xs - 1) (set xs i (get_or xs (length xs - 1) d)) in
    let b = map-set f xs i (get_or xs (length xs - 1) d) in
    let c = get_map f xs (length xs - 1) d in
    sym a ∙ ap (take (length xs - 1)) (b ∙ ap (set (map f xs) i) (sym c))
    ∙ ap (λ k. take (k - 1) (set (map f xs) i (get_or (map f xs) (k - 1) (f d)))) (sym n)

-- a face that is given to the outer one takes its corners with it, and the last takes its place
pub triangles_opened : (m new : Mesh) (f : ℕ) → Opens m new f
    → triangles new ≡ swap_remove (triangles m) (f - 1) (triangle_at m 0)
triangles_opened m new f o =
    map_same (triangle_at new) (triangle_at m) new.face_edges
    (λ h. same_triangle _ _ _ _ _ _ (o.origin h) (ap (origin new) (o.next h)
    ∙ o.origin (next m h)) (ap (origin new) (o.prev h) ∙ o.origin (prev m h)))
    ∙ ap (map (triangle_at m)) o.face_edges ∙ map-swap_remove (triangle_at m) m.face_edges (f - 1) 0

-- a loop that becomes the last face adds its corners at the end, and no other corners change
pub triangles_closed : (m new : Mesh) (h : ℕ) → ClosesLoop m new h
    → triangles new ≡ triangles m ++ triangle_at m h ∷ []
triangles_closed m new h c =
    map_same (triangle_at new) (triangle_at m) new.face_edges
    (λ k. same_triangle _ _ _ _ _ _ (c.origins k) (ap (origin new) (c.nexts k)
    ∙ c.origins (next m k)) (ap (origin new) (c.prevs k) ∙ c.origins (prev m k)))
    ∙ ap (map (triangle_at m)) c.face_edges ∙ map-append (triangle_at m) m.face_edges (h ∷ [])

module _ (m new : Mesh) (e : ℕ) (s : AreSoundLinks m) (can : IsUnlinkable m e)
    (r : Removes m new e) where
  -- the corners of a face whose edge is left
  kept_triangle : (h : ℕ) → h < length m.half_edges → 0 < face m h
      → IsKeptEdge new (edge_naming (last_pair m) (pair_at e)) h
      → triangle_at new (pair_moved (last_pair m) (pair_at e) h) ≡ triangle_at m h
  kept_triangle h within some k =
      let u = r.unlinks in
      let here = kept_edge r.between new (edge_naming (last_pair m) (pair_at e)) r.renames h k in
      let after = kept_edge r.between new (edge_naming (last_pair m) (pair_at e)) r.renames
      (next r.between h) here.next_kept in
      let before = kept_edge r.between new (edge_naming (last_pair m) (pair_at e)) r.renames
      (prev r.between h) here.prev_kept in
      same_triangle _ _ _ _ _ _
      (here.links.origin ∙ u.origins h)
      (ap (origin new) here.links.next ∙ after.links.origin ∙ u.origins (next r.between h)
      ∙ ap (origin m) (inner_next m r.between e s can u h within some))
      (ap (origin new) here.links.prev ∙ before.links.origin ∙ u.origins (prev r.between h)
      ∙ ap (origin m) (inner_prev m r.between e s can u h within some))

  -- no face changes its corners
  pub triangles_removed : triangles new ≡ triangles m
  triangles_removed = same_lists _ _ (length-map new.face_edges (triangle_at new) ∙ r.face_count
      ∙ sym (length-map m.face_edges (triangle_at m)))
      (λ k d within.
      let n : length (triangles new) ≡ length new.face_edges =
      length-map new.face_edges (triangle_at new) in
      let k_new : k < length new.face_edges = omega (arith, n) in
      let k_old : k < length m.face_edges = omega (arith, r.face_count) in
      let j : k + 1 - 1 ≡ k = omega arith in
      let had = s.faces (k + 1) (omega arith) (omega arith) in
      let f = r.renames.faces (k + 1) (omega arith) (omega arith) in
      let was : face_edge r.between (k + 1) ≡ face_edge m (k + 1) =
      ap (λ l. get_or l (k + 1 - 1) 0) r.unlinks.face_edges in
      let named : face_edge new (k + 1) ≡ pair_moved (last_pair m) (pair_at e)
      (face_edge m (k + 1)) = f.named ∙ ap (pair_moved (last_pair m) (pair_at e)) was in
      let kept : IsKeptEdge new (edge_naming (last_pair m) (pair_at e)) (face_edge m (k + 1)) =
      rw was at f.kept in
      get_or-map (triangle_at new) new.face_edges k 0 d k_new
      ∙ ap (λ i. triangle_at new (get_or new.face_edges i 0)) (sym j)
      ∙ ap (triangle_at new) named
      ∙ kept_triangle (face_edge m (k + 1)) had.0 (omega (arith, had.1)) kept
      ∙ ap (λ i. triangle_at m (get_or m.face_edges i 0)) j
      ∙ sym (get_or-map (triangle_at m) m.face_edges k 0 d k_old))

  -- each edge that is left has its ends, and its faces
  pub sides_removed : (h : ℕ) → h < length new.half_edges
      → (origin new h ≡ origin m (pair_moved (pair_at e) (last_pair m) h))
      × (origin new (rev h) ≡ origin m (rev (pair_moved (pair_at e) (last_pair m) h)))
      × (face new h ≡ face m (pair_moved (pair_at e) (last_pair m) h))
  sides_removed h within =
      let here = r.renames.edges h within in
      let across =
      r.renames.edges (rev h) (rev_within h (length new.half_edges) r.renames.even within) in
      let u = r.unlinks in (
        here.links.origin ∙ u.origins _,
        across.links.origin ∙ u.origins _
            ∙ ap (origin m) here.rev_is,
        here.links.face ∙ u.faces _,
      )

-- one face goes with an edge that is peeled off: the last takes its place, and no other changes its
-- corners
pub triangles_peeled : (m new : Mesh) (h : ℕ) → AreSoundLinks m → IsHullEdge m h → Peels m new h
    → triangles new ≡ swap_remove (triangles m) (face m h - 1) (triangle_at m 0)
triangles_peeled m new h s can p =
    let inner : IsInner m (face m h) = (can.inner, (s.edges h can.within).face_in) in
    let mid = sound_opened m p.opened (face m h) s inner p.opens in
    triangles_removed p.opened new h mid (removable_opened m p.opened h s can p.opens) p.removes
    ∙ triangles_opened m p.opened (face m h) p.opens

-- the corners under the new index of the last vertex
abbrev moved_triangle : ℕ → ℕ → Triangle → Triangle
moved_triangle from to t = record {
  first = moved from to t.first;
  second = moved from to t.second;
  third = moved from to t.third;
}

-- the corners at an edge are the former ones, the last vertex being named v
pub triangle_moved : (m new : Mesh) (v h : ℕ) → AreSoundLinks m → MovesVertex m new v
    → h < length m.half_edges
    → triangle_at new h ≡ moved_triangle (length m.out_edges - 1) v (triangle_at m h)
triangle_moved m new v h s c within =
    let here = s.edges h within in
    same_triangle _ _ _ _ _ _ (c.origins h within) (ap (origin new) (c.nexts h) ∙ c.origins
    (next m h) here.next_in) (ap (origin new) (c.prevs h) ∙ c.origins (prev m h) here.prev_in)
