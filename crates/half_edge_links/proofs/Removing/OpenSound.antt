-- Giving an inner face to the outer one keeps a mesh sound.
-- Lemmas: same_renamed, get_or-swap_remove_same, get_or-swap_remove_other, swap_remove_default,
-- length-swap_remove, opens, moved_hit, moved_miss, face_opened, face_named, sound_opened,
-- small_opened, in_loop.
use Rattle.std.proofs.Common.{◌≡◌, ◌≢◌, ◌+◌, ◌-◌, ◌<◌, ◌≤◌, ◌∙◌}
use Rattle.std.proofs.Common.{ℕ, List, length, get_or, set, take, Option, Some, None, refl, sym, ap}
use Rattle.std.proofs.Common.{inl, inr, arith}
use Rattle.std.proofs.lemmas.Bool.{cases_eq}
use Rattle.std.proofs.lemmas.Bool.Decides.{nat_tests}
use Rattle.std.proofs.lemmas.List.{get_or-set_same, get_or-set_other, get_or-take, length-set}
use Rattle.std.proofs.lemmas.List.{length-take, get_or_default}
use Rattle.std.specs.List.{swap_remove}
use Rattle.half_edge_links.specs.{AreSoundLinks, face, face_edge, HalfEdge, IsInner, IsKeptEdge}
use Rattle.half_edge_links.specs.{IsSmall, Mesh, moved, Naming, next, Opens, out_edge, prev}
use Rattle.half_edge_links.specs.{renamed, Renames.Renames, with_loop_face}
use Rattle.half_edge_links.specs.Remove.{IsLinkedWithin, opened, opened_face}
use Rattle.half_edge_links.proofs.{Lists.Cases.◌or_else◌, Sound.FieldWrites.sets_loop_face}
use Rattle.half_edge_links.proofs.Sound.RenameSound.{sound_renamed}
use Rattle.half_edge_links.proofs.Sound.Triangles.{same_loop, triangle_at}

-- what may be missing stays the same where each index keeps its name
pub same_renamed : (o : Option ℕ) → o ≡ renamed (λ h. h) o
same_renamed None = refl
same_renamed (Some h) = refl

-- the last takes the place of the one that goes
pub get_or-swap_remove_same : {X : Type 0} (xs : List X) (i : ℕ) (d : X) → i + 1 < length xs
    → get_or (swap_remove xs i d) i d ≡ get_or xs (length xs - 1) d
get_or-swap_remove_same xs i d within =
    get_or-take (length xs - 1) (set xs i (get_or xs (length xs - 1) d)) i d (omega arith)
    ∙ get_or-set_same xs i _ d (omega arith)

-- after the element at i is taken out, each other one but the last is where it was
pub get_or-swap_remove_other : {X : Type 0} (xs : List X) (i k : ℕ) (d : X) → k + 1 < length xs
    → k ≢ i → get_or (swap_remove xs i d) k d ≡ get_or xs k d
get_or-swap_remove_other xs i k d within differs =
    get_or-take (length xs - 1) (set xs i (get_or xs (length xs - 1) d)) k d (omega arith)
    ∙ get_or-set_other xs i k _ d differs

-- what is left of a list with elements once one is taken out does not depend on the default
pub swap_remove_default : {X : Type 0} (xs : List X) (i : ℕ) (d e : X) → 0 < length xs
    → swap_remove xs i d ≡ swap_remove xs i e
swap_remove_default xs i d e some = ap (λ x. take (length xs - 1) (set xs i x))
    (get_or_default xs (length xs - 1) d e (omega arith))

-- a list is one shorter once an element is taken out
pub length-swap_remove : {X : Type 0} (xs : List X) (i : ℕ) (d : X)
    → length (swap_remove xs i d) ≡ length xs - 1
length-swap_remove xs i d =
    omega (
      arith,
      length-take (length xs - 1) (set xs i (get_or xs (length xs - 1) d)),
      length-set xs i (get_or xs (length xs - 1) d),
    )

module _ (m : Mesh) (f : ℕ) (s : AreSoundLinks m) (inner : IsInner m f) where
  -- the writes of the code give face f to the outer one, and its index to the last face
  pub opens : Opens m (opened m f) f
  unfolding opened
  opens =
      let last_in = s.faces (length m.face_edges) (omega (arith, inner.0, inner.1)) (omega arith) in
      let here = s.faces f inner.0 inner.1 in
      let a : ℕ = face_edge m (length m.face_edges) in
      let b : ℕ = face_edge m f in
      let ta = triangle_at m a s last_in.0 (omega (arith, inner.0, inner.1, last_in.1)) in
      let tb = triangle_at m b s here.0 (omega (arith, inner.0, here.1)) in
      let one = sets_loop_face m.half_edges a f ta.h_in ta.next_in ta.prev_in in
      let mid : List HalfEdge = with_loop_face m.half_edges a f in
      let b_next = one.next b in
      let b_prev = one.prev b in
      let two = sets_loop_face mid b 0 (rw one.count tb.h_in) (rw (b_next, one.count) tb.next_in)
      (rw (b_prev, one.count) tb.prev_in) in
      record {
        edge_count = two.count ∙ one.count;
        face_count = omega (arith, length-swap_remove m.face_edges (f - 1) 0, inner.0, inner.1);
        next = λ k. two.next k ∙ one.next k;
        prev = λ k. two.prev k ∙ one.prev k;
        origin = λ k. two.origin k ∙ one.origin k;
        gone = λ k within was. two.face k (rw (b_next, b_prev)
            (same_loop m b k s tb.h_in within (omega (arith, inner.0, here.1)) (was ∙ sym here.1)));
        last = λ k within was differs.
            let off = λ (q : face m k ≡ f). differs (q) in
            let n1 = λ (q : k ≡ b). differs (ap (face m) q ∙ here.1) in
            let n2 = λ (q : k ≡ next m b). differs (ap (face m) q ∙ tb.face_next ∙ here.1) in
            let n3 = λ (q : k ≡ prev m b). differs (ap (face m) q ∙ tb.face_prev ∙ here.1) in
            two.other k n1 (rw b_next n2) (rw b_prev n3) ∙ one.face k (same_loop m a k s ta.h_in
            within (omega (arith, inner.0, inner.1, last_in.1)) (was ∙ sym last_in.1));
        other = λ k within a_differs b_differs.
            let n1 = λ (q : k ≡ b). a_differs (ap (face m) q ∙ here.1) in
            let n2 = λ (q : k ≡ next m b). a_differs (ap (face m) q ∙ tb.face_next ∙ here.1) in
            let n3 = λ (q : k ≡ prev m b). a_differs (ap (face m) q ∙ tb.face_prev ∙ here.1) in
            let o1 = λ (q : k ≡ a). b_differs (ap (face m) q ∙ last_in.1) in
            let o2 = λ (q : k ≡ next m a). b_differs (ap (face m) q ∙ ta.face_next ∙ last_in.1) in
            let o3 = λ (q : k ≡ prev m a). b_differs (ap (face m) q ∙ ta.face_prev ∙ last_in.1) in
            two.other k n1 (rw b_next n2) (rw b_prev n3) ∙ one.other k o1 o2 o3;
        outs = refl;
        outer_edge = refl;
        face_edges = refl;
      }

-- the element that has moved is at its new index
pub moved_hit : (from to x : ℕ) → x ≡ from → moved from to x ≡ to
moved_hit from to x is = grind (arith, nat_tests)

-- an element that has not moved keeps its index
pub moved_miss : (from to x : ℕ) → x ≢ from → moved from to x ≡ x
moved_miss from to x differs = grind (arith, nat_tests)

-- the old name of one of the rest is that of an old one
moved_in : (f g x : ℕ) → 0 < f → f ≤ g → 0 < x → x < g → (0 < moved f g x) × (moved f g x ≤ g)
moved_in f g x some within x_some x_in =
    elim (cases_eq x f) [
      | inl is ↦ rw (moved_hit f g x is) (omega arith, omega arith)
      | inr differs ↦ rw (moved_miss f g x differs) (x_some, omega arith)
    ]

module _ (g f : ℕ) where
  opened_gone : opened_face g f f ≡ 0
  opened_gone = grind (arith, nat_tests)

  opened_last : (x : ℕ) → x ≡ g → x ≢ f → opened_face g f x ≡ f
  opened_last x is differs = grind (arith, nat_tests)

  opened_other : (x : ℕ) → x ≢ g → x ≢ f → opened_face g f x ≡ x
  opened_other x a b = grind (arith, nat_tests)

  opened_in : (x : ℕ) → 0 < f → f ≤ g → x ≤ g → opened_face g f x + 1 ≤ g
  opened_in x some within x_in = grind (arith, nat_tests)

  opened_kept : (x : ℕ) → 0 < f → f ≤ g → 0 < opened_face g f x
      → (0 < x) × (moved f g (opened_face g f x) ≡ x)
  opened_kept x some within kept = grind (arith, nat_tests)

  opened_back : (x : ℕ) → f ≤ g → x < g → opened_face g f (moved f g x) ≡ x
  opened_back x within x_in = grind (arith, nat_tests)

module _ (m new : Mesh) (f : ℕ) (s : AreSoundLinks m) (inner : IsInner m f)
    (o : Opens m new f) where
  abbrev names : Naming
  names = record {
    edge = λ h. h;
    old_edge = λ h. h;
    vertex = λ v. v;
    old_vertex = λ v. v;
    face = opened_face (length m.face_edges) f;
    old_face = moved f (length m.face_edges);
  }

  -- each edge of f has the outer face now, each of the last face has f, and others keep theirs
  pub face_opened : (k : ℕ) → k < length m.half_edges
      → face new k ≡ opened_face (length m.face_edges) f (face m k)
  face_opened k within =
      elim (cases_eq (face m k) f or_else cases_eq (face m k) (length m.face_edges)) [
        | inl is ↦ o.gone k within is ∙ sym
            (ap (opened_face (length m.face_edges) f) is ∙ opened_gone (length m.face_edges) f)
        | inr (a, inl is) ↦
            o.last k within is a ∙ sym (opened_last (length m.face_edges) f (face m k) is a)
        | inr (a, inr b) ↦
            o.other k within a b ∙ sym (opened_other (length m.face_edges) f (face m k) b a)
      ]

  -- each edge keeps its index
  kept : (h : ℕ) → h < length m.half_edges → IsKeptEdge new names h
  kept h within = record { within = rw o.edge_count within; back = refl }

  -- a face that is left names the edge that it named under its old index
  pub face_named : (x : ℕ) → 0 < x → x + 1 ≤ length m.face_edges
      → face_edge new x ≡ face_edge m (moved f (length m.face_edges) x)
  face_named x some within =
      elim (cases_eq x f) [
        | inl is ↦
            let at = moved_hit f (length m.face_edges) x is in
            let place : x - 1 ≡ f - 1 = omega arith in
            rw (at, o.face_edges, place)
            (get_or-swap_remove_same m.face_edges (f - 1) 0 (omega arith))
        | inr differs ↦
            let at = moved_miss f (length m.face_edges) x differs in
            rw (at, o.face_edges) (get_or-swap_remove_other m.face_edges (f - 1) (x - 1) 0
            (omega arith) (λ q. differs (omega (arith, inner.0))))
      ]

  renames_opened : Renames m new names
  renames_opened = record {
    even = rw o.edge_count s.even;
    edges = λ h within.
        let within' : h < length m.half_edges = rw o.edge_count at within in
        let here = s.edges h within' in
        let face_in = opened_in (length m.face_edges) f (face m h) inner.0 inner.1 here.face_in in
        record {
          links = record {
            origin = o.origin h;
            next = o.next h;
            prev = o.prev h;
            face = face_opened h within';
          };
          sound = here;
          back = refl;
          next_kept = kept (next m h) here.next_in;
          prev_kept = kept (prev m h) here.prev_in;
          rev_is = refl;
          origin_in = rw (ap length o.outs) here.origin_in;
          origin_back = refl;
          face_in = omega (arith, o.face_count);
          face_kept = opened_kept (length m.face_edges) f (face m h) inner.0 inner.1;
        };
    vertices = λ v within. record {
      out = rw o.outs (same_renamed (out_edge m v));
      kept = λ h named. let had = s.vertices v h named in (kept h had.0, had.1);
      back = refl;
    };
    faces = λ x some within.
        let small : x + 1 ≤ length m.face_edges = omega (arith, o.face_count) in
        let was = moved_in f (length m.face_edges) x inner.0 inner.1 some (omega arith) in
        let had = s.faces (moved f (length m.face_edges) x) was.0 was.1 in
        record {
          named = face_named x some small;
          kept = kept _ had.0;
          of = had.1;
          back = opened_back (length m.face_edges) f x inner.1 (omega arith);
        };
    outer = rw o.outer_edge (same_renamed m.outer_edge);
    outer_kept = λ h named. let had = s.outer h named in (kept h had.0, had.1);
    outer_face = opened_other (length m.face_edges) f 0 (omega (arith, inner.0, inner.1))
        (omega (arith, inner.0));
    has_outer = λ some. s.has_outer (rw o.edge_count at some);
  }

  -- a sound mesh stays sound when an inner face is given to the outer one
  pub sound_opened : AreSoundLinks new
  sound_opened = sound_renamed m new names renames_opened

-- a small mesh stays small when a face is given to the outer one
pub small_opened : (m new : Mesh) (f : ℕ) → Opens m new f → IsSmall m → IsSmall new
small_opened m new f o small = record {
  vertices = rw (ap length o.outs) small.vertices;
  edges = rw o.edge_count small.edges;
  faces = omega (arith, o.face_count, small.faces);
}

-- the loop of a face after the first write
pub in_loop : (m : Mesh) (f : ℕ) → AreSoundLinks m → IsInner m f → IsLinkedWithin
    (with_loop_face m.half_edges (face_edge m (length m.face_edges)) f) (face_edge m f)
in_loop m f s inner =
    let last_at = s.faces (length m.face_edges) (omega (arith, inner.0, inner.1)) (omega arith) in
    let edge_in = (s.faces f inner.0 inner.1).0 in
    let at_last = s.edges _ last_at.0 in
    let at_edge = s.edges _ edge_in in
    let w = sets_loop_face m.half_edges (face_edge m (length m.face_edges)) f last_at.0
    at_last.next_in at_last.prev_in in
    record {
      edge = rw w.count edge_in;
      next = rw (w.next, w.count) at_edge.next_in;
      prev = rw (w.prev, w.count) at_edge.prev_in;
    }
