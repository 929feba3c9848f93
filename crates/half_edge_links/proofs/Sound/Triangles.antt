-- The loops of inner faces.
-- Notions: IsTriangle; triangle_at, same_loop, six_round.
use Rattle.std.proofs.Common.{◌≡◌, ◌≢◌, ◌⊎◌, ℕ, ◌<◌, length, inl, inr, arith}
use Rattle.half_edge_links.specs.{AreSixPlaces, AreSoundLinks, face, IsFlippable, Mesh, next, prev}
use Rattle.{half_edge_links.proofs.Lists.Rev.rev_within, half_edge_links.specs.rev}

-- the three edges round an inner face
pub record IsTriangle (m : Mesh) (h : ℕ) : Type 0 where
  pub h_in : h < length m.half_edges
  pub next_in : next m h < length m.half_edges
  pub prev_in : prev m h < length m.half_edges
  pub next_differs : next m h ≢ h
  pub prev_differs : prev m h ≢ h
  pub both_differ : next m h ≢ prev m h
  pub face_next : face m (next m h) ≡ face m h
  pub face_prev : face m (prev m h) ≡ face m h
  pub next_next : next m (next m h) ≡ prev m h
  pub next_prev : next m (prev m h) ≡ h
  pub prev_next : prev m (next m h) ≡ h
  pub prev_prev : prev m (prev m h) ≡ next m h

-- in a sound mesh, each edge of an inner face is one of three edges round it
pub triangle_at : (m : Mesh) (h : ℕ) → AreSoundLinks m → h < length m.half_edges → 0 < face m h
    → IsTriangle m h
triangle_at m h s within inner =
    let here = s.edges h within in
    let at_next = s.edges (next m h) here.next_in in
    let at_prev = s.edges (prev m h) here.prev_in in
    let three = here.three inner in
    let face_prev : face m (prev m h) ≡ face m h = cc in
    let differs : prev m h ≢ h = λ same. here.proper (cc) in
    let both_differ : next m h ≢ prev m h = λ same. differs (cc) in
    let prev_prev : prev m (prev m h) ≡ next m h = cc in
    assumption (here, three, face_prev, differs, both_differ, prev_prev)

-- edges with one inner face lie in one loop
pub same_loop : (m : Mesh) (h g : ℕ) → AreSoundLinks m → h < length m.half_edges
    → g < length m.half_edges → 0 < face m h → face m g ≡ face m h
    → (g ≡ h) ⊎ ((g ≡ next m h) ⊎ (g ≡ prev m h))
same_loop m h g s h_in g_in inner same =
    let t = triangle_at m h s h_in inner in
    let g_inner : 0 < face m g = omega arith in
    let u = triangle_at m g s g_in g_inner in
    let a = (s.edges h h_in).owned inner in
    let b = (s.edges g g_in).owned g_inner in
    elim a [
      | inl a1 ↦ elim b [
        | inl b1 ↦ inl (cc)
        | inr b2 ↦ elim b2 [ inl b3 ↦ inr (inr (cc)) | inr b3 ↦ inr (inl (cc)) ]
      ]
      | inr (inl a3) ↦ elim b [
        | inl b1 ↦ inr (inl (cc))
        | inr b2 ↦ elim b2 [ inl b3 ↦ inl (cc) | inr b3 ↦ inr (inr (cc)) ]
      ]
      | inr (inr a3) ↦ elim b [
        | inl b1 ↦ inr (inr (cc))
        | inr b2 ↦ elim b2 [ inl b3 ↦ inr (inl (cc)) | inr b3 ↦ inl (cc) ]
      ]
    ]

-- the six edges round an edge that may be turned
pub six_round : (m : Mesh) (e : ℕ) → AreSoundLinks m → IsFlippable m e → AreSixPlaces
    (length m.half_edges) e (rev e) (next m e) (next m (rev e)) (prev m e) (prev m (rev e))
six_round m e s f =
    let t = triangle_at m e s f.within f.inner in
    let u =
    triangle_at m (rev e) s (rev_within e (length m.half_edges) s.even f.within) f.twin_inner in
    record {
      a_in = f.within;
      b_in = u.h_in;
      c_in = t.next_in;
      d_in = u.next_in;
      e_in = t.prev_in;
      f_in = u.prev_in;
      ab = λ same. f.apart (cc);
      ac = λ same. t.next_differs (cc);
      ad = λ same. f.apart (cc);
      ae = λ same. t.prev_differs (cc);
      af = λ same. f.apart (cc);
      bc = λ same. f.apart (cc);
      bd = λ same. u.next_differs (cc);
      be = λ same. f.apart (cc);
      bf = λ same. u.prev_differs (cc);
      cd = λ same. f.apart (cc);
      ce = λ same. t.both_differ (cc);
      cf = λ same. f.apart (cc);
      de = λ same. f.apart (cc);
      df = λ same. u.both_differ (cc);
      ef = λ same. f.apart (cc);
    }
