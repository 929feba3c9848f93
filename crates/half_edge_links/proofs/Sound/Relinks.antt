-- What the links are after three writes of next edges, three of edges before, and one of an origin.
-- Notions: Relinks, relinked; relinks, three_joined.
use Rattle.std.proofs.Common.{◌≡◌, ◌≢◌, ℕ, ◌<◌, List, length, refl, ap, ◌∙◌}
use Rattle.half_edge_links.specs.{edge_at, HalfEdge, with_next, with_origin, with_prev}
use Rattle.half_edge_links.proofs.Sound.FieldWrites.{face_link, next_link, origin_link, prev_link}
use Rattle.half_edge_links.proofs.Sound.FieldWrites.{swap_writes, writes_next, writes_origin}
use Rattle.half_edge_links.proofs.Sound.FieldWrites.{writes_prev}

-- next edges at e, z and k, edges before at l, k and t, and the origin of t are new; all other
-- links stay
pub record Relinks (old new : List HalfEdge) (e t k l z x y w p q r o : ℕ) : Type 0 where
  pub count : length new ≡ length old
  pub next_e : (edge_at new e).next ≡ x
  pub next_z : (edge_at new z).next ≡ y
  pub next_k : (edge_at new k).next ≡ w
  pub prev_l : (edge_at new l).prev ≡ p
  pub prev_k : (edge_at new k).prev ≡ q
  pub prev_t : (edge_at new t).prev ≡ r
  pub origin_t : (edge_at new t).origin ≡ o
  pub other_next : (h : ℕ) → h < length old → h ≢ e → h ≢ z → h ≢ k
      → (edge_at new h).next ≡ (edge_at old h).next
  pub other_prev : (h : ℕ) → h < length old → h ≢ l → h ≢ k → h ≢ t
      → (edge_at new h).prev ≡ (edge_at old h).prev
  pub other_origin : (h : ℕ) → h < length old → h ≢ t
      → (edge_at new h).origin ≡ (edge_at old h).origin
  pub faces : (h : ℕ) → h < length old → (edge_at new h).face ≡ (edge_at old h).face

module _ (hs : List HalfEdge) (e t k l z x y w p q r o : ℕ) where
  abbrev one : List HalfEdge
  one = with_next hs e x

  abbrev two : List HalfEdge
  two = with_next one z y

  abbrev three : List HalfEdge
  three = with_next two k w

  abbrev four : List HalfEdge
  four = with_prev three l p

  abbrev five : List HalfEdge
  five = with_prev four k q

  abbrev six : List HalfEdge
  six = with_prev five t r

  -- the list after the seven writes
  abbrev pub relinked : List HalfEdge
  relinked = with_origin six t o

  nexts : (h : ℕ) → (edge_at relinked h).next ≡ (edge_at three h).next
  nexts h = (writes_origin six t o).kept next_link refl h
      ∙ (writes_prev five t r).kept next_link refl h ∙ (writes_prev four k q).kept next_link refl h
      ∙ (writes_prev three l p).kept next_link refl h

  prevs : (h : ℕ) → (edge_at three h).prev ≡ (edge_at hs h).prev
  prevs h = (writes_next two k w).kept prev_link refl h
      ∙ (writes_next one z y).kept prev_link refl h ∙ (writes_next hs e x).kept prev_link refl h

  -- the seven writes give these links and leave all others, where places of the same link differ
  pub relinks : e < length hs → t < length hs → k < length hs → l < length hs → z < length hs
      → e ≢ z → e ≢ k → z ≢ k → l ≢ k → l ≢ t → k ≢ t → Relinks hs relinked e t k l z x y w p q r o
  relinks e_in t_in k_in l_in z_in e-z e-k z-k l-k l-t k-t =
      let n1 : length one ≡ length hs = (writes_next hs e x).count in
      let n2 : length two ≡ length hs = (writes_next one z y).count ∙ n1 in
      let n3 : length three ≡ length hs = (writes_next two k w).count ∙ n2 in
      let n4 : length four ≡ length hs = (writes_prev three l p).count ∙ n3 in
      let n5 : length five ≡ length hs = (writes_prev four k q).count ∙ n4 in
      let n6 : length six ≡ length hs = (writes_prev five t r).count ∙ n5 in
      record {
        count = (writes_origin six t o).count ∙ n6;
        next_e = nexts e ∙ ap next_link ((writes_next two k w).other e e-k) ∙ ap next_link
            ((writes_next one z y).other e e-z) ∙ ap next_link ((writes_next hs e x).here e_in);
        next_z = nexts z ∙ ap next_link ((writes_next two k w).other z z-k)
            ∙ ap next_link ((writes_next one z y).here (rw n1 z_in));
        next_k = nexts k ∙ ap next_link ((writes_next two k w).here (rw n2 k_in));
        prev_l = (writes_origin six t o).kept prev_link refl l ∙ ap prev_link
            ((writes_prev five t r).other l l-t) ∙ ap prev_link ((writes_prev four k q).other l l-k)
            ∙ ap prev_link ((writes_prev three l p).here (rw n3 l_in));
        prev_k = (writes_origin six t o).kept prev_link refl k
            ∙ ap prev_link ((writes_prev five t r).other k k-t)
            ∙ ap prev_link ((writes_prev four k q).here (rw n4 k_in));
        prev_t = (writes_origin six t o).kept prev_link refl t
            ∙ ap prev_link ((writes_prev five t r).here (rw n5 t_in));
        origin_t = ap origin_link ((writes_origin six t o).here (rw n6 t_in));
        other_next = λ h within not_e not_z not_k. nexts h
            ∙ ap next_link ((writes_next two k w).other h not_k)
            ∙ ap next_link ((writes_next one z y).other h not_z)
            ∙ ap next_link ((writes_next hs e x).other h not_e);
        other_prev = λ h within not_l not_k not_t. (writes_origin six t o).kept prev_link refl h
            ∙ ap prev_link ((writes_prev five t r).other h not_t)
            ∙ ap prev_link ((writes_prev four k q).other h not_k)
            ∙ ap prev_link ((writes_prev three l p).other h not_l) ∙ prevs h;
        other_origin = λ h within not_t.
            ap origin_link ((writes_origin six t o).other h not_t) ∙ (writes_prev five t r).kept
            origin_link refl h ∙ (writes_prev four k q).kept origin_link refl h
            ∙ (writes_prev three l p).kept origin_link refl h
            ∙ (writes_next two k w).kept origin_link refl h ∙ (writes_next one z y).kept origin_link
            refl h ∙ (writes_next hs e x).kept origin_link refl h;
        faces = λ h within.
            (writes_origin six t o).kept face_link refl h ∙ (writes_prev five t r).kept face_link
            refl h ∙ (writes_prev four k q).kept face_link refl h
            ∙ (writes_prev three l p).kept face_link refl h
            ∙ (writes_next two k w).kept face_link refl h ∙ (writes_next one z y).kept face_link
            refl h ∙ (writes_next hs e x).kept face_link refl h;
      }

-- three edges that are put after others, one after another, are so by writes of all next edges and
-- then of all edges before
pub three_joined : (hs : List HalfEdge) (a b c d f g : ℕ) → b < length hs → d < length hs
    → with_prev (with_next (with_prev (with_next (with_prev (with_next hs a b) b a) c d) d c) f g) g
    f ≡ with_prev (with_prev (with_prev (with_next (with_next (with_next hs a b) c d) f g) b a) d c)
    g f
three_joined hs a b c d f g b_in d_in =
    let one : List HalfEdge = with_next hs a b in
    let two : List HalfEdge = with_next one c d in
    let n1 : length one ≡ length hs = (writes_next hs a b).count in
    let n2 : length two ≡ length hs = (writes_next one c d).count ∙ n1 in
    let n3 : length (with_prev two b a) ≡ length hs = (writes_prev two b a).count ∙ n2 in
    ap (λ q. with_prev (with_next (with_prev q d c) f g) g f) (swap_writes one b a c d (rw n1 b_in))
    ∙ ap (λ q. with_prev q g f) (swap_writes (with_prev two b a) d c f g (rw n3 d_in)
    ∙ ap (λ q. with_prev q d c) (swap_writes two b a f g (rw n2 b_in)))
