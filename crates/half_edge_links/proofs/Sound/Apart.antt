-- No edge joins a vertex to itself after a change.
-- Lemmas: apart_flipped, apart_hung, apart_closed, apart_inserted, apart_connected,
-- stars_connected.
use Rattle.std.proofs.Common.{◌≡◌, ◌≢◌, ◌+◌, ◌<◌, ◌∙◌}
use Rattle.std.proofs.Common.{ℕ, zero, suc, length, refl, sym, ap, inl, inr, arith}
use Rattle.std.proofs.lemmas.Bool.{cases_eq}
use Rattle.half_edge_links.specs.{AreSoundLinks, Closes, connected, face, Flips, Hangs}
use Rattle.half_edge_links.specs.{HasApartEnds, HasStars, Inserts, IsAlone, IsClosable, IsFlippable}
use Rattle.half_edge_links.specs.{IsInnerEdge, Mesh, next, OnOuter, origin, prev, rev}
use Rattle.half_edge_links.proofs.{Faces.FlipSound.origin_kept, Growing.FaceBeside.differs_alone}
use Rattle.half_edge_links.proofs.Growing.Close.{corner, IsNewCorner}
use Rattle.half_edge_links.proofs.{Lists.Cases.◌or_else◌, Lists.Rev.rev-rev, Lists.Rev.rev_within}
use Rattle.half_edge_links.proofs.Sound.Parts.{grown_cases, late_cases, rev_of_even, rev_of_odd}
use Rattle.half_edge_links.proofs.Faces.InsertSound as inserting

-- an edge whose ends stay
apart_kept : (m new : Mesh) (h : ℕ) → HasApartEnds m → h < length m.half_edges → origin new h
    ≡ origin m h → origin new (rev h) ≡ origin m (rev h) → origin new h ≢ origin new (rev h)
apart_kept m new h apart within a b same = apart h within (sym a ∙ same ∙ b)

-- the two sides of an edge have different ends
both_sides : (new : Mesh) (h k : ℕ) → rev h ≡ k → origin new h ≢ origin new k
    → origin new h ≢ origin new (rev h)
both_sides new h k is differs = rw is differs

-- what a differs from differs from a
neq : {X : Type 0} {a b : X} → a ≢ b → b ≢ a
neq differs same = differs (sym same)

-- no edge joins a vertex to itself after a flip, where the corners that it joins differ
pub apart_flipped : (m new : Mesh) (e : ℕ) → AreSoundLinks m → IsFlippable m e → Flips m new e
    → origin m (prev m e) ≢ origin m (prev m (rev e)) → HasApartEnds m → HasApartEnds new
apart_flipped m new e s can f corners apart h within =
    elim (cases_eq h e or_else cases_eq h (rev e)) [
      | inl same ↦ λ q. corners (sym f.edge.origin ∙ ap (origin new) (sym same) ∙ q
          ∙ ap (λ k. origin new (rev k)) same ∙ f.twin.origin)
      | inr (a, inl same) ↦ λ q. corners (sym (sym f.twin.origin ∙ ap (origin new) (sym same) ∙ q
          ∙ ap (λ k. origin new (rev k)) same ∙ ap (origin new) (rev-rev e) ∙ f.edge.origin))
      | inr (a, inr b) ↦
          apart_kept m new h apart (omega (arith, within, f.edge_count))
          (origin_kept m new e s can f h a b)
          (origin_kept m new e s can f (rev h) (λ q. b (sym (rev-rev h) ∙ ap rev q))
          (λ q. a (sym (rev-rev h) ∙ ap rev q ∙ rev-rev e)))
    ]

-- no edge joins a vertex to itself once a lonely vertex is joined to the end of an outer edge
pub apart_hung : (m new : Mesh) (x v : ℕ) → AreSoundLinks m → OnOuter m x → IsAlone m v
    → Hangs m new x v (length m.half_edges) → HasApartEnds m → HasApartEnds new
apart_hung m new x v s outer alone i apart h within =
    let there : origin new (length m.half_edges) ≢ origin new (length m.half_edges + 1) =
    λ q. differs_alone m (next m x) v s (s.edges x outer.0).next_in alone
    (sym i.there.origin ∙ q ∙ i.back.origin) in
    elim (grown_cases h _ (omega (arith, within, i.edge_count))) [
      | inl old ↦ apart_kept m new h apart old (i.origins h old)
          (i.origins (rev h) (rev_within _ _ s.even old))
      | inr (inl is) ↦ rw is (both_sides new _ _ (rev_of_even _ s.even) there)
      | inr (inr is) ↦ rw is (both_sides new _ _ (rev_of_odd _ s.even) (neq there))
    ]

-- no edge joins a vertex to itself once an outer edge, the next one and a new one get a face
pub apart_closed : (m new : Mesh) (e : ℕ) → AreSoundLinks m → IsClosable m e
    → Closes m new e (length m.half_edges) (length m.face_edges) → HasApartEnds m → HasApartEnds new
apart_closed m new e s can i apart h within =
    let c : IsNewCorner m e = corner m e s can in
    let there : origin new (length m.half_edges) ≢ origin new (length m.half_edges + 1) =
    λ q. can.apart (sym c.end ∙ sym i.inside.origin ∙ q ∙ i.outside.origin) in
    elim (grown_cases h _ (omega (arith, within, i.edge_count))) [
      | inl old ↦ apart_kept m new h apart old (i.origins h old)
          (i.origins (rev h) (rev_within _ _ s.even old))
      | inr (inl is) ↦ rw is (both_sides new _ _ (rev_of_even _ s.even) there)
      | inr (inr is) ↦ rw is (both_sides new _ _ (rev_of_odd _ s.even) (neq there))
    ]

-- no edge joins a vertex to itself once a vertex is put into an inner face
pub apart_inserted : (m new : Mesh) (v a : ℕ) → AreSoundLinks m → IsInnerEdge m a → IsAlone m v
    → Inserts m new v (face m a) a (length m.half_edges) (length m.face_edges) → HasApartEnds m
    → HasApartEnds new
apart_inserted m new v a s inner alone i apart h within =
    let n : ℕ = length m.half_edges in
    let here = s.edges a inner.0 in
    let kept = inserting.origin_kept m new v (face m a) a n
    (length m.face_edges) s inner alone refl refl refl i in
    let first : origin new n ≢ origin new (n + 1) = λ q. differs_alone m a v s inner.0 alone
    (sym i.from_first.origin ∙ q ∙ i.to_first.origin) in
    let second : origin new (n + 2) ≢ origin new (n + 3) = λ q. differs_alone m
    (next m a) v s here.next_in alone (sym i.from_second.origin ∙ q ∙ i.to_second.origin) in
    let third : origin new (n + 4) ≢ origin new (n + 5) = λ q. differs_alone m
    (prev m a) v s here.prev_in alone (sym i.from_third.origin ∙ q ∙ i.to_third.origin) in
    elim (late_cases h n (omega (arith, within, i.edge_count))) [
      | inl old ↦
          apart_kept m new h apart old (kept h old) (kept (rev h) (rev_within _ _ s.even old))
      | inr (inl is) ↦ rw is (both_sides new _ _ (inserting.rev0 m new v (face m a) a n
          (length m.face_edges) s inner alone refl refl refl i) first)
      | inr (inr (inl is)) ↦ rw is (both_sides new _ _ (inserting.rev2 m new v (face m a) a n
          (length m.face_edges) s inner alone refl refl refl i) second)
      | inr (inr (inr (inl is))) ↦ rw is (both_sides new _ _ (inserting.rev4 m new v (face m a) a n
          (length m.face_edges) s inner alone refl refl refl i) third)
      | inr (inr (inr (inr (inl is)))) ↦ rw is (both_sides new _ _ (inserting.rev1 m new v
          (face m a) a n (length m.face_edges) s inner alone refl refl refl i) (neq first))
      | inr (inr (inr (inr (inr (inl is))))) ↦ rw is (both_sides new _ _ (inserting.rev3 m new v
          (face m a) a n (length m.face_edges) s inner alone refl refl refl i) (neq second))
      | inr (inr (inr (inr (inr (inr is))))) ↦ rw is (both_sides new _ _ (inserting.rev5 m new v
          (face m a) a n (length m.face_edges) s inner alone refl refl refl i) (neq third))
    ]

-- the first edge joins no vertex to itself, where its two ends differ
pub apart_connected : (m : Mesh) (a b : ℕ) → a ≢ b → HasApartEnds (connected m a b)
apart_connected m a b differs zero within = differs
apart_connected m a b differs (suc zero) within = neq differs
apart_connected m a b differs (suc (suc h)) within = absurd (omega arith)

-- each vertex has one round of edges when the first edge is made, where its two ends differ
pub stars_connected : (m : Mesh) (a b : ℕ) → a ≢ b → HasStars (connected m a b)
stars_connected m a b differs among closed zero zero h_in g_in same is = is
stars_connected m a b differs among closed zero (suc zero) h_in g_in same is = absurd (differs same)
stars_connected m a b differs among closed (suc zero) zero h_in g_in same is =
    absurd (differs (sym same))
stars_connected m a b differs among closed (suc zero) (suc zero) h_in g_in same is = is
stars_connected m a b differs among closed h g h_in g_in same is = absurd (omega arith)
