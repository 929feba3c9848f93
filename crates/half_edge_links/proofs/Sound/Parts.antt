-- The parts of an edge's soundness, for changes that write single links, or nothing beside the
-- edge.
-- Notions: IsSpoke, IsNextSound, IsPrevSound, IsInnerSound, IsInMesh, IsBusy, EachNextIsSound,
-- EachEdgeIsSound, NamesOutEdges, NamesFaces, NamesOuterEdge, HasNoFace, KeepsOutEdges, KeepsBusy,
-- KeepsFaceEdges, KeepsEnds, IsLoop, IsKept; grown_cases, late_cases, rev_of_even, rev_of_odd,
-- sound_from, next_kept, prev_kept, inner_kept, next_of_sound, next_at, prev_sound, loop_sound,
-- still_out, still_named, sound_kept.
use Rattle.std.proofs.Common.{◌≡◌, ◌≢◌, ◌⊎◌, ◌+◌, ◌%◌, ◌<◌, ◌≤◌, ◌∙◌}
use Rattle.std.proofs.Common.{ℕ, length, Some, IsSome, refl, inl, inr, sym, ap, arith}
use Rattle.std.proofs.lemmas.Bool.{cases_eq}
use Rattle.std.proofs.lemmas.Grind.{common_steps}
use Rattle.half_edge_links.specs.{AreSoundLinks, edge_at, face, face_edge, HasLinks, IsSoundEdge}
use Rattle.half_edge_links.specs.{Mesh, next, origin, out_edge, prev, rev}
use Rattle.half_edge_links.proofs.Lists.Orbits.{reached}

-- an edge of a mesh with two more is old or one of the two
pub grown_cases : (h n : ℕ) → h < n + 2 → (h < n) ⊎ ((h ≡ n) ⊎ (h ≡ n + 1))
grown_cases h n within = grind arith

-- one of the edges from a vertex that was put into a face
abbrev pub IsSpoke : ℕ → ℕ → Type 0
IsSpoke n h = (h ≡ n + 1) ⊎ ((h ≡ n + 3) ⊎ (h ≡ n + 5))

-- an edge of a mesh with six more
pub late_cases : (h n : ℕ) → h < n + 6
    → (h < n) ⊎ ((h ≡ n) ⊎ ((h ≡ n + 2) ⊎ ((h ≡ n + 4) ⊎ IsSpoke n h)))
late_cases h n within = grind arith

-- the two sides of a new edge
pub rev_of_even : (n : ℕ) → n % 2 ≡ 0 → rev n ≡ n + 1
rev_of_even n even = grind (arith, common_steps)

-- the reverse of the second side of a new edge is the first
pub rev_of_odd : (n : ℕ) → n % 2 ≡ 0 → rev (n + 1) ≡ n
rev_of_odd n even = grind (arith, common_steps)

-- edge h and the edge after it fit together
pub record IsNextSound (m : Mesh) (h : ℕ) : Type 0 where
  pub next_in : next m h < length m.half_edges
  pub prev_next : prev m (next m h) ≡ h
  pub starts : origin m (next m h) ≡ origin m (rev h)
  pub same_face : face m (next m h) ≡ face m h
  pub proper : next m h ≢ h

-- the edge before h is in the mesh, and h comes after it
pub record IsPrevSound (m : Mesh) (h : ℕ) : Type 0 where
  pub prev_in : prev m h < length m.half_edges
  pub next_prev : next m (prev m h) ≡ h

-- the loop of h has three edges, and its face names one of them
pub record IsInnerSound (m : Mesh) (h : ℕ) : Type 0 where
  pub three : next m (next m h) ≡ prev m h
  pub owned : (face_edge m (face m h) ≡ h)
      ⊎ ((face_edge m (face m h) ≡ next m h) ⊎ (face_edge m (face m h) ≡ prev m h))

-- the origin of h, which names an edge, and the face of h are in the mesh
pub record IsInMesh (m : Mesh) (h : ℕ) : Type 0 where
  pub origin_in : origin m h < length m.out_edges
  pub face_in : face m h ≤ length m.face_edges
  pub has_out : IsSome (out_edge m (origin m h))

-- an edge whose parts are sound is sound, where the part of an inner face is asked for such a face
-- alone
pub sound_from : (m : Mesh) (h : ℕ) → IsInMesh m h → IsNextSound m h → IsPrevSound m h
    → (0 < face m h → IsInnerSound m h) → IsSoundEdge m h
sound_from m h a n p inner =
    let three = λ (some : 0 < face m h). (inner some).three in
    let owned = λ (some : 0 < face m h). (inner some).owned in
    assumption (a, n, p, three, owned)

module _ (old new : Mesh) (h : ℕ) (here : IsSoundEdge old h) where
  -- edge h and the one after it still fit together where the links that this is about stay
  pub next_kept : next new h ≡ next old h → prev new (next old h) ≡ prev old (next old h)
      → origin new (next old h) ≡ origin old (next old h) → origin new (rev h) ≡ origin old (rev h)
      → face new h ≡ face old h → face new (next old h) ≡ face old (next old h)
      → length old.half_edges ≤ length new.half_edges → IsNextSound new h
  next_kept a b c d x y more = record {
    next_in = omega (arith, a, here.next_in, more);
    prev_next = cc here.prev_next;
    starts = cc here.starts;
    same_face = cc here.same_face;
    proper = λ same. here.proper (sym a ∙ same);
  }

  -- edge h still comes after the one before it where both links stay
  pub prev_kept : prev new h ≡ prev old h → next new (prev old h) ≡ next old (prev old h)
      → length old.half_edges ≤ length new.half_edges → IsPrevSound new h
  prev_kept a b more = record {
    prev_in = omega (arith, a, here.prev_in, more);
    next_prev = cc here.next_prev;
  }

  -- the loop of an inner face is still sound where its links and the edge that the face names stay
  pub inner_kept : 0 < face old h → next new h ≡ next old h → prev new h ≡ prev old h
      → face new h ≡ face old h → next new (next old h) ≡ next old (next old h)
      → face_edge new (face old h) ≡ face_edge old (face old h) → IsInnerSound new h
  inner_kept some a b c d named = record {
    three = let t = here.three some in cc;
    owned = elim (here.owned some) [
      | inl x ↦ inl (cc)
      | inr y ↦ elim y [ inl x ↦ inr (inl (cc)) | inr x ↦ inr (inr (cc)) ]
    ];
  }

-- a sound edge and the edge after it fit together
pub next_of_sound : (m : Mesh) (h : ℕ) → IsSoundEdge m h → IsNextSound m h
next_of_sound m h s = assumption

-- an edge with its next one
pub next_at : (m : Mesh) (h n : ℕ) → next m h ≡ n → n < length m.half_edges → prev m n ≡ h
    → origin m n ≡ origin m (rev h) → face m n ≡ face m h → n ≢ h → IsNextSound m h
next_at m h n at within back starts same differs = record {
  next_in = rw at within;
  prev_next = ap (prev m) at ∙ back;
  starts = ap (origin m) at ∙ starts;
  same_face = ap (face m) at ∙ same;
  proper = λ q. differs (sym at ∙ q);
}

-- where each edge is before its next one, each is after the one before it: there are finitely many
pub prev_sound : (m : Mesh) → ((h : ℕ) → h < length m.half_edges → IsNextSound m h) → (h : ℕ)
    → h < length m.half_edges → IsPrevSound m h
prev_sound m ok h within =
    let g = reached (next m) (length m.half_edges) (λ a a_in. (ok a a_in).next_in)
    (λ a b a_in b_in same. sym (ok a a_in).prev_next ∙ ap (prev m) same
    ∙ (ok b b_in).prev_next) h within in
    let at : prev m h ≡ g.0 = ap (prev m) (sym g.2) ∙ (ok g.0 g.1).prev_next in
    record { prev_in = rw at g.1; next_prev = ap (next m) at ∙ g.2 }

-- a vertex at which edges may start
pub record IsBusy (m : Mesh) (v : ℕ) : Type 0 where
  pub within : v < length m.out_edges
  pub has_out : IsSome (out_edge m v)

-- what a change of a mesh owes for every edge, vertex and face, each as one word
abbrev pub EachNextIsSound : Mesh → Type 0
EachNextIsSound m = (h : ℕ) → h < length m.half_edges → IsNextSound m h

-- each edge fits the edges beside it
abbrev pub EachEdgeIsSound : Mesh → Type 0
EachEdgeIsSound m = (h : ℕ) → h < length m.half_edges → IsSoundEdge m h

-- the edge that a vertex names starts there
abbrev pub NamesOutEdges : Mesh → Type 0
NamesOutEdges m = (u h : ℕ) → out_edge m u ≡ Some h → (h < length m.half_edges) × (origin m h ≡ u)

-- the edge that a face names is on its loop
abbrev pub NamesFaces : Mesh → Type 0
NamesFaces m = (k : ℕ) → 0 < k → k ≤ length m.face_edges
    → (face_edge m k < length m.half_edges) × (face m (face_edge m k) ≡ k)

-- the edge that the outer face names is one of its edges
abbrev pub NamesOuterEdge : Mesh → Type 0
NamesOuterEdge m = (h : ℕ) → m.outer_edge ≡ Some h → (h < length m.half_edges) × (face m h ≡ 0)

-- each edge is beside the outer face on its left
abbrev pub HasNoFace : Mesh → Type 0
HasNoFace m = (h : ℕ) → h < length m.half_edges → face m h ≡ 0

-- a vertex that named an edge names one still
abbrev pub KeepsOutEdges : Mesh → Mesh → Type 0
KeepsOutEdges m new = (u : ℕ) → IsSome (out_edge m u) → IsSome (out_edge new u)

-- edges may still start where an edge did
abbrev pub KeepsBusy : Mesh → Mesh → Type 0
KeepsBusy m new = (h : ℕ) → h < length m.half_edges → IsBusy new (origin m h)

-- each old inner face names the edge that it named
abbrev pub KeepsFaceEdges : Mesh → Mesh → Type 0
KeepsFaceEdges m new = (k : ℕ) → 0 < k → k ≤ length m.face_edges → face_edge new k ≡ face_edge m k

-- each old edge ends where it did
abbrev pub KeepsEnds : Mesh → Mesh → Type 0
KeepsEnds m new = (h : ℕ) → h < length m.half_edges → origin new (rev h) ≡ origin m (rev h)

-- edges a, b and c, which start at x, y and z, go round face f
pub record IsLoop (m : Mesh) (a b c x y z f : ℕ) : Type 0 where
  pub first : HasLinks m a x b c f
  pub second : HasLinks m b y c a f
  pub third : HasLinks m c z a b f
  pub within : (a < length m.half_edges) × (b < length m.half_edges) × (c < length m.half_edges)
  pub apart : (a ≢ b) × (b ≢ c) × (c ≢ a)
  pub ends : (origin m (rev a) ≡ y) × (origin m (rev b) ≡ z) × (origin m (rev c) ≡ x)
  pub busy : IsBusy m x × IsBusy m y × IsBusy m z
  pub face_in : f ≤ length m.face_edges

turned_loop : (m : Mesh) (a b c x y z f : ℕ) → IsLoop m a b c x y z f → IsLoop m b c a y z x f
turned_loop m a b c x y z f l = assumption l

first_sound : (m : Mesh) (a b c x y z f : ℕ) → IsLoop m a b c x y z f
    → (face_edge m f ≡ a) ⊎ ((face_edge m f ≡ b) ⊎ (face_edge m f ≡ c)) → IsSoundEdge m a
first_sound m a b c x y z f l named =
    let p = l.first in
    let q = l.second in
    record {
      next_in = rw p.next l.within.1;
      prev_in = rw p.prev l.within.2;
      origin_in = rw p.origin l.busy.0.within;
      face_in = rw p.face l.face_in;
      prev_next = ap (prev m) p.next ∙ q.prev;
      next_prev = ap (next m) p.prev ∙ l.third.next;
      starts = ap (origin m) p.next ∙ q.origin ∙ sym l.ends.0;
      same_face = ap (face m) p.next ∙ q.face ∙ sym p.face;
      three = λ some. ap (next m) p.next ∙ q.next ∙ sym p.prev;
      proper = λ same. l.apart.0 (sym (sym p.next ∙ same));
      owned = λ some. rw (p.face, p.next, p.prev) named;
      has_out = rw p.origin l.busy.0.has_out;
    }

-- the three edges round a face that names the first one are sound
pub loop_sound : (m : Mesh) (a b c x y z f : ℕ) → IsLoop m a b c x y z f → face_edge m f ≡ a
    → IsSoundEdge m a × IsSoundEdge m b × IsSoundEdge m c
loop_sound m a b c x y z f l named =
    let second = turned_loop m a b c x y z f l in (
      first_sound m a b c x y z f l (inl named),
      first_sound m b c a y z x f second (inr (inr named)),
      first_sound m c a b z x y f (turned_loop m b c a y z x f second) (inr (inl named)),
    )

-- what the vertices name, where vertex v names edge x now
module _ (m new : Mesh) (v x : ℕ) (out : out_edge new v ≡ Some x)
    (others : (u : ℕ) → u ≢ v → out_edge new u ≡ out_edge m u) where
  -- a vertex that named an edge names one still
  pub still_out : KeepsOutEdges m new
  still_out u had =
      elim (cases_eq u v) [
        | inl same ↦ rw (same, out) refl
        | inr differs ↦ rw (others u differs) had
      ]

  -- each named edge starts at its vertex, where x starts at v and edges of other vertices stay
  pub still_named : AreSoundLinks m → x < length new.half_edges → origin new x ≡ v
      → ((h : ℕ) → h < length m.half_edges → origin m h ≢ v
      → (h < length new.half_edges) × (origin new h ≡ origin m h)) → (u h : ℕ)
      → out_edge new u ≡ Some h → (h < length new.half_edges) × (origin new h ≡ u)
  still_named s x_in at kept u h is =
      elim (cases_eq u v) [
        | inl same ↦ let now : x ≡ h = cc out in rw (← now, same) (x_in, at)
        | inr differs ↦
            let had = s.vertices u h (sym (others u differs) ∙ is) in
            let k = kept h had.0 (λ q. differs (sym had.1 ∙ q)) in
            (k.0, k.1 ∙ had.1)
      ]

-- what an edge's soundness rests on is in the new mesh as it was
pub record IsKept (old new : Mesh) (h : ℕ) : Type 0 where
  pub edge : edge_at new.half_edges h ≡ edge_at old.half_edges h
  pub at_next : edge_at new.half_edges (next old h) ≡ edge_at old.half_edges (next old h)
  pub at_prev : edge_at new.half_edges (prev old h) ≡ edge_at old.half_edges (prev old h)
  pub at_rev : origin new (rev h) ≡ origin old (rev h)
  pub named : 0 < face old h → face_edge new (face old h) ≡ face_edge old (face old h)
  pub out : IsSome (out_edge new (origin old h))
  pub edges : length old.half_edges ≤ length new.half_edges
  pub vertices : length old.out_edges ≤ length new.out_edges
  pub faces : length old.face_edges ≤ length new.face_edges

-- a sound edge stays sound where a change keeps what its soundness rests on
pub sound_kept : (old new : Mesh) (h : ℕ) → IsSoundEdge old h → IsKept old new h → IsSoundEdge new h
sound_kept old new h here k =
    let at_h = k.edge in
    let same_face : face new h ≡ face old h = cc in
    let same_next : next new h ≡ next old h = cc in
    let same_prev : prev new h ≡ prev old h = cc in
    let same_origin : origin new h ≡ origin old h = cc in
    record {
      next_in = omega (arith, here.next_in, k.edges);
      prev_in = omega (arith, here.prev_in, k.edges);
      origin_in = omega (arith, here.origin_in, k.vertices);
      face_in = omega (arith, here.face_in, k.faces);
      prev_next = cc here.prev_next;
      next_prev = cc here.next_prev;
      starts = cc here.starts;
      same_face = cc here.same_face;
      three = λ inner. let t = here.three (omega arith) in cc;
      proper = λ same. here.proper (cc);
      owned = λ inner.
          let was : 0 < face old h = omega arith in
          let named = k.named was in
          elim (here.owned was) [
            | inl x ↦ inl (cc)
            | inr y ↦ elim y [ inl x ↦ inr (inl (cc)) | inr x ↦ inr (inr (cc)) ]
          ];
      has_out = rw same_origin k.out;
    }
