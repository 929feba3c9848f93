-- The last vertex takes the index of one without edges.
-- Notions: HasWalked; can_walk, walk_more, walk_ends, no_end, vertex_count, sound_moved,
-- small_moved, moves_vertex.
use Rattle.std.proofs.Common.{◌≡◌, ◌≢◌, ◌+◌, ◌-◌, ◌<◌, ◌≤◌, ◌∙◌}
use Rattle.std.proofs.Common.{ℕ, zero, suc, List, length, get_or, Option, Some, None, refl, sym, ap}
use Rattle.std.proofs.Common.{inl, inr, arith}
use Rattle.std.proofs.lemmas.Bool.{cases_eq}
use Rattle.std.specs.List.{swap_remove}
use Rattle.half_edge_links.specs.{AreSoundLinks, edge_at, HalfEdge, IsAlone, IsKeptEdge, IsSmall}
use Rattle.half_edge_links.specs.{iterate, Mesh, moved, MovesVertex, Naming, next, origin, out_edge}
use Rattle.half_edge_links.specs.{prev, Renames.Renames, rev, with_origin}
use Rattle.half_edge_links.specs.Move.{CanWalk, IsOneOrbit, MovesNamed, MovesOrigins, turn_of}
use Rattle.half_edge_links.proofs.{Growing.FaceBeside.differs_alone, Lists.Orbits.comes_back}
use Rattle.half_edge_links.proofs.Lists.Rev.{rev_within}
use Rattle.half_edge_links.proofs.Removing.Conditions.{spoke_at, turn_one}
use Rattle.half_edge_links.proofs.Removing.OpenSound.{get_or-swap_remove_other}
use Rattle.half_edge_links.proofs.Removing.OpenSound.{get_or-swap_remove_same, length-swap_remove}
use Rattle.half_edge_links.proofs.Removing.OpenSound.{moved_hit, moved_miss, same_renamed}
use Rattle.half_edge_links.proofs.Sound.FieldWrites.{face_link, next_link, origin_link, prev_link}
use Rattle.half_edge_links.proofs.{Sound.FieldWrites.writes_origin, Sound.RenameSound.sound_renamed}

-- a walk on a sound mesh
pub can_walk : (m : Mesh) → AreSoundLinks m → CanWalk m.half_edges
can_walk m s = record {
  stays = λ h within. rev_within (prev m h) (length m.half_edges) s.even (s.edges h within).prev_in;
  apart = turn_one m s;
}

-- how far the walk has come: i edges have a new origin, and h is the next
pub record HasWalked (old new : List HalfEdge) (first v i h : ℕ) : Type 0 where
  pub count : length new ≡ length old
  pub nexts : (k : ℕ) → (edge_at new k).next ≡ (edge_at old k).next
  pub prevs : (k : ℕ) → (edge_at new k).prev ≡ (edge_at old k).prev
  pub faces : (k : ℕ) → (edge_at new k).face ≡ (edge_at old k).face
  pub place : h ≡ iterate (turn_of old) i first
  pub place_in : h < length old
  pub there : (j : ℕ) → j < i → (edge_at new (iterate (turn_of old) j first)).origin ≡ v
  pub other : (k : ℕ) → ((j : ℕ) → iterate (turn_of old) j first ≢ k)
      → (edge_at new k).origin ≡ (edge_at old k).origin
  pub further : (j : ℕ) → 0 < j → j ≤ i → iterate (turn_of old) j first ≢ first

module _ (old new : List HalfEdge) (first v i h : ℕ) (c : CanWalk old)
    (w : HasWalked old new first v i h) where
  -- the next edge of the walk is one of the list
  h_in : h < length new
  h_in = rw w.count w.place_in

  origin_off : (k : ℕ) → k ≢ h → (edge_at (with_origin new h v) k).origin ≡ (edge_at new k).origin
  origin_off k differs = ap origin_link ((writes_origin new h v).other k differs)

  -- the origin of a place on the walk once the next was written
  there_more : (j : ℕ) → j < i + 1
      → (edge_at (with_origin new h v) (iterate (turn_of old) j first)).origin ≡ v
  there_more j less =
      elim (cases_eq (iterate (turn_of old) j first) h) [
        | inl is ↦ ap (λ k. (edge_at (with_origin new h v) k).origin) is
            ∙ ap origin_link ((writes_origin new h v).here h_in)
        | inr off ↦ origin_off _ off ∙ w.there j (elim (cases_eq j i) [
          | inl q ↦ absurd (off (ap (λ n. iterate (turn_of old) n first) q ∙ sym w.place))
          | inr q ↦ omega arith
        ])
      ]

  other_more : (k : ℕ) → ((j : ℕ) → iterate (turn_of old) j first ≢ k)
      → (edge_at (with_origin new h v) k).origin ≡ (edge_at old k).origin
  other_more k off = origin_off k (λ q. off i (sym w.place ∙ sym q)) ∙ w.other k off

  next_place : turn_of (with_origin new h v) h ≡ iterate (turn_of old) (suc i) first
  next_place = ap rev ((writes_origin new h v).kept prev_link refl h ∙ w.prevs h)
      ∙ ap (turn_of old) w.place

  -- where the next edge is not the first one, the walk has come one step further
  pub walk_more : (n : ℕ) → n ≡ turn_of (with_origin new h v) h → n ≢ first
      → HasWalked old (with_origin new h v) first v (i + 1) n
  walk_more n is differs =
      let place : n ≡ iterate (turn_of old) (i + 1) first = let q : suc i ≡ i + 1 = omega arith in
      is ∙ next_place ∙ ap (λ j. iterate (turn_of old) j first) q in
      record {
        count = (writes_origin new h v).count ∙ w.count;
        nexts = λ k. (writes_origin new h v).kept next_link refl k ∙ w.nexts k;
        prevs = λ k. (writes_origin new h v).kept prev_link refl k ∙ w.prevs k;
        faces = λ k. (writes_origin new h v).kept face_link refl k ∙ w.faces k;
        place = place;
        place_in = let at =
            is ∙ ap rev ((writes_origin new h v).kept prev_link refl h ∙ w.prevs h) in
            rw at (c.stays h w.place_in);
        there = there_more;
        other = other_more;
        further = λ j some less. elim (cases_eq j (i + 1)) [
          | inl q ↦ λ back. differs (place ∙ sym (ap (λ n. iterate (turn_of old) n first) q) ∙ back)
          | inr q ↦ w.further j some (omega arith)
        ];
      }

  -- each place of a walk that came back after i + 1 steps is one of the first
  early : iterate (turn_of old) (suc i) first ≡ first → (n : ℕ)
      → (j : ℕ) × (j < i + 1) × (iterate (turn_of old) n first ≡ iterate (turn_of old) j first)
  early back zero = (0, omega arith, refl)
  early back (suc n) =
      let was = early back n in
      elim (cases_eq was.0 i) [
        | inl q ↦ (
          0,
          omega arith,
          ap (turn_of old) was.2 ∙ ap (λ j. turn_of old (iterate (turn_of old) j first)) q ∙ back,
        )
        | inr q ↦ (suc was.0, omega (arith, was.1), ap (turn_of old) was.2)
      ]

  -- where the next edge is the first one, the origins of all edges round the vertex are moved
  pub walk_ends : (n : ℕ) → n ≡ turn_of (with_origin new h v) h → n ≡ first
      → MovesOrigins old (with_origin new h v) first v
  walk_ends n is back =
      let round : iterate (turn_of old) (suc i) first ≡ first = sym next_place ∙ sym is ∙ back in
      record {
        count = (writes_origin new h v).count ∙ w.count;
        nexts = λ k. (writes_origin new h v).kept next_link refl k ∙ w.nexts k;
        prevs = λ k. (writes_origin new h v).kept prev_link refl k ∙ w.prevs k;
        faces = λ k. (writes_origin new h v).kept face_link refl k ∙ w.faces k;
        there = λ j. let e = early round j in
            ap (λ k. (edge_at (with_origin new h v) k).origin) e.2 ∙ there_more e.0 e.1;
        other = other_more;
      }

  -- a walk that is not back yet has not taken as many steps as there are edges
  pub no_end : first < length old → i ≡ length old → ⊥
  no_end within all =
      let b = comes_back (turn_of old) (length old) c.stays c.apart first within in
      w.further b.0 b.1 (omega (arith, b.2)) b.3

module _ (m new : Mesh) (v : ℕ) (s : AreSoundLinks m) (alone : IsAlone m v)
    (c : MovesVertex m new v) where
  abbrev last : ℕ
  last = length m.out_edges - 1

  abbrev names : Naming
  names = record {
    edge = λ h. h;
    old_edge = λ h. h;
    vertex = moved (length m.out_edges - 1) v;
    old_vertex = moved v (length m.out_edges - 1);
    face = λ f. f;
    old_face = λ f. f;
  }

  -- there is one vertex fewer
  pub vertex_count : length new.out_edges + 1 ≡ length m.out_edges
  vertex_count = let e = ap length c.out_edges in
      omega (arith, length-swap_remove m.out_edges v None, alone.0)

  -- each edge keeps its index
  kept : (h : ℕ) → h < length m.half_edges → IsKeptEdge new names h
  kept h within = record { within = rw c.edge_count within; back = refl }

  vertex_in : (x : ℕ) → x < length m.out_edges → x ≢ v
      → (moved last v x < length new.out_edges) × (moved v last (moved last v x) ≡ x)
  vertex_in x within off =
      let n = vertex_count in
      elim (cases_eq x last) [
        | inl is ↦
            rw (moved_hit last v x is) (omega (arith, alone.0), moved_hit v last v refl ∙ sym is)
        | inr differs ↦ rw (moved_miss last v x differs) (omega arith, moved_miss v last x off)
      ]

  vertex_back : (x : ℕ) → x < length new.out_edges → moved last v (moved v last x) ≡ x
  vertex_back x within =
      let n = vertex_count in
      elim (cases_eq x v) [
        | inl is ↦ rw (moved_hit v last x is) (moved_hit last v last refl ∙ sym is)
        | inr differs ↦
            rw (moved_miss v last x differs) (moved_miss last v x (λ q. absurd (omega arith)))
      ]

  -- a vertex names what it named under its old index
  outs : (x : ℕ) → x < length new.out_edges → out_edge new x ≡ out_edge m (moved v last x)
  outs x within =
      let n = vertex_count in
      elim (cases_eq x v) [
        | inl is ↦ rw (moved_hit v last x is, c.out_edges, is)
            (get_or-swap_remove_same m.out_edges v None (omega arith))
        | inr differs ↦ rw (moved_miss v last x differs, c.out_edges)
            (get_or-swap_remove_other m.out_edges v x None (omega arith) differs)
      ]

  renames_moved : Renames m new names
  renames_moved = record {
    even = rw c.edge_count s.even;
    edges = λ h within.
        let h_in : h < length m.half_edges = rw c.edge_count at within in
        let here = s.edges h h_in in
        let at = vertex_in (origin m h) here.origin_in (differs_alone m h v s h_in alone) in
        record {
          links = record {
            origin = c.origins h h_in;
            next = c.nexts h;
            prev = c.prevs h;
            face = c.faces h;
          };
          sound = here;
          back = refl;
          next_kept = kept (next m h) here.next_in;
          prev_kept = kept (prev m h) here.prev_in;
          rev_is = refl;
          origin_in = at.0;
          origin_back = at.1;
          face_in = rw (ap length c.face_edges) here.face_in;
          face_kept = λ some. (some, refl);
        };
    vertices = λ x within. record {
      out = outs x within ∙ same_renamed (out_edge m (moved v last x));
      kept = λ h is. let had = s.vertices _ h is in (kept h had.0, had.1);
      back = vertex_back x within;
    };
    faces = λ f some within.
        let had = s.faces f some (rw (ap length c.face_edges) at within) in
        record {
          named = ap (λ l. get_or l (f - 1) 0) c.face_edges;
          kept = kept _ had.0;
          of = had.1;
          back = refl;
        };
    outer = c.outer_edge ∙ same_renamed m.outer_edge;
    outer_kept = λ h is. let had = s.outer h is in (kept h had.0, had.1);
    outer_face = refl;
    has_outer = λ some. s.has_outer (rw c.edge_count at some);
  }

  -- a sound mesh stays sound when the last vertex takes the index of one without edges
  pub sound_moved : AreSoundLinks new
  sound_moved = sound_renamed m new names renames_moved

  -- a small mesh stays small when the last vertex takes the index of one without edges
  pub small_moved : IsSmall m → IsSmall new
  small_moved small = record {
    vertices = omega (arith, vertex_count, small.vertices);
    edges = rw c.edge_count small.edges;
    faces = rw (ap length c.face_edges) small.faces;
  }

-- the last vertex has the edge first, and those round it were moved
moves_some : (m new : Mesh) (v first : ℕ) → AreSoundLinks m → IsAlone m v
    → IsOneOrbit m (length m.out_edges - 1) → out_edge m (length m.out_edges - 1) ≡ Some first
    → MovesOrigins m.half_edges new.half_edges first v
    → new.out_edges ≡ swap_remove m.out_edges v None → new.face_edges ≡ m.face_edges
    → new.outer_edge ≡ m.outer_edge → MovesVertex m new v
moves_some m new v first s alone orbit named w a b c =
    let walk = can_walk m s in
    let had = s.vertices (length m.out_edges - 1) first named in
    let origins : (k : ℕ) → k < length m.half_edges
    → origin new k ≡ moved (length m.out_edges - 1) v (origin m k) =
    λ k within. elim (cases_eq (origin m k) (length m.out_edges - 1)) [
      | inl is ↦
          let i = orbit first k named within is in
          sym (ap (origin new) i.1) ∙ w.there i.0
          ∙ sym (moved_hit (length m.out_edges - 1) v (origin m k) is)
      | inr off ↦
          w.other k (λ i q. off (sym (ap (origin m) q) ∙ (spoke_at m first s had.0 i).1 ∙ had.1))
          ∙ sym (moved_miss (length m.out_edges - 1) v (origin m k) off)
    ] in
    assumption (w, a, b, c, origins)

-- the last vertex has no edges either
moves_none : (m new : Mesh) (v : ℕ) → AreSoundLinks m → IsAlone m v
    → out_edge m (length m.out_edges - 1) ≡ None → new.half_edges ≡ m.half_edges
    → new.out_edges ≡ swap_remove m.out_edges v None → new.face_edges ≡ m.face_edges
    → new.outer_edge ≡ m.outer_edge → MovesVertex m new v
moves_none m new v s alone none same a b c = record {
  edge_count = ap length same;
  nexts = λ k. ap (λ hs. (edge_at hs k).next) same;
  prevs = λ k. ap (λ hs. (edge_at hs k).prev) same;
  faces = λ k. ap (λ hs. (edge_at hs k).face) same;
  origins = λ k within. ap (λ hs. (edge_at hs k).origin) same
      ∙ sym (moved_miss (length m.out_edges - 1) v (origin m k) (λ is.
      let had = (s.edges k within).has_out in
      let no = rw (ap (out_edge m) is ∙ none) at had in
      absurd (cc)));
  out_edges = a;
  face_edges = b;
  outer_edge = c;
}

-- the last vertex, with edges or without, takes the index of one without, where its edges now start
-- there
pub moves_vertex : (m new : Mesh) (v : ℕ) (named : Option ℕ) → AreSoundLinks m → IsAlone m v
    → IsOneOrbit m (length m.out_edges - 1) → out_edge m (length m.out_edges - 1) ≡ named
    → MovesNamed m.half_edges new.half_edges named v
    → new.out_edges ≡ swap_remove m.out_edges v None → new.face_edges ≡ m.face_edges
    → new.outer_edge ≡ m.outer_edge → MovesVertex m new v
moves_vertex m new v None s alone orbit named w a b c =
    moves_none m new v s alone named (w.none refl) a b c
moves_vertex m new v (Some first) s alone orbit named w a b c =
    moves_some m new v first s alone orbit named (w.some first refl) a b c
