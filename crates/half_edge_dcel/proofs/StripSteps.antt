-- A vertex on the hull loses its faces one by one.
-- Notions: IsStripped; same_but, same_but_faces, same_but_edges, one_more_gone, none_gone,
-- stripped_none, strip_sum, stripped_peelable, stripped_next, stripped_removable, strip_lost.
use Rattle.std.proofs.Common.{◌≡◌, ◌+◌, ◌<◌, ◌≤◌, [], ◌∷◌, ◌++◌, ◌∙◌}
use Rattle.std.proofs.Common.{ℕ, zero, suc, List, refl, sym, ap, inr, arith}
use Rattle.std.specs.Prelude.{ℤ, pos, ◌+ℤ◌}
use Rattle.std.specs.List.{AllZip}
use Rattle.std.specs.List.Sorted.{IsPermutation}
use Rattle.std.proofs.lemmas.Int.{ints}
use Rattle.std.proofs.lemmas.List.Sorted.{IsPermutation-refl, IsPermutation-trans}
use Rattle.std.proofs.lemmas.List.Sorted.{IsPermutation-append_right, IsPermutation-middle}
use Rattle.half_edge_links.specs.{around, both_ways, IsPeelable, IsRemovable, IsStrip}
use Rattle.half_edge_links.specs.{KeepsOneOutline, Mesh, neighbour, origin, prev, rev, total}
use Rattle.half_edge_links.proofs.{Removing.StripLemmas.strip_from, rev-rev}
use Rattle.half_edge_links.proofs.Removing.Conditions.{full_strip, IsFullStrip}
use Rattle.half_edge_links.proofs.Removing.StripLemmas.{one_more, removable_strip, strip_ends}
use Rattle.half_edge_dcel.specs.{Connects, Contents, faces_between, full_edges, full_faces}
use Rattle.half_edge_dcel.specs.{full_faces_of, HasCorners, IsMeshWithData, joins, LosesEdges}
use Rattle.half_edge_dcel.specs.{LosesFaces, LosesStrip, OuterSumsChange, RemovesFullEdge}
use Rattle.{half_edge_dcel.specs.spokes_to, half_edge_links.specs.Flow.along}
use Rattle.half_edge_dcel.specs.{MeshContents.KeepsVertices, Removal.chain, Taking.PeelsFullEdge}
use Rattle.{half_edge_dcel.proofs.LineSteps.alone_after, half_edge_links.specs.triangle_at}
use Rattle.half_edge_dcel.proofs.OuterSums.{corners_sum, ends_sum, outer_sum}

module _ {V D U F : Type 0} where
  -- one after the other, two changes keep the vertices, the outer face and the room if each does
  pub same_but : (a b c : Contents V D U F) → KeepsVertices a b → KeepsVertices b c
      → KeepsVertices a c
  same_but a b c p q = q ∙ ap (λ (x : Contents V D U F). record x
      { mesh = c.mesh; directed = c.directed; undirected = c.undirected; faces = c.faces }) p

  -- a change of links and data of faces keeps the vertices, the outer face and the room
  pub same_but_faces : (a b : Contents V D U F) → b ≡ record a { mesh = b.mesh; faces = b.faces }
      → KeepsVertices a b
  same_but_faces a b p = p
      ∙ (λ i. record a {
        mesh = b.mesh;
        directed = ap (λ (x : Contents V D U F). x.directed) (sym p)
            i;
        undirected = ap (λ (x : Contents V D U F). x.undirected) (sym p) i;
        faces = b.faces;
      })

  -- a change of links and data of edges keeps the vertices, the outer face and the room
  pub same_but_edges : (a b : Contents V D U F)
      → b ≡ record a { mesh = b.mesh; directed = b.directed; undirected = b.undirected }
      → KeepsVertices a b
  same_but_edges a b p = p ∙ (λ i. record a {
    mesh = b.mesh;
    directed = b.directed;
    undirected = b.undirected;
    faces = ap (λ (x : Contents V D U F). x.faces) (sym p) i;
  })

-- one more item goes
pub one_more_gone : {X Y : Type 0} (R : X → Y → Type 0) (old mid new : List X) (gone : List Y)
    (g : Y) → (lost : List X) × AllZip R lost gone × IsPermutation old (lost ++ mid)
    → (more : List X) × AllZip R more (g ∷ []) × IsPermutation mid (more ++ new)
    → (all : List X) × AllZip R all (g ∷ gone) × IsPermutation old (all ++ new)
one_more_gone R old mid new gone g a ([], z, p) = absurd z
one_more_gone R old mid new gone g a (x ∷ [], z, p) = (
  x ∷ a.0,
  (z.0, a.1),
  IsPermutation-trans _ _ _ a.2 (IsPermutation-trans _ _ _
      (IsPermutation-append_right a.0 _ _ p) (IsPermutation-middle a.0 x new)),
)
one_more_gone R old mid new gone g a (x ∷ y ∷ more, z, p) = absurd z.1

-- a list is itself and nothing that was lost
pub none_gone : {X Y : Type 0} (R : X → Y → Type 0) (xs : List X)
    → (lost : List X) × AllZip R lost [] × IsPermutation xs (lost ++ xs)
none_gone R xs = ([], tt, IsPermutation-refl xs)

-- what holds between two steps: so many faces have gone from edge first on, and h is the next edge
pub record IsStripped {V D U F : Type 0} (old : Contents V D U F) (first count : ℕ)
    (c : Contents V D U F) (h gone : ℕ) : Type 0 where
  pub left : ℕ
  pub sum : gone + left ≡ count
  pub strip : IsStrip c.mesh h left
  pub start : origin c.mesh h ≡ origin old.mesh first
  pub ends_at : (i : ℕ) → i ≤ left → neighbour c.mesh h i ≡ neighbour old.mesh first (gone + i)
  pub edges : LosesEdges old c (spokes_to (origin old.mesh first) (neighbour old.mesh first) gone)
  pub faces :
      LosesFaces old c (faces_between (origin old.mesh first) (neighbour old.mesh first) gone)
  pub contents : KeepsVertices old c
  pub outline : KeepsOneOutline old.mesh c.mesh
  pub was : IsMeshWithData old
  pub whole : IsMeshWithData c

-- before the first step no face of a strip has gone
pub stripped_none : {V D U F : Type 0} {c : Contents V D U F} {h count : ℕ} → IsMeshWithData c
    → IsStrip c.mesh h count → IsStripped c h count c h 0
stripped_none {c} {h} {count} whole f = record {
  left = count;
  sum = omega arith;
  strip = f;
  start = refl;
  ends_at = λ i less. ap (neighbour c.mesh h) (let e : i ≡ 0 + i = omega arith in e);
  edges = none_gone Connects (full_edges c);
  faces = none_gone HasCorners (full_faces c);
  contents = refl;
  outline = λ one. one;
  was = whole;
  whole = whole;
}

-- ---- the outer edges
module _ (f : ℕ → ℕ → ℤ) (v : ℕ) (n : ℕ → ℕ) where
  -- the sides of the faces of a strip, but for the spokes, are its outer sides
  pub strip_sum : (k : ℕ) → total (around f) (faces_between v n k) +ℤ (f (n 0) v +ℤ f v (n k))
      ≡ total (both_ways f) (spokes_to v n (suc k)) +ℤ total (along f) (chain n k)
  strip_sum zero = omega (arith, ints)
  strip_sum (suc k) = omega (arith, ints, strip_sum k)

-- where a vertex of the hull loses its faces, their far sides replace its two outer edges
outer_stripped : {V D U F : Type 0} (old new : Contents V D U F) (v : ℕ) (n : ℕ → ℕ) (k : ℕ)
    → IsMeshWithData old → IsMeshWithData new → LosesEdges old new (spokes_to v n (suc k))
    → LosesFaces old new (faces_between v n k)
    → OuterSumsChange old.mesh new.mesh (joins (n 0) v ∷ joins v (n k) ∷ []) (chain n k)
outer_stripped old new v n k a b edges faces f =
    let es = ends_sum f old new _ a b edges in
    let ts = corners_sum f old new _ a b faces in
    let ge = total (both_ways f) (spokes_to v n (suc k)) in
    let gt = total (around f) (faces_between v n k) in
    let o = outer_sum f old.mesh new.mesh a.valid b.valid ge (pos 0) gt (pos 0)
    (omega (arith, ints, es)) (omega (arith, ints, ts)) in
    omega (arith, ints, o, strip_sum f v n k)

-- ---- the steps, and what they ask for
module _ {V D U F : Type 0} {old c : Contents V D U F} {first count h gone : ℕ}
    (f : IsStripped old first count c h gone) where
  abbrev m : Mesh
  m = c.mesh

  abbrev v : ℕ
  v = origin old.mesh first

  -- the neighbours that the vertex had
  abbrev n : ℕ → ℕ
  n = neighbour old.mesh first

  end_is : origin m (rev h) ≡ n gone
  end_is = f.ends_at 0 (omega arith) ∙ ap n (let e : gone + 0 ≡ gone = omega arith in e)

  spoke_is : joins (origin m h) (origin m (rev h)) ≡ joins v (n gone)
  spoke_is = λ i. joins (f.start i) (end_is i)

  -- as long as faces are left, the next edge may be peeled off
  pub stripped_peelable : gone < count → IsPeelable m h
  stripped_peelable less = record {
    within = f.strip.within;
    inner = f.strip.inner 0 (omega (arith, f.sum, less));
    outer = f.strip.outer;
  }

  -- one more face goes, for the next count of a loop
  pub stripped_next : {new : Contents V D U F} {g next_gone : ℕ} → gone < count
      → PeelsFullEdge c new h g → next_gone ≡ suc gone → IsStripped old first count new g next_gone
  stripped_next {new} {g} less p more =
      let s = f.whole.valid.sound in
      let j = one_more m h f.left f.strip (stripped_peelable less).inner in
      let full : IsFullStrip m h (suc j.0) =
      full_strip m h (suc j.0) f.whole.valid (rw j.1 at f.strip) in
      let after = strip_ends m new.mesh h j.0 g s full p.peels p.spoke in
      let next_end : origin m (prev m h) ≡ n (suc gone) =
      ap (origin m) (sym (rev-rev (prev m h))) ∙ f.ends_at 1 (omega (arith, j.1))
      ∙ ap n (let e : gone + 1 ≡ suc gone = omega arith in e) in
      let face_is : triangle_at m h
      ≡ record { first = v; second = n gone; third = n (suc gone) } = λ i. record {
        first = f.start i;
        second = ((s.edges h f.strip.within).starts ∙ end_is) i;
        third = next_end i;
      } in
      rw more (record {
        left = j.0;
        sum = omega (arith, f.sum, j.1);
        strip = (strip_from m new.mesh h j.0 g s full p.peels p.spoke).strip;
        start = after.0 ∙ f.start;
        ends_at = λ i less. after.1 i less ∙ f.ends_at (suc i) (omega (arith, less, j.1))
            ∙ ap n (let e : gone + suc i ≡ suc gone + i = omega arith in e);
        edges = one_more_gone Connects (full_edges old) (full_edges c) (full_edges new) _
            (joins v (n gone)) f.edges (rw spoke_is at p.edges);
        faces = one_more_gone HasCorners (full_faces old) (full_faces c) (full_faces new) _
            (record { first = v; second = n gone; third = n (suc gone) }) f.faces
            (rw face_is at p.faces);
        contents = same_but old c new f.contents p.contents;
        outline = λ one. p.outline (f.outline one);
        was = f.was;
        whole = p.whole;
      })

  all_gone : gone ≡ count → IsStrip m h 0
  all_gone is = rw (let e : 0 ≡ f.left = omega (arith, f.sum, is) in e) f.strip

  -- once all faces are gone, the last edge may be removed
  pub stripped_removable : gone ≡ count → IsRemovable m h
  stripped_removable is = removable_strip m h (all_gone is)

  -- once the last edge is removed too, the vertex has lost its edges and the faces of the strip
  pub strip_lost : {new : Contents V D U F} → gone ≡ count → RemovesFullEdge c new h
      → LosesStrip old new v n count
  strip_lost {new} is r =
      let all = one_more_gone Connects (full_edges old) (full_edges c) (full_edges new) _
      (joins v (n count)) (rw is at f.edges) (rw is at (rw spoke_is at r.edges)) in
      let fs_is : new.faces ≡ c.faces = ap (λ (x : Contents V D U F). x.faces) r.contents in
      let faces_are : full_faces new ≡ full_faces c =
      λ i. full_faces_of (r.triangles i) (fs_is i) in
      let faces : LosesFaces old new (faces_between v n count) = rw faces_are (rw is at f.faces) in
      let gone_at = alone_after m new.mesh h f.whole.valid.sound (stripped_removable is)
      ((all_gone is).gap) r.removes in
      record {
        contents = same_but old c new f.contents (same_but_edges c new r.contents);
        alone = rw f.start at gone_at;
        edges = all;
        faces = faces;
        outer = outer_stripped old new v n count f.was r.whole all faces;
        outline = λ one. r.outline (inr (all_gone is).gap) (f.outline one);
      }
