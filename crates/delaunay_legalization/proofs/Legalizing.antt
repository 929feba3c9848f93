-- What the functions of a legalisation need of the mesh that they are handed.
-- Notions: IsUnderway; failing_flippable, failing_apart, positive, turned_by, fixed_stay, fewer_by,
-- round_gained, half_within, edges_gained, underway_begins, step_fits, step_kept, underway_ends,
-- underway_counts, underway_keeps, drained.
use Rattle.std.proofs.Common.{◌≡◌, ◌+◌, ◌-◌, ◌*◌, ◌/◌, ◌<◌, ◌≤◌, ◌^◌, [], ◌∷◌, ◌++◌, ◌∙◌}
use Rattle.std.proofs.Common.{ℕ, suc, List, length, map, refl, sym, ap, subst, arith}
use mathlib.Core.Logic.{◌≢◌}
use Rattle.std.specs.Prelude.{Contains, take}
use Rattle.std.proofs.lemmas.List.{length-map}
use Rattle.half_edge_links.specs.{flipped, IsFlippable, IsValidMesh, Mesh, next, origin, prev, rev}
use Rattle.{half_edge_links.proofs.flips, plane.specs.IsLocallyDelaunay, plane.specs.Point}
use Rattle.plane_theorems.specs.{AllPassBut, IsMesh, LocalMesh}
use Rattle.plane_theorems.proofs.Edits.Legalization.Flipping.{none_left}
use Rattle.delaunay_legalization.specs.{AreEdges, constraint_pairs, drawn, edges_of, faces_of}
use Rattle.delaunay_legalization.specs.{Gains, GainsRound, IsFailing, IsPartlyLegal, IsTriangulated}
use Rattle.delaunay_legalization.specs.{KeepsIndexes, outer_of, pairs_at, steps_left}
use Rattle.delaunay_legalization.specs.State.{State}
use Rattle.{delaunay_legalization.proofs.WorkLists.contains_last, half_edge_dcel.specs.Contents}
use Rattle.delaunay_legalization.proofs.MeshLegal as M

module _ {points : List Point} {m : Mesh} (s : IsValidMesh m) (shape : IsMesh points (faces_of m)
    (outer_of m)) {e : ℕ} (within : e < length m.half_edges) where
  -- an edge that fails may be turned
  pub failing_flippable : IsFailing points m e → IsFlippable m e
  failing_flippable x = M.between_inner points m s
      (M.local_of points m e s.sound shape (within, x.inner)) e within x.inner x.twin_inner

  -- the corners opposite an edge that fails, one on either side, differ
  pub failing_apart : IsFailing points m e → origin m (prev m e) ≢ origin m (prev m (rev e))
  failing_apart x = M.apart_corners points m s
      (M.local_of points m e s.sound shape (within, x.inner)) e within x

-- a number that is not 0 is above it
pub positive : (n : ℕ) → ¬ (n ≡ 0) → 0 < n
positive n h = grind arith

-- ---- one step
-- a failing edge is turned and counted, and the edges round it are left: the mesh stays partly
-- legal
pub turned_by : (points : List Point) (constraints : List (ℕ × ℕ)) (was m new : Mesh)
    (ks more : List ℕ) (k start before after : ℕ) → IsValidMesh m → new ≡ flipped m (2 * k)
    → after ≡ before + 1 → IsFailing points m (2 * k) → GainsRound m (2 * k) ks more
    → AreEdges m more → IsPartlyLegal points constraints was m (ks ++ k ∷ []) start before
    → IsPartlyLegal points constraints was new more start after
turned_by points constraints was m new ks more k start before after s e f x g o p =
    subst (λ (y : Mesh × ℕ). IsPartlyLegal points constraints was y.0 more start y.1)
    (λ i. (sym e i, sym (f ∙ one_more before) i))
    (M.turned points constraints was m ks k start before s p x more g o)
  where
    one_more : (n : ℕ) → n + 1 ≡ suc n
    one_more n = omega arith

-- the turned edge is no constraint, so the constraints keep their ends
pub fixed_stay : {V D U F : Type 0} {place : V → Point} {s : State V D U F} {k : ℕ}
    (constraints : List U → List ℕ) → IsTriangulated place s
    → (2 * k) < length s.directed → IsFailing (map place s.vertices) s.mesh (2 * k)
    → ¬ Contains (constraints s.undirected) k
    → constraint_pairs constraints (flipped s.mesh (2 * k)) s.undirected
    ≡ constraint_pairs constraints s.mesh s.undirected
fixed_stay {place = place} {s = s} {k = k} constraints kept within x free =
    M.pairs_stay (map place s.vertices) s.mesh kept.valid (M.local_of (map place s.vertices) s.mesh
    (2 * k) kept.valid.sound kept.shape (in_mesh, x.inner)) k in_mesh x
    (constraints s.undirected) free
  where
    in_mesh : (2 * k) < length s.mesh.half_edges
    in_mesh = subst (λ (n : ℕ). (2 * k) < n) kept.fits.directed_fit within

-- a flip of a failing edge leaves fewer steps, whatever edges are put on the list for it
pub fewer_by : (points : List Point) (m new : Mesh) (ks more : List ℕ) (k : ℕ) → IsValidMesh m
    → IsMesh points (faces_of m) (outer_of m) → new ≡ flipped m (2 * k) → IsFailing points m (2 * k)
    → AreEdges m (ks ++ k ∷ []) → AreEdges m more
    → steps_left points new more < steps_left points m (ks ++ k ∷ [])
fewer_by points m new ks more k s shape e x own o =
    subst (λ y. steps_left points y more < steps_left points m (ks ++ k ∷ [])) (sym e)
    (M.fewer_after_flip points m (flipped m (2 * k)) (ks ++ k ∷ []) more
    (M.volume_falls points m s local (2 * k) within x)
    (flips m (2 * k) s.sound (M.can_turn points m s local (2 * k) within x)).edge_count o)
  where
    within : (2 * k) < length m.half_edges
    within = own.within k (contains_last ks k)

    local : LocalMesh points (faces_of m) (outer_of m)
    local = M.local_of points m (2 * k) s.sound shape (within, x.inner)

-- a list that gains the four edges round an edge one by one has gained its round
pub round_gained : {m : Mesh} {e a b c d : ℕ} {one two three four five : List ℕ} → a ≡ next m e
    → b ≡ prev m e → c ≡ next m (rev e) → d ≡ prev m (rev e) → Gains one two (a / 2)
    → Gains two three (b / 2) → Gains three four (c / 2) → Gains four five (d / 2)
    → GainsRound m e one five
round_gained {m = m} {e = e} {one = one} {two = two} {three = three} {four = four} {five = five}
    p q r s f g h i =
    M.gains_round m e one two three four five (subst (λ (z : ℕ). Gains one two (z / 2)) p f) (subst
    (λ (z : ℕ). Gains two three (z / 2)) q g) (subst (λ (z : ℕ). Gains three four (z / 2)) r h)
    (subst (λ (z : ℕ). Gains four five (z / 2)) s i)

-- ---- the loop
-- what holds from one edge to the next
pub record IsUnderway {V D U F : Type 0} (fix : List U → List ℕ) (points : List Point)
    (was now : Contents V D U F) (ks : List ℕ) (room_was room start flips : ℕ) : Type 0 where
  pub contents : now ≡ record was { mesh = now.mesh }
  pub constraints : constraint_pairs fix now.mesh now.undirected
      ≡ constraint_pairs fix was.mesh was.undirected
  pub legal : IsPartlyLegal points
      (constraint_pairs fix was.mesh was.undirected) was.mesh now.mesh ks start flips
  pub room_stays : room ≡ room_was

one_more_fits : (points : List Point) (constraints : List (ℕ × ℕ)) (was m : Mesh) (ks : List ℕ)
    (k start flips n : ℕ) → IsValidMesh m
    → IsPartlyLegal points constraints was m (ks ++ k ∷ []) start flips → length points ≡ n
    → 2 * start + n * (n - 1) < 2 ^ 65 → IsFailing points m (2 * k) → flips + 1 < 2 ^ 64
one_more_fits points constraints was m ks k start flips n s p e h x = fits start (length p.away)
    flips (n * (n - 1)) p.count h (subst (λ (z : ℕ). 2 * suc (length p.away) ≤ z * (z - 1)) e
    (M.one_more_flip points constraints was m ks k start flips s p x))
  where
    fits : (start a flips q : ℕ) → start + a ≡ flips → 2 * start + q < 2 ^ 65 → 2 * suc a ≤ q
        → flips + 1 < 2 ^ 64
    fits start a flips q c h b = omega arith

-- the first direction of a half edge is one of the mesh
pub half_within : (m : Mesh) (h n k : ℕ) → n ≡ length m.half_edges → h < n → k ≡ h / 2
    → (2 * k) < length m.half_edges
half_within m h n k e l f = grind arith

-- a list of edges that gains the edge of a half edge is one still
pub edges_gained : (m : Mesh) (old new : List ℕ) (h n : ℕ) → n ≡ length m.half_edges → h < n
    → AreEdges m old → Gains old new (h / 2) → AreEdges m new
edges_gained m old new h n e l o g =
    M.gains_edges m old new (h / 2) o (half_within m h n (h / 2) e l refl) g

-- before the first edge nothing has changed yet
pub underway_begins : {V D U F : Type 0} (fix : List U → List ℕ) (points : List Point)
    (c : Contents V D U F) (ks : List ℕ) (room start : ℕ)
    → IsMesh points (faces_of c.mesh) (outer_of c.mesh) → AreEdges c.mesh ks → AllPassBut points
    (faces_of c.mesh) (constraint_pairs fix c.mesh c.undirected) (pairs_at c.mesh ks)
    → IsUnderway fix points c c ks room room start start
underway_begins fix points c ks room start shape edges passing = record {
  contents = refl;
  constraints = refl;
  legal = M.begins points
      (constraint_pairs fix c.mesh c.undirected) c.mesh ks start shape edges passing;
  room_stays = refl;
}

module _ {V D U F : Type 0} (at : V → Point) (fix : List U → List ℕ) (was now : Contents V D U F)
    (all : List ℕ) (room_was room start flips : ℕ)
    (u : IsUnderway fix (map at was.vertices) was now all room_was room start flips) where
  abbrev fixed_first : List (ℕ × ℕ)
  fixed_first = constraint_pairs fix was.mesh was.undirected

  same_vertices : now.vertices ≡ was.vertices
  same_vertices = ap (λ (c : Contents V D U F). c.vertices) u.contents

  module _ (ks : List ℕ) (k : ℕ) (popped : all ≡ ks ++ k ∷ []) where
    before_step :
        IsPartlyLegal (map at was.vertices) fixed_first was.mesh now.mesh (ks ++ k ∷ []) start flips
    before_step = subst (λ (zs : List ℕ). IsPartlyLegal
        (map at was.vertices) fixed_first was.mesh now.mesh zs start flips) popped u.legal

    -- where the edge taken fails, the count has room for one more flip
    pub step_fits : IsValidMesh now.mesh
        → 2 * start + length was.vertices * (length was.vertices - 1) < 2 ^ 65
        → IsFailing (map at now.vertices) now.mesh (2 * k) → flips + 1 < 2 ^ 64
    step_fits s h x = one_more_fits (map at was.vertices) fixed_first was.mesh now.mesh ks k start
        flips (length was.vertices) s before_step (length-map was.vertices at) h
        (subst (λ (vs : List V). IsFailing (map at vs) now.mesh (2 * k)) same_vertices x)

    -- a step after which the mesh is partly legal, with all else as it was, leaves the rest under
    -- way
    pub step_kept : (after : Contents V D U F) (more : List ℕ) (room_after flips_after : ℕ) → after
        ≡ record now { mesh = after.mesh } → constraint_pairs fix after.mesh after.undirected
        ≡ constraint_pairs fix now.mesh now.undirected
        → ((first : Mesh) (start : ℕ) → IsPartlyLegal (map at now.vertices)
        (constraint_pairs fix now.mesh now.undirected) first now.mesh (ks ++ k ∷ []) start flips
        → IsPartlyLegal (map at now.vertices)
        (constraint_pairs fix now.mesh now.undirected) first after.mesh more start flips_after)
        → room_after ≡ room → IsUnderway fix
        (map at was.vertices) was after more room_was room_after start flips_after
    step_kept after more room_after flips_after contents constraints legal e = record {
      contents = contents
          ∙ ap (λ (c : Contents V D U F). record c { mesh = after.mesh }) u.contents;
      constraints = constraints ∙ u.constraints;
      legal = subst (λ (y : List V × List (ℕ × ℕ)). IsPartlyLegal
          (map at y.0) y.1 was.mesh after.mesh more start flips_after) same_both
          (legal was.mesh start (subst (λ (y : List V × List (ℕ × ℕ)). IsPartlyLegal (map at y.0)
          y.1 was.mesh now.mesh (ks ++ k ∷ []) start flips) (sym same_both) before_step));
      room_stays = e ∙ u.room_stays;
    }
      where
        same_both : (let a : List V × List (ℕ × ℕ) =
            (now.vertices, constraint_pairs fix now.mesh now.undirected) in
            let b : List V × List (ℕ × ℕ) = (was.vertices, fixed_first) in a ≡ b)
        same_both = λ i. (same_vertices i, u.constraints i)

  -- when no edge is left, the mesh is locally Delaunay with the constraints that it had
  pub underway_ends : all ≡ []
      → IsLocallyDelaunay (drawn (map at was.vertices) now.mesh) fixed_first
  underway_ends e = none_left (map at was.vertices) (faces_of now.mesh)
      (edges_of now.mesh) fixed_first (subst (λ (zs : List ℕ). AllPassBut (map at was.vertices)
      (faces_of now.mesh) fixed_first (pairs_at now.mesh zs)) e u.legal.passing)

  -- with n vertices there were at most n (n - 1) / 2 flips since the start
  pub underway_counts : 2 * (flips - start) ≤ length was.vertices * (length was.vertices - 1)
  underway_counts =
      subst (λ (n : ℕ). 2 * (flips - start) ≤ n * (n - 1)) (length-map was.vertices at)
      (M.few_flips (map at was.vertices) fixed_first was.mesh now.mesh all start flips u.legal).1

  -- all that stood before, and stands, has its index
  pub underway_keeps : IsValidMesh now.mesh → KeepsIndexes was.mesh now.mesh
  underway_keeps s =
      M.indexes_kept (map at was.vertices) fixed_first was.mesh now.mesh all start flips s u.legal

-- a list whose last entry was taken, and that had none, was empty
pub drained : (xs ys : List ℕ) (v : ℕ) → xs ≡ ys ++ [] → ys ≡ take (v - 1) xs → v ≡ 0 → xs ≡ []
drained xs ys v e f z = e ∙ ap (λ zs. zs ++ []) (f ∙ ap (λ (n : ℕ). take (n - 1) xs) z)
