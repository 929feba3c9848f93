-- The faces of a mesh, one after another, by their corners.
-- Lemmas: rows_by_index, as_faces, name_at, row_more, rows_end, indexes_if, same_indexes.
use Rattle.std.proofs.Common.{◌≡◌, ◌+◌, ◌-◌, ◌<◌, [], ◌∷◌, ◌++◌, ◌∙◌}
use Rattle.std.proofs.Common.{ℕ, List, length, map, get_or, refl, sym, ap, arith, append_assoc}
use Rattle.std.proofs.Common.{append-nil}
use Rattle.std.specs.List.{range_with_len}
use Rattle.std.proofs.lemmas.List.{get_or-map, length-map, same_lists}
use Rattle.std.proofs.Math.ListN.{get_or-map as get_or-map-default}
use Rattle.std.proofs.lemmas.List.FromFn.{get_or-map-range_with_len, length-map-range_with_len}
use Rattle.half_edge_links.specs.{face_edge, Mesh, Triangle, triangle_at, triangles}
use Rattle.delaunay_legalization.specs.{corners_of}
use Rattle.drawing_faces.specs.{Drawing.indexes_of, face_of, FaceCorners, indexes_at}

module _ (m : Mesh) where
  row_same : (k : ℕ) (d : FaceCorners) → k < length m.face_edges
      → get_or (map indexes_of (triangles m)) k d ≡ indexes_at m (k + 1)
  row_same k d h =
      let t = triangle_at m 0 in
      let same : k + 1 - 1 ≡ k = omega arith in
      get_or-map indexes_of (triangles m) k t d
      (omega (arith, h, length-map m.face_edges (triangle_at m)))
      ∙ ap indexes_of (get_or-map (triangle_at m) m.face_edges k 0 t h)
      ∙ ap (λ i. indexes_of (triangle_at m (get_or m.face_edges i 0))) (sym same)

  -- the corners of all inner faces, by their indexes, are those of the triangles
  pub rows_by_index : (n : ℕ) → n ≡ length m.face_edges
      → map (indexes_at m) (range_with_len 1 n) ≡ map indexes_of (triangles m)
  rows_by_index n e = same_lists (map (indexes_at m) (range_with_len 1 n))
      (map indexes_of (triangles m))
      (omega (
        arith,
        e,
        length-map-range_with_len (indexes_at m) 1 n,
        length-map (triangles m) indexes_of,
        length-map m.face_edges (triangle_at m),
      ))
      (λ k d h. let below : k < n = omega (
        arith,
        h,
        length-map-range_with_len (indexes_at m) 1 n,
      ) in
      get_or-map-range_with_len (indexes_at m) 1 n k (k + 1) d below (omega arith)
      ∙ sym (row_same k d (omega (arith, below, e))))

-- as faces they are those of the tiling
pub as_faces : (ts : List Triangle) → map face_of (map indexes_of ts) ≡ map corners_of ts
as_faces [] = refl
as_faces (t ∷ ts) = ap (λ ys. corners_of t ∷ ys) (as_faces ts)

-- the name of an element of a list, by the list of their names
pub name_at : {X : Type 0} (f : X → ℕ) (xs : List X) (k : ℕ) (d : X) (names : List ℕ)
    → map f xs ≡ names → f (get_or xs k d) ≡ get_or names k (f d)
name_at f xs k d names m = sym (get_or-map-default f xs k d) ∙ ap (λ ys. get_or ys k (f d)) m

-- one more face
pub row_more : (row : ℕ → FaceCorners) (done : List FaceCorners) (r : FaceCorners)
    (rest others : List ℕ) (k : ℕ) (all : List FaceCorners) → rest ≡ k ∷ others → r ≡ row k
    → done ++ map row rest ≡ all → (done ++ r ∷ []) ++ map row others ≡ all
row_more row done r rest others k all split e so_far =
    append_assoc done (r ∷ []) (map row others) ∙ ap (λ x. done ++ (x ∷ map row others)) e
    ∙ ap (λ ys. done ++ map row ys) (sym split) ∙ so_far

-- where no face is left, those so far are all
pub rows_end : (row : ℕ → FaceCorners) (done : List FaceCorners) (rest : List ℕ)
    (all : List FaceCorners) → rest ≡ [] → done ++ map row rest ≡ all → done ≡ all
rows_end row done rest all e so_far =
    sym (append-nil done) ∙ ap (λ ys. done ++ map row ys) (sym e) ∙ so_far

-- the corners of a face, by their indexes
pub indexes_if : (m : Mesh) (f a b c : ℕ) → (let t = triangle_at m (face_edge m f) in
    (a ≡ t.first) × (b ≡ t.second) × (c ≡ t.third))
    → record { first = a; second = b; third = c } ≡ indexes_at m f
indexes_if m f a b c (ea, eb, ec) = rw (ea, eb, ec) refl

-- the corners of a face depend on the mesh and its index alone
pub same_indexes : (m n : Mesh) (i j : ℕ) → m ≡ n → i ≡ j → indexes_at n j ≡ indexes_at m i
same_indexes m n i j same_mesh same_index = rw (same_mesh, same_index) refl
