-- There are data for each part of a mesh after a change.
-- Lemmas: length-grown, length_moved, one_longer, fits_grown, fits_grown_edge, fits_moved,
-- fits_vertex, fits_hung, fits_closed, fits_beside, fits_connected, fits_slid, fits_flipped,
-- fits_inserted.
use Rattle.std.proofs.Common.{◌≡◌, ℕ, ◌+◌, List, [], ◌∷◌, ◌++◌, ◌∙◌, length, arith, set, ap}
use Rattle.std.proofs.Common.{length-append}
use Rattle.std.proofs.lemmas.List.{length-set, length_push}
use Rattle.half_edge_links.specs.{closed, closed_edges, connected, flip_by, flipped, hung}
use Rattle.half_edge_links.specs.{hung_edges, insert_by, inserted, Mesh, slid, slid_edges}
use Rattle.half_edge_links.specs.{with_face, with_next, with_origin, with_prev, with_vertex}
use Rattle.half_edge_dcel.specs.{FitsMesh, Grows, Growth.MovesItem}

-- a list that has grown by so many items is so much longer
pub length-grown : {X : Type 0} (P : X → Type 0) (old new : List X) (more : ℕ)
    → Grows P old new more → length new ≡ length old + more
length-grown P old new more g = rw g.whole (omega (arith, length-append old g.added, g.count))

-- there are data for each part once a vertex is added with its data
pub fits_vertex : {m : Mesh} {v d u f : ℕ} → FitsMesh m v d u f
    → FitsMesh (with_vertex m) (v + 1) d u f
fits_vertex fit = record {
  vertices_fit = simp length-append (omega (arith, fit.vertices_fit));
  directed_fit = fit.directed_fit;
  undirected_fit = fit.undirected_fit;
  faces_fit = fit.faces_fit;
}

-- there are data for each part once an edge to vertex w is added with its data
pub fits_hung : {m : Mesh} {v d u f : ℕ} (x w : ℕ) → FitsMesh m v d u f
    → FitsMesh (hung m x w) v (d + 2) (u + 1) f
unfolding hung hung_edges with_next with_prev
fits_hung x w fit = record {
  vertices_fit = simp length-set fit.vertices_fit;
  directed_fit = simp (length-set, length-append) (omega (arith, fit.directed_fit));
  undirected_fit = simp (length-set, length-append) (omega (arith, fit.undirected_fit));
  faces_fit = fit.faces_fit;
}

-- there are data for each part once a face and an edge are added with their data
pub fits_closed : {m : Mesh} {v d u f : ℕ} (e : ℕ) → FitsMesh m v d u f
    → FitsMesh (closed m e) v (d + 2) (u + 1) (f + 1)
unfolding closed closed_edges with_next with_prev with_face
fits_closed e fit = record {
  vertices_fit = fit.vertices_fit;
  directed_fit = simp (length-set, length-append) (omega (arith, fit.directed_fit));
  undirected_fit = simp (length-set, length-append) (omega (arith, fit.undirected_fit));
  faces_fit = simp length-append (omega (arith, fit.faces_fit));
}

-- there are data for each part once an edge to vertex w and a face of it are added with their data
pub fits_beside : {m : Mesh} {v d u f : ℕ} (x w e : ℕ) → FitsMesh m v d u f
    → FitsMesh (closed (hung m x w) e) v (d + 4) (u + 2) (f + 1)
fits_beside {m} {v} {d} {u} {f} x w e fit =
    let both : FitsMesh (closed (hung m x w) e) v (d + 2 + 2) (u + 1 + 1) (f + 1) =
    fits_closed e (fits_hung x w fit) in
    record {
      vertices_fit = both.vertices_fit;
      directed_fit = omega (arith, both.directed_fit);
      undirected_fit = omega (arith, both.undirected_fit);
      faces_fit = both.faces_fit;
    }

-- there are data for each part once the first edge is added with its data
pub fits_connected : {m : Mesh} {v d u f : ℕ} (a b : ℕ) → u ≡ 0 → FitsMesh m v d u f
    → FitsMesh (connected m a b) v (d + 2) (u + 1) f
fits_connected a b none fit = record {
  vertices_fit = simp length-set fit.vertices_fit;
  directed_fit = omega (arith, none, fit.directed_fit, fit.undirected_fit);
  undirected_fit = omega (arith, none);
  faces_fit = fit.faces_fit;
}

-- there are data for each part after an edge slid, which needs no more of them
pub fits_slid : {m : Mesh} {v d u f : ℕ} (e : ℕ) → FitsMesh m v d u f → FitsMesh (slid m e) v d u f
unfolding slid slid_edges with_next with_prev with_origin
fits_slid e fit = record {
  vertices_fit = simp length-set fit.vertices_fit;
  directed_fit = simp length-set fit.directed_fit;
  undirected_fit = simp length-set fit.undirected_fit;
  faces_fit = fit.faces_fit;
}

-- there are data for each part after a flip, which needs no more of them
pub fits_flipped : {m : Mesh} {v d u f : ℕ} (e : ℕ) → FitsMesh m v d u f
    → FitsMesh (flipped m e) v d u f
unfolding flipped flip_by
fits_flipped e fit = record {
  vertices_fit = simp length-set fit.vertices_fit;
  directed_fit = simp length-set fit.directed_fit;
  undirected_fit = simp length-set fit.undirected_fit;
  faces_fit = simp length-set fit.faces_fit;
}

-- there are data for each part once a vertex in a face gets three edges and two new faces with
-- their data
pub fits_inserted : {m : Mesh} {v d u f : ℕ} (w a : ℕ) → FitsMesh m v d u f
    → FitsMesh (inserted m w a) v (d + 6) (u + 3) (f + 2)
unfolding inserted insert_by
fits_inserted w a fit = record {
  vertices_fit = simp length-set fit.vertices_fit;
  directed_fit = simp (length-set, length-append) (omega (arith, fit.directed_fit));
  undirected_fit = simp (length-set, length-append) (omega (arith, fit.undirected_fit));
  faces_fit = simp (length-set, length-append) (omega (arith, fit.faces_fit));
}

-- a list of which an item moved to the end is longer by one and by the new items after it
pub length_moved : {X : Type 0} {P : X → Type 0} {old new : List X} {i more : ℕ}
    → MovesItem P old new i more → length new ≡ length old + 1 + more
length_moved {old = old} {i = i} m = rw m.whole (omega (
  arith,
  length-append (set old i m.made) (m.kept ∷ m.added),
  length-set old i m.made,
  m.count,
))

-- ---- lists of data that grow as the mesh does
-- a list that stays once an item was pushed is longer by one
pub one_longer : {X : Type 0} {pushed new : List X} (old : List X) (x : X) → pushed ≡ old ++ x ∷ []
    → new ≡ pushed → length new ≡ length old + 1
one_longer old x push stays =
    ap length stays ∙ ap length push ∙ length_push old x

module _ {DE UE : Type 0} {D : DE → Type 0} {U : UE → Type 0} {m : Mesh} {n v : ℕ}
    {ds ds' : List DE} {us us' : List UE} where
  -- one edge more
  pub fits_grown_edge : {f : ℕ} → Grows D ds ds' 2 → Grows U us us' 1 → n ≡ v
      → FitsMesh m v (length ds + 2) (length us + 1) f → FitsMesh m n (length ds') (length us') f
  fits_grown_edge gd gu at fit = rw (at, length-grown _ _ _ _ gd, length-grown _ _ _ _ gu) fit

  module _ {FA : Type 0} {F : FA → Type 0} {fs fs' : List FA} where
    -- so many more edges and faces
    pub fits_grown : {d u f : ℕ} → Grows D ds ds' d → Grows U us us' u → Grows F fs fs' f → n ≡ v
        → FitsMesh m v (length ds + d) (length us + u) (length fs + f)
        → FitsMesh m n (length ds') (length us') (length fs')
    fits_grown gd gu gf at fit = rw
        (at, length-grown _ _ _ _ gd, length-grown _ _ _ _ gu, length-grown _ _ _ _ gf) fit

    -- so many more edges and faces, where the data of an edge move
    pub fits_moved : {mid : List DE} {i j k d u f : ℕ} → MovesItem D ds mid i 0
        → MovesItem D mid ds' j d → MovesItem U us us' k u → Grows F fs fs' f → n ≡ v
        → FitsMesh m v (length ds + (d + 2)) (length us + (u + 1)) (length fs + f)
        → FitsMesh m n (length ds') (length us') (length fs')
    fits_moved first second gu gf at fit = record {
      vertices_fit = at ∙ fit.vertices_fit;
      directed_fit = omega (arith, length_moved first, length_moved second, fit.directed_fit);
      undirected_fit = omega (arith, length_moved gu, fit.undirected_fit);
      faces_fit = length-grown _ _ _ _ gf ∙ fit.faces_fit;
    }
