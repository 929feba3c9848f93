-- A triangulation stays one where data of its edges and faces change.
-- Lemmas: stays_with_data, stays_with_users, face_written, counted_with_face, counted_with_users.
use Rattle.std.proofs.Common.{◌≡◌}
use Rattle.std.proofs.Common.{ℕ, zero, suc, List, length, refl, sym, subst, map, length-set}
use Rattle.std.proofs.Common.{slice_set}
use Rattle.plane.specs.{IsLocallyDelaunay, Point}
use Rattle.half_edge_dcel.specs.{Contents, with_face}
use Rattle.delaunay_legalization.specs.{drawn, IsDelaunayTriangulation, pairs_at, state_of}
use Rattle.delaunay_legalization.specs.State.{State}
use Rattle.delaunay_edit.specs.{IsCounted, with_face_data}

module _ {V D U F : Type 0} (place : V → Point) (constraints : List U → List ℕ)
    (s : State V D U F) where
  -- as many data, and the same constraints
  pub stays_with_data : (ds : List D) (us : List U) (o : F) (fs : List F)
      → length ds ≡ length s.directed → length us ≡ length s.undirected → length fs ≡ length s.faces
      → constraints us ≡ constraints s.undirected → IsDelaunayTriangulation place constraints s
      → IsDelaunayTriangulation place constraints
      (record s { directed = ds; undirected = us; outer = o; faces = fs })
  stays_with_data ds us o fs directed undirected faces same whole = record {
    kept = record {
      in_range = whole.kept.in_range;
      few_edges = rw undirected whole.kept.few_edges;
      few_faces = rw faces whole.kept.few_faces;
      valid = whole.kept.valid;
      fits = rw (directed, undirected, faces) whole.kept.fits;
      shape = whole.kept.shape;
    };
    passing = subst (λ (ks : List ℕ). IsLocallyDelaunay (drawn (map place s.vertices) s.mesh)
        (pairs_at s.mesh ks))
        (sym same) whole.passing;
  }

  -- the user's part of one edge's data
  pub stays_with_users : (us : List U) → length us ≡ length s.undirected
      → constraints us ≡ constraints s.undirected → IsDelaunayTriangulation place constraints s
      → IsDelaunayTriangulation place constraints (record s { undirected = us })
  stays_with_users us fit same whole =
      stays_with_data s.directed us s.outer s.faces refl fit refl same whole

-- a face's, the outer one among them
stays_with_face : {V D U F : Type 0} (place : V → Point) (constraints : List U → List ℕ)
    (c : Contents V D U F) (f : ℕ) (w : F) → IsDelaunayTriangulation place constraints (state_of c)
    → IsDelaunayTriangulation place constraints (state_of (with_face c f w))
stays_with_face place constraints c zero w whole =
    stays_with_data place constraints
    (state_of c) c.directed c.undirected w c.faces refl refl refl refl whole
stays_with_face place constraints c (suc f) w whole =
    stays_with_data place constraints (state_of c) c.directed
    c.undirected c.outer (slice_set c.faces f w) refl refl (length-set c.faces f w) refl whole

-- writing a face's data writes it in the state, the outer face's too
pub face_written : {V D U F : Type 0} (c : Contents V D U F) (f : ℕ) (w : F) →
    state_of (with_face c f w) ≡ with_face_data (state_of c) f w
face_written c zero w = refl
face_written c (suc f) w = refl

-- with as many constraints
pub counted_with_face : {V D U F : Type 0} (place : V → Point) (constraints : List U → List ℕ)
    (c : Contents V D U F) (f : ℕ) (w : F) (number : ℕ)
    → IsCounted place constraints (state_of c) number
    → IsCounted place constraints (state_of (with_face c f w)) number
counted_with_face place constraints c zero w number was =
    record { legal = stays_with_face place constraints c zero w was.legal; counted = was.counted }
counted_with_face place constraints c (suc f) w number was =
    record {
      legal = stays_with_face place constraints c (suc f) w was.legal;
      counted = was.counted;
    }

-- other edge data with the same constraints leave the number of constraints
pub counted_with_users : {V D U F : Type 0} (place : V → Point) (constraints : List U → List ℕ)
    (s : State V D U F) (us : List U) (number : ℕ) → length us ≡ length s.undirected
    → constraints us ≡ constraints s.undirected → IsCounted place constraints s number
    → IsCounted place constraints (record s { undirected = us }) number
counted_with_users place constraints s us number fit same was =
    record {
      legal = stays_with_users place constraints s us fit same was.legal;
      counted = rw same was.counted;
    }
