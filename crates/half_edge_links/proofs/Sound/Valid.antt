-- What always holds of a mesh holds after each change, be it a growth or a removal.
-- Lemmas: small_same, valid_as, valid_with_vertex, valid_connected, valid_flipped, valid_inserted,
-- valid_hung, valid_closed, valid_slid, valid_opened, valid_loop_closed, valid_removed,
-- valid_moved.
use Rattle.std.proofs.Common.{◌≡◌, ◌≢◌, ◌+◌, ◌≤◌, [], ◌∷◌, ◌∙◌}
use Rattle.std.proofs.Common.{ℕ, None, length, refl, ap, arith, length-append, sym}
use Rattle.std.proofs.lemmas.List.{length-set}
use Rattle.half_edge_links.specs.{closed, ClosesLoop, connected, flipped, hung, inserted, IsAlone}
use Rattle.half_edge_links.specs.{IsClosable, IsFlippable, IsInner, IsInnerEdge, IsOpenTriangle}
use Rattle.half_edge_links.specs.{IsRemovable, IsSmall, IsValidMesh, MAX_ELEMENTS, Mesh}
use Rattle.half_edge_links.specs.{MovesVertex, OnOuter, Opens, origin, prev, Removes, rev, slid}
use Rattle.half_edge_links.specs.{Grow.IsSlidable, Grown.AreConnectable, with_vertex}
use Rattle.half_edge_links.proofs.{Faces.FlipLemmas.flips, Growing.VertexLemmas.sound_with_vertex}
use Rattle.half_edge_links.proofs.{Faces.FlipSound.sound_after_flip, Removing.Conditions.unlinkable}
use Rattle.half_edge_links.proofs.{Faces.InsertLemmas.inserts, Faces.InsertSound.sound_after_insert}
use Rattle.half_edge_links.proofs.Growing.Close.{closes, sound_after_close}
use Rattle.half_edge_links.proofs.Growing.ConnectLemmas.{sound_connected}
use Rattle.half_edge_links.proofs.Growing.Hang.{hangs, sound_after_hang}
use Rattle.half_edge_links.proofs.Growing.Slide.{apart_slid, slides, sound_after_slide, stars_slid}
use Rattle.half_edge_links.proofs.Removing.CloseSound.{small_closed, sound_closed}
use Rattle.half_edge_links.proofs.Removing.OpenSound.{small_opened, sound_opened}
use Rattle.half_edge_links.proofs.Removing.RemoveSound.{small_removed, sound_removed}
use Rattle.half_edge_links.proofs.Removing.VertexSound.{small_moved, sound_moved}
use Rattle.half_edge_links.proofs.Sound.Apart.{apart_closed, apart_connected, apart_flipped}
use Rattle.half_edge_links.proofs.Sound.Apart.{apart_hung, apart_inserted, stars_connected}
use Rattle.half_edge_links.proofs.Stars.StarsKept.{stars_closed, stars_flipped, stars_hung}
use Rattle.half_edge_links.proofs.Stars.StarsKept.{stars_inserted}
use Rattle.half_edge_links.proofs.Stars.StarsRemove.{apart_removed, apart_same, moved_back}
use Rattle.half_edge_links.proofs.Stars.StarsRemove.{stars_removed, stars_same}

-- a mesh with as many parts as a small one is small
pub small_same : (m new : Mesh) → length new.out_edges ≡ length m.out_edges → length new.half_edges
    ≡ length m.half_edges → length new.face_edges ≡ length m.face_edges → IsSmall m → IsSmall new
small_same m new outs hs fs small = record {
  vertices = rw outs small.vertices;
  edges = rw hs small.edges;
  faces = rw fs small.faces;
}

-- a mesh that equals a valid one is valid
pub valid_as : (new whole : Mesh) → new ≡ whole → IsValidMesh whole → IsValidMesh new
valid_as new whole is valid = rw is valid

-- a valid mesh stays valid when a vertex is added, if vertices are few enough
pub valid_with_vertex : (m : Mesh) → IsValidMesh m → length m.out_edges + 1 ≤ MAX_ELEMENTS
    → IsValidMesh (with_vertex m)
valid_with_vertex m valid room = record {
  sound = sound_with_vertex m valid.sound;
  apart = valid.apart;
  stars = valid.stars;
  small = record {
    vertices = omega (arith, room, length-append m.out_edges (None ∷ []));
    edges = valid.small.edges;
    faces = valid.small.faces;
  };
}

-- a valid mesh without edges stays valid when the first edge is made between two vertices that
-- differ
pub valid_connected : (m : Mesh) (a b : ℕ) → IsValidMesh m → AreConnectable m a b
    → IsValidMesh (connected m a b)
valid_connected m a b valid can = record {
  sound = sound_connected m a b valid.sound can.no_edges can.from can.to;
  apart = apart_connected m a b can.apart;
  stars = stars_connected m a b can.apart;
  small = record {
    vertices = simp length-set valid.small.vertices;
    edges = omega arith;
    faces = valid.small.faces;
  };
}

-- a valid mesh stays valid when an edge is flipped, if the corners opposite it differ
pub valid_flipped : (m : Mesh) (e : ℕ) → IsValidMesh m → IsFlippable m e
    → origin m (prev m e) ≢ origin m (prev m (rev e)) → IsValidMesh (flipped m e)
valid_flipped m e valid can corners =
    let f = flips m e valid.sound can in
    record {
      sound = sound_after_flip m (flipped m e) e valid.sound can f;
      apart = apart_flipped m (flipped m e) e valid.sound can f corners valid.apart;
      stars = stars_flipped m (flipped m e) e valid.sound can f valid.stars;
      small = small_same m (flipped m e) f.vertex_count f.edge_count f.face_count valid.small;
    }

-- a valid mesh stays valid when a lonely vertex is put into an inner face, if edges and faces are
-- few enough
pub valid_inserted : (m : Mesh) (v a : ℕ) → IsValidMesh m → IsInnerEdge m a → IsAlone m v
    → length m.half_edges + 6 ≤ MAX_ELEMENTS → length m.face_edges + 3 ≤ MAX_ELEMENTS
    → IsValidMesh (inserted m v a)
valid_inserted m v a valid inner alone room faces =
    let i = inserts m v a valid.sound inner alone in
    record {
      sound =
          sound_after_insert m (inserted m v a) v _ a _ _ valid.sound inner alone refl refl refl i;
      apart = apart_inserted m (inserted m v a) v a valid.sound inner alone i valid.apart;
      stars = stars_inserted m (inserted m v a) v a valid.sound inner alone i valid.stars;
      small = record {
        vertices = rw i.vertex_count valid.small.vertices;
        edges = rw i.edge_count room;
        faces = omega (arith, i.face_count, faces);
      };
    }

-- a valid mesh stays valid when a lonely vertex is joined to an outer edge's end, if edges are few
-- enough
pub valid_hung : (m : Mesh) (x v : ℕ) → IsValidMesh m → OnOuter m x → IsAlone m v
    → length m.half_edges + 2 ≤ MAX_ELEMENTS → IsValidMesh (hung m x v)
valid_hung m x v valid outer alone room =
    let i = hangs m x v valid.sound outer alone in
    record {
      sound = sound_after_hang m (hung m x v) x v valid.sound outer alone i;
      apart = apart_hung m (hung m x v) x v valid.sound outer alone i valid.apart;
      stars = stars_hung m (hung m x v) x v valid.sound outer alone i valid.stars;
      small = record {
        vertices = rw i.vertex_count valid.small.vertices;
        edges = rw i.edge_count room;
        faces = rw i.face_edges valid.small.faces;
      };
    }

-- a valid mesh stays valid when an outer edge, the next and a new one get a face, if all are few
-- enough
pub valid_closed : (m : Mesh) (e : ℕ) → IsValidMesh m → IsClosable m e → length m.half_edges + 2
    ≤ MAX_ELEMENTS → length m.face_edges + 2 ≤ MAX_ELEMENTS → IsValidMesh (closed m e)
valid_closed m e valid can room faces =
    let i = closes m e valid.sound can in
    record {
      sound = sound_after_close m (closed m e) e valid.sound can i;
      apart = apart_closed m (closed m e) e valid.sound can i valid.apart;
      stars = stars_closed m (closed m e) e valid.sound can i valid.stars;
      small = record {
        vertices = rw i.out_edges valid.small.vertices;
        edges = rw i.edge_count room;
        faces = omega (arith, ap length i.face_edges, length-append m.face_edges (e ∷ []), faces);
      };
    }

-- a valid mesh stays valid when an edge of a line is moved to the far end of the next one
pub valid_slid : (m : Mesh) (e : ℕ) → IsValidMesh m → IsSlidable m e → IsValidMesh (slid m e)
valid_slid m e valid can =
    let i = slides m e valid.sound can in
    record {
      sound = sound_after_slide m (slid m e) e valid.sound can i;
      apart = apart_slid m (slid m e) e valid.sound can i valid.stars valid.apart;
      stars = stars_slid m (slid m e) e valid.sound can i valid.stars;
      small =
          small_same m (slid m e) i.vertex_count i.edge_count (ap length i.face_edges) valid.small;
    }

-- a valid mesh stays valid when an inner face is given to the outer one
pub valid_opened : (m new : Mesh) (f : ℕ) → IsValidMesh m → IsInner m f → Opens m new f
    → IsValidMesh new
valid_opened m new f v inner o = record {
  sound = sound_opened m new f v.sound inner o;
  apart = apart_same m new o.edge_count o.prev v.sound.even
      (λ h g h_in g_in same. sym (o.origin h) ∙ same ∙ o.origin g) v.apart;
  stars = stars_same m new o.edge_count o.prev
      (λ h g h_in g_in same. sym (o.origin h) ∙ same ∙ o.origin g) v.stars;
  small = small_opened m new f o v.small;
}

-- a valid mesh stays valid when an open triangle becomes a face, if faces are few enough
pub valid_loop_closed : (m new : Mesh) (h : ℕ) → IsValidMesh m → IsOpenTriangle m h
    → ClosesLoop m new h → length m.face_edges + 2 ≤ MAX_ELEMENTS → IsValidMesh new
valid_loop_closed m new h v can c room = record {
  sound = sound_closed m h v.sound can new c;
  apart = apart_same m new c.edge_count c.prevs v.sound.even
      (λ k g k_in g_in same. sym (c.origins k) ∙ same ∙ c.origins g) v.apart;
  stars = stars_same m new c.edge_count c.prevs
      (λ k g k_in g_in same. sym (c.origins k) ∙ same ∙ c.origins g) v.stars;
  small = small_closed m h v.sound can new c v.small room;
}

-- a valid mesh stays valid when an edge is removed that may be
pub valid_removed : (m new : Mesh) (e : ℕ) → IsValidMesh m → IsRemovable m e → Removes m new e
    → IsValidMesh new
valid_removed m new e v can r =
    let full = unlinkable m e v can in
    record {
      sound = sound_removed m new e r;
      apart = apart_removed m new e v.sound full r v.apart;
      stars = stars_removed m new e v.sound full r v.stars;
      small = small_removed m new e r v.small;
    }

-- a valid mesh stays valid when a vertex without edges goes and the last one takes its index
pub valid_moved : (m new : Mesh) (u : ℕ) → IsValidMesh m → IsAlone m u → MovesVertex m new u
    → IsValidMesh new
valid_moved m new u v alone c = record {
  sound = sound_moved m new u v.sound alone c;
  apart = apart_same m new c.edge_count c.prevs v.sound.even
      (moved_back m new u v.sound alone c) v.apart;
  stars = stars_same m new c.edge_count c.prevs (moved_back m new u v.sound alone c) v.stars;
  small = small_moved m new u v.sound alone c v.small;
}
