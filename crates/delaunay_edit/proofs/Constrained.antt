-- A triangulation with constraints that are edges, and one that gets the edges of a triangulation
-- without constraints.
-- Lemmas: plain_with_edges, unconstrained, other_data_as.
use Rattle.std.proofs.Common.{◌≡◌, ◌≢◌, ℕ, ◌<◌, List, [], ◌∷◌, length, sym, ap, ◌∙◌, subst, arith}
use Rattle.std.specs.List.{AllZip}
use Rattle.plane.specs.{IsPlain, Joins, Point, Unconstrains}
use Rattle.half_edge_links.specs.{origin, rev}
use Rattle.half_edge_links.proofs.{rev_within}
use Rattle.delaunay_legalization.specs.{edges_of, IsTriangulated, points_and_constraints}
use Rattle.delaunay_legalization.specs.{declared.cdt_edge.CdtEdge.CdtEdge, State.State}
use Rattle.delaunay_edit.specs.{constrained, constraints_of, HasOtherEdgeData}
use Rattle.{delaunay_edit.proofs.Counts.plain_if_kept, delaunay_legalization.proofs.joins_edge}

module _ {V D U F : Type 0} (place : V → Point) (s : State V D U F)
    (kept : IsTriangulated place s) where
  start_in : (h : ℕ) → h < length s.mesh.half_edges → origin s.mesh h < length s.vertices
  start_in h w = let o = (kept.valid.sound.edges h w).origin_in in let f = kept.fits.vertices_fit in
      omega (arith, o, f)

  edge_in : (i j : ℕ) → Joins (edges_of s.mesh) i j
      → (i < length s.vertices) × (j < length s.vertices) × (i ≢ j)
  edge_in i j e = go (joins_edge s.mesh kept.valid.sound i j e)
    where
      go : (h : ℕ) × (h < length s.mesh.half_edges) × (origin s.mesh h ≡ i)
          × (origin s.mesh (rev h) ≡ j)
          → (i < length s.vertices) × (j < length s.vertices) × (i ≢ j)
      go (h, w, a, b) = (
        subst (λ (n : ℕ). n < length s.vertices) a (start_in h w),
        subst (λ (n : ℕ). n < length s.vertices) b
            (start_in (rev h) (rev_within h (length s.mesh.half_edges) kept.valid.sound.even w)),
        (λ e. kept.valid.apart h w (a ∙ e ∙ sym b)),
      )

  -- the positions differ, and pairs that are edges are of two vertices
  pub plain_with_edges : (cs : List (ℕ × ℕ))
      → ((i j : ℕ) → Joins cs i j → Joins (edges_of s.mesh) i j)
      → IsPlain place (record { vertices = s.vertices; constraints = cs })
  plain_with_edges cs edges = record {
    distinct = (plain_if_kept place s kept).distinct;
    pairs = λ i j h. edge_in i j (edges i j h);
  }

-- the vertices stay, and no pair is left
pub unconstrained : {V D U F : Type 0} (place : V → Point) {R : U → CdtEdge U → Type 0}
    (old : State V D U F) (new : State V D (CdtEdge U) F) → HasOtherEdgeData R old new
    → constraints_of new ≡ [] → Unconstrains place (points_and_constraints old) (constrained new)
unconstrained place old new other none =
    record { vertices = ap (λ s. s.vertices) other.rest; constraints = none }

-- the data of each undirected edge are as S says where they are as R says
each_as : {X Y : Type 0} (R S : X → Y → Type 0) → ((x : X) (y : Y) → R x y → S x y)
    → (xs : List X) (ys : List Y) → AllZip R xs ys → AllZip S xs ys
each_as R S f [] [] h = tt
each_as R S f [] (y ∷ ys) h = absurd h
each_as R S f (x ∷ xs) [] h = absurd h
each_as R S f (x ∷ xs) (y ∷ ys) h = (f x y h.0, each_as R S f xs ys h.1)

-- other edge data by a relation are so by each weaker one
pub other_data_as : {V D U T F : Type 0} (R S : U → T → Type 0) → ((u : U) (t : T) → R u t → S u t)
    → (old : State V D U F) (new : State V D T F) → HasOtherEdgeData R old new
    → HasOtherEdgeData S old new
other_data_as R S f old new h =
    record { each = each_as R S f old.undirected new.undirected h.each; rest = h.rest }
