-- A vertex without edges changes no outer edge and no face; the list of outer edges, edge by edge.
-- Lemmas: outer_changes, keeps_outer, edge_into_kept, empty_list, no_faces, no_faces_hung, listed,
-- passed_over.
use Rattle.std.proofs.Common.{◌≡◌, ◌<◌, [], ◌∷◌, ◌++◌}
use Rattle.std.proofs.Common.{ℕ, zero, suc, List, length, get_or, Option, None, refl, ap, inl, inr}
use Rattle.std.proofs.Common.{arith}
use Rattle.std.proofs.lemmas.Bool.{cases_lt}
use Rattle.std.proofs.lemmas.Bool.Decides.{nat_tests}
use Rattle.half_edge_links.specs.{AreSoundLinks, edge_into, face, hung, IsOuterEdge, KeepsOuter}
use Rattle.half_edge_links.specs.{Mesh, origin, outer_among, OuterChanges, rev, triangles}
use Rattle.{half_edge_links.specs.Grow.or_zero, half_edge_links.specs.with_vertex}

outer_in : (m : Mesh) (h a b : ℕ) → IsOuterEdge m h a b → IsOuterEdge (with_vertex m) h a b
outer_in m h a b o =
    record { within = o.within; outer = o.outer; source = o.source; target = o.target }

outer_out : (m : Mesh) (h a b : ℕ) → IsOuterEdge (with_vertex m) h a b → IsOuterEdge m h a b
outer_out m h a b o =
    record { within = o.within; outer = o.outer; source = o.source; target = o.target }

-- what changes the outer edges of a mesh with one more lonely vertex changes those of the mesh
-- alike
pub outer_changes : (m new : Mesh) (Gone : ℕ → Type 0) (Made : ℕ → ℕ → ℕ → Type 0)
    → OuterChanges (with_vertex m) new Gone Made → OuterChanges m new Gone Made
outer_changes m new Gone Made o = record {
  kept = λ h a b was here. o.kept h a b (outer_in m h a b was) here;
  made = o.made;
  only = λ h a b is. elim
      (o.only h a b is) [ inl old ↦ inl (outer_out m h a b old.0, old.1) | inr new ↦ inr new ];
}

-- what keeps the outer edges of a mesh with one more lonely vertex keeps those of the mesh
pub keeps_outer : (m new : Mesh) → KeepsOuter (with_vertex m) new → KeepsOuter m new
keeps_outer m new o = record {
  kept = λ h a b was. o.kept h a b (outer_in m h a b was);
  only = λ h a b is. outer_out m h a b (o.only h a b is);
}

append_none : (xs : List (Option ℕ)) (k : ℕ) → get_or (xs ++ None ∷ []) k None ≡ get_or xs k None
append_none [] zero = refl
append_none [] (suc k) = refl
append_none (x ∷ xs) zero = refl
append_none (x ∷ xs) (suc k) = append_none xs k

-- a new vertex without edges changes no edge into another one
pub edge_into_kept : (m : Mesh) (u : ℕ) → edge_into (with_vertex m) u ≡ edge_into m u
edge_into_kept m u = ap (λ o. rev (or_zero o)) (append_none m.out_edges u)

-- a list of length 0 is empty
pub empty_list : {X : Type 0} (xs : List X) → length xs ≡ 0 → xs ≡ []
empty_list [] none = refl
empty_list (x ∷ xs) none = absurd (omega (arith, none))

no_face : (m : Mesh) → AreSoundLinks m → length m.half_edges ≡ 0 → length m.face_edges ≡ 0
no_face m s none =
    elim (cases_lt 0 (length m.face_edges)) [
      | inl some ↦ absurd (omega (arith, none, (s.faces 1 (omega arith) (omega (arith, some))).0))
      | inr few ↦ omega (arith, few)
    ]

-- without edges there is no inner face
pub no_faces : (m : Mesh) → AreSoundLinks m → length m.half_edges ≡ 0 → m.face_edges ≡ []
no_faces m s none = empty_list m.face_edges (no_face m s none)

-- an edge to a new vertex makes no face
pub no_faces_hung : (m : Mesh) (x v : ℕ) → m.face_edges ≡ []
    → triangles (hung (with_vertex m) x v) ≡ []
unfolding hung
no_faces_hung m x v none = rw none refl

-- an outer edge comes first, and another edge is passed over
pub listed : (m : Mesh) (k : ℕ) → face m k ≡ 0 → outer_among m (suc k)
    ≡ record { source = origin m k; target = origin m (rev k) } ∷ outer_among m k
listed m k is = grind (arith, nat_tests)

-- an edge of an inner face is passed over in the list of outer edges
pub passed_over : (m : Mesh) (k : ℕ) → 0 < face m k → outer_among m (suc k) ≡ outer_among m k
passed_over m k some = grind (arith, nat_tests)
