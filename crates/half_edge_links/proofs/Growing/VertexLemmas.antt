-- One more vertex.
-- Lemmas: sound_with_vertex.
use Rattle.std.proofs.Common.{◌≡◌, [], ◌∷◌, ◌++◌}
use Rattle.std.proofs.Common.{ℕ, zero, suc, List, Option, None, get_or, refl, arith, length-append}
use Rattle.std.proofs.lemmas.List.{get_or_append_left}
use Rattle.half_edge_links.specs.{AreSoundLinks, Mesh, with_vertex}
use Rattle.half_edge_links.proofs.Sound.Parts.{sound_kept}

-- one more `None` changes no read
get_or-push_none : {X : Type 0} (xs : List (Option X)) (v : ℕ)
    → get_or (xs ++ None ∷ []) v None ≡ get_or xs v None
get_or-push_none [] zero = refl
get_or-push_none [] (suc v) = refl
get_or-push_none (x ∷ xs) zero = refl
get_or-push_none (x ∷ xs) (suc v) = get_or-push_none xs v

-- a sound mesh stays sound when a vertex without edges is added
pub sound_with_vertex : (m : Mesh) → AreSoundLinks m → AreSoundLinks (with_vertex m)
sound_with_vertex m s = record {
  even = s.even;
  edges = λ h within.
      let here = s.edges h within in
      sound_kept m (with_vertex m) h here (record {
        edge = refl;
        at_next = refl;
        at_prev = refl;
        at_rev = refl;
        named = λ some. refl;
        out = rw (get_or_append_left m.out_edges (None ∷ []) None _ here.origin_in) here.has_out;
        edges = omega arith;
        vertices = omega (arith, length-append m.out_edges (None ∷ []));
        faces = omega arith;
      });
  vertices = λ v h named. s.vertices v h (rw get_or-push_none at named);
  faces = s.faces;
  outer = s.outer;
  has_outer = s.has_outer;
}
