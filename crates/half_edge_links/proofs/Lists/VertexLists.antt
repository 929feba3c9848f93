-- A list of vertices after writes, as the list of the edges that they name and the list of their
-- data.
-- Lemmas: named_as, named_some, named_moved, set_named, named_at, set_value, copied_out_edges,
-- copied_values, pushed_vertex, swap_remove-map, takes_vertex, length_out_edges, length_values.
use Rattle.std.proofs.Common.{◌≡◌, ◌≢◌, ◌+◌, ◌-◌, ◌<◌, [], ◌∷◌, ◌++◌, ◌∙◌, Option, None, Some}
use Rattle.std.proofs.Common.{option_map, unwrap_or}
use Rattle.std.proofs.Common.{ℕ, List, length, get_or, set, map, refl, sym, ap, arith}
use Rattle.std.proofs.lemmas.List.{map-set, take-map, length-map, get_or-map, map-append}
use Rattle.std.proofs.lemmas.Bool.Decides.{nat_tests}
use Rattle.std.proofs.lemmas.Option.{slice_get_read, slice_get-map}
use Rattle.std.proofs.Math.Seq.{map-set_same}
use Rattle.std.specs.List.{swap_remove, AllZip}
use Rattle.half_edge_links.specs.{pair_moved, renamed, VertexList.TakesVertex, VertexList.values_of}
use Rattle.half_edge_links.specs.VertexList.{IsCopiedVertex, IsNameable, named_by, out_edges_of}
use Rattle.half_edge_links.specs.declared.vertex_list.TheConstants.{NO_EDGE}
use Rattle.half_edge_links.specs.declared.vertex_list.Vertex.{Vertex}
use Rattle.half_edge_links.proofs.Removing.OpenSound.{swap_remove_default}

-- an edge is named by its own number, and none by the one that is left for it
pub named_as : (edge : Option ℕ) → IsNameable edge → named_by (unwrap_or edge NO_EDGE) ≡ edge
unfolding named_by
named_as None _ = refl
named_as (Some edge) small = grind (arith, nat_tests)

-- a number that is not the one of none is that of its edge
pub named_some : (n : ℕ) → n ≢ NO_EDGE → named_by n ≡ Some n
unfolding named_by
named_some n some = grind (arith, nat_tests)

-- the number of an edge that moves stands for its new index, and no edge stays none
pub named_moved : (from to n : ℕ) → from + 1 < NO_EDGE → to + 1 < NO_EDGE
    → named_by (pair_moved from to n) ≡ renamed (pair_moved from to) (named_by n)
unfolding named_by
named_moved from to n from_in to_in = grind (arith, nat_tests)

module _ {V : Type 0} where
  -- another edge that one vertex names changes the edges there, and no data
  pub set_named : (vs : List (Vertex V)) (i : ℕ) (at : Vertex V) (n : ℕ) → at ≡ get_or vs i at
      → (out_edges_of (set vs i (record at { out_edge = n })) ≡ set (out_edges_of vs) i
      (named_by n)) × (values_of (set vs i (record at { out_edge = n })) ≡ values_of vs)
  set_named vs i at n is = (
    map-set (λ (v : Vertex V). named_by v.out_edge) vs i (record at { out_edge = n }),
    map-set_same (λ (v : Vertex V). v.value) vs i (record at { out_edge = n }) at
        (ap (λ (v : Vertex V). v.value) is),
  )

  -- an edge that one vertex names is what its number stands for
  pub named_at : (vs : List (Vertex V)) (v : ℕ) (at : Vertex V) → v < length vs
      → at ≡ get_or vs v at → get_or (out_edges_of vs) v None ≡ named_by at.out_edge
  named_at vs v at within is =
      get_or-map (λ (u : Vertex V). named_by u.out_edge) vs v at None within
      ∙ ap (λ (u : Vertex V). named_by u.out_edge) (sym is)

  -- other data of one vertex change the data there, and no edge that is named
  pub set_value : (vs : List (Vertex V)) (i : ℕ) (at : Vertex V) (value : V) → at ≡ get_or vs i at
      → (out_edges_of (set vs i (record at { value = value })) ≡ out_edges_of vs)
      × (values_of (set vs i (record at { value = value })) ≡ set (values_of vs) i value)
  set_value vs i at value is = (
    map-set_same (λ (v : Vertex V). named_by v.out_edge) vs i (record at { value = value }) at
        (ap (λ (v : Vertex V). named_by v.out_edge) is),
    map-set (λ (v : Vertex V). v.value) vs i (record at { value = value }),
  )

  -- copied vertices name the same edges
  pub copied_out_edges : (R : V → V → Type 0) (old new : List (Vertex V))
      → AllZip (IsCopiedVertex R) old new → out_edges_of new ≡ out_edges_of old
  copied_out_edges R [] [] each = refl
  copied_out_edges R [] (n ∷ new) each = absurd each
  copied_out_edges R (o ∷ old) [] each = absurd each
  copied_out_edges R (o ∷ old) (n ∷ new) each =
      rw (each.0.out_edge, copied_out_edges R old new each.1) refl

  -- copied vertices have copied data
  pub copied_values : (R : V → V → Type 0) (old new : List (Vertex V))
      → AllZip (IsCopiedVertex R) old new → AllZip R (values_of old) (values_of new)
  copied_values R [] [] each = tt
  copied_values R [] (n ∷ new) each = absurd each
  copied_values R (o ∷ old) [] each = absurd each
  copied_values R (o ∷ old) (n ∷ new) each = (each.0.value, copied_values R old new each.1)

  -- a vertex that is pushed names no edge, and has these data
  pub pushed_vertex : (vs : List (Vertex V)) (value : V)
      → (out_edges_of (vs ++ record { out_edge = NO_EDGE; value = value } ∷ [])
      ≡ out_edges_of vs ++ None ∷ [])
      × (values_of (vs ++ record { out_edge = NO_EDGE; value = value } ∷ [])
      ≡ values_of vs ++ value ∷ [])
  unfolding named_by
  pushed_vertex vs value = (map-append _ vs _, map-append _ vs _)

-- an element taken out of a list is taken out of what its elements are turned into
pub swap_remove-map : {X Y : Type 0} (f : X → Y) (xs : List X) (i : ℕ) (d : X) → 0 < length xs
    → map f (swap_remove xs i d) ≡ swap_remove (map f xs) i (f d)
swap_remove-map f xs i d some =
    let last : get_or (map f xs) (length xs - 1) (f d) ≡ f (get_or xs (length xs - 1) d) =
    get_or-map f xs (length xs - 1) d (f d) (omega arith) in
    sym (take-map f (length xs - 1) (set xs i (get_or xs (length xs - 1) d)))
    ∙ rw (length-map xs f, last, map-set f xs i (get_or xs (length xs - 1) d)) refl

module _ {V : Type 0} where
  -- as many edges and data are named as there are vertices
  pub length_out_edges : (vs : List (Vertex V)) → length (out_edges_of vs) ≡ length vs
  length_out_edges vs = length-map vs (λ (v : Vertex V). named_by v.out_edge)

  pub length_values : (vs : List (Vertex V)) → length (values_of vs) ≡ length vs
  length_values vs = length-map vs (λ (v : Vertex V). v.value)

  -- a vertex that is taken out takes the edge that it names and its data along
  pub takes_vertex : (vs new : List (Vertex V)) (v : ℕ) (gone : Vertex V) → v < length vs
      → gone ≡ get_or vs v gone → new ≡ swap_remove vs v gone → TakesVertex vs new v gone.value
  takes_vertex vs new v gone within was is =
      let edge = λ (v : Vertex V). named_by v.out_edge in
      let value = λ (v : Vertex V). v.value in
      record {
        values = record {
          was = slice_get-map value vs v
              ∙ ap (λ o. option_map value o) (slice_get_read _ _ _ _ refl within was);
          now = ap (λ l. map value l) is ∙ swap_remove-map value vs v gone (omega (arith, within));
        };
        out_edges = ap (λ l. map edge l) is ∙ swap_remove-map edge vs v gone (omega (arith, within))
            ∙ swap_remove_default _ v (named_by gone.out_edge) None
            (rw length-map (omega (arith, within)));
      }

pub ruleset vertex_counts = (length_out_edges, length_values)
