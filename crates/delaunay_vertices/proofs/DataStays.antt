-- What stands beside a vertex while its edges go.
-- Lemmas: all_stands, stands_on, none_to_keep, pairs_kept, pair_put, stands_turned, stands_put,
-- no_end, no_corner, edges_stand, edges_come, strip_stands, hole_stands, joined_stand,
-- joined_comes.
use Rattle.std.proofs.Common.{◌≡◌, ◌≢◌, ◌⊎◌, [], ◌∷◌, ◌++◌, ◌∙◌}
use Rattle.std.proofs.Common.{ℕ, zero, suc, List, refl, sym, ap, subst, inl, inr}
use Rattle.std.specs.Global.{Vec}
use Rattle.std.specs.Prelude.{Contains}
use Rattle.std.specs.List.{AllZip}
use Rattle.std.specs.List.Sorted.{IsPermutation}
use Rattle.std.proofs.lemmas.List.Elements.{Contains-append_left, Contains-append_right}
use Rattle.std.proofs.lemmas.List.Elements.{Contains-append_cases}
use Rattle.std.proofs.lemmas.List.Sorted.{Contains-permutation, IsPermutation-sym}
use Rattle.half_edge_links.specs.{Ends, neighbour, origin, Triangle}
use Rattle.plane_theorems.proofs.{Contains-cases, Contains-head, Contains-later, Contains-none}
use Rattle.half_edge_dcel.specs.{Connects, Contents, faces_between, FillsHole, full_edges}
use Rattle.half_edge_dcel.specs.{full_faces, FullEdge, FullFace, HasCorners, IsMeshWithData, joins}
use Rattle.half_edge_dcel.specs.{LosesEdges, LosesStrip, Removal.JoinsNeighbours, spokes_to}
use Rattle.delaunay_legalization.specs.{faces_of}
use Rattle.delaunay_vertices.specs.{HasValueAt, KeepsPairs, StandsBeside, TurnsAway}
use Rattle.delaunay_vertices.proofs.FacesAfterRemoval.{made_hole, made_none, made_on, made_strip}

-- nothing changes
pub all_stands : {V D U F : Type 0} (c : Contents V D U F) (v : ℕ) (pairs : List (ℕ × ℕ))
    → StandsBeside c c v pairs
all_stands c v pairs = record {
  edges = λ e h a b. h;
  faces = λ f h p q r. h;
  comes = λ e h. inl h;
  made = made_none v pairs (faces_of c.mesh);
}

-- data that an edge at the vertex has after a change are those of one before
value_before : {V D U F : Type 0} (old mid : Contents V D U F) (v : ℕ) (pairs : List (ℕ × ℕ))
    (u : U) → StandsBeside old mid v pairs → HasValueAt mid v u → HasValueAt old v u
value_before old mid v pairs u one w = elim (one.comes w.edge w.there) [
  | inl there ↦ record { edge = w.edge; there = there; ends = w.ends; same = w.same }
  | inr y ↦ record { edge = y.edge; there = y.there; ends = y.ends; same = y.same ∙ w.same }
]

-- one change after another
pub stands_on : {V D U F : Type 0} (old mid new : Contents V D U F) (v : ℕ)
    (first second pairs : List (ℕ × ℕ)) → KeepsPairs first pairs → KeepsPairs second pairs
    → StandsBeside old mid v first → StandsBeside mid new v second → StandsBeside old new v pairs
stands_on old mid new v first second pairs has_first has_second one two = record {
  edges = λ e h a b. two.edges e (one.edges e h a b) a b;
  faces = λ f h p q r. two.faces f (one.faces f h p q r) p q r;
  comes = λ e h. elim (two.comes e h)
      [ inl m ↦ one.comes e m | inr w ↦ inr (value_before old mid v first e.value one w) ];
  made = made_on v first second pairs has_first has_second (faces_of old.mesh)
      (faces_of mid.mesh) one.made (faces_of new.mesh) two.made;
}

-- an empty list has none that could go
pub none_to_keep : (pairs : List (ℕ × ℕ)) → KeepsPairs [] pairs
none_to_keep pairs i j (inl h) = absurd (Contains-none (i, j) h)
none_to_keep pairs i j (inr h) = absurd (Contains-none (j, i) h)

-- a pair that is put to a list, after those that are in it
pub pairs_kept : (pairs more : List (ℕ × ℕ)) (p : ℕ × ℕ) → more ≡ pairs ++ p ∷ []
    → KeepsPairs pairs more
pairs_kept pairs more p is i j (inl h) = inl (subst (λ (ps : List (ℕ × ℕ)). Contains ps (i, j))
    (sym is) (Contains-append_left pairs (p ∷ []) (i, j) h))
pairs_kept pairs more p is i j (inr h) = inr (subst (λ (ps : List (ℕ × ℕ)). Contains ps (j, i))
    (sym is) (Contains-append_left pairs (p ∷ []) (j, i) h))

-- a pair that is put to a list is in it
pub pair_put : (pairs more : List (ℕ × ℕ)) (p : ℕ × ℕ) → more ≡ pairs ++ p ∷ []
    → KeepsPairs (p ∷ []) more
pair_put pairs more p is i j (inl h) = inl (subst (λ (ps : List (ℕ × ℕ)). Contains ps (i, j))
    (sym is) (Contains-append_right pairs (p ∷ []) (i, j) h))
pair_put pairs more p is i j (inr h) = inr (subst (λ (ps : List (ℕ × ℕ)). Contains ps (j, i))
    (sym is) (Contains-append_right pairs (p ∷ []) (j, i) h))

-- a turn after others
pub stands_turned : {V D U F : Type 0} {listed list : Vec (ℕ × ℕ)} (old mid new : Contents V D U F)
    (v h : ℕ) → StandsBeside old mid v listed.items → TurnsAway mid new h listed list
    → origin mid.mesh h ≡ v → StandsBeside old new v list.items
stands_turned {listed = listed} {list = list} old mid new v h one t starts =
    let p : ℕ × ℕ = (neighbour mid.mesh h 0, neighbour mid.mesh h 2) in
    stands_on old mid new v listed.items (p ∷ []) list.items
    (pairs_kept listed.items list.items p t.items) (pair_put listed.items list.items p t.items) one
    (subst (λ (x : ℕ). StandsBeside mid new x (p ∷ [])) starts t.beside)

-- a turn alone
pub stands_put : {V D U F : Type 0} {listed list : Vec (ℕ × ℕ)} (old new : Contents V D U F)
    (v h : ℕ) → TurnsAway old new h listed list → origin old.mesh h ≡ v
    → StandsBeside old new v list.items
stands_put {listed = listed} old new v h t starts =
    stands_turned old old new v h (all_stands old v listed.items) t starts

-- ---- what is not at the vertex
-- an edge neither of whose ends is the vertex has none that is, in either order of the ends
pub no_end : {D U : Type 0} (v : ℕ) (e : FullEdge D U) (p : Ends) → Connects e p → e.source ≢ v
    → e.target ≢ v → (p.source ≢ v) × (p.target ≢ v)
no_end v e p (inl q) a b = (λ r. a (q.0 ∙ r), λ r. b (q.1 ∙ r))
no_end v e p (inr q) a b = (λ r. b (q.1 ∙ r), λ r. a (q.0 ∙ r))

-- a face none of whose corners is the vertex has none that is, wherever its corners begin
pub no_corner : {F : Type 0} (v : ℕ) (f : FullFace F) (t : Triangle) → HasCorners f t
    → f.corners.first ≢ v → f.corners.second ≢ v → f.corners.third ≢ v
    → (t.first ≢ v) × (t.second ≢ v) × (t.third ≢ v)
no_corner v f t (inl e) a b c = (
  λ r. a (ap (λ (x : Triangle). x.first) e ∙ r),
  λ r. b (ap (λ (x : Triangle). x.second) e ∙ r),
  λ r. c (ap (λ (x : Triangle). x.third) e ∙ r),
)
no_corner v f t (inr (inl e)) a b c = (
  λ r. c (ap (λ (x : Triangle). x.third) e ∙ r),
  λ r. a (ap (λ (x : Triangle). x.first) e ∙ r),
  λ r. b (ap (λ (x : Triangle). x.second) e ∙ r),
)
no_corner v f t (inr (inr e)) a b c = (
  λ r. b (ap (λ (x : Triangle). x.second) e ∙ r),
  λ r. c (ap (λ (x : Triangle). x.third) e ∙ r),
  λ r. a (ap (λ (x : Triangle). x.first) e ∙ r),
)

-- is none of the edges of the vertex
edge_stands : {D U : Type 0} (v : ℕ) (n : ℕ → ℕ) (lost : List (FullEdge D U)) (k : ℕ)
    → AllZip Connects lost (spokes_to v n k) → (e : FullEdge D U) → Contains lost e → e.source ≢ v
    → e.target ≢ v → ⊥
edge_stands v n [] k each e h a b = Contains-none e h
edge_stands v n (x ∷ xs) zero each e h a b = each
edge_stands {D} {U} v n (x ∷ xs) (suc k) each e h a b = elim (Contains-cases x xs e h) as (λ _. ⊥) [
  | inl q ↦ (no_end v e (joins v (n k))
      (subst (λ (y : FullEdge D U). Connects y (joins v (n k))) q each.0) a b).0 refl
  | inr r ↦ edge_stands v n xs k each.1 e r a b
]

-- and none of its faces
face_stands : {F : Type 0} (v : ℕ) (n : ℕ → ℕ) (lost : List (FullFace F)) (k : ℕ)
    → AllZip HasCorners lost (faces_between v n k) → (f : FullFace F) → Contains lost f
    → f.corners.first ≢ v → f.corners.second ≢ v → f.corners.third ≢ v → ⊥
face_stands v n [] k each f h a b c = Contains-none f h
face_stands v n (x ∷ xs) zero each f h a b c = each
face_stands {F} v n (x ∷ xs) (suc k) each f h a b c = elim (Contains-cases x xs f h) as (λ _. ⊥) [
  | inl q ↦ (no_corner v f (record { first = v; second = n k; third = n (suc k) })
      (subst (λ (y : FullFace F). HasCorners y
      (record { first = v; second = n k; third = n (suc k) })) q each.0) a b c).0 refl
  | inr r ↦ face_stands v n xs k each.1 f r a b c
]

-- an item after those that go
contains_after : {X : Type 0} (lost rest : List X) (x : X) → Contains rest x
    → Contains (lost ++ rest) x
contains_after [] rest x h = h
contains_after (y ∷ ys) rest x h = Contains-later y (ys ++ rest) x (contains_after ys rest x h)

-- an item that is not among those that go
left_over : {X : Type 0} (old lost rest : List X) (x : X) → IsPermutation old (lost ++ rest)
    → Contains old x → (Contains lost x → ⊥) → Contains rest x
left_over old lost rest x same h none =
    elim (Contains-append_cases lost rest x (Contains-permutation old (lost ++ rest) x same h)) as
    (λ _. Contains rest x) [
      | inl l ↦ absurd (none l)
      | inr r ↦ r
    ]

module _ {V D U F : Type 0} (old new : Contents V D U F) (v : ℕ) where
  -- where the edges of a vertex go, each other edge is there afterwards
  pub edges_stand : (n : ℕ → ℕ) (k : ℕ) → LosesEdges old new (spokes_to v n k) → (e : FullEdge D U)
      → Contains (full_edges old) e → e.source ≢ v → e.target ≢ v → Contains (full_edges new) e
  edges_stand n k (lost, are, same) e h a b = left_over (full_edges old) lost
      (full_edges new) e same h (λ l. edge_stands v n lost k are e l a b)

  -- and each edge afterwards was there, or has the data of one of the vertex
  pub edges_come : (n : ℕ → ℕ) (k : ℕ) → LosesEdges old new (spokes_to v n k) → (e : FullEdge D U)
      → Contains (full_edges new) e → Contains (full_edges old) e ⊎ HasValueAt old v e.value
  edges_come n k (lost, are, same) e h =
      inl (Contains-permutation (lost ++ full_edges new) (full_edges old) e (IsPermutation-sym
      (full_edges old) (lost ++ full_edges new) same) (contains_after lost (full_edges new) e h))

  -- the edges and the faces of a vertex on the hull go
  pub strip_stands : (pairs : List (ℕ × ℕ)) (n : ℕ → ℕ) (k : ℕ) → IsMeshWithData old
      → IsMeshWithData new → LosesStrip old new v n k → StandsBeside old new v pairs
  strip_stands pairs n k before after loses = record {
    edges = edges_stand n (suc k) loses.edges;
    faces = λ f h a b c. left_over (full_faces old) loses.faces.0 (full_faces new) f loses.faces.2 h
        (λ l. face_stands v n loses.faces.0 k loses.faces.1 f l a b c);
    comes = edges_come n (suc k) loses.edges;
    made = made_strip old new v pairs n k before after loses;
  }

  -- three faces give way to one
  pub hole_stands : (pairs : List (ℕ × ℕ)) (n : ℕ → ℕ) → IsMeshWithData old → IsMeshWithData new
      → FillsHole old new v n → n 3 ≡ n 0 → StandsBeside old new v pairs
  hole_stands pairs n before after hole around = record {
    edges = edges_stand n 3 hole.edges;
    faces = λ f h a b c. Contains-permutation (hole.made ∷ hole.rest) (full_faces new) f
        (IsPermutation-sym (full_faces new) (hole.made ∷ hole.rest) hole.is)
        (Contains-later hole.made hole.rest f (left_over (full_faces old) hole.lost hole.rest f
        hole.was h (λ l. face_stands v n hole.lost 3 hole.lost_are f l a b c)));
    comes = edges_come n 3 hole.edges;
    made = made_hole old new v n before after hole pairs around;
  }

  -- two edges of a line give way to one
  pub joined_stand : (u w : ℕ) → JoinsNeighbours old new v u w → (e : FullEdge D U)
      → Contains (full_edges old) e → e.source ≢ v → e.target ≢ v → Contains (full_edges new) e
  joined_stand u w j e h a b =
      Contains-permutation (j.moved ∷ j.rest) (full_edges new) e (IsPermutation-sym (full_edges new)
      (j.moved ∷ j.rest) j.is) (Contains-later j.moved j.rest e stays)
    where
      stays : Contains j.rest e
      stays = left_over (full_edges old) (j.lost ∷ j.kept ∷ []) j.rest e j.was h
          (λ l. elim (Contains-cases j.lost (j.kept ∷ []) e l) as (λ _. ⊥) [
            | inl q ↦ (no_end v e (joins v w)
                (subst (λ (y : FullEdge D U). Connects y (joins v w)) q j.lost_is) a b).0 refl
            | inr r ↦ elim (Contains-cases j.kept [] e r) as (λ _. ⊥) [
              | inl q ↦ (no_end v e (joins u v)
                  (subst (λ (y : FullEdge D U). Connects y (joins u v)) q j.kept_is) a b).1 refl
              | inr r ↦ Contains-none e r
            ]
          ])

  -- so it is where the two neighbours of a vertex are joined in its place
  pub joined_comes : (u w : ℕ) → JoinsNeighbours old new v u w → (e : FullEdge D U)
      → Contains (full_edges new) e → Contains (full_edges old) e ⊎ HasValueAt old v e.value
  joined_comes u w j e h = elim (Contains-cases j.moved j.rest e
      (Contains-permutation (full_edges new) (j.moved ∷ j.rest) e j.is h)) as
      (λ _. Contains (full_edges old) e ⊎ HasValueAt old v e.value) [
        | inl q ↦ inr (record {
          edge = j.kept;
          there =
              was j.kept
              (Contains-later j.lost (j.kept ∷ j.rest) j.kept (Contains-head j.kept j.rest));
          ends = elim j.kept_is [ inl b ↦ inr b.1 | inr b ↦ inl b.0 ];
          same = kept_value j.moved_is ∙ ap (λ (x : FullEdge D U). x.value) q;
        })
        | inr r ↦
            inl (was e
            (Contains-later j.lost (j.kept ∷ j.rest) e (Contains-later j.kept j.rest e r)))
      ]
    where
      was : (x : FullEdge D U) → Contains (j.lost ∷ j.kept ∷ j.rest) x → Contains (full_edges old) x
      was x c = Contains-permutation (j.lost ∷ j.kept ∷ j.rest) (full_edges old) x
          (IsPermutation-sym (full_edges old) (j.lost ∷ j.kept ∷ j.rest) j.was) c

      kept_value : ((j.kept.source ≡ u) × (j.moved ≡ record j.kept { source = u; target = w }))
          ⊎ ((j.kept.source ≡ v) × (j.moved ≡ record j.kept { source = w; target = u }))
          → j.kept.value ≡ j.moved.value
      kept_value (inl q) = sym (ap (λ (x : FullEdge D U). x.value) q.1)
      kept_value (inr q) = sym (ap (λ (x : FullEdge D U). x.value) q.1)
