-- The edges of some pairs of vertices, where only these may fail the circle test.
-- Notions: IsListing; edge_kept, edge_put, listing_begins, listing_goes_on, listing_ends,
-- pairs_are_left, only_listed.
use Rattle.std.proofs.Common.{◌≡◌, ◌⊎◌, ◌+◌, ◌*◌, ◌/◌, ◌<◌, ◌≤◌, ◌++◌, ◌∙◌}
use Rattle.std.proofs.Common.{ℕ, List, length, get_or, refl, sym, ap, subst, inl, inr, arith}
use Rattle.std.specs.Prelude.{Contains}
use Rattle.std.proofs.lemmas.Bool.{cases_eq}
use Rattle.std.proofs.lemmas.List.Elements.{Contains-append_cases}
use Rattle.{plane.specs.Joins, plane.specs.Point, plane_theorems.proofs.get_or_any}
use Rattle.{plane.proofs.turned_join, plane_theorems.specs.AllPassBut, plane_theorems.specs.IsMesh}
use Rattle.half_edge_links.specs.{AreSoundLinks, IsValidMesh, Mesh, origin, rev}
use Rattle.half_edge_links.proofs.{rev-rev, rev_within}
use Rattle.delaunay_legalization.specs.{AreEdges, faces_of, FailOnlyOf, outer_of, pair_at, pairs_at}
use Rattle.delaunay_legalization.proofs.{contains_map, contains_map_from, edge_of_face}
use Rattle.delaunay_legalization.proofs.{half_of_even, half_same, IsListedEdge, joins_directed}
use Rattle.delaunay_legalization.proofs.{listed_edge, own_indexes}
use Rattle.delaunay_vertices.specs.{FailOnlyAt, pairs_left}
use Rattle.delaunay_vertices.specs.Pairs.{HasEdgeOf, HasEdgesOf, pair_left}

-- a longer list has an edge too
longer : (m : Mesh) (i j : ℕ) (ks more : List ℕ) → ((k : ℕ) → Contains ks k → Contains more k) →
    Contains (pairs_at m ks) (i, j) → Contains (pairs_at m more) (i, j)
longer m i j ks more kept h =
    let k = contains_map_from (pair_at m) ks (i, j) h in
    subst (Contains (pairs_at m more)) k.2 (contains_map (pair_at m) more k.0 (kept k.0 k.1))

-- a longer list has the edge of two vertices too
pub edge_kept : (m : Mesh) (i j : ℕ) (ks more : List ℕ)
    → ((k : ℕ) → Contains ks k → Contains more k) → HasEdgeOf m i j ks → HasEdgeOf m i j more
edge_kept m i j ks more kept has h within starts ends =
    elim (has h within starts ends) as (λ _. Joins (pairs_at m more) i j) [
      | inl x ↦ inl (longer m i j ks more kept x)
      | inr x ↦ inr (longer m j i ks more kept x)
    ]

-- one that was put in
pub edge_put : (m : Mesh) {i j : ℕ} (e : ℕ) (ks : List ℕ) → origin m e ≡ i → origin m (rev e) ≡ j
    → Contains ks (e / 2) → HasEdgeOf m i j ks
edge_put m e ks starts ends there h within is_i is_j =
    subst (λ (x : ℕ × ℕ). Joins (pairs_at m ks) x.0 x.1) (λ o. (starts o, ends o))
    (joins_directed m ks e there)

-- ---- the list as the edges of some pairs are put in, one pair after another
-- the edges of the first i pairs are in the list
pub record IsListing (m : Mesh) (last v : ℕ) (pairs : List (ℕ × ℕ)) (was : List ℕ) (i : ℕ)
    (ks : List ℕ) (room_was room : ℕ) : Type 0 where
  pub each : (j : ℕ) (d : ℕ × ℕ) → j < i → HasEdgeOf m (pair_left last v (get_or pairs j d)).0
      (pair_left last v (get_or pairs j d)).1 ks
  pub kept : (k : ℕ) → Contains was k → Contains ks k
  pub edges : AreEdges m ks
  pub room_stays : room ≡ room_was

-- before the first pair the list is as it was
pub listing_begins : {m : Mesh} {last v room : ℕ} {pairs : List (ℕ × ℕ)} {was : List ℕ}
    → AreEdges m was → IsListing m last v pairs was 0 was room room
listing_begins edges = record {
  each = λ j d less. absurd (omega (arith, less));
  kept = λ k h. h;
  edges = edges;
  room_stays = refl;
}

module _ {m : Mesh} {last v i room_was room : ℕ} {pairs : List (ℕ × ℕ)} {was ks : List ℕ}
    (p : IsListing m last v pairs was i ks room_was room) where
  -- with the edge of the next pair the list has one more
  pub listing_goes_on : {x : ℕ × ℕ} {more : List ℕ} {room_now : ℕ} → i < length pairs
      → x ≡ get_or pairs i x → ((k : ℕ) → Contains ks k → Contains more k)
      → HasEdgeOf m (pair_left last v x).0 (pair_left last v x).1 more → AreEdges m more
      → room_now ≡ room → IsListing m last v pairs was (i + 1) more room_was room_now
  listing_goes_on {x} {more} inside here kept there edges stays = record {
    each = λ j d less. elim (cases_eq j i) [
      | inl e ↦
          subst (λ (y : ℕ × ℕ). HasEdgeOf m (pair_left last v y).0 (pair_left last v y).1 more)
          (here ∙ get_or_any pairs i x d inside ∙ sym (ap (λ k. get_or pairs k d) e)) there
      | inr n ↦ edge_kept m (pair_left last v (get_or pairs j d)).0
          (pair_left last v (get_or pairs j d)).1 ks more
          kept (p.each j d (omega (arith, less, n)))
    ];
    kept = λ k h. kept k (p.kept k h);
    edges = edges;
    room_stays = stays ∙ p.room_stays;
  }

  one_way : length pairs ≤ i → (a b : ℕ) → Contains (pairs_left last v pairs) (a, b)
      → HasEdgeOf m a b ks
  one_way all a b h = go (contains_map_from (pair_left last v) pairs (a, b) h)
    where
      go : (x : ℕ × ℕ) × Contains pairs x × (pair_left last v x ≡ (a, b)) → HasEdgeOf m a b ks
      go (x, (j, within, is), same) =
          subst (λ (y : ℕ × ℕ). HasEdgeOf m y.0 y.1 ks) (ap (pair_left last v) is ∙ same)
          (p.each j x (omega (arith, all, within)))

  -- after the last pair the list has the edge of each
  pub listing_ends : AreSoundLinks m → length pairs ≤ i
      → HasEdgesOf m (pairs_left last v pairs) ks
  listing_ends s all a b (inl h) = one_way all a b h
  listing_ends s all a b (inr h) = λ e within starts ends.
      turned_join (pairs_at m ks) b a
      (one_way all b a h (rev e) (rev_within e (length m.half_edges) s.even within)
      ends (ap (origin m) (rev-rev e) ∙ starts))

-- ---- nothing but the edges of both lists is left to test
module _ (m : Mesh) (s : AreSoundLinks m) (last v : ℕ) (border turned : List (ℕ × ℕ))
    (some ks : List ℕ) (of_border : HasEdgesOf m (pairs_left last v border) some)
    (kept : (k : ℕ) → Contains some k → Contains ks k)
    (of_turned : HasEdgesOf m (pairs_left last v turned) ks) where
  in_one : (a b : ℕ) → Contains (pairs_left last v (border ++ turned)) (a, b) →
      Contains (pairs_left last v border) (a, b) ⊎ Contains (pairs_left last v turned) (a, b)
  in_one a b h = go (contains_map_from (pair_left last v) (border ++ turned) (a, b) h)
    where
      go : (x : ℕ × ℕ) × Contains (border ++ turned) x × (pair_left last v x ≡ (a, b)) →
          Contains (pairs_left last v border) (a, b) ⊎ Contains (pairs_left last v turned) (a, b)
      go (x, h, same) = elim (Contains-append_cases border turned x h) [
        | inl y ↦ inl (subst (Contains (pairs_left last v border)) same
            (contains_map (pair_left last v) border x y))
        | inr y ↦ inr (subst (Contains (pairs_left last v turned)) same
            (contains_map (pair_left last v) turned x y))
      ]

  in_either : (a b : ℕ) → Joins (pairs_left last v (border ++ turned)) a b → HasEdgeOf m a b ks
  in_either a b (inl h) = elim (in_one a b h) as
      (λ _. HasEdgeOf m a b ks) [
        | inl x ↦ edge_kept m a b some ks kept (of_border a b (inl x))
        | inr x ↦ of_turned a b (inl x)
      ]
  in_either a b (inr h) = elim (in_one b a h) as
      (λ _. HasEdgeOf m a b ks) [
        | inl x ↦ edge_kept m a b some ks kept (of_border a b (inr x))
        | inr x ↦ of_turned a b (inr x)
      ]

  -- where none but the pairs are left to test, none but the listed edges are
  pub pairs_are_left : (points : List Point) (constraints : List (ℕ × ℕ)) →
      AllPassBut points (faces_of m) constraints (pairs_left last v (border ++ turned)) →
      AllPassBut points (faces_of m) constraints (pairs_at m ks)
  pairs_are_left points constraints passing i j k l f g free untested =
      passing i j k l f g free (λ joined.
      let e = edge_of_face m s i j k f in
      untested (in_either i j joined e.0 e.1.inner.0 e.1.first
      (sym (s.edges e.0 e.1.inner.0).starts ∙ e.1.second)))

  -- where no edge but those of the pairs may fail, none but the listed edges may
  module _ (points : List Point) (valid : IsValidMesh m)
      (shape : IsMesh points (faces_of m) (outer_of m)) (edges : AreEdges m ks) where
    there : (k : ℕ) → (2 * k) < length m.half_edges →
        Joins (pairs_at m ks) (origin m (2 * k)) (origin m (rev (2 * k))) → Contains ks k
    there k within joined =
        subst (Contains ks) (sym (ap (λ (h : ℕ). h / 2) same) ∙ half_of_even k) e.1.listed
      where
        e : (h : ℕ) × IsListedEdge m ks (origin m (2 * k)) (origin m (rev (2 * k))) h
        e = listed_edge m ks (origin m (2 * k)) (origin m (rev (2 * k))) joined

        in_mesh : (e.0 ≡ 2 * (e.0 / 2)) ⊎ (e.0 ≡ rev (2 * (e.0 / 2))) → e.0 < length m.half_edges
        in_mesh (inl i) =
            subst (λ (h : ℕ). h < length m.half_edges) (sym i) (edges.within (e.0 / 2) e.1.listed)
        in_mesh (inr i) = subst (λ (h : ℕ). h < length m.half_edges) (sym i)
            (rev_within (2 * (e.0 / 2)) (length m.half_edges) s.even
            (edges.within (e.0 / 2) e.1.listed))

        same : 2 * k ≡ e.0
        same = (own_indexes points m valid shape).edges e.0 (2 * k)
            (in_mesh (half_same (2 * (e.0 / 2)) e.0 (sym (half_of_even (e.0 / 2))))) within
            (sym e.1.start, sym e.1.end)

    pub only_listed : FailOnlyAt points m (pairs_left last v (border ++ turned))
        → FailOnlyOf points m ks
    only_listed only k within = elim (only k within) [
      | inl joined ↦ inl (there k within
          (in_either (origin m (2 * k)) (origin m (rev (2 * k))) joined (2 * k) within
          refl refl))
      | inr quiet ↦ inr quiet
    ]
