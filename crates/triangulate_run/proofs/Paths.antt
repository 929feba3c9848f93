-- The edges of a path, as a reply names them, and what becomes of the stage.
-- Notions: edge_text_at; leads, can_add, no_edges, some_edges, same_edge_text, path_texts,
-- joins_none, edges_within, joins_some, joins_refused.
use Rattle.std.proofs.Common.{◌≡◌, ◌≢◌, ◌<◌, [], ◌∷◌, ◌++◌}
use Rattle.std.proofs.Common.{ℕ, Bool, true, false, List, length, map, refl, inl, inr, ap}
use Rattle.std.proofs.Common.{sym, ◌∙◌, subst}
use Rattle.std.specs.Prelude.{◌⊎◌, ℤ, All, Result, Err, IsOk}
use Rattle.std.specs.List.{flat_map}
use Rattle.std.specs.Bool.{◌==◌}
use Rattle.std.proofs.lemmas.Bool.{cases_eq, eqb-true, eqb-false}
use Rattle.std.proofs.lemmas.List.{nil_from_length}
use Rattle.std.proofs.lemmas.List.Elements.{All-nil, All-cons}
use Rattle.plane.specs.{AreNeighboursOn, CanAdd, Plain, Point}
use Rattle.half_edge_links.specs.{Mesh, origin, rev}
use Rattle.plane_theorems.specs.{AreNextOn}
use Rattle.delaunay_core.specs.{OutOfMemory, Point2}
use Rattle.delaunay_legalization.specs.{declared.cdt_edge.CdtEdge.CdtEdge, State.State}
use Rattle.delaunay_edit.specs.{AddsPathIfFree, constrained, constraint_edges, LeadAlong}
use Rattle.triangulate_run.specs.{ends_in, position, Refused, stage_by}
use Rattle.triangulate_run.specs.Answer.{ConstrainsPath, LeadsTo, MayRefuse}
use Rattle.triangulate_run.specs.{declared.reply.Reply.TheVariants.NoPath, Reply.pair_text}

-- neighbours on a segment, in the words of plain states
neighbours : (points : List Point) (i j a b : ℕ) → AreNextOn points i j a b
    → AreNeighboursOn position points i j a b
neighbours points i j a b h =
    record {
      apart = h.apart;
      first_index = h.first_index;
      second_index = h.second_index;
      first = h.first;
      second = h.second;
      none_between = h.none_between;
    }

-- edges that lead along a segment have ends that lead along it
pub leads : (points : List Point) (m : Mesh) (i j : ℕ) (edges : List ℕ)
    → LeadAlong points m i j edges → LeadsTo points i j (ends_in m edges)
leads points m i j [] h = h
leads points m i j (e ∷ es) (within, from, next, rest) = (
  from,
  neighbours points i j i (origin m (rev e)) next,
  leads points m (origin m (rev e)) j es rest,
)

-- they are edges of the mesh
leads_within : (points : List Point) (m : Mesh) (i j : ℕ) (edges : List ℕ)
    → LeadAlong points m i j edges → All (λ h. h < length m.half_edges) edges
leads_within points m i j [] h = All-nil (λ h. h < length m.half_edges)
leads_within points m i j (e ∷ es) (within, from, next, rest) =
    All-cons (λ h. h < length m.half_edges) e es within
    (leads_within points m (origin m (rev e)) j es rest)

-- what is not denied of all crossings holds of all
pub can_add : {V : Type 0} (at : V → Point) (s : Plain V) (i j : ℕ) → ¬ ¬ CanAdd at s i j
    → CanAdd at s i j
can_add at s i j h = λ a b joined crossing. h (λ can. can a b joined crossing)

-- whether there are edges, by their number
pub no_edges : (edges : List ℕ) (n : ℕ) (b : Bool) → length edges ≡ n → b ≡ (n == 0)
    → b ≡ true → edges ≡ []
no_edges edges n b is e t = nil_from_length edges (is ∙ eqb-true n 0 (sym e ∙ t))

-- a path whose number of edges is not 0 has edges
pub some_edges : (edges : List ℕ) (n : ℕ) (b : Bool) → length edges ≡ n → b ≡ (n == 0)
    → b ≡ false → edges ≢ []
some_edges edges n b is e f none = eqb-false n 0 (sym e ∙ f) (sym is ∙ ap length none)

-- the text of the ends of an edge
abbrev pub edge_text_at : Mesh → ℕ → List ℕ
edge_text_at m h = pair_text (origin m h, origin m (rev h))

-- an edge of the same mesh with the same index has the same text
pub same_edge_text : (m n : Mesh) (h k : ℕ) → n ≡ m → k ≡ h → edge_text_at n k ≡ edge_text_at m h
same_edge_text m n h k e f = ap (λ l. edge_text_at l k) e ∙ ap (edge_text_at m) f

-- the texts of the edges, by the mesh, are those of the pairs of their ends
pub path_texts : (m : Mesh) (edges : List ℕ)
    → flat_map (edge_text_at m) edges ≡ flat_map pair_text (ends_in m edges)
path_texts m [] = refl
path_texts m (e ∷ es) = ap (λ ys. edge_text_at m e ++ ys) (path_texts m es)

-- ---- what became of the path from i to j
module _ {D U F : Type 0} (old new : State (Point2 ℤ) D (CdtEdge U) F) (i j : ℕ) where
  module _ (edges : List ℕ) (adds : AddsPathIfFree position i j edges old new) where
    -- without edges there was nothing to join
    pub joins_none : edges ≡ [] → i < length old.vertices → j < length old.vertices
        → MayRefuse (stage_by constraint_edges old) i j NoPath (stage_by constraint_edges new)
    joins_none none i_in j_in =
        ((i_in, j_in), barred, ap (stage_by constraint_edges) (adds.refused barred).1)
      where
        barred : (i ≡ j) ⊎ (¬ CanAdd position (constrained old) i j)
        barred = elim (cases_eq i j) [
          | inl same ↦ inl same
          | inr other ↦ inr (λ free. other
              (subst (λ (hs : List ℕ). LeadAlong (map position new.vertices) new.mesh i j hs) none
              (adds.along other free)))
        ]

    module _ (some : edges ≢ []) where
      apart : i ≢ j
      apart same = some (adds.refused (inl same)).0

      -- no constraint crosses the segment of i and j
      free : CanAdd position (constrained old) i j
      free = can_add position (constrained old) i j (λ barred. some (adds.refused (inr barred)).0)

      -- each of the edges is one of the mesh
      pub edges_within : All (λ h. h < length new.mesh.half_edges) edges
      edges_within =
          leads_within (map position new.vertices) new.mesh i j edges (adds.along apart free)

      -- the stage has the path with the ends of these edges
      pub joins_some : ConstrainsPath (stage_by constraint_edges old) i j (ends_in new.mesh edges)
          (stage_by constraint_edges new)
      joins_some =
          let plain = adds.plain apart free in
          record {
            apart = apart;
            adds = plain;
            leads = subst
                (λ (vs : List (Point2 ℤ)). LeadsTo (map position vs) i j (ends_in new.mesh edges))
                plain.vertices
                (leads (map position new.vertices) new.mesh i j edges (adds.along apart free));
          }

  -- memory was refused
  pub joins_refused : {X E : Type 0} (r : Result X E) (e : E) → r ≡ Err e
      → ((i ≡ j) ⊎ (¬ CanAdd position (constrained old) i j) → IsOk r) → i < length old.vertices
      → j < length old.vertices → new ≡ old → MayRefuse (stage_by constraint_edges old) i j
      (Refused OutOfMemory) (stage_by constraint_edges new)
  joins_refused {X} {E} r e is none i_in j_in same = (
    (i_in, j_in),
    inr (λ barred. (let no = subst (λ (q : Result X E). IsOk q) is (none barred) in cc)),
    ap (stage_by constraint_edges) same,
  )
