-- One vertex less: where all faces and outer edges at v give way to others, a local mesh of the
-- other vertices is left.
-- Notions: IsCut (what such an edit owes) and `cut`.
use Rattle.std.proofs.Common.{[], ℕ, List, sym, subst}
use mathlib.Core.Logic.{inl, inr, ◌≢◌}
use Rattle.std.specs.Prelude.{Contains}
use Rattle.std.proofs.lemmas.Bool.{cases_eq}
use Rattle.plane.specs.{Face, Point}
use Rattle.plane.proofs.{if_left, left_if, left_not_below}
use Rattle.plane_theorems.specs.{FacesChange, IsOther, LocalMesh, LocalMeshWithout, OuterChange}
use Rattle.plane_theorems.proofs.Edits.LocalMesh.Changes.{Each, of_each, to_each}
use Rattle.plane_theorems.proofs.Edits.LocalMesh.Exchange.{AreTurning, border_of, EdgesOwe, edited}
use Rattle.plane_theorems.proofs.Edits.LocalMesh.Exchange.{IsTouched, KeepBalance, MeshOver}
use Rattle.plane_theorems.proofs.{Edits.LocalMesh.Exchange.touched_in_words, Tiling.Flows.IsTurnOf}
use Rattle.plane_theorems.proofs.Tiling.Tiles.{by_signs, point_at}

-- a mesh of the vertices but v, in the words of specs/
but_in_words : (v : ℕ) (points : List Point) (faces : List Face) (outer : List (ℕ × ℕ)) → MeshOver
    (IsOther points v) (point_at points) faces outer → LocalMeshWithout v points faces outer
but_in_words v points faces outer m = record {
  distinct = λ i j h k a e. m.distinct i j h k a (λ o. record { x = (e o).x; y = (e o).y });
  some_face = m.some_face;
  used = λ k h. touched_in_words _ _ k (m.used k h);
  corners = λ f h. let t = m.turning f.a f.b f.c (inl h) in (t.0, t.1, t.2);
  turning = λ f h. left_if _ _ _ (m.turning f.a f.b f.c (inl h)).3;
  ends = λ e h. (m.border e h).ends;
  supporting = λ e h k l t. left_not_below (if_left _ _ _ t) ((m.border e h).supporting k l);
  bare = λ e h. (m.border e h).bare;
  once = m.once;
  balanced = m.balanced;
}

module _ (points : List Point) (old new gone made : List Face)
    (outer outer' left come : List (ℕ × ℕ)) (m : LocalMesh points old outer) (v : ℕ) where
  -- what an edit that takes v owes
  pub record IsCut : Type 0 where
    pub faces_change : FacesChange old new gone made
    pub outer_change : OuterChange outer outer' left come
    pub some_face : new ≢ []
    pub all_gone : (a b : ℕ) → IsTurnOf old v a b → IsTurnOf gone v a b
    pub turning : Each (λ f. AreTurning (IsOther points v) (point_at points) f.a f.b f.c) made
    pub kept : Each (λ f. (f.a ≢ v → IsTouched made come f.a)
        × (f.b ≢ v → IsTouched made come f.b) × (f.c ≢ v → IsTouched made come f.c)) gone
    pub left_all : (e : ℕ × ℕ) → Contains outer e → ¬ Contains left e → (e.0 ≢ v) × (e.1 ≢ v)
    pub edges : EdgesOwe (IsOther points v) (point_at points) outer left come
    pub same : KeepBalance gone made left come

  -- then it leaves a mesh of the others
  pub cut : IsCut → LocalMeshWithout v points new outer'
  cut s = but_in_words v _ new _ (edited (IsOther points v) _
      _ old new _ _ _ _ _ _ (by_signs _ old _ m) (record {
        faces_change = s.faces_change;
        outer_change = s.outer_change;
        distinct = λ i j h k. (by_signs _ old _ m).distinct i j h.0 k.0;
        some_face = s.some_face;
        old_or_new = λ k h. inl h.0;
        lives = λ k h. elim (cases_eq k v) [
          | inl e ↦ inr (
            (λ o. o.1 e),
            (λ a b t. subst (λ i. IsTurnOf old i a b → IsTurnOf gone i a b) (sym e)
                (s.all_gone a b) t),
          )
          | inr ne ↦ inl (h, ne)
        ];
        turning = s.turning;
        kept = to_each _ _ (λ f h. let k = of_each _ _ s.kept f h in
            ((λ o. k.0 o.1), (λ o. k.1 o.1), (λ o. k.2 o.1)));
        stays = λ e h away. let d = s.left_all e h away in
            let b = border_of _ _ old _
            (by_signs _ old _ m) e h in record {
              ends = ((b.ends.0, d.0), (b.ends.1, d.1), b.ends.2);
              supporting = λ k o. b.supporting k o.0;
              bare = λ k o. b.bare k o.0;
            };
        edges = s.edges;
        same = s.same;
      }))
