-- Going through the edges of a vertex, one after another, from any of them.
-- Notions: IsLeftOfRound, IsWholeRound, IsGoingRound; first_left, none_left, round_of, round_at,
-- spokes_once, whole_round, one_less_left, none_is_left, next_left, round_begins, seen_as,
-- next_within, next_starts, round_goes_on, round_ends.
use Rattle.std.proofs.Common.{◌≡◌, ◌⊎◌, ℕ, ◌<◌, List, [], ◌∷◌, ◌∙◌}
use Rattle.std.proofs.Common.{length, map, Option, Some, None, IsSome, refl, sym, ap, subst, inl}
use Rattle.std.proofs.Common.{inr, arith}
use Rattle.std.specs.Prelude.{Contains}
use Rattle.std.specs.Borrow.{Bor}
use Rattle.std.specs.List.{range_with_len}
use Rattle.std.proofs.lemmas.List.FromFn.{length-map-range_with_len, get_or-map-range_with_len}
use Rattle.half_edge_links.specs.{IsRound, IsValidMesh, Mesh, origin, out_edge, spoke}
use Rattle.half_edge_links.proofs.{Lists.OneOrbit.edges_go_round, Removing.CollapseLemmas.some_of}
use Rattle.plane_theorems.proofs.{Contains-cases, Contains-head, Contains-later, Contains-none}
use Rattle.plane_theorems.proofs.{IsOnce, once_none, once_tail}
use Rattle.half_edge_dcel.specs.{Contents, each_in, GivesRound}
use Rattle.delaunay_legalization.proofs.Entries.{index_listed, not_some}
use Rattle.delaunay_legalization.proofs.RoundShift.{round_from}
use Rattle.delaunay_legalization.proofs.WorkLists.{contains_map, contains_map_from}

-- the first of what is left
pub first_left : {C : Type 0} (m : Bor C) (rest : List ℕ) (x : Bor C × ℕ) (left : List (Bor C × ℕ))
    → each_in m rest ≡ x ∷ left
    → (i : ℕ) × (others : List ℕ) × (rest ≡ i ∷ others) × ((m, i) ≡ x) × (each_in m others ≡ left)
first_left m [] x left e = cc
first_left m (i ∷ rest) x left e = (i, rest, refl, cc, cc)

-- nothing is given, so nothing was left
pub none_left : {C : Type 0} (m : Bor C) (rest : List ℕ) → each_in m rest ≡ [] → rest ≡ []
none_left m [] e = refl
none_left m (i ∷ rest) e = cc

-- ---- what is left of the edges of vertex v
-- these edges of the vertex are still to be given, each once
pub record IsLeftOfRound {V D U F : Type 0} (c : Contents V D U F) (v : ℕ)
    (given : List (Bor (Contents V D U F) × ℕ)) (rest : List ℕ) : Type 0 where
  pub mesh : Bor (Contents V D U F)
  pub left : each_in mesh rest ≡ given
  pub within : (h : ℕ) → Contains rest h → h < length c.mesh.half_edges
  pub starts : (h : ℕ) → Contains rest h → origin c.mesh h ≡ v
  pub once : IsOnce rest

-- at first all of them
pub record IsWholeRound {V D U F : Type 0} (c : Contents V D U F) (v : ℕ)
    (given : List (Bor (Contents V D U F) × ℕ)) : Type 0 where
  pub rest : List ℕ
  pub are_left : IsLeftOfRound c v given rest
  pub all : (h : ℕ) → h < length c.mesh.half_edges → origin c.mesh h ≡ v → Contains rest h

-- the round of a vertex starts at any of its edges
pub round_of : (m : Mesh) (v first count h : ℕ) → IsRound m v first count → h < length m.half_edges
    → origin m h ≡ v → IsRound m v h count
round_of m v first count h round within starts =
    let i = round.all h within starts in
    subst (λ (x : ℕ). IsRound m v x count) (sym i.2) (round_from m v first count round i.0)

-- each half edge begins a round of its origin
pub round_at : (m : Mesh) → IsValidMesh m → (v h : ℕ) → h < length m.half_edges → origin m h ≡ v
    → (count : ℕ) × IsRound m v h count
round_at m valid v h within starts =
    let o = some_of (out_edge m v) (subst (λ (x : ℕ). IsSome (out_edge m x)) starts
    (valid.sound.edges h within).has_out) in
    let r = edges_go_round m valid v o.0 o.1 in
    (r.0, round_of m v o.0 r.0 h r.1 within starts)

-- the edges of a round are given once
pub spokes_once : (m : Mesh) (v first count : ℕ) → IsRound m v first count
    → IsOnce (map (spoke m first) (range_with_len 0 count))
spokes_once m v first count r i j n less inside e =
    let size = length-map-range_with_len (spoke m first) 0 count in
    let second : j < count = omega (arith, inside, size) in
    let first_in : i < count = omega (arith, less, second) in
    let one = get_or-map-range_with_len (spoke m first) 0 count i i n first_in (omega arith) in
    let two = get_or-map-range_with_len (spoke m first) 0 count j j n second (omega arith) in
    r.apart i j less second (sym one ∙ e ∙ two)

module _ {V D U F : Type 0} (c : Contents V D U F) (v : ℕ) where
  -- the round of the vertex, or nothing
  pub whole_round : (d : Bor (Contents V D U F)) (given : List (Bor (Contents V D U F) × ℕ))
      → d.now ≡ c → IsValidMesh c.mesh → GivesRound d v given → IsWholeRound c v given
  whole_round d given same valid gives = go (out_edge d.now.mesh v) refl
    where
      mesh_is : d.now.mesh ≡ c.mesh
      mesh_is = ap (λ (x : Contents V D U F). x.mesh) same

      go : (o : Option ℕ) → out_edge d.now.mesh v ≡ o → IsWholeRound c v given
      go None is = record {
        rest = [];
        are_left = record {
          mesh = d;
          left = sym (gives.alone is);
          within = λ h x. absurd (Contains-none h x);
          starts = λ h x. absurd (Contains-none h x);
          once = once_none;
        };
        all = λ h w e.
            absurd (no_out
            (subst (λ (x : ℕ). IsSome (out_edge c.mesh x)) e (valid.sound.edges h w).has_out));
      }
        where
          no_out : ¬ IsSome (out_edge c.mesh v)
          no_out x =
              not_some (out_edge c.mesh v) (ap (λ (m : Mesh). out_edge m v) (sym mesh_is) ∙ is) x
      go (Some first) is = record {
        rest = spokes;
        are_left = record {
          mesh = d;
          left = sym r.2;
          within = λ h x.
              let y = contains_map_from (spoke d.now.mesh first) (range_with_len 0 r.0) h x in
              subst (λ (m : Mesh). h < length m.half_edges) mesh_is
              (subst (λ (k : ℕ). k < length d.now.mesh.half_edges) y.2 (r.1.within y.0));
          starts = λ h x.
              let y = contains_map_from (spoke d.now.mesh first) (range_with_len 0 r.0) h x in
              ap (λ (m : Mesh). origin m h) (sym mesh_is) ∙ ap (origin d.now.mesh) (sym y.2)
              ∙ r.1.starts y.0;
          once = spokes_once d.now.mesh v first r.0 r.1;
        };
        all = λ h w e.
            let i = r.1.all h (subst (λ (m : Mesh). h < length m.half_edges) (sym mesh_is) w)
            (ap (λ (m : Mesh). origin m h) mesh_is ∙ e) in
            subst (λ (k : ℕ). Contains spokes k) (sym i.2)
            (contains_map (spoke d.now.mesh first) (range_with_len 0 r.0) i.0
            (index_listed r.0 i.0 i.1));
      }
        where
          r : (count : ℕ) × IsRound d.now.mesh v first count
              × (given ≡ each_in d (map (spoke d.now.mesh first) (range_with_len 0 count)))
          r = gives.round first is

          spokes : List ℕ
          spokes = map (spoke d.now.mesh first) (range_with_len 0 r.0)

  module _ (given : List (Bor (Contents V D U F) × ℕ)) (rest : List ℕ)
      (p : IsLeftOfRound c v given rest) where
    -- the next one, and what is left after it
    pub one_less_left : (x : Bor (Contents V D U F) × ℕ) (left : List (Bor (Contents V D U F) × ℕ))
        → given ≡ x ∷ left
        → (others : List ℕ) × (rest ≡ x.1 ∷ others) × IsLeftOfRound c v left others
    one_less_left x left e = (
      s.1,
      first,
      record {
        mesh = p.mesh;
        left = s.4;
        within = λ h y. p.within h
            (subst (λ (xs : List ℕ). Contains xs h) (sym s.2) (Contains-later s.0 s.1 h y));
        starts = λ h y. p.starts h
            (subst (λ (xs : List ℕ). Contains xs h) (sym s.2) (Contains-later s.0 s.1 h y));
        once = once_tail s.0 s.1 (subst (λ (xs : List ℕ). IsOnce xs) s.2 p.once);
      },
    )
      where
        s : (i : ℕ) × (others : List ℕ) × (rest ≡ i ∷ others) × ((p.mesh, i) ≡ x)
            × (each_in p.mesh others ≡ left)
        s = first_left p.mesh rest x left (p.left ∙ e)

        first : rest ≡ x.1 ∷ s.1
        first = s.2 ∙ ap (λ (y : Bor (Contents V D U F) × ℕ). y.1 ∷ s.1) s.3

    -- where nothing is given any more, none is left
    pub none_is_left : given ≡ [] → rest ≡ []
    none_is_left e = none_left p.mesh rest (p.left ∙ e)

    -- the next one is an edge of the vertex
    pub next_left : (x : Bor (Contents V D U F) × ℕ) (left : List (Bor (Contents V D U F) × ℕ))
        → given ≡ x ∷ left → Contains rest x.1
    next_left x left e =
        let s = one_less_left x left e in
        subst (λ (xs : List ℕ). Contains xs x.1) (sym s.1) (Contains-head x.1 s.0)

-- ---- each edge of vertex v is among those that are left, or was seen
-- each edge of the vertex is still to be given or was seen
pub record IsGoingRound {V D U F : Type 0} (c : Contents V D U F) (v : ℕ) (Seen : ℕ → Type 0)
    (given : List (Bor (Contents V D U F) × ℕ)) : Type 0 where
  pub rest : List ℕ
  pub are_left : IsLeftOfRound c v given rest
  pub each : (h : ℕ) → h < length c.mesh.half_edges → origin c.mesh h ≡ v → Contains rest h ⊎ Seen h

module _ {V D U F : Type 0} (c : Contents V D U F) (v : ℕ) (Seen : ℕ → Type 0) where
  -- at first each edge of the vertex is still to be given
  pub round_begins : (d : Bor (Contents V D U F)) (given : List (Bor (Contents V D U F) × ℕ))
      → d.now ≡ c → IsValidMesh c.mesh → GivesRound d v given → IsGoingRound c v Seen given
  round_begins d given same valid gives =
      let w = whole_round c v d given same valid gives in
      record { rest = w.rest; are_left = w.are_left; each = λ h within e. inl (w.all h within e) }

  module _ (given : List (Bor (Contents V D U F) × ℕ)) (p : IsGoingRound c v Seen given) where
    -- what was seen may be said in other words
    pub seen_as : (Known : ℕ → Type 0) → ((h : ℕ) → Seen h → Known h) → IsGoingRound c v Known given
    seen_as Known same = record {
      rest = p.rest;
      are_left = p.are_left;
      each = λ h w is. elim (p.each h w is) [ inl y ↦ inl y | inr y ↦ inr (same h y) ];
    }

    module _ (x : Bor (Contents V D U F) × ℕ) (left : List (Bor (Contents V D U F) × ℕ))
        (e : given ≡ x ∷ left) where
      -- the next one is an edge of the mesh
      pub next_within : x.1 < length c.mesh.half_edges
      next_within = p.are_left.within x.1 (next_left c v given p.rest p.are_left x left e)

      -- the next one starts at the vertex
      pub next_starts : origin c.mesh x.1 ≡ v
      next_starts = p.are_left.starts x.1 (next_left c v given p.rest p.are_left x left e)

      -- the next one is seen, and one fewer is left
      pub round_goes_on : Seen x.1 → IsGoingRound c v Seen left
      round_goes_on seen =
          let s = one_less_left c v given p.rest p.are_left x left e in
          record {
            rest = s.0;
            are_left = s.2;
            each = λ h w is. elim (p.each h w is) [
              | inl y ↦
                  elim (Contains-cases x.1 s.0 h (subst (λ (xs : List ℕ). Contains xs h) s.1 y)) [
                    | inl z ↦ inr (subst Seen z seen)
                    | inr z ↦ inl z
                  ]
              | inr y ↦ inr y
            ];
          }

    -- when none is left, each edge of the vertex was seen
    pub round_ends : given ≡ [] → (h : ℕ) → h < length c.mesh.half_edges
        → origin c.mesh h ≡ v → Seen h
    round_ends e h w is = elim (p.each h w is) [
      | inl y ↦
          let none = none_is_left c v given p.rest p.are_left e in
          absurd (Contains-none h (subst (λ (xs : List ℕ). Contains xs h) none y))
      | inr y ↦ y
    ]
