-- Lists of the edges opposite a vertex that are left to test.
-- Notions: PutsLast, LieOpposite, HasAllOpposite; put_last, none_in, legal_with_more, opposites.
use Rattle.std.proofs.Common.{◌≡◌, ◌≢◌, ◌⊎◌, ℕ, ◌/◌, ◌<◌, List, [], ◌∷◌, ◌++◌}
use Rattle.std.proofs.Common.{length, refl, sym, ◌∙◌, subst, inl, inr}
use Rattle.std.specs.Prelude.{Contains}
use Rattle.std.proofs.lemmas.Bool.{cases_eq}
use Rattle.half_edge_links.specs.{IsValidMesh, Mesh, next}
use Rattle.plane_theorems.proofs.{Contains-cases, Contains-head, Contains-later, Contains-none}
use Rattle.plane_theorems.proofs.{IsOnce, once_cons, once_head, once_none, once_tail}
use Rattle.delaunay_legalization.specs.{AreEdges, Gains, IsPartlyLegal, pair_at, pairs_at}
use Rattle.delaunay_legalization.proofs.{FarSides.with_one, Legalizing.edges_gained}
use Rattle.{delaunay_legalization.proofs.Pushing.no_edges, plane.specs.Joins, plane.specs.Point}
use Rattle.delaunay_legalization.proofs.WorkLists.{contains_last, contains_map, contains_map_from}

-- ---- an edge of a list is put at its end
-- rest and k have all that the list ks has, and k but once
pub record PutsLast (ks : List ℕ) (k : ℕ) (rest : List ℕ) : Type 0 where
  pub once : IsOnce rest
  pub off : ¬ Contains rest k
  pub from : (j : ℕ) → Contains rest j → Contains ks j
  pub kept : (j : ℕ) → Contains ks j → Contains (rest ++ k ∷ []) j

-- so it is for each edge and each list
pub put_last : (ks : List ℕ) (k : ℕ) → IsOnce ks → (rest : List ℕ) × PutsLast ks k rest
put_last [] k o = (
  [],
  record {
    once = once_none;
    off = λ c. Contains-none k c;
    from = λ j c. c;
    kept = λ j c. absurd (Contains-none j c);
  },
)
put_last (i ∷ ks) k o = go (put_last ks k (once_tail i ks o)) (cases_eq i k)
  where
    go : (rest : List ℕ) × PutsLast ks k rest → (i ≡ k) ⊎ (i ≢ k)
        → (rest : List ℕ) × PutsLast (i ∷ ks) k rest
    go (rest, p) (inl e) = (
      rest,
      record {
        once = p.once;
        off = p.off;
        from = λ j c. Contains-later i ks j (p.from j c);
        kept = λ j c. elim (Contains-cases i ks j c) [
          | inl q ↦ subst (Contains (rest ++ k ∷ [])) (sym e ∙ q) (contains_last rest k)
          | inr d ↦ p.kept j d
        ];
      },
    )
    go (rest, p) (inr n) = (
      i ∷ rest,
      record {
        once = once_cons i rest (λ c. once_head i ks o (p.from i c)) p.once;
        off = λ c. elim (Contains-cases i rest k c) as (λ _. ⊥) [ inl q ↦ n q | inr d ↦ p.off d ];
        from = λ j c. elim (Contains-cases i rest j c) [
          | inl q ↦ subst (Contains (i ∷ ks)) q (Contains-head i ks)
          | inr d ↦ Contains-later i ks j (p.from j d)
        ];
        kept = λ j c. elim (Contains-cases i ks j c) [
          | inl q ↦ subst (Contains (i ∷ (rest ++ k ∷ []))) q (Contains-head i (rest ++ k ∷ []))
          | inr d ↦ Contains-later i (rest ++ k ∷ []) j (p.kept j d)
        ];
      },
    )

-- a list with nothing in it
pub none_in : (ks : List ℕ) → ((k : ℕ) → ¬ Contains ks k) → ks ≡ []
none_in [] n = refl
none_in (k ∷ ks) n = absurd (n k (Contains-head k ks))

-- where more edges are left to test, a mesh is partly legal still
pub legal_with_more : (points : List Point) (constraints : List (ℕ × ℕ)) (was m : Mesh)
    (ks more : List ℕ) (start flips : ℕ) → AreEdges m more
    → ((j : ℕ) → Contains ks j → Contains more j)
    → IsPartlyLegal points constraints was m ks start flips
    → IsPartlyLegal points constraints was m more start flips
legal_with_more points constraints was m ks more start flips edges kept p = record {
  shape = p.shape;
  edges = edges;
  passing = λ i j k l f g free untested. p.passing i j k l f g free
      (λ joined. untested (still i j joined));
  away = p.away;
  are_away = p.are_away;
  count = p.count;
  stays = p.stays;
}
  where
    listed : (x : ℕ × ℕ) → Contains (pairs_at m ks) x → Contains (pairs_at m more) x
    listed x c =
        let y = contains_map_from (pair_at m) ks x c in
        subst (Contains (pairs_at m more)) y.2 (contains_map (pair_at m) more y.0 (kept y.0 y.1))

    still : (i j : ℕ) → Joins (pairs_at m ks) i j → Joins (pairs_at m more) i j
    still i j (inl c) = inl (listed (i, j) c)
    still i j (inr c) = inr (listed (j, i) c)

-- ---- the edges opposite a vertex
-- these edges, without their directions, lie opposite the vertex where the edges hs start
abbrev pub LieOpposite : Mesh → List ℕ → List ℕ → Type 0
LieOpposite m hs ks = (k : ℕ) → Contains ks k → (g : ℕ) × Contains hs g × (k ≡ next m g / 2)

-- all of them
pub record HasAllOpposite (m : Mesh) (hs ks : List ℕ) : Type 0 where
  pub edges : AreEdges m ks
  pub only : LieOpposite m hs ks
  pub all : (h : ℕ) → Contains hs h → Contains ks (next m h / 2)

-- there is such a list
pub opposites : (m : Mesh) → IsValidMesh m → (hs : List ℕ)
    → ((h : ℕ) → Contains hs h → h < length m.half_edges) → (ks : List ℕ) × HasAllOpposite m hs ks
opposites m s [] within = (
  [],
  record {
    edges = no_edges m;
    only = λ k c. absurd (Contains-none k c);
    all = λ h c. absurd (Contains-none h c);
  },
)
opposites m s (h ∷ hs) within = go (opposites m s hs (λ g c. within g (Contains-later h hs g c)))
  where
    go : (ks : List ℕ) × HasAllOpposite m hs ks → (more : List ℕ) × HasAllOpposite m (h ∷ hs) more
    go (ks, p) = gain (with_one ks (next m h / 2))
      where
        gain : (more : List ℕ) × Gains ks more (next m h / 2)
            → (more : List ℕ) × HasAllOpposite m (h ∷ hs) more
        gain (more, g) = (
          more,
          record {
            edges = edges_gained m ks more (next m h) (length m.half_edges) refl
                (s.sound.edges h (within h (Contains-head h hs))).next_in p.edges g;
            only = λ k c. elim (g.only k c) [
              | inl e ↦ (h, Contains-head h hs, e)
              | inr d ↦ let y = p.only k d in (y.0, Contains-later h hs y.0 y.1, y.2)
            ];
            all = λ i c. elim (Contains-cases h hs i c) [
              | inl e ↦ subst (λ z. Contains more (next m z / 2)) e g.there
              | inr d ↦ g.kept (next m i / 2) (p.all i d)
            ];
          },
        )
