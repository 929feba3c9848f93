-- The vertices in a region as those that name one of its edges.
-- Notions: AreNamedAmong, IsAmongFirst; not_named, not_inside, keeps, ends_kept, starts_at,
-- named_first, named_on, named_last, named_before, named_are_all.
use Rattle.std.proofs.Common.{◌≡◌, ◌⊎◌, ◌+◌, ◌*◌, ◌/◌, ◌<◌, ◌≤◌, [], ◌∷◌, ◌++◌, ◌∙◌}
use Rattle.std.proofs.Common.{ℕ, List, length, get_or, refl, sym, ap, subst, arith, length-append}
use mathlib.Core.Logic.{inl, inr, ◌≢◌, ◌↔◌}
use mathlib.Core.Bool.{Bool, true, false}
use Rattle.std.specs.Prelude.{ℤ, pos, ◌*ℤ◌, Contains, Some, IsSome, IsTrue}
use Rattle.std.proofs.lemmas.Int.{ints}
use Rattle.std.proofs.lemmas.Bool.{cases_eq}
use Rattle.std.proofs.lemmas.List.{get_or-map, get_or_append_left, length-map, map-append}
use Rattle.plane.specs.{Fraction, IsSame, place, Point, whole}
use Rattle.{plane.proofs.start_on_segment, plane_theorems.specs.IsMesh}
use Rattle.half_edge_links.specs.{IsValidMesh, Mesh, origin, out_edge, rev}
use Rattle.half_edge_links.proofs.{Removing.CollapseLemmas.some_of, rev_differs}
use Rattle.plane_theorems.proofs.{Contains-none, get_or_any, IsOnce, once_none}
use Rattle.plane_theorems.proofs.Delaunay.Floods.FloodRules.{vertices_are_ends}
use Rattle.delaunay_legalization.specs.{drawn, faces_of, outer_of}
use Rattle.delaunay_legalization.proofs.{contains_before, contains_last, half_same, joins_edge}
use Rattle.delaunay_legalization.proofs.{once_after, one_value, WorkLists.last_or_before}
use Rattle.delaunay_shapes.specs.{AreEdgesInShape, AreVerticesInShape, HasStartAt, point_at}
use Rattle.delaunay_shapes.specs.Flood.{AreNamedIn, IsNamedIn, IsStartKept, KeepsEnds, KeepsStart}
use Rattle.{delaunay_shapes.proofs.Asking.below_other, delaunay_shapes.specs.undirected_of}
use Rattle.delaunay_shapes.proofs.Flooding.{half_of_even, half_of_rev, tiles, to_half}

never : (j : ℕ) → j < 0 → ⊥
never j h = omega (arith, h)

less_more : (j i : ℕ) → j < i → j < i + 1
less_more j i h = omega (arith, h)

last_more : (i : ℕ) → i < i + 1
last_more i = omega arith

less_all : (j n i : ℕ) → j < n → n ≤ i → j < i
less_all j n i h l = omega (arith, h, l)

-- ---- one directed edge after the other
-- of the vertices that name an edge of a set those inside were found, each once
pub record AreNamedAmong (Inside : ℕ → Type 0) (m : Mesh) (Among : ℕ → Type 0)
    (found : List ℕ) : Type 0 where
  pub once : IsOnce found
  pub exact : (v : ℕ) → Contains found v
      ↔ (((h : ℕ) × (out_edge m v ≡ Some h) × Among h) × Inside v)

-- a start that does not name its edge is not kept
pub not_named : (Inside : ℕ → Type 0) (m : Mesh) (found : List ℕ) (h : ℕ) (b : Bool)
    → (IsTrue b ↔ (out_edge m (origin m h) ≡ Some h)) → b ≡ false
    → KeepsStart Inside m found found h
not_named Inside m found h b told off =
    inr ((λ k. let on = told.1 k.0 in absurd (cc)), refl)

-- nor is one outside
pub not_inside : (Inside : ℕ → Type 0) (m : Mesh) (found : List ℕ) (h : ℕ) (b : Bool)
    → (IsTrue b ↔ Inside (origin m h)) → b ≡ false → KeepsStart Inside m found found h
not_inside Inside m found h b told off =
    inr ((λ k. let on = told.1 k.1 in absurd (cc)), refl)

-- one that names its edge and is inside is kept
pub keeps : (Inside : ℕ → Type 0) (m : Mesh) (found found' : List ℕ) (h v : ℕ) (a b : Bool)
    → (IsTrue a ↔ (out_edge m (origin m h) ≡ Some h)) → a ≡ true
    → (IsTrue b ↔ Inside (origin m h)) → b ≡ true → v ≡ origin m h → found' ≡ found ++ v ∷ []
    → KeepsStart Inside m found found' h
keeps Inside m found found' h v a b named on inside told is grown =
    inl ((named.0 on, inside.0 told), grown ∙ ap (λ (x : ℕ). found ++ x ∷ []) is)

-- both ends of an edge, one after the other
pub ends_kept : (Inside : ℕ → Type 0) (m : Mesh) (found mid found' : List ℕ) (h a b : ℕ)
    → a ≡ 2 * (h / 2) → b ≡ rev (2 * (h / 2)) → KeepsStart Inside m found mid a
    → KeepsStart Inside m mid found' b → KeepsEnds Inside m found found' h
ends_kept Inside m found mid found' h a b e f from to = record {
  between = mid;
  from = subst (KeepsStart Inside m found mid) e from;
  to = subst (KeepsStart Inside m mid found') f to;
}

-- directed edge h is one of the first i of these edges
abbrev pub IsAmongFirst : List ℕ → ℕ → ℕ → Type 0
IsAmongFirst edges i h = (j : ℕ) × (j < i) × (j < length edges) × (get_or edges j 0 ≡ h / 2)

-- before the first edge none is found
pub named_first : {Inside : ℕ → Type 0} {m : Mesh} (edges : List ℕ) {found : List ℕ} → found ≡ []
    → AreNamedAmong Inside m (IsAmongFirst edges 0) found
named_first {Inside = Inside} {m = m} edges e =
    subst (AreNamedAmong Inside m (IsAmongFirst edges 0)) (sym e) (record {
      once = once_none;
      exact = λ v. (
        (λ c. absurd (Contains-none v c)),
        (λ r. absurd (never r.0.2.0 r.0.2.1)),
      );
    })

listed : (edges : List ℕ) (i h : ℕ) → IsAmongFirst edges i h → Contains edges (h / 2)
listed edges i h r = (r.0, r.2, get_or_any edges r.0 (h / 2) 0 r.2 ∙ r.3)

-- in a sound mesh an edge starts at the vertex that names it
pub starts_at : {m : Mesh} → IsValidMesh m → (v h : ℕ) → out_edge m v ≡ Some h → origin m h ≡ v
starts_at valid v h o = (valid.sound.vertices v h o).1

module _ (Inside : ℕ → Type 0) (m : Mesh)
    (starts : (v h : ℕ) → out_edge m v ≡ Some h → origin m h ≡ v) where
  abbrev Names : (ℕ → Type 0) → ℕ → Type 0
  Names Among v = ((h : ℕ) × (out_edge m v ≡ Some h) × Among h) × Inside v

  among_same : (A B : ℕ → Type 0) (found : List ℕ) → ((h : ℕ) → A h → B h)
      → ((h : ℕ) → B h → A h) → AreNamedAmong Inside m A found → AreNamedAmong Inside m B found
  among_same A B found into back s = record {
    once = s.once;
    exact = λ v. (
      (λ c. let r = (s.exact v).0 c in ((r.0.0, r.0.1, into r.0.0 r.0.2), r.1)),
      (λ r. (s.exact v).1 ((r.0.0, r.0.1, back r.0.0 r.0.2), r.1)),
    );
  }

  more : (Among : ℕ → Type 0) (h v : ℕ) → Names Among v → Names (λ g. Among g ⊎ (g ≡ h)) v
  more Among h v r = ((r.0.0, r.0.1, inl r.0.2), r.1)

  -- once the start of one edge more is kept if it is to be, one more is done
  keeps_more : (Among : ℕ → Type 0) (found found' : List ℕ) (h : ℕ)
      → AreNamedAmong Inside m Among found → ¬ Among h → KeepsStart Inside m found found' h
      → AreNamedAmong Inside m (λ g. Among g ⊎ (g ≡ h)) found'
  keeps_more Among found found' h s new (inl k) =
      subst (AreNamedAmong Inside m (λ g. Among g ⊎ (g ≡ h))) (sym k.1) (record {
        once = once_after found (origin m h) s.once
            (λ c. new (again ((s.exact (origin m h)).0 c)));
        exact = λ v. (there v, back v);
      })
    where
      again : Names Among (origin m h) → Among h
      again r = subst Among (one_value r.0.0 h (sym r.0.1 ∙ k.0.0)) r.0.2

      there : (v : ℕ) → Contains (found ++ origin m h ∷ []) v → Names (λ g. Among g ⊎ (g ≡ h)) v
      there v c = elim (last_or_before found (origin m h) v c) as
          (λ _. Names (λ g. Among g ⊎ (g ≡ h)) v) [
            | inl e ↦ subst (Names (λ g. Among g ⊎ (g ≡ h))) (sym e)
                ((h, k.0.0, inr refl), k.0.1)
            | inr d ↦ more Among h v ((s.exact v).0 d)
          ]

      back : (v : ℕ) → Names (λ g. Among g ⊎ (g ≡ h)) v → Contains (found ++ origin m h ∷ []) v
      back v r = elim r.0.2 as (λ _. Contains (found ++ origin m h ∷ []) v) [
        | inl p ↦ contains_before found (origin m h) v ((s.exact v).1 ((r.0.0, r.0.1, p), r.1))
        | inr e ↦ subst (Contains (found ++ origin m h ∷ []))
            (ap (origin m) (sym e) ∙ starts v r.0.0 r.0.1) (contains_last found (origin m h))
      ]
  keeps_more Among found found' h s new (inr k) =
      subst (AreNamedAmong Inside m (λ g. Among g ⊎ (g ≡ h))) (sym k.1) (record {
        once = s.once;
        exact = λ v. ((λ c. more Among h v ((s.exact v).0 c)), back v);
      })
    where
      kept : (v g : ℕ) → out_edge m v ≡ Some g → g ≡ h → Inside v → IsStartKept Inside m h
      kept v g o e i =
          let at : v ≡ origin m h = sym (starts v g o) ∙ ap (origin m) e in
          (subst (λ x. out_edge m x ≡ Some h) at (o ∙ ap Some e), subst Inside at i)

      back : (v : ℕ) → Names (λ g. Among g ⊎ (g ≡ h)) v → Contains found v
      back v r = elim r.0.2 as (λ _. Contains found v) [
        | inl p ↦ (s.exact v).1 ((r.0.0, r.0.1, p), r.1)
        | inr e ↦ absurd (k.0 (kept v r.0.0 r.0.1 e r.1))
      ]

  -- once both directions of the next edge are done, one edge more is
  named_more : (edges : List ℕ) → IsOnce edges → (found mid found' : List ℕ) (i d a b : ℕ)
      → AreNamedAmong Inside m (IsAmongFirst edges i) found → i < length edges
      → a ≡ 2 * get_or edges i d → b ≡ rev (2 * get_or edges i d)
      → KeepsStart Inside m found mid a → KeepsStart Inside m mid found' b
      → AreNamedAmong Inside m (IsAmongFirst edges (i + 1)) found'
  named_more edges once found mid found' i d a b s here p q from to =
      among_same (λ h. (IsAmongFirst edges i h ⊎ (h ≡ a)) ⊎ (h ≡ b)) (IsAmongFirst edges (i + 1))
      found' there back
      (keeps_more (λ h. IsAmongFirst edges i h ⊎ (h ≡ a)) mid found' b
      (keeps_more (IsAmongFirst edges i) found mid a s (fresh a half_a) from) other to)
    where
      half_a : a / 2 ≡ get_or edges i 0
      half_a = ap (λ (x : ℕ). x / 2) p ∙ half_of_even (get_or edges i d)
          ∙ get_or_any edges i d 0 here

      half_b : b / 2 ≡ get_or edges i 0
      half_b = ap (λ (x : ℕ). x / 2) q ∙ half_of_rev (get_or edges i d)
          ∙ get_or_any edges i d 0 here

      fresh : (h : ℕ) → h / 2 ≡ get_or edges i 0 → ¬ IsAmongFirst edges i h
      fresh h e r = once r.0 i 0 r.1 here (r.3 ∙ e)

      other : ¬ (IsAmongFirst edges i b ⊎ (b ≡ a))
      other (inl r) = fresh b half_b r
      other (inr e) = rev_differs (2 * get_or edges i d) (sym q ∙ e ∙ p)

      now : (h : ℕ) → h / 2 ≡ get_or edges i 0 → IsAmongFirst edges (i + 1) h
      now h e = (i, last_more i, here, sym e)

      there : (h : ℕ) → (IsAmongFirst edges i h ⊎ (h ≡ a)) ⊎ (h ≡ b) → IsAmongFirst edges (i + 1) h
      there h (inl (inl r)) = (r.0, less_more r.0 i r.1, r.2, r.3)
      there h (inl (inr e)) = now h (ap (λ (x : ℕ). x / 2) e ∙ half_a)
      there h (inr e) = now h (ap (λ (x : ℕ). x / 2) e ∙ half_b)

      one : (h j : ℕ) → j ≡ i → get_or edges j 0 ≡ h / 2
          → (IsAmongFirst edges i h ⊎ (h ≡ a)) ⊎ (h ≡ b)
      one h j e o =
          elim (half_same a h (sym (half_a ∙ ap (λ (x : ℕ). get_or edges x 0) (sym e) ∙ o))) as
          (λ _. (IsAmongFirst edges i h ⊎ (h ≡ a)) ⊎ (h ≡ b)) [
            | inl f ↦ inl (inr f)
            | inr f ↦ inr (f ∙ ap rev p ∙ sym q)
          ]

      back : (h : ℕ) → IsAmongFirst edges (i + 1) h → (IsAmongFirst edges i h ⊎ (h ≡ a)) ⊎ (h ≡ b)
      back h r = elim (cases_eq r.0 i) as (λ _. (IsAmongFirst edges i h ⊎ (h ≡ a)) ⊎ (h ≡ b)) [
        | inl e ↦ one h r.0 e r.3
        | inr n ↦ inl (inl (r.0, below_other r.0 i r.1 n, r.2, r.3))
      ]

  -- with more edges behind them, those done are the same
  named_longer : (edges edges' more found : List ℕ) (i : ℕ) → edges' ≡ edges ++ more
      → i ≤ length edges → AreNamedAmong Inside m (IsAmongFirst edges i) found
      → AreNamedAmong Inside m (IsAmongFirst edges' i) found
  named_longer edges edges' more found i grown low s =
      subst (λ es. AreNamedAmong Inside m (IsAmongFirst es i) found) (sym grown)
      (among_same (IsAmongFirst edges i) (IsAmongFirst (edges ++ more) i) found there back s)
    where
      there : (h : ℕ) → IsAmongFirst edges i h → IsAmongFirst (edges ++ more) i h
      there h r =
          let l = length-append edges more in
          let w = r.2 in
          (r.0, r.1, omega (arith, l, w), get_or_append_left edges more 0 r.0 r.2 ∙ r.3)

      back : (h : ℕ) → IsAmongFirst (edges ++ more) i h → IsAmongFirst edges i h
      back h r =
          let here = less_all r.0 i (length edges) r.1 low in
          (r.0, r.1, here, sym (get_or_append_left edges more 0 r.0 here) ∙ r.3)

  -- once the ends of the next edge found are kept, and a flood has gone on, one edge more is done
  pub named_on : (sides sides' more found found' : List ℕ) (i d : ℕ) → sides' ≡ sides ++ more
      → i < length sides → IsOnce (undirected_of sides')
      → AreNamedAmong Inside m (IsAmongFirst (undirected_of sides) i) found
      → KeepsEnds Inside m found found' (get_or sides i d)
      → AreNamedAmong Inside m (IsAmongFirst (undirected_of sides') (i + 1)) found'
  named_on sides sides' more found found' i d grown here once s k =
      named_more (undirected_of sides') once found k.between found' i d
      (2 * (get_or sides i d / 2)) (rev (2 * (get_or sides i d / 2)))
      (named_longer (undirected_of sides) (undirected_of sides') (undirected_of more) found i
      together (omega (arith, many, here)) s)
      (omega (arith, all, there))
      (ap (λ (x : ℕ). 2 * x) at) (ap (λ (x : ℕ). rev (2 * x)) at) k.from k.to
    where
      half : ℕ → ℕ
      half x = x / 2

      many : length (undirected_of sides) ≡ length sides
      many = length-map sides half

      together : undirected_of sides' ≡ undirected_of sides ++ undirected_of more
      together = ap undirected_of grown ∙ map-append half sides more

      all : length (undirected_of sides') ≡ length sides'
      all = length-map sides' half

      long : length sides' ≡ length sides + length more
      long = ap length grown ∙ length-append sides more

      there : i < length sides'
      there = omega (arith, long, here)

      at : get_or sides i d / 2 ≡ get_or (undirected_of sides') i d
      at = ap half (get_or_any sides i d 0 here
          ∙ sym (ap (λ xs. get_or xs i 0) grown ∙ get_or_append_left sides more 0 i here))
          ∙ sym (get_or-map half sides' i 0 d there)

  -- where all that name one of the edges are found, the first edges are done when a flood has gone
  -- on
  pub named_before : (sides sides' more found : List ℕ) (i : ℕ) → sides' ≡ sides ++ more
      → i ≡ length sides → AreNamedIn Inside m (undirected_of sides) found
      → AreNamedAmong Inside m (IsAmongFirst (undirected_of sides') i) found
  named_before sides sides' more found i grown last s =
      named_longer edges (undirected_of sides') (undirected_of more) found i
      (ap undirected_of grown ∙ map-append (λ (x : ℕ). x / 2) sides more)
      (omega (arith, many, last))
      (record {
        once = s.once;
        exact = λ v. (
          (λ c. let r = (s.exact v).0 c in
              ((r.0.0, r.0.1.names, among r.0.0 r.0.1.listed), r.1)),
          (λ r. (s.exact v).1
              ((r.0.0, record { names = r.0.1; listed = listed edges i r.0.0 r.0.2 }), r.1)),
        );
      })
    where
      edges : List ℕ
      edges = undirected_of sides

      many : length edges ≡ length sides
      many = length-map sides (λ (x : ℕ). x / 2)

      among : (h : ℕ) → Contains edges (h / 2) → IsAmongFirst edges i h
      among h c = let w = c.1 in (
        c.0,
        omega (arith, last, many, w),
        c.1,
        get_or_any edges c.0 0 (h / 2) c.1 ∙ c.2,
      )

-- once the end of the edges is reached, all that name one of them are done
pub named_last : {Inside : ℕ → Type 0} {m : Mesh} (sides : List ℕ) {found : List ℕ} {i : ℕ}
    → AreNamedAmong Inside m (IsAmongFirst (undirected_of sides) i) found → length sides ≤ i
    → AreNamedIn Inside m (undirected_of sides) found
named_last sides {i = i} s last = record {
  once = s.once;
  exact = λ v. (
    (λ c. let r = (s.exact v).0 c in
        ((r.0.0, record { names = r.0.1; listed = listed edges i r.0.0 r.0.2 }), r.1)),
    (λ r. (s.exact v).1 ((r.0.0, r.0.1.names, before r.0.0 r.0.1.listed), r.1)),
  );
}
  where
    edges : List ℕ
    edges = undirected_of sides

    before : (h : ℕ) → Contains edges (h / 2) → IsAmongFirst edges i h
    before h c = (
      c.0,
      less_all c.0 (length edges) i c.1
          (let many = length-map sides (λ (x : ℕ). x / 2) in omega (arith, many, last)),
      c.1,
      get_or_any edges c.0 0 (h / 2) c.1 ∙ c.2,
    )

-- a vertex that names an edge is one of the mesh
named_in : (m : Mesh) → IsValidMesh m → (n : ℕ) → n ≡ length m.out_edges → (i h : ℕ)
    → out_edge m i ≡ Some h → i < n
named_in m v n many i h o = let s = v.sound.vertices i h o in
    subst (λ (x : ℕ). x < n) s.1
    (subst (λ (k : ℕ). origin m h < k) (sym many) (v.sound.edges h s.0).origin_in)

-- ---- all of them
same_number : (a b : ℤ) → (a *ℤ pos 1) ≡ (b *ℤ pos 1) → a ≡ b
same_number a b e = omega (arith, ints)

module _ (points : List Point) (m : Mesh) (v : IsValidMesh m)
    (shape : IsMesh points (faces_of m) (outer_of m)) where
  distinct : (i j : ℕ) → i < length points → j < length points → i ≢ j
      → place points i ≢ place points j
  distinct = elim shape [ inl s ↦ s.distinct | inr s ↦ s.1.distinct ]

  apart : (i j : ℕ) → i < length points → j < length points
      → IsSame (place points i) (place points j) → i ≡ j
  apart i j a b s = elim (cases_eq i j) [
    | inl e ↦ e
    | inr n ↦ absurd (distinct i j a b n (λ t. whole
        (record {
          x = same_number (point_at points i).x (point_at points j).x s.x t;
          y = same_number (point_at points i).y (point_at points j).y s.y t;
        })))
  ]

  -- the vertices inside that name one of the edges in a region are all vertices in it
  pub named_are_all : (Shape : Fraction → Type 0) (p : Point) → HasStartAt Shape p
      → (edges found : List ℕ) → AreEdgesInShape Shape points m edges
      → AreNamedIn (λ i. Shape (whole (point_at points i))) m edges found
      → length points ≡ length m.out_edges → 1 < length points
      → AreVerticesInShape Shape points found
  named_are_all Shape p shaped edges found exact named many some = record {
    once = named.once;
    exact = λ i. (
      (λ c. let r = (named.exact i).0 c in (below i r.0.0 r.0.1.names, r.1)),
      (λ p. (named.exact i).1 (reached i p.0 p.1, p.1)),
    );
  }
    where
      below : (i h : ℕ) → out_edge m i ≡ Some h → i < length points
      below = named_in m v (length points) many

      twice : (h : ℕ) → h < length m.half_edges → 2 * (h / 2) < length m.half_edges
      twice h a = omega (arith, a)

      reached : (i : ℕ) → i < length points → Shape (whole (point_at points i))
          → (h : ℕ) × IsNamedIn m edges i h
      reached i w p =
          let end = (vertices_are_ends (drawn points m)
          (tiles points m v shape) apart some shaped.region i).0
          (w, (shaped.same (whole (point_at points i))).0 p) in
          let r = joins_edge m v.sound i end.1.0 end.1.1.0 in
          let o = some_of (out_edge m i)
          (subst (λ (x : ℕ). IsSome (out_edge m x)) r.2 (v.sound.edges r.0 r.1).has_out) in
          let s = v.sound.vertices i o.0 o.1 in
          let inside = to_half points m v shape Shape o.0 s.0 (
            whole (point_at points (origin m o.0)),
            start_on_segment (whole (point_at points (origin m o.0)))
                (whole (point_at points (origin m (rev o.0)))),
            subst (λ (x : ℕ). Shape (whole (point_at points x))) (sym s.1) p,
          ) in (
            o.0,
            record {
              names = o.1;
              listed = (exact.exact (o.0 / 2)).1 (twice o.0 s.0, inside);
            },
          )
