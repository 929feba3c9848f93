-- The outer edges through steps that make a hole, change it and fill it.
-- Notions: IsNamed, IsTraced, TracesOuter, Opened, renamed, IsLeftOver, InLoop; traces_itself,
-- same_hole, traces_opened, traces_removed, outline_traced.
use Rattle.std.proofs.Common.{◌≡◌, ◌≢◌, ◌⊎◌, ◌-◌, ◌%◌, ◌<◌, ◌∙◌}
use Rattle.std.proofs.Common.{ℕ, length, sym, ap, inl, inr, subst, arith}
use Rattle.std.proofs.lemmas.Bool.{cases_eq}
use Rattle.half_edge_links.specs.{AreSoundLinks, ClosesLoop, face, KeepsOneOutline, Mesh, next}
use Rattle.half_edge_links.specs.{Opens, pair_moved, prev, Removes, rev}
use Rattle.half_edge_links.proofs.{Lists.Cases.◌or_else◌, Removing.Conditions.IsUnlinkable}
use Rattle.half_edge_links.proofs.Removing.Track.{face_at, IsLeft, name, name_in, name_same}
use Rattle.half_edge_links.proofs.Removing.Track.{next_at, old_at}

-- an outer edge of the mesh m, with index k
pub record IsNamed (m : Mesh) (to : ℕ → ℕ) (k : ℕ) : Type 0 where
  pub old : ℕ
  pub within : old < length m.half_edges
  pub outer : face m old ≡ 0
  pub is : to old ≡ k

-- outer edge h has its new index, has the outer face on its left, and the same edge comes next
pub record IsTraced (m new : Mesh) (to : ℕ → ℕ) (h : ℕ) : Type 0 where
  pub within : to h < length new.half_edges
  pub outer : face new (to h) ≡ 0
  pub after : next new (to h) ≡ to (next m h)

-- the outer edges are there, under new indexes, and follow each other as before; further outer
-- edges lie in a hole
pub record TracesOuter (m new : Mesh) (to : ℕ → ℕ) (InHole : ℕ → Type 0) : Type 0 where
  pub there : (h : ℕ) → h < length m.half_edges → face m h ≡ 0
      → IsTraced m new to h × (¬ InHole (to h))
  pub was : (k : ℕ) → k < length new.half_edges → face new k ≡ 0 → IsNamed m to k ⊎ InHole k

-- a mesh in which nothing has changed
pub traces_itself : (m : Mesh) → TracesOuter m m (λ h. h) (λ k. ⊥)
traces_itself m = record {
  there = λ h within outer. (
    record { within = within; outer = outer; after = λ i. next m h },
    λ none. none,
  );
  was = λ k within outer. inl (record { old = k; within = within; outer = outer; is = λ i. k });
}

-- the hole in other words
pub same_hole : (m new : Mesh) (to : ℕ → ℕ) (A B : ℕ → Type 0) → ((k : ℕ) → A k → B k)
    → ((k : ℕ) → B k → A k) → TracesOuter m new to A → TracesOuter m new to B
same_hole m new to A B ab ba t = record {
  there = λ h within outer. let had = t.there h within outer in (had.0, λ b. had.1 (ba (to h) b));
  was = λ k within outer. elim (t.was k within outer) [ inl a ↦ inl a | inr b ↦ inr (ab k b) ];
}

-- a face is given to the outer one, which makes or widens a hole
abbrev pub Opened : Mesh → (ℕ → Type 0) → ℕ → ℕ → Type 0
Opened m InHole f k = InHole k ⊎ ((k < length m.half_edges) × (face m k ≡ f))

-- the outer edges follow each other as before once face f is given to the outer one and joins the
-- hole
pub traces_opened : (m old new : Mesh) (to : ℕ → ℕ) (InHole : ℕ → Type 0) (f : ℕ) → 0 < f
    → 0 < length old.face_edges → Opens old new f → TracesOuter m old to InHole
    → TracesOuter m new to (Opened old InHole f)
traces_opened m old new to InHole f some faces o t = record {
  there = λ h within outer.
      let had = t.there h within outer in
      let here = had.0 in
      let off : face old (to h) ≢ f = λ q. absurd (omega (arith, here.outer, q, some)) in
      let off_last : face old (to h) ≢ length old.face_edges =
      λ q. absurd (omega (arith, here.outer, q, faces)) in (
        record {
          within = omega (arith, here.within, o.edge_count);
          outer = o.other (to h) here.within off off_last ∙ here.outer;
          after = o.next (to h) ∙ here.after;
        },
        elim [ inl in_hole ↦ had.1 in_hole | inr opened ↦ off opened.1 ],
      );
  was = λ k within outer.
      let k_in : k < length old.half_edges = omega (arith, within, o.edge_count) in
      elim (cases_eq (face old k) f or_else cases_eq (face old k) (length old.face_edges)) [
        | inl is ↦ inr (inr (k_in, is))
        | inr (off, inl last) ↦ absurd (omega (arith, o.last k k_in last off, outer, some))
        | inr (off, inr other) ↦ elim (t.was k k_in (sym (o.other k k_in off other) ∙ outer))
            [ inl a ↦ inl a | inr b ↦ inr (inl b) ]
      ];
}

-- an edge with both sides in the hole goes
module _ (m old new : Mesh) (to : ℕ → ℕ) (InHole : ℕ → Type 0) (e : ℕ) (s : AreSoundLinks old)
    (can : IsUnlinkable old e) (r : Removes old new e) where
  -- the new index of an edge once e is gone, from its first one
  abbrev pub renamed : ℕ → ℕ
  renamed h = name old new e s can r (to h)

  -- what is left of the hole
  pub record IsLeftOver (j : ℕ) : Type 0 where
    pub edge : ℕ
    pub left : IsLeft old e edge
    pub was : InHole edge
    pub is : name old new e s can r edge ≡ j

  -- the outer edges follow each other as before, if e and the edges beside it lie in the hole
  pub traces_removed : InHole e → InHole (rev e) → InHole (prev old e) → InHole (prev old (rev e))
      → TracesOuter m old to InHole → TracesOuter m new renamed IsLeftOver
  traces_removed at at_twin before twin_before t = record {
    there = λ h within outer.
        let had = t.there h within outer in
        let here = had.0 in
        let off : (k : ℕ) → InHole k
        → to h ≢ k = λ k in_hole q. had.1 (subst InHole (sym q) in_hole) in
        let l : IsLeft old e (to h) =
        record { within = here.within; other = off e at; other_side = off (rev e) at_twin } in (
          record {
            within = name_in old new e s can r (to h) l;
            outer = face_at old new e s can r (to h) l ∙ here.outer;
            after = next_at old new e s can r (to h) l (off _ before) (off _ twin_before)
                ∙ ap (λ k. name old new e s can r k) here.after;
          },
          λ over. off over.edge over.was
              (sym (name_same old new e s can r over.edge (to h) over.left l over.is)),
        );
    was = λ j within outer.
        let back = old_at old new e s can r j within in
        let k : ℕ = pair_moved (e - e % 2) (length old.half_edges - 2) j in
        let k_outer : face old k ≡ 0 =
        sym (face_at old new e s can r k back.0) ∙ ap (face new) back.1 ∙ outer in
        elim (t.was k back.0.within k_outer) [
          | inl a ↦ inl (record {
            old = a.old;
            within = a.within;
            outer = a.outer;
            is = ap (λ i. name old new e s can r i) a.is ∙ back.1;
          })
          | inr b ↦ inr (record { edge = k; left = back.0; was = b; is = back.1 })
        ];
  }

-- the edges of a loop of three
abbrev pub InLoop : Mesh → ℕ → ℕ → Type 0
InLoop m h k = (k ≡ h) ⊎ ((k ≡ next m h) ⊎ (k ≡ prev m h))

-- the hole is filled, and one round of outer edges is still one
pub outline_traced : (m old new : Mesh) (to : ℕ → ℕ) (h : ℕ) → ClosesLoop old new h
    → TracesOuter m old to (InLoop old h) → KeepsOneOutline m new
outline_traced m old new to h c t one among closed i j i_in j_in i_outer j_outer is =
    let there = λ (k : ℕ) (within : k < length m.half_edges) (outer : face m k ≡ 0).
    let had = t.there k within outer in
    let here = had.0 in
    let still : face new (to k) ≡ 0 = c.other (to k) (λ q. had.1 (inl q)) (λ q. had.1 (inr (inl q)))
    (λ q. had.1 (inr (inr q))) ∙ here.outer in
    let now : IsTraced m new to k = record {
      within = omega (arith, here.within, c.edge_count);
      outer = still;
      after = c.nexts (to k) ∙ here.after;
    } in
    now in
    let was = λ (k : ℕ) (within : k < length new.half_edges) (outer : face new k ≡ 0).
    let off : InLoop old h k → ⊥ = λ q. absurd (omega (arith, c.here k q, outer)) in
    let a : IsNamed m to k = elim (t.was k (omega (arith, within, c.edge_count)) (sym
    (c.other k (λ q. off (inl q)) (λ q. off (inr (inl q))) (λ q. off (inr (inr q)))) ∙ outer)) [
      | inl a ↦ a
      | inr b ↦ absurd (off b)
    ] in
    a in
    let a = was i i_in i_outer in
    let b = was j j_in j_outer in
    ap among (sym b.is)
    ∙ one (λ k. among (to k)) (λ k within outer on. let now = there k within outer in
    ap among (sym now.after) ∙ closed (to k) now.within now.outer on) a.old b.old a.within
    b.within a.outer b.outer (ap among a.is ∙ is)
