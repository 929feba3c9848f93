-- The law of rounds: where stretches of a walk are exchanged between things that stay, those with
-- one label still lie on one round.
--   Walk, HasOneRound: a step among some numbers with labels; one round a label
--   stand, Way, GoesAlone: what numbers that left stand for; a way of the walk; a round by itself
--   Exchange, one_round: how a walk changes; the law
--   renamed_walk, round_renamed: the same under other numbers
-- Notions: Walk, IsClosedUnder, HasOneRound, KeepsLabel, replaced, stand, Way, start_of,
-- IsStretch, GoesAlone, within_all, Exchange, renamed_walk; stand_off, stand_first, stand_second,
-- one_round, round_renamed.
use Rattle.std.proofs.Common.{◌≡◌, ◌≢◌, ◌⊎◌, [], ◌∷◌, ◌==◌, if◌then◌else◌, ◌∙◌}
use Rattle.std.proofs.Common.{ℕ, Bool, true, List, refl, sym, ap, subst, inl, inr, arith}
use Rattle.std.proofs.lemmas.Grind.{common_steps}
use Rattle.half_edge_links.proofs.Lists.Cases.{◌each_with◌}
use Rattle.half_edge_links.proofs.Lists.Named.{at_places, Each, each_map, elsewhere, itself, NoneOf}
use Rattle.half_edge_links.proofs.Lists.Named.{Off, one_or_none, OneOf}

-- a walk among some of the numbers, each of which has a label
pub record Walk : Type 1 where
  pub Live : ℕ → Type 0
  pub step : ℕ → ℕ
  pub label : ℕ → ℕ

-- a set that a walk does not leave
abbrev pub IsClosedUnder : Walk → (ℕ → Bool) → Type 0
IsClosedUnder w among = (h : ℕ) → w.Live h → among h ≡ true → among (w.step h) ≡ true

-- things with one label lie on one round: a set that the walk does not leave has all or none
abbrev pub HasOneRound : Walk → Type 0
HasOneRound w = (among : ℕ → Bool) → IsClosedUnder w among → (h g : ℕ) → w.Live h → w.Live g
    → w.label h ≡ w.label g → among h ≡ true → among g ≡ true

-- a walk stays among the live numbers, and the label stays
abbrev pub KeepsLabel : Walk → Type 0
KeepsLabel w = (h : ℕ) → w.Live h → w.Live (w.step h) × (w.label (w.step h) ≡ w.label h)

-- the number that stands for another, by what follows
abbrev pub replaced : ℕ × ℕ → ℕ
replaced p = p.0

-- what h stands for: the second number of the first pair that begins with h, or else h itself
abbrev pub stand : List (ℕ × ℕ) → ℕ → ℕ
stand [] h = h
stand (p ∷ rest) h = if h == p.0 then p.1 else stand rest h

chosen : (h k a b : ℕ) → h ≡ k → (if h == k then a else b) ≡ a
chosen h k a b is = grind (arith, common_steps)

passed_over : (h k a b : ℕ) → h ≢ k → (if h == k then a else b) ≡ b
passed_over h k a b off = grind (arith, common_steps)

-- a number that begins no pair stands for itself
pub stand_off : (stands : List (ℕ × ℕ)) (h : ℕ) → NoneOf replaced stands h → stand stands h ≡ h
stand_off [] h none = refl
stand_off (p ∷ rest) h none =
    passed_over h p.0 p.1 (stand rest h) none.0 ∙ stand_off rest h none.1

-- the number that begins the first pair stands for the second number of it
pub stand_first : (x y : ℕ) (rest : List (ℕ × ℕ)) → stand ((x, y) ∷ rest) x ≡ y
stand_first x y rest = chosen x x y (stand rest x) refl

-- the number that begins the second pair, too
pub stand_second : (x y z w : ℕ) (rest : List (ℕ × ℕ)) → z ≢ x
    → stand ((x, y) ∷ (z, w) ∷ rest) z ≡ w
stand_second x y z w rest off =
    passed_over z x y (stand ((z, w) ∷ rest) z) off ∙ stand_first z w rest

-- from a the walk comes to b through these, each of which is live and has a label
abbrev pub Way : Walk → ℕ → ℕ → List ℕ → ℕ → Type 0
Way w label a [] b = w.step a ≡ b
Way w label a (x ∷ rest) b =
    (w.step a ≡ x) × ((w.Live x × (w.label x ≡ label)) × Way w label x rest b)

-- where a stretch begins
abbrev pub start_of : ℕ × List ℕ × ℕ → ℕ
start_of p = p.0

-- from p.0, which stays, the new walk comes through p.1 to p.2, for which stands where the old one
-- came to
abbrev pub IsStretch : Walk → Walk → List (ℕ × ℕ) → ℕ × List ℕ × ℕ → Type 0
IsStretch old new stands p = old.Live p.0 × (NoneOf replaced stands p.0
    × ((stand stands (old.step p.0) ≡ p.2) × Way new (old.label p.0) p.0 p.1 p.2))

-- these go round by themselves, with a label of their own
abbrev pub GoesAlone : Walk → Walk → List ℕ → Type 0
GoesAlone old new [] = Unit {0}
GoesAlone old new (s ∷ rest) = new.Live s
    × (Way new (new.label s) s rest s × ((h : ℕ) → old.Live h → old.label h ≢ new.label s))

abbrev joined : List ℕ → List ℕ → List ℕ
joined [] ys = ys
joined (x ∷ rest) ys = x ∷ joined rest ys

-- what lies within these stretches
abbrev pub within_all : List (ℕ × List ℕ × ℕ) → List ℕ
within_all [] = []
within_all (p ∷ rest) = joined p.1 (within_all rest)

one_joined : (xs ys : List ℕ) (k : ℕ) → OneOf itself (joined xs ys) k
    → OneOf itself xs k ⊎ OneOf itself ys k
one_joined [] ys k one = inr one
one_joined (x ∷ rest) ys k one = elim one [
  | inl is ↦ inl (inl is)
  | inr later ↦ elim (one_joined rest ys k later)
      [ inl there ↦ inl (inr there) | inr there ↦ inr there ]
]

-- the new walk goes on to what stands for the next thing of the old one, but from some things it
-- comes through others; what has left its place stands for what came after it; some new things go
-- round by themselves
pub record Exchange (old new : Walk) (stands : List (ℕ × ℕ)) (stretches : List (ℕ × List ℕ × ℕ))
    (hub : List ℕ) : Type 0 where
  pub lives : (h : ℕ) → old.Live h → NoneOf replaced stands h → new.Live h
  pub left : Each (λ p. stand stands (old.step p.0) ≡ stand stands p.0) stands
  pub stretched : Each (IsStretch old new stands) stretches
  pub other : (h : ℕ) → old.Live h → Off start_of stretches h (Off replaced stands h
      (new.step h ≡ stand stands (old.step h)))
  pub kept : (k : ℕ) → new.Live k → Off itself (within_all stretches) k (Off itself hub k
      (old.Live k × (NoneOf replaced stands k × (new.label k ≡ old.label k))))
  pub alone : GoesAlone old new hub

module _ (old new : Walk) (among : ℕ → Bool) (closed : IsClosedUnder new among) where
  -- what the new walk comes to from a live thing of the set is in the set
  step : (a b : ℕ) → new.Live a → new.step a ≡ b → among a ≡ true → among b ≡ true
  step a b live at is = ap among (sym at) ∙ closed a live is

  along : (l a : ℕ) (xs : List ℕ) (b : ℕ) → new.Live a → Way new l a xs b → among a ≡ true
      → among b ≡ true
  along l a [] b live way is = step a b live way is
  along l a (x ∷ rest) b live way is =
      along l x rest b way.1.0.0 way.1.1 (step a x live way.0 is)

  through : (l a : ℕ) (xs : List ℕ) (b : ℕ) → new.Live a → Way new l a xs b → (k : ℕ)
      → OneOf itself xs k → (among a ≡ true → among k ≡ true) × (among k ≡ true → among b ≡ true)
      × (new.label k ≡ l)
  through l a [] b live way k one = absurd one
  through l a (x ∷ rest) b live way k one = elim one [
    | inl is ↦ rw is (step a x live way.0, along l x rest b way.1.0.0 way.1.1, way.1.0.1)
    | inr later ↦ let t = through l x rest b way.1.0.0 way.1.1 k later in
        (λ is. t.0 (step a x live way.0 is), t.1, t.2)
  ]

  with_first : (s : ℕ) (rest : List ℕ) → GoesAlone old new (s ∷ rest) → (k : ℕ)
      → OneOf itself (s ∷ rest) k → (among s ≡ true → among k ≡ true)
      × (among k ≡ true → among s ≡ true) × (new.label k ≡ new.label s)
  with_first s rest alone k one = elim one [
    | inl is ↦ rw is (λ i. i, λ i. i, refl)
    | inr later ↦ through (new.label s) s rest s alone.0 alone.1.0 k later
  ]

  hub_round : (hub : List ℕ) → GoesAlone old new hub → (h g : ℕ) → OneOf itself hub h
      → OneOf itself hub g → among h ≡ true → among g ≡ true
  hub_round [] alone h g a b is = absurd a
  hub_round (s ∷ rest) alone h g a b is =
      (with_first s rest alone g b).0 ((with_first s rest alone h a).1 is)

  hub_apart : (hub : List ℕ) → GoesAlone old new hub → (k : ℕ) → OneOf itself hub k → (h : ℕ)
      → old.Live h → new.label k ≢ old.label h
  hub_apart [] alone k one h live same = absurd one
  hub_apart (s ∷ rest) alone k one h live same =
      alone.1.1 h live (sym same ∙ (with_first s rest alone k one).2)

  module _ (goes : KeepsLabel old) (stands : List (ℕ × ℕ)) (stretches : List (ℕ × List ℕ × ℕ))
      (hub : List ℕ) (x : Exchange old new stands stretches hub) where
    abbrev before : ℕ → Bool
    before h = among (stand stands h)

    abbrev Steps : ℕ → Type 0
    Steps k = old.Live k → before k ≡ true → before (old.step k) ≡ true

    plain : (h : ℕ) → NoneOf replaced stands h → before h ≡ among h
    plain h none = ap among (stand_off stands h none)

    old_closed : (h : ℕ) → Steps h
    old_closed h =
        at_places Steps start_of stretches h (each_map (IsStretch old new stands)
        (λ p. Steps p.0) stretches (λ p i live is. ap among i.1.1.0
        ∙ along (old.label p.0) p.0 p.1 p.2 (x.lives p.0 live i.1.0) i.1.1.1
        (sym (plain p.0 i.1.0) ∙ is)) x.stretched) (λ off. at_places Steps replaced stands h
        (each_map (λ p. stand stands (old.step p.0) ≡ stand stands p.0) (λ p. Steps p.0) stands
        (λ p i live is. ap among i ∙ is) x.left) (λ none live is.
        ap among (sym (elsewhere _ replaced stands h none
        (elsewhere _ start_of stretches h off (x.other h live))))
        ∙ closed h (x.lives h live none) (sym (plain h none) ∙ is)))

    -- k comes after a thing of the old walk with its label, and before one
    record IsBetween (k : ℕ) : Type 0 where
      pub behind : ℕ
      pub behind_live : old.Live behind
      pub at_behind : new.label k ≡ old.label behind
      pub comes : before behind ≡ true → among k ≡ true
      pub ahead : ℕ
      pub ahead_live : old.Live ahead
      pub at_ahead : new.label k ≡ old.label ahead
      pub leads : among k ≡ true → before ahead ≡ true

    -- what lies within a stretch comes after a thing of the old walk with its label, and before one
    find : (ps : List (ℕ × List ℕ × ℕ)) → Each (IsStretch old new stands) ps → (k : ℕ)
        → OneOf itself (within_all ps) k → IsBetween k
    find [] each k one = absurd one
    find (p ∷ rest) each k one = elim (one_joined p.1 (within_all rest) k one) [
      | inl here ↦
          let i = each.0 in
          let t = through (old.label p.0) p.0 p.1 p.2 (x.lives p.0 i.0 i.1.0) i.1.1.1 k here in
          let on = goes p.0 i.0 in
          record {
            behind = p.0;
            behind_live = i.0;
            at_behind = t.2;
            comes = λ is. t.0 (sym (plain p.0 i.1.0) ∙ is);
            ahead = old.step p.0;
            ahead_live = on.0;
            at_ahead = t.2 ∙ sym on.1;
            leads = λ is. ap among i.1.1.0 ∙ t.1 is;
          }
      | inr later ↦ find rest each.1 k later
    ]

    place : (k : ℕ) → new.Live k → IsBetween k ⊎ OneOf itself hub k
    place k live = elim (one_or_none itself (within_all stretches) k) [
      | inl one ↦ inl (find stretches x.stretched k one)
      | inr none ↦ elim (one_or_none itself hub k) [
        | inl one ↦ inr one
        | inr off ↦
            let o = elsewhere _ itself hub k off
            (elsewhere _ itself (within_all stretches) k none (x.kept k live)) in
            inl (record {
              behind = k;
              behind_live = o.0;
              at_behind = o.1.1;
              comes = λ is. sym (plain k o.1.0) ∙ is;
              ahead = k;
              ahead_live = o.0;
              at_ahead = o.1.1;
              leads = λ is. plain k o.1.0 ∙ is;
            })
      ]
    ]

    all_round : HasOneRound old → (h g : ℕ) → new.Live h → new.Live g → new.label h ≡ new.label g
        → among h ≡ true → among g ≡ true
    all_round one h g h_in g_in same is = elim (place h h_in each_with place g g_in) [
      | inl (a, inl b) ↦ b.comes (one before old_closed a.ahead b.behind a.ahead_live
          b.behind_live (sym a.at_ahead ∙ same ∙ b.at_behind) (a.leads is))
      | inl (a, inr b) ↦
          absurd (hub_apart hub x.alone g b a.behind a.behind_live (sym same ∙ a.at_behind))
      | inr (a, inl b) ↦
          absurd (hub_apart hub x.alone h a b.behind b.behind_live (same ∙ b.at_behind))
      | inr (a, inr b) ↦ hub_round hub x.alone h g a b is
    ]

-- things with one label still lie on one round where stretches of a walk are exchanged
pub one_round : (old new : Walk) → KeepsLabel old → (stands : List (ℕ × ℕ))
    (stretches : List (ℕ × List ℕ × ℕ)) (hub : List ℕ) → Exchange old new stands stretches hub
    → HasOneRound old → HasOneRound new
one_round old new goes stands stretches hub x one among closed =
    all_round old new among closed goes stands stretches hub x one

-- a walk under former numbers, of which some are left, where name gives the number now
abbrev pub renamed_walk : Walk → (ℕ → ℕ) → (ℕ → ℕ) → (ℕ → Type 0) → Walk
renamed_walk w name former Left = record {
  Live = λ k. Left k × w.Live (name k);
  step = λ k. former (w.step (name k));
  label = λ k. w.label (name k);
}

-- things lie on one round if they do under their former numbers
pub round_renamed : (w : Walk) (name former : ℕ → ℕ) (Left : ℕ → Type 0) → KeepsLabel w
    → ((h : ℕ) → w.Live h → Left (former h) × (name (former h) ≡ h))
    → HasOneRound (renamed_walk w name former Left) → HasOneRound w
round_renamed w name former Left goes back one among closed h g h_in g_in same is =
    let a = back h h_in in
    let b = back g g_in in
    ap among (sym b.1) ∙ one (λ k. among (name k)) (λ k live on. ap among
    (back (w.step (name k)) (goes (name k) live.1).0).1 ∙ closed (name k) live.1 on) (former h)
    (former g) (a.0, subst w.Live (sym a.1) h_in) (b.0, subst w.Live (sym b.1) g_in)
    (ap w.label a.1 ∙ same ∙ sym (ap w.label b.1)) (ap among a.1 ∙ is)
