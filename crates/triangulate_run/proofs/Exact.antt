-- What is read is what the grammar says, and nothing else.
-- Lemmas: complete, sound, spelled, unspelled.
use Rattle.std.proofs.Common.{◌≡◌, [], ◌∷◌, ◌∙◌, ◌⊎◌}
use Rattle.std.proofs.Common.{ℕ, Bool, true, false, cond, ℤ, List, length, drop, codes, Option}
use Rattle.std.proofs.Common.{Some, None, refl, sym, ap, inl, inr, subst}
use Rattle.std.specs.List.{AllZip}
use Rattle.std.specs.Str.{bytes_eq}
use Rattle.std.specs.Cmp.Lexicographic.{same_text}
use Rattle.std.proofs.lemmas.Option.{some_pair_parts}
use Rattle.std.proofs.Common.{IfSome, IfNone, ◌≤◌}
use Rattle.triangulate_run.specs.{declared.command.Coordinates.Coordinates, words_of}
use Rattle.triangulate_run.specs.Grammar.{AreWordsOf, IsDigits, IsNumber, Spells, SpellsNone}
use Rattle.triangulate_run.specs.Reading.{◌>>=◌, arity, command_named, command_of, coordinates_of}
use Rattle.triangulate_run.specs.Reading.{ended, first_index, index_value, number_value, pair_of}
use Rattle.triangulate_run.specs.declared.command.Command.{Command}
use Rattle.triangulate_run.specs.declared.command.Command.TheVariants.{Constrain, Counts, Faces}
use Rattle.triangulate_run.specs.declared.command.Command.TheVariants.{Insert, Line, Locate}
use Rattle.triangulate_run.specs.declared.command.Command.TheVariants.{Nearest, Release, Remove}
use Rattle.triangulate_run.proofs.Values.{index_value-is, index_value-ok, number_value-is}
use Rattle.triangulate_run.proofs.Values.{number_value-ok}

bind_some : {A B : Type 0} (o : Option A) (f : A → Option B) (y : B) → (o >>= f) ≡ Some y
    → (x : A) × (o ≡ Some x) × (f x ≡ Some y)
bind_some None f y e = cc
bind_some (Some x) f y e = (x, refl, e)

chosen : {X : Type 0} (b : Bool) (x y z : X) → cond b x y ≡ z
    → ((b ≡ true) × (x ≡ z)) ⊎ ((b ≡ false) × (y ≡ z))
chosen true x y z e = inl (refl, e)
chosen false x y z e = inr (refl, e)

-- what is spelled is read

coordinates_ok : (args : List (List ℕ)) (p : Coordinates) (rest : List ℤ)
    → AllZip IsNumber args (p.x ∷ p.y ∷ rest)
    → (coordinates_of args ≡ Some p) × AllZip IsNumber (drop 2 args) rest
unfolding coordinates_of
coordinates_ok [] p rest h = absurd h
coordinates_ok (a ∷ []) p rest h = absurd h.1
coordinates_ok (a ∷ b ∷ args) p rest h =
    (rw (number_value-ok a p.x h.0, number_value-ok b p.y h.1.0) refl, h.1.1)

pair_ok : (args : List (List ℕ)) (i j : ℕ) → AllZip IsDigits args (i ∷ j ∷ [])
    → (pair_of args ≡ Some (i, j)) × (drop 2 args ≡ [])
unfolding pair_of
pair_ok [] i j h = absurd h
pair_ok (a ∷ []) i j h = absurd h.1
pair_ok (a ∷ b ∷ []) i j h = (rw (index_value-ok a i h.0, index_value-ok b j h.1.0) refl, refl)
pair_ok (a ∷ b ∷ c ∷ args) i j h = absurd h.1.1

index_ok : (args : List (List ℕ)) (i : ℕ) → AllZip IsDigits args (i ∷ [])
    → (first_index args ≡ Some i) × (drop 1 args ≡ [])
index_ok [] i h = absurd h
index_ok (a ∷ []) i h = (index_value-ok a i h.0, refl)
index_ok (a ∷ b ∷ args) i h = absurd h.1

none_zip : (args : List (List ℕ)) → AllZip IsNumber args [] → args ≡ []
none_zip [] h = refl
none_zip (a ∷ args) h = absurd h

-- two words left out twice are four
pub drop_four : (args : List (List ℕ)) → drop 2 (drop 2 args) ≡ drop 4 args
drop_four [] = refl
drop_four (a ∷ []) = refl
drop_four (a ∷ b ∷ args) = refl

-- words that spell a command are read as this command
pub complete : (c : Command) (words : List (List ℕ)) → AreWordsOf c words
    → command_of words ≡ Some c
unfolding command_of command_named
complete (Insert p) words (args, e, h) =
    let k = coordinates_ok args p [] h in rw (e, k.0, none_zip (drop 2 args) k.1) refl
complete (Remove i) words (args, e, h) = let k = index_ok args i h in rw (e, k.0, k.1) refl
complete (Constrain i j) words (args, e, h) = let k = pair_ok args i j h in rw (e, k.0, k.1) refl
complete (Release i j) words (args, e, h) = let k = pair_ok args i j h in rw (e, k.0, k.1) refl
complete (Locate p) words (args, e, h) =
    let k = coordinates_ok args p [] h in rw (e, k.0, none_zip (drop 2 args) k.1) refl
complete (Nearest p) words (args, e, h) =
    let k = coordinates_ok args p [] h in rw (e, k.0, none_zip (drop 2 args) k.1) refl
complete (Line p q) words (args, e, h) =
    let k = coordinates_ok args p (q.x ∷ q.y ∷ []) h in
    let m = coordinates_ok (drop 2 args) q [] k.1 in
    rw (e, k.0, m.0, ← drop_four args, none_zip (drop 2 (drop 2 args)) m.1) refl
complete Counts words e = rw e refl
complete Faces words e = rw e refl

-- what is read is spelled

coordinates_is : (args : List (List ℕ)) (p : Coordinates) (rest : List ℤ) → coordinates_of args
    ≡ Some p → AllZip IsNumber (drop 2 args) rest → AllZip IsNumber args (p.x ∷ p.y ∷ rest)
unfolding coordinates_of
coordinates_is [] p rest e h = cc
coordinates_is (a ∷ []) p rest e h =
    let x = bind_some (number_value a) (λ x. None) p e in cc x.2
coordinates_is (a ∷ b ∷ args) p rest e h =
    let x = bind_some (number_value a)
    (λ x. number_value b >>= λ y. Some (record { x = x; y = y })) p e in
    let y = bind_some (number_value b) (λ y. Some (record { x = x.0; y = y })) p x.2 in
    let same : record { x = x.0; y = y.0 } ≡ p = cc y.2 in
    subst (λ (q : Coordinates). AllZip IsNumber (a ∷ b ∷ args) (q.x ∷ q.y ∷ rest)) same
    (number_value-is a x.0 x.1, (number_value-is b y.0 y.1, h))

pair_is : (args : List (List ℕ)) (i j : ℕ) → pair_of args ≡ Some (i, j) → drop 2 args ≡ []
    → AllZip IsDigits args (i ∷ j ∷ [])
unfolding pair_of
pair_is [] i j e h = cc
pair_is (a ∷ []) i j e h =
    let x = bind_some (index_value a) (λ x. None) (i, j) e in cc x.2
pair_is (a ∷ b ∷ []) i j e h =
    let x = bind_some (index_value a) (λ x. index_value b >>= λ y. Some (x, y)) (i, j) e in
    let y = bind_some (index_value b) (λ y. Some (x.0, y)) (i, j) x.2 in
    let same = some_pair_parts x.0 i y.0 j y.2 in
    (index_value-is a i (x.1 ∙ ap Some same.0), (index_value-is b j (y.1 ∙ ap Some same.1), tt))
pair_is (a ∷ b ∷ c ∷ args) i j e h = cc

index_is : (args : List (List ℕ)) (i : ℕ) → first_index args ≡ Some i → drop 1 args ≡ []
    → AllZip IsDigits args (i ∷ [])
index_is [] i e h = cc
index_is (a ∷ []) i e h = (index_value-is a i e, tt)
index_is (a ∷ b ∷ args) i e h = cc

zip_none : (args : List (List ℕ)) → args ≡ [] → AllZip IsNumber args []
zip_none [] e = tt
zip_none (a ∷ args) e = cc

-- by the name

-- a command that is read, with no word left over, is written by the name and the words
abbrev Arm : List ℕ → List (List ℕ) → Option Command → Type 0
Arm name args read = (c : Command) → read ≡ Some c → drop (arity c) args ≡ []
    → AreWordsOf c (name ∷ args)

insert_arm : (args : List (List ℕ))
    → Arm (codes "insert") args (coordinates_of args >>= λ p. Some (Insert p))
insert_arm args c e end =
    let p = bind_some (coordinates_of args) (λ p. Some (Insert p)) c e in
    let same : Insert p.0 ≡ c = cc p.2 in
    subst (λ (d : Command). drop (arity d) args ≡ [] → AreWordsOf d (codes "insert" ∷ args)) same
    (λ h. (args, refl, coordinates_is args p.0 [] p.1 (zip_none _ h))) end

remove_arm : (args : List (List ℕ))
    → Arm (codes "remove") args (first_index args >>= λ i. Some (Remove i))
remove_arm args c e end =
    let p = bind_some (first_index args) (λ i. Some (Remove i)) c e in
    let same : Remove p.0 ≡ c = cc p.2 in
    subst (λ (d : Command). drop (arity d) args ≡ [] → AreWordsOf d (codes "remove" ∷ args)) same
    (λ h. (args, refl, index_is args p.0 p.1 h)) end

constrain_arm : (args : List (List ℕ))
    → Arm (codes "constrain") args (pair_of args >>= λ p. Some (Constrain p.0 p.1))
constrain_arm args c e end =
    let p = bind_some (pair_of args) (λ p. Some (Constrain p.0 p.1)) c e in
    let same : Constrain p.0.0 p.0.1 ≡ c = cc p.2 in
    subst (λ (d : Command). drop (arity d) args ≡ [] → AreWordsOf d (codes "constrain" ∷ args)) same
    (λ h. (args, refl, pair_is args p.0.0 p.0.1 p.1 h)) end

release_arm : (args : List (List ℕ))
    → Arm (codes "release") args (pair_of args >>= λ p. Some (Release p.0 p.1))
release_arm args c e end =
    let p = bind_some (pair_of args) (λ p. Some (Release p.0 p.1)) c e in
    let same : Release p.0.0 p.0.1 ≡ c = cc p.2 in
    subst (λ (d : Command). drop (arity d) args ≡ [] → AreWordsOf d (codes "release" ∷ args)) same
    (λ h. (args, refl, pair_is args p.0.0 p.0.1 p.1 h)) end

locate_arm : (args : List (List ℕ))
    → Arm (codes "locate") args (coordinates_of args >>= λ p. Some (Locate p))
locate_arm args c e end =
    let p = bind_some (coordinates_of args) (λ p. Some (Locate p)) c e in
    let same : Locate p.0 ≡ c = cc p.2 in
    subst (λ (d : Command). drop (arity d) args ≡ [] → AreWordsOf d (codes "locate" ∷ args)) same
    (λ h. (args, refl, coordinates_is args p.0 [] p.1 (zip_none _ h))) end

nearest_arm : (args : List (List ℕ))
    → Arm (codes "nearest") args (coordinates_of args >>= λ p. Some (Nearest p))
nearest_arm args c e end =
    let p = bind_some (coordinates_of args) (λ p. Some (Nearest p)) c e in
    let same : Nearest p.0 ≡ c = cc p.2 in
    subst (λ (d : Command). drop (arity d) args ≡ [] → AreWordsOf d (codes "nearest" ∷ args)) same
    (λ h. (args, refl, coordinates_is args p.0 [] p.1 (zip_none _ h))) end

line_arm : (args : List (List ℕ)) → Arm (codes "line") args
    (coordinates_of args >>= λ p. coordinates_of (drop 2 args) >>= λ q. Some (Line p q))
line_arm args c e end =
    let p = bind_some (coordinates_of args)
    (λ p. coordinates_of (drop 2 args) >>= λ q. Some (Line p q)) c e in
    let q = bind_some (coordinates_of (drop 2 args)) (λ q. Some (Line p.0 q)) c p.2 in
    let same : Line p.0 q.0 ≡ c = cc q.2 in
    subst (λ (d : Command). drop (arity d) args ≡ [] → AreWordsOf d (codes "line" ∷ args)) same
    (λ h. (
      args,
      refl,
      coordinates_is args p.0 (q.0.x ∷ q.0.y ∷ []) p.1
          (coordinates_is (drop 2 args) q.0 [] q.1 (zip_none _ (drop_four args ∙ h))),
    )) end

counts_arm : (args : List (List ℕ)) → Arm (codes "counts") args (Some Counts)
counts_arm args c e end =
    let same : Counts ≡ c = cc in
    subst (λ (d : Command). drop (arity d) args ≡ [] → AreWordsOf d (codes "counts" ∷ args)) same
    (λ h. ap (λ ys. codes "counts" ∷ ys) h) end

faces_arm : (args : List (List ℕ)) → Arm (codes "faces") args (Some Faces)
faces_arm args c e end =
    let same : Faces ≡ c = cc in
    subst (λ (d : Command). drop (arity d) args ≡ [] → AreWordsOf d (codes "faces" ∷ args)) same
    (λ h. ap (λ ys. codes "faces" ∷ ys) h) end

-- one test of the name, and the tests after it
tested : (name known : List ℕ) (args : List (List ℕ)) (x y : Option Command) → Arm known args x
    → Arm name args y → Arm name args (cond (bytes_eq name known) x y)
tested name known args x y here after =
    λ c e end. elim (chosen (bytes_eq name known) x y (Some c) e) [
      | inl is ↦
          subst (λ n. AreWordsOf c (n ∷ args)) (sym (same_text name known (sym is.0)))
          (here c is.1 end)
      | inr other ↦ after c other.1 end
    ]

named : (name : List ℕ) (args : List (List ℕ)) → Arm name args (command_named name args)
unfolding command_named
named name args =
    tested name _ args _ _ (insert_arm args)
    (tested name _ args _ _ (remove_arm args) (tested name _ args _ _ (constrain_arm args)
    (tested name _ args _ _ (release_arm args)
    (tested name _ args _ _ (locate_arm args) (tested name _ args _ _ (nearest_arm args)
    (tested name _ args _ _ (line_arm args) (tested name _ args _ _ (counts_arm args)
    (tested name _ args _ None (faces_arm args) (λ c e end. cc)))))))))

ended_is : (rest : List (List ℕ)) (d c : Command) → ended rest d ≡ Some c → (rest ≡ []) × (d ≡ c)
ended_is [] d c e = (refl, cc)
ended_is (word ∷ rest) d c e = cc

-- words that are read as a command spell it
pub sound : (words : List (List ℕ)) (c : Command) → command_of words ≡ Some c → AreWordsOf c words
unfolding command_of
sound [] c e = cc
sound (name ∷ args) c e =
    let d = bind_some (command_named name args) (λ d. ended (drop (arity d) args) d) c e in
    let f = ended_is (drop (arity d.0) args) d.0 c d.2 in
    named name args c (d.1 ∙ ap Some f.1)
    (subst (λ (b : Command). drop (arity b) args ≡ []) f.1 f.0)

-- a line of at most 120 bytes whose words are read as a command spells it
pub spelled : (line : List ℕ) (r : Option Command) → length line ≤ 120
    → r ≡ command_of (words_of line) → IfSome r (Spells line)
spelled line None short e = tt
spelled line (Some c) short e = (short, sound (words_of line) c (sym e))

-- a line whose words are read as no command spells none
pub unspelled : (line : List ℕ) (r : Option Command) → r ≡ command_of (words_of line)
    → IfNone r (SpellsNone line)
unspelled line None e = λ c h. cc (complete c (words_of line) h.1)
unspelled line (Some c) e = tt
