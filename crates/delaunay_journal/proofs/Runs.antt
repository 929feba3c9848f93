-- A list of edits that was replayed is a run of those that were made.
-- Notions: IsReplayed; comes_now, comes_later, counts_on, runs, one_more, ends.
use Rattle.std.proofs.Common.{◌≡◌, ◌+◌, [], ◌∷◌, ◌++◌}
use Rattle.std.proofs.Common.{ℕ, List, length, refl, arith, sym, ap, subst, append_assoc}
use Rattle.std.proofs.Common.{append-nil}
use Rattle.std.specs.Prelude.{◌↔◌, Contains}
use Rattle.std.proofs.lemmas.List.{length_push}
use Rattle.std.proofs.lemmas.List.Elements.{Contains-append_left, Contains-append_right}
use Rattle.std.proofs.lemmas.List.Elements.{Contains-push}
use Rattle.plane.specs.{Joins, Plain, Point, Run}
use Rattle.plane.specs.PlainEdits.{Edit as PlainEdit}
use Rattle.delaunay_legalization.specs.{points_and_constraints_by, State.State}
use Rattle.delaunay_journal.specs.{AddConstraint, Added, Edit, Gives, Insert, Outcome, Refused}
use Rattle.delaunay_journal.specs.Journal.{edit_made, edits_made, Replays}
use Rattle.delaunay_journal.specs.{declared.edit.Edit.TheVariants.Replace, Marking.Marking}
use Rattle.delaunay_journal.specs.declared.edit.Edit.TheVariants.{Clear, ReleaseConstraint, Remove}
use Rattle.delaunay_journal.specs.declared.edit.Outcome.TheVariants.{Cleared, Inserted, Released}
use Rattle.delaunay_journal.specs.declared.edit.Outcome.TheVariants.{Removed, Replaced}

-- ---- an edit that comes now, and those after it
module _ {A : Type 0} {left rest : List A} {first : A} (is : left ≡ first ∷ rest) where
  -- the first of what is left is in it
  pub comes_now : (x : A) → first ≡ x → Contains left x
  comes_now x same = subst (λ (xs : List A). Contains xs x) (sym is)
      (subst (λ (y : A). Contains (y ∷ rest) x) (sym same)
      (Contains-append_left (x ∷ []) rest x (Contains-push [] x)))

  -- and so is each of the rest
  pub comes_later : (x : A) → Contains rest x → Contains left x
  comes_later x c =
      subst (λ (xs : List A). Contains xs x) (sym is) (Contains-append_right (first ∷ []) rest x c)

  -- with one more outcome there are as many as there were edits
  pub counts_on : {B : Type 0} (given : List B) (next : B) {more : List B} {n : ℕ}
      → more ≡ given ++ next ∷ [] → length given + length left ≡ n → length more + length rest ≡ n
  counts_on given next grown was =
      let taken = ap length is in
      let longer = ap length grown in
      omega (arith, was, taken, longer, length_push given next)

module _ {V D U F : Type 0} (place : V → Point) (constraints : List U → List ℕ)
    (marking : Marking U) where
  abbrev plain_of : State V D U F → Plain V
  plain_of s = points_and_constraints_by constraints s

  -- what an edit gave is a step of the definitions, or none
  goes_on : (e : Edit V) (o : Outcome V) (old middle : State V D U F) (new : Plain V)
      (steps : List (PlainEdit V)) → Gives place constraints marking e o old middle
      → Run place steps (plain_of middle) new
      → Run place (edit_made e o ++ steps) (plain_of old) new
  goes_on e (Refused r) old middle new steps (why, same) rest =
      subst (λ (s : State V D U F). Run place steps (plain_of s) new) same rest
  goes_on (Insert v) (Inserted i) old middle new steps done rest =
      (plain_of middle, (i, done.ok), rest)
  goes_on (Remove i) (Removed v) old middle new steps done rest =
      (plain_of middle, done.plain, rest)
  goes_on (Replace i v) (Replaced w) old middle new steps done rest =
      (plain_of middle, done.plain, rest)
  goes_on Clear Cleared old middle new steps done rest = (plain_of middle, done.plain, rest)
  goes_on (AddConstraint i j) (Added made) old middle new steps done rest =
      (plain_of middle, done.plain, rest)
  goes_on (ReleaseConstraint i j) Released old middle new steps done rest =
      (plain_of middle, done.plain, rest)
  goes_on e o old middle new steps done rest = absurd done

  -- edits and their outcomes are a run
  pub runs : (es : List (Edit V)) (os : List (Outcome V)) (old new : State V D U F)
      → Replays place constraints marking es os old new
      → Run place (edits_made es os) (plain_of old) (plain_of new)
  runs [] [] old new same = record {
    vertices = ap (λ (s : State V D U F). s.vertices) same;
    constraints = λ i j. subst (λ (s : State V D U F). Joins (plain_of s).constraints i j ↔
        Joins (plain_of old).constraints i j) (sym same) ((λ x. x), (λ x. x));
  }
  runs (e ∷ es) (o ∷ os) old new (middle, done, rest) =
      goes_on e o old middle (plain_of new) (edits_made es os) done (runs es os middle new rest)
  runs es os old new r = absurd r

  -- ---- what is left to replay, from what was replayed so far
  -- with outcomes of what is left, those so far are outcomes of all edits
  pub record IsReplayed (es left : List (Edit V)) (os : List (Outcome V))
      (old now : State V D U F) : Type 0 where
    pub goes : (more : List (Outcome V)) (new : State V D U F)
        → Replays place constraints marking left more now new
        → Replays place constraints marking es (os ++ more) old new

  -- the next edit with its outcome is one more
  pub one_more : {es left rest : List (Edit V)} {os : List (Outcome V)}
      {old now next : State V D U F} {e : Edit V} (o : Outcome V) → IsReplayed es left os old now
      → left ≡ e ∷ rest → Gives place constraints marking e o now next
      → IsReplayed es rest (os ++ o ∷ []) old next
  one_more {es = es} {os = os} {old = old} {now = now} {next = next} {e = e} o so is done = record {
    goes = λ more new r. subst
        (λ (xs : List (Outcome V)). Replays place constraints marking es xs old new)
        (sym (append_assoc os (o ∷ []) more))
        (so.goes (o ∷ more) new
        (subst (λ (xs : List (Edit V)). Replays place constraints marking xs (o ∷ more) now new)
        (sym is) (next, done, r)));
  }

  -- where no edit is left, all were replayed
  pub ends : {es left : List (Edit V)} {os : List (Outcome V)} {old now : State V D U F}
      → IsReplayed es left os old now → length left ≡ 0
      → Replays place constraints marking es os old now
  ends {es = es} {left = []} {os = os} {old = old} {now = now} so none =
      subst (λ (xs : List (Outcome V)). Replays place constraints marking es xs old now)
      (append-nil os) (so.goes [] now refl)
  ends {left = e ∷ left} so none = absurd (omega (arith, none))
