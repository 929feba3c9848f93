-- The stages of the two types of triangulations.
-- Lemmas: fits, joins_there, answered_so.
use Rattle.std.proofs.Common.{◌≡◌, List, refl, subst}
use Rattle.std.specs.Prelude.{ℕ, ℤ}
use Rattle.delaunay_core.specs.{Point2}
use Rattle.{delaunay_edit.specs.IsWellFormed, delaunay_legalization.specs.State.State}
use Rattle.triangulate_run.specs.{Fits, position, reply_text, SheetPoint, stage_by}
use Rattle.triangulate_run.specs.{Answer.MayAnswer, Answer.MayJoin, Answer.MayReply, Stage.Stage}
use Rattle.triangulate_run.specs.{declared.command.Command.Command, declared.reply.Reply.Reply}
use Rattle.triangulate_run.specs.declared.command.Command.TheVariants.{Constrain, Counts, Faces}
use Rattle.triangulate_run.specs.declared.command.Command.TheVariants.{Insert, Line, Locate}
use Rattle.triangulate_run.specs.declared.command.Command.TheVariants.{Nearest, Release, Remove}

-- the stage of a sound triangulation fits
pub fits : {D U F : Type 0} (constraints : List U → List ℕ) (s : State (Point2 ℤ) D U F)
    → IsWellFormed position constraints s → Fits (stage_by constraints s)
fits constraints s formed = record {
  is_plain = formed.plain;
  points = refl;
  delaunay = formed.headline.delaunay;
  empty_triples = formed.headline.empty_triples;
  history_free = formed.headline.history_free;
}

-- the path is the same where the stage and the ends are
pub joins_there : (old before : Stage) → old ≡ before → (i j k l : ℕ) → i ≡ k → j ≡ l
    → (text : List ℕ) (new : Stage) → MayJoin old i j text new → MayJoin before k l text new
joins_there old before e i j k l f h text new joins =
    subst (λ (s : Stage). MayJoin s k l text new) e
    (subst (λ (b : ℕ). MayJoin old k b text new) h
    (subst (λ (a : ℕ). MayJoin old a j text new) f joins))

-- a command that gets a reply is answered by its text
pub answered_so :
    (points : List SheetPoint) (old : Stage) (command : Command) (r : Reply) (new : Stage)
    → MayReply points old command r new → MayAnswer points old command (reply_text r) new
answered_so points old (Insert p) r new h = (r, h, refl)
answered_so points old (Remove i) r new h = (r, h, refl)
answered_so points old (Constrain i j) r new h = absurd h
answered_so points old (Release i j) r new h = (r, h, refl)
answered_so points old (Locate p) r new h = (r, h, refl)
answered_so points old (Nearest p) r new h = (r, h, refl)
answered_so points old (Line p q) r new h = absurd h
answered_so points old Counts r new h = (r, h, refl)
answered_so points old Faces r new h = (r, h, refl)
