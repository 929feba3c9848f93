-- The states of a run, one after another.
-- Notions: IsRunning; consumes_kept, consumes_first, consumes_break, kept_more, end_none,
-- end_bad, start, byte_more, line_more, line_fault, end_fault, end_more, read_fault.
use Rattle.std.proofs.Common.{◌≡◌, ◌≢◌, ◌<◌, ◌≤◌, ◌+◌, [], ◌∷◌, ◌++◌, ◌∙◌, inl, inr}
use Rattle.std.specs.Prelude.{Result, Ok, Err, IsOk, OnOk, OnErr, ◌↔◌}
use Rattle.arrayvec.specs.ArrayVec.{ArrayVec}
use Rattle.std.proofs.Common.{ℕ, Bool, true, false, List, Option, Some, None, refl, sym, ap}
use Rattle.std.proofs.Common.{append_assoc, append-nil, arith, get_or, length, length-take}
use Rattle.std.proofs.Common.{subst, take}
use Rattle.std.specs.List.{flat_map}
use Rattle.std.specs.Io.KnownBytes.{Appends, Consumes, IsAtEnd, Keeps}
use Rattle.std.proofs.lemmas.Grind.{flat_map-append}
use Rattle.std.proofs.lemmas.List.Elements.{All-push, All-nil}
use Rattle.std.proofs.lemmas.Bool.{eqb-true, eqb-false}
use Rattle.std.proofs.lemmas.List.{length_push, nil_from_length, take_all, take-append-le}
use Rattle.std.specs.Bool.{◌==◌}
use Rattle.triangulate_run.specs.{AppendsPart, Fits, has_failed, inner_of, SheetPoint}
use Rattle.{triangulate_run.specs.Grammar.Spells, triangulate_run.specs.Line.kept}
use Rattle.triangulate_run.specs.Run.{Answers, AnswersAll, bad_line, Cut, end_text, IsAllowed}
use Rattle.triangulate_run.specs.Run.{IsOneLine, RanInPart, RanToEnd, RanToFault}
use Rattle.triangulate_run.specs.{declared.watched.Watched.Watched, Stage.first_stage, Stage.Stage}
use Rattle.triangulate_run.proofs.OutputLemmas.{appends_more, appends_nil, part_behind}

-- between two bytes: these lines were read and answered, and this much of the next
pub record IsRunning {R W : Type 0} (points : List SheetPoint) (remaining : R → Option (List ℕ))
    (contents : W → Option (List ℕ)) (r0 r1 : Watched R) (w0 w1 : Watched W)
    (line : List ℕ) (stage : Stage) : Type 0 where
  pub input : List ℕ
  pub lines : List (List ℕ)
  pub rest : List ℕ
  pub text : List ℕ
  pub read : Consumes (remaining (inner_of r0)) (remaining (inner_of r1)) input
  pub written : Appends (contents (inner_of w0)) (contents (inner_of w1)) text
  pub cut : Cut input lines rest
  pub answered : AnswersAll points first_stage lines text stage
  pub held : line ≡ kept rest
  pub reader_works : has_failed r1 ≡ false
  pub writer_works : has_failed w1 ≡ false

-- where what is left to read stays, the empty text was read
consumes_nil : (a : Option (List ℕ)) → Consumes a a []
consumes_nil None = tt
consumes_nil (Some xs) = refl

-- and so it was where the call was refused
pub consumes_kept : (a b : Option (List ℕ)) → Keeps a b → Consumes a b []
consumes_kept None b kept = tt
consumes_kept (Some xs) None kept = absurd kept
consumes_kept (Some xs) (Some ys) kept = sym kept

-- a text that is read behind another one is read with it
consumes_more : (a b c : Option (List ℕ)) (s t : List ℕ) → Consumes a b s → Consumes b c t
    → Consumes a c (s ++ t)
consumes_more None b c s t h k = tt
consumes_more (Some xs) None c s t h k = absurd h
consumes_more (Some xs) (Some ys) None s t h k = absurd k
consumes_more (Some xs) (Some ys) (Some zs) s t h k =
    h ∙ ap (λ us. s ++ us) k ∙ sym (append_assoc s t zs)

-- where there is room for one byte and some were read, the first was
pub consumes_first : (a b : Option (List ℕ)) (n : ℕ) (room : List ℕ) (d : ℕ) → n ≢ 0
    → n ≤ length room → length room ≡ 1 → Consumes a b (take n room)
    → Consumes a b (get_or room 0 d ∷ [])
consumes_first a b n (x ∷ []) d some most one h =
    let all : n ≡ 1 = omega (arith, some, most) in
    subst (λ (k : ℕ). Consumes a b (take k (x ∷ []))) all h
consumes_first a b n [] d some most one h = cc
consumes_first a b n (x ∷ (y ∷ ys)) d some most one h = absurd (omega (arith, one))

-- a byte that is read and equal to 10 is a newline read
pub consumes_break : (a b : Option (List ℕ)) (byte : ℕ) → byte ≡ 10 → Consumes a b (byte ∷ [])
    → Consumes a b (10 ∷ [])
consumes_break a b byte e h = subst (λ (x : ℕ). Consumes a b (x ∷ [])) e h

-- what is kept of a line and gets a byte, where there is room, is what is kept of the longer line
pub kept_more : {T E : Type 0} (r : Result T E) (rest : List ℕ) (b : ℕ) {old new : ArrayVec ℕ}
    → old.items ≡ kept rest → IsOk r ↔ (length old.items < 121)
    → OnOk r (new.items ≡ old.items ++ b ∷ []) → OnErr r (length old.items ≡ 121)
    → OnErr r (new ≡ old) → new.items ≡ kept (rest ++ b ∷ [])
kept_more (Ok x) rest b e room ok full err =
    let short : length (kept rest) < 121 = rw e at (room.0 refl) in
    let all = take_all 121 rest (omega (arith, length-take 121 rest, short)) in
    ok ∙ ap (λ ys. ys ++ b ∷ []) (e ∙ all)
    ∙ sym (take_all 121 (rest ++ b ∷ [])
    (omega (arith, length_push rest b, length-take 121 rest, short)))
kept_more (Err x) rest b e room ok full err =
    let long : length (kept rest) ≡ 121 = rw e at full in
    ap (λ v. v.items) err ∙ e
    ∙ sym (take-append-le 121 rest (b ∷ []) (omega (arith, length-take 121 rest, long)))

-- a line of which at most 120 bytes are kept is kept whole
kept_whole : (line : List ℕ) → length (kept line) ≤ 120 → kept line ≡ line
kept_whole line few = take_all 121 line (omega (arith, length-take 121 line, few))

-- a line is answered as what is kept of it
answers_kept : (points : List SheetPoint) (old : Stage) (line text : List ℕ) (new : Stage)
    → Answers points old (kept line) text new → Answers points old line text new
answers_kept points old line text new (inl (command, spells, told)) =
    inl (command, subst (λ (l : List ℕ). Spells l command) (kept_whole line spells.0) spells, told)
answers_kept points old line text new (inr (none, bad, same)) = inr (
  (λ command spells. none command (subst (λ (l : List ℕ). Spells l command)
      (sym (take_all 121 line (omega (arith, spells.0)))) spells)),
  bad,
  same,
)

answers_whole : {points : List SheetPoint} {old : Stage} {line text : List ℕ} {new : Stage}
    (whole : List ℕ) → line ≡ kept whole → Answers points old line text new
    → Answers points old whole text new
answers_whole {points} {old} {line} {text} {new} whole e answers =
    answers_kept points old whole text new
    (subst (λ (l : List ℕ). Answers points old l text new) e answers)

-- what is written at the end of the input, where nothing is kept of the last line
pub end_none : (line : List ℕ) {b : Bool} → b ≡ (length line == 0) → b ≡ true → end_text line ≡ []
end_none line is empty =
    ap end_text (nil_from_length line (eqb-true (length line) 0 (sym is ∙ empty)))

-- and where something is
pub end_bad : (line : List ℕ) {b : Bool} → b ≡ (length line == 0) → b ≡ false
    → end_text line ≡ bad_line
end_bad [] is some = absurd (eqb-false 0 0 (sym is ∙ some) refl)
end_bad (byte ∷ line) is some = refl

end_kept : (line : List ℕ) → end_text (kept line) ≡ end_text line
end_kept [] = refl
end_kept (byte ∷ line) = refl

-- what is written at the end is told by what is kept
end_whole : (line whole : List ℕ) → line ≡ kept whole → end_text line ≡ end_text whole
end_whole line whole e = ap end_text e ∙ end_kept whole

-- one more line is answered
answers_more : (points : List SheetPoint) (old : Stage) (lines : List (List ℕ)) (text : List ℕ)
    (mid : Stage) (line first : List ℕ) (new : Stage) → AnswersAll points old lines text mid
    → Answers points mid line first new → Fits new
    → AnswersAll points old (lines ++ line ∷ []) (text ++ first) new
answers_more points old [] text mid line first new h k fits = (
  first,
  [],
  new,
  ap (λ ys. ys ++ first) h.0 ∙ sym (append-nil first),
  subst (λ (m : Stage). Answers points m line first new) h.1 k,
  fits,
  (refl, refl),
)
answers_more points old (l ∷ lines) text mid line first new
    (one, others, next, e, here, fit, after) k fits = (
      one,
      others ++ first,
      next,
      ap (λ ys. ys ++ first) e ∙ append_assoc one others first,
      here,
      fit,
      answers_more points next lines others mid line first new after k fits,
    )

cut_byte : (input : List ℕ) (lines : List (List ℕ)) (rest : List ℕ) (b : ℕ) → Cut input lines rest
    → b ≢ 10 → Cut (input ++ b ∷ []) lines (rest ++ b ∷ [])
cut_byte input lines rest b cut ne = record {
  whole = ap (λ ys. ys ++ b ∷ []) cut.whole
      ∙ append_assoc (flat_map (λ line. line ++ 10 ∷ []) lines) rest (b ∷ []);
  each = cut.each;
  last = All-push (λ (x : ℕ). x ≢ 10) rest b cut.last ne;
}

cut_line : (input : List ℕ) (lines : List (List ℕ)) (rest : List ℕ) → Cut input lines rest
    → Cut (input ++ 10 ∷ []) (lines ++ rest ∷ []) []
cut_line input lines rest cut = record {
  whole = ap (λ ys. ys ++ 10 ∷ []) cut.whole
      ∙ append_assoc (flat_map (λ line. line ++ 10 ∷ []) lines) rest (10 ∷ [])
      ∙ ap (λ ys. flat_map (λ line. line ++ 10 ∷ []) lines ++ ys)
      (sym (append-nil (rest ++ 10 ∷ [])))
      ∙ sym (flat_map-append (λ line. line ++ 10 ∷ []) lines (rest ∷ []))
      ∙ sym (append-nil (flat_map (λ line. line ++ 10 ∷ []) (lines ++ rest ∷ [])));
  each = All-push IsOneLine lines rest cut.each cut.last;
  last = All-nil (λ (x : ℕ). x ≢ 10);
}

-- a run begins with nothing read, nothing written and no vertices
pub start : {R W : Type 0} (remaining : R → Option (List ℕ)) (contents : W → Option (List ℕ))
    (r : Watched R) (w : Watched W) (line : List ℕ) (points : List SheetPoint)
    (stage : Stage) → line ≡ [] → stage ≡ first_stage → has_failed r ≡ false
    → has_failed w ≡ false → IsRunning points remaining contents r r w w line stage
start remaining contents r w line points stage e f hr hw = record {
  input = [];
  lines = [];
  rest = [];
  text = [];
  read = consumes_nil _;
  written = appends_nil _;
  cut = record { whole = refl; each = All-nil IsOneLine; last = All-nil (λ (x : ℕ). x ≢ 10) };
  answered = (refl, f);
  held = e;
  reader_works = hr;
  writer_works = hw;
}

-- a run goes on where one more byte, which ends no line, is read and kept
pub byte_more : {R W : Type 0} {remaining : R → Option (List ℕ)} {contents : W → Option (List ℕ)}
    {r0 r1 : Watched R} {w0 w1 : Watched W} {line : List ℕ} {points : List SheetPoint}
    {stage : Stage} (s : IsRunning points remaining contents r0 r1 w0 w1 line stage)
    → (r2 : Watched R) (b : ℕ) (after : List ℕ)
    → Consumes (remaining (inner_of r1)) (remaining (inner_of r2)) (b ∷ []) → has_failed r2 ≡ false
    → b ≢ 10 → after ≡ kept (s.rest ++ b ∷ [])
    → IsRunning points remaining contents r0 r2 w0 w1 after stage
byte_more s r2 b after took works ne e = record {
  input = s.input ++ b ∷ [];
  lines = s.lines;
  rest = s.rest ++ b ∷ [];
  text = s.text;
  read = consumes_more _ _ _ s.input (b ∷ []) s.read took;
  written = s.written;
  cut = cut_byte s.input s.lines s.rest b s.cut ne;
  answered = s.answered;
  held = e;
  reader_works = works;
  writer_works = s.writer_works;
}

-- a run goes on where the end of a line is read and its answer is written
pub line_more : {R W : Type 0} {remaining : R → Option (List ℕ)} {contents : W → Option (List ℕ)}
    {r0 r1 : Watched R} {w0 w1 : Watched W} {line : List ℕ} {points : List SheetPoint}
    {stage : Stage} (s : IsRunning points remaining contents r0 r1 w0 w1 line stage)
    → (r2 : Watched R) (w2 : Watched W) (first : List ℕ) (new : Stage) (after : List ℕ)
    → Consumes (remaining (inner_of r1)) (remaining (inner_of r2)) (10 ∷ []) → has_failed r2 ≡ false
    → Answers points stage line first new → Fits new
    → Appends (contents (inner_of w1)) (contents (inner_of w2)) first → has_failed w2 ≡ false
    → after ≡ [] → IsRunning points remaining contents r0 r2 w0 w2 after new
line_more {points = points} {stage = stage} s r2 w2 first new after took works answer fits wrote
    still e = record {
      input = s.input ++ 10 ∷ [];
      lines = s.lines ++ s.rest ∷ [];
      rest = [];
      text = s.text ++ first;
      read = consumes_more _ _ _ s.input (10 ∷ []) s.read took;
      written = appends_more _ _ _ s.text first s.written wrote;
      cut = cut_line s.input s.lines s.rest s.cut;
      answered =
          answers_more points first_stage s.lines s.text stage s.rest first new
          s.answered (answers_whole s.rest s.held answer) fits;
      held = e;
      reader_works = works;
      writer_works = still;
    }

-- a run ends where the writer fails within the answer to a line
pub line_fault : {R W : Type 0} {remaining : R → Option (List ℕ)} {contents : W → Option (List ℕ)}
    {r0 r1 : Watched R} {w0 w1 : Watched W} {line : List ℕ} {points : List SheetPoint}
    {stage : Stage} (s : IsRunning points remaining contents r0 r1 w0 w1 line stage)
    → (r2 : Watched R) (w2 : Watched W) (first : List ℕ) (new : Stage)
    → Consumes (remaining (inner_of r1)) (remaining (inner_of r2)) (10 ∷ []) → has_failed r2 ≡ false
    → Answers points stage line first new → Fits new
    → AppendsPart (contents (inner_of w1)) (contents (inner_of w2)) first → has_failed w2 ≡ true
    → RanInPart points remaining contents r0 r2 w0 w2
line_fault {points = points} {stage = stage} s r2 w2 first new took works answer fits wrote failed =
    record {
      input = s.input ++ 10 ∷ [];
      text = s.text ++ first;
      read = consumes_more _ _ _ s.input (10 ∷ []) s.read took;
      written = part_behind _ _ _ s.text first s.written wrote;
      allowed = record {
        lines = s.lines ++ s.rest ∷ [];
        rest = [];
        before = s.text ++ first;
        stage = new;
        cut = cut_line s.input s.lines s.rest s.cut;
        answered = answers_more points first_stage s.lines s.text stage s.rest first new
            s.answered (answers_whole s.rest s.held answer) fits;
        whole = sym (append-nil (s.text ++ first));
      };
      reader_works = works;
      writer_failed = failed;
    }

-- what was written so far, with what is written at the end of the input, is allowed for what was
-- read
allowed_to_end : {R W : Type 0} {remaining : R → Option (List ℕ)} {contents : W → Option (List ℕ)}
    {r0 r1 : Watched R} {w0 w1 : Watched W} {line : List ℕ} {points : List SheetPoint}
    {stage : Stage} (s : IsRunning points remaining contents r0 r1 w0 w1 line stage)
    → IsAllowed points (s.input ++ []) (s.text ++ end_text s.rest)
allowed_to_end {stage = stage} s = record {
  lines = s.lines;
  rest = s.rest;
  before = s.text;
  stage = stage;
  cut = subst (λ (i : List ℕ). Cut i s.lines s.rest) (sym (append-nil s.input)) s.cut;
  answered = s.answered;
  whole = refl;
}

-- a run ends where the writer fails within what is written at the end of the input
pub end_fault : {R W : Type 0} {remaining : R → Option (List ℕ)} {contents : W → Option (List ℕ)}
    {r0 r1 : Watched R} {w0 w1 : Watched W} {line : List ℕ} {points : List SheetPoint}
    {stage : Stage} (s : IsRunning points remaining contents r0 r1 w0 w1 line stage)
    → (r2 : Watched R) (w2 : Watched W)
    → Consumes (remaining (inner_of r1)) (remaining (inner_of r2)) [] → has_failed r2 ≡ false
    → AppendsPart (contents (inner_of w1)) (contents (inner_of w2)) (end_text line)
    → has_failed w2 ≡ true → RanInPart points remaining contents r0 r2 w0 w2
end_fault s r2 w2 took works wrote failed = record {
  input = s.input ++ [];
  text = s.text ++ end_text s.rest;
  read = consumes_more _ _ _ s.input [] s.read took;
  written = part_behind _ _ _ s.text (end_text s.rest) s.written
      (rw (end_whole _ s.rest s.held) at wrote);
  allowed = allowed_to_end s;
  reader_works = works;
  writer_failed = failed;
}

-- a run ends where the input does and what is written at its end is written
pub end_more : {R W : Type 0} {remaining : R → Option (List ℕ)} {contents : W → Option (List ℕ)}
    {r0 r1 : Watched R} {w0 w1 : Watched W} {line : List ℕ} {points : List SheetPoint}
    {stage : Stage} (s : IsRunning points remaining contents r0 r1 w0 w1 line stage)
    → (r2 : Watched R) (w2 : Watched W)
    → Consumes (remaining (inner_of r1)) (remaining (inner_of r2)) []
    → IsAtEnd (remaining (inner_of r2)) → has_failed r2 ≡ false
    → Appends (contents (inner_of w1)) (contents (inner_of w2)) (end_text line)
    → has_failed w2 ≡ false → RanToEnd points remaining contents r0 r2 w0 w2
end_more s r2 w2 took end works wrote still = record {
  input = s.input ++ [];
  text = s.text ++ end_text s.rest;
  read = consumes_more _ _ _ s.input [] s.read took;
  at_end = end;
  written = appends_more _ _ _ s.text (end_text s.rest) s.written
      (rw (end_whole _ s.rest s.held) at wrote);
  allowed = allowed_to_end s;
  reader_works = works;
  writer_works = still;
}

-- a run ends where the reader fails
pub read_fault : {R W : Type 0} {remaining : R → Option (List ℕ)} {contents : W → Option (List ℕ)}
    {r0 r1 : Watched R} {w0 w1 : Watched W} {line : List ℕ} {points : List SheetPoint}
    {stage : Stage} (s : IsRunning points remaining contents r0 r1 w0 w1 line stage)
    → (r2 : Watched R) → Consumes (remaining (inner_of r1)) (remaining (inner_of r2)) []
    → has_failed r2 ≡ true → RanToFault points remaining contents r0 r2 w0 w1
read_fault {stage = stage} s r2 took failed = record {
  input = s.input ++ [];
  text = s.text;
  read = consumes_more _ _ _ s.input [] s.read took;
  written = s.written;
  allowed = record {
    lines = s.lines;
    rest = s.rest;
    stage = stage;
    cut = subst (λ (i : List ℕ). Cut i s.lines s.rest) (sym (append-nil s.input)) s.cut;
    answered = s.answered;
  };
  reader_failed = failed;
  writer_works = s.writer_works;
}
