use Rattle.std.proofs.Common.{rules, ◌≡◌, Some, drop, arith, codes}
use Rattle.std.proofs.lemmas.Slice.Eq.{text_from_reads}
use Rattle.triangulate_run.specs.{words_of}
use Rattle.triangulate_run.specs.Reading.{arity, command_named, command_of}
use Rattle.triangulate_run.proofs.Exact.{drop_four, spelled, unspelled}
use Rattle.triangulate_run.proofs.grammar.parse.Goals as goal
use goal.{in-constrain+in_ok-i-in-constrain, in-counts, in-faces}
use goal.{in-insert+in_ok-coordinates-in-insert}
use goal.{in-line+in_ok-coordinates-in-line+in_ok-coordinates-in-line-2}
use goal.{in-locate+in_ok-coordinates-in-locate, in-nearest+in_ok-coordinates-in-nearest}
use goal.{in-release+in_ok-i-in-release, in-remove+in_ok-index-in-remove}

-- the command is what its name and the words behind it say, and those that it takes are gone
read : (c : goal.After-then_some)
    → (command_named c.in_ok-next_word.field-0.now c.next_word.new.self
    ≡ Some c.if-this-lt5.command)
    × (c.if-this-lt5.words ≡ drop (arity c.if-this-lt5.command) c.next_word.new.self)
unfolding command_named
read c =
    let name = c.in_ok-next_word.field-0.now in
    elim c.if-this-lt5.branch [
      | in-faces w ↦
          rw (text_from_reads name (codes "faces") (omega arith) (search rules)) (search rules)
      | in-insert+in_ok-coordinates-in-insert w ↦
          rw (text_from_reads name (codes "insert") (omega arith) (search rules)) (search rules)
      | in-remove+in_ok-index-in-remove w ↦
          rw (text_from_reads name (codes "remove") (omega arith) (search rules)) (search rules)
      | in-locate+in_ok-coordinates-in-locate w ↦
          rw (text_from_reads name (codes "locate") (omega arith) (search rules)) (search rules)
      | in-counts w ↦
          rw (text_from_reads name (codes "counts") (omega arith) (search rules)) (search rules)
      | in-release+in_ok-i-in-release w ↦
          rw (text_from_reads name (codes "release") (omega arith) (search rules)) (search rules)
      | in-nearest+in_ok-coordinates-in-nearest w ↦
          rw (text_from_reads name (codes "nearest") (omega arith) (search rules)) (search rules)
      | in-constrain+in_ok-i-in-constrain w ↦
          rw (text_from_reads name (codes "constrain") (omega arith) (search rules)) (search rules)
      | in-line+in_ok-coordinates-in-line+in_ok-coordinates-in-line-2 w ↦
          rw (text_from_reads name (codes "line") (omega arith) (search rules))
          (search (rules, drop_four))
    ]

whole : (c : goal.After-then_some) → c.then_some.result ≡ command_of (words_of c.args.line.now)
unfolding command_of
whole c = let both = read c in search rules

pub returns : goal.returns
returns c = record {
  sound = spelled _ _ (omega arith) (whole c);
  complete = unspelled _ _ (whole c);
}
