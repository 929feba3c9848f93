use Rattle.std.proofs.Common.{rules}
use Rattle.triangulate_run.proofs.sheet.letter_named.Goals as goal

pub returns-in-G : goal.returns-in-G
returns-in-G c = search rules

pub returns-in-B : goal.returns-in-B
returns-in-B c = search rules

pub returns-in-R : goal.returns-in-R
returns-in-R c = search rules

pub returns-in-L : goal.returns-in-L
returns-in-L c = search rules

pub returns-in-X : goal.returns-in-X
returns-in-X c = search rules
