-- What a clause reads of a `Watched`.
use Rattle.std.specs.Prelude.{ℕ, Bool}
use Rattle.triangulate_run.specs.declared.watched.Watched.{Watched}

-- `w.into_inner()`
abbrev pub inner_of : {T : Type 0} → Watched T → T
inner_of w = w.inner

-- `w.failed()`
abbrev pub has_failed : {T : Type 0} → Watched T → Bool
has_failed w = w.failed

-- how many calls of `read` may still answer `Ok`
abbrev pub reads_left_of : {T : Type 0} → Watched T → ℕ
reads_left_of w = w.reads_left
