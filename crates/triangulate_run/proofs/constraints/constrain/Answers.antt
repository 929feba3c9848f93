use Rattle.std.proofs.Common.{ℕ, ◌<◌, refl, sym, inl, inr, subst, arith}
use Rattle.std.specs.Prelude.{All}
use Rattle.delaunay_core.specs.{OutOfMemory}
use Rattle.triangulate_run.specs.{ends_in, Refused, reply_text}
use Rattle.triangulate_run.specs.{declared.reply.Reply.TheVariants.NoPath, Reply.path_text}
use Rattle.triangulate_run.proofs.Paths.{edges_within, joins_none, joins_refused, joins_some}
use Rattle.triangulate_run.proofs.Paths.{no_edges, some_edges}
use Rattle.triangulate_run.proofs.constraints.constrain.Goals as goal

pub returns-then-is_empty-clause-answered : goal.returns-then-is_empty-clause-answered
returns-then-is_empty-clause-answered g c =
    let edges = c.in-Ok.edges in
    let none = no_edges edges.items edges.len _ (omega (arith, edges.ok)) c.is_empty.ensures
    c.if-is_empty.true in
    let joins = joins_none _ _ _ _ _ c.in-Ok.ensures.path none c.requires.from_in
    c.requires.to_in in
    (reply_text NoPath, inr (NoPath, joins, refl), c.put_reply.ensures)

pub returns-in-Err-clause-answered : goal.returns-in-Err-clause-answered
returns-in-Err-clause-answered g c =
    let refused = Refused OutOfMemory in
    let joins = joins_refused _ _ _ _ _ _ c.in-Err.is c.try_add_constraint.ensures.none
    c.requires.from_in c.requires.to_in c.in-Err.ensures.err in
    (reply_text refused, inr (refused, joins, refl), c.put_reply-in-Err.ensures)

pub put_path-requires-clause-within : goal.put_path-requires-clause-within
put_path-requires-clause-within g c =
    let edges = c.in-Ok.edges in
    let some = some_edges edges.items edges.len _ (omega (arith, edges.ok)) c.is_empty.ensures
    c.if-is_empty.false in
    let within = edges_within _ _ _ _ _ c.in-Ok.ensures.path some in
    rw c.as_slice.ensures.value
    (subst (λ (n : ℕ). All (λ h. h < n) edges.items)
    (sym c.recall_invariant.ensures.kept.fits.directed_fit) within)

pub returns-else-is_empty-clause-answered : goal.returns-else-is_empty-clause-answered
returns-else-is_empty-clause-answered g c =
    let edges = c.in-Ok.edges in
    let some = some_edges edges.items edges.len _ (omega (arith, edges.ok)) c.is_empty.ensures
    c.if-is_empty.false in
    let path = ends_in c.try_add_constraint.new.self.mesh edges.items in
    let joins = joins_some _ _ _ _ _ c.in-Ok.ensures.path some in
    (path_text path, inl (path, joins, refl), rw c.as_slice.ensures.value at c.put_path.ensures)
