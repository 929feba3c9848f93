use Rattle.std.proofs.Common.{ℕ, List, subst}
use Rattle.{c_calls.specs.Answered, tevasulim_c.specs.IsNamedOf}
use Rattle.tevasulim_c.proofs.Drawings.{listed_named, listed_within, unlisted_named}
use Rattle.tevasulim_c.proofs.whole.write_drawn.Goals as goal

pub returns-then-status-ne-WELL : goal.returns-then-status-ne-WELL
returns-then-status-ne-WELL c =
    let faces = c.write_faces-status in
    unlisted_named c.args.drawn.now faces.result faces.new.length c.args.faces.now faces.new.faces
    faces.ensures c.if-status-ne-WELL.true

pub name_corners_of-requires : goal.name_corners_of-requires
name_corners_of-requires c =
    let faces = c.write_faces-status in
    listed_within c.args.drawn.now faces.result faces.new.length c.args.faces.now faces.new.faces
    faces.ensures c.if-status-ne-WELL.false

pub returns : goal.returns
returns c =
    let faces = c.write_faces-status in
    listed_named c.args.drawn.now faces.result faces.new.length c.args.faces.now faces.new.faces
    faces.ensures c.if-status-ne-WELL.false c.name_corners_of.new.faces
    (subst (λ (names : List ℕ). Answered (IsNamedOf names faces.new.faces) faces.new.length
    faces.new.faces c.name_corners_of.new.faces) c.as_slice.ensures.value c.name_corners_of.ensures)
