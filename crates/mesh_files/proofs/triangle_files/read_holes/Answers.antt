use Rattle.std.proofs.Common.{◌∙◌, ap, ◌∷◌, [], refl, ℕ, List, sym}
use Rattle.mesh_files.specs.{rows_of, words_of}
use Rattle.mesh_files.proofs.TriangleRows.{holes_more}
use Rattle.mesh_files.proofs.triangle_files.read_holes.Goals as goal

pub returns-then-not-next_line-clause-drawn : goal.returns-then-not-next_line-clause-drawn
returns-then-not-next_line-clause-drawn c = record {
  before = [];
  holes = [];
  rest = rows_of c.args.source.now.rest.now;
  rows_are = refl;
  drawn = rw c.requires tt;
}

pub loop-preserved : goal.loop-preserved
loop-preserved c =
    let before = c.loop.invariant in
    holes_more before.0 c.count.new.self c.loop.source c.take_hole.new.source c.args.drawing.now
    c.loop.drawing c.take_hole.new.drawing before.1 before.2 before.3 c.in_ok-take_hole.ensures

pub returns-clause-drawn : goal.returns-clause-drawn
returns-clause-drawn c = record {
  before = words_of c.next_line.new.self.words.now ∷ [];
  holes = c.loop.invariant.0;
  rest = rows_of c.loop.source.rest.now;
  rows_are = c.if-not-next_line.ensures
      ∙ ap (λ (r : List (List (List ℕ))). words_of c.next_line.new.self.words.now ∷ r)
      (ap rows_of (sym c.in_ok-count.ensures.1.rest) ∙ c.loop.invariant.1);
  drawn = c.loop.invariant.2;
}
