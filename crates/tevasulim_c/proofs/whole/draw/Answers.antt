use Rattle.std.proofs.Common.{List, length, Bool, refl, subst, arith}
use Rattle.std.specs.Prelude.{IsTrue}
use Rattle.tevasulim_c.specs.{EndsAtPoints, FirstAre}
use Rattle.tevasulim_c.specs.Whole.{IsFirstNot, segment_crossing, segment_of_none}
use Rattle.tevasulim_c.proofs.Drawings.{first_of_fewer, whole_is_drawn}
use Rattle.tevasulim_c.proofs.whole.draw.Goals as goal

pub drawn_mesh-requires-clause-ends : goal.drawn_mesh-requires-clause-ends
drawn_mesh-requires-clause-ends c =
    let known = c.known_segments-known in
    first_of_fewer (EndsAtPoints _) c.args.segments.now known.result known.ensures.within
    known.ensures.known

pub returns-in-Some : goal.returns-in-Some
returns-in-Some c =
    let known = c.known_segments-known in
    segment_crossing c.in-Ok.drawn known.result refl
    (record { ends = known.ensures.known; drawn = c.in-Ok.ensures.draws })
    (subst (λ (ts : List Bool). IsFirstNot IsTrue ts c.in-Some.index)
    c.as_slice.ensures.value c.in-Some.ensures) refl refl

pub returns-then-known-segments : goal.returns-then-known-segments
returns-then-known-segments c =
    let known = c.known_segments-known in
    segment_of_none c.in-Ok.drawn refl
    (record { ends = known.ensures.known; drawn = c.in-Ok.ensures.draws })
    (subst (λ (ts : List Bool). FirstAre IsTrue ts (length ts)) c.as_slice.ensures.value
    c.in_default-first_left_out.ensures) (known.ensures.next c.if-known-segments.true) refl refl

pub returns : goal.returns
returns c =
    let known = c.known_segments-known in
    let none_left = c.if-known-segments.false in
    let write = c.write_drawn in
    whole_is_drawn c.args.points.now c.args.segments.now known.result c.in-Ok.drawn write.result
    c.args.at.now c.args.length.now write.new.length c.args.faces.now write.new.faces
    known.ensures.within (omega (arith, none_left))
    (record { ends = known.ensures.known; drawn = c.in-Ok.ensures.draws })
    (subst (λ (ts : List Bool). FirstAre IsTrue ts (length ts)) c.as_slice.ensures.value
    c.in_default-first_left_out.ensures) write.ensures
