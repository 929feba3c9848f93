use Rattle.std.proofs.Common.{ap, sym, ◌∙◌, arith}
use Rattle.half_edge_links.specs.{origin, rev}
use Rattle.half_edge_links.proofs.{Growing.FaceBeside.differs_alone, Growing.Grown.adds_face_beside}
use Rattle.half_edge_links.proofs.Sound.Parts.{rev_of_even}
use Rattle.half_edge_links.proofs.links.Links.add_face_beside.Goals as goal

pub close-requires-clause-closable : goal.close-requires-clause-closable
close-requires-clause-closable g c =
    let s = c.hang.ensures.sound in
    let i = c.hang.ensures.hangs.links in
    let within = c.requires.outer.0 in
    let count = i.edge_count in
    record {
      within = omega (arith, count, within);
      outer = i.faces c.args.e within ∙ c.requires.outer.1;
      apart = λ q. differs_alone c.args.self.now.mesh c.args.e c.args.v s within c.requires.alone
          (sym (i.origins c.args.e within) ∙ sym q
          ∙ ap (λ k. origin c.hang.new.self.mesh (rev k)) i.next_at
          ∙ ap (origin c.hang.new.self.mesh) (rev_of_even _ s.even) ∙ i.back.origin);
    }

pub returns-clause-adds : goal.returns-clause-adds
returns-clause-adds g c = adds_face_beside _ _ c.close.new.self.mesh _ _ c.hang.ensures.sound
    c.requires.outer c.requires.alone c.hang.ensures.hangs c.close.ensures.closes
