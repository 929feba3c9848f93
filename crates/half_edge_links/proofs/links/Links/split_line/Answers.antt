use Rattle.std.proofs.Common.{ℕ, ◌+◌, [], ◌∷◌, ap, rules}
use Rattle.half_edge_links.proofs.Growing.SplitLine.{line_outer, splits_line, splits_outer}
use Rattle.half_edge_links.proofs.Sound.EndsKept.{ends_line}
use Rattle.half_edge_links.proofs.links.Links.split_line.Goals as goal

pub hang-requires-clause-outer : goal.hang-requires-clause-outer
hang-requires-clause-outer g c = line_outer _ _ c.half_edge_count-n.ensures.sound c.requires.line

pub returns : goal.returns
returns g c =
    let s = c.hang.ensures.sound in
    let line = c.requires.line in
    let hung = c.hang.ensures.hangs in
    let links = splits_line _ _ _ _ _ s line c.requires.alone hung.links c.slide.ensures.links in
    record {
      parts = ap (λ (n : ℕ). c.args.e ∷ (n + 1) ∷ []) c.half_edge_count-n.ensures.value;
      mesh = search rules;
      rest = record { values = search rules; room = search rules };
      sound = s;
      splits = record {
        valid = c.slide.ensures.valid;
        links = links;
        ends = ends_line _ _ c.slide.new.self.mesh _ _ s line hung.links hung.ends
            c.slide.ensures.ends;
        outer = splits_outer _ _ _ _ _ s line c.requires.alone hung.links links;
        outline = λ one. c.slide.ensures.outline (hung.outline one);
      };
    }
