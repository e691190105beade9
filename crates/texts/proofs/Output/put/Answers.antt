use Rattle.std.proofs.Common.{refl, ◌∙◌}
use Rattle.texts.specs.TextLaws.{laid_part, over_all, prints_by}
use Rattle.texts.proofs.Output.put.Goals as goal

pub returns : goal.returns
returns c =
    let s = c.args.self.now in
    prints_by (laid_part c.requires (c.copy_from_slice.ensures.after ∙ over_all c.args.text.now s.buffer.now s.used)) refl
