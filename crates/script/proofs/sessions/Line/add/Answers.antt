use Rattle.script.specs.SessionLaws.{kept_view}
use Rattle.script.proofs.sessions.Line.add.Goals as goal

pub returns : goal.returns
returns c =
    let line = c.self.inside in
    rw (← c.self.view_is, c.copy_from_slice.ensures.after)
    (kept_view line.bytes c.args.bytes.now line.kept c.min-fitting.result _ c.self.told c.self.invariant.0 c.min-fitting.ensures)
