-- `steps::visit` meets its contract. Assumes nothing.
use mathlib.Core.Path.{ap, ◌∙◌}
use native.Mathlib.Omega.{arith}
use Rattle.memory.specs.Lines.{line_at, with_line}
use Rattle.rows.specs.Rows.{evidence_of, report_in, word_in, bytes_in}
use Rattle.rows.proofs.RowLaws.{others_few}
use Rattle.steps.proofs.Deciding.{flagged_fits, checks_masked, few_passes, report_is, bytes_are}
use Rattle.steps.proofs.visit.Goals as goal

pub write_answered-requires : goal.write_answered-requires
write_answered-requires c =
    let a = c.args in
    let m = a.memory.now in
    let cws = a.catch_words.now in
    let x = c.examine-examined.ensures in
    let d = c.decide-decision.ensures in
    let e = evidence_of a.lines m a.line cws in
    record {
      size = omega (arith, c.requires.0, c.requires.1);
      flagged = flagged_fits e (line_at m a.line) cws x.examined;
      checks = checks_masked e (line_at m a.line) cws x.examined c.decide-decision.new.places.words c.decide-decision.new.places.checks d.checks;
    }

pub overflow_add-result : goal.overflow_add-result
unfolding evidence_of
overflow_add-result c =
    let a = c.args in
    let m = a.memory.now in
    let cws = a.catch_words.now in
    let x = c.examine-examined.ensures in
    let d = c.decide-decision.ensures in
    record {
      fits = omega (arith, few_passes (evidence_of a.lines m a.line cws) (line_at m a.line) cws x.examined d.passes (others_few a.lines a.line c.requires.1));
    }

pub returns : goal.returns
unfolding report_in bytes_in word_in
returns c =
    let a = c.args in
    let m = a.memory.now in
    let cws = a.catch_words.now in
    let x = c.examine-examined.ensures in
    let d = c.decide-decision.ensures in
    let e = evidence_of a.lines m a.line cws in record {
      report = report_is e (line_at m a.line) cws x.examined d.outcome d.passes;
      memory = c.write_answered.ensures
          ∙ ap (with_line m a.line) (bytes_are e (line_at m a.line) cws x.examined c.decide-decision.new.places.words d.outcome d.words);
    }
