-- `visits::read::visit_into` meets its contract. Assumes nothing.
use Rattle.std.proofs.Common.{◌+◌, ◌*◌, ◌≤◌, length, get_or, sym, ap, ◌∙◌, arith, rules, w8, Fits}
use Rattle.words.specs.Bytes.{Bytes}
use Rattle.visits.specs.Visits.{visited_of}
use Rattle.visits.specs.VisitLaws.{length_visited}
use Rattle.visits.specs.ReadLaws.{visited_buffer, clean_visited, clean_words, clean_kept, clean_buffer}
use Rattle.visits.proofs.read.visit_into.Goals as goal

pub returns-then-is_clean : goal.returns-then-is_clean
returns-then-is_clean c =
    let a = c.args in
    let clean = sym c.is_clean.ensures ∙ c.if-is_clean.true in
    let fits : 81 * a.line + 81 ≤ length a.memory.now = omega (arith, c.requires.0, c.requires.1) in
    let bytes : Bytes a.memory.now = λ i. let byte : Fits w8 (get_or a.memory.now i 0) = search rules in byte.fits in
    record {
      result = clean_visited a.lines a.memory.now a.catch_words.now a.line fits bytes clean;
      catch_words = clean_words a.lines a.memory.now a.catch_words.now a.line fits bytes clean c.told-catch_words;
      memory = clean_kept a.lines a.memory.now a.catch_words.now a.line fits bytes clean;
      buffer = c.copy.ensures ∙ clean_buffer a.lines a.memory.now a.catch_words.now a.line fits bytes clean a.buffer.now;
    }

pub copy_answered-requires : goal.copy_answered-requires
copy_answered-requires c =
    let kept = length_visited c.args.lines c.args.memory.now c.args.line c.args.catch_words.now c.visit-report.ensures.memory in
    omega (arith, kept, c.requires.0, c.requires.1)

pub returns : goal.returns
returns c =
    let a = c.args in
    let v = c.visit-report in
    let fits : 81 * a.line + 81 ≤ length a.memory.now = omega (arith, c.requires.0, c.requires.1) in
    let bytes : Bytes a.memory.now = λ i. let byte : Fits w8 (get_or a.memory.now i 0) = search rules in byte.fits in
    let bytes_after : Bytes v.new.memory = λ i. let byte : Fits w8 (get_or v.new.memory i 0) = search rules in byte.fits in
    record {
      result = c.into.ensures ∙ ap visited_of v.ensures.report;
      catch_words = v.ensures.catch_words;
      memory = v.ensures.memory;
      buffer = c.copy_answered.ensures
          ∙ visited_buffer a.lines a.memory.now a.catch_words.now a.line fits bytes a.buffer.now v.result v.ensures.report _ v.ensures.memory bytes_after;
    }
