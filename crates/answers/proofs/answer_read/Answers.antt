use Rattle.std.proofs.Common.{arith, replicate}
use Rattle.words.specs.Bytes.{bytes_from}
use Rattle.rank.specs.Calls.{read_of}
use Rattle.answers.specs.Answers.{first_word}
use Rattle.answers.specs.AnswerLaws.{refused_replies, answered_replies}
use Rattle.answers.specs.SmallLaws.{read_small}
use Rattle.answers.proofs.answer_read.Goals as goal
use Rattle.answers.proofs.answer_read.Goals.{then-read-eq0, else-read-eq0}

pub spell_read-requires-clause-small : goal.spell_read-requires-clause-small
spell_read-requires-clause-small c =
    let s = read_small _ _ _ _ _ c.rank_read-read.ensures.result in
    (omega (arith, s.passes), omega (arith, s.flagged), omega (arith, s.collisions))

pub spell_call-requires : goal.spell_call-requires
spell_call-requires c = (c.requires, omega (arith, (read_small _ _ _ _ _ c.rank_read-read.ensures.result).refusal))

pub returns-clause-reply : goal.returns-clause-reply
unfolding first_word bytes_from
returns-clause-reply c =
    let x = c.args in
    let read = c.rank_read-read.ensures in
    let leaves = read_of x.rank x.memory.now 0 x.line (replicate 64 0) in
    elim c.if-read-eq0.branch [
      | then-read-eq0 w ↦ rw w.out-is (answered_replies leaves read.result read.memory read.buffer w.load_word-word.ensures w.if-read-eq0.true w.spell_read.ensures.laid)
      | else-read-eq0 w ↦ rw w.out-is (refused_replies leaves read.result read.memory w.if-read-eq0.false w.spell_call.ensures.laid)
    ]
