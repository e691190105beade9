use Rattle.std.proofs.Common.{inl}
use Rattle.bench.proofs.StopLaws.{on_err, fed_none, fed_front}
use Rattle.bench.proofs.turn.Goals as goal

pub returns-in_err-n-clause-stops : goal.returns-in_err-n-clause-stops
returns-in_err-n-clause-stops g c = on_err c.from_residual.result (inl (fed_none c.args.progress c.read.new.buf c.args.memory.now))

pub returns-in_err-next-clause-stops : goal.returns-in_err-next-clause-stops
returns-in_err-next-clause-stops g c =
    on_err c.from_residual-in_err-next.result
    (inl (fed_front c.args.progress c.in_ok-n.n c.read.new.buf c.args.memory.now c.answer_part.new.memory c.in_err-next.ensures.stops))
