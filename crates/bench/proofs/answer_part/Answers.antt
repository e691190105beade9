use Rattle.std.proofs.Common.{sym, ap, ◌∙◌, refl, List, ℕ, [], ◌++◌, append_assoc}
use Rattle.script.specs.SessionLaws.{follows_none, follows_then}
use Rattle.bench.proofs.StopLaws.{on_err, fed_followed}
use Rattle.bench.proofs.answer_part.Goals as goal

pub loop-rest-init : goal.loop-rest-init
loop-rest-init g c =
    record { taken = []; parts = refl; text = []; followed = follows_none c.args.start c.args.memory.now }

pub loop-rest-preserved : goal.loop-rest-preserved
loop-rest-preserved g c =
    let i = c.loop-rest.invariant in
    let a = c.take_up-rest.ensures.advance in
    record {
      taken = i.taken ++ a.taken;
      parts = i.parts ∙ ap (λ (x : List ℕ). i.taken ++ x) a.parts ∙ sym (append_assoc i.taken a.taken _);
      text = i.text ++ a.text;
      followed = follows_then i.followed a.follows;
    }

pub returns-in_err-write_all-clause-stops : goal.returns-in_err-write_all-clause-stops
returns-in_err-write_all-clause-stops g c =
    let i = c.loop-rest.invariant in
    let a = c.take_up-rest.ensures.advance in
    on_err c.from_residual.result
    (fed_followed _ (i.parts ∙ ap (λ (x : List ℕ). i.taken ++ x) a.parts ∙ sym (append_assoc i.taken a.taken _)) (follows_then i.followed a.follows))
