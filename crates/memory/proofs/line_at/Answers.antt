-- `memory::line_at` meets its contract. Assumes nothing.
use Prim.Native.Nat.{ℕ}
use native.Mathlib.Nat.{add-sub_cancel_left}
use mathlib.Core.Path.{refl, ap}
use lib.ListN.{take, drop}
use Rattle.memory.proofs.Parts.{lent}
use Rattle.memory.proofs.line_at.Goals as goal

pub returns : goal.returns
returns c =
    let m = c.args.memory.now in
    let start = c.start_of-start.result in
    let whole = (rw c.unwrap.ensures at c.try_into.ensures.1) in
    lent m c.args.line c.start_of-start.ensures refl (ap (λ (n : ℕ). take n (drop start m)) (add-sub_cancel_left start 81)) whole
