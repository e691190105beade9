-- `code::status_at` meets its contract: the position is one of the 72, or not. Assumes nothing.
use mathlib.Core.Path.{sym}
use native.Mathlib.Omega.{arith}
use Rattle.code.proofs.StatusLaws.{status_position, status_none}
use Rattle.code.proofs.status_at.Goals as goal

pub returns-in-0-to-71 : goal.returns-in-0-to-71
returns-in-0-to-71 c = sym (status_position c.args.position (omega arith))

pub returns-in_default : goal.returns-in_default
returns-in_default c = sym (status_none c.args.position (omega arith))
