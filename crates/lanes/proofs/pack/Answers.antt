-- `lanes::pack` meets its contract: each `|` adds a number above those below it. Assumes nothing.
use mathlib.Core.Path.{◌≡◌, refl, ◌∙◌}
use Prim.Native.Nat.{ℕ, ◌+◌, ◌*◌, ◌%◌, ◌^◌, ◌≤◌, ◌<◌}
use native.Mathlib.Omega.{arith}
use lib.Bits.{bit_or, or_shifted_r}
use lib.Dec.{lit≤}
use lib.Pow.{shl_exact}
use Rattle.lanes.specs.Lanes.{lanes}
use Rattle.lanes.proofs.pack.Goals as goal

-- a number shifted past one that is below the shift
above : (a k x s : ℕ) → a < 2 ^ 16 → 16 + k ≤ 64 → x ≡ s → s < 2 ^ k → bit_or x (a * 2 ^ k % 2 ^ 64) ≡ a * 2 ^ k + s
above a k x s ha hk e hs = rw (shl_exact 16 k 64 ha hk, e) (or_shifted_r a k s hs)

pub returns : goal.returns
unfolding lanes
returns c =
    let x = c.args in
    above x.d 48 _ _ c.requires.3 (lit≤ tt)
    (above x.c 32 _ _ c.requires.2 (lit≤ tt)
    (above x.b 16 _ _ c.requires.1 (lit≤ tt) refl c.requires.0)
    (omega arith))
    (omega arith)
    ∙ omega arith
