-- `words::number` meets its contract: each `|` adds a byte above what is below it. Assumes nothing.
use mathlib.Core.Path.{◌≡◌, refl, ◌∙◌}
use Prim.Native.Nat.{ℕ, ◌+◌, ◌*◌, ◌%◌, ◌^◌, ◌≤◌, ◌<◌}
use native.Mathlib.Omega.{arith}
use lib.Bits.{bit_or, or_shifted}
use lib.Dec.{lit≤}
use lib.Pow.{shl_exact}
use Rattle.words.specs.Bytes.{number_of}
use Rattle.words.proofs.number.Goals as goal

-- a byte shifted past a number that is below the shift
above : (a k x s : ℕ) → a < 2 ^ 8 → 8 + k ≤ 64 → x ≡ s → s < 2 ^ k → bit_or ((a * 2 ^ k) % 2 ^ 64) x ≡ a * 2 ^ k + s
above a k x s ha hk e hs = rw (shl_exact 8 k 64 ha hk, e) (or_shifted a k s hs)

pub returns : goal.returns
unfolding number_of
returns c =
    let x = c.args in
    above x.a 56 _ _ (omega arith) (lit≤ tt)
    (above x.b 48 _ _ (omega arith) (lit≤ tt)
    (above x.c 40 _ _ (omega arith) (lit≤ tt)
    (above x.d 32 _ _ (omega arith) (lit≤ tt)
    (above x.e 24 _ _ (omega arith) (lit≤ tt)
    (above x.f 16 _ _ (omega arith) (lit≤ tt)
    (above x.g 8 _ _ (omega arith) (lit≤ tt) refl (omega arith))
    (omega arith))
    (omega arith))
    (omega arith))
    (omega arith))
    (omega arith))
    (omega arith)
    ∙ omega arith
