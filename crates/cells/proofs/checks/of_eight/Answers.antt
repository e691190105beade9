-- `cells::checks::of_eight` meets its contract. Assumes nothing.
use mathlib.Core.Path.{◌≡◌, ◌∙◌}
use mathlib.Core.List.{List, reverse}
use Prim.Native.Nat.{ℕ, ◌+◌, ◌*◌, ◌≤◌}
use native.Mathlib.Omega.{arith}
use borrow.Author.Rules.{rules}
use lib.ListN.{length}
use Rattle.code.specs.Code.{check_of}
use Rattle.lanes.specs.Lanes.{lanes, swapped}
use Rattle.words.specs.Bytes.{number_of, bytes_from}
use Rattle.cells.specs.Checks.{every_other, word_every}
use Rattle.cells.specs.CheckLaws.{swapped_load}
use Rattle.cells.proofs.checks.of_eight.Goals as goal

pub returns : goal.returns
unfolding every_other word_every
returns c =
    let m : List ℕ = c.args.bytes.now in
    let s : ℕ = c.args.step in
    let load : (j at r : ℕ) → at ≡ s * j → at + 8 ≤ length m → r ≡ number_of (reverse (bytes_from 8 at m)) → swapped r ≡ number_of (bytes_from 8 (s * j) m) =
    λ j at r e h l. swapped_load m (search rules) at r h l ∙ λ i. number_of (bytes_from 8 (e i) m) in
    let w0 = load 0 0 _ (omega arith) (omega (arith, c.requires)) c.load_little.ensures in
    let w1 = load 1 s _ (omega arith) (omega (arith, c.requires)) c.load_little-2.ensures in
    let w2 = load 2 (2 * s) _ (omega arith) (omega (arith, c.requires)) c.load_little-3.ensures in
    let w3 = load 3 (3 * s) _ (omega arith) (omega (arith, c.requires)) c.load_little-4.ensures in
    let w4 = load 4 (4 * s) _ (omega arith) (omega (arith, c.requires)) c.load_little-5.ensures in
    let w5 = load 5 (5 * s) _ (omega arith) (omega (arith, c.requires)) c.load_little-6.ensures in
    let w6 = load 6 (6 * s) _ (omega arith) (omega (arith, c.requires)) c.load_little-7.ensures in
    let w7 = load 7 (7 * s) _ (omega arith) (omega (arith, c.requires)) c.load_little-8.ensures in record { even = c.check_bytes.ensures.even ∙ λ i. lanes (check_of (w0 i)) (check_of (w2 i)) (check_of (w4 i)) (check_of (w6 i)); odd = c.check_bytes.ensures.odd ∙ λ i. lanes (check_of (w1 i)) (check_of (w3 i)) (check_of (w5 i)) (check_of (w7 i)) }
