-- `code::mend` meets its contract: a codeword stays, and any other nine bytes have the bit of their position inverted and its status.
-- Assumes nothing.
use mathlib.Core.Path.{sym, ap, ◌∙◌}
use Prim.Native.Nat.{ℕ, ◌/◌, ◌%◌}
use lib.Bits.{bit_xor}
use borrow.Author.Tests.{ne_eqb}
use Rattle.code.specs.Code.{is_codeword, position_of, bit_at, status_at}
use Rattle.code.proofs.CodeLaws.{cell_word, cell_check, syndrome_codeword}
use Rattle.code.proofs.MendLaws.{mended_codeword, mended_word_codeword, mended_word_of, mended_check_of}
use Rattle.code.proofs.StatusLaws.{status_codeword, status_other}
use Rattle.code.proofs.mend.Goals as goal

pub returns-then-syndrome-eq0 : goal.returns-then-syndrome-eq0
returns-then-syndrome-eq0 c =
    let zero = sym c.requires ∙ c.if-syndrome-eq0.true in record { word = sym (mended_word_codeword _ zero ∙ cell_word c.args.word c.args.check c.ranges.check.fits); check = sym (ap (λ (e : ℕ). e % 256) (mended_codeword _ zero) ∙ cell_check c.args.word c.args.check c.ranges.check.fits); status = sym (status_codeword _ (syndrome_codeword _ zero)) }

pub returns : goal.returns
unfolding is_codeword
returns c =
    let has = c.requires in
    let place = c.position-place.ensures ∙ ap position_of has in record {
      word = ap (bit_xor c.args.word) (c.word_bit.ensures ∙ ap (λ (p : ℕ). bit_at p / 256) place)
          ∙ sym (mended_word_of c.args.word c.args.check c.ranges.check.fits);
      check = ap (bit_xor c.args.check) (c.check_bit.ensures ∙ ap (λ (p : ℕ). bit_at p % 256) place)
          ∙ sym (mended_check_of c.args.word c.args.check c.ranges.check.fits);
      status = c.status_at-status.ensures
          ∙ ap status_at place
          ∙ sym (status_other _ (ne_eqb _ 0 (λ z. c.if-syndrome-eq0.false (has ∙ z))));
    }
