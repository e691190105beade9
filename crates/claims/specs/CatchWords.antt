-- Document 02, Req 05: catch-words don't matter. r and s stand for two records, m for the memory that both have and cs for a list of the
-- five calls, each with the same arguments in both runs, a read's buffer too. There is no premise on damage, on the memory's length, on N
-- or on Enable.
-- Definitions alone; the theorem is `catch_words_dont_matter` of `proofs/CatchWords.antt`.
use Rattle.std.specs.Prelude.{◌≡◌, List, ℕ}
use Rattle.record.specs.declared.Rank.{Rank}
use Rattle.visits.specs.Runs.{outs, end}
use Rattle.visits.specs.Visits.{device}
use Rattle.claims.specs.Lists.{Call, device_call}
use Rattle.claims.specs.Reports.{device_reports, flagged_mask}

-- a record with its copies equal: the registers are its catch-words
abbrev pub CopiesEqual : Rank → Type 0
CopiesEqual r = r.registers ≡ r.catch_words

-- two records, equal but for their catch-words and each with its copies equal
pub record EqualButCatchWords (r s : Rank) : Type 0 where
  pub lines : r.lines ≡ s.lines
  pub enable : r.enable ≡ s.enable
  pub repairs : r.repairs ≡ s.repairs
  pub one_copies : CopiesEqual r
  pub other_copies : CopiesEqual s

-- what is the same in both runs. Passes and collision masks may differ, and so may the catch-words after the list.
pub record SameInBoth (r s : Rank) (m : List ℕ) (cs : List Call) : Type 0 where
  -- each call's refusal number, or that it has none; the 64 bytes of each answered read; each accepted patrol's visited and refused counts
  pub answers : outs device_call (device r m) cs ≡ outs device_call (device s m) cs
  -- each read's flagged mask, and each patrol's counts: visited, refused and rewritten
  pub reports : outs (device_reports flagged_mask) (device r m) cs ≡ outs (device_reports flagged_mask) (device s m) cs
  -- the memory after the list
  pub memory : (end device_call (device r m) cs).memory ≡ (end device_call (device s m) cs).memory
  -- N, Enable and the repair totals after it; and the copies of each record are still equal
  pub ranks : EqualButCatchWords (end device_call (device r m) cs).rank (end device_call (device s m) cs).rank

-- the claim
abbrev pub CatchWordsDontMatter : Type 0
CatchWordsDontMatter = (r s : Rank) (m : List ℕ) (cs : List Call) → EqualButCatchWords r s → SameInBoth r s m cs
