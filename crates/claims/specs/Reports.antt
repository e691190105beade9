-- What a call reports beside its refusal: of a read passes and masks, of a patrol its counts. It serves what is claimed of two runs of the
-- device. shown is what is taken of a read's passes, flagged mask and collision mask.
-- Definitions alone.
use Rattle.std.specs.Prelude.{ℕ, List, [], ◌∷◌}
use Rattle.visits.specs.declared.ReadResult.{ReadResult}
use Rattle.visits.specs.Runs.{Did}
use Rattle.visits.specs.Visits.{Device}
use Rattle.rank.specs.declared.PatrolResult.{PatrolResult}
use Rattle.rank.specs.Calls.{read_of, patrol_of}
use Rattle.claims.specs.Lists.{Call, write, read, patrol, renew, fault, device_call}

module _ (shown : ℕ → ℕ → ℕ → List ℕ) where
  -- of a read what shown takes, and a patrol's counts, refused or not
  unfoldable pub reported_by : Device → Call → List ℕ
  reported_by d (write l b) = []
  reported_by d (read task l b) =
      let q : ReadResult = (read_of d.rank d.memory task l b).result in
      shown q.passes q.flagged q.collisions
  reported_by d (patrol task first budget) =
      let q : PatrolResult = (patrol_of d.rank d.memory task first budget).result in
      q.visited ∷ q.refused ∷ q.rewritten ∷ []
  reported_by d (renew k w) = []
  reported_by d (fault l k q) = []

  unfoldable pub device_reports : Device → Call → Did Device (List ℕ)
  device_reports d c = record { out = reported_by d c; now = (device_call d c).now }

-- all of a read's passes and masks
abbrev pub passes_and_masks : ℕ → ℕ → ℕ → List ℕ
passes_and_masks passes flagged collisions = passes ∷ flagged ∷ collisions ∷ []

-- of them the flagged mask
abbrev pub flagged_mask : ℕ → ℕ → ℕ → List ℕ
flagged_mask passes flagged collisions = flagged ∷ []
