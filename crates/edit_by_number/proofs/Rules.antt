-- What the operations are proved by, besides their definitions.
-- Assumes nothing.
use Rattle.part.proofs.Refused.{refused_with, written_with}
use Rattle.setting_bits.proofs.Steps.{bytes_between, bits_few}

pub ruleset all = (refused_with, written_with, bytes_between, bits_few)
