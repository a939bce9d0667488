-- What the operations are proved by, besides their definitions.
-- Assumes nothing.
use Rattle.part.proofs.Refused.{refused_with, written_with}
use Rattle.setting_bits.proofs.Steps.{bytes_between}

pub ruleset all = (refused_with, written_with, bytes_between)
