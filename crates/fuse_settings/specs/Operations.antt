-- The operation on a fuse, with its refusals: 1 for an unknown device, 3 for a fuse at or over the count.
-- Assumes nothing.
use Rattle.std.specs.Prelude.{ℕ, cond, ltb}
use Rattle.std.proofs.Math.Option.{Option}
use Rattle.part.specs.Outcome.{Outcome}
use Rattle.part.specs.Outcome.Outcome.{accepted, refused}
use Rattle.part.specs.Device.{fuse_count}
use Rattle.part.specs.Sizes.{if_known}
use Rattle.part.specs.declared.Device.{Device}
use Rattle.settings.specs.declared.Setting.{Setting}
use Rattle.fuse_settings.specs.Back.{setting_at}

unfoldable pub setting_at_fuse : Device → ℕ → Outcome (Option (Setting × ℕ))
setting_at_fuse d fuse = if_known d (cond (ltb fuse (fuse_count d)) (accepted (setting_at d fuse)) (refused 3 0))
