-- How many fuses no setting has: document 01, "Settings and where they lie", "Every other fuse is unnamed: 624n - 48 of
-- them in the small class, 624n - 54 in the large". Law `unnamed_count`.
use Rattle.std.specs.Prelude.{◌≡◌, true, cond, ℕ, zero, suc, ◌+◌, ◌*◌, ◌-◌}
use Rattle.std.proofs.Math.Option.{Option}
use Rattle.std.proofs.Math.Option.Option.{none, some}
use Rattle.part.specs.Device.{known, blocks_of, is_large, fuse_count}
use Rattle.part.specs.declared.Device.{Device}
use Rattle.settings.specs.declared.Setting.{Setting}
use Rattle.fuse_settings.specs.Back.{setting_at}

-- 1 for a fuse that has no setting.
abbrev pub one_if_none : Option (Setting × ℕ) → ℕ
one_if_none none = 1
one_if_none (some x) = 0

-- The unnamed fuses among the first so many.
unfoldable pub unnamed_below : Device → ℕ → ℕ
unnamed_below d zero = 0
unnamed_below d (suc fuse) = unnamed_below d fuse + one_if_none (setting_at d fuse)

abbrev pub UnnamedCount : Type 0
UnnamedCount =
    (d : Device) → known d ≡ true → unnamed_below d (fuse_count d) ≡ 624 * blocks_of d - cond (is_large d) 54 48
