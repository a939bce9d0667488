-- The operations on the bits of settings, with their refusals: 1 for an unknown device, 4 for a setting that the device
-- does not have.
use Rattle.std.specs.Prelude.{ℕ, cond, ltb}
use Rattle.std.proofs.Math.Option.{Option}
use Rattle.std.proofs.Math.Option.Option.{none, some}
use Rattle.part.specs.Outcome.{Outcome}
use Rattle.part.specs.Outcome.Outcome.{accepted, refused}
use Rattle.part.specs.declared.Device.{Device}
use Rattle.settings.specs.Operations.{if_setting, setting_of_number, through}
use Rattle.settings.specs.declared.Setting.{Setting}
use Rattle.setting_places.specs.Places.{LocatedFuse, bits_of, fuse_of, address_of}

unfoldable pub bits_of_setting : Device → Setting → Outcome ℕ
bits_of_setting d s = if_setting d s (accepted (bits_of s))

-- The fuse of a bit of a setting. A bit at or over the setting's width has none.
unfoldable pub fuse_of_bit : Device → Setting → ℕ → Outcome (Option ℕ)
fuse_of_bit d s bit = if_setting d s (accepted (cond (ltb bit (bits_of s)) (some (fuse_of d s bit)) none))

-- The same, with the address and the bit of the fuse beside it (document 02, K6).
unfoldable pub located_bit : Device → Setting → ℕ → Outcome (Option LocatedFuse)
located_bit d s bit =
    if_setting d s (accepted (cond (ltb bit (bits_of s)) (some (fuse_of d s bit, address_of s bit)) none))

-- And by setting number.
unfoldable pub located_by_number : Device → ℕ → ℕ → Outcome (Option LocatedFuse)
located_by_number d number bit = through (setting_of_number d number) (λ s. located_bit d s bit)

-- Such an answer without address and bit.
abbrev pub fuse_alone : Outcome (Option LocatedFuse) → Outcome (Option ℕ)
fuse_alone (accepted none) = accepted none
fuse_alone (accepted (some (fuse, at))) = accepted (some fuse)
fuse_alone (refused number value) = refused number value
