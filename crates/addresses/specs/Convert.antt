-- The two conversions between fuse numbers and addresses, with their refusals: 1 for an unknown device; 3 for a fuse at
-- or over the count, an address that no byte has, a bit at or over its width.
use Rattle.std.specs.Prelude.{ℕ, cond, ◌&&◌, ltb}
use Rattle.part.specs.Outcome.{Outcome}
use Rattle.part.specs.Outcome.Outcome.{accepted, refused}
use Rattle.part.specs.Device.{fuse_count}
use Rattle.part.specs.Sizes.{if_known}
use Rattle.part.specs.Place.{width_of, fuse_of_place, place_of_fuse}
use Rattle.part.specs.declared.Device.{Device}
use Rattle.addresses.specs.Address.{address_of_place, byte_of_address, valid}

-- The address and the bit of a fuse.
unfoldable pub address_of_fuse : Device → ℕ → Outcome (ℕ × ℕ)
address_of_fuse d fuse =
    if_known d
    (cond (ltb fuse (fuse_count d))
    (accepted (address_of_place (place_of_fuse d fuse)))
    (refused 3 0))

-- The fuse of an address and a bit.
unfoldable pub fuse_of_address : Device → ℕ → ℕ → Outcome ℕ
fuse_of_address d address bit =
    if_known d
    (cond (valid d address && ltb bit (width_of (byte_of_address address)))
    (accepted (fuse_of_place d (record { byte = byte_of_address address; bit = bit })))
    (refused 3 0))
