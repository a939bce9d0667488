-- The cases of specs/Cases.antt.
-- Assumes nothing.
use mathlib.Core.Path.{refl}
use Rattle.part.specs.Device.{known, fuse_count, image_bytes, readout_bytes}
use Rattle.part.specs.Place.{place_of_fuse}
use Rattle.addresses.specs.Address.{byte_of_index}
use Rattle.image.specs.Bits.{bit_at, put_bit, with_bit, gathered}
use Rattle.image.specs.Image.{state}
use Rattle.readout.specs.Readout.{above_at}
use Rattle.settings.specs.Settings.{has_setting}
use Rattle.setting_places.specs.Places.{bits_of, place_of, fuse_of}
use Rattle.values.specs.Values.{named}
use Rattle.patterns.specs.Patterns.{same, candidate, pattern_in}
use Rattle.setting_values.specs.Kinds.{kind_of}
use Rattle.setting_bits.specs.SettingBits.{pattern_at, with_bits, with_pattern, above_among}
use Rattle.edit.specs.Edit.{above_in, read_in, set_in, with_value}
use Rattle.demand.specs.Cases.{OeMuxCase, Order}

pub oe_mux_case : OeMuxCase
unfolding read_in set_in with_value above_in above_at above_among pattern_at with_bits with_pattern known image_bytes readout_bytes
    fuse_count
    place_of_fuse byte_of_index has_setting bits_of place_of fuse_of kind_of named same candidate pattern_in state bit_at with_bit put_bit
    gathered
oe_mux_case = (refl, refl, refl, refl, refl)

pub order : Order
unfolding read_in set_in with_value above_in above_at above_among pattern_at with_bits with_pattern known image_bytes readout_bytes
    fuse_count
    place_of_fuse byte_of_index has_setting bits_of place_of fuse_of kind_of named same candidate pattern_in state bit_at with_bit put_bit
    gathered
order = (refl, refl, refl, refl, refl, refl)
