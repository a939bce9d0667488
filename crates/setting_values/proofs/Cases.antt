-- The values of specs/Cases.antt, computed.
-- Assumes nothing.
use mathlib.Core.Path.{refl}
use Rattle.part.specs.Device.{known}
use Rattle.settings.specs.Settings.{has_setting}
use Rattle.setting_places.specs.Places.{bits_of}
use Rattle.values.specs.Values.{named, fclk_muxes, small_foe_muxes, large_foe_muxes}
use Rattle.patterns.specs.Patterns.{same, candidate, pattern_in}
use Rattle.setting_values.specs.Kinds.{kind_of}
use Rattle.setting_values.specs.Operations.{value_of_pattern, pattern_of_value}
use Rattle.part.specs.Cases.{two_small}
use Rattle.settings.specs.Cases.{two_large}
use Rattle.setting_values.specs.Cases.{AllHold, small, large, Usercodes}

pub values : AllHold two_small small
unfolding value_of_pattern pattern_of_value known has_setting bits_of kind_of named fclk_muxes small_foe_muxes large_foe_muxes same
    candidate pattern_in
values = (refl, refl)

pub values_of_large : AllHold two_large large
unfolding value_of_pattern pattern_of_value known has_setting bits_of kind_of named fclk_muxes small_foe_muxes large_foe_muxes same
    candidate pattern_in
values_of_large = (refl, refl)

pub usercodes : Usercodes
unfolding value_of_pattern pattern_of_value known has_setting bits_of kind_of named fclk_muxes small_foe_muxes large_foe_muxes same
    candidate pattern_in
usercodes = (refl, refl, refl)
