-- The numbers of specs/Cases.antt, computed.
-- Assumes nothing.
use mathlib.Core.Path.{refl}
use Rattle.part.specs.Device.{known}
use Rattle.part.specs.Cases.{two_small}
use Rattle.settings.specs.Settings.{has_setting}
use Rattle.settings.specs.Order.{count_of, number_of, setting_of}
use Rattle.settings.specs.Operations.{count_of_settings, setting_of_number, number_of_setting}
use Rattle.settings.specs.Cases.{two_large, AllHold, small, large, Counts}

pub numbers : AllHold two_small small
unfolding count_of_settings setting_of_number number_of_setting known has_setting count_of number_of setting_of
numbers = (refl, refl)

pub numbers_of_large : AllHold two_large large
unfolding count_of_settings setting_of_number number_of_setting known has_setting count_of number_of setting_of
numbers_of_large = (refl, refl)

pub counts : Counts
unfolding count_of_settings setting_of_number number_of_setting known has_setting count_of number_of setting_of
counts = (refl, refl)
