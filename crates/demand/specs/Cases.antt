-- Document 01's case of OE_MUX on an image of ones, and the order of setting's refusals: on the part of two blocks.
-- Assumes nothing.
use Rattle.std.specs.Prelude.{◌≡◌, true, List, ℕ, replicate}
use Rattle.part.specs.Outcome.Outcome.{accepted, refused}
use Rattle.part.specs.Cases.{two_small}
use Rattle.image.specs.Image.{state}
use Rattle.settings.specs.declared.Polarity.TheVariants.{P}
use Rattle.settings.specs.declared.MacrocellField.TheVariants.{OeMux}
use Rattle.settings.specs.declared.Setting.{Setting}
use Rattle.settings.specs.declared.Setting.TheVariants.{Literal, Macrocell}
use Rattle.values.specs.declared.OeMux.TheVariants as oeMux
use Rattle.values.specs.declared.Value.TheVariants as value
use Rattle.setting_bits.specs.declared.Layout.TheVariants.{Image, Readout}
use Rattle.edit.specs.Edit.{read_in, set_in, with_value}

abbrev pub image : List ℕ
image = replicate 2268 255

abbrev pub oe_mux_of0 : Setting
oe_mux_of0 = Macrocell 0 0 OeMux

abbrev pub changed : List ℕ
changed = with_value two_small Image image oe_mux_of0 (value.OeMux oeMux.Foe2)

-- It reads PT; set to FOE2 it clears 3138 and 3246 and keeps 3354.
abbrev pub OeMuxCase : Type 0
OeMuxCase =
    (read_in two_small Image image oe_mux_of0 ≡ accepted (value.OeMux oeMux.Pt))
    × (set_in two_small Image image oe_mux_of0 (value.OeMux oeMux.Foe2) ≡ accepted tt)
    × (state changed 3138 ≡ 0)
    × (state changed 3246 ≡ 0)
    × (state changed 3354 ≡ 1)

-- A readout of bytes 255: each byte narrower than 8 bits has a bit above its width.
abbrev pub readout : List ℕ
readout = replicate 2520 255

abbrev pub no_setting : Setting
no_setting = Literal 0 18 0 0 P

abbrev pub in_narrow_byte : Setting
in_narrow_byte = Literal 0 2 0 0 P

-- The lowest of 1, 2, 4, 5 and 6; a setting in bytes of 8 bits is set, whatever the other bytes hold.
abbrev pub Order : Type 0
Order =
    (set_in (record { blocks = 3; class = 0 }) Readout image no_setting (value.OeMux oeMux.Pt) ≡ refused 1 0)
    × (set_in two_small Readout image no_setting (value.OeMux oeMux.Pt) ≡ refused 2 0)
    × (set_in two_small Readout readout no_setting (value.OeMux oeMux.Pt) ≡ refused 4 0)
    × (set_in two_small Readout readout in_narrow_byte (value.OeMux oeMux.Pt) ≡ refused 5 0)
    × (set_in two_small Readout readout in_narrow_byte (value.Flag true) ≡ refused 6 25)
    × (set_in two_small Readout readout oe_mux_of0 (value.OeMux oeMux.Foe2) ≡ accepted tt)
