-- Which settings a device has: document 01, "Settings and where they lie", with its numbers.
-- Indices count from 0.
use Rattle.std.specs.Prelude.{Bool, ◌&&◌, ltb}
use Rattle.part.specs.Device.{blocks_of}
use Rattle.part.specs.declared.Device.{Device}
use Rattle.settings.specs.Fields.{macrocells, terms, inputs, foes, macrocell_fields, macrocell_index, global_fields}
use Rattle.settings.specs.Fields.{global_index}
use Rattle.settings.specs.declared.Setting.{Setting}
use Rattle.settings.specs.declared.Setting.TheVariants.{Literal, WireAnd, Macrocell, Block, Global}

-- Which settings there are on a device.
unfoldable pub has_setting : Device → Setting → Bool
has_setting d (Literal block j k l polarity) =
    ltb block (blocks_of d) && ltb j macrocells && ltb k terms && ltb l inputs
has_setting d (WireAnd i j k l) = ltb i (blocks_of d) && ltb j inputs && ltb k (blocks_of d) && ltb l macrocells
has_setting d (Macrocell block m field) =
    ltb block (blocks_of d) && ltb m macrocells && ltb (macrocell_index field) macrocell_fields
has_setting d (Block block field) = ltb block (blocks_of d)
has_setting d (Global field) = ltb (global_index (foes d) field) (global_fields (foes d))
