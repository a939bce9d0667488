-- The kind of a setting has as many bits as the setting has fuses; and what the operations are proved by.
-- Assumes nothing.
use mathlib.Core.Path.{◌≡◌, refl, subst}
use mathlib.Core.Bool.{true}
use Prim.Native.Nat.{◌<◌}
use lib.Dec.{eqb}
use borrow.Author.Tests.{eqb-true}
use Rattle.part.specs.declared.Device.{Device}
use Rattle.part.proofs.Refused.{refused_with}
use Rattle.part.proofs.Tables.{below_all}
use Rattle.settings.specs.Fields.{macrocell_fields, macrocell_index}
use Rattle.settings.specs.Settings.{has_setting}
use Rattle.settings.specs.Order.{macrocell_field_at}
use Rattle.settings.specs.declared.MacrocellField.{MacrocellField}
use Rattle.settings.specs.declared.GlobalField.{GlobalField}
use Rattle.settings.specs.declared.GlobalField.TheVariants.{FsrInv, FclkInv, FoeInv, FclkMux, FoeMux, Usercode}
use Rattle.settings.specs.declared.Setting.{Setting}
use Rattle.settings.specs.declared.Setting.TheVariants.{Literal, WireAnd, Macrocell, Block, Global}
use Rattle.settings.proofs.FieldIndices.{macrocell_at}
use Rattle.settings.proofs.CodeNumbers.{has_macrocell}
use Rattle.setting_places.specs.Places.{rows, global_bits, bits_of}
use Rattle.values.specs.Values.{bits_in}
use Rattle.setting_values.specs.Kinds.{macrocell_kind, global_kind, kind_of}

macrocell_bits : (f : MacrocellField) → macrocell_index f < macrocell_fields → bits_in (macrocell_kind f) ≡ rows f
macrocell_bits f h =
    subst (λ g. bits_in (macrocell_kind g) ≡ rows g) (macrocell_at f h)
    (eqb-true _ _ (below_all (λ i. eqb (bits_in (macrocell_kind (macrocell_field_at i))) (rows (macrocell_field_at i))) macrocell_fields
    refl (macrocell_index f) h))

global_bits_lem : (d : Device) (f : GlobalField) → bits_in (global_kind d f) ≡ global_bits f
global_bits_lem d FsrInv = refl
global_bits_lem d (FclkInv c) = refl
global_bits_lem d (FoeInv e) = refl
global_bits_lem d (FclkMux c) = refl
global_bits_lem d (FoeMux e) = refl
global_bits_lem d Usercode = refl

pub kind_bits : (d : Device) (s : Setting) → has_setting d s ≡ true → bits_in (kind_of d s) ≡ bits_of s
unfolding kind_of bits_of
kind_bits d (Literal block j k l polarity) h = refl
kind_bits d (WireAnd i j k l) h = refl
kind_bits d (Macrocell block m field) h = macrocell_bits field (has_macrocell d (Macrocell block m field) h block m field refl).2
kind_bits d (Block block field) h = refl
kind_bits d (Global field) h = global_bits_lem d field

-- What the operations are proved by, besides their definitions.
pub ruleset operations = (refused_with, kind_bits)
