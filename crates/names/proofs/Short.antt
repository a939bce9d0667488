-- How long a name can be, whatever its numbers: a number has at most seven digits.
-- Assumes nothing.
use mathlib.Core.Bool.{Bool, true, false, cond}
use mathlib.Core.List.{[], ◌++◌}
use mathlib.Core.Option.{Option}
use mathlib.Core.Option.Option.{none, some}
use Prim.Native.Nat.{ℕ, ◌≤◌}
use native.Mathlib.Omega.{arith}
use lib.Dec.{ltb}
use lib.ListN.{length, length-append}
use Rattle.part.specs.Device.{decimal_digits}
use Rattle.part.specs.declared.Device.{Device}
use Rattle.part.proofs.Devices.{digits_small}
use Rattle.settings.specs.declared.Polarity.{Polarity}
use Rattle.settings.specs.declared.Polarity.TheVariants.{P, N}
use Rattle.settings.specs.declared.MacrocellField.{MacrocellField}
use Rattle.settings.specs.declared.MacrocellField.TheVariants.{Alloc, Inv, ImportUpAlloc, ImportDownAlloc, ExportDir, SumHp, IobOeMux}
use Rattle.settings.specs.declared.MacrocellField.TheVariants.{OeMux, OutMux, ClkMux, RegMode, RstMux, SetMux, Init, UimOeMux, UimOutInv}
use Rattle.settings.specs.declared.MacrocellField.TheVariants.{IobGnd, IobSlew, Hp}
use Rattle.settings.specs.declared.BlockField.{BlockField}
use Rattle.settings.specs.declared.BlockField.TheVariants.{Enable, ExportEnable, PullupDisable, ReadProtA, ReadProtB, WriteProt}
use Rattle.settings.specs.declared.GlobalField.{GlobalField}
use Rattle.settings.specs.declared.GlobalField.TheVariants.{FsrInv, FclkInv, FoeInv, FclkMux, FoeMux, Usercode}
use Rattle.settings.specs.declared.Setting.{Setting}
use Rattle.settings.specs.declared.Setting.TheVariants.{Literal, WireAnd, Macrocell, Block, Global}
use Rattle.setting_places.specs.Places.{bits_of}
use Rattle.fuse_settings.specs.Back.{setting_at}
use Rattle.jedec.specs.Characters.{decimal_digit, count_digits}
use Rattle.jedec.specs.Quoted.{chars}
use Rattle.jedec.proofs.Numbers.{digits_length}
use Rattle.names.specs.Names.{polarity_name, spaced, joined, parts_of, macrocell_parts, block_field_name, global_field_name}
use Rattle.names.specs.Names.{setting_name, bit_text, name_of, name_or, name_at}

pub digits_few : (x : ℕ) → length (count_digits x) ≤ 7
digits_few x = omega (arith, digits_length 10 decimal_digit (decimal_digits x) x, digits_small x)

polarity_short : (p : Polarity) → length (polarity_name p) ≤ 1
polarity_short P = omega arith
polarity_short N = omega arith

-- The parts of a macrocell's field, of a block's and of the whole part's.
fields_short : (f : MacrocellField) → length (spaced (macrocell_parts f)) ≤ 24
unfolding spaced
fields_short (Alloc k) = simp length-append (omega (arith, digits_few k))
fields_short Inv = omega arith
fields_short ImportUpAlloc = omega arith
fields_short ImportDownAlloc = omega arith
fields_short ExportDir = omega arith
fields_short SumHp = omega arith
fields_short IobOeMux = omega arith
fields_short OeMux = omega arith
fields_short OutMux = omega arith
fields_short ClkMux = omega arith
fields_short RegMode = omega arith
fields_short RstMux = omega arith
fields_short SetMux = omega arith
fields_short Init = omega arith
fields_short UimOeMux = omega arith
fields_short UimOutInv = omega arith
fields_short IobGnd = omega arith
fields_short IobSlew = omega arith
fields_short (Hp k) = simp length-append (omega (arith, digits_few k))

block_short : (f : BlockField) → length (block_field_name f) ≤ 24
block_short Enable = omega arith
block_short ExportEnable = omega arith
block_short PullupDisable = omega arith
block_short ReadProtA = omega arith
block_short ReadProtB = omega arith
block_short WriteProt = omega arith

global_short : (f : GlobalField) → length (global_field_name f) ≤ 24
global_short FsrInv = omega arith
global_short (FclkInv c) = simp length-append (omega (arith, digits_few c))
global_short (FoeInv e) = simp length-append (omega (arith, digits_few e))
global_short (FclkMux c) = simp length-append (omega (arith, digits_few c))
global_short (FoeMux e) = simp length-append (omega (arith, digits_few e))
global_short Usercode = omega arith

setting_short : (s : Setting) → length (setting_name s) ≤ 48
unfolding setting_name parts_of joined spaced
setting_short (Literal b j k l p) =
    simp length-append (omega (arith, digits_few b, digits_few j, digits_few k, digits_few l, polarity_short p))
setting_short (WireAnd i j k l) = simp length-append (omega (arith, digits_few i, digits_few j, digits_few k, digits_few l))
setting_short (Macrocell b m f) = simp length-append (omega (arith, digits_few b, digits_few m, fields_short f))
setting_short (Block b f) = simp length-append (omega (arith, digits_few b, block_short f))
setting_short (Global f) = simp length-append (omega (arith, global_short f))

bit_short : (s : Setting) (bit : ℕ) → length (bit_text s bit) ≤ 8
unfolding bit_text
bit_short s bit = go (ltb 1 (bits_of s))
  where
    go : (t : Bool) → length (cond t (chars "." ++ count_digits bit) []) ≤ 8
    go true = simp length-append (omega (arith, digits_few bit))
    go false = omega arith

-- No name of a fuse has more than 56 bytes.
pub name_short : (d : Device) (fuse : ℕ) → length (name_at d fuse) ≤ 56
unfolding name_at name_of
name_short d fuse = go (setting_at d fuse)
  where
    go : (o : Option (Setting × ℕ)) → length (name_or o) ≤ 56
    go none = omega arith
    go (some (s, bit)) = omega (arith, length-append (setting_name s) (bit_text s bit), setting_short s, bit_short s bit)
