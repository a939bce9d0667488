-- `above_of` meets its contract: no byte of 8 bits has one above; of a setting of one bit, its byte is looked at.
-- Assumes nothing.
use mathlib.Core.Path.{◌≡◌}
use mathlib.Core.Bool.{Bool, true, false, cond, not}
use mathlib.Core.List.{List}
use Prim.Native.Nat.{ℕ, ◌/◌, ◌^◌, ◌<◌}
use native.Mathlib.Omega.{arith}
use lib.Dec.{eqb}
use lib.ListN.{length, get_or}
use borrow.Author.Tests.{lt-ltb, le-ltb}
use Rattle.std.specs.Prelude.{Option, None}
use Rattle.std.specs.Bool.{then_some}
use Rattle.part.specs.Device.{known, readout_bytes}
use Rattle.part.specs.Place.{has_byte, width_of}
use Rattle.addresses.specs.Address.{index_of_byte}
use Rattle.part.specs.declared.Device.{Device}
use Rattle.part.specs.declared.Place.{Place}
use Rattle.settings.specs.Settings.{has_setting}
use Rattle.settings.specs.declared.Setting.{Setting}
use Rattle.setting_places.specs.Places.{place_of, bits_of, fuse_of}
use Rattle.setting_bits.specs.declared.Layout.TheVariants.{Readout}
use Rattle.setting_bits.specs.SettingBits.{byte_of, above_of, below}
use Rattle.setting_bits.proofs.Edits.{inside, fuse_below}
use Rattle.setting_bits.proofs.Steps.{its_byte, width_in, its_index}
use Rattle.setting_bits.proofs.AboveWidth.{none_above, single_above}
use borrow.Author.Rules.{rules}
use Rattle.setting_bits.proofs.in_bytes.above_of.Goals as goal

none_below : (size index : ℕ) → size ≡ index → None ≡ below size index
none_below size index e = rw (le-ltb index size (omega arith))

if_above : (t : Bool) (index size : ℕ) → index < size → then_some t index ≡ below size (cond t index size)
if_above true index size l = rw (lt-ltb index size l)
if_above false index size l = rw (le-ltb size size (omega arith))

module _ (d : Device) (readout : List ℕ) (s : Setting) (k : known d ≡ true) (h : has_setting d s ≡ true) (one : bits_of s ≡ 1)
    (p : Place) (e : p ≡ place_of s 0) where
  there : 0 < bits_of s
  there = omega arith

  byte_there : has_byte d p.byte ≡ true
  byte_there = rw e (its_byte d k s h 0 there)

  module _ (index : ℕ) (q : length readout ≡ readout_bytes d) (g : index ≡ index_of_byte d p.byte) where
    at : index ≡ byte_of d Readout (fuse_of d s 0)
    at = its_index d k readout s h 0 there p e index g

    index_in : index < length readout
    index_in = rw (q, at) (inside d Readout (fuse_of d s 0) k (fuse_below d k s h 0 there))

    looked : (above w : ℕ) (o : Option ℕ) → w ≡ width_of p.byte → above ≡ get_or readout index 0 / 2 ^ w
        → o ≡ then_some (not (eqb above 0)) index → o ≡ below (length readout) (above_of d readout s)
    looked above w o v m f =
        rw (f, single_above d k s h one readout p e index w above at v m, ← q)
        (if_above (not (eqb above 0)) index (length readout) index_in)

pub returns-then-in_whole_bytes : goal.returns-then-in_whole_bytes
returns-then-in_whole_bytes c =
    none_below _ _
    (none_above c.args.s.device.device c.args.s.device.is_known c.args.s.setting c.args.s.is_there c.args.readout.now
    (λ i. search rules) c.requires (c.in_whole_bytes.ensures.0 c.if-in_whole_bytes.true))

pub index_of_byte-index-requires : goal.index_of_byte-index-requires
index_of_byte-index-requires c = search (rules, byte_there, c.in_whole_bytes.ensures.1)

pub above_width-above-requires : goal.above_width-above-requires
above_width-above-requires c =
    (search (rules, index_in, c.in_whole_bytes.ensures.1), search (rules, width_in))

pub returns : goal.returns
returns c = search (rules, looked, c.in_whole_bytes.ensures.1)
