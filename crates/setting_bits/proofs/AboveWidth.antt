-- Only literals and wire-ANDs lie in bytes narrower than 8 bits: no byte that holds another setting has a bit above its width, and of
-- those, of one bit each, one byte is looked at.
use mathlib.Core.Path.{◌≡◌, refl, sym, ◌∙◌, ap}
use mathlib.Core.Bool.{Bool, true, false, cond, not, ◌&&◌}
use mathlib.Core.List.{List}
use Prim.Native.Nat.{ℕ, ◌+◌, ◌-◌, ◌/◌, ◌%◌, ◌^◌, ◌<◌, ◌≤◌}
use native.Mathlib.Omega.{arith}
use lib.Dec.{eqb, ltb}
use lib.ListN.{length, get_or}
use borrow.Author.Tests.{lt-ltb, ltb-true}
use Rattle.part.specs.Device.{known, readout_bytes, main_width}
use Rattle.part.specs.Place.{has_byte, width_of, has_place}
use Rattle.addresses.specs.Address.{index_of_byte}
use Rattle.part.specs.declared.BytePlace.TheVariants as byte
use Rattle.part.specs.declared.Device.{Device}
use Rattle.part.specs.declared.Place.{Place}
use Rattle.part.proofs.Facts.{and_iff, by_cases}
use Rattle.readout.specs.Readout.{width_at}
use Rattle.settings.specs.Settings.{has_setting}
use Rattle.settings.specs.declared.MacrocellField.{MacrocellField}
use Rattle.settings.specs.declared.BlockField.{BlockField}
use Rattle.settings.specs.declared.BlockField.TheVariants.{Enable, ExportEnable, PullupDisable, ReadProtA, ReadProtB, WriteProt}
use Rattle.settings.specs.declared.GlobalField.{GlobalField}
use Rattle.settings.specs.declared.GlobalField.TheVariants.{FsrInv, FclkInv, FoeInv, FclkMux, FoeMux, Usercode}
use Rattle.settings.specs.declared.Setting.{Setting}
use Rattle.settings.specs.declared.Setting.TheVariants.{Macrocell, Block, Global}
use Rattle.setting_places.specs.Places.{main, block_place, global_place, place_of, bits_of, fuse_of}
use Rattle.setting_places.proofs.OnePlaceEach.{has_place_lem}
use Rattle.setting_bits.specs.SettingBits.{byte_of, above_among, above_of}
use Rattle.setting_bits.specs.declared.Layout.TheVariants.{Readout}
use Rattle.setting_bits.proofs.Edits.{inside, fuse_below, clean_through}
use Rattle.setting_bits.proofs.Steps.{place_inverse, its_index, its_width, its_test}

-- A byte of the main area that has a bit 6 has 8 bits.
main_wide : (d : Device) (block row column bit : ℕ) → has_place d (main block row column bit) ≡ true → 6 ≤ bit → main_width column ≡ 8
unfolding has_place
main_wide d block row column bit e six =
    by_cases (λ (w : ℕ). ltb bit w ≡ true → w ≡ 8) column 9
    (λ less t. refl)
    (λ more t. let below : bit < 6 = ltb-true _ _ t in absurd (omega arith))
    ((and_iff (has_byte d (byte.Main block row column)) (ltb bit (main_width column))).0 e).1

block_wide : (block : ℕ) (f : BlockField) → width_of (block_place block f).byte ≡ 8
block_wide block Enable = refl
block_wide block ExportEnable = refl
block_wide block PullupDisable = refl
block_wide block ReadProtA = refl
block_wide block ReadProtB = refl
block_wide block WriteProt = refl

global_wide : (d : Device) (f : GlobalField) (b : ℕ) → has_place d (global_place f b) ≡ true → width_of (global_place f b).byte ≡ 8
global_wide d FsrInv b e = refl
global_wide d (FclkInv c) b e = main_wide d 0 0 (2 + c) 6 e (omega arith)
global_wide d (FoeInv i) b e = main_wide d 0 0 (5 + i) 6 e (omega arith)
global_wide d (FclkMux c) b e = main_wide d 0 (3 + b) (2 + c) 6 e (omega arith)
global_wide d (FoeMux i) b e = main_wide d 0 (3 + b) (5 + i) 6 e (omega arith)
global_wide d Usercode b e = main_wide d 0 (7 - b / 16) (7 - b % 16 / 2) (6 + b % 2) e (omega arith)

and_true : (t : Bool) → (t && true) ≡ t
and_true true = refl
and_true false = refl

abbrev pub Wide : Setting → Type 0
Wide s = (b : ℕ) → b < bits_of s → width_of (place_of s b).byte ≡ 8

pub of_macrocell : (s : Setting) (block m : ℕ) (f : MacrocellField) → s ≡ Macrocell block m f → Wide s
unfolding place_of
of_macrocell s block m f q b l = rw (q, lt-ltb (m % 9) 9 (omega arith))

pub of_block_lem : (s : Setting) (block : ℕ) (f : BlockField) → s ≡ Block block f → Wide s
unfolding place_of
of_block_lem s block f q b l = rw q (block_wide block f)

module _ (d : Device) (k : known d ≡ true) (s : Setting) (h : has_setting d s ≡ true) where
  pub of_global : (f : GlobalField) → s ≡ Global f → Wide s
  unfolding place_of
  of_global f q b l = rw q (global_wide d f b (rw q at (has_place_lem d s b k h l)))

  -- The scan goes through.
  pub none_above : (readout : List ℕ) → ((i : ℕ) → get_or readout i 0 < 2 ^ 8) → length readout ≡ readout_bytes d → Wide s
      → length readout ≡ above_of d readout s
  none_above readout small e wide =
      e
      ∙ sym (clean_through d readout s (bits_of s) (λ b l.
      let index = index_of_byte d (place_of s b).byte in
      let eight : width_at d (byte_of d Readout (fuse_of d s b)) ≡ 8 =
      ap (width_at d) (sym (its_index d k readout s h b l (place_of s b) refl index refl))
      ∙ sym (its_width d k readout s h b l (place_of s b) refl index refl) ∙ wide b l in
      rw eight (small (byte_of d Readout (fuse_of d s b)))))

  -- Of a setting of one bit, its byte is looked at.
  pub single_above : bits_of s ≡ 1 → (readout : List ℕ) (p : Place) → p ≡ place_of s 0 → (index w above : ℕ)
      → index ≡ byte_of d Readout (fuse_of d s 0)
      → w ≡ width_of p.byte → above ≡ get_or readout index 0 / 2 ^ w
      → above_of d readout s ≡ cond (not (eqb above 0)) index (readout_bytes d)
  unfolding above_among
  single_above one readout p e index w above i v a =
      let there : 0 < bits_of s = omega arith in
      let at : index ≡ index_of_byte d p.byte = i ∙ ap (λ (q : Place). index_of_byte d q.byte) (place_inverse d k s h 0 there ∙ sym e) in
      let below : index < readout_bytes d = rw i (inside d Readout (fuse_of d s 0) k (fuse_below d k s h 0 there)) in
      let test = its_test d k readout s h 0 there p e index at above (readout_bytes d) w v a refl in
      rw (one, ← test, ← i, lt-ltb index (readout_bytes d) below, and_true (not (eqb above 0)))

-- Which settings lie in whole bytes.
pub ruleset wide = (of_macrocell, of_block_lem, of_global)
