-- `put_pattern` meets its contract for any setting but USERCODE: one more bit put in place at each turn.
-- Assumes nothing.
use mathlib.Core.Path.{◌≡◌, refl, sym, ◌∙◌, ap}
use mathlib.Core.Bool.{true}
use mathlib.Core.List.{List}
use Prim.Native.Nat.{ℕ, suc, ◌+◌, ◌/◌, ◌%◌, ◌^◌, ◌<◌, ◌≤◌}
use native.Mathlib.Omega.{arith}
use lib.ListN.{length}
use Rattle.part.specs.Device.{known}
use Rattle.part.specs.declared.Device.{Device}
use Rattle.image.specs.Bits.{with_bit}
use Rattle.image.proofs.Bits.{with_length}
use Rattle.settings.specs.Settings.{has_setting}
use Rattle.settings.specs.declared.Setting.{Setting}
use Rattle.setting_places.specs.Places.{bits_of, fuse_of}
use Rattle.setting_bits.specs.declared.Layout.{Layout}
use Rattle.setting_bits.specs.SettingBits.{bytes_of, byte_of, bit_in, with_bits, with_pattern}
use Rattle.setting_bits.proofs.Edits.{inside, fuse_below}
use Rattle.setting_bits.proofs.Steps.{bits_few, bit_small}
use borrow.Author.Rules.{rules}
use Rattle.setting_bits.proofs.in_bytes.put_pattern.Invariants.{Put}
use Rattle.setting_bits.proofs.in_bytes.put_pattern.Goals as goal

start : (d : Device) (layout : Layout) (before : List ℕ) (s : Setting) (pattern width : ℕ)
    → length before ≡ bytes_of d layout → width ≡ bits_of s → Put d layout before s pattern width before 0
unfolding with_bits
start d layout before s pattern width e g = record { all = g; size = e; so_far = refl }

module _ (d : Device) (layout : Layout) (before : List ℕ) (s : Setting) (pattern width : ℕ) (bytes : List ℕ) (bit : ℕ)
    (r : Put d layout before s pattern width bytes bit) where
  in_width : bit < width → bit < bits_of s
  in_width l = omega (arith, r.all)

  few : bit < width → has_setting d s ≡ true → bit < 32
  few l h = omega (arith, r.all, bits_few d s h)

  index_in : (index : ℕ) → known d ≡ true → has_setting d s ≡ true → bit < width
      → index ≡ byte_of d layout (fuse_of d s bit) → index < length bytes
  index_in index k h l x = rw (r.size, x) (inside d layout (fuse_of d s bit) k (fuse_below d k s h bit (in_width l)))

  bit_in_lem : (b : ℕ) → known d ≡ true → has_setting d s ≡ true → bit < width → b ≡ bit_in d layout (fuse_of d s bit) → b < 8
  bit_in_lem b k h l y = rw y (bit_small d k s h bit (in_width l) layout)

  more : (index b : ℕ) (after : List ℕ) → known d ≡ true → has_setting d s ≡ true → bit < width
      → index ≡ byte_of d layout (fuse_of d s bit) → b ≡ bit_in d layout (fuse_of d s bit)
      → after ≡ with_bit bytes index b (pattern / 2 ^ bit % 2) → Put d layout before s pattern width after (bit + 1)
  unfolding with_bits
  more index b after k h l x y g =
      let next : bit + 1 ≡ suc bit = omega arith in
      record {
        all = r.all;
        size = rw g (with_length bytes index b (pattern / 2 ^ bit % 2) (index_in index k h l x) (omega arith) ∙ r.size);
        so_far = rw (next, ← r.so_far, ← x, ← y) g;
      }

  kept : length before ≡ bytes_of d layout → length bytes ≡ length before
  kept e = r.size ∙ sym e

  end : width ≤ bit → bit ≤ width → bytes ≡ with_pattern d layout before s pattern
  unfolding with_pattern
  end l m = let last : bit ≡ bits_of s = omega (arith, r.all) in r.so_far ∙ ap (with_bits d layout before s pattern) last

pub loop-bit-init : goal.loop-bit-init
loop-bit-init c = search (rules, start)

pub overflow_shr-state : goal.overflow_shr-state
overflow_shr-state c = search (rules, few)

pub set_bit-requires : goal.set_bit-requires
set_bit-requires c = (search (rules, index_in), search (rules, bit_in_lem), search rules)

pub loop-bit-preserved : goal.loop-bit-preserved
loop-bit-preserved c = search (rules, more)

pub returns : goal.returns
returns c = search (rules, end)
