-- `pattern_at` meets its contract for any setting but USERCODE: a bit more of the pattern at each turn.
-- Assumes nothing.
use mathlib.Core.Path.{◌≡◌, refl, ◌∙◌, ap, ap₂}
use mathlib.Core.Bool.{true}
use Prim.Native.Nat.{ℕ, ◌+◌, ◌*◌, ◌%◌, ◌^◌, ◌<◌, ◌≤◌}
use native.Mathlib.Omega.{arith}
use Rattle.part.specs.Device.{known}
use Rattle.part.specs.declared.Device.{Device}
use Rattle.settings.specs.Settings.{has_setting}
use Rattle.settings.specs.declared.Setting.{Setting}
use Rattle.setting_places.specs.Places.{bits_of, fuse_of}
use mathlib.Core.List.{List}
use mir.Syntax.{w32}
use mir.Val.{Fits}
use lib.ListN.{length}
use Rattle.image.specs.Bits.{bit_at, gathered}
use Rattle.setting_bits.specs.declared.Layout.{Layout}
use Rattle.setting_bits.specs.SettingBits.{bytes_of, byte_of, bit_in, state_of, pattern_at}
use Rattle.setting_bits.proofs.Edits.{inside, fuse_below}
use Rattle.setting_bits.proofs.Steps.{bits_few, bit_small, bits_read, read_more}
use borrow.Author.Rules.{rules}
use Rattle.setting_bits.proofs.in_bytes.pattern_at.Invariants.{Read}
use Rattle.setting_bits.proofs.in_bytes.pattern_at.Goals as goal

start : (d : Device) (layout : Layout) (bytes : List ℕ) (s : Setting) (width : ℕ) → width ≡ bits_of s → Read d layout bytes s width 0 0
unfolding gathered
start d layout bytes s width e = record { all = e; so_far = refl }

module _ (d : Device) (layout : Layout) (bytes : List ℕ) (s : Setting) (width pattern bit : ℕ)
    (r : Read d layout bytes s width pattern bit) where
  in_width : bit < width → bit < bits_of s
  in_width l = omega (arith, r.all)

  few : bit < width → has_setting d s ≡ true → bit < 32
  few l h = omega (arith, r.all, bits_few d s h)

  index_in : (index : ℕ) → known d ≡ true → has_setting d s ≡ true → length bytes ≡ bytes_of d layout → bit < width
      → index ≡ byte_of d layout (fuse_of d s bit) → index < length bytes
  index_in index k h e l x = rw (e, x) (inside d layout (fuse_of d s bit) k (fuse_below d k s h bit (in_width l)))

  bit_in_lem : (b : ℕ) → known d ≡ true → has_setting d s ≡ true → bit < width → b ≡ bit_in d layout (fuse_of d s bit) → b < 8
  bit_in_lem b k h l y = rw y (bit_small d k s h bit (in_width l) layout)

  module _ (h : has_setting d s ≡ true) (l : bit < width) (index b state : ℕ)
      (x : index ≡ byte_of d layout (fuse_of d s bit)) (y : b ≡ bit_in d layout (fuse_of d s bit)) (g : state ≡ bit_at bytes index b) where
    e : state ≡ state_of d layout bytes (fuse_of d s bit)
    e = g ∙ ap₂ (bit_at bytes) x y

    fits : Fits w32 (pattern + state * 2 ^ bit % 2 ^ 32)
    fits = record { fits = (read_more d layout bytes s pattern state bit (few l h) r.so_far e).1 }

    more : Read d layout bytes s width (pattern + state * 2 ^ bit % 2 ^ 32) (bit + 1)
    more = record { all = r.all; so_far = (read_more d layout bytes s pattern state bit (few l h) r.so_far e).0 }

  end : width ≤ bit → bit ≤ width → pattern ≡ pattern_at d layout bytes s
  unfolding pattern_at
  end l m = let last : bit ≡ bits_of s = omega (arith, r.all) in r.so_far ∙ ap (bits_read d layout bytes s) last

pub loop-bit-init : goal.loop-bit-init
loop-bit-init c = search (rules, start)

pub bit_of-state-requires : goal.bit_of-state-requires
bit_of-state-requires c = (search (rules, index_in), search (rules, bit_in_lem))

pub overflow_shl-pattern : goal.overflow_shl-pattern
overflow_shl-pattern c = search (rules, few)

pub overflow_add-pattern : goal.overflow_add-pattern
overflow_add-pattern c = search (rules, fits)

pub loop-bit-preserved : goal.loop-bit-preserved
loop-bit-preserved c = search (rules, more)

pub returns : goal.returns
returns c = search (rules, end)
