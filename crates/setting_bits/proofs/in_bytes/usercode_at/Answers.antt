-- `usercode_at` meets its contract: a pair more of the pattern at each turn.
-- Assumes nothing.
use mathlib.Core.Path.{◌≡◌, refl, ◌∙◌, ap}
use mathlib.Core.Bool.{true}
use mathlib.Core.List.{List}
use Prim.Native.Nat.{ℕ, ◌+◌, ◌*◌, ◌%◌, ◌^◌, ◌<◌, ◌≤◌}
use native.Mathlib.Omega.{arith}
use mir.Syntax.{w32}
use mir.Val.{Fits}
use lib.ListN.{length}
use Rattle.part.specs.Device.{known}
use Rattle.part.specs.declared.Device.{Device}
use Rattle.image.specs.Bits.{bit_at, gathered}
use Rattle.setting_places.specs.Places.{bits_of, fuse_of}
use Rattle.setting_bits.specs.declared.Layout.{Layout}
use Rattle.setting_bits.specs.SettingBits.{bytes_of, byte_of, bit_in, pattern_at}
use Rattle.setting_bits.proofs.Steps.{bits_read}
use Rattle.setting_bits.proofs.Usercode.{usercode, location_in, location_low, pair_more}
use borrow.Author.Rules.{rules}
use Rattle.setting_bits.proofs.in_bytes.usercode_at.Invariants.{Read}
use Rattle.setting_bits.proofs.in_bytes.usercode_at.Goals as goal

start : (d : Device) (layout : Layout) (bytes : List ℕ) → Read d layout bytes 0 0
unfolding gathered
start d layout bytes = record { so_far = refl }

module _ (d : Device) (layout : Layout) (bytes : List ℕ) (pattern pair : ℕ) (r : Read d layout bytes pattern pair) where
  module _ (k : known d ≡ true) (l : pair < 16) (index bit : ℕ)
      (x : index ≡ byte_of d layout (fuse_of d usercode (2 * pair))) (y : bit ≡ bit_in d layout (fuse_of d usercode (2 * pair))) where
    index_in : length bytes ≡ bytes_of d layout → index < length bytes
    index_in e = location_in d k pair l layout index bit x y bytes e

    bit_in_lem : bit < 7
    bit_in_lem = location_low d k pair l layout index bit x y

    module _ (states : ℕ) (g : states ≡ bit_at bytes index bit + 2 * bit_at bytes index (bit + 1)) where
      fits : Fits w32 (pattern + states * 2 ^ (2 * pair) % 2 ^ 32)
      fits = record { fits = (pair_more d k pair l layout index bit x y bytes pattern states r.so_far g).1 }

      more : Read d layout bytes (pattern + states * 2 ^ (2 * pair) % 2 ^ 32) (pair + 1)
      more = record { so_far = (pair_more d k pair l layout index bit x y bytes pattern states r.so_far g).0 }

  end : 16 ≤ pair → pair ≤ 16 → pattern ≡ pattern_at d layout bytes usercode
  unfolding pattern_at bits_of
  end l m = let last : 2 * pair ≡ 32 = omega arith in r.so_far ∙ ap (bits_read d layout bytes usercode) last

pub loop-pair-init : goal.loop-pair-init
loop-pair-init c = search (rules, start)

pub pair_of-states-requires : goal.pair_of-states-requires
pair_of-states-requires c = (search (rules, index_in), search (rules, bit_in_lem))

pub overflow_add-pattern : goal.overflow_add-pattern
overflow_add-pattern c = search (rules, fits)

pub loop-pair-preserved : goal.loop-pair-preserved
loop-pair-preserved c = search (rules, more)

pub returns : goal.returns
returns c = search (rules, end)
