-- `put_usercode` meets its contract: a pair more put in place at each turn, of one row and then of the other.
-- Assumes nothing.
use mathlib.Core.Path.{◌≡◌, refl, ◌∙◌, ap}
use mathlib.Core.List.{List}
use Prim.Native.Nat.{ℕ, ◌+◌, ◌*◌, ◌<◌, ◌≤◌}
use native.Mathlib.Omega.{arith}
use lib.ListN.{length}
use Rattle.part.specs.declared.Device.{Device}
use Rattle.setting_places.specs.Places.{bits_of}
use Rattle.setting_bits.specs.declared.Layout.{Layout}
use Rattle.setting_bits.specs.SettingBits.{with_bits, with_pattern}
use Rattle.setting_bits.proofs.Usercode.{usercode, both_states, two_put}
use borrow.Author.Rules.{rules}
use Rattle.setting_bits.proofs.in_bytes.put_usercode.Invariants.{Put}
use Rattle.setting_bits.proofs.in_bytes.put_usercode.Goals as goal

module _ (d : Device) (layout : Layout) (pattern first : ℕ) (entry bytes : List ℕ) (pair : ℕ)
    (r : Put d layout pattern first entry bytes pair) where
  more : (after : List ℕ) → pair < first + 8 → length after ≡ length bytes → after ≡ both_states d layout bytes pattern pair
      → Put d layout pattern first entry after (pair + 1)
  more after l same g =
      record {
        size = same ∙ r.size;
        so_far = λ before q. two_put d layout before bytes after pattern pair (r.so_far before q) g;
      }

  row_end : first + 8 ≤ pair → pair ≤ first + 8 → (before : List ℕ) → entry ≡ with_bits d layout before usercode pattern (2 * first)
      → bytes ≡ with_bits d layout before usercode pattern (2 * (first + 8))
  row_end l m before q =
      let last : 2 * pair ≡ 2 * (first + 8) = omega arith in
      r.so_far before q ∙ ap (with_bits d layout before usercode pattern) last

end : (d : Device) (layout : Layout) (pattern : ℕ) (before half after : List ℕ) (pair last : ℕ)
    → Put d layout pattern 0 before half pair → 8 ≤ pair → pair ≤ 8
    → Put d layout pattern 8 half after last → 16 ≤ last → last ≤ 16 → after ≡ with_pattern d layout before usercode pattern
unfolding with_pattern with_bits bits_of
end d layout pattern before half after pair last low l l2 high m m2 =
    row_end d layout pattern 8 half after last high m m2 before (row_end d layout pattern 0 before half pair low l l2 before refl)

pub loop-pair-preserved : goal.loop-pair-preserved
loop-pair-preserved c = search (rules, more)

pub loop-pair-2-preserved : goal.loop-pair-2-preserved
loop-pair-2-preserved c = search (rules, more)

pub returns : goal.returns
returns c = search (rules, end)
