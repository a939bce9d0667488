-- USERCODE by its number: no byte that holds it has a bit above its width, and every pattern of 32 bits fits.
-- Assumes nothing.
use mathlib.Core.Path.{◌≡◌, refl, sym, ◌∙◌, ap}
use mathlib.Core.Bool.{true}
use mathlib.Core.List.{List}
use Prim.Native.Nat.{ℕ, ◌^◌, ◌<◌}
use native.Mathlib.Omega.{arith}
use lib.ListN.{length, get_or}
use borrow.Author.Tests.{lt-ltb}
use Rattle.part.specs.Outcome.Outcome.{accepted}
use Rattle.part.specs.Device.{known}
use Rattle.part.specs.declared.Device.{Device}
use Rattle.settings.specs.Order.{count_of, number_of, setting_of}
use Rattle.settings.specs.declared.GlobalField.TheVariants as field
use Rattle.settings.proofs.Numbering.{number_below, setting_inverse}
use Rattle.setting_places.specs.Places.{bits_of}
use Rattle.setting_bits.specs.declared.Layout.{Layout}
use Rattle.setting_bits.specs.declared.Layout.TheVariants.{Image, Readout}
use Rattle.setting_bits.specs.SettingBits.{bytes_of, pattern_at, with_pattern}
use Rattle.setting_bits.proofs.AboveWidth.{of_global, none_above}
use Rattle.setting_bits.proofs.Usercode.{usercode, usercode_there}
use Rattle.edit.specs.Edit.{above_in}
use Rattle.edit_by_number.specs.ByNumber.{read_pattern}
use Rattle.edit_by_number.proofs.Asked.{PatternGives, reads_clean, sets_clean}

clean : (d : Device) (layout : Layout) (bytes : List ℕ) → known d ≡ true → length bytes ≡ bytes_of d layout
    → ((i : ℕ) → get_or bytes i 0 < 2 ^ 8) → above_in d layout bytes usercode ≡ bytes_of d layout
unfolding above_in
clean d Image bytes k n small = refl
clean d Readout bytes k n small =
    sym (none_above d k usercode (usercode_there d) bytes small n (of_global d k usercode (usercode_there d) field.Usercode refl)) ∙ n

module _ (d : Device) (layout : Layout) (bytes : List ℕ) (x size last : ℕ) (k : known d ≡ true) (e : size ≡ bytes_of d layout)
    (m : length bytes ≡ size)
    (g : last ≡ number_of d usercode) (q : x ≡ last) (small : (i : ℕ) → get_or bytes i 0 < 2 ^ 8)
  where
    -- Its number is below the count, so that it can be asked for before refusal 4.
    in_count : x < count_of d
    in_count = rw (q, g) (number_below d usercode (usercode_there d))

    its : usercode ≡ setting_of d x
    its = sym (ap (setting_of d) (q ∙ g) ∙ setting_inverse d usercode (usercode_there d))

    pub reads_code : (p : ℕ) → p ≡ pattern_at d layout bytes usercode → accepted p ≡ read_pattern d layout bytes x
    reads_code p w =
        reads_clean d layout bytes x k (m ∙ e) in_count usercode its (bytes_of d layout)
        (clean d layout bytes k (m ∙ e) small) p (omega (arith, m)) w

    pub sets_code : (pattern : ℕ) (after : List ℕ) → pattern < 2 ^ 32 → after ≡ with_pattern d layout bytes usercode pattern
        → PatternGives d layout bytes x pattern (accepted tt) after
    unfolding bits_of
    sets_code pattern after fits w =
        sets_clean d layout bytes x k (m ∙ e) in_count usercode its pattern (lt-ltb pattern (2 ^ 32) fits) (bytes_of d layout)
        (clean d layout bytes k (m ∙ e) small) after (omega (arith, m)) w
