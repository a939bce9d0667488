-- How an answer is packed into one 64-bit word: the refusal's number in bits 56 to 63 (0: accepted), and its value, or
-- the result, in the low 56 bits.
use Rattle.std.specs.Prelude.{◌≡◌, ℕ, ◌+◌, ◌*◌, ◌-◌, ◌/◌, ◌%◌, ◌^◌, ◌<◌}
use Rattle.std.proofs.Math.Option.{Option}
use Rattle.std.proofs.Math.Option.Option.{none, some}
use Rattle.part.specs.Outcome.{Outcome}
use Rattle.part.specs.Outcome.Outcome.{accepted, refused}
use Rattle.part.specs.declared.Device.{Device}
use Rattle.part.specs.declared.Sizes.{Sizes}
use Rattle.settings.specs.Order.{number_of}
use Rattle.settings.specs.declared.Setting.{Setting}
use Rattle.setting_places.specs.Places.{LocatedFuse}

abbrev pub refusal_word : (number value : ℕ) → ℕ
refusal_word number value = number * 2 ^ 56 + value

abbrev pub packed : {A : Type 0} → (A → ℕ) → Outcome A → ℕ
packed result (accepted x) = result x
packed result (refused number value) = refusal_word number value

-- The result of an address and a bit: the address times 8 plus the bit.
abbrev pub address_and_bit : ℕ × ℕ → ℕ
address_and_bit p = p.0 * 8 + p.1

-- The result of a fuse with its address and bit: the fuse times 2^20, plus that of the address and the bit.
abbrev pub fuse_and_address : LocatedFuse → ℕ
fuse_and_address q = q.0 * 2 ^ 20 + address_and_bit q.1

-- The four results of the sizes of a device.
abbrev pub fuses_in : Sizes → ℕ
fuses_in z = z.fuses

abbrev pub image_bytes_in : Sizes → ℕ
image_bytes_in z = z.image_bytes

abbrev pub readout_bytes_in : Sizes → ℕ
readout_bytes_in z = z.readout_bytes

abbrev pub text_bytes_in : Sizes → ℕ
text_bytes_in z = z.text_bytes

-- The result of a single number.
abbrev pub itself : ℕ → ℕ
itself x = x

-- The result of a call that has none.
abbrev pub no_result : Unit {0} → ℕ
no_result x = 0

-- A result that there may not be: 2^56 - 1 where there is none.
abbrev pub or_none : {A : Type 0} → (A → ℕ) → Option A → ℕ
or_none result none = 2 ^ 56 - 1
or_none result (some x) = result x

-- The result of a setting and a bit: the setting's number times 32 plus the bit.
abbrev pub setting_and_bit : Device → Setting × ℕ → ℕ
setting_and_bit d p = number_of d p.0 * 32 + p.1

-- What a caller reads of a word by the header's XC9500_REFUSAL and XC9500_RESULT.
abbrev pub refusal_in : (word : ℕ) → ℕ
refusal_in word = word / 2 ^ 56

abbrev pub result_in : (word : ℕ) → ℕ
result_in word = word % 2 ^ 56

-- And of the parts of a result by its xc9500_result_address, xc9500_result_bit and xc9500_result_setting_fuse: an
-- address has 17 bits, so address and bit are read alike from both results that have them.
abbrev pub address_in : (word : ℕ) → ℕ
address_in word = word / 8 % 2 ^ 17

abbrev pub bit_in : (word : ℕ) → ℕ
bit_in word = word % 8

abbrev pub fuse_in : (word : ℕ) → ℕ
fuse_in word = result_in word / 2 ^ 20

-- An accepted answer is read as refusal 0 and its result, a refused one as its number, which is not 0, and its value.
abbrev pub WordReads : {A : Type 0} → (A → ℕ) → Outcome A → (word : ℕ) → Type 0
WordReads result (accepted x) word = (refusal_in word ≡ 0) × (result_in word ≡ result x)
WordReads result (refused number value) word =
    (0 < refusal_in word) × (refusal_in word ≡ number) × (result_in word ≡ value)

-- Where the result, or the value, has 56 bits, and no refusal has the number 0.
abbrev pub WordFits : {A : Type 0} → (A → ℕ) → Outcome A → Type 0
WordFits result (accepted x) = result x < 2 ^ 56
WordFits result (refused number value) = (0 < number) × (value < 2 ^ 56)

-- The same where there may be no result: a result that there is is not the one that stands for none.
abbrev pub WordFitsOrNone : {A : Type 0} → (A → ℕ) → Outcome (Option A) → Type 0
WordFitsOrNone result (accepted none) = Unit {0}
WordFitsOrNone result (accepted (some x)) = result x < 2 ^ 56 - 1
WordFitsOrNone result (refused number value) = (0 < number) × (value < 2 ^ 56)
