-- States and blanks that stand at an offset among bytes.
-- A state is written by the character 0 or 1, whose codes are 48 and 49: half of either is 24.
use Rattle.std.specs.Prelude.{◌≡◌, ℕ, zero, suc, ◌+◌, ◌/◌, ◌%◌, ◌^◌, ◌≤◌, false, cond, ◌||◌, List, [], ◌∷◌, length, drop, ◌==◌, slice_index}
use Rattle.jedec.specs.Characters.{is_blank}

-- The first so many bytes are each 0 or 1.
unfoldable pub AllStates : ℕ → List ℕ → Type 0
AllStates zero bytes = Unit {0}
AllStates (suc k) bytes = (slice_index bytes 0 % 2 ^ 8 / 2 ≡ 24) × AllStates k (drop 1 bytes)

-- 1 for a blank at an offset, else 0.
abbrev pub one_if_blank : List ℕ → ℕ
one_if_blank [] = 0
one_if_blank (b ∷ bytes) = cond (is_blank b) 1 0

-- Whether a blank stands at an offset, which is then in the bytes.
pub record IsBlankAt (bytes : List ℕ) (at r : ℕ) : Type 0 where
  pub is : r ≡ one_if_blank (drop at bytes)
  pub few : r ≤ 1
  pub inside : at ≤ length bytes → at + r ≤ length bytes

-- So many states stand at an offset: none are told only where no state stands.
pub record StatesAt (bytes : List ℕ) (at r : ℕ) : Type 0 where
  pub inside : at + r ≤ length bytes
  pub few : r ≤ 8
  pub states : AllStates r (drop at bytes)
  pub stops : r ≡ 0 → (slice_index bytes at == 48 || slice_index bytes at == 49) ≡ false
