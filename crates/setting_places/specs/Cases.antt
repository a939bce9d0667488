-- Document 01's words about the places of USERCODE's bits, from place to bit; and fuses with their addresses, on the
-- part of two blocks and the small class.
use Rattle.std.specs.Prelude.{◌≡◌, List, [], ◌∷◌, map, ℕ, ◌+◌, ◌*◌, ◌-◌, ◌<◌, ◌≤◌}
use Rattle.std.proofs.Math.Option.{Option}
use Rattle.std.proofs.Math.Option.Option.{none, some}
use Rattle.part.specs.Cases.{two_small}
use Rattle.part.specs.Outcome.{Outcome}
use Rattle.part.specs.Outcome.Outcome.{accepted, refused}
use Rattle.settings.specs.declared.Polarity.TheVariants.{P, N}
use Rattle.settings.specs.declared.MacrocellField.TheVariants.{Inv, OeMux}
use Rattle.settings.specs.declared.GlobalField.TheVariants.{FoeMux, Usercode}
use Rattle.settings.specs.declared.Setting.{Setting}
use Rattle.settings.specs.declared.Setting.TheVariants.{Literal, WireAnd, Macrocell, Global}
use Rattle.setting_places.specs.Places.{LocatedFuse, main, global_place}
use Rattle.setting_places.specs.Operations.{located_bit}

-- (6,i,b) is bit 16+2(7-i)+(b-6), (7,i,b) is bit 2(7-i)+(b-6), i 0 to 7, b 6 or 7.
abbrev pub UsercodeRows : Type 0
UsercodeRows =
    (i b : ℕ) → i < 8 → 6 ≤ b → b < 8
    → (global_place Usercode (16 + 2 * (7 - i) + (b - 6)) ≡ main 0 6 i b)
    × (global_place Usercode (2 * (7 - i) + (b - 6)) ≡ main 0 7 i b)

-- A bit of a setting, and what is answered for it.
pub record Case : Type 0 where
  pub setting : Setting
  pub bit : ℕ
  pub answer : Outcome (Option LocatedFuse)

-- It is this fuse, at this address and bit; the setting has no such bit; the device has no such setting.
abbrev pub is : Setting → ℕ → (fuse address bitThere : ℕ) → Case
is s bit fuse address bitThere = record { setting = s; bit = bit; answer = accepted (some (fuse, (address, bitThere))) }

abbrev pub no_bit : Setting → ℕ → Case
no_bit s bit = record { setting = s; bit = bit; answer = accepted none }

abbrev pub no_setting : Setting → ℕ → Case
no_setting s bit = record { setting = s; bit = bit; answer = refused 4 0 }

abbrev pub AllHold : List Case → Type 0
AllHold cases =
    map (λ (c : Case). located_bit two_small c.setting c.bit) cases ≡ map (λ (c : Case). c.answer) cases

-- The three bits of OE_MUX lie in three rows, one below the other. Bit 0 of USERCODE lies in row 7, column 7: 7 times
-- 32, plus 8, plus 2. A wire-AND has bit 12 of its address set: 4096, plus 256 for its subarea, plus 8 times row 3,
-- plus 2.
abbrev pub cases : List Case
cases =
    is (Macrocell 0 0 OeMux) 0 3138 928 6
    ∷ is (Macrocell 0 0 OeMux) 1 3246 960 6
    ∷ is (Macrocell 0 0 OeMux) 2 3354 992 6
    ∷ no_bit (Macrocell 0 0 OeMux) 3
    ∷ is (Global Usercode) 0 818 234 6
    ∷ is (Global Usercode) 31 655 192 7
    ∷ no_bit (Global Usercode) 32
    ∷ is (WireAnd 0 7 1 3) 0 8548 4378 1
    ∷ is (Literal 0 4 2 7 P) 0 1677 490 1
    ∷ is (Literal 0 4 2 7 N) 0 1569 458 1
    ∷ is (Macrocell 0 10 Inv) 0 2391 705 7
    ∷ no_setting (Global (FoeMux 2)) 0
    ∷ []
