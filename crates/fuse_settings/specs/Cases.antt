-- Document 01's cases about settings and fuses, and the fuses of every field, on the part of two blocks, both ways.
-- Assumes nothing.
use Rattle.std.specs.Prelude.{◌≡◌, ℕ, suc, ◌+◌, ◌*◌, List, [], ◌∷◌, ◌++◌, map}
use Rattle.std.proofs.Math.Option.Option.{some}
use Rattle.part.specs.Outcome.Outcome.{accepted}
use Rattle.part.specs.Cases.{two_small}
use Rattle.part.specs.Device.{main_row_fuses, block_fuses}
use Rattle.part.specs.declared.Device.{Device}
use Rattle.settings.specs.declared.Polarity.TheVariants.{P, N}
use Rattle.settings.specs.declared.MacrocellField.TheVariants.{Alloc, Inv, ImportUpAlloc, ImportDownAlloc, ExportDir}
use Rattle.settings.specs.declared.MacrocellField.TheVariants.{SumHp, IobOeMux, OeMux, OutMux, ClkMux, RegMode, RstMux}
use Rattle.settings.specs.declared.MacrocellField.TheVariants.{SetMux, Init, UimOeMux, UimOutInv, IobGnd, IobSlew, Hp}
use Rattle.settings.specs.declared.BlockField.TheVariants.{Enable, ExportEnable, PullupDisable, ReadProtA, ReadProtB}
use Rattle.settings.specs.declared.BlockField.TheVariants.{WriteProt}
use Rattle.settings.specs.declared.GlobalField.TheVariants.{FsrInv, FclkInv, FoeInv, FclkMux, FoeMux, Usercode}
use Rattle.settings.specs.declared.Setting.{Setting}
use Rattle.settings.specs.declared.Setting.TheVariants.{Literal, WireAnd, Macrocell, Block, Global}
use Rattle.setting_places.specs.Operations.{fuse_of_bit}
use Rattle.fuse_settings.specs.Operations.{setting_at_fuse}

-- A bit of a setting is this fuse, and the other way round.
pub record Case : Type 0 where
  pub setting : Setting
  pub bit : ℕ
  pub fuse : ℕ

abbrev pub is : Setting → ℕ → ℕ → Case
is s bit fuse = record { setting = s; bit = bit; fuse = fuse }

abbrev pub AllHold : Device → List Case → Type 0
AllHold d cases =
    (map (λ (c : Case). fuse_of_bit d c.setting c.bit) cases ≡ map (λ (c : Case). accepted (some c.fuse)) cases)
    × (map (λ (c : Case). setting_at_fuse d c.fuse) cases
    ≡ map (λ (c : Case). accepted (some (c.setting, c.bit))) cases)

-- The bench cases.
abbrev pub bench_cases : List Case
bench_cases =
    is (Literal 0 4 2 7 P) 0 1677
    ∷ is (Literal 0 4 2 7 N) 0 1569
    ∷ is (WireAnd 0 7 1 3) 0 8548
    ∷ is (Macrocell 0 10 Inv) 0 2391
    ∷ is (Global Usercode) 0 818
    ∷ is (Global Usercode) 31 655
    ∷ []

-- Literals and wire-ANDs: the first and last bits of wide and narrow columns.
abbrev pub corners : List Case
corners =
    is (Literal 0 0 0 0 N) 0 0
    ∷ is (Literal 0 0 0 0 P) 0 108
    ∷ is (Literal 1 17 4 35 P) 0 16847
    ∷ is (Literal 0 2 4 0 N) 0 102
    ∷ is (Literal 0 3 0 0 N) 0 1
    ∷ is (WireAnd 0 0 0 0) 0 7776
    ∷ is (WireAnd 0 1 0 0) 0 7784
    ∷ is (WireAnd 0 5 0 0) 0 7777
    ∷ is (WireAnd 0 35 0 0) 0 7783
    ∷ is (WireAnd 1 34 1 17) 0 18143
    ∷ []

-- The bits of a setting, from 0 on.
abbrev pub bits_from : ℕ → Setting → List ℕ → List Case
bits_from bit s [] = []
bits_from bit s (fuse ∷ fuses) = is s bit fuse ∷ bits_from (suc bit) s fuses

abbrev pub bits : Setting → List ℕ → List Case
bits s fuses = bits_from 0 s fuses

-- The fuse at a block, a main row, a column of 8 bits and a bit.
abbrev pub at : (block row column bit : ℕ) → ℕ
at block row column bit = block * block_fuses two_small + row * main_row_fuses + column * 8 + bit

-- Every field of macrocell 10, which has column 1 and bit 7, and of block 1.
abbrev pub of_macrocell_and_block : List Case
of_macrocell_and_block =
    bits (Macrocell 0 10 (Alloc 0)) (at 0 12 1 7 ∷ at 0 13 1 7 ∷ [])
    ++ bits (Macrocell 0 10 (Alloc 1)) (at 0 14 1 7 ∷ at 0 15 1 7 ∷ [])
    ++ bits (Macrocell 0 10 (Alloc 2)) (at 0 16 1 7 ∷ at 0 17 1 7 ∷ [])
    ++ bits (Macrocell 0 10 (Alloc 3)) (at 0 18 1 7 ∷ at 0 19 1 7 ∷ [])
    ++ bits (Macrocell 0 10 (Alloc 4)) (at 0 20 1 7 ∷ at 0 21 1 7 ∷ [])
    ++ bits (Macrocell 0 10 Inv) (at 0 22 1 7 ∷ [])
    ++ bits (Macrocell 0 10 ImportUpAlloc) (at 0 23 1 7 ∷ [])
    ++ bits (Macrocell 0 10 ImportDownAlloc) (at 0 24 1 7 ∷ [])
    ++ bits (Macrocell 0 10 ExportDir) (at 0 25 1 7 ∷ [])
    ++ bits (Macrocell 0 10 SumHp) (at 0 26 1 7 ∷ [])
    ++ bits (Macrocell 0 10 IobOeMux) (at 0 27 1 7 ∷ at 0 28 1 7 ∷ [])
    ++ bits (Macrocell 0 10 OeMux) (at 0 29 1 7 ∷ at 0 30 1 7 ∷ at 0 31 1 7 ∷ [])
    ++ bits (Macrocell 0 10 OutMux) (at 0 35 1 7 ∷ [])
    ++ bits (Macrocell 0 10 ClkMux) (at 0 36 1 7 ∷ at 0 37 1 7 ∷ [])
    ++ bits (Macrocell 0 10 RegMode) (at 0 40 1 7 ∷ [])
    ++ bits (Macrocell 0 10 RstMux) (at 0 41 1 7 ∷ [])
    ++ bits (Macrocell 0 10 SetMux) (at 0 42 1 7 ∷ [])
    ++ bits (Macrocell 0 10 Init) (at 0 43 1 7 ∷ [])
    ++ bits (Macrocell 0 10 UimOeMux) (at 0 44 1 7 ∷ at 0 45 1 7 ∷ [])
    ++ bits (Macrocell 0 10 UimOutInv) (at 0 46 1 7 ∷ [])
    ++ bits (Macrocell 0 10 IobGnd) (at 0 48 1 7 ∷ [])
    ++ bits (Macrocell 0 10 IobSlew) (at 0 49 1 7 ∷ [])
    ++ bits (Macrocell 0 10 (Hp 0)) (at 0 50 1 7 ∷ [])
    ++ bits (Macrocell 0 10 (Hp 1)) (at 0 51 1 7 ∷ [])
    ++ bits (Macrocell 0 10 (Hp 2)) (at 0 52 1 7 ∷ [])
    ++ bits (Macrocell 0 10 (Hp 3)) (at 0 53 1 7 ∷ [])
    ++ bits (Macrocell 0 10 (Hp 4)) (at 0 54 1 7 ∷ [])
    ++ bits (Block 1 Enable) (at 1 67 0 6 ∷ [])
    ++ bits (Block 1 ExportEnable) (at 1 67 1 6 ∷ [])
    ++ bits (Block 1 PullupDisable) (at 1 68 6 6 ∷ [])
    ++ bits (Block 1 ReadProtA) (at 1 11 3 6 ∷ [])
    ++ bits (Block 1 ReadProtB) (at 1 68 3 6 ∷ [])
    ++ bits (Block 1 WriteProt) (at 1 68 0 6 ∷ [])

-- Every global field of the large class.
abbrev pub of_globals : List Case
of_globals =
    bits (Global FsrInv) (at 0 0 1 6 ∷ [])
    ++ bits (Global (FclkInv 0)) (at 0 0 2 6 ∷ [])
    ++ bits (Global (FclkInv 1)) (at 0 0 3 6 ∷ [])
    ++ bits (Global (FclkInv 2)) (at 0 0 4 6 ∷ [])
    ++ bits (Global (FoeInv 0)) (at 0 0 5 6 ∷ [])
    ++ bits (Global (FoeInv 1)) (at 0 0 6 6 ∷ [])
    ++ bits (Global (FoeInv 2)) (at 0 0 7 6 ∷ [])
    ++ bits (Global (FoeInv 3)) (at 0 0 8 6 ∷ [])
    ++ bits (Global (FclkMux 0)) (at 0 3 2 6 ∷ at 0 4 2 6 ∷ [])
    ++ bits (Global (FclkMux 1)) (at 0 3 3 6 ∷ at 0 4 3 6 ∷ [])
    ++ bits (Global (FclkMux 2)) (at 0 3 4 6 ∷ at 0 4 4 6 ∷ [])
    ++ bits (Global (FoeMux 0)) (at 0 3 5 6 ∷ at 0 4 5 6 ∷ [])
    ++ bits (Global (FoeMux 1)) (at 0 3 6 6 ∷ at 0 4 6 6 ∷ [])
    ++ bits (Global (FoeMux 2)) (at 0 3 7 6 ∷ at 0 4 7 6 ∷ [])
    ++ bits (Global (FoeMux 3)) (at 0 3 8 6 ∷ at 0 4 8 6 ∷ [])
    ++ bits (Global Usercode)
    (at 0 7 7 6 ∷ at 0 7 7 7 ∷ at 0 7 6 6 ∷ at 0 7 6 7 ∷ at 0 7 5 6 ∷ at 0 7 5 7 ∷ at 0 7 4 6 ∷ at 0 7 4 7
    ∷ at 0 7 3 6 ∷ at 0 7 3 7 ∷ at 0 7 2 6 ∷ at 0 7 2 7 ∷ at 0 7 1 6 ∷ at 0 7 1 7 ∷ at 0 7 0 6 ∷ at 0 7 0 7
    ∷ at 0 6 7 6 ∷ at 0 6 7 7 ∷ at 0 6 6 6 ∷ at 0 6 6 7 ∷ at 0 6 5 6 ∷ at 0 6 5 7 ∷ at 0 6 4 6 ∷ at 0 6 4 7
    ∷ at 0 6 3 6 ∷ at 0 6 3 7 ∷ at 0 6 2 6 ∷ at 0 6 2 7 ∷ at 0 6 1 6 ∷ at 0 6 1 7 ∷ at 0 6 0 6 ∷ at 0 6 0 7 ∷ [])
