-- Numbers of settings on the part of two blocks, counted in document 01's order.
-- Assumes nothing.
use Rattle.std.specs.Prelude.{◌≡◌, List, [], ◌∷◌, ◌++◌, map, ℕ, suc}
use Rattle.part.specs.Outcome.Outcome.{accepted}
use Rattle.part.specs.declared.Device.{Device}
use Rattle.part.specs.Cases.{two_small}
use Rattle.settings.specs.Operations.{count_of_settings, setting_of_number, number_of_setting}
use Rattle.settings.specs.declared.Polarity.TheVariants.{P, N}
use Rattle.settings.specs.declared.MacrocellField.TheVariants.{Alloc, Inv, ImportUpAlloc, ImportDownAlloc}
use Rattle.settings.specs.declared.MacrocellField.TheVariants.{ExportDir, SumHp, IobOeMux, OeMux, OutMux, ClkMux}
use Rattle.settings.specs.declared.MacrocellField.TheVariants.{RegMode, RstMux, SetMux, Init, UimOeMux}
use Rattle.settings.specs.declared.MacrocellField.TheVariants.{UimOutInv, IobGnd, IobSlew, Hp}
use Rattle.settings.specs.declared.BlockField.TheVariants.{Enable, ExportEnable, PullupDisable, ReadProtA}
use Rattle.settings.specs.declared.BlockField.TheVariants.{ReadProtB, WriteProt}
use Rattle.settings.specs.declared.GlobalField.TheVariants.{FsrInv, FclkInv, FoeInv, FclkMux, FoeMux, Usercode}
use Rattle.settings.specs.declared.Setting.{Setting}
use Rattle.settings.specs.declared.Setting.TheVariants.{Literal, WireAnd, Macrocell, Block, Global}
use Rattle.settings.specs.declared.MacrocellField.{MacrocellField}
use Rattle.settings.specs.declared.BlockField.{BlockField}
use Rattle.settings.specs.declared.GlobalField.{GlobalField}

abbrev pub two_large : Device
two_large = record { blocks = 2; class = 1 }

abbrev pub macrocell_fields_in_order : List MacrocellField
macrocell_fields_in_order =
    Alloc 0 ∷ Alloc 1 ∷ Alloc 2 ∷ Alloc 3 ∷ Alloc 4 ∷ Inv ∷ ImportUpAlloc ∷ ImportDownAlloc ∷ ExportDir ∷ SumHp
    ∷ IobOeMux ∷ OeMux ∷ OutMux ∷ ClkMux ∷ RegMode ∷ RstMux ∷ SetMux ∷ Init ∷ UimOeMux ∷ UimOutInv ∷ IobGnd ∷ IobSlew
    ∷ Hp 0 ∷ Hp 1 ∷ Hp 2 ∷ Hp 3 ∷ Hp 4 ∷ []

abbrev pub block_fields_in_order : List BlockField
block_fields_in_order = Enable ∷ ExportEnable ∷ PullupDisable ∷ ReadProtA ∷ ReadProtB ∷ WriteProt ∷ []

abbrev pub global_fields_in_order : List GlobalField
global_fields_in_order =
    FsrInv ∷ FclkInv 0 ∷ FclkInv 1 ∷ FclkInv 2 ∷ FoeInv 0 ∷ FoeInv 1 ∷ FclkMux 0 ∷ FclkMux 1 ∷ FclkMux 2 ∷ FoeMux 0
    ∷ FoeMux 1 ∷ Usercode ∷ []

abbrev pub global_fields_of_large : List GlobalField
global_fields_of_large =
    FsrInv ∷ FclkInv 0 ∷ FclkInv 1 ∷ FclkInv 2 ∷ FoeInv 0 ∷ FoeInv 1 ∷ FoeInv 2 ∷ FoeInv 3 ∷ FclkMux 0 ∷ FclkMux 1
    ∷ FclkMux 2 ∷ FoeMux 0 ∷ FoeMux 1 ∷ FoeMux 2 ∷ FoeMux 3 ∷ Usercode ∷ []

-- Settings that follow one another, and the number of the first.
pub record Run : Type 0 where
  pub first : ℕ
  pub settings : List Setting

abbrev pub from : ℕ → List Setting → Run
from first settings = record { first = first; settings = settings }

-- As many numbers as a list is long, one after another.
abbrev pub numbers_from : {A : Type 0} → ℕ → List A → List ℕ
numbers_from first [] = []
numbers_from first (x ∷ list) = first ∷ numbers_from (suc first) list

-- Each has its number, and each number is its setting's.
abbrev pub AllHold : Device → List Run → Type 0
AllHold d runs =
    (map (λ (r : Run). map (number_of_setting d) r.settings) runs
    ≡ map (λ (r : Run). map (λ (k : ℕ). accepted k) (numbers_from r.first r.settings)) runs)
    × (map (λ (r : Run). map (setting_of_number d) (numbers_from r.first r.settings)) runs
    ≡ map (λ (r : Run). map (λ (s : Setting). accepted s) r.settings) runs)

abbrev pub small : List Run
small =
    -- The first and the last of each group, and one step of each index.
    from 0 (Literal 0 0 0 0 P ∷ Literal 0 0 0 0 N ∷ Literal 0 0 0 1 P ∷ [])
    ∷ from 72 (Literal 0 0 1 0 P ∷ [])
    ∷ from 360 (Literal 0 1 0 0 P ∷ [])
    ∷ from 6480 (Literal 1 0 0 0 P ∷ [])
    ∷ from 12959 (Literal 1 17 4 35 N ∷ WireAnd 0 0 0 0 ∷ WireAnd 0 0 0 1 ∷ [])
    ∷ from 12978 (WireAnd 0 0 1 0 ∷ [])
    ∷ from 12996 (WireAnd 0 1 0 0 ∷ [])
    ∷ from 14256 (WireAnd 1 0 0 0 ∷ [])
    ∷ from 15551 (WireAnd 1 35 1 17 ∷ [])
    -- The fields of a macrocell.
    ∷ from 15552 (map (Macrocell 0 0) macrocell_fields_in_order ++ Macrocell 0 1 (Alloc 0) ∷ [])
    ∷ from 16038 (Macrocell 1 0 (Alloc 0) ∷ [])
    ∷ from 16523 (Macrocell 1 17 (Hp 4) ∷ [])
    -- The fields of a block.
    ∷ from 16524 (map (Block 0) block_fields_in_order ++ map (Block 1) block_fields_in_order)
    -- The global fields.
    ∷ from 16536 (map Global global_fields_in_order)
    ∷ []

abbrev pub large : List Run
large = from 16536 (map Global global_fields_of_large) ∷ []

abbrev pub Counts : Type 0
Counts = (count_of_settings two_small ≡ accepted 16548) × (count_of_settings two_large ≡ accepted 16552)
