-- What each pattern of each field is, in the words of 003's assignment lists: on the part of two blocks.
-- Assumes nothing.
use Rattle.std.specs.Prelude.{◌≡◌, true, false, List, [], ◌∷◌, map, ℕ}
use Rattle.part.specs.Outcome.Outcome.{accepted}
use Rattle.part.specs.declared.Device.{Device}
use Rattle.part.specs.Cases.{two_small}
use Rattle.settings.specs.Cases.{numbers_from}
use Rattle.settings.specs.declared.Polarity.TheVariants.{P}
use Rattle.settings.specs.declared.MacrocellField.TheVariants.{Alloc, Inv, ImportUpAlloc, ImportDownAlloc, ExportDir}
use Rattle.settings.specs.declared.MacrocellField.TheVariants.{SumHp, IobOeMux, OeMux, OutMux, ClkMux, RegMode, RstMux}
use Rattle.settings.specs.declared.MacrocellField.TheVariants.{SetMux, Init, UimOeMux, UimOutInv, IobGnd, IobSlew, Hp}
use Rattle.settings.specs.declared.BlockField.TheVariants.{Enable, ExportEnable, PullupDisable, ReadProtA, ReadProtB}
use Rattle.settings.specs.declared.BlockField.TheVariants.{WriteProt}
use Rattle.settings.specs.declared.GlobalField.TheVariants.{FsrInv, FclkInv, FoeInv, FclkMux, FoeMux, Usercode}
use Rattle.settings.specs.declared.Setting.{Setting}
use Rattle.settings.specs.declared.Setting.TheVariants.{Literal, WireAnd, Macrocell, Block, Global}
use Rattle.values.specs.declared.TermAlloc.TheVariants as termAlloc
use Rattle.values.specs.declared.ImportAlloc.TheVariants as importAlloc
use Rattle.values.specs.declared.ExportDir.TheVariants as exportDir
use Rattle.values.specs.declared.IobOeMux.TheVariants as iobOeMux
use Rattle.values.specs.declared.OutMux.TheVariants as outMux
use Rattle.values.specs.declared.OeMux.TheVariants as oeMux
use Rattle.values.specs.declared.ClkMux.TheVariants as clkMux
use Rattle.values.specs.declared.RegMode.TheVariants as regMode
use Rattle.values.specs.declared.RstSetMux.TheVariants as rstSetMux
use Rattle.values.specs.declared.UimOeMux.TheVariants as uimOeMux
use Rattle.values.specs.declared.IobSlew.TheVariants as iobSlew
use Rattle.values.specs.declared.FclkMux.TheVariants as fclkMux
use Rattle.values.specs.declared.FoeMux.TheVariants as foeMux
use Rattle.values.specs.declared.Value.{Value}
use Rattle.values.specs.declared.Value.TheVariants as value
use Rattle.setting_values.specs.Operations.{value_of_pattern, pattern_of_value}

-- The values of a setting's patterns, from 0 on.
pub record Case : Type 0 where
  pub setting : Setting
  pub values : List Value

abbrev pub means : Setting → List Value → Case
means s values = record { setting = s; values = values }

-- Each pattern is its value, and each value has its pattern.
abbrev pub AllHold : Device → List Case → Type 0
AllHold d cases =
    (map (λ (c : Case). map (value_of_pattern d c.setting) (numbers_from 0 c.values)) cases
    ≡ map (λ (c : Case). map (λ (v : Value). accepted v) c.values) cases)
    × (map (λ (c : Case). map (pattern_of_value d c.setting) c.values) cases
    ≡ map (λ (c : Case). map (λ (k : ℕ). accepted k) (numbers_from 0 c.values)) cases)

-- True at 0.
abbrev pub flag : List Value
flag = value.Flag true ∷ value.Flag false ∷ []

abbrev pub allocations : List Value
allocations =
    value.TermAlloc termAlloc.Special ∷ value.TermAlloc termAlloc.Export ∷ value.TermAlloc termAlloc.Sum
    ∷ value.TermAlloc termAlloc.None ∷ []

abbrev pub imports : List Value
imports = value.ImportAlloc importAlloc.Sum ∷ value.ImportAlloc importAlloc.Export ∷ []

abbrev pub resets : List Value
resets = value.RstSetMux rstSetMux.Fsr ∷ value.RstSetMux rstSetMux.Pt ∷ []

abbrev pub small : List Case
small =
    means (Macrocell 0 0 (Alloc 0)) allocations
    ∷ means (Macrocell 0 0 (Alloc 1)) allocations
    ∷ means (Macrocell 0 0 (Alloc 2)) allocations
    ∷ means (Macrocell 0 0 (Alloc 3)) allocations
    ∷ means (Macrocell 0 0 (Alloc 4)) allocations
    ∷ means (Macrocell 0 0 Inv) flag
    ∷ means (Macrocell 0 0 ImportUpAlloc) imports
    ∷ means (Macrocell 0 0 ImportDownAlloc) imports
    ∷ means (Macrocell 0 0 ExportDir) (value.ExportDir exportDir.Down ∷ value.ExportDir exportDir.Up ∷ [])
    ∷ means (Macrocell 0 0 SumHp) flag
    ∷ means (Macrocell 0 0 IobOeMux) (value.Unassigned 0 ∷ value.IobOeMux iobOeMux.Vcc ∷ value.IobOeMux iobOeMux.OeMux
    ∷ value.IobOeMux iobOeMux.Gnd ∷ [])
    ∷ means (Macrocell 0 0 OeMux) (value.Unassigned 0 ∷ value.Unassigned 1 ∷ value.Unassigned 2 ∷ value.OeMux oeMux.Foe3
    ∷ value.OeMux oeMux.Foe2 ∷ value.OeMux oeMux.Foe1 ∷ value.OeMux oeMux.Foe0 ∷ value.OeMux oeMux.Pt ∷ [])
    ∷ means (Macrocell 0 0 OutMux) (value.OutMux outMux.Ff ∷ value.OutMux outMux.Comb ∷ [])
    ∷ means (Macrocell 0 0 ClkMux)
    (value.ClkMux clkMux.Pt ∷ value.ClkMux clkMux.Fclk0 ∷ value.ClkMux clkMux.Fclk2 ∷ value.ClkMux clkMux.Fclk1 ∷ [])
    ∷ means (Macrocell 0 0 RegMode) (value.RegMode regMode.Tff ∷ value.RegMode regMode.Dff ∷ [])
    ∷ means (Macrocell 0 0 RstMux) resets
    ∷ means (Macrocell 0 0 SetMux) resets
    ∷ means (Macrocell 0 0 Init) flag
    ∷ means (Macrocell 0 0 UimOeMux) (value.Unassigned 0 ∷ value.UimOeMux uimOeMux.Vcc ∷ value.UimOeMux uimOeMux.Gnd
    ∷ value.UimOeMux uimOeMux.OeMux ∷ [])
    ∷ means (Macrocell 0 0 UimOutInv) flag
    ∷ means (Macrocell 0 0 IobGnd) flag
    ∷ means (Macrocell 0 0 IobSlew) (value.IobSlew iobSlew.Fast ∷ value.IobSlew iobSlew.Slow ∷ [])
    ∷ means (Macrocell 0 0 (Hp 0)) flag
    ∷ means (Macrocell 0 0 (Hp 1)) flag
    ∷ means (Macrocell 0 0 (Hp 2)) flag
    ∷ means (Macrocell 0 0 (Hp 3)) flag
    ∷ means (Macrocell 0 0 (Hp 4)) flag
    ∷ means (Literal 0 0 0 0 P) flag
    ∷ means (WireAnd 0 0 0 0) flag
    ∷ means (Block 0 Enable) flag
    ∷ means (Block 0 ExportEnable) flag
    ∷ means (Block 0 PullupDisable) flag
    ∷ means (Block 0 ReadProtA) flag
    ∷ means (Block 0 ReadProtB) flag
    ∷ means (Block 0 WriteProt) flag
    ∷ means (Global FsrInv) flag
    ∷ means (Global (FclkInv 0)) flag
    ∷ means (Global (FclkInv 1)) flag
    ∷ means (Global (FclkInv 2)) flag
    ∷ means (Global (FoeInv 0)) flag
    ∷ means (Global (FoeInv 1)) flag
    ∷ means (Global (FclkMux 0))
    (value.Unassigned 0 ∷ value.FclkMux fclkMux.Gclk0 ∷ value.FclkMux fclkMux.Gclk1 ∷ value.FclkMux fclkMux.None ∷ [])
    ∷ means (Global (FclkMux 1))
    (value.Unassigned 0 ∷ value.FclkMux fclkMux.Gclk1 ∷ value.FclkMux fclkMux.Gclk2 ∷ value.FclkMux fclkMux.None ∷ [])
    ∷ means (Global (FclkMux 2))
    (value.Unassigned 0 ∷ value.FclkMux fclkMux.Gclk2 ∷ value.FclkMux fclkMux.Gclk0 ∷ value.FclkMux fclkMux.None ∷ [])
    ∷ means (Global (FoeMux 0))
    (value.Unassigned 0 ∷ value.FoeMux foeMux.Goe0 ∷ value.FoeMux foeMux.Goe1 ∷ value.FoeMux foeMux.None ∷ [])
    ∷ means (Global (FoeMux 1))
    (value.Unassigned 0 ∷ value.FoeMux foeMux.Goe1 ∷ value.FoeMux foeMux.Goe0 ∷ value.FoeMux foeMux.None ∷ [])
    ∷ []

abbrev pub large : List Case
large =
    means (Global (FoeMux 0))
    (value.Unassigned 0 ∷ value.FoeMux foeMux.Goe0 ∷ value.FoeMux foeMux.Goe1 ∷ value.FoeMux foeMux.None ∷ [])
    ∷ means (Global (FoeMux 1))
    (value.Unassigned 0 ∷ value.FoeMux foeMux.Goe1 ∷ value.FoeMux foeMux.Goe2 ∷ value.FoeMux foeMux.None ∷ [])
    ∷ means (Global (FoeMux 2))
    (value.Unassigned 0 ∷ value.FoeMux foeMux.Goe2 ∷ value.FoeMux foeMux.Goe3 ∷ value.FoeMux foeMux.None ∷ [])
    ∷ means (Global (FoeMux 3))
    (value.Unassigned 0 ∷ value.FoeMux foeMux.Goe3 ∷ value.FoeMux foeMux.Goe0 ∷ value.FoeMux foeMux.None ∷ [])
    ∷ []

-- A number is stored inverted.
abbrev pub Usercodes : Type 0
Usercodes =
    (value_of_pattern two_small (Global Usercode) 0 ≡ accepted (value.Usercode 4294967295))
    × (value_of_pattern two_small (Global Usercode) 4294967294 ≡ accepted (value.Usercode 1))
    × (pattern_of_value two_small (Global Usercode) (value.Usercode 0) ≡ accepted 4294967295)
