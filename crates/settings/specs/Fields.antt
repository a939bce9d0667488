-- The indices and fields of settings, and the place of each field in the order listed: document 01, "Settings and where
-- they lie". A field that there is not, as ALLOC of term 5, stands past the end.
use Rattle.std.specs.Prelude.{ℕ, ◌+◌, cond, ltb}
use Rattle.part.specs.Device.{is_large}
use Rattle.part.specs.declared.Device.{Device}
use Rattle.settings.specs.declared.Polarity.{Polarity}
use Rattle.settings.specs.declared.Polarity.TheVariants.{P, N}
use Rattle.settings.specs.declared.MacrocellField.{MacrocellField}
use Rattle.settings.specs.declared.MacrocellField.TheVariants.{Alloc, Inv, ImportUpAlloc, ImportDownAlloc}
use Rattle.settings.specs.declared.MacrocellField.TheVariants.{ExportDir, SumHp, IobOeMux, OeMux, OutMux, ClkMux}
use Rattle.settings.specs.declared.MacrocellField.TheVariants.{RegMode, RstMux, SetMux, Init, UimOeMux}
use Rattle.settings.specs.declared.MacrocellField.TheVariants.{UimOutInv, IobGnd, IobSlew, Hp}
use Rattle.settings.specs.declared.BlockField.{BlockField}
use Rattle.settings.specs.declared.BlockField.TheVariants.{Enable, ExportEnable, PullupDisable, ReadProtA}
use Rattle.settings.specs.declared.BlockField.TheVariants.{ReadProtB, WriteProt}
use Rattle.settings.specs.declared.GlobalField.{GlobalField}
use Rattle.settings.specs.declared.GlobalField.TheVariants.{FsrInv, FclkInv, FoeInv, FclkMux, FoeMux, Usercode}

-- Macrocell j (0 to 17), term k (0 to 4), input l (0 to 35).
abbrev pub macrocells : ℕ
macrocells = 18

abbrev pub terms : ℕ
terms = 5

abbrev pub inputs : ℕ
inputs = 36

-- FCLK[c], c 0 to 2; FOE 2 and 3 exist in the large class only.
abbrev pub fclks : ℕ
fclks = 3

abbrev pub foes : Device → ℕ
foes d = cond (is_large d) 4 2

-- The place of field k of so many that begin at `first`.
abbrev pub listed : (k count first past : ℕ) → ℕ
listed k count first past = cond (ltb k count) (first + k) past

-- P before N.
abbrev pub polarity_index : Polarity → ℕ
polarity_index P = 0
polarity_index N = 1

-- A macrocell's fields in the order listed, ALLOC and HP five fields each.
abbrev pub macrocell_fields : ℕ
macrocell_fields = 27

abbrev pub macrocell_index : MacrocellField → ℕ
macrocell_index (Alloc k) = listed k terms 0 macrocell_fields
macrocell_index Inv = 5
macrocell_index ImportUpAlloc = 6
macrocell_index ImportDownAlloc = 7
macrocell_index ExportDir = 8
macrocell_index SumHp = 9
macrocell_index IobOeMux = 10
macrocell_index OeMux = 11
macrocell_index OutMux = 12
macrocell_index ClkMux = 13
macrocell_index RegMode = 14
macrocell_index RstMux = 15
macrocell_index SetMux = 16
macrocell_index Init = 17
macrocell_index UimOeMux = 18
macrocell_index UimOutInv = 19
macrocell_index IobGnd = 20
macrocell_index IobSlew = 21
macrocell_index (Hp k) = listed k terms 22 macrocell_fields

-- A block's fields in the order listed.
abbrev pub block_index : BlockField → ℕ
block_index Enable = 0
block_index ExportEnable = 1
block_index PullupDisable = 2
block_index ReadProtA = 3
block_index ReadProtB = 4
block_index WriteProt = 5

abbrev pub block_fields : ℕ
block_fields = 6

-- The global fields in the order listed, c and e ascending, with so many FOE; USERCODE is one setting.
abbrev pub global_fields : ℕ → ℕ
global_fields count = 1 + fclks + count + fclks + count + 1

abbrev pub global_index : ℕ → GlobalField → ℕ
global_index count FsrInv = 0
global_index count (FclkInv c) = listed c fclks 1 (global_fields count)
global_index count (FoeInv e) = listed e count (1 + fclks) (global_fields count)
global_index count (FclkMux c) = listed c fclks (1 + fclks + count) (global_fields count)
global_index count (FoeMux e) = listed e count (1 + fclks + count + fclks) (global_fields count)
global_index count Usercode = 1 + fclks + count + fclks + count
