-- Which of 003's assignment lists each setting has. "Unless said otherwise a one-bit setting is true at fuse 0": a
-- flag. 003's lists are in the crate `values`, specs/Values.antt.
use Rattle.std.specs.Prelude.{ℕ}
use Rattle.part.specs.Device.{is_large}
use Rattle.part.specs.declared.Device.{Device}
use Rattle.settings.specs.declared.MacrocellField.{MacrocellField}
use Rattle.settings.specs.declared.MacrocellField.TheVariants.{Alloc, Inv, ImportUpAlloc, ImportDownAlloc, ExportDir}
use Rattle.settings.specs.declared.MacrocellField.TheVariants.{SumHp, IobOeMux, OeMux, OutMux, ClkMux, RegMode, RstMux}
use Rattle.settings.specs.declared.MacrocellField.TheVariants.{SetMux, Init, UimOeMux, UimOutInv, IobGnd, IobSlew, Hp}
use Rattle.settings.specs.declared.GlobalField.{GlobalField}
use Rattle.settings.specs.declared.GlobalField.TheVariants.{FsrInv, FclkInv, FoeInv, FclkMux, FoeMux, Usercode}
use Rattle.settings.specs.declared.Setting.{Setting}
use Rattle.settings.specs.declared.Setting.TheVariants.{Literal, WireAnd, Macrocell, Block, Global}
use Rattle.values.specs.declared.Value.{Value}
use Rattle.values.specs.declared.Kind.{Kind}
use Rattle.values.specs.declared.Kind.TheVariants as kind
use Rattle.values.specs.Values.{value_in}

-- 003: PT[*].ALLOC; IMPORT_*_ALLOC; EXPORT_DIR; IOB_OE_MUX; OUT_MUX; OE_MUX; CLK_MUX; REG_MODE; RST_MUX, SET_MUX;
-- UIM_OE_MUX; IOB_SLEW; everything else: false, true.
abbrev pub macrocell_kind : MacrocellField → Kind
macrocell_kind (Alloc k) = kind.TermAlloc
macrocell_kind Inv = kind.Flag
macrocell_kind ImportUpAlloc = kind.ImportAlloc
macrocell_kind ImportDownAlloc = kind.ImportAlloc
macrocell_kind ExportDir = kind.ExportDir
macrocell_kind SumHp = kind.Flag
macrocell_kind IobOeMux = kind.IobOeMux
macrocell_kind OeMux = kind.OeMux
macrocell_kind OutMux = kind.OutMux
macrocell_kind ClkMux = kind.ClkMux
macrocell_kind RegMode = kind.RegMode
macrocell_kind RstMux = kind.RstSetMux
macrocell_kind SetMux = kind.RstSetMux
macrocell_kind Init = kind.Flag
macrocell_kind UimOeMux = kind.UimOeMux
macrocell_kind UimOutInv = kind.Flag
macrocell_kind IobGnd = kind.Flag
macrocell_kind IobSlew = kind.IobSlew
macrocell_kind (Hp k) = kind.Flag

-- 003: FCLK[c].MUX; FOE[e].MUX (small device), (large device); USERCODE; everything else: false, true.
abbrev pub global_kind : Device → GlobalField → Kind
global_kind d FsrInv = kind.Flag
global_kind d (FclkInv c) = kind.Flag
global_kind d (FoeInv e) = kind.Flag
global_kind d (FclkMux c) = kind.FclkMux c
global_kind d (FoeMux e) = kind.FoeMux e (is_large d)
global_kind d Usercode = kind.Usercode

-- Literals, wire-AND and block fields are flags: true (included) is 0.
unfoldable pub kind_of : Device → Setting → Kind
kind_of d (Literal block j k l polarity) = kind.Flag
kind_of d (WireAnd i j k l) = kind.Flag
kind_of d (Macrocell block m field) = macrocell_kind field
kind_of d (Block block field) = kind.Flag
kind_of d (Global field) = global_kind d field

-- The value that a pattern of a setting stands for.
abbrev pub value_of : Device → Setting → ℕ → Value
value_of d s pattern = value_in (kind_of d s) pattern
