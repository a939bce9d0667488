-- The names of the settings and of their bits: document 02, K1. "Name parts are FB, MC, PT, IM, P or N, the field, and
-- the
-- bit after a dot where a field has several; wire-AND is `FB0 IM7 UIM FB1 MC3`, a global its field alone".
use Rattle.std.specs.Prelude.{ℕ, cond, List, [], ◌∷◌, ◌++◌, ltb}
use Rattle.std.proofs.Math.Option.{Option}
use Rattle.std.proofs.Math.Option.Option.{none, some}
use Rattle.part.specs.declared.Device.{Device}
use Rattle.settings.specs.declared.Polarity.{Polarity}
use Rattle.settings.specs.declared.Polarity.TheVariants.{P, N}
use Rattle.settings.specs.declared.MacrocellField.{MacrocellField}
use Rattle.settings.specs.declared.MacrocellField.TheVariants.{Alloc, Inv, ImportUpAlloc, ImportDownAlloc, ExportDir}
use Rattle.settings.specs.declared.MacrocellField.TheVariants.{SumHp, IobOeMux, OeMux, OutMux, ClkMux, RegMode, RstMux}
use Rattle.settings.specs.declared.MacrocellField.TheVariants.{SetMux, Init, UimOeMux, UimOutInv, IobGnd, IobSlew, Hp}
use Rattle.settings.specs.declared.BlockField.{BlockField}
use Rattle.settings.specs.declared.BlockField.TheVariants.{Enable, ExportEnable, PullupDisable, ReadProtA, ReadProtB}
use Rattle.settings.specs.declared.BlockField.TheVariants.{WriteProt}
use Rattle.settings.specs.declared.GlobalField.{GlobalField}
use Rattle.settings.specs.declared.GlobalField.TheVariants.{FsrInv, FclkInv, FoeInv, FclkMux, FoeMux, Usercode}
use Rattle.settings.specs.declared.Setting.{Setting}
use Rattle.settings.specs.declared.Setting.TheVariants.{Literal, WireAnd, Macrocell, Block, Global}
use Rattle.setting_places.specs.Places.{bits_of}
use Rattle.fuse_settings.specs.Back.{setting_at}
use Rattle.jedec.specs.Characters.{space, count_digits}
use Rattle.jedec.specs.Quoted.{chars}

-- A part of a name: a function block, macrocell, product term or input with its index, the polarity of a literal, the
-- mark of a wire-AND, or a field with its name.
pub data Part : Type 0 where
  fb : ℕ → Part
  mc : ℕ → Part
  pt : ℕ → Part
  im : ℕ → Part
  polarity : Polarity → Part
  uim : Part
  field : List ℕ → Part

-- The fields of a macrocell as document 01 spells them; the term of ALLOC and HP is a part of its own.
abbrev pub macrocell_field_name : MacrocellField → List ℕ
macrocell_field_name (Alloc k) = chars "ALLOC"
macrocell_field_name Inv = chars "INV"
macrocell_field_name ImportUpAlloc = chars "IMPORT_UP_ALLOC"
macrocell_field_name ImportDownAlloc = chars "IMPORT_DOWN_ALLOC"
macrocell_field_name ExportDir = chars "EXPORT_DIR"
macrocell_field_name SumHp = chars "SUM_HP"
macrocell_field_name IobOeMux = chars "IOB_OE_MUX"
macrocell_field_name OeMux = chars "OE_MUX"
macrocell_field_name OutMux = chars "OUT_MUX"
macrocell_field_name ClkMux = chars "CLK_MUX"
macrocell_field_name RegMode = chars "REG_MODE"
macrocell_field_name RstMux = chars "RST_MUX"
macrocell_field_name SetMux = chars "SET_MUX"
macrocell_field_name Init = chars "INIT"
macrocell_field_name UimOeMux = chars "UIM_OE_MUX"
macrocell_field_name UimOutInv = chars "UIM_OUT_INV"
macrocell_field_name IobGnd = chars "IOB_GND"
macrocell_field_name IobSlew = chars "IOB_SLEW"
macrocell_field_name (Hp k) = chars "HP"

-- The fields of a block.
abbrev pub block_field_name : BlockField → List ℕ
block_field_name Enable = chars "ENABLE"
block_field_name ExportEnable = chars "EXPORT_ENABLE"
block_field_name PullupDisable = chars "PULLUP_DISABLE"
block_field_name ReadProtA = chars "READ_PROT_A"
block_field_name ReadProtB = chars "READ_PROT_B"
block_field_name WriteProt = chars "WRITE_PROT"

-- The global fields: FCLK[c] and FOE[e] with their index between brackets.
abbrev pub global_field_name : GlobalField → List ℕ
global_field_name FsrInv = chars "FSR_INV"
global_field_name (FclkInv c) = chars "FCLK[" ++ count_digits c ++ chars "].INV"
global_field_name (FoeInv e) = chars "FOE[" ++ count_digits e ++ chars "].INV"
global_field_name (FclkMux c) = chars "FCLK[" ++ count_digits c ++ chars "].MUX"
global_field_name (FoeMux e) = chars "FOE[" ++ count_digits e ++ chars "].MUX"
global_field_name Usercode = chars "USERCODE"

-- The parts of a setting's name. The term of ALLOC and HP stands before the field.
abbrev pub macrocell_parts : MacrocellField → List Part
macrocell_parts (Alloc k) = pt k ∷ field (macrocell_field_name (Alloc k)) ∷ []
macrocell_parts Inv = field (macrocell_field_name Inv) ∷ []
macrocell_parts ImportUpAlloc = field (macrocell_field_name ImportUpAlloc) ∷ []
macrocell_parts ImportDownAlloc = field (macrocell_field_name ImportDownAlloc) ∷ []
macrocell_parts ExportDir = field (macrocell_field_name ExportDir) ∷ []
macrocell_parts SumHp = field (macrocell_field_name SumHp) ∷ []
macrocell_parts IobOeMux = field (macrocell_field_name IobOeMux) ∷ []
macrocell_parts OeMux = field (macrocell_field_name OeMux) ∷ []
macrocell_parts OutMux = field (macrocell_field_name OutMux) ∷ []
macrocell_parts ClkMux = field (macrocell_field_name ClkMux) ∷ []
macrocell_parts RegMode = field (macrocell_field_name RegMode) ∷ []
macrocell_parts RstMux = field (macrocell_field_name RstMux) ∷ []
macrocell_parts SetMux = field (macrocell_field_name SetMux) ∷ []
macrocell_parts Init = field (macrocell_field_name Init) ∷ []
macrocell_parts UimOeMux = field (macrocell_field_name UimOeMux) ∷ []
macrocell_parts UimOutInv = field (macrocell_field_name UimOutInv) ∷ []
macrocell_parts IobGnd = field (macrocell_field_name IobGnd) ∷ []
macrocell_parts IobSlew = field (macrocell_field_name IobSlew) ∷ []
macrocell_parts (Hp k) = pt k ∷ field (macrocell_field_name (Hp k)) ∷ []

unfoldable pub parts_of : Setting → List Part
parts_of (Literal block j k l p) = fb block ∷ mc j ∷ pt k ∷ im l ∷ polarity p ∷ []
parts_of (WireAnd i j k l) = fb i ∷ im j ∷ uim ∷ fb k ∷ mc l ∷ []
parts_of (Macrocell block m f) = fb block ∷ mc m ∷ macrocell_parts f
parts_of (Block block f) = fb block ∷ field (block_field_name f) ∷ []
parts_of (Global f) = field (global_field_name f) ∷ []

-- A part in characters.
abbrev pub polarity_name : Polarity → List ℕ
polarity_name P = chars "P"
polarity_name N = chars "N"

abbrev pub part_text : Part → List ℕ
part_text (fb n) = chars "FB" ++ count_digits n
part_text (mc n) = chars "MC" ++ count_digits n
part_text (pt n) = chars "PT" ++ count_digits n
part_text (im n) = chars "IM" ++ count_digits n
part_text (polarity p) = polarity_name p
part_text uim = chars "UIM"
part_text (field name) = name

-- Parts, each after a space; and parts with a space between them.
unfoldable pub spaced : List Part → List ℕ
spaced [] = []
spaced (p ∷ parts) = (space ∷ part_text p) ++ spaced parts

unfoldable pub joined : List Part → List ℕ
joined [] = []
joined (p ∷ parts) = part_text p ++ spaced parts

-- The bit after a dot where a setting has several.
unfoldable pub bit_text : Setting → ℕ → List ℕ
bit_text s bit = cond (ltb 1 (bits_of s)) (chars "." ++ count_digits bit) []

-- The name of a setting, and of one of its bits.
unfoldable pub setting_name : Setting → List ℕ
setting_name s = joined (parts_of s)

unfoldable pub name_of : Setting → ℕ → List ℕ
name_of s bit = setting_name s ++ bit_text s bit

-- The name of a fuse: that of the setting and the bit that have it, "or `unnamed`".
abbrev pub unnamed : List ℕ
unnamed = chars "unnamed"

abbrev pub name_or : Option (Setting × ℕ) → List ℕ
name_or none = unnamed
name_or (some (s, bit)) = name_of s bit

unfoldable pub name_at : Device → ℕ → List ℕ
name_at d fuse = name_or (setting_at d fuse)
