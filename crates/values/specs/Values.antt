-- Which value each pattern stands for: document 003's assignment lists, in its order.
-- A pattern is a number whose bit b is the state of the fuse of bit b; in print the highest bit stands left.
use Rattle.std.specs.Prelude.{ℕ, ◌+◌, ◌*◌, ◌-◌, ◌^◌, Bool, true, false, cond, ◌||◌, List, [], ◌∷◌, eqb}
use Rattle.std.specs.Prelude.{Result, Ok, Err}
use Rattle.values.specs.declared.TermAlloc.TheVariants as termAlloc
use Rattle.values.specs.declared.ImportAlloc.TheVariants as importAlloc
use Rattle.values.specs.declared.ExportDir.TheVariants as exportDir
use Rattle.values.specs.declared.IobOeMux.TheVariants as iobOeMux
use Rattle.values.specs.declared.OutMux.TheVariants as outMux
use Rattle.values.specs.declared.OeMux.TheVariants as oeMux
use Rattle.values.specs.declared.ClkMux.TheVariants as clkMux
use Rattle.values.specs.declared.RegMode.TheVariants as regMode
use Rattle.values.specs.declared.RstSetMux.TheVariants as rstSetMux
use Rattle.values.specs.declared.UimOeMux.TheVariants as uimOeMux
use Rattle.values.specs.declared.IobSlew.TheVariants as iobSlew
use Rattle.values.specs.declared.FclkMux.TheVariants as fclkMux
use Rattle.values.specs.declared.FoeMux.TheVariants as foeMux
use Rattle.values.specs.declared.NoName.{NoName}
use Rattle.values.specs.declared.Value.{Value}
use Rattle.values.specs.declared.Value.TheVariants as value
use Rattle.values.specs.declared.Kind.{Kind}
use Rattle.values.specs.declared.Kind.TheVariants as kind

-- A pattern by its printed digits.
abbrev pub bits2 : (b1 b0 : ℕ) → ℕ
bits2 b1 b0 = 2 * b1 + b0

abbrev pub bits3 : (b2 b1 b0 : ℕ) → ℕ
bits3 b2 b1 b0 = 4 * b2 + 2 * b1 + b0

-- A pattern without a name in the list is the value Unassigned that carries it.
unfoldable pub named : List (ℕ × Value) → ℕ → Value
named [] pattern = value.Unassigned pattern
named (entry ∷ entries) pattern = cond (eqb pattern entry.0) entry.1 (named entries pattern)

-- What the answer of a search in a list of names says: the value of the name that it gives, or Unassigned.
abbrev pub value_by : {A : Type 0} → (A → Value) → Result A NoName → Value
value_by name (Ok x) = name x
value_by name (Err pattern) = value.Unassigned pattern.0

-- 003, "The fuse combination assignments are": PT[*].ALLOC.
abbrev pub term_allocs : List (ℕ × Value)
term_allocs =
    (bits2 1 1, value.TermAlloc termAlloc.None)
    ∷ (bits2 1 0, value.TermAlloc termAlloc.Sum)
    ∷ (bits2 0 1, value.TermAlloc termAlloc.Export)
    ∷ (bits2 0 0, value.TermAlloc termAlloc.Special)
    ∷ []

-- IMPORT_*_ALLOC.
abbrev pub import_allocs : List (ℕ × Value)
import_allocs = (1, value.ImportAlloc importAlloc.Export) ∷ (0, value.ImportAlloc importAlloc.Sum) ∷ []

-- EXPORT_DIR.
abbrev pub export_dirs : List (ℕ × Value)
export_dirs = (1, value.ExportDir exportDir.Up) ∷ (0, value.ExportDir exportDir.Down) ∷ []

-- IOB_OE_MUX.
abbrev pub iob_oe_muxes : List (ℕ × Value)
iob_oe_muxes =
    (bits2 1 1, value.IobOeMux iobOeMux.Gnd)
    ∷ (bits2 1 0, value.IobOeMux iobOeMux.OeMux)
    ∷ (bits2 0 1, value.IobOeMux iobOeMux.Vcc)
    ∷ []

-- OUT_MUX.
abbrev pub out_muxes : List (ℕ × Value)
out_muxes = (1, value.OutMux outMux.Comb) ∷ (0, value.OutMux outMux.Ff) ∷ []

-- OE_MUX.
abbrev pub oe_muxes : List (ℕ × Value)
oe_muxes =
    (bits3 1 1 1, value.OeMux oeMux.Pt)
    ∷ (bits3 1 1 0, value.OeMux oeMux.Foe0)
    ∷ (bits3 1 0 1, value.OeMux oeMux.Foe1)
    ∷ (bits3 1 0 0, value.OeMux oeMux.Foe2)
    ∷ (bits3 0 1 1, value.OeMux oeMux.Foe3)
    ∷ []

-- CLK_MUX.
abbrev pub clk_muxes : List (ℕ × Value)
clk_muxes =
    (bits2 1 1, value.ClkMux clkMux.Fclk1)
    ∷ (bits2 1 0, value.ClkMux clkMux.Fclk2)
    ∷ (bits2 0 1, value.ClkMux clkMux.Fclk0)
    ∷ (bits2 0 0, value.ClkMux clkMux.Pt)
    ∷ []

-- REG_MODE.
abbrev pub reg_modes : List (ℕ × Value)
reg_modes = (1, value.RegMode regMode.Dff) ∷ (0, value.RegMode regMode.Tff) ∷ []

-- RST_MUX, SET_MUX.
abbrev pub rst_set_muxes : List (ℕ × Value)
rst_set_muxes = (1, value.RstSetMux rstSetMux.Pt) ∷ (0, value.RstSetMux rstSetMux.Fsr) ∷ []

-- UIM_OE_MUX.
abbrev pub uim_oe_muxes : List (ℕ × Value)
uim_oe_muxes =
    (bits2 1 1, value.UimOeMux uimOeMux.OeMux)
    ∷ (bits2 1 0, value.UimOeMux uimOeMux.Gnd)
    ∷ (bits2 0 1, value.UimOeMux uimOeMux.Vcc)
    ∷ []

-- IOB_SLEW.
abbrev pub iob_slews : List (ℕ × Value)
iob_slews = (1, value.IobSlew iobSlew.Slow) ∷ (0, value.IobSlew iobSlew.Fast) ∷ []

-- Everything else.
abbrev pub flags : List (ℕ × Value)
flags = (1, value.Flag false) ∷ (0, value.Flag true) ∷ []

-- FCLK[c].MUX; no device has a c over 2, and here it is as 2.
unfoldable pub fclk_muxes : (c : ℕ) → List (ℕ × Value)
fclk_muxes c =
    cond (eqb c 0)
    ((bits2 1 1, value.FclkMux fclkMux.None)
    ∷ (bits2 1 0, value.FclkMux fclkMux.Gclk1)
    ∷ (bits2 0 1, value.FclkMux fclkMux.Gclk0)
    ∷ [])
    (cond (eqb c 1)
    ((bits2 1 1, value.FclkMux fclkMux.None)
    ∷ (bits2 1 0, value.FclkMux fclkMux.Gclk2)
    ∷ (bits2 0 1, value.FclkMux fclkMux.Gclk1)
    ∷ [])
    ((bits2 1 1, value.FclkMux fclkMux.None)
    ∷ (bits2 1 0, value.FclkMux fclkMux.Gclk0)
    ∷ (bits2 0 1, value.FclkMux fclkMux.Gclk2)
    ∷ []))

-- FOE[e].MUX (small device); no small device has an e over 1, and here it is as 1.
unfoldable pub small_foe_muxes : (e : ℕ) → List (ℕ × Value)
small_foe_muxes e =
    cond (eqb e 0)
    ((bits2 1 1, value.FoeMux foeMux.None)
    ∷ (bits2 1 0, value.FoeMux foeMux.Goe1)
    ∷ (bits2 0 1, value.FoeMux foeMux.Goe0)
    ∷ [])
    ((bits2 1 1, value.FoeMux foeMux.None)
    ∷ (bits2 1 0, value.FoeMux foeMux.Goe0)
    ∷ (bits2 0 1, value.FoeMux foeMux.Goe1)
    ∷ [])

-- FOE[e].MUX (large device); no large device has an e over 3, and here it is as 3.
unfoldable pub large_foe_muxes : (e : ℕ) → List (ℕ × Value)
large_foe_muxes e =
    cond (eqb e 0)
    ((bits2 1 1, value.FoeMux foeMux.None)
    ∷ (bits2 1 0, value.FoeMux foeMux.Goe1)
    ∷ (bits2 0 1, value.FoeMux foeMux.Goe0)
    ∷ [])
    (cond (eqb e 1)
    ((bits2 1 1, value.FoeMux foeMux.None)
    ∷ (bits2 1 0, value.FoeMux foeMux.Goe2)
    ∷ (bits2 0 1, value.FoeMux foeMux.Goe1)
    ∷ [])
    (cond (eqb e 2)
    ((bits2 1 1, value.FoeMux foeMux.None)
    ∷ (bits2 1 0, value.FoeMux foeMux.Goe3)
    ∷ (bits2 0 1, value.FoeMux foeMux.Goe2)
    ∷ [])
    ((bits2 1 1, value.FoeMux foeMux.None)
    ∷ (bits2 1 0, value.FoeMux foeMux.Goe0)
    ∷ (bits2 0 1, value.FoeMux foeMux.Goe3)
    ∷ [])))

-- How many bits the settings of a kind have.
abbrev pub bits_in : Kind → ℕ
bits_in kind.Flag = 1
bits_in kind.TermAlloc = 2
bits_in kind.ImportAlloc = 1
bits_in kind.ExportDir = 1
bits_in kind.IobOeMux = 2
bits_in kind.OutMux = 1
bits_in kind.OeMux = 3
bits_in kind.ClkMux = 2
bits_in kind.RegMode = 1
bits_in kind.RstSetMux = 1
bits_in kind.UimOeMux = 2
bits_in kind.IobSlew = 1
bits_in (kind.FclkMux c) = 2
bits_in (kind.FoeMux e large) = 2
bits_in kind.Usercode = 32

-- The value that a pattern stands for; USERCODE: "each bit stored inverted".
abbrev pub value_in : Kind → ℕ → Value
value_in kind.Flag pattern = named flags pattern
value_in kind.TermAlloc pattern = named term_allocs pattern
value_in kind.ImportAlloc pattern = named import_allocs pattern
value_in kind.ExportDir pattern = named export_dirs pattern
value_in kind.IobOeMux pattern = named iob_oe_muxes pattern
value_in kind.OutMux pattern = named out_muxes pattern
value_in kind.OeMux pattern = named oe_muxes pattern
value_in kind.ClkMux pattern = named clk_muxes pattern
value_in kind.RegMode pattern = named reg_modes pattern
value_in kind.RstSetMux pattern = named rst_set_muxes pattern
value_in kind.UimOeMux pattern = named uim_oe_muxes pattern
value_in kind.IobSlew pattern = named iob_slews pattern
value_in (kind.FclkMux c) pattern = named (fclk_muxes c) pattern
value_in (kind.FoeMux e large) pattern = named (cond large (large_foe_muxes e) (small_foe_muxes e)) pattern
value_in kind.Usercode pattern = value.Usercode (2 ^ 32 - 1 - pattern)

-- The patterns without a name.
abbrev pub unassigned : Kind → ℕ → Bool
unassigned kind.Flag pattern = false
unassigned kind.TermAlloc pattern = false
unassigned kind.ImportAlloc pattern = false
unassigned kind.ExportDir pattern = false
unassigned kind.IobOeMux pattern = eqb pattern (bits2 0 0)
unassigned kind.OutMux pattern = false
unassigned kind.OeMux pattern = eqb pattern (bits3 0 0 0) || eqb pattern (bits3 0 0 1) || eqb pattern (bits3 0 1 0)
unassigned kind.ClkMux pattern = false
unassigned kind.RegMode pattern = false
unassigned kind.RstSetMux pattern = false
unassigned kind.UimOeMux pattern = eqb pattern (bits2 0 0)
unassigned kind.IobSlew pattern = false
unassigned (kind.FclkMux c) pattern = eqb pattern (bits2 0 0)
unassigned (kind.FoeMux e large) pattern = eqb pattern (bits2 0 0)
unassigned kind.Usercode pattern = false

-- GCLK[g] and GOE[g].
abbrev pub gclk : ℕ → Value
gclk g = value.FclkMux (cond (eqb g 0) fclkMux.Gclk0 (cond (eqb g 1) fclkMux.Gclk1 fclkMux.Gclk2))

abbrev pub goe : ℕ → Value
goe g = value.FoeMux (cond (eqb g 0) foeMux.Goe0 (cond (eqb g 1) foeMux.Goe1 (cond (eqb g 2) foeMux.Goe2 foeMux.Goe3)))
