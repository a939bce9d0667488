-- The pattern of each value, found from the value and accepted only if it stands for that value (`value_in`).
-- What it is does not rest on how it is found: `pattern_iff` in proofs/Laws.antt.
use Rattle.std.specs.Prelude.{ℕ, ◌-◌, ◌^◌, Bool, true, false, cond, ◌&&◌, ◌||◌, eqb, ltb}
use Rattle.std.proofs.Math.Option.{Option}
use Rattle.std.proofs.Math.Option.Option.{none, some}
use Rattle.values.specs.Values.{bits_in, value_in}
use Rattle.values.specs.declared.TermAlloc.{TermAlloc}
use Rattle.values.specs.declared.TermAlloc.TheVariants as termAlloc
use Rattle.values.specs.declared.ImportAlloc.{ImportAlloc}
use Rattle.values.specs.declared.ImportAlloc.TheVariants as importAlloc
use Rattle.values.specs.declared.ExportDir.{ExportDir}
use Rattle.values.specs.declared.ExportDir.TheVariants as exportDir
use Rattle.values.specs.declared.IobOeMux.{IobOeMux}
use Rattle.values.specs.declared.IobOeMux.TheVariants as iobOeMux
use Rattle.values.specs.declared.OutMux.{OutMux}
use Rattle.values.specs.declared.OutMux.TheVariants as outMux
use Rattle.values.specs.declared.OeMux.{OeMux}
use Rattle.values.specs.declared.OeMux.TheVariants as oeMux
use Rattle.values.specs.declared.ClkMux.{ClkMux}
use Rattle.values.specs.declared.ClkMux.TheVariants as clkMux
use Rattle.values.specs.declared.RegMode.{RegMode}
use Rattle.values.specs.declared.RegMode.TheVariants as regMode
use Rattle.values.specs.declared.RstSetMux.{RstSetMux}
use Rattle.values.specs.declared.RstSetMux.TheVariants as rstSetMux
use Rattle.values.specs.declared.UimOeMux.{UimOeMux}
use Rattle.values.specs.declared.UimOeMux.TheVariants as uimOeMux
use Rattle.values.specs.declared.IobSlew.{IobSlew}
use Rattle.values.specs.declared.IobSlew.TheVariants as iobSlew
use Rattle.values.specs.declared.FclkMux.{FclkMux}
use Rattle.values.specs.declared.FclkMux.TheVariants as fclkMux
use Rattle.values.specs.declared.FoeMux.{FoeMux}
use Rattle.values.specs.declared.FoeMux.TheVariants as foeMux
use Rattle.values.specs.declared.Value.{Value}
use Rattle.values.specs.declared.Value.TheVariants as value
use Rattle.values.specs.declared.Kind.{Kind}
use Rattle.std.specs.Prelude as rust

-- Two values are the same if they are of one case, and the same in it (`same_iff` in proofs/Laws.antt): the case.
abbrev pub case_of : Value → ℕ
case_of (value.Flag x) = 0
case_of (value.TermAlloc x) = 1
case_of (value.ImportAlloc x) = 2
case_of (value.ExportDir x) = 3
case_of (value.IobOeMux x) = 4
case_of (value.OutMux x) = 5
case_of (value.OeMux x) = 6
case_of (value.ClkMux x) = 7
case_of (value.RegMode x) = 8
case_of (value.RstSetMux x) = 9
case_of (value.UimOeMux x) = 10
case_of (value.IobSlew x) = 11
case_of (value.FclkMux x) = 12
case_of (value.FoeMux x) = 13
case_of (value.Usercode x) = 14
case_of (value.Unassigned x) = 15

-- A number for each value of a case. A name has its pattern, except in FCLK.MUX and FOE.MUX, where a name has another
-- pattern for each c and e: there GCLK[g] and GOE[g] have g.
abbrev pub term_alloc_number : TermAlloc → ℕ
term_alloc_number termAlloc.None = 3
term_alloc_number termAlloc.Sum = 2
term_alloc_number termAlloc.Export = 1
term_alloc_number termAlloc.Special = 0

abbrev pub import_alloc_number : ImportAlloc → ℕ
import_alloc_number importAlloc.Export = 1
import_alloc_number importAlloc.Sum = 0

abbrev pub export_dir_number : ExportDir → ℕ
export_dir_number exportDir.Up = 1
export_dir_number exportDir.Down = 0

abbrev pub iob_oe_mux_number : IobOeMux → ℕ
iob_oe_mux_number iobOeMux.Gnd = 3
iob_oe_mux_number iobOeMux.OeMux = 2
iob_oe_mux_number iobOeMux.Vcc = 1

abbrev pub out_mux_number : OutMux → ℕ
out_mux_number outMux.Comb = 1
out_mux_number outMux.Ff = 0

abbrev pub oe_mux_number : OeMux → ℕ
oe_mux_number oeMux.Pt = 7
oe_mux_number oeMux.Foe0 = 6
oe_mux_number oeMux.Foe1 = 5
oe_mux_number oeMux.Foe2 = 4
oe_mux_number oeMux.Foe3 = 3

abbrev pub clk_mux_number : ClkMux → ℕ
clk_mux_number clkMux.Fclk1 = 3
clk_mux_number clkMux.Fclk2 = 2
clk_mux_number clkMux.Fclk0 = 1
clk_mux_number clkMux.Pt = 0

abbrev pub reg_mode_number : RegMode → ℕ
reg_mode_number regMode.Dff = 1
reg_mode_number regMode.Tff = 0

abbrev pub rst_set_mux_number : RstSetMux → ℕ
rst_set_mux_number rstSetMux.Pt = 1
rst_set_mux_number rstSetMux.Fsr = 0

abbrev pub uim_oe_mux_number : UimOeMux → ℕ
uim_oe_mux_number uimOeMux.OeMux = 3
uim_oe_mux_number uimOeMux.Gnd = 2
uim_oe_mux_number uimOeMux.Vcc = 1

abbrev pub iob_slew_number : IobSlew → ℕ
iob_slew_number iobSlew.Slow = 1
iob_slew_number iobSlew.Fast = 0

abbrev pub fclk_mux_number : FclkMux → ℕ
fclk_mux_number fclkMux.None = 3
fclk_mux_number fclkMux.Gclk0 = 0
fclk_mux_number fclkMux.Gclk1 = 1
fclk_mux_number fclkMux.Gclk2 = 2

abbrev pub foe_mux_number : FoeMux → ℕ
foe_mux_number foeMux.None = 4
foe_mux_number foeMux.Goe0 = 0
foe_mux_number foeMux.Goe1 = 1
foe_mux_number foeMux.Goe2 = 2
foe_mux_number foeMux.Goe3 = 3

abbrev pub flag_number : Bool → ℕ
flag_number true = 0
flag_number false = 1

abbrev pub in_case : Value → ℕ
in_case (value.Flag x) = flag_number x
in_case (value.TermAlloc x) = term_alloc_number x
in_case (value.ImportAlloc x) = import_alloc_number x
in_case (value.ExportDir x) = export_dir_number x
in_case (value.IobOeMux x) = iob_oe_mux_number x
in_case (value.OutMux x) = out_mux_number x
in_case (value.OeMux x) = oe_mux_number x
in_case (value.ClkMux x) = clk_mux_number x
in_case (value.RegMode x) = reg_mode_number x
in_case (value.RstSetMux x) = rst_set_mux_number x
in_case (value.UimOeMux x) = uim_oe_mux_number x
in_case (value.IobSlew x) = iob_slew_number x
in_case (value.FclkMux x) = fclk_mux_number x
in_case (value.FoeMux x) = foe_mux_number x
in_case (value.Usercode x) = x
in_case (value.Unassigned x) = x

unfoldable pub same : Value → Value → Bool
same v w = eqb (case_of v) (case_of w) && eqb (in_case v) (in_case w)

-- The only pattern that can stand for v, where `stands` says what each pattern stands for: the complement of
-- USERCODE's number (case 14), the pattern that the list has for GCLK[g] or GOE[g] (cases 12 and 13), the
-- number in the case of any other.
unfoldable pub candidate : (stands : ℕ → Value) → Value → ℕ
candidate stands v =
    cond (eqb (case_of v) 14)
    (2 ^ 32 - 1 - in_case v)
    (cond (eqb (case_of v) 12 || eqb (case_of v) 13)
    (cond (same (stands 1) v) 1 (cond (same (stands 2) v) 2 3))
    (in_case v))

-- The pattern that stands for it, if there is one (`pattern_iff` in proofs/Laws.antt).
unfoldable pub pattern_in : Kind → Value → Option ℕ
pattern_in k v =
    cond (ltb (candidate (value_in k) v) (2 ^ bits_in k) && same (value_in k (candidate (value_in k) v)) v)
    (some (candidate (value_in k) v))
    none

-- What an answer of the code says.
abbrev pub found_pattern : rust.Option ℕ → Option ℕ
found_pattern (rust.Some pattern) = some pattern
found_pattern rust.None = none
