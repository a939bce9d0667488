-- What holds of the pattern of a value, each law once, for every kind:
--   same_iff              two values are the same exactly if they are equal
--   equal_same            the derived `==` of values is `same`
--   pattern_iff           p is the pattern of a value exactly if p has the kind's bits and stands for the value
--   no_pattern_iff        a value is refused exactly if no pattern of the kind stands for it
--   each_value            two patterns of a kind stand for two values
--   unassigned_iff        which patterns have no name; such a pattern is the value Unassigned that carries it, and no other
-- The lists are read by one test of every pattern of a kind, which antt computes.
use mathlib.Core.Path.{◌≡◌, refl, sym, ◌∙◌, ap, ap₂}
use mathlib.Core.Logic.{◌↔◌}
use mathlib.Core.Bool.{Bool, true, false, cond, not, ◌&&◌, true≢false}
use mathlib.Core.Option.{Option}
use mathlib.Core.Option.Option.{none, some}
use mathlib.Core.List.{List}
use Prim.Native.Nat.{ℕ, ◌-◌, ◌^◌, ◌<◌}
use native.Mathlib.Omega.{arith}
use lib.Dec.{eqb, ltb}
use borrow.Author.Tests.{eqb-true, eq-eqb, ltb-true, lt-ltb}
use Rattle.std.proofs.lemmas.Bool.Decides.{same_from_decides}
use Rattle.part.proofs.Facts.{given, and_iff}
use Rattle.part.proofs.Tables.{all_below, below_all}
use Rattle.values.specs.Values.{bits2, named, flags, term_allocs, import_allocs, export_dirs, iob_oe_muxes, out_muxes, oe_muxes, clk_muxes}
use Rattle.values.specs.Values.{reg_modes, rst_set_muxes, uim_oe_muxes, iob_slews, fclk_muxes, small_foe_muxes, large_foe_muxes, bits_in, value_in}
use Rattle.values.specs.Values.{unassigned, gclk, goe}
use Rattle.patterns.specs.Patterns.{case_of, in_case, same, candidate, pattern_in}
use Rattle.values.specs.declared.TermAlloc.TheVariants as termAlloc
use Rattle.values.specs.declared.ImportAlloc.TheVariants as importAlloc
use Rattle.values.specs.declared.ExportDir.TheVariants as exportDir
use Rattle.values.specs.declared.IobOeMux.TheVariants as iobOeMux
use Rattle.values.specs.declared.OutMux.TheVariants as outMux
use Rattle.values.specs.declared.OeMux.TheVariants as oeMux
use Rattle.values.specs.declared.ClkMux.TheVariants as clkMux
use Rattle.values.specs.declared.RegMode.TheVariants as regMode
use Rattle.values.specs.declared.RstSetMux.TheVariants as rstSetMux
use Rattle.values.specs.declared.UimOeMux.TheVariants as uimOeMux
use Rattle.values.specs.declared.IobSlew.TheVariants as iobSlew
use Rattle.values.specs.declared.FclkMux.TheVariants as fclkMux
use Rattle.values.specs.declared.FoeMux.TheVariants as foeMux
use Rattle.values.specs.declared.Value.{Value}
use Rattle.values.specs.declared.Value.TheVariants as value
use Rattle.values.specs.contracts.ValuePartialEq.TheImpl.{ghosts}
use Rattle.values.proofs.Equal.{equal_value}
use Rattle.values.specs.declared.Kind.{Kind}
use Rattle.values.specs.declared.Kind.TheVariants as kind

-- The value of a case and of a number in it.
value_of : ℕ → ℕ → Value
value_of case n =
    cond (eqb case 0) (named flags n)
    (cond (eqb case 1) (named term_allocs n)
    (cond (eqb case 2) (named import_allocs n)
    (cond (eqb case 3) (named export_dirs n)
    (cond (eqb case 4) (named iob_oe_muxes n)
    (cond (eqb case 5) (named out_muxes n)
    (cond (eqb case 6) (named oe_muxes n)
    (cond (eqb case 7) (named clk_muxes n)
    (cond (eqb case 8) (named reg_modes n)
    (cond (eqb case 9) (named rst_set_muxes n)
    (cond (eqb case 10) (named uim_oe_muxes n)
    (cond (eqb case 11) (named iob_slews n)
    (cond (eqb case 12) (cond (eqb n 3) (value.FclkMux fclkMux.None) (gclk n))
    (cond (eqb case 13) (cond (eqb n 4) (value.FoeMux foeMux.None) (goe n))
    (cond (eqb case 14) (value.Usercode n) (value.Unassigned n)))))))))))))))

determined : (v : Value) → value_of (case_of v) (in_case v) ≡ v
unfolding value_of named
determined (value.Flag true) = refl
determined (value.Flag false) = refl
determined (value.TermAlloc termAlloc.None) = refl
determined (value.TermAlloc termAlloc.Sum) = refl
determined (value.TermAlloc termAlloc.Export) = refl
determined (value.TermAlloc termAlloc.Special) = refl
determined (value.ImportAlloc importAlloc.Export) = refl
determined (value.ImportAlloc importAlloc.Sum) = refl
determined (value.ExportDir exportDir.Up) = refl
determined (value.ExportDir exportDir.Down) = refl
determined (value.IobOeMux iobOeMux.Gnd) = refl
determined (value.IobOeMux iobOeMux.OeMux) = refl
determined (value.IobOeMux iobOeMux.Vcc) = refl
determined (value.OutMux outMux.Comb) = refl
determined (value.OutMux outMux.Ff) = refl
determined (value.OeMux oeMux.Pt) = refl
determined (value.OeMux oeMux.Foe0) = refl
determined (value.OeMux oeMux.Foe1) = refl
determined (value.OeMux oeMux.Foe2) = refl
determined (value.OeMux oeMux.Foe3) = refl
determined (value.ClkMux clkMux.Fclk1) = refl
determined (value.ClkMux clkMux.Fclk2) = refl
determined (value.ClkMux clkMux.Fclk0) = refl
determined (value.ClkMux clkMux.Pt) = refl
determined (value.RegMode regMode.Dff) = refl
determined (value.RegMode regMode.Tff) = refl
determined (value.RstSetMux rstSetMux.Pt) = refl
determined (value.RstSetMux rstSetMux.Fsr) = refl
determined (value.UimOeMux uimOeMux.OeMux) = refl
determined (value.UimOeMux uimOeMux.Gnd) = refl
determined (value.UimOeMux uimOeMux.Vcc) = refl
determined (value.IobSlew iobSlew.Slow) = refl
determined (value.IobSlew iobSlew.Fast) = refl
determined (value.FclkMux fclkMux.None) = refl
determined (value.FclkMux fclkMux.Gclk0) = refl
determined (value.FclkMux fclkMux.Gclk1) = refl
determined (value.FclkMux fclkMux.Gclk2) = refl
determined (value.FoeMux foeMux.None) = refl
determined (value.FoeMux foeMux.Goe0) = refl
determined (value.FoeMux foeMux.Goe1) = refl
determined (value.FoeMux foeMux.Goe2) = refl
determined (value.FoeMux foeMux.Goe3) = refl
determined (value.Usercode x) = refl
determined (value.Unassigned x) = refl

pub same_iff : (v w : Value) → (same v w ≡ true) ↔ (v ≡ w)
unfolding same
same_iff v w = (to, from)
  where
    to : same v w ≡ true → v ≡ w
    to h =
        let both = (and_iff (eqb (case_of v) (case_of w)) (eqb (in_case v) (in_case w))).0 h in
        sym (determined v)
        ∙ ap₂ value_of (eqb-true (case_of v) (case_of w) both.0) (eqb-true (in_case v) (in_case w) both.1) ∙ determined w

    from : v ≡ w → same v w ≡ true
    from e = (and_iff (eqb (case_of v) (case_of w)) (eqb (in_case v) (in_case w))).1 (eq-eqb _ _ (ap case_of e), eq-eqb _ _ (ap in_case e))

-- So the derived `==` is `same`.
pub equal_same : (v w : Value) → ghosts.eq v w ≡ same v w
equal_same v w = same_from_decides (ghosts.eq v w) (same v w) (equal_value v w) (same_iff v w)

-- What a test `==` of the code says, by its result.
pub compared : (v w x : Value) (t b : Bool) → t ≡ ghosts.eq v w → v ≡ x → t ≡ b → same x w ≡ b
compared v w x t b e f g = ap (λ (z : Value). same z w) (sym f) ∙ sym (equal_same v w) ∙ sym e ∙ g

-- A pattern is right if it is the candidate of the value that it stands for, and that is Unassigned where it should be.
right : (stands : ℕ → Value) (without : ℕ → Bool) → ℕ → Bool
right stands without p =
    eqb (candidate stands (stands p)) p
    && cond (without p) (same (stands p) (value.Unassigned p)) (not (eqb (case_of (stands p)) 15))

module _ (k : Kind) where
  AllRight : Type 0
  AllRight = (p : ℕ) → p < 2 ^ bits_in k → right (value_in k) (unassigned k) p ≡ true

  tested : all_below (right (value_in k) (unassigned k)) (2 ^ bits_in k) ≡ true → AllRight
  unfolding AllRight
  tested h = below_all (right (value_in k) (unassigned k)) (2 ^ bits_in k) h

-- What holds of both choices holds of the choice.
of_both : {A : Type 0} (P : A → Type 0) (t : Bool) {x y : A} → P x → P y → P (cond t x y)
of_both P true p q = p
of_both P false p q = q

-- The test of a list of FCLK.MUX or FOE.MUX.
RightList : List (ℕ × Value) → Type 0
RightList list = all_below (right (named list) (λ p. eqb p (bits2 0 0))) 4 ≡ true

all_right : (k : Kind) → AllRight k
unfolding right candidate same named AllRight RightList fclk_muxes small_foe_muxes large_foe_muxes
all_right kind.Flag = tested kind.Flag refl
all_right kind.TermAlloc = tested kind.TermAlloc refl
all_right kind.ImportAlloc = tested kind.ImportAlloc refl
all_right kind.ExportDir = tested kind.ExportDir refl
all_right kind.IobOeMux = tested kind.IobOeMux refl
all_right kind.OutMux = tested kind.OutMux refl
all_right kind.OeMux = tested kind.OeMux refl
all_right kind.ClkMux = tested kind.ClkMux refl
all_right kind.RegMode = tested kind.RegMode refl
all_right kind.RstSetMux = tested kind.RstSetMux refl
all_right kind.UimOeMux = tested kind.UimOeMux refl
all_right kind.IobSlew = tested kind.IobSlew refl
all_right (kind.FclkMux c) =
    tested (kind.FclkMux c) (of_both RightList (eqb c 0) refl (of_both RightList (eqb c 1) refl refl))
all_right (kind.FoeMux e large) =
    tested (kind.FoeMux e large)
    (of_both RightList large
    (of_both RightList (eqb e 0) refl (of_both RightList (eqb e 1) refl (of_both RightList (eqb e 2) refl refl)))
    (of_both RightList (eqb e 0) refl refl))
all_right kind.Usercode = λ p h.
    let e : 2 ^ 32 - 1 - (2 ^ 32 - 1 - p) ≡ p = omega arith in rw (eq-eqb (2 ^ 32 - 1 - (2 ^ 32 - 1 - p)) p e)

-- The candidate of the value that a pattern stands for.
recovered : (k : Kind) (p : ℕ) → p < 2 ^ bits_in k → candidate (value_in k) (value_in k p) ≡ p
unfolding right AllRight
recovered k p h = eqb-true _ _ ((and_iff (eqb (candidate (value_in k) (value_in k p)) p) _).0 (all_right k p h)).0

pub pattern_iff : (k : Kind) (v : Value) (p : ℕ) → (pattern_in k v ≡ some p) ↔ ((p < 2 ^ bits_in k) × (value_in k p ≡ v))
unfolding pattern_in
pattern_iff k v p = (to, from)
  where
    c : ℕ
    c = candidate (value_in k) v

    to : pattern_in k v ≡ some p → (p < 2 ^ bits_in k) × (value_in k p ≡ v)
    to e =
        let is = given (ltb c (2 ^ bits_in k) && same (value_in k c) v) c p e in
        let both = (and_iff (ltb c (2 ^ bits_in k)) (same (value_in k c) v)).0 is.0 in
        rw (← is.1) (ltb-true c (2 ^ bits_in k) both.0, (same_iff (value_in k c) v).0 both.1)

    from : (p < 2 ^ bits_in k) × (value_in k p ≡ v) → pattern_in k v ≡ some p
    from h =
        let is : candidate (value_in k) v ≡ p = ap (candidate (value_in k)) (sym h.1) ∙ recovered k p h.0 in
        rw (is, lt-ltb p (2 ^ bits_in k) h.0, (same_iff (value_in k p) v).1 h.1)

pub no_pattern_iff : (k : Kind) (v : Value) → (pattern_in k v ≡ none) ↔ ((p : ℕ) → p < 2 ^ bits_in k → value_in k p ≡ v → ⊥)
no_pattern_iff k v = (λ e p h f. some_not_none (sym ((pattern_iff k v p).1 (h, f)) ∙ e), λ n. judged (pattern_in k v) refl n)
  where
    some_not_none : {p : ℕ} → some p ≡ none → ⊥
    some_not_none e = let z : ◌≡◌ {A = ℕ} 0 1 = cc in omega arith

    judged : (o : Option ℕ) → pattern_in k v ≡ o → ((p : ℕ) → p < 2 ^ bits_in k → value_in k p ≡ v → ⊥) → pattern_in k v ≡ none
    judged none e n = e
    judged (some p) e n = let stands = (pattern_iff k v p).0 e in absurd (n p stands.0 stands.1)

pub each_value : (k : Kind) (p q : ℕ) → p < 2 ^ bits_in k → q < 2 ^ bits_in k → value_in k p ≡ value_in k q → p ≡ q
each_value k p q h i e = sym (recovered k p h) ∙ ap (candidate (value_in k)) e ∙ recovered k q i

pub unassigned_iff : (k : Kind) (p q : ℕ) → p < 2 ^ bits_in k
    → (value_in k p ≡ value.Unassigned q) ↔ ((unassigned k p ≡ true) × (q ≡ p))
unfolding right AllRight
unassigned_iff k p q h =
    judged (unassigned k p) (value_in k p) ((and_iff (eqb (candidate (value_in k) (value_in k p)) p) _).0 (all_right k p h)).1
  where
    judged : (u : Bool) (v : Value) → cond u (same v (value.Unassigned p)) (not (eqb (case_of v) 15)) ≡ true
        → (v ≡ value.Unassigned q) ↔ ((u ≡ true) × (q ≡ p))
    judged true v t =
        let e = (same_iff v (value.Unassigned p)).0 t in (λ f. (refl, cc), λ g. e ∙ ap value.Unassigned (sym g.1))
    judged false v t =
        (λ f. absurd (true≢false (sym t ∙ ap (λ (w : Value). not (eqb (case_of w) 15)) f)), λ g. absurd (true≢false (sym g.0)))
