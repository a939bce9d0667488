-- The derived `==` of values decides whether they are equal.
-- Assumes nothing.
use mathlib.Core.Path.{◌≡◌, refl, sym, ap, subst}
use mathlib.Core.Bool.{Bool, true, false, true≢false, beq}
use mathlib.Core.Logic.{inl, inr}
use mathlib.Core.List.{List, [], ◌∷◌}
use lib.Dec.{eqb}
use borrow.Author.Tests.{eqb-true}
use denote.Struct.Field.{Field}
use denote.Struct.Values.{Values}
use denote.Enum.Declared.{Record, Choice, Declared, values_one}
use denote.Enum.Bare.{Bare, sameb, same_true}
use denote.Enum.Compared.{Each, by}
use Rattle.std.specs.Bool.{Decides}
use Rattle.values.specs.declared.Value.{Value}
use Rattle.values.specs.contracts.Value.{enum}
use Rattle.values.specs.contracts.ValuePartialEq.TheImpl.{ghosts}
use Rattle.values.specs.contracts.ValueEq.TheImpl.Laws.{laws-law}
use Rattle.values.specs.contracts.TermAlloc as termAlloc
use Rattle.values.specs.contracts.ImportAlloc as importAlloc
use Rattle.values.specs.contracts.ExportDir as exportDir
use Rattle.values.specs.contracts.IobOeMux as iobOeMux
use Rattle.values.specs.contracts.OutMux as outMux
use Rattle.values.specs.contracts.OeMux as oeMux
use Rattle.values.specs.contracts.ClkMux as clkMux
use Rattle.values.specs.contracts.RegMode as regMode
use Rattle.values.specs.contracts.RstSetMux as rstSetMux
use Rattle.values.specs.contracts.UimOeMux as uimOeMux
use Rattle.values.specs.contracts.IobSlew as iobSlew
use Rattle.values.specs.contracts.FclkMux as fclkMux
use Rattle.values.specs.contracts.FoeMux as foeMux

-- Each variant's comparison tells apart what differs in it.
abbrev TellApart : (Fss : List (List Field)) → Each Bool Fss → Type 0
TellApart [] es = Unit {0}
TellApart (Fs ∷ Fss) es = ((x y : Values Fs) → es.0 x y ≡ true → x ≡ y) × TellApart Fss es.1

-- So does that of an enum.
same_choice : (Fss : List (List Field)) (es : Each Bool Fss) → TellApart Fss es → (c d : Choice Fss)
    → by false false Fss es c d ≡ true → c ≡ d
same_choice [] es all c d e = absurd c
same_choice (Fs ∷ Fss) es all (inl x) (inl y) e = ap inl (all.0 x y e)
same_choice (Fs ∷ Fss) es all (inl x) (inr y) e = absurd (true≢false (sym e))
same_choice (Fs ∷ Fss) es all (inr x) (inl y) e = absurd (true≢false (sym e))
same_choice (Fs ∷ Fss) es all (inr x) (inr y) e = ap inr (same_choice Fss es.1 all.1 x y e)

same_enum : (N : Record) (es : Each Bool N.parts) → TellApart N.parts es → (v w : N.D)
    → by false false N.parts es (N.as_values v) (N.as_values w) ≡ true → v ≡ w
same_enum N es all v w e = values_one N v w (same_choice N.parts es all (N.as_values v) (N.as_values w) e)

-- A variant of one field: what tells its values apart tells the variant's apart.
alone : {A : Type 0} (same : A → A → Bool) → ((x y : A) → same x y ≡ true → x ≡ y)
    → (x y : A × Unit {0}) → same x.0 y.0 ≡ true → x ≡ y
alone same one x y e = ap (λ z. (z, tt)) (one x.0 y.0 e)

bare : (D : Declared) → Bare D.parts → (x y : D.D × Unit {0}) → sameb D x.0 y.0 ≡ true → x ≡ y
bare D b = alone (sameb D) (same_true D b)

same_flag : (x y : Bool) → beq x y ≡ true → x ≡ y
same_flag true true e = refl
same_flag true false e = absurd (true≢false (sym e))
same_flag false true e = absurd (true≢false (sym e))
same_flag false false e = refl

same_value : (v w : Value) → ghosts.eq v w ≡ true → v ≡ w
same_value =
    same_enum enum _ (
      alone beq same_flag,
      (
        bare termAlloc.the_type tt,
        (
          bare importAlloc.the_type tt,
          (
            bare exportDir.the_type tt,
            (
              bare iobOeMux.the_type tt,
              (
                bare outMux.the_type tt,
                (
                  bare oeMux.the_type tt,
                  (
                    bare clkMux.the_type tt,
                    (
                      bare regMode.the_type tt,
                      (
                        bare rstSetMux.the_type tt,
                        (
                          bare uimOeMux.the_type tt,
                          (
                            bare iobSlew.the_type tt,
                            (bare fclkMux.the_type tt, (bare foeMux.the_type tt, (alone eqb eqb-true, (alone eqb eqb-true, tt)))),
                          ),
                        ),
                      ),
                    ),
                  ),
                ),
              ),
            ),
          ),
        ),
      ),
    )

pub equal_value : (v w : Value) → Decides (ghosts.eq v w) (v ≡ w)
equal_value v w = (same_value v w, λ e. subst (λ x. ghosts.eq v x ≡ true) e (laws-law.refl v))
