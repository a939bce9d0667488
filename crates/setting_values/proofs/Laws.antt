-- What holds of values and patterns of the settings of a device, each law once, for every device and setting:
--   values_inverse    a value has this pattern exactly if this pattern has that value
--   each_pattern      every pattern below 2^width has a value, and no other pattern has one
--   flag_true         a flag is true at fuse state 0
--   usercode-inverted USERCODE's number is the complement of its pattern
--   foe_1_mux         FOE[1].MUX 10 is GOE[0] in the small class and GOE[2] in the large
--   values, values_of_large, usercodes   each pattern of each field, on the part of two blocks (specs/Cases.antt)
use mathlib.Core.Path.{◌≡◌, refl}
use mathlib.Core.Logic.{◌↔◌}
use mathlib.Core.Bool.{Bool, true, false, cond}
use mathlib.Core.Option.{Option}
use mathlib.Core.Option.Option.{none, some}
use Prim.Native.Nat.{ℕ, ◌-◌, ◌^◌, ◌<◌}
use native.Mathlib.Omega.{arith}
use lib.Dec.{ltb}
use borrow.Author.Tests.{lt-ltb, ltb-true}
use Rattle.part.specs.Outcome.Outcome.{accepted}
use Rattle.part.specs.Device.{known, is_large}
use Rattle.part.specs.declared.Device.{Device}
use Rattle.part.proofs.Checks.{passed, result}
use Rattle.settings.specs.Settings.{has_setting}
use Rattle.settings.specs.declared.GlobalField.TheVariants.{FoeMux, Usercode}
use Rattle.settings.specs.declared.Setting.{Setting}
pub use Rattle.setting_values.proofs.Cases.{values, values_of_large, usercodes}
use Rattle.settings.specs.declared.Setting.TheVariants.{Global}
use Rattle.setting_places.specs.Places.{bits_of}
use Rattle.values.specs.Values.{value_in, bits_in, bits2, named, small_foe_muxes, large_foe_muxes, goe}
use Rattle.patterns.specs.Patterns.{pattern_in}
use Rattle.values.specs.declared.Value.{Value}
use Rattle.values.specs.declared.Value.TheVariants as value
use Rattle.values.specs.declared.Kind.TheVariants as kind
use Rattle.values.proofs.Laws as values
use Rattle.patterns.proofs.Laws as patterns
use Rattle.setting_values.specs.Kinds.{kind_of, value_of}
use Rattle.setting_values.specs.Operations.{value_of_pattern, pattern_of_value, if_pattern}
use Rattle.setting_values.proofs.Widths.{kind_bits}

found : (o : Option ℕ) (p : ℕ) → if_pattern o ≡ accepted p → o ≡ some p
found none p e = let z : ◌≡◌ {A = ℕ} 0 1 = cc in absurd (omega arith)
found (some q) p e = cc e

values_to : (d : Device) (s : Setting) (p : ℕ) (v : Value) → value_of_pattern d s p ≡ accepted v → pattern_of_value d s v ≡ accepted p
unfolding value_of_pattern pattern_of_value
values_to d s p v e =
    let outer = passed (known d) _ 1 0 e in
    let inner = passed (has_setting d s) _ 4 0 outer.1 in
    let fits = passed (ltb p (2 ^ bits_of s)) _ 5 0 inner.1 in
    let bits = kind_bits d s inner.0 in
    let below : p < 2 ^ bits_in (kind_of d s) = rw bits (ltb-true _ _ fits.0) in
    let pattern : pattern_in (kind_of d s) v ≡ some p = (patterns.pattern_iff (kind_of d s) v p).1 (below, result fits.1) in
    rw (outer.0, inner.0, pattern)

values_from : (d : Device) (s : Setting) (p : ℕ) (v : Value) → pattern_of_value d s v ≡ accepted p → value_of_pattern d s p ≡ accepted v
unfolding value_of_pattern pattern_of_value
values_from d s p v e =
    let outer = passed (known d) _ 1 0 e in
    let inner = passed (has_setting d s) _ 4 0 outer.1 in
    let stands = (patterns.pattern_iff (kind_of d s) v p).0 (found (pattern_in (kind_of d s) v) p inner.1) in
    let below : p < 2 ^ bits_of s = rw (← kind_bits d s inner.0) stands.0 in
    rw (outer.0, inner.0, lt-ltb p (2 ^ bits_of s) below, stands.1)

pub values_inverse : (d : Device) (s : Setting) (p : ℕ) (v : Value)
    → (value_of_pattern d s p ≡ accepted v) ↔ (pattern_of_value d s v ≡ accepted p)
values_inverse d s p v = (values_to d s p v, values_from d s p v)

pub each_pattern : (d : Device) (s : Setting) (p : ℕ) → known d ≡ true → has_setting d s ≡ true
    → (p < 2 ^ bits_of s) ↔ ((v : Value) × (value_of_pattern d s p ≡ accepted v))
unfolding value_of_pattern
each_pattern d s p k h = (
  λ l. (value_of d s p, rw (k, h, lt-ltb p (2 ^ bits_of s) l)),
  λ (v, e). ltb-true p (2 ^ bits_of s)
      (passed (ltb p (2 ^ bits_of s)) _ 5 0 (passed (has_setting d s) _ 4 0 (passed (known d) _ 1 0 e).1).1).0,
)

pub flag_true : (value_in kind.Flag 0 ≡ value.Flag true) × (value_in kind.Flag 1 ≡ value.Flag false)
flag_true = values.flag_true

pub usercode_inverted : (d : Device) (p : ℕ) → value_of d (Global Usercode) p ≡ value.Usercode (2 ^ 32 - 1 - p)
unfolding kind_of
usercode_inverted d p = refl

pub foe_1_mux : (d : Device) → value_of d (Global (FoeMux 1)) (bits2 1 0) ≡ goe (cond (is_large d) 2 0)
unfolding kind_of named small_foe_muxes large_foe_muxes
foe_1_mux d = go (is_large d)
  where
    go : (large : Bool) → value_in (kind.FoeMux 1 large) (bits2 1 0) ≡ goe (cond large 2 0)
    go true = refl
    go false = refl
