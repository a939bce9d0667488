-- What holds of the lists of specs/Values.antt:
--   flag_true             a flag is true at 0 and false at 1
--   usercode_inverted     USERCODE's pattern is the complement of its number
--   usercode_bits         each bit of USERCODE is stored inverted
--   fclk_rule, foe_rule   10 is GCLK[c + 1] or GOE[e + 1], where the first follows the last, and 01 is GCLK[c] or GOE[e]
--   bits_small            no kind has more than 32 bits
use mathlib.Core.Path.{◌≡◌, refl, sym, ◌∙◌, ap}
use mathlib.Core.Bool.{Bool, true, false, cond}
use Prim.Native.Nat.{ℕ, ◌+◌, ◌*◌, ◌-◌, ◌/◌, ◌%◌, ◌^◌, ◌≤◌, ◌<◌}
use native.Mathlib.Nat.{div-add-mod', mod-lt, add-mul, lt_of_mul-lt-mul_right}
use native.Mathlib.Omega.{arith}
use lib.Arith.{digits_div}
use lib.Pow.{pow_pos, pow-add}
use Rattle.part.proofs.Tables.{Each, each_below}
use Rattle.values.specs.Values.{bits2, named, fclk_muxes, small_foe_muxes, large_foe_muxes, bits_in, value_in, gclk, goe}
use Rattle.values.specs.declared.Value.{Value}
use Rattle.values.specs.declared.Value.TheVariants as value
use Rattle.values.specs.declared.Kind.{Kind}
use Rattle.values.specs.declared.Kind.TheVariants as kind

pub flag_true : (value_in kind.Flag 0 ≡ value.Flag true) × (value_in kind.Flag 1 ≡ value.Flag false)
unfolding named
flag_true = (refl, refl)

pub usercode_inverted : (p : ℕ) → value_in kind.Usercode p ≡ value.Usercode (2 ^ 32 - 1 - p)
usercode_inverted p = refl

-- The complement of q * c + r, where 2^32 is 2 * k * c: its high part is that of q.
complement : (p q r c k : ℕ) → q * c + r ≡ p → r < c → (2 * k) * c ≡ 2 ^ 32 → p < 2 ^ 32 → (2 ^ 32 - 1 - p) / c % 2 ≡ 1 - q % 2
complement p q r c k e l w h =
    let few : q < 2 * k = lt_of_mul-lt-mul_right c (omega arith) in
    let m = 2 * k - 1 - q in
    let whole : m + q + 1 ≡ 2 * k = omega arith in
    let split : m * c + q * c + c ≡ 2 ^ 32 =
    sym (rw (add-mul (m + q) 1 c, add-mul m q c) (omega arith)) ∙ ap (λ (x : ℕ). x * c) whole ∙ w in
    let parts : 2 ^ 32 - 1 - p ≡ m * c + (c - 1 - r) = omega arith in
    rw (parts, digits_div m (rest c r l)) (omega arith)
  where
    rest : (c r : ℕ) → r < c → c - 1 - r < c
    rest c r l = omega arith

pub usercode_bits : (p b : ℕ) → p < 2 ^ 32 → b < 32 → (2 ^ 32 - 1 - p) / 2 ^ b % 2 ≡ 1 - p / 2 ^ b % 2
usercode_bits p b h l =
    let sum : 1 + (31 - b) + b ≡ 32 = omega arith in
    complement p (p / 2 ^ b) (p % 2 ^ b) (2 ^ b) (2 ^ (31 - b)) (div-add-mod' p (2 ^ b)) (mod-lt p (pow_pos b))
    (sym (rw (pow-add 2 (1 + (31 - b)) b, pow-add 2 1 (31 - b)) refl) ∙ ap (λ (k : ℕ). 2 ^ k) sum) h

-- The rule of n lists, of which 10 names the next index and 01 the list's own.
abbrev pub Rule : (stands : ℕ → ℕ → Value) (name : ℕ → Value) (n : ℕ) → Type 0
Rule stands name n = (i : ℕ) → i < n → (stands i (bits2 1 0) ≡ name ((i + 1) % n)) × (stands i (bits2 0 1) ≡ name i)

-- It holds of a list if it holds of each index by computation.
ruled : (stands : ℕ → ℕ → Value) (name : ℕ → Value) (n : ℕ)
    → Each (λ i. (stands i (bits2 1 0) ≡ name ((i + 1) % n)) × (stands i (bits2 0 1) ≡ name i)) n
    → Rule stands name n
ruled stands name n each = each_below _ n each

pub fclk_rule : Rule (λ c. value_in (kind.FclkMux c)) gclk 3
unfolding named fclk_muxes
fclk_rule = ruled (λ c. value_in (kind.FclkMux c)) gclk 3 ((refl, refl), ((refl, refl), ((refl, refl), tt)))

pub foe_rule : (large : Bool) → Rule (λ e. value_in (kind.FoeMux e large)) goe (cond large 4 2)
unfolding named small_foe_muxes large_foe_muxes
foe_rule true = ruled (λ e. value_in (kind.FoeMux e true)) goe 4 ((refl, refl), ((refl, refl), ((refl, refl), ((refl, refl), tt))))
foe_rule false = ruled (λ e. value_in (kind.FoeMux e false)) goe 2 ((refl, refl), ((refl, refl), tt))

pub bits_small : (k : Kind) → bits_in k ≤ 32
bits_small kind.Flag = omega arith
bits_small kind.TermAlloc = omega arith
bits_small kind.ImportAlloc = omega arith
bits_small kind.ExportDir = omega arith
bits_small kind.IobOeMux = omega arith
bits_small kind.OutMux = omega arith
bits_small kind.OeMux = omega arith
bits_small kind.ClkMux = omega arith
bits_small kind.RegMode = omega arith
bits_small kind.RstSetMux = omega arith
bits_small kind.UimOeMux = omega arith
bits_small kind.IobSlew = omega arith
bits_small (kind.FclkMux c) = omega arith
bits_small (kind.FoeMux e large) = omega arith
bits_small kind.Usercode = omega arith

pub few_bits : (k : Kind) (bits : ℕ) → bits ≡ bits_in k → bits ≤ 32
few_bits k bits e = rw e (bits_small k)
