-- Numbers of decimal digits: the digits that bytes start with, and bytes that are 1 to 7 digits and nothing else.
-- Assumes nothing.
use mathlib.Core.Path.{◌≡◌, refl, sym, ◌∙◌, ap}
use mathlib.Core.List.{List, [], ◌∷◌, ◌++◌}
use mathlib.Core.Option.{Option}
use mathlib.Core.Option.Option.{none, some}
use Prim.Native.Nat.{ℕ, suc, ◌+◌, ◌*◌, ◌^◌, ◌≤◌, ◌<◌, min}
use native.Mathlib.Omega.{arith}
use native.Mathlib.Nat.{pow-suc, pow-le-pow_right, lt_of_lt_of_le}
use native.Mathlib.Numerals.{add-one}
use lib.Arith.{digits_lt}
use lib.ListN.{length, get_or, take, drop, length-append}
use lib.Seq.{take_all, length-take-le, take-suc, split_at}
use borrow.Author.Tests.{le-leb, lt-leb}
use Rattle.part.proofs.Facts.{compared}
use Rattle.jedec.specs.Characters.{decimal_value, and_then, digits_read, number_in}
use Rattle.jedec_judge.specs.Judged.{DigitsStand}
use Rattle.jedec_judge.specs.declared.digits.LeadingDigits.{LeadingDigits}
use Rattle.jedec_judge.proofs.DigitsRead.{digit_below, decimal_below}

-- A digit more is read behind the digits of the first bytes.
digits_snoc : (base : ℕ) (digit : ℕ → Option ℕ) (a : List ℕ) (x b : ℕ)
    → digits_read base digit x (a ++ (b ∷ [])) ≡ and_then (digits_read base digit x a) (λ v. and_then (digit b) (λ y. some (v * base + y)))
unfolding digits_read
digits_snoc base digit [] x b = refl
digits_snoc base digit (c ∷ a) x b = go (digit c) (λ y. digits_snoc base digit a (x * base + y) b)
  where
    go : (o : Option ℕ)
        → ((y : ℕ) → digits_read base digit (x * base + y) (a ++ (b ∷ []))
        ≡ and_then (digits_read base digit (x * base + y) a) (λ v. and_then (digit b) (λ z. some (v * base + z))))
        → and_then o (λ y. digits_read base digit (x * base + y) (a ++ (b ∷ [])))
        ≡ and_then (and_then o (λ y. digits_read base digit (x * base + y) a)) (λ v. and_then (digit b) (λ z. some (v * base + z)))
    go none ih = refl
    go (some y) ih = ih y

pub record Leads (bytes : List ℕ) (x i : ℕ) : Type 0 where
  pub inside : i ≤ length bytes
  pub few : i ≤ 7
  pub small : x < 10 ^ i
  pub reads : digits_read 10 decimal_value 0 (take i bytes) ≡ some x

pub leads_start : (bytes : List ℕ) → Leads bytes 0 0
unfolding digits_read
leads_start bytes = record { inside = omega arith; few = omega arith; small = omega arith; reads = refl }

module _ (bytes : List ℕ) (x i : ℕ) (r : Leads bytes x i) where
  leads_small : x < 10 ^ 7
  leads_small = lt_of_lt_of_le r.small (pow-le-pow_right (omega arith) r.few)

  pub leads_space : x * 10 < 2 ^ 32
  leads_space = omega (arith, leads_small)

  module _ (y : ℕ) (e : some y ≡ decimal_value (get_or bytes i 0)) where
    less : y < 10
    less = digit_below 10 y _ (decimal_below (get_or bytes i 0)) e

    pub leads_sum : x * 10 + y < 2 ^ 32
    leads_sum = omega (arith, leads_small, less)

    pub leads_on : i < length bytes → i < 7 → Leads bytes (x * 10 + y) (i + 1)
    leads_on l m =
        record {
          inside = omega arith;
          few = omega arith;
          small = rw (add-one i, pow-suc 10 i) (digits_lt r.small less);
          reads =
              rw (add-one i, take-suc bytes i 0 l, digits_snoc 10 decimal_value (take i bytes) 0 (get_or bytes i 0), r.reads, ← e);
        }

  pub leads_stop : none ≡ decimal_value (get_or bytes i 0) → DigitsStand bytes (record { value = x; length = i })
  leads_stop e = record { inside = r.inside; few = r.few; reads = r.reads; stops = λ l m. sym e }

  pub leads_end : (most : ℕ) → most ≡ min (length bytes) 7 → i ≤ most → most ≤ i
      → DigitsStand bytes (record { value = x; length = most })
  leads_end most e l m =
      let here : i ≡ most = omega arith in
      rw (← here) (record { inside = r.inside; few = r.few; reads = r.reads; stops = λ u v. absurd (omega arith) })

-- Digits and a byte behind them that is no digit write no number.
digits_wrong : (a c : List ℕ) (x v b : ℕ) → digits_read 10 decimal_value x a ≡ some v → decimal_value b ≡ none
    → digits_read 10 decimal_value x (a ++ (b ∷ c)) ≡ none
unfolding digits_read
digits_wrong [] c x v b e f = rw f
digits_wrong (d ∷ a) c x v b e f = go (decimal_value d) e (λ y h. digits_wrong a c (x * 10 + y) v b h f)
  where
    go : (o : Option ℕ) → and_then o (λ y. digits_read 10 decimal_value (x * 10 + y) a) ≡ some v
        → ((y : ℕ) → digits_read 10 decimal_value (x * 10 + y) a ≡ some v → digits_read 10 decimal_value (x * 10 + y) (a ++ (b ∷ c)) ≡ none)
        → and_then o (λ y. digits_read 10 decimal_value (x * 10 + y) (a ++ (b ∷ c))) ≡ none
    go none h ih = refl
    go (some y) h ih = ih y h

-- Only 1 to 7 digits and nothing else write a number.
pub in_number : (bytes : List ℕ) → 0 < length bytes → length bytes ≤ 7 → digits_read 10 decimal_value 0 bytes ≡ number_in bytes
unfolding number_in
in_number bytes l m = rw (le-leb 1 (length bytes) (omega arith), le-leb (length bytes) 7 m)

too_long : (bytes : List ℕ) → 7 < length bytes → none ≡ number_in bytes
unfolding number_in
too_long bytes l = rw (le-leb 1 (length bytes) (omega arith), lt-leb (length bytes) 7 l)

nothing_there : none ≡ number_in []
unfolding number_in
nothing_there = refl

pub number_wrong : (a c : List ℕ) (v b : ℕ) → digits_read 10 decimal_value 0 a ≡ some v → (length a < 7 → decimal_value b ≡ none)
    → none ≡ number_in (a ++ (b ∷ c))
number_wrong a c v b e f =
    let long : length (a ++ (b ∷ c)) ≡ length a + suc (length c) = length-append a (b ∷ c) in
    compared 7 (length (a ++ (b ∷ c))) (too_long (a ++ (b ∷ c)))
    (λ m. sym (digits_wrong a c 0 v b e (f (omega arith))) ∙ in_number (a ++ (b ∷ c)) (omega arith) m)

module _ (bytes : List ℕ) (d : LeadingDigits) (s : DigitsStand bytes d) where
  pub first_long : length (take d.length bytes) ≡ d.length
  first_long = length-take-le d.length bytes s.inside

  pub other_byte : (d.length ≡ length bytes → ⊥) → none ≡ number_in bytes
  other_byte n =
      let less : d.length < length bytes = omega (arith, s.inside) in
      number_wrong (take d.length bytes) (drop (suc d.length) bytes) d.value (get_or bytes d.length 0) s.reads
      (λ m. s.stops less (omega (arith, first_long)))
      ∙ ap number_in (sym (split_at bytes d.length 0 less))

  pub no_number : d.length ≡ 0 → none ≡ number_in bytes
  no_number z = go bytes refl
    where
      go : (cs : List ℕ) → bytes ≡ cs → none ≡ number_in bytes
      go [] e = rw e nothing_there
      go (b ∷ cs) e = let long : length bytes ≡ suc (length cs) = ap length e in other_byte (λ h. absurd (omega arith))

  pub all_digits : (d.length ≡ 0 → ⊥) → d.length ≡ length bytes → some d.value ≡ number_in bytes
  all_digits n e =
      sym s.reads ∙ ap (digits_read 10 decimal_value 0) (take_all d.length bytes (omega arith))
      ∙ in_number bytes (omega arith) (omega (arith, s.few))
