-- Digits, states and blanks hold neither `*` nor STX nor ETX.
-- Assumes nothing.
use mathlib.Core.Path.{◌≡◌, refl, sym, ◌∙◌, ap}
use mathlib.Core.Bool.{Bool, true, false, cond, ◌||◌, true≢false}
use mathlib.Core.List.{List, [], ◌∷◌, ◌++◌}
use mathlib.Core.Option.{Option}
use mathlib.Core.Option.Option.{none, some}
use Prim.Native.Nat.{ℕ, suc, ◌+◌, ◌*◌, ◌-◌}
use native.Mathlib.Omega.{arith}
use native.Mathlib.Nat.{zero-add, suc-add}
use lib.Dec.{eqb}
use lib.ListN.{length, take}
use borrow.Author.Tests.{ne_eqb}
use Rattle.jedec.specs.Characters.{is_blank, is_mark, decimal_value, and_then, digits_read}
use Rattle.jedec.specs.Cut.{holds_mark}
use Rattle.jedec.specs.Judge.{with_first, states_in}
use Rattle.jedec_fields.specs.Fields.{until_star}

-- A byte that is neither `*` nor STX nor ETX, and bytes that are all such.
abbrev pub Plain : ℕ → Type 0
Plain b = (eqb b 42 ≡ false) × (is_mark b ≡ false)

unfoldable pub AllPlain : List ℕ → Type 0
AllPlain [] = Unit {0}
AllPlain (b ∷ bytes) = Plain b × AllPlain bytes

plain : (b : ℕ) → (b ≡ 42 → ⊥) → (b ≡ 2 → ⊥) → (b ≡ 3 → ⊥) → Plain b
plain b p q r = (ne_eqb b 42 p, rw (ne_eqb b 2 q, ne_eqb b 3 r))

pub plain_until : (a c : List ℕ) → AllPlain a → until_star (a ++ c) ≡ length a + until_star c
unfolding AllPlain until_star
plain_until [] c p = sym (zero-add (until_star c))
plain_until (b ∷ a) c p = rw (p.0.0, suc-add (length a) (until_star c)) (ap suc (plain_until a c p.1))

pub plain_marks : (a c : List ℕ) → AllPlain a → holds_mark (a ++ c) ≡ holds_mark c
unfolding AllPlain holds_mark
plain_marks [] c p = refl
plain_marks (b ∷ a) c p = rw p.0.1 (plain_marks a c p.1)

-- A byte that is a digit, or a blank, differs from any that is none.
digit_other : (b y k : ℕ) → decimal_value b ≡ some y → decimal_value k ≡ none → b ≡ k → ⊥
digit_other b y k e h f =
    let bad : none ≡ some y = sym h ∙ ap decimal_value (sym f) ∙ e in let z : ◌≡◌ {A = ℕ} 0 1 = cc in absurd (omega arith)

pub blank_other : (b k : ℕ) → is_blank b ≡ true → is_blank k ≡ false → b ≡ k → ⊥
blank_other b k h n f = true≢false (sym h ∙ ap is_blank f ∙ n)

digit_plain : (b y : ℕ) → decimal_value b ≡ some y → Plain b
digit_plain b y e = plain b (digit_other b y 42 e refl) (digit_other b y 2 e refl) (digit_other b y 3 e refl)

pub blank_plain : (b : ℕ) → is_blank b ≡ true → Plain b
blank_plain b h = plain b (blank_other b 42 h refl) (blank_other b 2 h refl) (blank_other b 3 h refl)

pub digit_not_blank : (b y : ℕ) → decimal_value b ≡ some y → is_blank b ≡ false
digit_not_blank b y e =
    let other : (k : ℕ) → decimal_value k ≡ none → eqb b k ≡ false = λ k h. ne_eqb b k (digit_other b y k e h) in
    rw (other 32 refl, other 9 refl, other 13 refl, other 10 refl)

pub blank_first : (b : ℕ) (bytes : List ℕ) → is_blank b ≡ true → states_in (b ∷ bytes) ≡ states_in bytes
unfolding states_in
blank_first b bytes h = rw h

pub digits_plain : (bytes : List ℕ) (x n : ℕ) → digits_read 10 decimal_value x bytes ≡ some n → AllPlain bytes
unfolding AllPlain digits_read
digits_plain [] x n e = tt
digits_plain (b ∷ bytes) x n e = go (decimal_value b) refl e (λ y. digits_plain bytes (x * 10 + y) n)
  where
    go : (o : Option ℕ) → decimal_value b ≡ o → and_then o (λ y. digits_read 10 decimal_value (x * 10 + y) bytes) ≡ some n
        → ((y : ℕ) → digits_read 10 decimal_value (x * 10 + y) bytes ≡ some n → AllPlain bytes) → Plain b × AllPlain bytes
    go none h f ih = let z : ◌≡◌ {A = ℕ} 0 1 = cc in absurd (omega arith)
    go (some y) h f ih = (digit_plain b y h, ih y f)

pub states_plain : (bytes states : List ℕ) → states_in bytes ≡ some states → AllPlain bytes
unfolding AllPlain states_in
states_plain [] states e = tt
states_plain (b ∷ bytes) states e = (
  plain b (no 42 refl refl) (no 2 refl refl) (no 3 refl refl),
  go (is_blank b) (eqb b 48 || eqb b 49) (states_in bytes) refl e (states_plain bytes),
)
  where
    no : (k : ℕ) → is_blank k ≡ false → (eqb k 48 || eqb k 49) ≡ false → b ≡ k → ⊥
    no k h s f =
        let bad : none ≡ some states = rw (f, h, s) at e in
        let z : ◌≡◌ {A = ℕ} 0 1 = cc in
        absurd (omega arith)

    go : (t s : Bool) (o : Option (List ℕ)) → states_in bytes ≡ o → cond t o (cond s (and_then o (with_first (b - 48))) none) ≡ some states
        → ((xs : List ℕ) → states_in bytes ≡ some xs → AllPlain bytes) → AllPlain bytes
    go true s o h f ih = ih states (h ∙ f)
    go false true none h f ih = let z : ◌≡◌ {A = ℕ} 0 1 = cc in absurd (omega arith)
    go false true (some xs) h f ih = ih xs h
    go false false o h f ih = let z : ◌≡◌ {A = ℕ} 0 1 = cc in absurd (omega arith)

pub all_plain : (a c : List ℕ) → AllPlain a → AllPlain c → AllPlain (a ++ c)
unfolding AllPlain
all_plain [] c p q = q
all_plain (b ∷ a) c p q = (p.0, all_plain a c p.1 q)

-- The bytes before a `*` are plain bytes and what stands between them and the `*`.
pub plain_field : (a t : List ℕ) → AllPlain a → take (until_star (a ++ t)) (a ++ t) ≡ a ++ take (until_star t) t
unfolding AllPlain until_star
plain_field [] t p = refl
plain_field (b ∷ a) t p = rw p.0.0 (ap (λ (l : List ℕ). b ∷ l) (plain_field a t p.1))
