-- What a list says behind its digits and behind the blank that ends them, and lists that are bad.
-- Assumes nothing.
use mathlib.Core.Path.{◌≡◌, refl, sym, ◌∙◌, ap}
use mathlib.Core.Bool.{Bool, true, false, cond, true≢false}
use mathlib.Core.List.{List, [], ◌∷◌, ◌++◌, append-nil}
use mathlib.Core.Option.{Option}
use mathlib.Core.Option.Option.{none, some}
use Prim.Native.Nat.{ℕ, zero, suc, ◌+◌, ◌*◌, ◌<◌}
use native.Mathlib.Omega.{arith}
use native.Mathlib.Nat.{zero-add, suc-add}
use lib.ListN.{length, get_or, take, drop}
use lib.Seq.{take-append-add, drop-append-add}
use Rattle.jedec.specs.Characters.{is_blank, decimal_value, and_then, digits_read, number_in}
use Rattle.jedec.specs.Judge.{Judged, or_bad, unbroken, states_in, states_from, list_in}
use Rattle.jedec.specs.Judge.Judged.{bad}
use Rattle.jedec_runs.specs.Runs.{one_if_blank}
use Rattle.jedec_runs.proofs.StatesWritten.{none_first}
use Rattle.jedec_judge.specs.Judged.{or_empty}
use Rattle.jedec_judge.proofs.Numbers.{number_wrong}
use Rattle.jedec_fields.proofs.PlainBytes.{digit_not_blank, blank_first}

pub full_list : (states : List ℕ) (first : ℕ) → (length states ≡ 0 → ⊥) → Judged.list first states ≡ states_from (some states) first
full_list [] first e = absurd (e refl)
full_list (s ∷ states) first e = refl

-- No digit is a blank.
unbroken_past : (a t : List ℕ) (x v : ℕ) → digits_read 10 decimal_value x a ≡ some v → unbroken (a ++ t) ≡ length a + unbroken t
unfolding digits_read unbroken
unbroken_past [] t x v e = sym (zero-add (unbroken t))
unbroken_past (d ∷ a) t x v e = go (decimal_value d) refl e (λ y f. unbroken_past a t (x * 10 + y) v f)
  where
    go : (o : Option ℕ) → decimal_value d ≡ o → and_then o (λ y. digits_read 10 decimal_value (x * 10 + y) a) ≡ some v
        → ((y : ℕ) → digits_read 10 decimal_value (x * 10 + y) a ≡ some v → unbroken (a ++ t) ≡ length a + unbroken t)
        → cond (is_blank d) 0 (suc (unbroken (a ++ t))) ≡ suc (length a) + unbroken t
    go none f g ih = let z : ◌≡◌ {A = ℕ} 0 1 = cc in absurd (omega arith)
    go (some y) f g ih = rw (digit_not_blank d y f, suc-add (length a) (unbroken t)) (ap suc (ih y g))

-- What a list says is told by what stands behind its first digits.
module _ (a : List ℕ) (v : ℕ) (e : digits_read 10 decimal_value 0 a ≡ some v) where
  list_past : (t : List ℕ)
      → list_in (a ++ t) ≡ or_bad (number_in (a ++ take (unbroken t) t)) (states_from (states_in (drop (unbroken t) t)))
  unfolding list_in
  list_past t = rw (unbroken_past a t 0 v e, take-append-add a t (unbroken t), drop-append-add a t (unbroken t))

  pub list_blank : (t : List ℕ) (b : ℕ) → is_blank b ≡ true → list_in (a ++ (b ∷ t)) ≡ or_bad (number_in a) (states_from (states_in t))
  unfolding unbroken
  list_blank t b h = list_past (b ∷ t) ∙ rw (h, append-nil a, blank_first b t h)

pub no_states_bad : (o : Option ℕ) (p : Option (List ℕ)) → length (or_empty p) ≡ 0 → or_bad o (states_from p) ≡ bad
no_states_bad none p z = refl
no_states_bad (some x) none z = refl
no_states_bad (some x) (some []) z = refl
no_states_bad (some x) (some (s ∷ states)) z = absurd (omega arith)

no_number_bad : (a t : List ℕ) (b : ℕ) → length a ≡ 0 → is_blank b ≡ true → list_in (a ++ (b ∷ t)) ≡ bad
unfolding list_in unbroken number_in
no_number_bad [] t b z h = rw h
no_number_bad (d ∷ a) t b z h = absurd (omega arith)

-- A list is bad where no blank ends its digits, or where a blank has no digits before it.
pub unended_bad : (a : List ℕ) (v k : ℕ) (t : List ℕ) → digits_read 10 decimal_value 0 a ≡ some v
    → (length a < 7 → 0 < length t → decimal_value (get_or t 0 0) ≡ none)
    → (is_blank (get_or t 0 0) ≡ true → length a ≡ 0) → list_in (a ++ take k t) ≡ bad
unfolding unbroken states_in
unended_bad a v zero t e f g = list_past a v e [] ∙ no_states_bad (number_in (a ++ [])) (some []) refl
unended_bad a v (suc k) [] e f g = list_past a v e [] ∙ no_states_bad (number_in (a ++ [])) (some []) refl
unended_bad a v (suc k) (b ∷ t) e f g = go (is_blank b) refl
  where
    go : (blank : Bool) → is_blank b ≡ blank → list_in (a ++ (b ∷ take k t)) ≡ bad
    go true h = no_number_bad a (take k t) b (g h) h
    go false h =
        let wrong = number_wrong a (take (unbroken (take k t)) (take k t)) v b e (λ m. f m (omega arith)) in
        list_past a v e (b ∷ take k t) ∙ rw (h, ← wrong)

pub first_not_blank : (t : List ℕ) → one_if_blank t ≡ 0 → is_blank (get_or t 0 0) ≡ true → ⊥
first_not_blank [] e h = true≢false (sym h)
first_not_blank (b ∷ t) e h = let z : ◌≡◌ {A = ℕ} 1 0 = rw h at e in omega arith

-- After a byte that is neither a state nor a blank no bytes make the list good.
pub wrong_then : (w t : List ℕ) (b : ℕ) → states_in (w ++ (b ∷ [])) ≡ none → states_in (w ++ (b ∷ t)) ≡ none
wrong_then w t b e = none_first (length w + 1) (w ++ (b ∷ t)) (rw (take-append-add w (b ∷ t) 1) e)
