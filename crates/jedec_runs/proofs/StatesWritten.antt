-- The states that bytes write: bytes in two parts, bytes that are all states, and a blank.
-- Assumes nothing.
use Rattle.std.proofs.Common.{◌≡◌, ℕ, zero, suc, ◌-◌, ◌/◌, ◌%◌, ◌^◌, ◌<◌, ◌≤◌, Bool, true, false, cond, ◌||◌, eqb, List, [], ◌∷◌, ◌++◌, length, get_or, take, drop, replicate, sym, refl, ap, ◌∙◌, mod-eq_of_lt, arith, take-append-drop, eqb-true}
use mathlib.Core.Option.{Option}
use mathlib.Core.Option.Option.{none, some}
use Rattle.cells.specs.Cells.{cut, join}
use Rattle.part.proofs.Facts.{either}
use Rattle.jedec.specs.Characters.{is_blank, and_then}
use Rattle.jedec.specs.Judge.{with_first, states_in}
use Rattle.jedec_runs.specs.Runs.{AllStates, one_if_blank}
use Rattle.jedec_runs.proofs.Words.{bits_cut}

-- Bytes in two parts write the states of both, if both write states.
both : Option (List ℕ) → Option (List ℕ) → Option (List ℕ)
both none o = none
both (some xs) none = none
both (some xs) (some ys) = some (xs ++ ys)

states_both : (a c : List ℕ) → states_in (a ++ c) ≡ both (states_in a) (states_in c)
unfolding states_in both
states_both [] c = go (states_in c)
  where
    go : (o : Option (List ℕ)) → o ≡ both (some []) o
    go none = refl
    go (some ys) = refl
states_both (b ∷ a) c =
    ap (λ (o : Option (List ℕ)). cond (is_blank b) o (cond (eqb b 48 || eqb b 49) (and_then o (with_first (b - 48))) none))
    (states_both a c)
    ∙ go (is_blank b) (eqb b 48 || eqb b 49) (states_in a) (states_in c)
  where
    go : (t s : Bool) (o p : Option (List ℕ)) → cond t (both o p) (cond s (and_then (both o p) (with_first (b - 48))) none)
        ≡ both (cond t o (cond s (and_then o (with_first (b - 48))) none)) p
    go true s o p = refl
    go false true none p = refl
    go false true (some xs) none = refl
    go false true (some xs) (some ys) = refl
    go false false o p = refl

module _ (a c xs : List ℕ) (e : states_in a ≡ some xs) where
  pub states_append : (ys : List ℕ) → states_in c ≡ some ys → states_in (a ++ c) ≡ some (xs ++ ys)
  unfolding both
  states_append ys f = rw (states_both a c, e, f)

  pub states_none : states_in c ≡ none → states_in (a ++ c) ≡ none
  unfolding both
  states_none f = rw (states_both a c, e, f)

-- Bytes write no states where their first ones write none.
pub none_first : (k : ℕ) (bytes : List ℕ) → states_in (take k bytes) ≡ none → states_in bytes ≡ none
unfolding both
none_first k bytes e = ap states_in (sym (take-append-drop k bytes)) ∙ states_both (take k bytes) (drop k bytes) ∙ rw e

-- Bytes that are all states write their lowest bits.
abbrev pub Octets : List ℕ → Type 0
Octets bytes = (k : ℕ) → get_or bytes k 0 < 2 ^ 8

state_first : (b : ℕ) (bytes states : List ℕ) → b / 2 ≡ 24 → states_in bytes ≡ some states
    → states_in (b ∷ bytes) ≡ some ((b % 2 ^ 1) ∷ states)
unfolding states_in
state_first b bytes states h e = go (b % 2) refl
  where
    go : (r : ℕ) → b % 2 ≡ r → states_in (b ∷ bytes) ≡ some ((b % 2 ^ 1) ∷ states)
    go zero f = let v : b ≡ 48 = omega arith in rw (v, e)
    go (suc zero) f = let v : b ≡ 49 = omega arith in rw (v, e)
    go (suc (suc r)) f = absurd (omega arith)

pub state_half : (b : ℕ) → (eqb b 48 || eqb b 49) ≡ true → b / 2 ≡ 24
state_half b s =
    either (eqb b 48) (eqb b 49) s (λ e. let v : b ≡ 48 = eqb-true b 48 e in omega arith)
    (λ e. let v : b ≡ 49 = eqb-true b 49 e in omega arith)

pub states_written : (k : ℕ) (bytes : List ℕ) → k ≤ length bytes → Octets bytes → AllStates k bytes
    → states_in (take k bytes) ≡ some (cut (replicate k 1) (join (replicate k 1) bytes))
unfolding AllStates states_in cut
states_written zero bytes l o s = none_taken bytes
  where
    none_taken : (cs : List ℕ) → states_in (take 0 cs) ≡ some (cut (replicate 0 1) (join (replicate 0 1) cs))
    none_taken cs = refl
states_written (suc k) [] l o s = absurd (omega arith)
states_written (suc k) (b ∷ bytes) l o s =
    let half : b / 2 ≡ 24 = (rw (mod-eq_of_lt (o 0)) at s.0) in
    state_first b (take k bytes) _ half (states_written k bytes (omega arith) (λ j. o (suc j)) s.1)
    ∙ ap some (sym (bits_cut k (b ∷ bytes)))

-- A blank writes no state.
pub blank_written : (bytes : List ℕ) → states_in (take (one_if_blank bytes) bytes) ≡ some []
unfolding states_in
blank_written [] = refl
blank_written (b ∷ bytes) = go (is_blank b) refl
  where
    go : (t : Bool) → is_blank b ≡ t → states_in (take (cond t 1 0) (b ∷ bytes)) ≡ some []
    go true e = rw e
    go false e = refl

pub no_blank : (bytes : List ℕ) (b : ℕ) (rest : List ℕ) → bytes ≡ b ∷ rest → one_if_blank bytes ≡ 0 → is_blank b ≡ false
no_blank bytes b rest e h = go (is_blank b) refl
  where
    go : (t : Bool) → is_blank b ≡ t → t ≡ false
    go true f = let z : ◌≡◌ {A = ℕ} (cond (is_blank b) 1 0) 0 = rw e at h in let y : ◌≡◌ {A = ℕ} 1 0 = rw f at z in absurd (omega arith)
    go false f = refl
