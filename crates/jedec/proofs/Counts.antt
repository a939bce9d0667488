-- Bytes counted up to the first that stops the count, and the blanks before the next other byte.
-- A loop keeps each law, since it is said of the bytes still to come.
use mathlib.Core.Path.{◌≡◌, refl, sym, ◌∙◌}
use mathlib.Core.Bool.{Bool, true, false, not}
use mathlib.Core.List.{List, [], ◌∷◌}
use Prim.Native.Nat.{ℕ, suc, ◌+◌, ◌≤◌, ◌<◌}
use native.Mathlib.Omega.{arith}
use native.Mathlib.Nat.{add-zero}
use native.Mathlib.Numerals.{add-one}
use lib.ListN.{length, get_or, drop, drop_of_length-le}
use lib.Seq.{drop-cons}
use borrow.Author.Tests.{not-true, not-false}
use Rattle.std.proofs.lemmas.Bool.{not_from_false, not_from_true}
use Rattle.jedec.specs.Characters.{is_blank}
use Rattle.jedec.specs.Cut.{blanks_before}

-- A count that goes on from byte to byte up to the first that stops it.
pub record Counts (f : List ℕ → ℕ) (stop : ℕ → Bool) : Type 0 where
  pub nil : f [] ≡ 0
  pub here : (b : ℕ) (bytes : List ℕ) → stop b ≡ true → f (b ∷ bytes) ≡ 0
  pub past : (b : ℕ) (bytes : List ℕ) → stop b ≡ false → f (b ∷ bytes) ≡ suc (f bytes)

module _ (f : List ℕ → ℕ) (stop : ℕ → Bool) (c : Counts f stop) (text : List ℕ) (i all : ℕ) (h : i + f (drop i text) ≡ all) where
  pub stops : i < length text → stop (get_or text i 0) ≡ true → i ≡ all
  stops l e = sym (add-zero i) ∙ (rw (drop-cons text i 0 l, c.here (get_or text i 0) (drop (suc i) text) e) at h)

  pub goes : i < length text → stop (get_or text i 0) ≡ false → i + 1 + f (drop (i + 1) text) ≡ all
  goes l e =
      let next : i + suc (f (drop (suc i) text)) ≡ all = rw (drop-cons text i 0 l, c.past (get_or text i 0) (drop (suc i) text) e) at h in
      rw (add-one i) (omega arith)

  pub ends : length text ≤ i → i ≡ all
  ends l = sym (add-zero i) ∙ (rw (drop_of_length-le text l, c.nil) at h)

blanks_counts : Counts blanks_before (λ b. not (is_blank b))
unfolding blanks_before
blanks_counts = record { nil = refl; here = λ b bytes e. rw (not-true (is_blank b) e); past = λ b bytes e. rw (not-false (is_blank b) e) }

module _ (text : List ℕ) (i all : ℕ) where
  module _ (t : Bool) (is : t ≡ is_blank (get_or text i 0)) where
    pub blanks_stop : i + blanks_before (drop i text) ≡ all → i < length text → t ≡ false → i ≡ all
    blanks_stop h l e = stops blanks_before (λ b. not (is_blank b)) blanks_counts text i all h l (not_from_false _ (rw is at e))

    pub blanks_go : i + blanks_before (drop i text) ≡ all → i < length text → t ≡ true → i + 1 + blanks_before (drop (i + 1) text) ≡ all
    blanks_go h l e = goes blanks_before (λ b. not (is_blank b)) blanks_counts text i all h l (not_from_true _ (rw is at e))

  pub blanks_end : i + blanks_before (drop i text) ≡ all → length text ≤ i → i ≡ all
  blanks_end h l = ends blanks_before (λ b. not (is_blank b)) blanks_counts text i all h l
