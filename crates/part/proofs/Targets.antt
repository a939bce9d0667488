-- What a call answers and what its target then holds: the tests of a device and of two lengths, 1 before 2, and then the rest.
-- Assumes nothing.
use mathlib.Core.Path.{◌≡◌, sym, ◌∙◌, ap}
use mathlib.Core.Bool.{true, false}
use mathlib.Core.List.{List}
use Prim.Native.Nat.{ℕ}
use Rattle.part.specs.Outcome.{Outcome, written, Written}
use Rattle.part.specs.Outcome.Outcome.{refused}
use Rattle.part.specs.Device.{known}
use Rattle.part.specs.Sizes.{if_known, if_length}
use Rattle.part.specs.declared.Device.{Device}
use Rattle.part.proofs.Checks.{no_device, the_device, other_length, the_length}

-- An outcome after the tests of a device and of two lengths.
abbrev pub tested : {A : Type 0} → Device → (l x m y : ℕ) → Outcome A → Outcome A
tested d l x m y inner = if_known d (if_length l x (if_length m y inner))

-- An answer that is the outcome's, and what it leaves in the target.
pub says : {A : Type 0} (o answer : Outcome A) (result before : List ℕ) → answer ≡ o
    → Written o answer result before (written answer result before)
says o answer result before e = record { answers = e; holds = ap (λ (x : Outcome _). written x result before) e }

module _ {A : Type 0} (d : Device) (l x m y : ℕ) (inner : Outcome A) (result before : List ℕ) where
  pub unknown : known d ≡ false → Written (tested d l x m y inner) (refused 1 0) result before before
  unknown h = says (tested d l x m y inner) (refused 1 0) result before (no_device d _ h)

  module _ (k : known d ≡ true) (x' : ℕ) (ex : x' ≡ x) where
    pub wrong_first : (l ≡ x' → ⊥) → Written (tested d l x m y inner) (refused 2 0) result before before
    wrong_first h = says (tested d l x m y inner) (refused 2 0) result before (other_length l x _ x' ex h ∙ sym (the_device d _ k))

    module _ (hl : l ≡ x') (y' : ℕ) (ey : y' ≡ y) where
      pub wrong_second : (m ≡ y' → ⊥) → Written (tested d l x m y inner) (refused 2 0) result before before
      wrong_second h =
          says (tested d l x m y inner) (refused 2 0) result before
          (other_length m y _ y' ey h ∙ sym (the_length l x _ x' ex hl) ∙ sym (the_device d _ k))

      pub right : m ≡ y' → (answer : Outcome A) → answer ≡ inner → (after : List ℕ) → after ≡ written answer result before
          → Written (tested d l x m y inner) answer result before after
      right h answer e after f =
          let same : answer ≡ tested d l x m y inner =
          e ∙ sym (the_length m y _ y' ey h) ∙ sym (the_length l x _ x' ex hl) ∙ sym (the_device d _ k) in
          record { answers = same; holds = f ∙ ap (λ (o : Outcome A). written o result before) same }
