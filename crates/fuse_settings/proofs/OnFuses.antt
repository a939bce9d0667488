-- Settings that lie on fuses, for any family of parts: any count of fuses, any step from a setting and a bit to a fuse, and any way
-- back that is its left inverse. No two settings share a fuse, and no setting has a fuse twice.
use mathlib.Core.Path.{◌≡◌, refl, sym, ◌∙◌, ap}
use mathlib.Core.Logic.{◌↔◌}
use mathlib.Core.Bool.{Bool, true}
use mathlib.Core.Option.{Option}
use mathlib.Core.Option.Option.{none, some}
use Prim.Native.Nat.{ℕ, ◌<◌}
use native.Mathlib.Omega.{arith}

module _ {S : Type 0} (count : ℕ) (lists : S → ℕ → Bool) (fuse : S → ℕ → ℕ) (back : ℕ → Option (S × ℕ)) where
  -- Each bit that a setting lists has a fuse below the count, from which the way back leads to it.
  pub record LeftInverse : Type 0 where
    pub below : (s : S) (bit : ℕ) → lists s bit ≡ true → fuse s bit < count
    pub inverse : (s : S) (bit : ℕ) → lists s bit ≡ true → back (fuse s bit) ≡ some (s, bit)

  -- The way back leads nowhere else.
  abbrev pub Sound : Type 0
  Sound = (f : ℕ) (s : S) (bit : ℕ) → back f ≡ some (s, bit) → (lists s bit ≡ true) × (fuse s bit ≡ f)

  -- Two bits on one fuse are the same bit of the same setting.
  pub apart : LeftInverse → (s t : S) (b c : ℕ) → lists s b ≡ true → lists t c ≡ true → fuse s b ≡ fuse t c → (s ≡ t) × (b ≡ c)
  apart left s t b c hs ht e = (ap (λ (p : S × ℕ). p.0) one, ap (λ (p : S × ℕ). p.1) one)
    where
      both : ◌≡◌ {A = Option (S × ℕ)} (some (s, b)) (some (t, c))
      both = sym (left.inverse s b hs) ∙ ap back e ∙ left.inverse t c ht

      one : ◌≡◌ {A = S × ℕ} (s, b) (t, c)
      one = cc both

  -- A fuse is unnamed exactly if no setting lists it.
  pub unnamed_iff : LeftInverse → Sound → (f : ℕ) → (back f ≡ none) ↔ ((s : S) (bit : ℕ) → lists s bit ≡ true → fuse s bit ≡ f → ⊥)
  unnamed_iff left sound f = (
    λ e s bit h at. differ (sym (left.inverse s bit h) ∙ ap back at ∙ e),
    λ never. named (back f) never (sound f),
  )
    where
      differ : {s : S} {bit : ℕ} → ◌≡◌ {A = Option (S × ℕ)} (some (s, bit)) none → ⊥
      differ e = let z : ◌≡◌ {A = ℕ} 0 1 = cc in omega arith

      named : (o : Option (S × ℕ)) → ((s : S) (bit : ℕ) → lists s bit ≡ true → fuse s bit ≡ f → ⊥)
          → ((s : S) (bit : ℕ) → o ≡ some (s, bit) → (lists s bit ≡ true) × (fuse s bit ≡ f)) → o ≡ none
      named none never sound = refl
      named (some p) never sound = let l = sound p.0 p.1 refl in absurd (never p.0 p.1 l.0 l.1)
