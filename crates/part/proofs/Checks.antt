-- The tests of device and length, 1 before 2, as code makes them and as definitions state them.
-- Assumes nothing.
use mathlib.Core.Path.{◌≡◌, refl, sym, ◌∙◌}
use mathlib.Core.Bool.{Bool, true, false, cond}
use native.Mathlib.Omega.{arith}
use Prim.Native.Nat.{ℕ}
use borrow.Author.Tests.{eq-eqb, ne_eqb}
use Rattle.part.specs.Outcome.{Outcome}
use Rattle.part.specs.Outcome.Outcome.{accepted, refused}
use Rattle.part.specs.Device.{known}
use Rattle.part.specs.Sizes.{if_known, if_length}
use Rattle.part.specs.declared.Device.{Device}

module _ {A : Type 0} (d : Device) (o : Outcome A) where
  pub no_device : known d ≡ false → refused 1 0 ≡ if_known d o
  no_device h = rw h

  pub the_device : known d ≡ true → if_known d o ≡ o
  the_device h = rw h

module _ {A : Type 0} (len exact : ℕ) (o : Outcome A) where
  pub other_length : (found : ℕ) → found ≡ exact → (len ≡ found → ⊥) → refused 2 0 ≡ if_length len exact o
  other_length found e h = rw (ne_eqb len exact (λ f. h (f ∙ sym e)))

  pub the_length : (found : ℕ) → found ≡ exact → len ≡ found → if_length len exact o ≡ o
  the_length found e h = rw (eq-eqb len exact (h ∙ e))

-- What is accepted under a test: the test passed.
pub passed : {A : Type 0} (t : Bool) (x : Outcome A) (k v : ℕ) {b : A} → cond t x (refused k v) ≡ accepted b → (t ≡ true) × (x ≡ accepted b)
passed true x k v e = (refl, e)
passed false x k v e = let z : ◌≡◌ {A = ℕ} 0 1 = cc in absurd (omega arith)

-- The result of an accepted answer.
pub result : {A : Type 0} {x y : A} → ◌≡◌ {A = Outcome A} (accepted x) (accepted y) → x ≡ y
result e = cc
