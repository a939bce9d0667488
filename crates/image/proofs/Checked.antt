-- What an operation answers after the tests of `DeviceImage::new`: where one of them fails the refusal, and else what follows them.
-- Assumes nothing.
use Rattle.std.proofs.Common.{◌≡◌, ℕ, Bool, true, false, cond, List, length, sym, refl, ◌∙◌}
use lib.Dec.{eqb}
use Rattle.std.specs.Prelude.{Result}
use Rattle.std.specs.Result.{IsErrAnd}
use Rattle.part.specs.Answer.{refusal_number, refusal_value, outcome_of}
use Rattle.part.specs.Outcome.{Outcome}
use Rattle.part.specs.Outcome.Outcome.{accepted, refused}
use Rattle.part.specs.Device.{known, image_bytes}
use Rattle.part.specs.Sizes.{if_known, if_length}
use Rattle.part.specs.declared.Device.{Device}
use Rattle.part.specs.declared.Refusal.{Refusal}
use Rattle.part.proofs.Checks.{the_device, the_length}
use Rattle.part.proofs.Refused.{refused_with}

module _ (d : Device) (l e : ℕ) {B : Type 0} (inner : Outcome B) where
  -- A refusal of the tests is the refusal of the whole.
  pub still_refused : (n v : ℕ) → refused n v ≡ if_known d (if_length l e (accepted (tt {0})))
      → refused n v ≡ if_known d (if_length l e inner)
  still_refused n v = go (known d) (eqb l e)
    where
      go : (a b : Bool) → ◌≡◌ {A = Outcome (Unit {0})} (refused n v) (cond a (cond b (accepted tt) (refused 2 0)) (refused 1 0))
          → refused n v ≡ cond a (cond b inner (refused 2 0)) (refused 1 0)
      go true true h = cc
      go true false h = let p : n ≡ 2 = cc in let q : v ≡ 0 = cc in rw (p, q)
      go false b h = let p : n ≡ 1 = cc in let q : v ≡ 0 = cc in rw (p, q)

  pub refused_on : {A : Type 0} (f : A → B) (r : Result A Refusal) (x : Refusal) → IsErrAnd r (λ z. z ≡ x)
      → refused (refusal_number x) (refusal_value x) ≡ if_known d (if_length l e (accepted (tt {0})))
      → outcome_of f r ≡ if_known d (if_length l e inner)
  refused_on f r x h g = refused_with f (if_known d (if_length l e inner)) r x x h refl (still_refused _ _ g)

-- An image that passed them, of the device and the bytes that were asked for.
module _ (p d : Device) (bytes image : List ℕ) (k : known p ≡ true) (l : length bytes ≡ image_bytes p) (same : p ≡ d)
    (all : bytes ≡ image) where
  pub accepted_on : {B : Type 0} (inner : Outcome B) → inner ≡ if_known d (if_length (length image) (image_bytes d) inner)
  accepted_on inner =
      let there : known d ≡ true = rw same at k in
      let exact : length image ≡ image_bytes d = rw (same, all) at l in
      sym (the_length (length image) (image_bytes d) inner (image_bytes d) refl exact) ∙ sym (the_device d _ there)
