-- `readout_to_image` meets its contract: the tests of `part_of`, a bit above a width, and the conversion.
-- Assumes nothing.
use Rattle.std.proofs.Common.{◌≡◌, refl, sym, ◌∙◌, ap, true, cond, ℕ, ◌^◌, ◌<◌, ◌≤◌, List, length, ltb, Fits, w32, arith, rules}
use Rattle.std.specs.Prelude.{Some, None}
use borrow.Author.Tests.{lt-ltb, le-ltb}
use Rattle.part.specs.Outcome.{Outcome, written, Written}
use Rattle.part.specs.Outcome.Outcome.{refused}
use Rattle.part.specs.Device.{known, image_bytes, readout_bytes, main_bytes, subarea_bytes}
use Rattle.part.specs.declared.Device.{Device}
use Rattle.part.proofs.Devices.{in_device_small}
use Rattle.part.proofs.Targets.{tested}
use Rattle.readout.specs.Readout.{to_image, image_of, first_above}
use Rattle.readout_rows.specs.Widths.{widths, bytes_in, first_over}
use Rattle.readout_rows.proofs.FirstOver.{over_found, over_none}
use Rattle.readout.proofs.Checked.{done, other_first, refused_other, passed_on}
use Rattle.readout.proofs.Conversions.{image_bytes_in_lem}
use Rattle.readout.proofs.FirstAbove.{first_above_lem}
use Rattle.readout.proofs.Widths.{widths_length}
use Rattle.readout.proofs.readout_to_image.Goals as goal

-- What follows the tests.
abbrev after_scan : Device → List ℕ → Outcome (Unit {0})
after_scan d readout = cond (ltb (first_above d readout) (readout_bytes d)) (refused 6 (first_above d readout)) done

readout_small : (d : Device) → known d ≡ true → readout_bytes d < 2 ^ 32
unfolding readout_bytes
readout_small d k = omega (arith, in_device_small d main_bytes subarea_bytes k)

-- What the scan found, and what the definition says of it.
module _ (d : Device) (readout : List ℕ) (k : known d ≡ true) where
  one_above : (i : ℕ) → Some i ≡ first_over (widths d) readout → (refused 6 i ≡ after_scan d readout) × (i < readout_bytes d)
  one_above i e =
      let found = over_found (widths d) readout i e in
      let the : i ≡ first_above d readout = found.0 ∙ sym (first_above_lem d readout k) in
      let below : i < readout_bytes d = rw (widths_length d k) at found.1 in
      (rw (← the, lt-ltb i (readout_bytes d) below), below)

  no_above : None ≡ first_over (widths d) readout → done ≡ after_scan d readout
  no_above e =
      let none : readout_bytes d ≤ first_above d readout =
      rw (first_above_lem d readout k, ← widths_length d k) (over_none (widths d) readout e) in
      rw (le-ltb (first_above d readout) (readout_bytes d) none)

-- What the device gives that passed the tests.
module _ (p d : Device) (readout before : List ℕ) (k : known p ≡ true) (same : p ≡ d)
    (h : done ≡ tested d (length before) (image_bytes d) (length readout) (readout_bytes d) done) where
  scanned : (answer : Outcome (Unit {0})) (after : List ℕ) → answer ≡ after_scan p readout
      → after ≡ written answer (image_of p readout) before → Written (to_image d readout before) answer (image_of d readout) before after
  unfolding to_image
  scanned answer after e f =
      let order = other_first d (length before) (image_bytes d) (length readout) (readout_bytes d) (after_scan d readout) in
      let all = passed_on d (length before) (image_bytes d) (length readout) (readout_bytes d) h (after_scan d readout) answer
      (image_of d readout) before after (e ∙ ap (λ (q : Device). after_scan q readout) same)
      (f ∙ ap (λ (q : Device). written answer (image_of q readout) before) same) in
      rw order at all

  above_refused : (i : ℕ) → Some i ≡ first_over (widths p) readout
      → Written (to_image d readout before) (refused 6 i) (image_of d readout) before before
  above_refused i e = scanned (refused 6 i) before (one_above p readout k i e).0 refl

  converted : (after : List ℕ) → None ≡ first_over (widths p) readout → after ≡ bytes_in (widths p) readout
      → Written (to_image d readout before) done (image_of d readout) before after
  converted after e f =
      scanned done after (no_above p readout k e) (f ∙ image_bytes_in_lem p readout k)

few : (p : Device) (readout : List ℕ) (i : ℕ) → known p ≡ true → Some i ≡ first_over (widths p) readout → Fits w32 i
few p readout i k e = omega (arith, (one_above p readout k i e).1, readout_small p k)

pub returns-in_err-part : goal.returns-in_err-part
unfolding to_image
returns-in_err-part c = search (rules, refused_other)

pub overflow_cast-result : goal.overflow_cast-result
overflow_cast-result c = search (rules, few)

pub returns-in-Some : goal.returns-in-Some
returns-in-Some c = search (rules, above_refused)

pub returns : goal.returns
returns c = search (rules, converted)
