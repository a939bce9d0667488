-- `image_to_readout` meets its contract: the tests of `part_of`, and the conversion.
-- Assumes nothing.
use Rattle.std.proofs.Common.{◌≡◌, refl, ◌∙◌, ap, true, ℕ, List, length, rules}
use Rattle.cells.specs.Cells.{cut, number}
use Rattle.part.specs.Outcome.{Written}
use Rattle.part.specs.Device.{known, image_bytes, readout_bytes}
use Rattle.part.specs.declared.Device.{Device}
use Rattle.part.proofs.Targets.{tested}
use Rattle.readout.specs.Readout.{to_readout, readout_of}
use Rattle.readout_rows.specs.Widths.{widths}
use Rattle.readout.proofs.Checked.{done, refused_on, passed_on, exact_image}
use Rattle.readout.proofs.Conversions.{readout_cut}
use Rattle.readout.proofs.image_to_readout.Goals as goal

-- What the device gives that passed the tests.
module _ (p d : Device) (image before : List ℕ) (k : known p ≡ true) (same : p ≡ d)
    (h : done ≡ tested d (length image) (image_bytes d) (length before) (readout_bytes d) done) where
  image_size : length image ≡ image_bytes p
  image_size = rw same (exact_image d (length image) (image_bytes d) (length before) (readout_bytes d) h)

  converted : (after : List ℕ) → after ≡ cut (widths p) (number image)
      → Written (to_readout d image before) done (readout_of d image) before after
  unfolding to_readout readout_of
  converted after e =
      passed_on d (length image) (image_bytes d) (length before) (readout_bytes d) h done done (readout_of d image) before after refl
      (e ∙ readout_cut p image k image_size ∙ ap (λ (q : Device). readout_of q image) same)

pub returns-in_err-part : goal.returns-in_err-part
unfolding to_readout
returns-in_err-part c = search (rules, refused_on)

pub returns : goal.returns
returns c = search (rules, converted)
