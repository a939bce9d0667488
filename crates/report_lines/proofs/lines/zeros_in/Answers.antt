-- `zeros_in` meets its contract: the device is known and the image of its length, so the count is not refused.
-- Assumes nothing.
use Rattle.std.proofs.Common.{◌≡◌, ℕ, true, List, length, refl, ◌∙◌, arith}
use Rattle.std.specs.Prelude.{Result, Ok, Err, IsOk}
use Rattle.part.specs.Outcome.Outcome.{accepted}
use Rattle.part.specs.Answer.{number_outcome}
use Rattle.part.specs.Device.{known, fuse_count, image_bytes}
use Rattle.part.specs.declared.Device.{Device}
use Rattle.part.specs.declared.Refusal.{Refusal}
use Rattle.image.specs.Image.{zeros_below, zero_count}
use Rattle.part.proofs.Checks.{the_device, the_length}
use Rattle.report_lines.proofs.lines.zeros_in.Goals as goal

counted : (d : Device) (image : List ℕ) (r : Result ℕ Refusal) → known d ≡ true → length image ≡ image_bytes d
    → number_outcome r ≡ zero_count d image → number_outcome r ≡ accepted (zeros_below image (fuse_count d))
unfolding zero_count
counted d image r k l e = e ∙ the_device d _ k ∙ the_length (length image) (image_bytes d) _ (image_bytes d) refl l

not_refused : (r : Result ℕ Refusal) (x : ℕ) → number_outcome r ≡ accepted x → IsOk r
not_refused (Ok y) x e = refl
not_refused (Err r) x e = let z : ◌≡◌ {A = ℕ} 0 1 = cc in absurd (omega arith)

the_count : (r : Result ℕ Refusal) (x y : ℕ) → number_outcome r ≡ accepted x → r ≡ Ok y → y ≡ x
the_count r x y e f = cc

pub unwrap-requires : goal.unwrap-requires
unwrap-requires c = not_refused _ _ (counted c.args.image.part.device _ _ c.args.image.part.is_known c.args.image.fits c.zero_count.ensures)

pub returns : goal.returns
returns c =
    the_count _ _ _ (counted c.args.image.part.device _ _ c.args.image.part.is_known c.args.image.fits c.zero_count.ensures)
    c.unwrap.ensures
