-- What the conversions make, bit by bit: cutting an image's number by the device's widths gives its readout, and cutting a readout's
-- number by bytes gives its image.
use mathlib.Core.Path.{◌≡◌, sym, ◌∙◌, subst}
use mathlib.Core.Bool.{true}
use mathlib.Core.List.{List}
use Prim.Native.Nat.{ℕ, ◌+◌, ◌*◌, ◌/◌, ◌^◌, ◌<◌}
use native.Mathlib.Omega.{arith}
use lib.ListN.{length, get_or, replicate, length-replicate}
use lib.Seq.{ext_get_or}
use Rattle.cells.specs.Cells.{cut, join, number}
use Rattle.cells.proofs.Laws.{cut_at, cut_length, total_repeat}
use Rattle.part.specs.Device.{known, fuse_count, image_bytes, readout_bytes}
use Rattle.part.specs.Place.{first_fuse}
use Rattle.addresses.specs.Address.{byte_of_index}
use Rattle.part.specs.declared.Device.{Device}
use Rattle.part.proofs.Devices.{image_whole}
use Rattle.image.specs.Bits.{bit_of, bit_at}
use Rattle.image.specs.Image.{state, image_from}
use Rattle.image.proofs.Numbers.{at_replicate, joined_bit, number_bit}
use Rattle.image.proofs.Bits.{bit_high, gathered_same, gathered_own, tabulate_length, tabulate_at}
use Rattle.readout.specs.Readout.{width_at, fuse_at, readout_from, readout_of, index_in_readout, bit_in_readout, state_in, image_of}
use Rattle.readout_rows.specs.Widths.{block_widths, widths, whole_bytes, bytes_in}
use Rattle.readout_rows.proofs.RowSizes.{device_size}
use Rattle.readout.proofs.Widths.{widths_at, widths_length}
use Rattle.readout.proofs.States.{lying, fuse_below}

-- The readout of an image is cut from its number.
pub readout_cut : (d : Device) (image : List ℕ) → known d ≡ true → length image ≡ image_bytes d
    → cut (widths d) (number image) ≡ readout_of d image
unfolding readout_of readout_from
readout_cut d image k e =
    ext_get_or 0 (cut (widths d) (number image)) (readout_of d image)
    (cut_length (widths d) (number image) ∙ widths_length d k ∙ sym (tabulate_length (readout_bytes d) _))
    (λ index h.
    let below : index < readout_bytes d = rw (cut_length (widths d) (number image), widths_length d k) at h in
    let at = widths_at d index below in
    let first = first_fuse d (byte_of_index d index) in
    cut_at (widths d) (number image) index (rw (widths_length d k) below)
    ∙ rw (at.0, at.1)
    (sym (gathered_own (number image / 2 ^ first) (width_at d index))
    ∙ gathered_same (bit_of (number image / 2 ^ first)) (λ bit. state image (fuse_at d index bit)) (width_at d index)
    (λ bit hb. sym (bit_high (number image) first bit)
    ∙ number_bit image (first + bit) (omega (arith, fuse_below d index bit below hb, image_whole d k)))
    ∙ sym (tabulate_at (readout_bytes d) _ index below)))

-- The state of a fuse in a readout is a bit of the number that its bytes join to.
pub readout_number_bit : (d : Device) (readout : List ℕ) → known d ≡ true → (fuse : ℕ) → fuse < fuse_count d
    → bit_of (join (widths d) readout) fuse ≡ state_in d readout fuse
unfolding state_in bit_at
readout_number_bit d readout k fuse h =
    let kept = lying d fuse h in
    let index = index_in_readout d fuse in
    let bit = bit_in_readout d fuse in
    subst (λ (f : ℕ). bit_of (join (widths d) readout) f ≡ bit_of (get_or readout index 0) bit) kept.same_fuse
    (joined_bit (widths d) readout index (width_at d index) (first_fuse d (byte_of_index d index)) bit
    (rw (widths_length d k) kept.index_below) (widths_at d index kept.index_below) kept.bit_below)

-- The image of a readout is cut from the number that its bytes join to.
pub image_cut : (d : Device) (readout : List ℕ) → known d ≡ true
    → cut (replicate (image_bytes d) 8) (join (widths d) readout) ≡ image_of d readout
unfolding image_of image_from
image_cut d readout k =
    let n = image_bytes d in
    let x = join (widths d) readout in
    let size : length {A = ℕ} (replicate n 8) ≡ n = length-replicate {A = ℕ} n 8 in
    ext_get_or 0 (cut (replicate n 8) x) (image_of d readout)
    (cut_length (replicate n 8) x ∙ size ∙ sym (tabulate_length n _))
    (λ index h.
    let below : index < n = rw (cut_length (replicate n 8) x, size) at h in
    let at = at_replicate n 8 index below in
    cut_at (replicate n 8) x index (rw size below)
    ∙ rw (at.0, at.1)
    (sym (gathered_own (x / 2 ^ (index * 8)) 8)
    ∙ gathered_same (bit_of (x / 2 ^ (index * 8))) (λ bit. state_in d readout (index * 8 + bit)) 8
    (λ bit hb. sym (bit_high x (index * 8) bit) ∙ readout_number_bit d readout k (index * 8 + bit) (omega (arith, image_whole d k)))
    ∙ sym (tabulate_at n _ index below)))

pub image_length : (d : Device) (readout : List ℕ) → length (image_of d readout) ≡ image_bytes d
unfolding image_of image_from
image_length d readout = tabulate_length (image_bytes d) _

-- The whole bytes of the device's widths are its image.
widths_whole : (d : Device) → known d ≡ true → whole_bytes (widths d) ≡ image_bytes d
unfolding whole_bytes widths
widths_whole d k = rw (total_repeat d.blocks (block_widths d)) (omega (arith, (device_size d k).0))

pub image_bytes_in_lem : (d : Device) (readout : List ℕ) → known d ≡ true → bytes_in (widths d) readout ≡ image_of d readout
unfolding bytes_in
image_bytes_in_lem d readout k = rw (widths_whole d k) (image_cut d readout k)
