-- Laws of images:
--   image_from_lem                   an image that is made from states has those states
--   same_image                   the same states make the same image
--   image_own                    an image is made from its own states
--   image_changed, image_others  a change of one fuse: the fuse has the new state, every other fuse stands
use Rattle.std.proofs.Common.{◌≡◌, ℕ, ◌+◌, ◌*◌, ◌/◌, ◌%◌, ◌^◌, ◌<◌, true, ◌≢◌, List, length, get_or, sym, ap, ◌∙◌, mod-eq_of_lt, arith, ext_get_or}
use Rattle.part.specs.Device.{known, fuse_count, image_bytes}
use Rattle.part.specs.declared.Device.{Device}
use Rattle.part.proofs.Devices.{image_whole}
use Rattle.image.specs.Bits.{bit_of, bit_at, gathered}
use Rattle.image.specs.Image.{state, with_fuse, image_from}
use Rattle.image.proofs.Bits.{with_same, with_other, gathered_bit, gathered_same, gathered_own, tabulate_length, tabulate_at}

module _ (d : Device) (states : ℕ → ℕ) (small : (fuse : ℕ) → states fuse < 2) where
  pub image_from_lem : known d ≡ true → (fuse : ℕ) → fuse < fuse_count d → state (image_from d states) fuse ≡ states fuse
  unfolding state bit_at image_from
  image_from_lem k fuse h =
      let e : fuse / 8 * 8 + fuse % 8 ≡ fuse = omega arith in
      rw (tabulate_at (image_bytes d) (λ index. gathered (λ bit. states (index * 8 + bit)) 8) (fuse / 8) (omega (arith, image_whole d k)))
      (gathered_bit (λ bit. states (fuse / 8 * 8 + bit)) (λ bit. small _) 8 (fuse % 8) (omega arith) ∙ ap states e)

module _ (d : Device) (f g : ℕ → ℕ) (same : (fuse : ℕ) → fuse < fuse_count d → f fuse ≡ g fuse) where
  pub same_image : known d ≡ true → image_from d f ≡ image_from d g
  unfolding image_from
  same_image k =
      let n = image_bytes d in
      ext_get_or 0 (image_from d f) (image_from d g) (tabulate_length n _ ∙ sym (tabulate_length n _))
      (λ index h.
      let below : index < n = rw (tabulate_length n (λ i. gathered (λ bit. f (i * 8 + bit)) 8)) at h in
      tabulate_at n _ index below
      ∙ gathered_same (λ bit. f (index * 8 + bit)) (λ bit. g (index * 8 + bit)) 8
      (λ bit hb. same (index * 8 + bit) (omega (arith, image_whole d k)))
      ∙ sym (tabulate_at n _ index below))

pub image_own : (d : Device) (image : List ℕ) → length image ≡ image_bytes d → ((i : ℕ) → get_or image i 0 < 2 ^ 8)
    → image_from d (state image) ≡ image
unfolding image_from state bit_at
image_own d image e small =
    let n = image_bytes d in
    ext_get_or 0 (image_from d (state image)) image (tabulate_length n _ ∙ sym e)
    (λ index h.
    let below : index < n = rw (tabulate_length n (λ i. gathered (λ bit. state image (i * 8 + bit)) 8)) at h in
    tabulate_at n _ index below
    ∙ gathered_same (λ bit. state image (index * 8 + bit)) (bit_of (get_or image index 0)) 8
    (λ bit hb.
    let q : (index * 8 + bit) / 8 ≡ index = omega arith in
    let r : (index * 8 + bit) % 8 ≡ bit = omega arith in
    rw (q, r))
    ∙ gathered_own (get_or image index 0) 8
    ∙ mod-eq_of_lt (small index))

module _ (image : List ℕ) (fuse s : ℕ) (there : fuse < length image * 8) (bit : s < 2) where
  pub image_changed : state (with_fuse image fuse s) fuse ≡ s
  unfolding state
  image_changed = with_same image (fuse / 8) (fuse % 8) s (omega arith) bit

  pub image_others : (other : ℕ) → other ≢ fuse → state (with_fuse image fuse s) other ≡ state image other
  unfolding state
  image_others other ne = with_other image (fuse / 8) (fuse % 8) s (omega arith) bit (other / 8) (other % 8) (λ e. ne (omega arith))
