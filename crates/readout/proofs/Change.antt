-- A change of one fuse: the readout of the changed image is the readout with the bit at the fuse's address changed.
-- Assumes nothing.
use mathlib.Core.Path.{◌≡◌, sym, ◌∙◌, ap}
use mathlib.Core.Logic.{◌≢◌}
use mathlib.Core.Bool.{true}
use mathlib.Core.List.{List}
use Prim.Native.Nat.{ℕ, ◌*◌, ◌<◌}
use native.Mathlib.Omega.{arith}
use native.Mathlib.Nat.{mod-eq_of_lt}
use native.Mathlib.Decide.{ℕ_discrete}
use lib.ListN.{length, get_or, set, length-set}
use lib.Seq.{ext_get_or, get_or-set_same, get_or-set_other}
use Rattle.part.specs.Device.{known, fuse_count, image_bytes, readout_bytes}
use Rattle.part.specs.declared.Device.{Device}
use Rattle.part.proofs.Devices.{image_whole}
use Rattle.image.specs.Bits.{bit_of, put_bit, with_bit, gathered}
use Rattle.image.specs.Image.{state, with_fuse}
use Rattle.image.proofs.Images.{image_changed, image_others}
use Rattle.image.proofs.Bits.{put_same, put_other, put_small, gathered_small, gathered_bit, gathered_same, gathered_own}
use Rattle.image.proofs.Counts.{state_bit}
use Rattle.readout.specs.Readout.{width_at, fuse_at, readout_from, readout_of, index_in_readout, bit_in_readout}
use Rattle.readout.proofs.States.{lying, lies_there, from_length, readout_byte}

-- A readout with the bit at the address of a fuse changed.
abbrev pub with_fuse_in : Device → List ℕ → (fuse s : ℕ) → List ℕ
with_fuse_in d readout fuse s = with_bit readout (index_in_readout d fuse) (bit_in_readout d fuse) s

-- A number gathered from bits, with one put in place.
gathered_put : (f g : ℕ → ℕ) (w b s : ℕ) → ((i : ℕ) → f i < 2) → s < 2 → b < w → g b ≡ s → ((i : ℕ) → i < w → i ≢ b → g i ≡ f i)
    → gathered g w ≡ put_bit (gathered f w) b s
gathered_put f g w b s small bit hb at other =
    let x = gathered f w in
    gathered_same g (bit_of (put_bit x b s)) w
    (λ i h. here i h (ℕ_discrete i b))
    ∙ gathered_own (put_bit x b s) w
    ∙ mod-eq_of_lt (put_small x b s bit w (gathered_small f small w) hb)
  where
    here : (i : ℕ) → i < w → Dec (i ≡ b) → g i ≡ bit_of (put_bit (gathered f w) b s) i
    here i h (yes e) = rw e (at ∙ sym (put_same (gathered f w) b s bit))
    here i h (no n) = other i h n ∙ sym (gathered_bit f small w i h) ∙ sym (put_other (gathered f w) b s bit i n)

module _ (d : Device) (image : List ℕ) (fuse s : ℕ) (within : fuse < length image * 8) (h : fuse < fuse_count d) (bit : s < 2) where
  old : ℕ → ℕ
  old = state image

  new : ℕ → ℕ
  new = state (with_fuse image fuse s)

  changed_byte : (index : ℕ) → index < readout_bytes d → Dec (index ≡ index_in_readout d fuse)
      → get_or (readout_from d new) index 0
      ≡ get_or (set (readout_from d old) (index_in_readout d fuse)
      (put_bit (get_or (readout_from d old) (index_in_readout d fuse) 0) (bit_in_readout d fuse) s)) index 0
  unfolding old new
  changed_byte index below (yes same) =
      let l = lying d fuse h in
      let j = index_in_readout d fuse in
      let b = bit_in_readout d fuse in
      let put = put_bit (get_or (readout_from d old) j 0) b s in
      let at : new (fuse_at d j b) ≡ s = ap new l.same_fuse ∙ image_changed image fuse s within bit in
      rw (
        same,
        get_or-set_same (readout_from d old) j put 0 (rw (from_length d old) l.index_below),
        readout_byte d new (state_bit (with_fuse image fuse s)) j l.index_below,
        readout_byte d old (state_bit image) j l.index_below,
      )
      (gathered_put (λ i. old (fuse_at d j i)) (λ i. new (fuse_at d j i)) (width_at d j) b s (λ i. state_bit image _) bit l.bit_below at
      (λ i hi ne. image_others image fuse s within bit (fuse_at d j i)
      (λ e. ne (sym (lies_there d j i l.index_below hi).1 ∙ ap (bit_in_readout d) e))))
  changed_byte index below (no other) =
      let j = index_in_readout d fuse in
      let put = put_bit (get_or (readout_from d old) j 0) (bit_in_readout d fuse) s in
      rw (
        get_or-set_other (readout_from d old) j index put 0 other,
        readout_byte d new (state_bit (with_fuse image fuse s)) index below,
        readout_byte d old (state_bit image) index below,
      )
      (gathered_same (λ i. new (fuse_at d index i)) (λ i. old (fuse_at d index i)) (width_at d index)
      (λ i hi. image_others image fuse s within bit (fuse_at d index i)
      (λ e. other (sym (lies_there d index i below hi).0 ∙ ap (index_in_readout d) e))))

-- The readout of the changed image is the changed readout.
pub change_agrees : (d : Device) (image : List ℕ) (fuse s : ℕ) → known d ≡ true → length image ≡ image_bytes d → fuse < fuse_count d → s < 2
    → readout_of d (with_fuse image fuse s) ≡ with_fuse_in d (readout_of d image) fuse s
unfolding readout_of with_bit old new
change_agrees d image fuse s k e h bit =
    let before = readout_from d (state image) in
    let after = readout_from d (state (with_fuse image fuse s)) in
    let put = put_bit (get_or before (index_in_readout d fuse) 0) (bit_in_readout d fuse) s in
    ext_get_or 0 after (set before (index_in_readout d fuse) put)
    (from_length d (state (with_fuse image fuse s)) ∙ sym (length-set before (index_in_readout d fuse) put ∙ from_length d (state image)))
    (λ index g.
    changed_byte d image fuse s (omega (arith, image_whole d k)) h bit index (rw (from_length d (state (with_fuse image fuse s))) at g)
    (ℕ_discrete index (index_in_readout d fuse)))
