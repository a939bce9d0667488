-- Where a readout keeps a fuse, and a readout made from states: it has those states, the same states make the same readout, and a
-- readout is made from the states that it keeps.
use mathlib.Core.Path.{◌≡◌, sym, ◌∙◌, ap, ap₂}
use mathlib.Core.Bool.{true}
use mathlib.Core.List.{List}
use Prim.Native.Nat.{ℕ, ◌^◌, ◌<◌}
use native.Mathlib.Nat.{mod-eq_of_lt}
use lib.Dec.{ltb}
use lib.ListN.{length, get_or}
use lib.Seq.{ext_get_or}
use borrow.Author.Tests.{lt-ltb, ltb-true}
use Rattle.part.specs.Device.{fuse_count, readout_bytes}
use Rattle.part.specs.Place.{has_byte, has_place, width_of, place_of_fuse}
use Rattle.addresses.specs.Address.{index_of_byte, byte_of_index}
use Rattle.part.specs.declared.Device.{Device}
use Rattle.part.specs.declared.Place.{Place}
use Rattle.part.proofs.Facts.{and_iff}
use Rattle.part.proofs.Fuses.{at_fuse, of_place}
use Rattle.addresses.proofs.Readouts.{at_index, of_byte}
use Rattle.image.specs.Bits.{bit_of, bit_at, gathered}
use Rattle.image.proofs.Bits.{gathered_small, gathered_bit, gathered_same, gathered_own, tabulate_length, tabulate_at}
use Rattle.readout.specs.Readout.{width_at, fuse_at, readout_from, index_in_readout, bit_in_readout, state_in}

-- A fuse below the count is kept at a bit of a byte, and it is the fuse of that byte and bit.
pub record Lying (d : Device) (fuse : ℕ) : Type 0 where
  pub index_below : index_in_readout d fuse < readout_bytes d
  pub bit_below : bit_in_readout d fuse < width_at d (index_in_readout d fuse)
  pub same_fuse : fuse_at d (index_in_readout d fuse) (bit_in_readout d fuse) ≡ fuse

pub lying : (d : Device) (fuse : ℕ) → fuse < fuse_count d → Lying d fuse
unfolding has_place
lying d fuse h =
    let p = place_of_fuse d fuse in
    let lies = at_fuse d fuse h in
    let facts = (and_iff (has_byte d p.byte) (ltb p.bit (width_of p.byte))).0 lies.0 in
    let found = of_byte d p.byte facts.0 in
    record {
      index_below = found.0;
      bit_below = rw found.1 (ltb-true _ _ facts.1);
      same_fuse = rw found.1 lies.1;
    }

-- A bit of the byte at an index is a place of the device, and has a fuse.
pub place_at : (d : Device) (index bit : ℕ) → index < readout_bytes d → bit < width_at d index
    → has_place d (record { byte = byte_of_index d index; bit = bit }) ≡ true
unfolding has_place
place_at d index bit h hb = (and_iff _ _).1 ((at_index d index h).0, lt-ltb bit (width_at d index) hb)

pub fuse_below : (d : Device) (index bit : ℕ) → index < readout_bytes d → bit < width_at d index → fuse_at d index bit < fuse_count d
fuse_below d index bit h hb = (of_place d (record { byte = byte_of_index d index; bit = bit }) (place_at d index bit h hb)).0

-- No other fuse is kept there.
pub lies_there : (d : Device) (index bit : ℕ) → index < readout_bytes d → bit < width_at d index
    → (index_in_readout d (fuse_at d index bit) ≡ index) × (bit_in_readout d (fuse_at d index bit) ≡ bit)
lies_there d index bit h hb =
    let p : Place = record { byte = byte_of_index d index; bit = bit } in
    let e : place_of_fuse d (fuse_at d index bit) ≡ p = (of_place d p (place_at d index bit h hb)).1 in
    (ap (λ (q : Place). index_of_byte d q.byte) e ∙ (at_index d index h).1, ap (λ (q : Place). q.bit) e)

pub from_length : (d : Device) (f : ℕ → ℕ) → length (readout_from d f) ≡ readout_bytes d
unfolding readout_from
from_length d f = tabulate_length (readout_bytes d) _

-- A readout that is made from states has those states.
module _ (d : Device) (states : ℕ → ℕ) (small : (fuse : ℕ) → states fuse < 2) where
  pub readout_byte : (index : ℕ) → index < readout_bytes d
      → get_or (readout_from d states) index 0 ≡ gathered (λ bit. states (fuse_at d index bit)) (width_at d index)
  unfolding readout_from
  readout_byte index h = tabulate_at (readout_bytes d) _ index h

  pub readout_from_lem : (index bit : ℕ) → index < readout_bytes d → bit < width_at d index
      → bit_at (readout_from d states) index bit ≡ states (fuse_at d index bit)
  unfolding bit_at
  readout_from_lem index bit h hb =
      rw (readout_byte index h) (gathered_bit (λ b. states (fuse_at d index b)) (λ b. small _) (width_at d index) bit hb)

  pub readout_within : (index : ℕ) → index < readout_bytes d → get_or (readout_from d states) index 0 < 2 ^ width_at d index
  readout_within index h = rw (readout_byte index h) (gathered_small (λ b. states (fuse_at d index b)) (λ b. small _) (width_at d index))

  pub readout_state : (fuse : ℕ) → fuse < fuse_count d → state_in d (readout_from d states) fuse ≡ states fuse
  unfolding state_in
  readout_state fuse h =
      let l = lying d fuse h in
      readout_from_lem (index_in_readout d fuse) (bit_in_readout d fuse) l.index_below l.bit_below ∙ ap states l.same_fuse

-- The same states make the same readout.
module _ (d : Device) (f g : ℕ → ℕ) (same : (fuse : ℕ) → fuse < fuse_count d → f fuse ≡ g fuse) where
  pub same_readout : readout_from d f ≡ readout_from d g
  unfolding readout_from
  same_readout =
      let n = readout_bytes d in
      ext_get_or 0 (readout_from d f) (readout_from d g) (tabulate_length n _ ∙ sym (tabulate_length n _))
      (λ index h.
      let below : index < n = rw (tabulate_length n (λ i. gathered (λ bit. f (fuse_at d i bit)) (width_at d i))) at h in
      tabulate_at n _ index below
      ∙ gathered_same (λ bit. f (fuse_at d index bit)) (λ bit. g (fuse_at d index bit)) (width_at d index)
      (λ bit hb. same (fuse_at d index bit) (fuse_below d index bit below hb))
      ∙ sym (tabulate_at n _ index below))

-- A readout is made from the states that it keeps.
pub readout_own : (d : Device) (readout : List ℕ) → length readout ≡ readout_bytes d
    → ((i : ℕ) → i < readout_bytes d → get_or readout i 0 < 2 ^ width_at d i) → readout_from d (state_in d readout) ≡ readout
unfolding readout_from state_in bit_at
readout_own d readout e small =
    let n = readout_bytes d in
    ext_get_or 0 (readout_from d (state_in d readout)) readout (tabulate_length n _ ∙ sym e)
    (λ index h.
    let below : index < n = rw (tabulate_length n (λ i. gathered (λ bit. state_in d readout (fuse_at d i bit)) (width_at d i))) at h in
    tabulate_at n _ index below
    ∙ gathered_same (λ bit. state_in d readout (fuse_at d index bit)) (bit_of (get_or readout index 0)) (width_at d index)
    (λ bit hb. let there = lies_there d index bit below hb in ap₂ (λ (i b : ℕ). bit_of (get_or readout i 0) b) there.0 there.1)
    ∙ gathered_own (get_or readout index 0) (width_at d index)
    ∙ mod-eq_of_lt (small index below))
