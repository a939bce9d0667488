-- Every answer of the interface fits its word, so that a caller reads it back by `unpacked` and `unpacked_none`
-- (proofs/Words.antt): a field for each definition that the contracts of src/lib.rt pack. `PartsRead` is on its parts.
use Rattle.std.specs.Prelude.{◌≡◌, ℕ, List}
use Rattle.std.proofs.Math.Option.Option.{some}
use Rattle.addresses.specs.Convert.{address_of_fuse, fuse_of_address}
use Rattle.part.specs.Outcome.Outcome.{accepted}
use Rattle.part.specs.Sizes.{sizes_of}
use Rattle.part.specs.declared.Device.{Device}
use Rattle.image.specs.Image.{fuse_sum, zero_count}
use Rattle.readout.specs.Readout.{to_readout, to_image}
use Rattle.settings.specs.Operations.{count_of_settings}
use Rattle.setting_places.specs.Operations.{located_by_number}
use Rattle.fuse_settings.specs.Operations.{setting_at_fuse}
use Rattle.jedec_writer.specs.Pattern.{to_text}
use Rattle.jedec_reader.specs.Reader.{to_image_from_text}
use Rattle.edit_by_number.specs.ByNumber.{read_pattern, set_pattern}
use Rattle.xc9500.specs.Packed.{packed, address_and_bit, fuse_and_address, itself, no_result, or_none, setting_and_bit}
use Rattle.xc9500.specs.Packed.{address_in, bit_in, fuse_in, WordFits, WordFitsOrNone}
use Rattle.xc9500.specs.Packed.{fuses_in, image_bytes_in, readout_bytes_in, text_bytes_in}
use Rattle.setting_bits.specs.declared.Layout.{Layout}

pub record EachFits : Type 0 where
  pub fuse_count_lem : (d : Device) → WordFits fuses_in (sizes_of d)
  pub image_bytes_lem : (d : Device) → WordFits image_bytes_in (sizes_of d)
  pub readout_bytes_lem : (d : Device) → WordFits readout_bytes_in (sizes_of d)
  pub text_bytes_lem : (d : Device) → WordFits text_bytes_in (sizes_of d)
  pub address_of_fuse_lem : (d : Device) (fuse : ℕ) → WordFits address_and_bit (address_of_fuse d fuse)
  pub fuse_of_address_lem : (d : Device) (address bit : ℕ) → WordFits itself (fuse_of_address d address bit)
  pub fuse_sum_lem : (d : Device) (image : List ℕ) → WordFits itself (fuse_sum d image)
  pub zero_count_lem : (d : Device) (image : List ℕ) → WordFits itself (zero_count d image)
  pub image_to_readout : (d : Device) (image target : List ℕ) → WordFits no_result (to_readout d image target)
  pub readout_to_image : (d : Device) (readout target : List ℕ) → WordFits no_result (to_image d readout target)
  pub image_to_text : (d : Device) (image : List ℕ) (buffer : ℕ) → WordFits itself (to_text d image buffer)
  pub text_to_image : (d : Device) (text target : List ℕ) → WordFits no_result (to_image_from_text d text target)
  pub setting_count : (d : Device) → WordFits itself (count_of_settings d)
  pub setting_fuse : (d : Device) (setting bit : ℕ)
      → WordFitsOrNone fuse_and_address (located_by_number d setting bit)
  pub setting_at_fuse_lem : (d : Device) (fuse : ℕ) → WordFitsOrNone (setting_and_bit d) (setting_at_fuse d fuse)
  pub read : (d : Device) (layout : Layout) (bytes : List ℕ) (setting : ℕ)
      → WordFits itself (read_pattern d layout bytes setting)
  pub set : (d : Device) (layout : Layout) (bytes : List ℕ) (setting pattern : ℕ)
      → WordFits no_result (set_pattern d layout bytes setting pattern)

-- By the header's functions a caller reads address and bit of the word of a fuse, and fuse, address and bit of the word
-- of a setting's bit, as they are answered.
pub record PartsRead : Type 0 where
  pub of_fuse : (d : Device) (fuse address bit word : ℕ) → address_of_fuse d fuse ≡ accepted (address, bit)
      → word ≡ packed address_and_bit (address_of_fuse d fuse) → (address_in word ≡ address) × (bit_in word ≡ bit)
  pub of_setting : (d : Device) (setting bit fuse address bitThere word : ℕ)
      → located_by_number d setting bit ≡ accepted (some (fuse, (address, bitThere)))
      → word ≡ packed (or_none fuse_and_address) (located_by_number d setting bit)
      → (fuse_in word ≡ fuse) × (address_in word ≡ address) × (bit_in word ≡ bitThere)
