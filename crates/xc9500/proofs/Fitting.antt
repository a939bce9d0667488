-- Every answer of the interface fits its word: the results are below the sizes of a part, and so are the values of the refusals.
-- And a caller reads the parts of a word that has several (parts-read).
use mathlib.Core.Path.{◌≡◌, refl, ◌∙◌, ap, subst}
use mathlib.Core.Bool.{Bool, true, false, cond, ◌&&◌}
use mathlib.Core.List.{List}
use mathlib.Core.Option.{Option}
use mathlib.Core.Option.Option.{none, some}
use Prim.Native.Nat.{ℕ, zero, suc, ◌+◌, ◌*◌, ◌^◌, ◌≤◌, ◌<◌}
use native.Mathlib.Nat.{lt_of_lt_of_le}
use native.Mathlib.Omega.{arith}
use lib.Dec.{eqb, ltb}
use lib.ListN.{length}
use lib.Pow.{pow_mono}
use borrow.Author.Tests.{lt-ltb, ltb-true}
use Rattle.part.specs.Outcome.{Outcome}
use Rattle.part.specs.Outcome.Outcome.{accepted, refused}
use Rattle.part.specs.Device.{known, fuse_count, image_bytes, readout_bytes, text_bytes}
use Rattle.part.specs.Place.{width_of, fuse_of_place, place_of_fuse}
use Rattle.addresses.specs.Address.{address_of_byte, address_of_place, byte_of_address, valid}
use Rattle.part.specs.Sizes.{sizes_of}
use Rattle.addresses.specs.Convert.{address_of_fuse, fuse_of_address}
use Rattle.part.specs.declared.Device.{Device}
use Rattle.part.proofs.Facts.{and_iff, by_cases}
use Rattle.part.proofs.Devices.{fuses_small}
use Rattle.part.proofs.Laws.{width_small}
use Rattle.addresses.proofs.Laws.{at_valid, each_address}
use Rattle.image.specs.Image.{sum16, zeros_below, fuse_sum, zero_count}
use Rattle.image.proofs.Bits.{gathered_small}
use Rattle.readout.specs.Readout.{first_above, to_readout, to_image}
use Rattle.settings.specs.Settings.{has_setting}
use Rattle.settings.specs.Order.{setting_of, count_of}
use Rattle.settings.specs.Operations.{count_of_settings, setting_of_number, through}
use Rattle.settings.specs.declared.Setting.{Setting}
use Rattle.settings.proofs.Numbering.{number_below, number_inverse}
use Rattle.settings.proofs.CodeNumbers.{count_small}
use Rattle.setting_places.specs.Places.{LocatedFuse, bits_of, fuse_of, address_of}
use Rattle.setting_places.proofs.Laws.{fuse_below, converted}
use Rattle.fuse_settings.specs.Back.{setting_at}
use Rattle.setting_places.specs.Operations.{located_bit, located_by_number}
use Rattle.fuse_settings.specs.Operations.{setting_at_fuse}
use Rattle.fuse_settings.proofs.Laws.{sound}
use Rattle.setting_bits.specs.declared.Layout.{Layout}
use Rattle.setting_bits.specs.declared.Layout.TheVariants.{Image, Readout}
use Rattle.setting_bits.specs.SettingBits.{bytes_of, state_of, pattern_at}
use Rattle.setting_bits.proofs.Steps.{bytes_between, bits_few, state_small}
use Rattle.jedec.specs.Meaning.{meaning}
use Rattle.jedec.proofs.Laws.{values_small}
use Rattle.jedec_writer.proofs.Laws.{text_few}
use Rattle.jedec_writer.specs.Pattern.{to_text}
use Rattle.jedec_reader.specs.Reader.{verdict, to_image_from_text}
use Rattle.edit.specs.Edit.{above_in, if_clean}
use Rattle.edit_by_number.specs.ByNumber.{read_pattern, set_pattern}
use Rattle.xc9500.specs.Packed.{address_and_bit, fuse_and_address, itself, no_result, or_none, packed, setting_and_bit}
use Rattle.xc9500.specs.Packed.{WordFits, WordFitsOrNone}
use Rattle.xc9500.specs.Packed.{fuses_in, image_bytes_in, readout_bytes_in, text_bytes_in}
use Rattle.xc9500.specs.Words.{EachFits, PartsRead}

-- What holds of the answer where a test fails, and of the one where it passes.
chosen : {A : Type 0} (P : A → Type 0) (t : Bool) {a b : A} → P b → (t ≡ true → P a) → P (cond t a b)
chosen P t {a} {b} wrong right = go t refl
  where
    go : (u : Bool) → t ≡ u → P (cond u a b)
    go true e = right e
    go false e = wrong

module _ (d : Device) where
  text_small : known d ≡ true → text_bytes d < 2 ^ 56
  text_small k = omega (arith, text_few d k)

  fuse_count_lem : WordFits fuses_in (sizes_of d)
  unfolding sizes_of
  fuse_count_lem = chosen (WordFits fuses_in) (known d) (omega arith, omega arith) (λ k. omega (arith, fuses_small d k))

  image_bytes_lem : WordFits image_bytes_in (sizes_of d)
  unfolding sizes_of
  image_bytes_lem = chosen (WordFits image_bytes_in) (known d) (omega arith, omega arith) (λ k. omega (arith, bytes_between d Image k))

  readout_bytes_lem : WordFits readout_bytes_in (sizes_of d)
  unfolding sizes_of
  readout_bytes_lem =
      chosen (WordFits readout_bytes_in) (known d) (omega arith, omega arith) (λ k. omega (arith, bytes_between d Readout k))

  text_bytes_lem : WordFits text_bytes_in (sizes_of d)
  unfolding sizes_of
  text_bytes_lem = chosen (WordFits text_bytes_in) (known d) (omega arith, omega arith) text_small

  -- An address has 17 bits and a bit 3.
  address_fits : (fuse address bit : ℕ) → address_of_fuse d fuse ≡ accepted (address, bit) → (address < 2 ^ 17) × (bit < 8)
  address_fits fuse address bit e =
      let its = at_valid d fuse address bit e in (its.1, omega (arith, its.2, width_small (byte_of_address address)))

  address_of_fuse_lem : (fuse : ℕ) → WordFits address_and_bit (address_of_fuse d fuse)
  unfolding address_of_fuse
  address_of_fuse_lem fuse =
      chosen (WordFits address_and_bit) (known d) (omega arith, omega arith)
      (λ k.
      by_cases (WordFits address_and_bit) fuse (fuse_count d)
      (λ l.
      let place = place_of_fuse d fuse in
      let at : address_of_fuse d fuse ≡ accepted (address_of_place place) = rw (k, lt-ltb fuse (fuse_count d) l) in
      omega (arith, address_fits fuse (address_of_byte place.byte) place.bit at))
      (λ g. (omega arith, omega arith)))

  fuse_of_address_lem : (address bit : ℕ) → WordFits itself (fuse_of_address d address bit)
  unfolding fuse_of_address
  fuse_of_address_lem address bit =
      chosen (WordFits itself) (known d) (omega arith, omega arith)
      (λ k.
      chosen (WordFits itself) (valid d address && ltb bit (width_of (byte_of_address address))) (omega arith, omega arith)
      (λ e.
      let both = (and_iff (valid d address) _).0 e in
      let its = each_address d k address bit both.0 (ltb-true _ _ both.1) in
      let there : fuse_of_address d address bit ≡ accepted (fuse_of_place d (record { byte = byte_of_address address; bit = bit })) =
      rw (k, e) in
      let same : fuse_of_place d (record { byte = byte_of_address address; bit = bit }) ≡ its.0 = cc its.2 in
      omega (arith, its.1, fuses_small d k)))

  fuse_sum_lem : (image : List ℕ) → WordFits itself (fuse_sum d image)
  unfolding fuse_sum sum16
  fuse_sum_lem image =
      chosen (WordFits itself) (known d) (omega arith, omega arith)
      (λ k. chosen (WordFits itself) (eqb (length image) (image_bytes d)) (omega arith, omega arith) (λ e. omega arith))

  zeros_few : (image : List ℕ) (n : ℕ) → zeros_below image n ≤ n
  unfolding zeros_below
  zeros_few image zero = omega arith
  zeros_few image (suc n) = omega (arith, zeros_few image n)

  zero_count_lem : (image : List ℕ) → WordFits itself (zero_count d image)
  unfolding zero_count
  zero_count_lem image =
      chosen (WordFits itself) (known d) (omega arith, omega arith) (λ k. chosen (WordFits itself) (eqb (length image) (image_bytes d))
      (omega arith, omega arith) (λ e. omega (arith, zeros_few image (fuse_count d), fuses_small d k)))

  image_to_readout : (image target : List ℕ) → WordFits no_result (to_readout d image target)
  unfolding to_readout
  image_to_readout image target =
      chosen (WordFits no_result) (known d) (omega arith, omega arith)
      (λ k. chosen (WordFits no_result) (eqb (length image) (image_bytes d)) (omega arith, omega arith)
      (λ e. chosen (WordFits no_result) (eqb (length target) (readout_bytes d)) (omega arith, omega arith) (λ f. omega arith)))

  readout_to_image : (readout target : List ℕ) → WordFits no_result (to_image d readout target)
  unfolding to_image
  readout_to_image readout target =
      chosen (WordFits no_result) (known d) (omega arith, omega arith)
      (λ k.
      chosen (WordFits no_result) (eqb (length readout) (readout_bytes d)) (omega arith, omega arith)
      (λ e.
      chosen (WordFits no_result) (eqb (length target) (image_bytes d)) (omega arith, omega arith)
      (λ f.
      by_cases (WordFits no_result) (first_above d readout) (readout_bytes d)
      (λ l. (omega arith, omega (arith, bytes_between d Readout k))) (λ g. omega arith))))

  image_to_text : (image : List ℕ) (buffer : ℕ) → WordFits itself (to_text d image buffer)
  unfolding to_text
  image_to_text image buffer =
      chosen (WordFits itself) (known d) (omega arith, omega arith)
      (λ k. chosen (WordFits itself) (eqb (length image) (image_bytes d)) (omega arith, omega arith)
      (λ e. by_cases (WordFits itself) buffer (text_bytes d) (λ l. (omega arith, text_small k)) (λ g. text_small k)))

  of_meaning : known d ≡ true → (text : List ℕ) (o : Outcome (List ℕ)) → meaning (fuse_count d) text ≡ o → WordFits no_result (verdict o)
  of_meaning k text (accepted image) e = omega arith
  of_meaning k text (refused number value) e =
      let its = values_small (fuse_count d) (omega (arith, fuses_small d k)) text number value e in
      (omega (arith, its.0.0), omega (arith, its.1))

  text_to_image : (text target : List ℕ) → WordFits no_result (to_image_from_text d text target)
  unfolding to_image_from_text
  text_to_image text target =
      chosen (WordFits no_result) (known d) (omega arith, omega arith)
      (λ k. chosen (WordFits no_result) (eqb (length target) (image_bytes d))
      (omega arith, omega arith) (λ e. of_meaning k text (meaning (fuse_count d) text) refl))

  setting_count : WordFits itself (count_of_settings d)
  unfolding count_of_settings
  setting_count = chosen (WordFits itself) (known d) (omega arith, omega arith) (λ k. omega (arith, count_small d k))

  -- Of a located fuse: the fuse has 19 bits.
  abbrev PartsFit : Outcome (Option LocatedFuse) → Type 0
  PartsFit (accepted none) = Unit {0}
  PartsFit (accepted (some q)) = (q.0 < 2 ^ 19) × (q.1.0 < 2 ^ 17) × (q.1.1 < 8)
  PartsFit (refused number value) = (0 < number) × (value < 2 ^ 56)

  located_fits : (s : Setting) (bit : ℕ) → PartsFit (located_bit d s bit)
  unfolding located_bit
  located_fits s bit =
      chosen PartsFit (known d) (omega arith, omega arith)
      (λ k.
      chosen PartsFit (has_setting d s) (omega arith, omega arith)
      (λ h.
      by_cases (λ (o : Option LocatedFuse). PartsFit (accepted o)) bit (bits_of s)
      (λ l.
      let at = address_fits (fuse_of d s bit) (address_of s bit).0 (address_of s bit).1 (converted d s bit k h l) in
      (omega (arith, fuse_below d s bit k h l, fuses_small d k), at.0, at.1))
      (λ g. tt)))

  abbrev ThroughFits : (bit : ℕ) → Outcome Setting → Type 0
  ThroughFits bit o = PartsFit (through o (λ s. located_bit d s bit))

  setting_parts : (setting bit : ℕ) → PartsFit (located_by_number d setting bit)
  unfolding located_by_number setting_of_number
  setting_parts setting bit =
      chosen (ThroughFits bit) (known d) (omega arith, omega arith)
      (λ k. by_cases (ThroughFits bit) setting (count_of d) (λ l. located_fits (setting_of d setting) bit)
      (λ g. (omega arith, omega arith)))

  parts_fit : (o : Outcome (Option LocatedFuse)) → PartsFit o → WordFitsOrNone fuse_and_address o
  parts_fit (accepted none) h = tt
  parts_fit (accepted (some q)) h = omega arith
  parts_fit (refused number value) h = h

  setting_fuse : (setting bit : ℕ) → WordFitsOrNone fuse_and_address (located_by_number d setting bit)
  setting_fuse setting bit = parts_fit (located_by_number d setting bit) (setting_parts setting bit)

  named : known d ≡ true → (fuse : ℕ) (o : Option (Setting × ℕ)) → setting_at d fuse ≡ o → WordFitsOrNone (setting_and_bit d) (accepted o)
  named k fuse none e = tt
  named k fuse (some (s, bit)) e =
      let both = (and_iff (has_setting d s) (ltb bit (bits_of s))).0 (sound d k fuse s bit e).0 in
      omega (arith, number_below d s both.0, count_small d k, ltb-true bit (bits_of s) both.1, bits_few d s both.0)

  setting_at_fuse_lem : (fuse : ℕ) → WordFitsOrNone (setting_and_bit d) (setting_at_fuse d fuse)
  unfolding setting_at_fuse
  setting_at_fuse_lem fuse =
      chosen (WordFitsOrNone (setting_and_bit d)) (known d) (omega arith, omega arith)
      (λ k. by_cases (WordFitsOrNone (setting_and_bit d)) fuse (fuse_count d) (λ l. named k fuse (setting_at d fuse) refl)
      (λ g. (omega arith, omega arith)))

  -- By number: refusals 1, 2, 4, and then 6 with an index below the length.
  module _ (layout : Layout) (bytes : List ℕ) (setting : ℕ) where
    pattern_small : setting < count_of d → pattern_at d layout bytes (setting_of d setting) < 2 ^ 56
    unfolding pattern_at
    pattern_small l =
        let s = setting_of d setting in
        lt_of_lt_of_le (gathered_small (λ b. state_of d layout bytes (fuse_of d s b)) (λ b. state_small d layout bytes (fuse_of d s b))
        (bits_of s)) (pow_mono {j = 56} (omega (arith, bits_few d s (number_inverse d setting l).0)))

    if_clean_lem : {A : Type 0} (result : A → ℕ) (answer : Outcome A) → known d ≡ true → WordFits result answer
        → WordFits result (if_clean d layout bytes (setting_of d setting) answer)
    if_clean_lem result answer k fits =
        by_cases (WordFits result) (above_in d layout bytes (setting_of d setting)) (bytes_of d layout)
        (λ l. (omega arith, omega (arith, bytes_between d layout k))) (λ g. fits)

    read : WordFits itself (read_pattern d layout bytes setting)
    unfolding read_pattern
    read =
        chosen (WordFits itself) (known d) (omega arith, omega arith)
        (λ k.
        chosen (WordFits itself) (eqb (length bytes) (bytes_of d layout)) (omega arith, omega arith)
        (λ e.
        by_cases (WordFits itself) setting (count_of d)
        (λ l. if_clean_lem itself (accepted (pattern_at d layout bytes (setting_of d setting))) k (pattern_small l))
        (λ g. (omega arith, omega arith))))

    set : (pattern : ℕ) → WordFits no_result (set_pattern d layout bytes setting pattern)
    unfolding set_pattern
    set pattern =
        chosen (WordFits no_result) (known d) (omega arith, omega arith)
        (λ k.
        chosen (WordFits no_result) (eqb (length bytes) (bytes_of d layout)) (omega arith, omega arith)
        (λ e.
        by_cases (WordFits no_result) setting (count_of d)
        (λ l. by_cases (WordFits no_result) pattern (2 ^ bits_of (setting_of d setting))
        (λ m. if_clean_lem no_result (accepted tt) k (omega arith))
        (λ g. (omega arith, omega arith)))
        (λ g. (omega arith, omega arith))))

pub each_fits : EachFits
each_fits =
    record {
      fuse_count_lem = fuse_count_lem;
      image_bytes_lem = image_bytes_lem;
      readout_bytes_lem = readout_bytes_lem;
      text_bytes_lem = text_bytes_lem;
      address_of_fuse_lem = address_of_fuse_lem;
      fuse_of_address_lem = fuse_of_address_lem;
      fuse_sum_lem = fuse_sum_lem;
      zero_count_lem = zero_count_lem;
      image_to_readout = image_to_readout;
      readout_to_image = readout_to_image;
      image_to_text = image_to_text;
      text_to_image = text_to_image;
      setting_count = setting_count;
      setting_fuse = setting_fuse;
      setting_at_fuse_lem = setting_at_fuse_lem;
      read = read;
      set = set;
    }

pub parts_read : PartsRead
parts_read =
    record {
      of_fuse = λ d fuse address bit word e w.
          let fits = address_fits d fuse address bit e in
          let is : word ≡ address * 8 + bit = w ∙ ap (packed address_and_bit) e in
          (omega arith, omega arith);
      of_setting = λ d setting bit fuse address bitThere word e w.
          let fits = subst (PartsFit d) e (setting_parts d setting bit) in
          let is : word ≡ fuse * 2 ^ 20 + (address * 8 + bitThere) = w ∙ ap (packed (or_none fuse_and_address)) e in
          (omega arith, omega arith, omega arith);
    }
