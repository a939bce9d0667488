-- What the code knows of a setting of the device by its group, and the number of a setting as the code adds it up, which therefore fits.
-- Stated once for every device.
use mathlib.Core.Path.{◌≡◌, refl, sym, ◌∙◌, ap}
use mathlib.Core.Bool.{true}
use mathlib.Core.List.{List, [], ◌∷◌}
use Prim.Native.Nat.{ℕ, ◌+◌, ◌*◌, ◌/◌, ◌^◌, ◌<◌, ◌≤◌}
use native.Mathlib.Omega.{arith}
use borrow.Author.Tests.{ltb-true}
use Rattle.part.specs.Device.{known, blocks_of}
use Rattle.part.specs.declared.Device.{Device}
use Rattle.part.proofs.Facts.{tests}
use Rattle.part.proofs.Devices.{by_count, known_count}
use Rattle.settings.specs.Fields.{foes, polarity_index, macrocell_fields, macrocell_index, block_index, global_fields}
use Rattle.settings.specs.Fields.{global_index}
use Rattle.settings.specs.Settings.{has_setting}
use Rattle.settings.specs.Order.{Group, group, indices, bounds, product, position, start, count_of, number_of}
use Rattle.settings.specs.Order.Group.{literals, wire_ands, macrocell_settings, block_settings, globals}
use Rattle.settings.specs.declared.Polarity.{Polarity}
use Rattle.settings.specs.declared.MacrocellField.{MacrocellField}
use Rattle.settings.specs.declared.BlockField.{BlockField}
use Rattle.settings.specs.declared.GlobalField.{GlobalField}
use Rattle.settings.specs.declared.Setting.{Setting}
use Rattle.settings.specs.declared.device_setting.DeviceSetting.{DeviceSetting}
use Rattle.settings.specs.declared.Setting.TheVariants.{Literal, WireAnd, Macrocell, Block, Global}
use Rattle.settings.proofs.FieldIndices.{few}
use Rattle.settings.proofs.Order.{position_below}
use Rattle.settings.proofs.Numbering.{within, number_below}

-- What a setting of the device has, for the code, which knows its group by an equation.
module _ (d : Device) (s : Setting) (h : has_setting d s ≡ true) where
  pub has_literal : (block j k l : ℕ) (p : Polarity) → s ≡ Literal block j k l p → (block < blocks_of d) × (j < 18) × (k < 5) × (l < 36)
  unfolding has_setting
  has_literal block j k l p e = let facts = simp tests at (rw e at h) in (facts.0.0.0, facts.0.0.1, facts.0.1, facts.1)

  pub has_macrocell : (block m : ℕ) (f : MacrocellField) → s ≡ Macrocell block m f
      → (block < blocks_of d) × (m < 18) × (macrocell_index f < macrocell_fields)
  unfolding has_setting
  has_macrocell block m f e = let facts = simp tests at (rw e at h) in (facts.0.0, facts.0.1, facts.1)

  pub has_global : (f : GlobalField) → s ≡ Global f → global_index (foes d) f < global_fields (foes d)
  unfolding has_setting
  has_global f e = ltb-true _ _ (rw e at h)

-- No device has more settings than the largest: every number fits 32 bits.
pub count_small : (d : Device) → known d ≡ true → count_of d ≤ 277456
unfolding count_of
count_small d k =
    omega (
      arith,
      few d,
      by_count (λ n. n * 6480 + n * (36 * (n * 18)) + n * 486 + n * 6 ≤ 277440) (omega arith) (omega arith) (omega arith) (omega arith)
          (omega arith) (omega arith)
          (blocks_of d) (known_count d k),
    )

-- The last index is what is left.
pub whole : (x : ℕ) → x / 1 ≡ x
whole x = omega arith

-- The number of a setting as the code adds it up, which therefore fits: with the first number of its group and its position there.
module _ (there : DeviceSetting) where
  abbrev d : Device
  d = there.device.device

  abbrev s : Setting
  s = there.setting

  abbrev pub Numbered : ℕ → Type 0
  Numbered r = (r ≡ number_of d s) × (r ≤ 277456)

  numbered_small : (r : ℕ) → r ≡ number_of d s → Numbered r
  numbered_small r e = (e, omega (arith, number_below d s there.is_there, count_small d there.device.is_known))

  -- What the code's bounds and indices give.
  pub record Placed (g : Group) (bs xs : List ℕ) : Type 0 where
    pub some : 0 < product bs
    pub fits : position bs xs < 2 ^ 32
    pub number : (first at : ℕ) → first ≡ start d g → at ≡ position bs xs → Numbered (first + at)

  placed : (g : Group) (bs xs : List ℕ) (t : Setting) → s ≡ t → group t ≡ g → bs ≡ bounds d g → xs ≡ indices d t → Placed g bs xs
  unfolding number_of
  placed g bs xs t w eg eb ex =
      let below = position_below (within d s there.is_there) in
      let its = numbered_small (start d (group s) + position (bounds d (group s)) (indices d s)) refl in
      let in_group : g ≡ group s = sym (ap group w ∙ eg) in
      let all : xs ≡ indices d s = ex ∙ sym (ap (indices d) w) in
      rw (eb, all, in_group)
      (record {
        some = omega arith;
        fits = omega arith;
        number = λ first at e f. numbered_small _ (rw (e, f));
      })

  pub literal : (block j t l n i : ℕ) (p : Polarity) → s ≡ Literal block j t l p → n ≡ blocks_of d → i ≡ polarity_index p
      → Placed literals (n ∷ 18 ∷ 5 ∷ 36 ∷ 2 ∷ []) (block ∷ j ∷ t ∷ l ∷ i ∷ [])
  literal block j t l n i p w e f = placed literals _ _ _ w refl (rw e) (rw f)

  pub wire_and : (i j t l n : ℕ) → s ≡ WireAnd i j t l → n ≡ blocks_of d
      → Placed wire_ands (n ∷ 36 ∷ n ∷ 18 ∷ []) (i ∷ j ∷ t ∷ l ∷ [])
  wire_and i j t l n w e = placed wire_ands _ _ _ w refl (rw e) refl

  pub macrocell : (block m n i : ℕ) (f : MacrocellField) → s ≡ Macrocell block m f → n ≡ blocks_of d → i ≡ macrocell_index f
      → Placed macrocell_settings (n ∷ 18 ∷ 27 ∷ []) (block ∷ m ∷ i ∷ [])
  macrocell block m n i f w e g = placed macrocell_settings _ _ _ w refl (rw e) (rw g)

  pub block : (b n i : ℕ) (f : BlockField) → s ≡ Block b f → n ≡ blocks_of d → i ≡ block_index f
      → Placed block_settings (n ∷ 6 ∷ []) (b ∷ i ∷ [])
  block b n i f w e g = placed block_settings _ _ _ w refl (rw e) (rw g)

  pub global : (f : GlobalField) (i first : ℕ) → s ≡ Global f → i ≡ global_index (foes d) f → first ≡ start d globals
      → Numbered (first + i)
  unfolding number_of
  global f i first w g e =
      let its : first + i ≡ number_of d (Global f) = rw (e, g) (omega arith) in numbered_small _ (its ∙ sym (ap (number_of d) w))
