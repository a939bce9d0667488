-- The image of a text in plain terms: when each L is in place, and which state each fuse then has.
-- Assumes nothing. `InPlace` and `Described` stand in specs/Form.antt.
use mathlib.Core.Path.{◌≡◌, refl, sym, ◌∙◌, ap, subst}
use mathlib.Core.Logic.{◌↔◌}
use mathlib.Core.List.{List, [], ◌∷◌}
use mathlib.Core.Option.Option.{none, some}
use Prim.Native.Nat.{ℕ, ◌+◌, ◌*◌, ◌-◌, ◌/◌, ◌%◌, ◌<◌, ◌≤◌}
use native.Mathlib.Omega.{arith}
use lib.Dec.{ltb}
use lib.ListN.{get_or, get_or-eq_default}
use borrow.Author.Tests.{lt-ltb, le-ltb}
use Rattle.part.proofs.Facts.{compared}
use Rattle.image.specs.Bits.{bit_at}
use Rattle.image.specs.Image.{state}
use Rattle.image.proofs.Bits.{bit_above, gathered_bit, gathered_small}
use Rattle.jedec.specs.Cut.{Field}
use Rattle.jedec.specs.Rules.{Listed, Given, nothing_given, all_fields, end_of, misplaced, start_state}
use Rattle.jedec.specs.Rules.{inside, state_given, within, image_with, finished}
use Rattle.jedec.specs.Rules.Fields.{all_good}
use Rattle.jedec.specs.Form.{InPlace, Each, Image, Described}
use Rattle.jedec.proofs.Places.{chosen}
use Rattle.jedec.proofs.StatesGiven.{given_outside, each_gives, gives_each}
pub use Rattle.jedec.proofs.StatesGiven.{image_length, image_at}
use Rattle.jedec.proofs.ReadBack.{image_given}
use Rattle.jedec.proofs.StateBits.{Bits, GivenBits, FieldsBits, fields_bits}

module _ (fuses : ℕ) where
  -- Where no L is out of place, the first is in place and the others are too.
  pub placed : (end : ℕ) (l : Listed) (lists : List Listed) → misplaced fuses end (l ∷ lists) ≡ none
      → (end ≤ l.first) × (end_of l ≤ fuses) × (misplaced fuses (end_of l) lists ≡ none)
  unfolding misplaced
  placed end l lists e =
      compared l.first end
      (λ m. let bad : some l.at ≡ none = rw (lt-ltb l.first end m) at e in let z : ◌≡◌ {A = ℕ} 0 1 = cc in absurd (omega arith))
      (λ g.
      compared fuses (end_of l)
      (λ m. let bad : some l.at ≡ none = rw (le-ltb l.first end g, lt-ltb fuses (end_of l) m) at e in
      let z : ◌≡◌ {A = ℕ} 0 1 = cc in absurd (omega arith))
      (λ h. (g, h, rw (le-ltb l.first end g, le-ltb fuses (end_of l) h) at e)))

  all_placed : (end : ℕ) (lists : List Listed) → misplaced fuses end lists ≡ none → InPlace fuses end lists
  all_placed end [] e = tt
  all_placed end (l ∷ lists) e = let p = placed end l lists e in (p.0, p.1, all_placed (end_of l) lists p.2)

  none_misplaced : (end : ℕ) (lists : List Listed) → InPlace fuses end lists → misplaced fuses end lists ≡ none
  unfolding misplaced
  none_misplaced end [] p = refl
  none_misplaced end (l ∷ lists) p =
      rw (le-ltb l.first end p.0, le-ltb fuses (end_of l) p.1) (none_misplaced (end_of l) lists p.2)

  pub in_place_iff : (end : ℕ) (lists : List Listed) → (misplaced fuses end lists ≡ none) ↔ InPlace fuses end lists
  in_place_iff end lists = (all_placed end lists, none_misplaced end lists)

-- The state that the fields give a fuse is 0 or 1, if theirs are.
module _ (from : ℕ) where
  given_bit : (lists : List Listed) → from < 2 → Each (λ l. Bits l.states) lists → (fuse : ℕ) → state_given from lists fuse < 2
  unfolding state_given
  given_bit [] h bits fuse = h
  given_bit (l ∷ lists) h bits fuse =
      chosen (λ x. x < 2) (inside fuse l) (bits.0 (fuse - l.first)) (given_bit lists h bits.1 fuse)

module _ (fuses : ℕ) (states : ℕ → ℕ) where
  pub within_small : ((fuse : ℕ) → states fuse < 2) → (fuse : ℕ) → within fuses states fuse < 2
  within_small bits fuse = chosen (λ x. x < 2) (ltb fuse fuses) (bits fuse) (omega arith)

-- The image with given states has these states, and no more.
module _ (fuses : ℕ) (states : ℕ → ℕ) (bits : (fuse : ℕ) → states fuse < 2) where
  no_byte : (i : ℕ) → (fuses + 7) / 8 ≤ i → get_or (image_with fuses states) i 0 ≡ 0
  no_byte i g = get_or-eq_default (image_with fuses states) 0 (rw (image_length fuses states) g)

  state_given_lem : (fuse : ℕ) → state (image_with fuses states) fuse ≡ within fuses states fuse
  unfolding state bit_at
  state_given_lem fuse =
      compared (fuse / 8) ((fuses + 7) / 8)
      (λ h.
      let own : fuse / 8 * 8 + fuse % 8 ≡ fuse = omega arith in
      rw (image_at fuses states (fuse / 8) h)
      (gathered_bit (λ bit. within fuses states (fuse / 8 * 8 + bit)) (λ bit. within_small fuses states bits (fuse / 8 * 8 + bit)) 8
      (fuse % 8) (omega arith)
      ∙ ap (λ (f : ℕ). within fuses states f) own))
      (λ g.
      let past : fuses ≤ fuse = omega arith in
      rw (no_byte (fuse / 8) g, le-ltb fuse fuses past) (bit_above 0 0 (fuse % 8) (omega arith) (omega arith)))

  image_of_given : Image fuses (image_with fuses states)
  image_of_given =
      record {
        size = image_length fuses states;
        bytes = λ i.
            compared i ((fuses + 7) / 8)
            (λ h. rw (image_at fuses states i h) (gathered_small _ (λ bit. within_small fuses states bits (i * 8 + bit)) 8))
            (λ g. rw (no_byte i g) (omega arith));
        no_more = λ fuse past. state_given_lem fuse ∙ rw (le-ltb fuse fuses past);
      }

module _ (fuses : ℕ) (fields : List Field) (k : Given) (in_order_lem : all_fields nothing_given fields ≡ all_good k)
    (in_place : InPlace fuses 0 k.lists) where
  bits : (fuse : ℕ) → state_given (start_state k.start) k.lists fuse < 2
  bits =
      let b : GivenBits k = subst FieldsBits in_order_lem (fields_bits fields nothing_given (record { start = omega arith; lists = tt })) in
      given_bit (start_state k.start) k.lists b.start b.lists

  is_given_lem : (fuse : ℕ) → fuse < fuses → state (finished fuses k) fuse ≡ state_given (start_state k.start) k.lists fuse
  is_given_lem fuse h = state_given_lem fuses (state_given (start_state k.start) k.lists) bits fuse ∙ rw (lt-ltb fuse fuses h)

  described : Described fuses k (finished fuses k)
  described =
      record {
        is_image = image_of_given fuses (state_given (start_state k.start) k.lists) bits;
        listed = each_gives (start_state k.start) fuses (state (finished fuses k)) 0 k.lists in_place (λ fuse g h. is_given_lem fuse h);
        others = λ fuse h o. is_given_lem fuse h ∙ given_outside (start_state k.start) fuse k.lists o;
      }

  pub finished_state : (image : List ℕ) → (image ≡ finished fuses k) ↔ Described fuses k image
  finished_state image = (
    λ e. subst (Described fuses k) (sym e) described,
    λ d. sym (image_given fuses image d.is_image (state_given (start_state k.start) k.lists)
        (λ fuse h. gives_each (start_state k.start) fuses (state image) fuse k.lists d.listed (d.others fuse h))),
  )
