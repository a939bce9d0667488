-- What is written is read back: the writer's text of any image is accepted and gives that image, for any fuse count and line pattern.
-- Assumes nothing.
use mathlib.Core.Path.{◌≡◌, refl, sym, ◌∙◌, ap}
use mathlib.Core.Logic.{inr}
use mathlib.Core.Bool.{true}
use mathlib.Core.List.{List, [], ◌∷◌, ◌++◌, append-nil}
use mathlib.Core.Option.Option.{none, some}
use Prim.Native.Nat.{ℕ, zero, suc, ◌+◌, ◌*◌, ◌-◌, ◌/◌, ◌%◌, ◌^◌, ◌<◌, ◌≤◌}
use native.Mathlib.Omega.{arith}
use native.Mathlib.Nat.{mod-lt, mod-eq_of_lt}
use lib.ListN.{length, get_or}
use lib.Seq.{append_snoc, take_at, ext_get_or}
use borrow.Author.Tests.{lt-ltb, le-ltb, le-leb}
use Rattle.part.specs.Outcome.Outcome.{accepted}
use Rattle.part.proofs.Facts.{compared}
use Rattle.cells.specs.Cells.{total}
use Rattle.image.specs.Bits.{bit_of, bit_at, tabulate}
use Rattle.image.specs.Image.{state, sum16}
use Rattle.image.proofs.Bits.{gathered_same, gathered_own, tabulate_length, tabulate_at}
use Rattle.jedec.specs.Characters.{lf, letter_c, letter_f, letter_q, decimal_digit, count_digits, four_hex}
use Rattle.jedec.specs.Cut.{Field, holds_mark}
use Rattle.jedec.specs.Judge.{Judged, judge}
use Rattle.jedec.specs.Judge.Judged.{count, start, sum}
use Rattle.jedec.specs.Rules.{At, Listed, Given, nothing_given, in_order, after, all_fields, misplaced, state_given, within}
use Rattle.jedec.specs.Rules.{image_with}
use Rattle.jedec.specs.Rules.Fields.{all_good}
use Rattle.jedec.specs.Meaning.{longest, meaning}
use Rattle.jedec.specs.WrittenText.{pattern_fuses, NoneEmpty, up_to_etx, text_with}
use Rattle.jedec.specs.Form as form
use Rattle.jedec.specs.Form.{all, SpacedField, offset_after, fields_of, head_of, assembled, RightForm, first_at}
use Rattle.jedec.specs.Form.{etx_at, Concluded, Image}
use Rattle.jedec.proofs.Numbers.{sum_back}
use Rattle.jedec.proofs.Forms.{head_length, assembled_accepted}
use Rattle.jedec.proofs.Judging.{states_of, count_judged, start_judged}
use Rattle.jedec.proofs.Judging.{sum_judged, line_bytes, line_judged}
use Rattle.jedec.proofs.WrittenFields.{after_lf, line_fields, written_fields, upto_assembled, written_right}

-- The fields are read one after the other.
read_one : (k : Given) (at : ℕ) (bytes : List ℕ) (fields : List Field) (j : Judged) → judge bytes ≡ j → in_order k j ≡ true
    → all_fields k (record { start = at; bytes = bytes } ∷ fields) ≡ all_fields (after k at j) fields
unfolding all_fields
read_one k at bytes fields j e h = rw (e, h)

lists_of : (at : ℕ) → (image : List ℕ) → (fuse : ℕ) → (pattern : List (List ℕ)) → List Listed
lists_of at image fuse [] = []
lists_of at image fuse (widths ∷ pattern) =
    record { at = at + 1; first = fuse; states = states_of image fuse (total widths) }
    ∷ lists_of (offset_after at (after_lf (line_bytes image fuse widths))) image (fuse + total widths) pattern

-- What is given by the count, the start state and some lines.
given_with : At → List Listed → Given
given_with q lists = record { count = some q; start = some 0; lists = lists; sum = none }

read_line : (q : At) (image : List ℕ) (at fuse : ℕ) (widths : List ℕ) (lists : List Listed) (fields : List Field)
    → 0 < total widths → fuse < 10 ^ 7
    → all_fields (given_with q lists) (record { start = at + 1; bytes = line_bytes image fuse widths } ∷ fields)
    ≡ all_fields (given_with q (lists ++ (record { at = at + 1; first = fuse; states = states_of image fuse (total widths) } ∷ []))) fields
unfolding given_with
read_line q image at fuse widths lists fields positive h =
    read_one (given_with q lists) (at + 1) (line_bytes image fuse widths) fields _ (line_judged image fuse widths h positive) refl

lines_read : (q : At) (image : List ℕ) (at fuse : ℕ) (pattern : List (List ℕ)) (lists : List Listed) (more : List SpacedField)
    → NoneEmpty pattern → fuse + pattern_fuses pattern < 10 ^ 7
    → all_fields (given_with q lists) (fields_of at (line_fields image fuse pattern ++ more))
    ≡ all_fields (given_with q (lists ++ lists_of at image fuse pattern)) (fields_of (form.offset_after_all at
    (line_fields image fuse pattern)) more)
unfolding fields_of line_fields lists_of pattern_fuses form.offset_after_all after_lf
lines_read q image at fuse [] lists more positive h = rw (append-nil lists)
lines_read q image at fuse (widths ∷ pattern) lists more positive h =
    let p = after_lf (line_bytes image fuse widths) in
    let l : Listed = record { at = at + 1; first = fuse; states = states_of image fuse (total widths) } in
    read_line q image at fuse widths lists _ positive.0 (omega arith)
    ∙ lines_read q image (offset_after at p) (fuse + total widths) pattern (lists ++ (l ∷ [])) more positive.1 (omega arith)
    ∙ ap (λ (ls : List Listed).
    all_fields (given_with q ls)
    (fields_of (form.offset_after_all (offset_after at p) (line_fields image (fuse + total widths) pattern)) more))
    (append_snoc lists l (lists_of (offset_after at p) image (fuse + total widths) pattern))

states_length : (image : List ℕ) (fuse width : ℕ) → length (states_of image fuse width) ≡ width
unfolding states_of
states_length image fuse zero = refl
states_length image fuse (suc width) = ap suc (states_length image (fuse + 1) width)

states_at : (image : List ℕ) (fuse width i : ℕ) → i < width → get_or (states_of image fuse width) i 0 ≡ state image (fuse + i)
unfolding states_of
states_at image fuse zero i h = absurd (omega arith)
states_at image fuse (suc width) zero h = ap (state image) (omega arith)
states_at image fuse (suc width) (suc i) h = states_at image (fuse + 1) width i (omega arith) ∙ ap (state image) (omega arith)

-- No line is out of place, and the lines give every fuse its state.
lines_in_place : (fuses end at : ℕ) (image : List ℕ) (fuse : ℕ) (pattern : List (List ℕ)) → end ≤ fuse
    → fuse + pattern_fuses pattern ≤ fuses
    → misplaced fuses end (lists_of at image fuse pattern) ≡ none
unfolding misplaced lists_of pattern_fuses
lines_in_place fuses end at image fuse [] before fits = refl
lines_in_place fuses end at image fuse (widths ∷ pattern) before fits =
    let long = states_length image fuse (total widths) in
    rw (le-ltb fuse end before, long, le-ltb fuses (fuse + total widths) (omega arith))
    (lines_in_place fuses (fuse + total widths) _ image (fuse + total widths) pattern (omega arith) (omega arith))

lines_give : (image : List ℕ) (fuse at : ℕ) (pattern : List (List ℕ)) (g : ℕ) → fuse ≤ g → g < fuse + pattern_fuses pattern
    → state_given 0 (lists_of at image fuse pattern) g ≡ state image g
unfolding state_given lists_of pattern_fuses
lines_give image fuse at [] g low high = absurd (omega arith)
lines_give image fuse at (widths ∷ pattern) g low high =
    compared g (fuse + total widths)
    (λ inside.
    let own : fuse + (g - fuse) ≡ g = omega arith in
    let offset : g - fuse < total widths = omega arith in
    rw (
      le-leb fuse g low,
      states_length image fuse (total widths),
      lt-ltb g (fuse + total widths) inside,
      states_at image fuse (total widths) (g - fuse) offset,
      own,
    ))
    (λ past.
    rw (le-leb fuse g low, states_length image fuse (total widths), le-ltb g (fuse + total widths) past)
    (lines_give image (fuse + total widths) _ pattern g past (omega arith)))

-- An image is what its states give.
byte_state : (image : List ℕ) (i b : ℕ) → b < 8 → state image (i * 8 + b) ≡ bit_of (get_or image i 0) b
unfolding state bit_at
byte_state image i b l = let q : (i * 8 + b) / 8 ≡ i = omega arith in let r : (i * 8 + b) % 8 ≡ b = omega arith in rw (q, r)

pub image_given : (fuses : ℕ) (image : List ℕ) → Image fuses image → (states : ℕ → ℕ)
    → ((fuse : ℕ) → fuse < fuses → states fuse ≡ state image fuse) → image_with fuses states ≡ image
unfolding image_with
image_given fuses image is_image states same =
    ext_get_or 0 (tabulate ((fuses + 7) / 8) _) image (tabulate_length ((fuses + 7) / 8) _ ∙ sym is_image.size)
    (λ i h.
    tabulate_at ((fuses + 7) / 8) _ i (rw (tabulate_length ((fuses + 7) / 8) _) at h)
    ∙ gathered_same _ (bit_of (get_or image i 0)) 8 (λ b l. at_bit_lem i b l)
    ∙ gathered_own (get_or image i 0) 8
    ∙ mod-eq_of_lt (is_image.bytes i))
  where
    at_bit_lem : (i b : ℕ) → b < 8 → within fuses states (i * 8 + b) ≡ bit_of (get_or image i 0) b
    at_bit_lem i b l =
        compared (i * 8 + b) fuses
        (λ less. rw (lt-ltb (i * 8 + b) fuses less) (same (i * 8 + b) less ∙ byte_state image i b l))
        (λ more. rw (le-ltb (i * 8 + b) fuses more) (sym (is_image.no_more (i * 8 + b) more) ∙ byte_state image i b l))

-- The writer's text meets all conditions, so it is accepted with its image.
module _ (fuses : ℕ) (pattern : List (List ℕ)) (image : List ℕ) (few : fuses < 10 ^ 7) (is_image : Image fuses image)
    (every-fuse : pattern_fuses pattern ≡ fuses) (none-empty : NoneEmpty pattern) where
  spaced : List SpacedField
  spaced = written_fields fuses pattern image

  written_sum : ℕ
  written_sum = sum16 (up_to_etx fuses pattern image)

  right_form : RightForm [] spaced (lf ∷ []) (four_hex written_sum) [] written_sum
  unfolding spaced all holds_mark written_sum sum16
  right_form =
      record {
        design_no_star = refl;
        design_no_mark = refl;
        right_fields = written_right fuses pattern image;
        blank_gap = refl;
        hex_digits = sum_back written_sum (mod-lt _ (omega arith));
        blank_tail = refl;
      }

  assembled_text : text_with fuses pattern image ≡ assembled [] spaced (lf ∷ []) (four_hex written_sum) []
  unfolding text_with spaced written_sum
  assembled_text =
      ap (λ (h : List ℕ). h ++ four_hex written_sum) (upto_assembled fuses pattern image)
      ∙ ap (λ (d : List ℕ). head_of [] spaced (lf ∷ []) ++ d) (sym (append-nil (four_hex written_sum)))

  -- What its fields give.
  written_count : SpacedField
  written_count = after_lf (letter_q ∷ letter_f ∷ count_digits fuses)

  written_start : SpacedField
  written_start = after_lf (letter_f ∷ decimal_digit 0 ∷ [])

  lines_at : ℕ
  lines_at = offset_after (offset_after 2 written_count) written_start

  q : At
  q = record { at = 3; value = fuses }

  lists : List Listed
  lists = lists_of lines_at image 0 pattern

  gives : Given
  gives =
      record {
        count = some q;
        start = some 0;
        lists = lists;
        sum = some (record { at = form.offset_after_all lines_at (line_fields image 0 pattern) + 1; value = sum16 image });
      }

  fields_read : all_fields nothing_given (fields_of (first_at []) spaced) ≡ all_good gives
  unfolding spaced written_fields fields_of after_lf all_fields given_with gives lists q lines_at written_count written_start sum16
  fields_read =
      let sum-part = after_lf (letter_c ∷ four_hex (sum16 image)) in
      let others = line_fields image 0 pattern ++ (sum-part ∷ []) in
      let counted : Given = record { count = some q; start = none; lists = []; sum = none } in
      read_one nothing_given 3 (letter_q ∷ letter_f ∷ count_digits fuses)
      (fields_of (offset_after 2 written_count) (written_start ∷ others))
      (count fuses)
      (count_judged fuses few) refl
      ∙ read_one counted (offset_after 2 written_count + 1) (letter_f ∷ decimal_digit 0 ∷ []) (fields_of lines_at others)
      (start 0) start_judged refl
      ∙ lines_read q image lines_at 0 pattern [] (sum-part ∷ []) none-empty (omega (arith, every-fuse))
      ∙ read_one (given_with q lists) (form.offset_after_all lines_at (line_fields image 0 pattern) + 1)
      (letter_c ∷ four_hex (sum16 image)) []
      (sum (sum16 image)) (sum_judged (sum16 image) (mod-lt _ (omega arith))) refl

  concluded : Concluded fuses (assembled [] spaced (lf ∷ []) (four_hex written_sum) []) image (etx_at [] spaced (lf ∷ [])) written_sum gives
  unfolding gives q lists written_sum spaced
  concluded =
      record {
        counted = record { count_field = q; has_count = refl; right_count = refl };
        in_place = lines_in_place fuses 0 lines_at image 0 pattern (omega arith) (omega (arith, every-fuse));
        all_given = λ e. let z : ◌≡◌ {A = ℕ} 0 1 = cc in absurd (omega arith);
        as_image =
            sym
            (image_given fuses image is_image (state_given 0 lists)
            (λ f l. lines_give image 0 lines_at pattern f (omega arith) (omega (arith, every-fuse))));
        right_sum =
            λ c e. let same : record { at = form.offset_after_all lines_at (line_fields image 0 pattern) + 1; value = sum16 image } ≡ c =
            cc in
            ap (λ (x : At). x.value) (sym same);
        right_transmission =
            inr
            (ap sum16
            (upto_assembled fuses pattern image
            ∙ sym (take_at (head_of [] spaced (lf ∷ [])) (four_hex written_sum ++ []) (etx_at [] spaced (lf ∷ []) + 1)
            (head_length [] spaced (lf ∷ [])))));
      }

  pub read_back : length (text_with fuses pattern image) ≤ longest → meaning fuses (text_with fuses pattern image) ≡ accepted image
  read_back short =
      rw assembled_text
      (assembled_accepted [] spaced (lf ∷ []) (four_hex written_sum) [] written_sum right_form fuses image gives
      (rw assembled_text at short) fields_read concluded)
