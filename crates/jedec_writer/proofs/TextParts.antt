-- The frame of a text: its head, its foot, and the whole; what a call answers and leaves in the buffer.
-- Assumes nothing.
use mathlib.Core.Path.{◌≡◌, refl, sym, ◌∙◌, ap}
use mathlib.Core.Bool.{true}
use mathlib.Core.List.{List, [], ◌∷◌, ◌++◌, append_assoc}
use Prim.Native.Nat.{ℕ, ◌+◌, ◌*◌, ◌-◌, ◌/◌, ◌^◌, ◌≤◌, ◌<◌}
use native.Mathlib.Omega.{arith}
use native.Mathlib.Nat.{zero-add}
use lib.ListN.{length, take, drop, replicate, length-append}
use lib.Seq.{sets, take_at}
use borrow.Author.Tests.{lt-ltb, le-ltb}
use Rattle.cells.specs.Cells.{cut, number}
use Rattle.cells.proofs.Laws.{sets_append}
use Rattle.part.specs.Outcome.{Outcome, written, Written}
use Rattle.part.specs.Outcome.Outcome.{accepted, refused}
use Rattle.part.specs.Device.{known, fuse_count, image_bytes, text_bytes, decimal_digits}
use Rattle.part.specs.Sizes.{if_known, if_length}
use Rattle.part.specs.declared.Device.{Device}
use Rattle.image.specs.Image.{sum16}
use Rattle.part.specs.Answer.{refusal_number, refusal_value, number_outcome}
use Rattle.part.specs.declared.Refusal.{Refusal}
use Rattle.part.proofs.Refused.{written_with}
use Rattle.image.proofs.Checked.{still_refused, accepted_on}
use Rattle.std.specs.Prelude.{Result}
use Rattle.std.specs.Result.{IsErrAnd}
use Rattle.part.proofs.Targets.{says}
use Rattle.jedec.specs.Characters.{stx, etx, letter_c, letter_f, letter_l, letter_q, decimal_digit, hex_digit, seven_digits, count_digits, four_hex}
use Rattle.jedec.specs.WrittenText.{line_end, lines_text, head_text, foot_text, up_to_etx, text_with}
use Rattle.jedec_writer.specs.Pattern.{lines_bytes, pattern, text_of, to_text, with_text}
use Rattle.jedec_lines.proofs.Stored.{three_parts, stored_first}
use Rattle.jedec_lines.proofs.HexDigits.{hex_cut}
use Rattle.jedec.proofs.Numbers.{digits_length}
use Rattle.jedec_writer.proofs.Lines.{lines_length}
use Rattle.jedec_writer.proofs.Sizes.{count_cut, text_size}

-- The code's words hold what stands around the count and the sum.
before_count : cut (replicate 5 8) 0x46510A2A02 ≡ stx ∷ line_end ++ letter_q ∷ letter_f ∷ []
unfolding cut
before_count = refl

after_count : cut (replicate 6 8) 0x0A2A30460A2A ≡ line_end ++ letter_f ∷ decimal_digit 0 ∷ line_end
unfolding cut
after_count = refl

before_sum : cut (replicate 1 8) 0x43 ≡ letter_c ∷ []
unfolding cut
before_sum = refl

after_sum : cut (replicate 3 8) 0x030A2A ≡ line_end ++ etx ∷ []
unfolding cut
after_sum = refl

count_length : (x : ℕ) → length (count_digits x) ≡ decimal_digits x
count_length x = digits_length 10 decimal_digit (decimal_digits x) x

hex_length : (x : ℕ) → length (four_hex x) ≡ 4
hex_length x = digits_length 16 hex_digit 4 x

pub head_of : (d : Device) (out one two three : List ℕ) (digits count seven : ℕ) → known d ≡ true → count ≡ fuse_count d
    → digits ≡ decimal_digits count
    → one ≡ sets out 0 (cut (replicate 5 8) 0x46510A2A02) → seven ≡ number (letter_l ∷ seven_digits count)
    → two ≡ sets one 5 (cut (replicate digits 8) (seven / 2 ^ (64 - digits * 8)))
    → three ≡ sets two (5 + digits) (cut (replicate 6 8) 0x0A2A30460A2A) → three ≡ sets out 0 (head_text (fuse_count d))
head_of d out one two three digits count seven k ec ed e1 es e2 e3 =
    let x = fuse_count d in
    let middle : cut (replicate digits 8) (seven / 2 ^ (64 - digits * 8)) ≡ count_digits x = rw (es, ed, ec) (count_cut d k) in
    three_parts out one two three (stx ∷ line_end ++ letter_q ∷ letter_f ∷ []) (count_digits x)
    (line_end ++ letter_f ∷ decimal_digit 0 ∷ line_end)
    0 5 (5 + digits) (rw before_count at e1) (rw middle at e2) (rw after_count at e3) refl (rw (count_length x, ed, ec) (omega arith))
    ∙ ap (sets out 0)
    (sym (append_assoc (stx ∷ line_end ++ letter_q ∷ letter_f ∷ count_digits x) line_end (letter_f ∷ decimal_digit 0 ∷ line_end)))

pub foot_of : (out one two three : List ℕ) (at sum four : ℕ) → one ≡ sets out at (cut (replicate 1 8) 0x43) → four ≡ number (four_hex sum)
    → two ≡ sets one (at + 1) (cut (replicate 4 8) four) → three ≡ sets two (at + 5) (cut (replicate 3 8) 0x030A2A)
    → three ≡ sets out at (foot_text sum)
foot_of out one two three at sum four e1 ef e2 e3 =
    let middle : cut (replicate 4 8) four ≡ four_hex sum = rw ef (hex_cut sum) in
    three_parts out one two three (letter_c ∷ []) (four_hex sum) (line_end ++ etx ∷ []) at (at + 1) (at + 5) (rw before_sum at e1)
    (rw middle at e2) (rw after_sum at e3) refl (rw (hex_length sum) (omega arith))
    ∙ ap (sets out at) (sym (append_assoc (letter_c ∷ four_hex sum) line_end (etx ∷ [])))

-- The lengths of the head, of all up to ETX, and of the text.
head_length : (x : ℕ) → length (head_text x) ≡ 11 + decimal_digits x
head_length x =
    let a = stx ∷ line_end ++ letter_q ∷ letter_f ∷ count_digits x in
    let inner : length (a ++ line_end) ≡ length (count_digits x) + 5 + 2 = length-append a line_end ∙ omega arith in
    length-append (a ++ line_end) (letter_f ∷ decimal_digit 0 ∷ line_end) ∙ rw (inner, count_length x) (omega arith)

pub head_end : (d : Device) (count digits : ℕ) → count ≡ fuse_count d → digits ≡ decimal_digits count
    → 11 + digits ≡ length (head_text (fuse_count d))
head_end d count digits e f = rw (f, e) (sym (head_length (fuse_count d)))

foot_length : (sum : ℕ) → length (foot_text sum) ≡ 8
foot_length sum =
    length-append (letter_c ∷ four_hex sum ++ line_end) (etx ∷ []) ∙ rw (length-append (letter_c ∷ four_hex sum) line_end, hex_length sum)

up_to_length : (d : Device) (image : List ℕ) → length (up_to_etx (fuse_count d) (pattern d) image) ≡ text_bytes d - 4
unfolding up_to_etx
up_to_length d image =
    let head = head_text (fuse_count d) in
    let lines = lines_text image 0 (pattern d) in
    length-append (head ++ lines) (foot_text (sum16 image))
    ∙ rw (length-append head lines, head_length (fuse_count d), lines_length image (pattern d) 0, foot_length (sum16 image))
    (omega (arith, text_size d))

pub text_length : (d : Device) (image : List ℕ) → length (text_of d image) ≡ text_bytes d
unfolding text_of text_with
text_length d image =
    let up = up_to_etx (fuse_count d) (pattern d) image in
    length-append up (four_hex (sum16 up)) ∙ rw (up_to_length d image, hex_length (sum16 up)) (omega (arith, text_size d))

-- What the functions store one after another is the whole text.
pub text_parts : (d : Device) → text_bytes d ≡ length (head_text (fuse_count d)) + lines_bytes (pattern d) + 12
text_parts d = text_size d ∙ rw (head_length (fuse_count d))

pub text_of_lem : (d : Device) (image out one two three four : List ℕ) (lines foot end fuses last hex : ℕ) → text_bytes d ≤ length out
    → one ≡ sets out 0 (head_text (fuse_count d)) → lines ≡ length (head_text (fuse_count d))
    → two ≡ sets one lines (lines_text image 0 (pattern d)) → foot ≡ lines + lines_bytes (pattern d)
    → fuses ≡ sum16 image → three ≡ sets two foot (foot_text fuses) → end ≡ foot + 8
    → last ≡ sum16 (take end three) → hex ≡ number (four_hex last) → four ≡ sets three end (cut (replicate 4 8) hex)
    → four ≡ sets out 0 (text_of d image)
unfolding up_to_etx text_of text_with
text_of_lem d image out one two three four lines foot end fuses last hex buffer e1 p e2 q ef e3 r el eh e4 =
    let head = head_text (fuse_count d) in
    let text = lines_text image 0 (pattern d) in
    let up = up_to_etx (fuse_count d) (pattern d) image in
    let whole : three ≡ sets out 0 up =
    three_parts out one two three head text (foot_text (sum16 image)) 0 lines foot e1 e2 (rw ef at e3)
    (p ∙ sym (zero-add _)) (rw (lines_length image (pattern d) 0) q) in
    let long : length up ≡ end = up_to_length d image ∙ omega (arith, text_parts d) in
    let first : take end three ≡ up =
    rw (whole, stored_first out up end long (omega (arith, text_parts d))) (take_at up (drop end out) end long) in
    let digits : cut (replicate 4 8) hex ≡ four_hex (sum16 up) = rw (eh, hex_cut last, el, first) in
    let place : end ≡ 0 + length up = sym long ∙ sym (zero-add (length up)) in
    e4 ∙ rw (digits, whole, place) (sym (sets_append out 0 up (four_hex (sum16 up))))

-- The code's tests, 1 before 2 before 12, are those of the definition.
module _ (d : Device) (image buffer : List ℕ) where
  abbrev At : Outcome ℕ → List ℕ → Type 0
  At answer after = Written (to_text d image (length buffer)) answer (with_text d image buffer) buffer after

  pub refused_first : (r : Result ℕ Refusal) (x : Refusal) → IsErrAnd r (λ z. z ≡ x)
      → refused (refusal_number x) (refusal_value x) ≡ if_known d (if_length (length image) (image_bytes d) (accepted (tt {0})))
      → At (number_outcome r) buffer
  unfolding to_text
  refused_first r x h g =
      written_with (λ z. z) (to_text d image (length buffer)) r x x (with_text d image buffer) buffer buffer h refl
      (says (to_text d image (length buffer)) (refused (refusal_number x) (refusal_value x)) (with_text d image buffer) buffer
      (still_refused d (length image) (image_bytes d) _ _ _ g))

  -- An image of its device's length, which is the image that was asked for.
  module _ (p : Device) (bytes : List ℕ) (k : known p ≡ true) (l : length bytes ≡ image_bytes p) (same : p ≡ d) (all : bytes ≡ image)
      (y : ℕ) (ey : y ≡ text_bytes p) where
    needed : y ≡ text_bytes d
    needed = rw same at ey

    pub too_short : length buffer < y → At (refused 12 y) buffer
    unfolding to_text
    too_short h =
        let short : length buffer < text_bytes d = omega (arith, needed) in
        says (to_text d image (length buffer)) (refused 12 y) (with_text d image buffer) buffer
        (ap (refused 12) needed ∙ sym (rw (lt-ltb (length buffer) (text_bytes d) short)) ∙ accepted_on p d bytes image k l same all _)

    pub all_passed : y ≤ length buffer → (after : List ℕ) → after ≡ sets buffer 0 (text_of p bytes) → At (accepted y) after
    unfolding to_text
    all_passed h after f =
        let long : text_bytes d ≤ length buffer = omega (arith, needed) in
        let put : after ≡ sets buffer 0 (text_of d image) = rw (same, all) at f in
        let answer : accepted y ≡ to_text d image (length buffer) =
        ap accepted needed ∙ sym (rw (le-ltb (length buffer) (text_bytes d) long)) ∙ accepted_on p d bytes image k l same all _ in
        record {
          answers = answer;
          holds =
              put ∙ stored_first buffer (text_of d image) (text_bytes d) (text_length d image) long
              ∙ ap (λ (o : Outcome ℕ). written o (with_text d image buffer) buffer) answer;
        }
