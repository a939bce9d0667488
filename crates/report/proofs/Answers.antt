-- Laws of what a report says: the lines of a text for its device, and the bytes that a call puts into the caller's buffer.
-- Assumes nothing.
use mathlib.Core.Path.{◌≡◌, refl, sym, ◌∙◌, ap}
use mathlib.Core.Bool.{Bool, true, false, cond}
use mathlib.Core.List.{List, [], ◌∷◌, ◌++◌}
use mathlib.Core.Option.{Option}
use mathlib.Core.Option.Option.{none, some}
use Prim.Native.Nat.{ℕ, ◌+◌, ◌^◌, ◌≤◌, ◌<◌}
use native.Mathlib.Omega.{arith}
use native.Mathlib.Nat.{zero-add}
use lib.Dec.{eqb, ltb}
use lib.ListN.{length, take, drop, length-append}
use lib.Seq.{length-sets, length-take-le, take_at}
use borrow.Author.Tests.{lt-ltb, le-ltb, ltb-false}
use Rattle.part.specs.Outcome.{Outcome, Written}
use Rattle.part.specs.Outcome.Outcome.{accepted, refused}
use Rattle.part.specs.Answer.{refusal_number, refusal_value, number_outcome, done_outcome}
use Rattle.part.specs.Device.{known, blocks_of, fuse_count, image_bytes, decimal_digits}
use Rattle.part.proofs.Devices.{digits_small}
use Rattle.part.specs.declared.Device.{Device}
use Rattle.std.specs.Prelude.{Result, Ok, Err}
use Rattle.part.specs.declared.Refusal.{Refusal}
use Rattle.image.specs.Image.{sum16, zeros_below}
use Rattle.part.proofs.Checks.{the_device, the_length}
use Rattle.part.proofs.Targets.{says}
use Rattle.jedec.specs.Characters.{lf, decimal_digit, hex_digit, count_digits, four_hex}
use Rattle.jedec.specs.Cut.{pieces}
use Rattle.jedec.specs.Meaning.{meaning}
use Rattle.jedec.proofs.Numbers.{digits_length}
use Rattle.jedec_lines.proofs.Stored.{stored_first}
use Rattle.jedec_reader.specs.Reader.{verdict, result_of, to_image_from_text, image_in}
use Rattle.report_lines.specs.ReportLines.{word_blocks, word_fuses, word_zero}
use Rattle.report.specs.Report.{most, of_blocks, fields_in, first_count, blocks_by, blocks_for, outcome_of}
use Rattle.report_lines.specs.ReportLines.{word_sum, word_refused, word_at, line, count_lines, refusal_line}
use Rattle.report.specs.Report.{lines_of, report_of, bytes_put, at_start}
use Rattle.report_lines.specs.Put.{Put}

-- The reader's answer and image give the lines of what the text means.
image_lines : (d : Device) (o : Outcome (List ℕ)) (image : List ℕ) → accepted tt ≡ verdict o → image ≡ result_of o
    → count_lines d image ≡ lines_of d o
image_lines d (accepted x) image e f = ap (count_lines d) f
image_lines d (refused n v) image e f = cc

refused_lines : (d : Device) (o : Outcome (List ℕ)) (n v : ℕ) → refused n v ≡ verdict o → refusal_line n v ≡ lines_of d o
refused_lines d (accepted x) n v e = cc
refused_lines d (refused m w) n v e = cc

module _ (d : Device) (text before image : List ℕ) (k : known d ≡ true) (l : length before ≡ image_bytes d)
    (a : Result (Unit {0}) Refusal)
    (w : Written (to_image_from_text d text before) (done_outcome a) (image_in d text) before image) (out after : List ℕ) (end : ℕ) where
  read : to_image_from_text d text before ≡ verdict (meaning (fuse_count d) text)
  unfolding to_image_from_text
  read = the_device d _ k ∙ the_length (length before) (image_bytes d) _ (image_bytes d) refl l

  pub of_image : a ≡ Ok tt → Put out after 0 (count_lines d image) end
      → Put out after 0 (lines_of d (meaning (fuse_count d) text)) end
  unfolding image_in
  of_image e p =
      let done : to_image_from_text d text before ≡ accepted tt = sym w.answers ∙ ap done_outcome e in
      rw (image_lines d (meaning (fuse_count d) text) image (sym done ∙ read) (rw done at w.holds)) at p

  pub of_refusal : (r : Refusal) (n v : ℕ) → a ≡ Err r → n ≡ refusal_number r → v ≡ refusal_value r
      → Put out after 0 (refusal_line n v) end → Put out after 0 (lines_of d (meaning (fuse_count d) text)) end
  of_refusal r n v e en ev p =
      let said : refused n v ≡ verdict (meaning (fuse_count d) text) = rw (en, ev) (ap done_outcome (sym e)) ∙ w.answers ∙ read in
      rw (refused_lines d (meaning (fuse_count d) text) n v said) at p

-- The device for a text has two blocks or four, and its image fits the buffer.
two_or_four : (P : ℕ → Type 0) → P 2 → P 4 → (o : Option ℕ) → P (blocks_by o)
two_or_four P two four none = two
two_or_four P two four (some n) = go (eqb n (fuse_count (of_blocks 4)))
  where
    go : (t : Bool) → P (cond t 4 2)
    go true = four
    go false = two

pub by_device : (P : ℕ → Type 0) → P 2 → P 4 → (text : List ℕ) → P (blocks_for text)
unfolding blocks_for
by_device P two four text = two_or_four P two four (first_count (fields_in (pieces text).ended (pieces text).rest))

module _ (text : List ℕ) (d : Device) (e : d ≡ of_blocks (blocks_for text)) (x : ℕ) (f : x ≡ image_bytes d) (made : List ℕ)
    (l : length made ≡ image_bytes (of_blocks 4)) where
  pub image_fits : x ≤ length made
  unfolding fuse_count image_bytes
  image_fits = rw (f, l, e) (by_device (λ n. image_bytes (of_blocks n) ≤ image_bytes (of_blocks 4)) (omega arith) (omega arith) text)

  pub image_part : x ≡ length (take x made)
  image_part = sym (length-take-le x made image_fits)

  pub image_size : length (take x made) ≡ image_bytes d
  image_size = sym image_part ∙ f

module _ (text out after : List ℕ) (end : ℕ) where
  pub too_long : most < length text → Put out after 0 (refusal_line 7 most) end → Put out after 0 (report_of text) end
  unfolding outcome_of report_of
  too_long h p = rw (lt-ltb most (length text) h) p

  -- The same where the code asks a refusal for its number and value.
  pub told_too_long : (n v : ℕ) → n ≡ 7 → v ≡ most → most < length text → Put out after 0 (refusal_line n v) end
      → Put out after 0 (report_of text) end
  told_too_long n v en ev h p = too_long h (rw (en, ev) at p)

  pub not_too_long : (d : Device) → d ≡ of_blocks (blocks_for text) → length text ≤ most
      → Put out after 0 (lines_of d (meaning (fuse_count d) text)) end → Put out after 0 (report_of text) end
  unfolding outcome_of report_of
  not_too_long d e h p = rw (le-ltb most (length text) h) (rw e at p)

-- A report is short.
line_short : (word digits : List ℕ) (n : ℕ) → length digits ≤ n → length (line word digits) ≤ length word + n + 1
line_short word digits n h = rw (length-append (word ++ digits) (lf ∷ []), length-append word digits) (omega arith)

digits_short : (x : ℕ) → length (count_digits x) ≤ 7
digits_short x = rw (digits_length 10 decimal_digit (decimal_digits x) x) (digits_small x)

count_short : (word : List ℕ) (x : ℕ) → length (line word (count_digits x)) ≤ length word + 8
count_short word x = omega (arith, line_short word (count_digits x) 7 (digits_short x))

lines_short : (d : Device) (o : Outcome (List ℕ)) → length (lines_of d o) ≤ 64
unfolding count_lines refusal_line
lines_short d (accepted image) =
    let zeros = zeros_below image (fuse_count d) in
    let l1 = line word_blocks (count_digits (blocks_of d)) in
    let l2 = line word_fuses (count_digits (fuse_count d)) in
    let l3 = line word_zero (count_digits zeros) in
    let l4 = line word_sum (four_hex (sum16 image)) in
    let four : length (four_hex (sum16 image)) ≡ 4 = digits_length 16 hex_digit 4 (sum16 image) in
    let last : length l4 ≤ 9 = line_short word_sum (four_hex (sum16 image)) 4 (omega arith) in
    rw (length-append (l1 ++ l2 ++ l3) l4, length-append (l1 ++ l2) l3, length-append l1 l2)
    (omega (arith, count_short word_blocks (blocks_of d), count_short word_fuses (fuse_count d), count_short word_zero zeros))
lines_short d (refused n v) =
    rw (length-append (word_refused ++ count_digits n) (line word_at (count_digits v)), length-append word_refused (count_digits n))
    (omega (arith, digits_short n, count_short word_at v))

pub report_short : (text : List ℕ) → length (report_of text) ≤ 64
unfolding report_of
report_short text = lines_short (of_blocks (blocks_for text)) (outcome_of text)

-- A report made in bytes apart, and put at the start of a buffer.
module _ (text blank lines : List ℕ) (n : ℕ) (p : Put blank lines 0 (report_of text) n) where
  is : length (report_of text) ≡ n
  is = sym (p.ends ∙ zero-add (length (report_of text)))

  pub few : n ≤ 64
  few = rw (← is) (report_short text)

  pub few_fits : n < 2 ^ 32
  few_fits = omega (arith, few)

  module _ (l : length blank ≡ 64) where
    whole : lines ≡ report_of text ++ drop n blank
    whole = p.holds ∙ stored_first blank (report_of text) n is (omega (arith, few))

    pub lines_part : take n lines ≡ report_of text
    lines_part = rw whole (take_at (report_of text) (drop n blank) n is)

    pub in_lines : n ≤ length lines
    in_lines = rw (p.holds, length-sets blank 0 (report_of text)) (omega (arith, few))

    pub part_length : n ≡ length (take n lines)
    part_length = rw lines_part (sym is)

    module _ (buffer : List ℕ) where
      abbrev At : Outcome ℕ → List ℕ → Type 0
      At answer after = Written (bytes_put (report_of text) buffer) answer (at_start (report_of text) buffer) buffer after

      pub too_short : length buffer < n → At (refused 12 n) buffer
      too_short h = says _ (refused 12 n) (at_start (report_of text) buffer) buffer (rw (is, lt-ltb (length buffer) n h))

      pub part_fits : n ≤ length buffer → 0 + length (take n lines) ≤ length buffer
      part_fits h = omega (arith, part_length)

      pub long_enough : (after : List ℕ) (end : ℕ) → n ≤ length buffer → Put buffer after 0 (take n lines) end → At (accepted n) after
      long_enough after end h q =
          let same : accepted n ≡ bytes_put (report_of text) buffer = rw (is, le-ltb (length buffer) n h) in
          record { answers = same; holds = q.holds ∙ rw (lines_part, ← same, is) (stored_first buffer (report_of text) n is h) }

-- What is put fits the buffer.
bytes_fit : (bytes buffer : List ℕ) (n : ℕ) → accepted n ≡ bytes_put bytes buffer → n ≤ length buffer
bytes_fit bytes buffer n e = go (ltb (length buffer) (length bytes)) refl e
  where
    go : (t : Bool) → ltb (length buffer) (length bytes) ≡ t
        → accepted n ≡ cond t (refused 12 (length bytes)) (accepted (length bytes)) → n ≤ length buffer
    go true f g = absurd (let z : ◌≡◌ {A = ℕ} 0 1 = cc in omega arith)
    go false f g = let is : n ≡ length bytes = cc in omega (arith, ltb-false (length buffer) (length bytes) f)

module _ (text buffer after : List ℕ) (l : length after ≡ length buffer) (a : Result ℕ Refusal)
    (w : Written (bytes_put (report_of text) buffer) (number_outcome a) (at_start (report_of text) buffer) buffer after) (n : ℕ)
    (e : a ≡ Ok n) where
  pub in_space : n ≤ length after
  in_space = rw l (bytes_fit (report_of text) buffer n (ap number_outcome (sym e) ∙ w.answers))

  pub buffer_part : n ≡ length (take n after)
  buffer_part = sym (length-take-le n after in_space)
