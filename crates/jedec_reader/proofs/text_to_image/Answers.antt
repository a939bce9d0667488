-- `text_to_image` meets its contract: the tests, 1 before 2, and the text read beside the image.
-- Assumes nothing.
use mathlib.Core.Path.{◌≡◌, sym, ◌∙◌, ap}
use mathlib.Core.Bool.{true, false}
use mathlib.Core.List.{List}
use Prim.Native.Nat.{ℕ, ◌+◌, ◌/◌, ◌≤◌}
use native.Mathlib.Omega.{arith}
use lib.ListN.{length, take}
use lib.Seq.{length-take-le}
use Rattle.part.specs.Outcome.{Outcome, written, Written}
use Rattle.part.specs.Outcome.Outcome.{refused}
use Rattle.part.specs.Device.{known, fuse_count, image_bytes}
use Rattle.part.specs.declared.Device.{Device}
use Rattle.part.proofs.Devices.{fuses_small}
use Rattle.part.proofs.Refused.{written_with}
use Rattle.part.proofs.Checks.{no_device, the_device, other_length, the_length}
use Rattle.part.proofs.Targets.{says}
use Rattle.jedec.specs.Meaning.{meaning}
use Rattle.jedec_end.specs.Verdict.{verdict}
use Rattle.jedec_reader.specs.Reader.{to_image_from_text, image_in}
use Rattle.jedec_reader.specs.Walk.{largest_image, ReadInto}
use borrow.Author.Rules.{rules}
use Rattle.jedec_reader.proofs.text_to_image.Goals as goal

module _ (d : Device) (text before : List ℕ) where
  unknown : known d ≡ false → Written (to_image_from_text d text before) (refused 1 0) (image_in d text) before before
  unfolding to_image_from_text
  unknown h = says _ (refused 1 0) (image_in d text) before (no_device d _ h)

  module _ (x : ℕ) (e : x ≡ image_bytes d) where
    wrong_length : known d ≡ true → (length before ≡ x → ⊥)
        → Written (to_image_from_text d text before) (refused 2 0) (image_in d text) before before
    unfolding to_image_from_text
    wrong_length k h =
        says _ (refused 2 0) (image_in d text) before
        (other_length (length before) (image_bytes d) (verdict (meaning (fuse_count d) text)) x e h ∙ sym (the_device d _ k))

    a_text : (fuses : ℕ) (answer : Outcome (Unit {0})) (after : List ℕ) → known d ≡ true → length before ≡ x → fuses ≡ fuse_count d
        → ReadInto (meaning fuses text) answer before after
        → Written (to_image_from_text d text before) answer (image_in d text) before after
    unfolding to_image_from_text image_in
    a_text fuses answer after k h f r =
        let read : ReadInto (meaning (fuse_count d) text) answer before after = rw f at r in
        let same : answer ≡ to_image_from_text d text before =
        read.answers ∙ sym (the_length (length before) (image_bytes d) (verdict (meaning (fuse_count d) text)) x e h)
        ∙ sym (the_device d _ k) in
        record { answers = same; holds = read.holds ∙ ap (λ (o : Outcome (Unit {0})). written o (image_in d text) before) same }

-- The image is made in the first bytes of a buffer that is large enough for every device.
module _ (d : Device) (x : ℕ) (e : x ≡ image_bytes d) where
  few_bytes : known d ≡ true → x ≤ largest_image
  unfolding image_bytes
  few_bytes k = omega (arith, fuses_small d k)

  in_space : (made : List ℕ) → known d ≡ true → length made ≡ largest_image → x ≤ length made
  in_space made k l = omega (arith, few_bytes k)

  so_long : (made : List ℕ) → known d ≡ true → length made ≡ largest_image → x ≡ length (take x made)
  so_long made k l = sym (length-take-le x made (in_space made k l))

  image_size : (before : List ℕ) (fuses : ℕ) → length before ≡ x → fuses ≡ fuse_count d → length before ≡ (fuses + 7) / 8
  unfolding image_bytes
  image_size before fuses h f = rw f (h ∙ e)

  buffer_size : (made : List ℕ) (fuses : ℕ) → known d ≡ true → length made ≡ largest_image → fuses ≡ fuse_count d
      → length (take x made) ≡ (fuses + 7) / 8
  unfolding image_bytes
  buffer_size made fuses k l f = rw f (sym (so_long made k l) ∙ e)

pub returns-in_err-part : goal.returns-in_err-part
returns-in_err-part c = search (rules, written_with, unknown)

pub returns-then-image-bytes : goal.returns-then-image-bytes
returns-then-image-bytes c = rw (← c.in_ok-part.ensures) (search (rules, wrong_length))

pub slice_bounds-made-end : goal.slice_bounds-made-end
slice_bounds-made-end c = search (rules, in_space)

pub slice_bounds-read_beside-end : goal.slice_bounds-read_beside-end
slice_bounds-read_beside-end c = search (rules, so_long)

pub read_beside-requires : goal.read_beside-requires
read_beside-requires c = (search (rules, buffer_size), search (rules, image_size))

pub returns : goal.returns
returns c = rw (← c.in_ok-part.ensures) (search (rules, a_text))
