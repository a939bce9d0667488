-- The writer's text as fields with blanks before them: it is put together from these, and each holds what it may.
-- Assumes nothing.
use mathlib.Core.Path.{◌≡◌, refl, sym, ◌∙◌, ap}
use mathlib.Core.Bool.{true}
use mathlib.Core.List.{List, [], ◌∷◌, ◌++◌, append_assoc}
use Prim.Native.Nat.{ℕ, ◌+◌}
use Rattle.cells.specs.Cells.{total}
use Rattle.image.specs.Image.{sum16}
use Rattle.jedec.specs.Characters.{stx, etx, lf, star, letter_c, letter_f, letter_q, decimal_digit, count_digits, four_hex}
use Rattle.jedec.specs.WrittenText.{line_end, lines_text, foot_text, up_to_etx}
use Rattle.jedec.specs.Form as form
use Rattle.jedec.specs.Form.{all, SpacedField, RightField, RightFields, spaced_text, head_of}
use Rattle.jedec.proofs.Judging.{plain, plain_no_star, decimal_digits_plain, hex_digits_plain}
use Rattle.jedec.proofs.Judging.{line_bytes, line_plain}

-- The fields of the writer's text: each stands after the LF of the line before.
unfoldable pub after_lf : List ℕ → SpacedField
after_lf bytes = record { blanks = lf ∷ []; bytes = bytes }

unfoldable pub line_fields : (image : List ℕ) → (fuse : ℕ) → (pattern : List (List ℕ)) → List SpacedField
line_fields image fuse [] = []
line_fields image fuse (widths ∷ pattern) = after_lf (line_bytes image fuse widths) ∷ line_fields image (fuse + total widths) pattern

unfoldable pub written_fields : (fuses : ℕ) → (pattern : List (List ℕ)) → (image : List ℕ) → List SpacedField
written_fields fuses pattern image =
    after_lf (letter_q ∷ letter_f ∷ count_digits fuses)
    ∷ after_lf (letter_f ∷ decimal_digit 0 ∷ [])
    ∷ (line_fields image 0 pattern ++ (after_lf (letter_c ∷ four_hex (sum16 image)) ∷ []))

-- The text is put together from these fields.
spaced_append : (ps qs : List SpacedField) → spaced_text (ps ++ qs) ≡ spaced_text ps ++ spaced_text qs
unfolding spaced_text
spaced_append [] qs = refl
spaced_append (p ∷ ps) qs = rw (spaced_append ps qs) (sym (append_assoc (p.blanks ++ p.bytes) (star ∷ spaced_text ps) (spaced_text qs)))

lines_shifted : (image : List ℕ) (fuse : ℕ) (pattern : List (List ℕ)) (rest : List ℕ)
    → lf ∷ (lines_text image fuse pattern ++ rest) ≡ spaced_text (line_fields image fuse pattern) ++ (lf ∷ rest)
unfolding lines_text spaced_text line_fields after_lf
lines_shifted image fuse [] rest = refl
lines_shifted image fuse (widths ∷ pattern) rest =
    let line = line_bytes image fuse widths in
    let others = lines_text image (fuse + total widths) pattern in
    let others-spaced = spaced_text (line_fields image (fuse + total widths) pattern) in
    let regrouped : lf ∷ (((line ++ (star ∷ lf ∷ [])) ++ others) ++ rest) ≡ (lf ∷ line) ++ (star ∷ (lf ∷ (others ++ rest))) =
    simp append_assoc in
    regrouped
    ∙ rw (lines_shifted image (fuse + total widths) pattern rest) (sym (append_assoc (lf ∷ line) (star ∷ others-spaced) (lf ∷ rest)))

-- The same bytes grouped by lines and by fields, over any digits of the count, lines and digits of the sum.
text_shifted : (d l c p : List ℕ) → lf ∷ (l ++ (letter_c ∷ c ++ line_end ++ etx ∷ [])) ≡ p ++ (lf ∷ (letter_c ∷ c ++ line_end ++ etx ∷ []))
    → (stx ∷ line_end ++ letter_q ∷ letter_f ∷ d ++ line_end ++ letter_f ∷ decimal_digit 0 ∷ line_end) ++ l
    ++ (letter_c ∷ c ++ line_end ++ etx ∷ [])
    ≡ (stx ∷ [])
    ++ (star ∷ (((lf ∷ []) ++ (letter_q ∷ letter_f ∷ d) ++ star
    ∷ ((lf ∷ []) ++ (letter_f ∷ decimal_digit 0 ∷ []) ++ star ∷ (p ++ ((lf ∷ []) ++ (letter_c ∷ c) ++ star ∷ [])))) ++ (lf ∷ [])))
    ++ (etx ∷ [])
text_shifted d l c p e =
    let begin : List ℕ → List ℕ = λ z. stx ∷ star ∷ lf ∷ letter_q ∷ letter_f ∷ z in
    let around : List ℕ → List ℕ = λ z. begin (d ++ (star ∷ lf ∷ letter_f ∷ decimal_digit 0 ∷ star ∷ z)) in
    let foot = letter_c ∷ c ++ line_end ++ etx ∷ [] in
    let fields = star ∷ lf ∷ letter_f ∷ decimal_digit 0 ∷ star ∷ (p ++ (lf ∷ letter_c ∷ (c ++ (star ∷ [])))) in
    ap begin
    (append_assoc (d ++ line_end ++ (letter_f ∷ decimal_digit 0 ∷ line_end)) l foot
    ∙ append_assoc (d ++ line_end) (letter_f ∷ decimal_digit 0 ∷ line_end) (l ++ foot)
    ∙ append_assoc d line_end (letter_f ∷ decimal_digit 0 ∷ line_end ++ (l ++ foot)))
    ∙ ap around e
    ∙ ap (λ (z : List ℕ). around (p ++ (lf ∷ letter_c ∷ z))) (append_assoc c line_end (etx ∷ []))
    ∙ sym
    (ap begin (append_assoc (d ++ fields) (lf ∷ []) (etx ∷ []) ∙ append_assoc d fields (lf ∷ etx ∷ []))
    ∙ ap around (append_assoc p (lf ∷ letter_c ∷ (c ++ (star ∷ []))) (lf ∷ etx ∷ []))
    ∙ ap (λ (z : List ℕ). around (p ++ (lf ∷ letter_c ∷ z))) (append_assoc c (star ∷ []) (lf ∷ etx ∷ [])))

pub upto_assembled : (fuses : ℕ) (pattern : List (List ℕ)) (image : List ℕ)
    → up_to_etx fuses pattern image ≡ head_of [] (written_fields fuses pattern image) (lf ∷ [])
unfolding up_to_etx written_fields spaced_text after_lf
upto_assembled fuses pattern image =
    rw (spaced_append (line_fields image 0 pattern) (after_lf (letter_c ∷ four_hex (sum16 image)) ∷ []))
    (text_shifted (count_digits fuses) (lines_text image 0 pattern) (four_hex (sum16 image)) (spaced_text (line_fields image 0 pattern))
    (lines_shifted image 0 pattern (foot_text (sum16 image))))

-- Each field holds what a field may hold.
after_lf_right : (b : ℕ) (bytes : List ℕ) → all plain (b ∷ bytes) ≡ true → form.starts (b ∷ bytes) ≡ true
    → RightField (after_lf (b ∷ bytes))
unfolding after_lf all
after_lf_right b bytes h s = record { blank = refl; no_star = plain_no_star (b ∷ bytes) h; begins = s }

lines_right : (image : List ℕ) (fuse : ℕ) (pattern : List (List ℕ)) (more : List SpacedField) → RightFields more
    → RightFields (line_fields image fuse pattern ++ more)
unfolding line_fields
lines_right image fuse [] more right = right
lines_right image fuse (widths ∷ pattern) more right =
    (after_lf_right _ _ (line_plain image fuse widths) refl, lines_right image (fuse + total widths) pattern more right)

pub written_right : (fuses : ℕ) (pattern : List (List ℕ)) (image : List ℕ) → RightFields (written_fields fuses pattern image)
unfolding written_fields all
written_right fuses pattern image = (
  after_lf_right _ _ (decimal_digits_plain _ fuses) refl,
  (after_lf_right _ _ refl refl, lines_right image 0 pattern _ (after_lf_right _ _ (hex_digits_plain 4 (sum16 image)) refl, tt)),
)
