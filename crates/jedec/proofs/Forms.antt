-- A text of document 01's form whose fields are in order and whose counts and sums are right is accepted.
-- Assumes nothing.
use mathlib.Core.Path.{◌≡◌, refl, ◌∙◌, ap}
use mathlib.Core.Bool.{Bool, true, false, cond}
use mathlib.Core.List.{List, [], ◌∷◌, ◌++◌, append_assoc}
use mathlib.Core.Option.{Option}
use mathlib.Core.Option.Option.{none, some}
use Prim.Native.Nat.{ℕ, suc, ◌+◌, ◌*◌, ◌≤◌}
use native.Mathlib.Omega.{arith}
use lib.Dec.{eqb}
use lib.ListN.{length, length-append}
use lib.Seq.{drop_at}
use borrow.Author.Tests.{ne_eqb, eqb-true}
use Rattle.part.specs.Outcome.Outcome.{accepted}
use Rattle.part.proofs.Facts.{and_iff}
use Rattle.jedec.specs.Characters.{stx, etx, star, is_blank, and_then, hex_value, digits_read, sum_in}
use Rattle.jedec.specs.Cut.{pieces, tail_from, fields_from}
use Rattle.jedec.specs.Cut.Tail.{given}
use Rattle.jedec.specs.Rules.{Given, nothing_given, all_fields}
use Rattle.jedec.specs.Rules.Fields.{all_good}
use Rattle.jedec.specs.Meaning.{longest, meaning}
use Rattle.jedec.specs.Form.{all, not_star, SpacedField, spaced_text, fields_of, head_of, assembled, RightForm, first_at, etx_at, Concluded}
use Rattle.jedec.specs.Form.{GoodForm}
use Rattle.jedec.proofs.Conditions.{accepted_iff}
use Rattle.jedec.proofs.Cutting.{star_pieces, all_append, blank_no_star, fields_cut, offset_after_all_lem}

-- Hex digits are read as the tail's, and none is a `*`.
hex_tail : (digits : List ℕ) (at acc sum : ℕ) (rest : List ℕ) → digits_read 16 hex_value acc digits ≡ some sum
    → tail_from at (length digits) acc (digits ++ rest) ≡ tail_from (at + length digits) 0 sum rest
unfolding digits_read tail_from
hex_tail [] at acc sum rest e = let same : acc ≡ sum = cc in let here : at + 0 ≡ at = omega arith in rw (same, here)
hex_tail (b ∷ digits) at acc sum rest e = go (hex_value b) refl e (λ y. hex_tail digits (at + 1) (acc * 16 + y) sum rest)
  where
    go : (o : Option ℕ) → hex_value b ≡ o → and_then o (λ y. digits_read 16 hex_value (acc * 16 + y) digits) ≡ some sum
        → ((y : ℕ) → digits_read 16 hex_value (acc * 16 + y) digits ≡ some sum
        → tail_from (at + 1) (length digits) (acc * 16 + y) (digits ++ rest) ≡ tail_from (at + 1 + length digits) 0 sum rest)
        → tail_from at (suc (length digits)) acc (b ∷ digits ++ rest) ≡ tail_from (at + suc (length digits)) 0 sum rest
    go none w e step = let z : ◌≡◌ {A = ℕ} 0 1 = cc in absurd (omega arith)
    go (some y) w e step = let there : at + suc (length digits) ≡ at + 1 + length digits = omega arith in rw (w, there) (step y e)

hex_no_star : (digits : List ℕ) (acc sum : ℕ) → digits_read 16 hex_value acc digits ≡ some sum → all not_star digits ≡ true
unfolding digits_read all
hex_no_star [] acc sum e = refl
hex_no_star (b ∷ digits) acc sum e = go (hex_value b) refl e (λ y. hex_no_star digits (acc * 16 + y) sum)
  where
    go : (o : Option ℕ) → hex_value b ≡ o → and_then o (λ y. digits_read 16 hex_value (acc * 16 + y) digits) ≡ some sum
        → ((y : ℕ) → digits_read 16 hex_value (acc * 16 + y) digits ≡ some sum → all not_star digits ≡ true)
        → all not_star (b ∷ digits) ≡ true
    go none w e step = let z : ◌≡◌ {A = ℕ} 0 1 = cc in absurd (omega arith)
    go (some y) w e step =
        (and_iff (not_star b) (all not_star digits)).1 (
          rw (ne_eqb b star (λ same. let none_there : hex_value b ≡ none = rw same in let z : ◌≡◌ {A = ℕ} 0 1 = cc in omega arith)),
          step y e,
        )

blank_tail : (blanks : List ℕ) (at sum : ℕ) → all is_blank blanks ≡ true → tail_from at 0 sum blanks ≡ given sum
unfolding tail_from all
blank_tail [] at sum h = refl
blank_tail (b ∷ blanks) at sum h =
    let both = (and_iff (is_blank b) (all is_blank blanks)).0 h in
    rw both.0 (blank_tail blanks (at + 1) sum both.1)

-- A sum has four digits.
four : (digits : List ℕ) (sum : ℕ) → sum_in digits ≡ some sum → (length digits ≡ 4) × (digits_read 16 hex_value 0 digits ≡ some sum)
unfolding sum_in
four digits sum e = go (eqb (length digits) 4) refl e
  where
    go : (t : Bool) → eqb (length digits) 4 ≡ t → cond t (digits_read 16 hex_value 0 digits) none ≡ some sum
        → (length digits ≡ 4) × (digits_read 16 hex_value 0 digits ≡ some sum)
    go true w e = (eqb-true (length digits) 4 w, e)
    go false w e = let z : ◌≡◌ {A = ℕ} 0 1 = cc in absurd (omega arith)

pub tail_read : (digits blanks : List ℕ) (at sum : ℕ) → sum_in digits ≡ some sum → all is_blank blanks ≡ true
    → tail_from at 4 0 (digits ++ blanks) ≡ given sum
tail_read digits blanks at sum h blank =
    let f = four digits sum h in
    rw f.0 at (hex_tail digits at 0 sum blanks f.1) ∙ blank_tail blanks (at + 4) sum blank

-- The text after ETX begins one byte after ETX.
pub head_length : (design : List ℕ) (spaced : List SpacedField) (gap : List ℕ)
    → length (head_of design spaced gap) ≡ etx_at design spaced gap + 1
head_length design spaced gap =
    omega (
      arith,
      offset_after_all_lem (first_at design) spaced,
      length-append ((stx ∷ design) ++ (star ∷ (spaced_text spaced ++ gap))) (etx ∷ []),
      length-append (stx ∷ design) (star ∷ (spaced_text spaced ++ gap)),
      length-append (spaced_text spaced) gap,
    )

module _ (design : List ℕ) (spaced : List SpacedField) (gap digits blanks : List ℕ) (sum : ℕ)
    (right : RightForm design spaced gap digits blanks sum) where
  text : List ℕ
  text = assembled design spaced gap digits blanks

  rest : List ℕ
  rest = spaced_text spaced ++ (gap ++ etx ∷ (digits ++ blanks))

  regrouped : text ≡ (stx ∷ design) ++ (star ∷ rest)
  unfolding text rest
  regrouped = simp append_assoc

  text_pieces : pieces text ≡ record { ended = (stx ∷ design) ∷ (pieces rest).ended; rest = (pieces rest).rest }
  unfolding all
  text_pieces = ap pieces regrouped ∙ star_pieces (stx ∷ design) rest right.design_no_star

  text_cut : fields_from (first_at design) (pieces rest).ended (pieces rest).rest
      ≡ record { fields = fields_of (first_at design) spaced; end = some (etx_at design spaced gap) }
  unfolding rest
  text_cut =
      let f = four digits sum right.hex_digits in
      fields_cut gap (digits ++ blanks) right.blank_gap
      (all_append not_star digits blanks (hex_no_star digits 0 sum f.1) (blank_no_star blanks right.blank_tail))
      (first_at design) spaced right.right_fields

  pub assembled_form : (k : Given) → length (assembled design spaced gap digits blanks) ≤ longest
      → all_fields nothing_given (fields_of (first_at design) spaced) ≡ all_good k
      → GoodForm (assembled design spaced gap digits blanks) k (etx_at design spaced gap) sum
  unfolding text
  assembled_form k short read =
      record {
        not_long = short;
        begins = refl;
        design = stx ∷ design;
        ended = (pieces rest).ended;
        text_pieces = rw text_pieces;
        good_design = right.design_no_mark;
        good_fields = rw (text_pieces, text_cut) read;
        has_etx = rw (text_pieces, text_cut);
        good_tail =
            rw (drop_at (head_of design spaced gap) (digits ++ blanks) (etx_at design spaced gap + 1) (head_length design spaced gap))
            (tail_read digits blanks (etx_at design spaced gap + 1) sum right.hex_digits right.blank_tail);
      }

  pub assembled_accepted : (fuses : ℕ) (image : List ℕ) (k : Given) → length (assembled design spaced gap digits blanks) ≤ longest
      → all_fields nothing_given (fields_of (first_at design) spaced) ≡ all_good k
      → Concluded fuses (assembled design spaced gap digits blanks) image (etx_at design spaced gap) sum k
      → meaning fuses (assembled design spaced gap digits blanks) ≡ accepted image
  assembled_accepted fuses image k short read concluded =
      (accepted_iff fuses (assembled design spaced gap digits blanks) image).1
      (record { gives = k; etx_offset = etx_at design spaced gap; sum = sum; form = assembled_form k short read; concluded = concluded })
