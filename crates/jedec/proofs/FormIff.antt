-- A text is of good form exactly if it is put together from a design text, fields and blanks: the inverse of the cut.
-- Assumes nothing. `GoodForm` and `Assembled` stand in specs/Form.antt.
use mathlib.Core.Path.{◌≡◌, refl, sym, ◌∙◌, ap}
use mathlib.Core.Logic.{◌↔◌}
use mathlib.Core.Bool.{Bool, true, false, cond, true≢false}
use mathlib.Core.List.{List, [], ◌∷◌, ◌++◌, append_assoc}
use mathlib.Core.Option.{Option}
use mathlib.Core.Option.Option.{none, some}
use Prim.Native.Nat.{ℕ, zero, suc, ◌+◌, ◌*◌, ◌≤◌}
use native.Mathlib.Omega.{arith}
use lib.ListN.{length, drop}
use lib.Seq.{drop_at}
use borrow.Author.Tests.{eqb-true}
use Rattle.part.specs.Outcome.Outcome.{accepted}
use Rattle.part.proofs.Facts.{and_iff}
use Rattle.jedec.specs.Characters.{stx, star, is_blank, hex_value, digits_read, sum_in}
use Rattle.jedec.specs.Cut.{pieces, Cut, starts_with, fields_from, holds_mark, digit_or, tail_from}
use Rattle.jedec.specs.Cut.Tail.{given, wrong}
use Rattle.jedec.specs.Rules.{Given, nothing_given, all_fields}
use Rattle.jedec.specs.Rules.Fields.{all_good}
use Rattle.jedec.specs.Meaning.{longest, meaning}
use Rattle.jedec.specs.Form.{all, not_star, head_of, first_at}
use Rattle.jedec.specs.Form.{Concluded, GoodForm, Assembled}
use Rattle.jedec.proofs.Conditions.{accepted_iff}
use Rattle.jedec.proofs.Forms.{head_length, assembled_form}
use Rattle.jedec.proofs.TakenApart.{joined, NoStars, whole, TakenApart, taken_apart}

-- What follows ETX is so many hex digits, which give the sum, and blanks.
only_blanks : (bytes : List ℕ) (at read sum : ℕ) → tail_from at 0 read bytes ≡ given sum → (read ≡ sum) × (all is_blank bytes ≡ true)
unfolding tail_from all
only_blanks [] at read sum e = (cc, refl)
only_blanks (b ∷ bytes) at read sum e = go (is_blank b) refl e (only_blanks bytes (at + 1) read sum)
  where
    go : (t : Bool) → is_blank b ≡ t → cond t (tail_from (at + 1) 0 read bytes) (wrong at) ≡ given sum
        → (tail_from (at + 1) 0 read bytes ≡ given sum → (read ≡ sum) × (all is_blank bytes ≡ true))
        → (read ≡ sum) × (all is_blank (b ∷ bytes) ≡ true)
    go true w e others = let o = others e in (o.0, rw w o.1)
    go false w e others = let z : ◌≡◌ {A = ℕ} 0 1 = cc in absurd (omega arith)

record Digits (count read sum : ℕ) (bytes : List ℕ) : Type 0 where
  digits : List ℕ
  blanks : List ℕ
  all_bytes : bytes ≡ digits ++ blanks
  digit_count : length digits ≡ count
  sum_read : digits_read 16 hex_value read digits ≡ some sum
  blank : all is_blank blanks ≡ true

digits_then : (count : ℕ) (bytes : List ℕ) (at read sum : ℕ) → tail_from at count read bytes ≡ given sum → Digits count read sum bytes
unfolding tail_from digits_read
digits_then zero bytes at read sum e =
    let b = only_blanks bytes at read sum e in
    record { digits = []; blanks = bytes; all_bytes = refl; digit_count = refl; sum_read = ap some b.0; blank = b.1 }
digits_then (suc count) [] at read sum e = let z : ◌≡◌ {A = ℕ} 0 1 = cc in absurd (omega arith)
digits_then (suc count) (b ∷ bytes) at read sum e = go (hex_value b) refl e (λ y. digits_then count bytes (at + 1) (read * 16 + y) sum)
  where
    go : (o : Option ℕ) → hex_value b ≡ o → digit_or (wrong at) o (λ y. tail_from (at + 1) count (read * 16 + y) bytes) ≡ given sum
        → ((y : ℕ) → tail_from (at + 1) count (read * 16 + y) bytes ≡ given sum → Digits count (read * 16 + y) sum bytes)
        → Digits (suc count) read sum (b ∷ bytes)
    go none w e others = let z : ◌≡◌ {A = ℕ} 0 1 = cc in absurd (omega arith)
    go (some y) w e others =
        let d = others y e in
        record {
          digits = b ∷ d.digits;
          blanks = d.blanks;
          all_bytes = ap (λ (r : List ℕ). b ∷ r) d.all_bytes;
          digit_count = ap suc d.digit_count;
          sum_read = rw w d.sum_read;
          blank = d.blank;
        }

-- A text whose bytes after the design text are taken apart so is put together from what was taken apart.
module _ (text design others : List ℕ) (cut : Cut) (etxOffset : ℕ) (is : text ≡ (stx ∷ design) ++ star ∷ others)
    (p : TakenApart (first_at design) others cut etxOffset) where
  by_fields : text ≡ head_of design p.spaced p.gap ++ p.tail
  by_fields = is ∙ ap (λ (r : List ℕ). (stx ∷ design) ++ star ∷ r) p.all_bytes ∙ simp append_assoc

  after_etx : drop (etxOffset + 1) text ≡ p.tail
  after_etx =
      ap (drop (etxOffset + 1)) by_fields
      ∙ drop_at (head_of design p.spaced p.gap) p.tail (etxOffset + 1)
      (omega (arith, head_length design p.spaced p.gap, p.etx_place))

  from_fields : (k : Given) (sum : ℕ) → length text ≤ longest → all not_star design ≡ true → holds_mark design ≡ false
      → all_fields nothing_given cut.fields ≡ all_good k → Digits 4 0 sum p.tail → Assembled text k etxOffset sum
  unfolding sum_in
  from_fields k sum short no_star no_mark good d =
      record {
        not_long = short;
        design = design;
        spaced = p.spaced;
        gap = p.gap;
        digits = d.digits;
        blanks = d.blanks;
        right_form =
            record {
              design_no_star = no_star;
              design_no_mark = no_mark;
              right_fields = p.right;
              blank_gap = p.blank_gap;
              hex_digits = rw d.digit_count d.sum_read;
              blank_tail = d.blank;
            };
        text_bytes_lem = by_fields ∙ ap (λ (r : List ℕ). head_of design p.spaced p.gap ++ r) d.all_bytes;
        good_fields = ap (all_fields nothing_given) (sym p.cut_fields) ∙ good;
        etx_place = p.etx_place;
      }

-- The first piece is STX and the design text.
from_pieces : (text first : List ℕ) (ended : List (List ℕ)) (rest : List ℕ) (k : Given) (etxOffset sum : ℕ) → length text ≤ longest
    → starts_with stx text ≡ true → text ≡ first ++ star ∷ joined ended rest → NoStars (first ∷ ended) → holds_mark (drop 1 first) ≡ false
    → all_fields nothing_given (fields_from (length first + 1) ended rest).fields ≡ all_good k
    → (fields_from (length first + 1) ended rest).end ≡ some etxOffset
    → tail_from (etxOffset + 1) 4 0 (drop (etxOffset + 1) text) ≡ given sum → Assembled text k etxOffset sum
unfolding all
from_pieces text [] ended rest k etxOffset sum short begins is no_star no_mark good has_etx tail =
    absurd (true≢false (sym (ap (starts_with stx) (sym is) ∙ begins)))
from_pieces text (b ∷ design) ended rest k etxOffset sum short begins is no_star no_mark good has_etx tail =
    let first : b ≡ stx = eqb-true b stx (ap (starts_with stx) (sym is) ∙ begins) in
    let from-stx : text ≡ (stx ∷ design) ++ star ∷ joined ended rest =
    is ∙ ap (λ (c : ℕ). c ∷ (design ++ star ∷ joined ended rest)) first in
    let p = taken_apart ended (length (b ∷ design) + 1) rest etxOffset no_star.1 has_etx in
    from_fields text design (joined ended rest) _ etxOffset from-stx p k sum short
    ((and_iff (not_star b) (all not_star design)).0 no_star.0).1
    no_mark
    good
    (digits_then 4 p.tail (etxOffset + 1) 0 sum (rw (after_etx text design (joined ended rest) _ etxOffset from-stx p) at tail))

pub form_iff : (text : List ℕ) (k : Given) (etxOffset sum : ℕ) → GoodForm text k etxOffset sum ↔ Assembled text k etxOffset sum
unfolding joined
form_iff text k etxOffset sum = (
  λ f.
      from_pieces text f.design f.ended (pieces text).rest k etxOffset sum f.not_long f.begins
      (sym (rw f.text_pieces at (whole text).joined_bytes))
      (rw f.text_pieces at (whole text).no_stars)
      f.good_design
      f.good_fields
      f.has_etx
      f.good_tail,
  λ a.
      rw (a.text_bytes_lem, a.etx_place)
      (assembled_form a.design a.spaced a.gap a.digits a.blanks sum a.right_form k
      (rw a.text_bytes_lem at a.not_long) a.good_fields),
)

pub assembled_iff : (fuses : ℕ) (text image : List ℕ) → (meaning fuses text ≡ accepted image)
    ↔ ((k : Given) × (etxOffset : ℕ) × (sum : ℕ) × Assembled text k etxOffset sum × Concluded fuses text image etxOffset sum k)
assembled_iff fuses text image = (
  λ e.
      let a = (accepted_iff fuses text image).0 e in
      (a.gives, a.etx_offset, a.sum, (form_iff text a.gives a.etx_offset a.sum).0 a.form, a.concluded),
  λ (k, etxOffset, sum, a, c).
      (accepted_iff fuses text image).1
      (record { gives = k; etx_offset = etxOffset; sum = sum; form = (form_iff text k etxOffset sum).1 a; concluded = c }),
)
