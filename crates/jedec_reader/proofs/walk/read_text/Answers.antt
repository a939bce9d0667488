-- `read_text` meets its contract: the limit, STX, the design text, and then the fields.
-- Assumes nothing.
use mathlib.Core.Path.{◌≡◌, refl, sym, ◌∙◌, ap}
use mathlib.Core.Bool.{Bool, true, false}
use mathlib.Core.List.{List, [], ◌∷◌}
use Prim.Native.Nat.{ℕ, zero, suc, ◌+◌, ◌-◌, ◌≤◌, ◌<◌}
use native.Mathlib.Omega.{arith}
use native.Mathlib.Nat.{zero-add}
use native.Mathlib.Numerals.{add-one}
use lib.ListN.{length, get_or, take, drop}
use lib.Seq.{take-nil, length-take-le}
use borrow.Author.Tests.{lt-ltb, le-ltb, eq-eqb, ne_eqb}
use Rattle.std.specs.Prelude.{Result, Ok, Err}
use Rattle.std.specs.Result.{IsErrAnd}
use Rattle.part.specs.Answer.{refusal_number, refusal_value, done_outcome}
use Rattle.part.specs.declared.Refusal.{Refusal}
use Rattle.part.specs.Outcome.{Outcome}
use Rattle.part.specs.Outcome.Outcome.{refused}
use Rattle.jedec.specs.Cut.{pieces, holds_mark}
use Rattle.jedec.specs.Meaning.{longest, of_cut, of_pieces, meaning}
use Rattle.jedec_fields.specs.Fields.{until_star, fields_at}
use Rattle.jedec_fields.proofs.Fields.{Cuts, pieces_star, Uncut, pieces_none}
use Rattle.jedec_end.specs.End.{TextRead}
use Rattle.jedec_end.proofs.Ends.{refused_reads}
use borrow.Author.Rules.{rules}
use Rattle.jedec_reader.proofs.walk.read_text.Goals as goal
use Rattle.jedec_reader.proofs.walk.read_text.Goals.{then-bytes-eq0-via-then-bytes-eq0, then-bytes-eq0-via-else-bytes-eq0+then-bytes-ne-STX}

-- A refusal passed on by `?` is what the text means.
read_refused : (o : Outcome (List ℕ)) (r : Result (Unit {0}) Refusal) (x y : Refusal) (image : List ℕ) → IsErrAnd r (λ z. z ≡ x) → x ≡ y
    → TextRead o (refused (refusal_number y) (refusal_value y)) image → TextRead o (done_outcome r) image
read_refused o (Ok z) x y image h g t = elim h [ ]
read_refused o (Err z) x y image h g t = rw (h ∙ g) t

module _ (fuses : ℕ) where
  too_long : (text image : List ℕ) → longest < length text → TextRead (meaning fuses text) (refused 7 longest) image
  unfolding meaning
  too_long text image l = refused_reads _ 7 longest image (rw (lt-ltb longest (length text) l))

  nothing_there : (text image : List ℕ) → length text ≡ 0 → TextRead (meaning fuses text) (refused 7 0) image
  unfolding meaning
  nothing_there [] image e = refused_reads _ 7 0 image refl
  nothing_there (b ∷ text) image e = absurd (omega arith)

  no_stx : (text image : List ℕ) → length text ≤ longest → (length text ≡ 0 → ⊥) → (get_or text 0 0 ≡ 2 → ⊥)
      → TextRead (meaning fuses text) (refused 7 0) image
  unfolding meaning
  no_stx [] image l n h = absurd (n refl)
  no_stx (b ∷ text) image l n h = refused_reads _ 7 0 image (rw (le-ltb longest (suc (length text)) l, ne_eqb b 2 h))

  -- A text that starts with STX means what its pieces say.
  after_stx : (text : List ℕ) → length text ≤ longest → (length text ≡ 0 → ⊥) → get_or text 0 0 ≡ 2
      → meaning fuses text ≡ of_pieces fuses text (pieces text).ended (pieces text).rest
  unfolding meaning
  after_stx [] l n h = absurd (n refl)
  after_stx (b ∷ text) l n h = rw (le-ltb longest (suc (length text)) l, eq-eqb b 2 h)

past_first : (text : List ℕ) → (length text ≡ 0 → ⊥) → get_or text 0 0 ≡ 2 → 1 ≤ until_star text
unfolding until_star
past_first [] n h = absurd (n refl)
past_first (b ∷ text) n h = let other : b ≡ 42 → ⊥ = λ e. omega arith in rw (ne_eqb b 42 other) (omega arith)

design_rest : (text : List ℕ) (star : ℕ) → 1 ≤ star → drop 1 (take star text) ≡ take (star - 1) (drop 1 text)
design_rest text zero l = absurd (omega arith)
design_rest [] (suc s) l = sym (take-nil (suc s - 1))
design_rest (b ∷ text) (suc s) l = let e : suc s - 1 ≡ s = omega arith in rw e

no_star : (fuses : ℕ) (text image : List ℕ) → length text ≤ longest → (length text ≡ 0 → ⊥) → get_or text 0 0 ≡ 2
    → 0 + until_star (drop 0 text) ≡ length text → TextRead (meaning fuses text) (refused 7 (length text)) image
no_star fuses text image l n h e =
    let u : Uncut text = pieces_none text (omega (arith, sym (zero-add (until_star text)) ∙ e)) in
    refused_reads _ 7 (length text) image (after_stx fuses text l n h ∙ rw u.ended)

module _ (fuses : ℕ) (text image : List ℕ) (l : length text ≤ longest) (n : length text ≡ 0 → ⊥) (h : get_or text 0 0 ≡ 2) (star : ℕ)
    (e : star ≡ 0 + until_star (drop 0 text)) where
  is : star ≡ until_star text
  is = e ∙ zero-add (until_star text)

  past_stx : 1 ≤ star
  past_stx = rw is (past_first text n h)

  module _ (m : star < length text) (t : Bool) (g : t ≡ holds_mark (take (star - 1) (drop 1 text))) where
    cut : Cuts text star
    cut = let less : until_star text < length text = omega (arith, is) in rw is (pieces_star text less)

    marked : holds_mark (drop 1 (take star text)) ≡ t
    marked = ap holds_mark (design_rest text star past_stx) ∙ sym g

    a_mark : t ≡ true → TextRead (meaning fuses text) (refused 7 1) image
    a_mark v = refused_reads _ 7 1 image (after_stx fuses text l n h ∙ rw (cut.ended, marked, v))

    then_fields : (answer : Outcome (Unit {0})) → t ≡ false
        → TextRead (of_cut fuses text (fields_at (star + 1) (drop (star + 1) text))) answer image
        → TextRead (meaning fuses text) answer image
    unfolding fields_at
    then_fields answer v r =
        let whole : meaning fuses text ≡ of_cut fuses text (fields_at (star + 1) (drop (star + 1) text)) =
        after_stx fuses text l n h ∙ rw (cut.ended, marked, v, cut.rest, length-take-le star text (omega arith), add-one star) in
        rw whole r

pub returns-in_err-text : goal.returns-in_err-text
returns-in_err-text c = search (rules, read_refused, too_long)

pub returns-then-bytes-eq0 : goal.returns-then-bytes-eq0
returns-then-bytes-eq0 c =
    elim c.then-bytes-eq0.branch [
      | then-bytes-eq0-via-then-bytes-eq0 w ↦ rw (← c.in_ok-text.ensures) (search (rules, nothing_there))
      | then-bytes-eq0-via-else-bytes-eq0+then-bytes-ne-STX w ↦ rw (← c.in_ok-text.ensures) (search (rules, no_stx))
    ]

pub returns-in_default : goal.returns-in_default
returns-in_default c = rw (← c.in_ok-text.ensures) (search (rules, no_star, c.in_default.ensures))

pub slice_bounds-holds_mark-count : goal.slice_bounds-holds_mark-count
slice_bounds-holds_mark-count c = search (rules, past_stx, c.in-Some.ensures)

pub slice_bounds-holds_mark-start : goal.slice_bounds-holds_mark-start
slice_bounds-holds_mark-start c = search (rules, past_stx, c.in-Some.ensures)

pub returns-then-holds_mark : goal.returns-then-holds_mark
returns-then-holds_mark c = rw (← c.in_ok-text.ensures) (search (rules, a_mark, c.in-Some.ensures))

pub returns : goal.returns
returns c = rw (← c.in_ok-text.ensures) (search (rules, then_fields, c.in-Some.ensures))
