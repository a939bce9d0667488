-- What a text means for a part of so many fuses: its image, or the first of the refusals 7, 8, 9, 13, 10, 11 at its
-- first place, with the value that the tables of documents 01 and 02 give.
use Rattle.std.specs.Prelude.{ℕ, ◌+◌, cond, ◌||◌, List, [], ◌∷◌, eqb, ltb, length, take, drop}
use Rattle.std.proofs.Math.Option.{Option}
use Rattle.std.proofs.Math.Option.Option.{none, some}
use Rattle.part.specs.Outcome.{Outcome}
use Rattle.part.specs.Outcome.Outcome.{accepted, refused}
use Rattle.image.specs.Image.{sum16}
use Rattle.jedec.specs.Characters.{stx}
use Rattle.jedec.specs.Cut.{pieces, Cut, starts_with, fields_from, holds_mark, Tail, tail_from}
use Rattle.jedec.specs.Cut.Tail.{given, wrong}
use Rattle.jedec.specs.Rules.{At, Given, nothing_given, Fields, all_fields, wrong_count, misplaced, not_given}
use Rattle.jedec.specs.Rules.{finished}
use Rattle.jedec.specs.Rules.Fields.{all_good, bad_at}

-- "text over 1,048,576 bytes".
abbrev pub longest : ℕ
longest = 1048576

-- A refusal where there is a value for it.
abbrev pub unless : {A : Type 0} → (number : ℕ) → Option ℕ → Outcome A → Outcome A
unless number none answer = answer
unless number (some value) answer = refused number value

-- 10: "C differs": its field. The sum is that of the finished image.
abbrev pub wrong_sum : (image : List ℕ) → Option At → Option ℕ
wrong_sum image none = none
wrong_sum image (some c) = cond (eqb c.value (sum16 image)) none (some c.at)

-- 11: "transmission sum differs and is not 0000": ETX. The sum is "over STX to ETX inclusive".
abbrev pub wrong_transmission : (text : List ℕ) → (etx sum : ℕ) → Option ℕ
wrong_transmission text etx sum = cond (eqb sum 0 || eqb sum (sum16 (take (etx + 1) text))) none (some etx)

-- A text of good form, by what its fields gave: 8, 9, 13, 10, 11, or its image. "13, after 9 and before 10".
unfoldable pub concluded : (fuses : ℕ) → (text : List ℕ) → (etx sum : ℕ) → Given → Outcome (List ℕ)
concluded fuses text etx sum k =
    unless 8 (wrong_count fuses etx k.count)
    (unless 9 (misplaced fuses 0 k.lists)
    (unless 13 (not_given fuses k.start k.lists)
    (unless 10 (wrong_sum (finished fuses k) k.sum)
    (unless 11 (wrong_transmission text etx sum) (accepted (finished fuses k))))))

-- 7: after ETX the first wrong byte; for a text that ends early its length; the offset at which the first bad field
-- starts.
abbrev pub with_tail : (fuses : ℕ) → (text : List ℕ) → (etx : ℕ) → Given → Tail → Outcome (List ℕ)
with_tail fuses text etx k (given sum) = concluded fuses text etx sum k
with_tail fuses text etx k (wrong at) = refused 7 at

abbrev pub with_end : (fuses : ℕ) → (text : List ℕ) → Given → Option ℕ → Outcome (List ℕ)
with_end fuses text k none = refused 7 (length text)
with_end fuses text k (some etx) = with_tail fuses text etx k (tail_from (etx + 1) 4 0 (drop (etx + 1) text))

abbrev pub with_fields : (fuses : ℕ) → (text : List ℕ) → (end : Option ℕ) → Fields → Outcome (List ℕ)
with_fields fuses text end (bad_at at) = refused 7 at
with_fields fuses text end (all_good k) = with_end fuses text k end

abbrev pub of_cut : (fuses : ℕ) → (text : List ℕ) → Cut → Outcome (List ℕ)
of_cut fuses text cut = with_fields fuses text cut.end (all_fields nothing_given cut.fields)

-- The design text starts at 1, after STX, and is no field.
abbrev pub of_pieces : (fuses : ℕ) → (text : List ℕ) → (ended : List (List ℕ)) → (rest : List ℕ) → Outcome (List ℕ)
of_pieces fuses text [] rest = refused 7 (length text)
of_pieces fuses text (design ∷ ended) rest =
    cond (holds_mark (drop 1 design)) (refused 7 1) (of_cut fuses text (fields_from (length design + 1) ended rest))

-- "text over 1,048,576 bytes (first), or bad form"; "for no STX 0".
unfoldable pub meaning : (fuses : ℕ) → (text : List ℕ) → Outcome (List ℕ)
meaning fuses text =
    cond (ltb longest (length text))
    (refused 7 longest)
    (cond (starts_with stx text) (of_pieces fuses text (pieces text).ended (pieces text).rest) (refused 7 0))
