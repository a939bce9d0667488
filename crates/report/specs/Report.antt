-- What the bench program writes for its input: document 01, "Bench cases". The lines of a text that is accepted, and
-- `refused N at V` for a refusal.
use Rattle.std.specs.Prelude.{ℕ, ◌+◌, cond, List, [], ◌∷◌, ◌++◌, eqb, ltb, length, drop}
use Rattle.std.proofs.Math.Option.{Option, or_else}
use Rattle.std.proofs.Math.Option.Option.{none, some}
use Rattle.part.specs.Outcome.{Outcome}
use Rattle.part.specs.Outcome.Outcome.{accepted, refused}
use Rattle.part.specs.Device.{fuse_count}
use Rattle.part.specs.declared.Device.{Device}
use Rattle.jedec.specs.Cut.{pieces, Field, fields_from}
use Rattle.jedec.specs.Judge.{Judged, judge}
use Rattle.jedec.specs.Judge.Judged.{count, start, list, sum, skipped, bad}
use Rattle.jedec.specs.Meaning.{meaning}
use Rattle.report_lines.specs.ReportLines.{count_lines, refusal_line}

-- "at most 65,536 bytes".
abbrev pub most : ℕ
most = 65536

-- A device of so many blocks, in the small class.
abbrev pub of_blocks : ℕ → Device
of_blocks n = record { blocks = n; class = 0 }

-- The fields of a text, by what stands before each `*`: STX and the design text are no field.
abbrev pub fields_in : (ended : List (List ℕ)) → (rest : List ℕ) → List Field
fields_in [] rest = []
fields_in (design ∷ ended) rest = (fields_from (length design + 1) ended rest).fields

-- What a field reads as a QF field: the fuse count that it is judged to give. One of bad form reads none; its
-- text is refused 7 for any device.
abbrev pub fuse_count_in : Judged → Option ℕ
fuse_count_in (count n) = some n
fuse_count_in (start s) = none
fuse_count_in (list first states) = none
fuse_count_in (sum x) = none
fuse_count_in skipped = none
fuse_count_in bad = none

-- What the first QF field reads.
unfoldable pub first_count : List Field → Option ℕ
first_count [] = none
first_count (f ∷ fields) = or_else (fuse_count_in (judge f.bytes)) (first_count fields)

-- "n = 4 where the first QF field reads 41472, else 2".
abbrev pub blocks_by : Option ℕ → ℕ
blocks_by none = 2
blocks_by (some n) = cond (eqb n (fuse_count (of_blocks 4))) 4 2

unfoldable pub blocks_for : (text : List ℕ) → ℕ
blocks_for text = blocks_by (first_count (fields_in (pieces text).ended (pieces text).rest))

-- What the text means for that device; "more is 7 at 65536".
unfoldable pub outcome_of : (text : List ℕ) → Outcome (List ℕ)
outcome_of text =
    cond (ltb most (length text)) (refused 7 most) (meaning (fuse_count (of_blocks (blocks_for text))) text)

-- The lines of what a text means.
abbrev pub lines_of : Device → Outcome (List ℕ) → List ℕ
lines_of d (accepted image) = count_lines d image
lines_of d (refused number value) = refusal_line number value

unfoldable pub report_of : (text : List ℕ) → List ℕ
report_of text = lines_of (of_blocks (blocks_for text)) (outcome_of text)

-- Some bytes put at the start of a buffer: how many they are, or refusal 12 with the bytes
-- needed; what the buffer then holds.
abbrev pub bytes_put : (bytes buffer : List ℕ) → Outcome ℕ
bytes_put bytes buffer = cond (ltb (length buffer) (length bytes)) (refused 12 (length bytes)) (accepted (length bytes))

abbrev pub at_start : (bytes buffer : List ℕ) → List ℕ
at_start bytes buffer = bytes ++ drop (length bytes) buffer
