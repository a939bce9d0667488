-- What the bench program writes for the texts of specs/Cases.antt.
-- Assumes nothing.
use mathlib.Core.Path.{◌≡◌, refl}
use mathlib.Core.Option.{or_else}
use Rattle.part.specs.Device.{fuse_count}
use Rattle.part.specs.Lowest.{lowest_from}
use Prim.Native.Nat.{◌+◌, ◌*◌}
use native.Mathlib.Omega.{arith}
use lib.Count.{ones}
use lib.ListN.{length}
use Rattle.image.specs.Bits.{bit_at, ones_in}
use Rattle.image.proofs.Counts.{zeros_and_ones}
use Rattle.jedec.specs.Cases.{all_ones}
use Rattle.image.specs.Image.{byte_sum, sum16, state, zeros_below}
use Rattle.jedec.specs.Characters.{digits_read, number_in, sum_in, digits_of}
use Rattle.jedec.specs.Cut.{pieces, blanks_before, fields_from, holds_mark, tail_from}
use Rattle.jedec.specs.Judge.{unbroken, states_in, list_in, judge}
use Rattle.jedec.specs.Rules.{all_fields, misplaced, is_given}
use Rattle.jedec.specs.Meaning.{meaning, concluded}
use Rattle.jedec.proofs.CaseImages.{all_ones_lem}
use Rattle.report_lines.specs.ReportLines.{count_lines, refusal_line}
use Rattle.report.specs.Report.{first_count, blocks_for, outcome_of, report_of}
use Rattle.report.specs.Cases.{BenchText, EmptyText, FourBlocks, TwoBlocks, NotGiven}

pub empty_text : EmptyText
unfolding report_of outcome_of blocks_for first_count count_lines refusal_line fuse_count meaning concluded pieces blanks_before fields_from
    holds_mark tail_from unbroken states_in list_in judge all_fields misplaced digits_read number_in sum_in byte_sum sum16 digits_of
    zeros_below state bit_at or_else
empty_text = refl

pub four_blocks : FourBlocks
unfolding report_of outcome_of blocks_for first_count count_lines refusal_line fuse_count meaning concluded pieces blanks_before fields_from
    holds_mark tail_from unbroken states_in list_in judge all_fields misplaced digits_read number_in sum_in byte_sum sum16 digits_of
    zeros_below state bit_at or_else
four_blocks = refl

pub two_blocks : TwoBlocks
unfolding report_of outcome_of blocks_for first_count count_lines refusal_line fuse_count meaning concluded pieces blanks_before fields_from
    holds_mark tail_from unbroken states_in list_in judge all_fields misplaced digits_read number_in sum_in byte_sum sum16 digits_of
    zeros_below state bit_at or_else
two_blocks = refl

pub not_given_lem : NotGiven
unfolding report_of outcome_of blocks_for first_count count_lines refusal_line fuse_count meaning concluded pieces blanks_before fields_from
    holds_mark tail_from unbroken states_in list_in judge all_fields misplaced is_given lowest_from digits_read number_in sum_in byte_sum
    sum16
    digits_of zeros_below state bit_at or_else
not_given_lem = refl

all_ones_in : ones_in all_ones ≡ 18144
unfolding ones_in ones
all_ones_in = refl

no_zeros : zeros_below all_ones 18144 ≡ 0
no_zeros =
    let e : zeros_below all_ones (length all_ones * 8) + ones_in all_ones ≡ length all_ones * 8 = zeros_and_ones all_ones in
    omega (arith, e, all_ones_in)

pub bench_text : BenchText
unfolding report_of outcome_of blocks_for first_count count_lines refusal_line fuse_count meaning concluded pieces blanks_before fields_from
    holds_mark tail_from unbroken states_in list_in judge all_fields misplaced digits_read number_in sum_in byte_sum sum16 digits_of or_else
bench_text = rw (all_ones_lem, no_zeros)
