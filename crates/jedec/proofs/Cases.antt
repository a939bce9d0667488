-- The texts of specs/Cases.antt mean what stands there, by computing all but the images, which are laws.
-- Assumes nothing.
use mathlib.Core.Path.{refl}
use Rattle.cells.specs.Cells.{total}
use Rattle.part.specs.Lowest.{lowest_from}
use Rattle.image.specs.Bits.{bit_at, gathered, tabulate}
use Rattle.image.specs.Image.{byte_sum, sum16, state}
use Rattle.jedec.specs.Characters.{digits_read, number_in, sum_in, digits_of}
use Rattle.jedec.specs.Cut.{pieces, blanks_before, fields_from, holds_mark, tail_from}
use Rattle.jedec.specs.Judge.{unbroken, states_in, list_in, judge}
use Rattle.jedec.specs.Rules.{all_fields, misplaced, is_given, state_given, image_with}
use Rattle.jedec.specs.Meaning.{meaning, concluded}
use Rattle.jedec.specs.WrittenText.{states_text, columns_text, lines_text, up_to_etx, text_with}
use Rattle.jedec.specs.Cases.{AllHold, accepted_texts, refused_texts, eight_fuse_texts, WrittenText}
use Rattle.jedec.proofs.CaseImages.{all_ones_lem, all_zeros_lem, only_first_lem, first_of_three, all_but_first_lem, only_last_lem}

pub accepted_texts_lem : AllHold 18144 accepted_texts
unfolding meaning concluded pieces blanks_before fields_from holds_mark tail_from unbroken states_in list_in judge all_fields misplaced
    digits_read
    number_in sum_in byte_sum sum16
accepted_texts_lem = rw (all_ones_lem, only_first_lem, first_of_three, all_zeros_lem, all_but_first_lem, only_last_lem)

pub refused_texts_lem : AllHold 18144 refused_texts
unfolding meaning concluded pieces blanks_before fields_from holds_mark tail_from unbroken states_in list_in judge all_fields misplaced
    is_given
    lowest_from digits_read number_in sum_in byte_sum sum16
refused_texts_lem = rw all_ones_lem

pub eight_fuse_texts_lem : AllHold 8 eight_fuse_texts
unfolding meaning concluded pieces blanks_before fields_from holds_mark tail_from unbroken states_in list_in judge all_fields misplaced
    is_given
    lowest_from state_given image_with gathered tabulate digits_read number_in sum_in byte_sum sum16
eight_fuse_texts_lem = refl

pub written_text : WrittenText
unfolding text_with up_to_etx lines_text columns_text states_text digits_of sum16 byte_sum state bit_at total
written_text = refl
