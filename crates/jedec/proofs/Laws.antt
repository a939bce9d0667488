-- What holds of texts, each law once, for every fuse count and every line pattern:
--   accepted_texts_lem, refused_texts_lem   texts of document 01's bench section and of points that it leaves open
--                                   (specs/Cases.antt) mean what stands there
--   eight_fuse_texts_lem    texts for a part of eight fuses, all of them given by L fields or not, mean what stands there
--   written_text        what is written of eight fuses, byte by byte
--   too_long, no_start  a text of more than 1,048,576 bytes, and one that does not start with STX, are refused 7
--   accepted_iff        a text is accepted with an image exactly if it is of the form, its QF gives the count, no L is out of place, every
--                       fuse is in some L unless there is an F, the image is the one that its fields give, its C field, if there is one,
--                       gives the fuse sum of that image, and its transmission sum is 0000 or the sum of its bytes from STX to ETX
--                       (`Accepted` in specs/Form.antt)
--   in_place_iff        no L is refused exactly if each starts at or after the end of the L before it and ends at or before the count
--   misplaced_iff       the L that is refused is the first out of place: every L before it is in place, and it starts before the end of the
--                       L before it or ends past the count; the value is where its field starts (`FirstMisplaced` in specs/Form.antt)
--   refused_9_iff       a text is refused 9 exactly if it is of the form, its QF gives the count and some L is out of place; the value is
--                       where the first such L starts (`Refused9` in specs/Form.antt)
--   all_given_iff       no fuse is found to be not given exactly if there is an F or every fuse below the count is in some L
--   not_given_iff       the fuse that is found is the first that no L gives: there is no F, it is below the count and in no L, and every
--                       lower one is in some L (`FirstNotGiven` in specs/Form.antt)
--   refused_13_iff      a text is refused 13 exactly if it is of the form, its QF gives the count, no L is out of place, there is no F and
--                       some fuse below the count is in no L; the value is the first such fuse (`Refused13` in specs/Form.antt)
--   finished_state      the image of fields in order, with each L in place, is the one in which each L gives its fuses their states and
--                       every other fuse has the start state (`Described` in specs/Form.antt)
--   assembled_accepted  a text put together in that form, with good fields in order, the right count, each L in place, an F or every
--                       fuse in some L, and right sums, is accepted
--   form_iff            a text is of the form exactly if it is put together from STX, a design text, fields after blanks, ETX, four hex
--                       digits and blanks, with good fields in order (`GoodForm`, `Assembled` in specs/Form.antt; what a good field is and
--                       the order stand on both sides; the cases hold them)
--   assembled_iff       a text is accepted with an image exactly if it is put together so, with the right count,
--                       each L in place, an F or every fuse in some L, and right sums
--   read-back           what the writer writes of an image is accepted and gives that image
--   seven_back, count_back, sum_back   seven digits, a plain count and four hex digits are read back as the number that was written
--   values_small        a refusal has a number of 7 to 11 or 13; its value is no larger than the longest text, if the count is not
pub use Rattle.jedec.proofs.Cases.{accepted_texts_lem, refused_texts_lem, eight_fuse_texts_lem, written_text}
pub use Rattle.jedec.proofs.Conditions.{too_long, no_start, accepted_iff}
pub use Rattle.jedec.proofs.Misplaced.{misplaced_iff}
pub use Rattle.jedec.proofs.NotGiven.{all_given_iff, not_given_iff}
pub use Rattle.jedec.proofs.Refusals.{refused_9_iff, refused_13_iff}
pub use Rattle.jedec.proofs.States.{in_place_iff, finished_state}
pub use Rattle.jedec.proofs.Forms.{assembled_accepted}
pub use Rattle.jedec.proofs.FormIff.{form_iff, assembled_iff}
pub use Rattle.jedec.proofs.ReadBack.{read_back}
pub use Rattle.jedec.proofs.Numbers.{seven_back, count_back, sum_back}
pub use Rattle.jedec.proofs.Places.{OfText, values_small}
