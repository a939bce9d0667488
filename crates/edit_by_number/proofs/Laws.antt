-- What holds of reading and setting by setting number and pattern, for every device, number and pattern that there are:
--   reads_numbered, sets_numbered   the edit by number and pattern is the edit by the setting and the value that they stand for,
--                                   refusals 2 and 6 included
--   holds_by_number                 demand 3, whole (specs/Demand.antt), of the definitions of setting and reading by number and of the
--                                   conversions
pub use Rattle.edit_by_number.proofs.ByName.{reads_numbered, sets_numbered}
pub use Rattle.edit_by_number.proofs.Demand.{holds_by_number}
