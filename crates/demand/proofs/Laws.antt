-- Laws that name several crates; `holds` and `of_calls`, demand 3 as laws, stand in crate `edit`, `holds_by_number` in `edit_by_number`:
--   text_inverse           for every known device and every image of it, reading what the writer wrote is accepted and gives that image
--   oe_mux_case, order   document 01's case of OE_MUX, and the order of the refusals of setting (specs/Cases.antt)
pub use Rattle.demand.proofs.RoundTrips.{text_inverse}
pub use Rattle.demand.proofs.Cases.{oe_mux_case, order}
