-- `run_above` meets its contract: what `position` finds.
-- Assumes nothing.
use Rattle.std.proofs.Common.{◌≡◌, ◌/◌, ◌^◌, rules, tests}
use Rattle.std.proofs.lemmas.Iterator.{IsFirst-from_position, YieldsList-from_slice}
use Rattle.readout_rows.proofs.RowsAbove.{run_found}
use Rattle.readout_rows.proofs.above_width.run_above.Goals as goal

pub returns : goal.returns
returns c =
    run_found c.args.width c.args.bytes.now _
    (IsFirst-from_position _ _ _ (λ x. x / 2 ^ c.args.width ≡ 0 → ⊥) (λ x. x / 2 ^ c.args.width ≡ 0) c.position.ensures.ran
    (YieldsList-from_slice c.args.bytes.now cc) (λ x q k. search (rules, tests)) (λ x q k. search (rules, tests)))
