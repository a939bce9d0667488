-- What is read tells as much as the whole input.
-- Assumes nothing.
use Rattle.std.proofs.Common.{rules}
use Rattle.bench.proofs.Reports.{on_whole_input}
use Rattle.bench.proofs.report_input.Goals as goal

pub returns : goal.returns
returns g c =
    on_whole_input _ _ _ _ _ _ _ (search rules) c.in_ok-n.ensures.bound c.in_ok-n.ensures.bytes c.in_ok-n.ensures.end c.put_report.ensures
