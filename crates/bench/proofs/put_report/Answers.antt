-- The buffer is never too short for a report.
-- Assumes nothing.
use Rattle.std.proofs.Common.{refl, replicate}
use Rattle.bench.proofs.Reports.{always_put}
use Rattle.bench.proofs.put_report.Goals as goal

pub unwrap-bytes-requires : goal.unwrap-bytes-requires
unwrap-bytes-requires g c = always_put c.args.text.now (replicate 64 0) _ refl c.report.ensures.answers
