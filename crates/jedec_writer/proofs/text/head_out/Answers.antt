-- `head_out` meets its contract: what stands before the count, its digits, and what follows them.
-- Assumes nothing.
use native.Mathlib.Omega.{arith}
use Rattle.jedec_writer.proofs.Sizes.{count_small}
use Rattle.jedec_writer.proofs.TextParts.{head_of, head_end}
use borrow.Author.Rules.{rules}
use Rattle.jedec_writer.proofs.text.head_out.Goals as goal

pub line_start-requires : goal.line_start-requires
line_start-requires c = search (rules, count_small)

pub put_cells-requires-2 : goal.put_cells-requires-2
put_cells-requires-2 c =
    omega (arith, head_end c.args.part.device _ _ c.fuse_count-fuses.ensures c.decimal_digits-digits.ensures, c.requires)

pub put_cells-requires-3 : goal.put_cells-requires-3
put_cells-requires-3 c =
    omega (arith, head_end c.args.part.device _ _ c.fuse_count-fuses.ensures c.decimal_digits-digits.ensures, c.requires)

pub returns-clause-stored : goal.returns-clause-stored
returns-clause-stored c = search (rules, head_of)

pub returns-clause-behind : goal.returns-clause-behind
returns-clause-behind c = search (rules, head_end)
