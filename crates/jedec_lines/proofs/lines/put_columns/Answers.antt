-- `put_columns` meets its contract: the columns so far are stored, each behind the one before it.
-- Assumes nothing.
use native.Mathlib.Omega.{arith}
use borrow.Author.Rules.{rules}
use Rattle.jedec_lines.proofs.LineText.{none_put, column_fits, column_put, all_put}
use Rattle.jedec_lines.proofs.lines.put_columns.Goals as goal

pub loop-width-init : goal.loop-width-init
loop-width-init c = search (rules, none_put)

pub put_column-requires : goal.put_column-requires
put_column-requires c = column_fits c.loop-width.invariant c.requires.0 (omega arith) (omega arith) (omega (arith, c.requires))

pub overflow_shr-rest : goal.overflow_shr-rest
overflow_shr-rest c =
    omega (arith, column_fits c.loop-width.invariant c.requires.0 (omega arith) (omega arith) (omega (arith, c.requires)))

pub overflow_add-next : goal.overflow_add-next
overflow_add-next c =
    omega (arith, column_fits c.loop-width.invariant c.requires.0 (omega arith) (omega arith) (omega (arith, c.requires)))

pub overflow_add-next-in-loop-width : goal.overflow_add-next-in-loop-width
overflow_add-next-in-loop-width c =
    omega (arith, column_fits c.loop-width.invariant c.requires.0 (omega arith) (omega arith) (omega (arith, c.requires)))

pub loop-width-preserved : goal.loop-width-preserved
loop-width-preserved c = search (rules, column_put)

pub returns : goal.returns
returns c =
    let all = all_put c.loop-width.invariant (omega arith) (omega arith) (omega arith) in record { stored = all.0; behind = all.1 }
