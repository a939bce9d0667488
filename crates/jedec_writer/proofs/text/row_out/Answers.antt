-- `row_out` meets its contract: the lines of a main row, or the line of a wire-AND row.
-- Assumes nothing.
use Rattle.jedec_writer.proofs.Lines.{line_room, rest_room, line_lined}
use Rattle.jedec_writer.proofs.Sizes.{main_lines, wire_and_lines}
use Rattle.jedec_writer.proofs.text.row_out.Goals as goal

pub line_out-second-requires-clause-room : goal.line_out-second-requires-clause-room
line_out-second-requires-clause-room c =
    let room = rw (c.in-Main.is, main_lines) at c.requires in line_room _ _ _ _ _ room

pub line_out-third-requires-clause-room : goal.line_out-third-requires-clause-room
line_out-third-requires-clause-room c =
    let room = rw (c.in-Main.is, main_lines) at c.requires in
    line_room _ _ _ _ _ (rest_room _ _ _ _ _ _ _ room c.line_out-second.ensures)

pub line_out-requires-clause-room : goal.line_out-requires-clause-room
line_out-requires-clause-room c =
    let room = rw (c.in-Main.is, main_lines) at c.requires in
    rest_room _ _ _ _ _ _ _ (rest_room _ _ _ _ _ _ _ room c.line_out-second.ensures) c.line_out-third.ensures

pub line_out-requires-in-WireAnd-clause-room : goal.line_out-requires-in-WireAnd-clause-room
line_out-requires-in-WireAnd-clause-room c = rw (c.in-WireAnd.is, wire_and_lines) at c.requires

pub returns-in-Main : goal.returns-in-Main
returns-in-Main c =
    rw (c.in-Main.is, main_lines)
    (line_lined _ _ _ _ _ _ _ _ _ c.line_out-second.ensures (line_lined _ _ _ _ _ _ _ _ _ c.line_out-third.ensures c.line_out.ensures))

pub returns-in-WireAnd : goal.returns-in-WireAnd
returns-in-WireAnd c = rw (c.in-WireAnd.is, wire_and_lines) c.line_out-in-WireAnd.ensures
