-- How long the text of the differences can be: so its length fits every word that holds it.
-- Assumes nothing.
use mathlib.Core.Path.{◌≡◌}
use mathlib.Core.Bool.{true}
use mathlib.Core.List.{List, [], ◌∷◌}
use Prim.Native.Nat.{ℕ, ◌*◌, ◌≤◌}
use native.Mathlib.Omega.{arith}
use lib.ListN.{length, length-append}
use Rattle.part.specs.Device.{known, fuse_count}
use Rattle.part.specs.declared.Device.{Device}
use Rattle.part.proofs.Devices.{fuses_small}
use Rattle.names.proofs.Short.{digits_few, name_short}
use Rattle.differences.specs.Differences.{differing_fuses, lines_of, first_line, text_of}
use Rattle.differences.specs.Scan.{line_bytes, lines_bytes}
use Rattle.differences.proofs.Differing.{differ_few}
use Rattle.differences.proofs.LineTexts.{lines_count}

lines_short : (d : Device) (fuses : List ℕ) → lines_bytes d fuses ≤ 72 * length fuses
unfolding lines_bytes line_bytes
lines_short d [] = omega arith
lines_short d (fuse ∷ fuses) = omega (arith, digits_few fuse, name_short d fuse, lines_short d fuses)

first_short : (count : ℕ) → length (first_line count) ≤ 16
first_short count = simp length-append (omega (arith, digits_few count))

pub text_short : (d : Device) (old new : List ℕ) → known d ≡ true → length (text_of d old new) ≤ 30000000
unfolding text_of differing_fuses
text_short d old new k =
    let fuses = differing_fuses d old new in
    omega (
      arith,
      length-append (first_line (length fuses)) (lines_of d old new fuses),
      first_short (length fuses),
      lines_count d old new fuses,
      lines_short d fuses,
      differ_few old new (fuse_count d) 0,
      fuses_small d k,
    )
