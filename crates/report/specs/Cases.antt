-- Document 01's text and what the bench program writes for it; the empty text; texts for four blocks and for two; one
-- that does not give every fuse. Assumes nothing.
use Rattle.std.specs.Prelude.{◌≡◌, List, [], ◌∷◌, ◌++◌, ℕ}
use Prim.Native.String.{String}
use Rattle.jedec.specs.Characters.{lf}
use Rattle.jedec.specs.Quoted.{chars}
use Rattle.jedec.specs.Cases.{file}
use Rattle.report.specs.Report.{report_of}

abbrev pub line : String → List ℕ
line characters = chars characters ++ lf ∷ []

abbrev pub BenchText : Type 0
BenchText =
    report_of (file "*QF18144*F1*CD324*" "03DD")
    ≡ line "blocks 2" ++ line "fuses 18144" ++ line "zero 0" ++ line "sum D324"

abbrev pub EmptyText : Type 0
EmptyText = report_of [] ≡ line "refused 7 at 0"

-- 41472 is the count of four blocks, so the list that runs past it is the fault; any other
-- count is compared with that of two.
abbrev pub FourBlocks : Type 0
FourBlocks = report_of (file "*QF41472*L41471 11*" "0000") ≡ line "refused 9 at 10"

abbrev pub TwoBlocks : Type 0
TwoBlocks = report_of (file "*QF41473*" "0000") ≡ line "refused 8 at 2"

-- 13 is printed as the others are, though its value is a fuse and no offset.
abbrev pub NotGiven : Type 0
NotGiven = report_of (file "*QF41472*L0 11*L3 1*" "0000") ≡ line "refused 13 at 2"
