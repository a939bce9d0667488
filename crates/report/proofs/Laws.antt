-- What holds of reports:
--   report_short                   a report has at most 64 bytes, so a buffer of 64 bytes is never refused
--   counts_whole, refusal_whole    every number of a report is printed whole: its digits are read as that number
--   bench_text, empty_text, four_blocks, two_blocks, not_given_lem   what is written for five texts (specs/Cases.antt)
use mathlib.Core.Path.{◌≡◌}
use mathlib.Core.Bool.{Bool, true, false, cond}
use mathlib.Core.List.{List}
use mathlib.Core.Option.Option.{some}
use Prim.Native.Nat.{ℕ, zero, suc, ◌^◌, ◌≤◌, ◌<◌}
use native.Mathlib.Omega.{arith}
use lib.Dec.{ltb}
use lib.ListN.{length}
use Rattle.part.specs.Outcome.Outcome.{refused}
use Rattle.part.specs.Device.{fuse_count}
use Rattle.image.specs.Image.{zeros_below}
use Rattle.jedec.specs.Characters.{number_in, count_digits}
use Rattle.jedec.specs.Meaning.{longest, meaning}
use Rattle.jedec.proofs.Laws.{count_back, values_small}
use Rattle.report.specs.Report.{most, of_blocks, blocks_for, outcome_of}
use Rattle.report.proofs.Answers.{by_device}
pub use Rattle.report.proofs.Answers.{report_short}
pub use Rattle.report.proofs.Cases.{bench_text, empty_text, four_blocks, two_blocks, not_given_lem}

abbrev pub Whole : ℕ → Type 0
Whole x = number_in (count_digits x) ≡ some x

zeros_few : (image : List ℕ) (fuses : ℕ) → zeros_below image fuses ≤ fuses
unfolding zeros_below
zeros_few image zero = omega arith
zeros_few image (suc fuse) = omega (arith, zeros_few image fuse)

fuses_few : (text : List ℕ) → fuse_count (of_blocks (blocks_for text)) ≤ longest
unfolding fuse_count
fuses_few text = by_device (λ n. fuse_count (of_blocks n) ≤ longest) (omega arith) (omega arith) text

pub counts_whole : (text image : List ℕ)
    → Whole (blocks_for text) × Whole (fuse_count (of_blocks (blocks_for text)))
    × Whole (zeros_below image (fuse_count (of_blocks (blocks_for text))))
counts_whole text image =
    let fuses = fuse_count (of_blocks (blocks_for text)) in (
      count_back (blocks_for text) (by_device (λ n. n < 10 ^ 7) (omega arith) (omega arith) text),
      count_back fuses (omega (arith, fuses_few text)),
      count_back (zeros_below image fuses) (omega (arith, zeros_few image fuses, fuses_few text)),
    )

pub refusal_whole : (text : List ℕ) (number value : ℕ) → outcome_of text ≡ refused number value → Whole number × Whole value
unfolding outcome_of
refusal_whole text number value e = go (ltb most (length text)) e
  where
    go : (t : Bool) → cond t (refused 7 most) (meaning (fuse_count (of_blocks (blocks_for text))) text) ≡ refused number value
        → Whole number × Whole value
    go true f =
        let n : 7 ≡ number = cc in
        let v : most ≡ value = cc in
        (count_back number (omega arith), count_back value (omega arith))
    go false f =
        let s = values_small (fuse_count (of_blocks (blocks_for text))) (fuses_few text) text number value f in
        (count_back number (omega (arith, s.0.1)), count_back value (omega (arith, s.1)))
