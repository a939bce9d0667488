-- Portions: a block is whole ones, so what is left of a fuse in its block is what the portions before the block leave.
-- Assumes nothing.
use mathlib.Core.Path.{◌≡◌, ◌∙◌, ap}
use mathlib.Core.Bool.{true}
use Prim.Native.Nat.{ℕ, ◌*◌, ◌-◌, ◌/◌, ◌%◌, ◌^◌, ◌≤◌, ◌<◌}
use native.Mathlib.Omega.{arith}
use native.Mathlib.Nat.{mul_assoc, mul-le-mul, le_of_lt}
use Rattle.part.specs.Device.{known, in_block, block_fuses, main_fuses, subarea_fuses, fuse_count}
use Rattle.part.specs.declared.Device.{Device}
use Rattle.part.proofs.Fuses.{block_inside}
use Rattle.part.proofs.Devices.{blocks_small, in_block_small, fuses_small, times_fits, left_over}

-- The portions of the blocks before a block have their fuses, and are few.
module _ (d : Device) (block each r : ℕ) (e : each ≡ in_block d 12 1) where
  pub portions_whole : r ≡ block * each → r * subarea_fuses ≡ block * block_fuses d
  portions_whole h =
      let fuses : each * 648 ≡ block_fuses d = omega arith in
      ap (λ (x : ℕ). x * 648) h ∙ mul_assoc block each 648 ∙ ap (λ (x : ℕ). block * x) fuses

  pub portions_small : known d ≡ true → block < 16 → block * each < 2 ^ 32
  portions_small k l = rw e (omega (arith, mul-le-mul (le_of_lt l) (in_block_small d 12 1 k)))

-- A fuse, its block, and the portions before the block.
module _ (d : Device) (f block before : ℕ) (e : block ≡ f / block_fuses d) (g : before * subarea_fuses ≡ block * block_fuses d) where
  pub before_fits : before * subarea_fuses ≤ f
  before_fits = rw g (times_fits f block (block_fuses d) e)

  pub left_in_block : f - before * subarea_fuses ≡ f % block_fuses d
  left_in_block = rw g (left_over f block (block_fuses d) e)

-- A fuse of the device and its block are small.
pub block_small : (d : Device) (f block : ℕ) → known d ≡ true → f < fuse_count d → block ≡ f / block_fuses d → block < 16
block_small d f block k l e = omega (arith, block_inside d f l, blocks_small d k)

pub fuse_small : (d : Device) (f : ℕ) → known d ≡ true → f < fuse_count d → f < 2 ^ 19
fuse_small d f k l = omega (arith, fuses_small d k)

-- What is left behind the main area of a block, and the portion that is the subarea.
module _ (f before past : ℕ) (h : main_fuses ≤ f - before * subarea_fuses) (e : past ≡ f - before * subarea_fuses - main_fuses) where
  pub in_portion : past % subarea_fuses ≡ f % subarea_fuses
  in_portion = omega arith

  pub subarea_of : (portion : ℕ) → portion ≡ f / subarea_fuses → past / subarea_fuses ≡ portion - before - 12
  subarea_of portion g = omega arith

-- A fuse lies in the main area exactly if its portion is one of the first twelve of its block.
module _ (f before portion : ℕ) (h : before * subarea_fuses ≤ f) (e : portion ≡ f / subarea_fuses) where
  pub portion_fits : before ≤ portion
  portion_fits = omega arith

  pub in_main_area : portion - before < 12 → f - before * subarea_fuses < main_fuses
  in_main_area l = omega arith

  pub behind_main_area : 12 ≤ portion - before → main_fuses ≤ f - before * subarea_fuses
  behind_main_area l = omega arith
