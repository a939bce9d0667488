-- `address_of_fuse` meets its contract: the tests are the definition's, and a position has the address above its lowest three bits.
-- Assumes nothing.
use mathlib.Core.Path.{◌≡◌, ◌∙◌, ap}
use mathlib.Core.Bool.{true, false}
use Prim.Native.Nat.{ℕ, ◌+◌, ◌*◌, ◌-◌, ◌/◌, ◌%◌, ◌<◌, ◌≤◌}
use native.Mathlib.Nat.{mod-lt}
use native.Mathlib.Omega.{arith}
use lib.Arith.{digits_div, digits_mod}
use borrow.Author.Rules.{rules}
use borrow.Author.Tests.{lt-ltb, le-ltb}
use Rattle.part.specs.Outcome.{Outcome}
use Rattle.part.specs.Outcome.Outcome.{accepted, refused}
use Rattle.part.specs.Device.{known, main_fuses, subarea_fuses, block_fuses, fuse_count}
use Rattle.part.specs.Place.{place_in_block, place_of_fuse}
use Rattle.part.specs.declared.Device.{Device}
use Rattle.part.proofs.Facts.{compared}
use Rattle.part.proofs.Devices.{blocks_small}
use Rattle.part.proofs.Refused.{refused_with}
use Rattle.part.proofs.Fuses.{block_inside}
use Rattle.part.proofs.Portions.{block_small, fuse_small, before_fits, left_in_block}
use Rattle.addresses.specs.Address.{address_of_byte}
use Rattle.addresses.specs.Convert.{address_of_fuse}
use Rattle.addresses.proofs.Positions.{position, bit_small}
use Rattle.addresses.proofs.address_of_fuse.Goals as goal

-- What the code has found at each return, and the definition's answer.
no_device : (d : Device) (fuse : ℕ) → known d ≡ false → refused 1 0 ≡ address_of_fuse d fuse
unfolding address_of_fuse
no_device d fuse h = rw h

no_fuse_lem : (d : Device) (fuse : ℕ) → known d ≡ true → fuse_count d ≤ fuse → refused 3 0 ≡ address_of_fuse d fuse
unfolding address_of_fuse
no_fuse_lem d fuse k h = rw (k, le-ltb fuse (fuse_count d) h)

-- A fuse that the device has lies in a block of it, so a block past the last has none.
past_the_last : (d : Device) (fuse block n : ℕ) → known d ≡ true → n ≡ d.blocks → n ≤ block
    → (fuse < fuse_count d → block ≡ fuse / block_fuses d) → fuse_count d ≤ fuse
past_the_last d fuse block n k e h found =
    compared fuse (fuse_count d)
    (λ l. let outside : d.blocks ≤ fuse / block_fuses d = rw (← found l, ← e) h in absurd (omega (arith, block_inside d fuse l)))
    (λ g. g)

-- A block of the device has the fuse, and is its block.
module _ (d : Device) (fuse block n : ℕ) (e : n ≡ d.blocks) (h : block < n) (has : block < d.blocks → fuse < fuse_count d) where
  has_fuse : fuse < fuse_count d
  has_fuse = has (omega arith)

  the_block : (fuse < fuse_count d → block ≡ fuse / block_fuses d) → block ≡ fuse / block_fuses d
  the_block found = found has_fuse

-- What is left of the fuse in its block is small.
rest_small : (d : Device) (fuse before : ℕ) → known d ≡ true → fuse - before * subarea_fuses ≡ fuse % block_fuses d
    → fuse - before * subarea_fuses < main_fuses + 16 * subarea_fuses
rest_small d fuse before k e =
    let inside : fuse % block_fuses d < block_fuses d = mod-lt fuse (omega arith) in omega (arith, blocks_small d k)

the_address : (d : Device) (fuse block before p : ℕ) → known d ≡ true → fuse < fuse_count d → block ≡ fuse / block_fuses d
    → fuse - before * subarea_fuses ≡ fuse % block_fuses d → p ≡ position (place_in_block block (fuse - before * subarea_fuses))
    → ◌≡◌ {A = Outcome (ℕ × ℕ)} (accepted (p / 8, p % 8)) (address_of_fuse d fuse)
unfolding address_of_fuse place_of_fuse
the_address d fuse block before p k h e g f =
    let small = bit_small block (fuse - before * subarea_fuses) in
    let place = place_in_block block (fuse - before * subarea_fuses) in
    let address : p / 8 ≡ address_of_byte place.byte = ap (λ (x : ℕ). x / 8) f ∙ digits_div _ small in
    let bit : p % 8 ≡ place.bit = ap (λ (x : ℕ). x % 8) f ∙ digits_mod _ small in
    rw (k, lt-ltb fuse (fuse_count d) h, address, bit, e, g)

-- What is known where the block is one of the device: that it has the fuse, and that this is its block.
found : (d : Device) (fuse block n : ℕ) → n ≡ d.blocks → block < n
    → (fuse < fuse_count d → block ≡ fuse / block_fuses d) × (block < d.blocks → fuse < fuse_count d)
    → (fuse < fuse_count d) × (block ≡ fuse / block_fuses d)
found d fuse block n f h says = let has = has_fuse d fuse block n f h says.1 in (has, says.0 has)

pub returns-in_err-part : goal.returns-in_err-part
returns-in_err-part c = search (rules, refused_with, no_device)

pub returns-then-blocks-block : goal.returns-then-blocks-block
returns-then-blocks-block c = rw (← c.in_ok-part.ensures) (search (rules, no_fuse_lem, past_the_last))

pub portions_before-before-requires : goal.portions_before-before-requires
portions_before-before-requires c =
    let at = found _ _ _ _ c.blocks-2.ensures c.if-blocks-block.false c.block_of_fuse-block.ensures in search (rules, at, block_small)

pub position_of_fuse-position-requires : goal.position_of_fuse-position-requires
position_of_fuse-position-requires c =
    let at = found _ _ _ _ c.blocks-2.ensures c.if-blocks-block.false c.block_of_fuse-block.ensures in
    search (rules, at, block_small, fuse_small, before_fits, left_in_block, rest_small)

pub returns : goal.returns
returns c =
    let at = found _ _ _ _ c.blocks-2.ensures c.if-blocks-block.false c.block_of_fuse-block.ensures in
    rw (← c.in_ok-part.ensures) (search (rules, at, left_in_block, the_address))
