-- Document 01's table of sizes, with what it is for a row to hold.
-- Two devices that are none, and the one of the bench cases.
use Rattle.std.specs.Prelude.{◌≡◌, true, ℕ}
use Rattle.part.specs.Outcome.Outcome.{accepted, refused}
use Rattle.part.specs.Device.{is_class}
use Rattle.part.specs.Sizes.{sizes_of}
use Rattle.part.specs.declared.Device.{Device}

-- n, fuses, image bytes, readout bytes, and the bytes of the text, which document 01 gives for 2
-- and 16 blocks; in either class.
abbrev pub Row : ℕ → ℕ → ℕ → ℕ → ℕ → Type 0
Row n fuses image readout text =
    (class : ℕ) → is_class class ≡ true
    → sizes_of (record { blocks = n; class = class })
    ≡ accepted (record { fuses = fuses; image_bytes = image; readout_bytes = readout; text_bytes = text })

abbrev pub TableOfSizes : Type 0
TableOfSizes =
    Row 2 18144 2268 2520 25732
    × Row 4 41472 5184 5760 58780
    × Row 6 69984 8748 9720 99172
    × Row 8 103680 12960 14400 146909
    × Row 12 186624 23328 25920 264413
    × Row 16 290304 36288 40320 411293

-- A block count and a class that no device has.
abbrev pub NoDevices : Type 0
NoDevices =
    (sizes_of (record { blocks = 10; class = 0 }) ≡ refused 1 0)
    × (sizes_of (record { blocks = 2; class = 2 }) ≡ refused 1 0)

-- The device of document 01's bench cases: two blocks of the small class.
abbrev pub two_small : Device
two_small = record { blocks = 2; class = 0 }
