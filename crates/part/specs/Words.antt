-- What a refusal prints: the words that `Display` writes for it, with what it returns besides in decimal digits.
-- Assumes nothing.
use Rattle.std.specs.Prelude.{ℕ, List, ◌++◌, codes, decimal}
use Rattle.part.specs.declared.Refusal.{Refusal}
use Rattle.part.specs.declared.Refusal.TheVariants.{UnknownDevice, WrongLength, NoSuchFuse, NoSuchSetting}
use Rattle.part.specs.declared.Refusal.TheVariants.{NoSuchValue, BitAboveWidth, BadForm, WrongFuseCount}
use Rattle.part.specs.declared.Refusal.TheVariants.{MisplacedFuseList, WrongFuseSum, WrongTransmissionSum}
use Rattle.part.specs.declared.Refusal.TheVariants.{BufferTooShort, FuseNotGiven}

abbrev pub refusal_text : Refusal → List ℕ
refusal_text UnknownDevice = codes "no device has this block count and class"
refusal_text WrongLength = codes "an image or a readout has not its exact length"
refusal_text NoSuchFuse = codes "the device has no such fuse, address or bit"
refusal_text NoSuchSetting = codes "the device has no such setting"
refusal_text NoSuchValue = codes "the setting has no such value"
refusal_text (BitAboveWidth index) = codes "readout byte " ++ (decimal index ++ codes " has a bit above its width")
refusal_text (BadForm at) = codes "the text is too long or of bad form at byte " ++ decimal at
refusal_text (WrongFuseCount at) = codes "QF is absent or not the fuse count of the device, at byte " ++ decimal at
refusal_text (MisplacedFuseList at) =
    codes "the L field at byte " ++ (decimal at ++ codes " overlaps another or runs past the fuse count")
refusal_text (WrongFuseSum at) = codes "C at byte " ++ (decimal at ++ codes " is not the fuse sum")
refusal_text (WrongTransmissionSum at) = codes "the transmission sum after byte " ++ (decimal at ++ codes " is wrong")
refusal_text (BufferTooShort needed) = codes "the text needs " ++ (decimal needed ++ codes " bytes")
refusal_text (FuseNotGiven fuse) = codes "the text has no F and does not give fuse " ++ decimal fuse
