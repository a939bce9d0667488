-- What a pattern without a name prints: the words that `Display` writes for it, with the pattern in decimal digits.
-- Assumes nothing.
use Rattle.std.specs.Prelude.{List, ℕ, ◌++◌, codes, decimal}
use Rattle.values.specs.declared.NoName.{NoName}

abbrev pub no_name_text : NoName → List ℕ
no_name_text n = codes "the pattern " ++ (decimal n.0 ++ codes " has no name in its list")
