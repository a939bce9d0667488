-- The bytes of a text between quotes.
-- Each character here has a code below 128, which is its byte.
use Rattle.std.specs.Prelude.{List, [] as empty, ◌∷◌ as ◌then◌, ℕ}
use Prim.Native.Char.{code}
use Prim.Native.String.{String, [], ◌∷◌}

abbrev pub chars : String → List ℕ
chars [] = empty
chars (c ∷ s) = code c then chars s
