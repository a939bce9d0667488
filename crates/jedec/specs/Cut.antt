-- How a text is cut: "The text is STX; design text up to `*`; fields, each up to `*`; ETX; four hex digits; then only
-- blanks, which may also stand between fields." What the fields hold is not looked at here.
use Rattle.std.specs.Prelude.{ℕ, zero, suc, ◌+◌, ◌*◌, Bool, false, cond, ◌||◌, List, [], ◌∷◌, eqb, length, drop}
use Rattle.std.proofs.Math.Option.{Option}
use Rattle.std.proofs.Math.Option.Option.{none, some}
use Rattle.jedec.specs.Characters.{etx, star, is_blank, is_mark, hex_value}

-- A text cut at each `*`: the pieces that end with one, and what stands after the last.
pub record Pieces : Type 0 where
  pub ended : List (List ℕ)
  pub rest : List ℕ

-- A byte put before the first piece.
abbrev pub on_first : ℕ → List (List ℕ) → List ℕ → Pieces
on_first b [] rest = record { ended = []; rest = b ∷ rest }
on_first b (p ∷ ps) rest = record { ended = (b ∷ p) ∷ ps; rest = rest }

unfoldable pub pieces : List ℕ → Pieces
pieces [] = record { ended = []; rest = [] }
pieces (b ∷ bytes) =
    let after = pieces bytes in
    cond (eqb b star) (record { ended = [] ∷ after.ended; rest = after.rest })
    (on_first b after.ended after.rest)

-- How many blanks stand before the first other byte.
unfoldable pub blanks_before : List ℕ → ℕ
blanks_before [] = 0
blanks_before (b ∷ bytes) = cond (is_blank b) (suc (blanks_before bytes)) 0

-- A field starts at its first non-blank byte.
pub record Field : Type 0 where
  pub start : ℕ
  pub bytes : List ℕ

-- The fields, and where the ETX after the last of them stands; none if the text ends before it.
pub record Cut : Type 0 where
  pub fields : List Field
  pub end : Option ℕ

abbrev pub starts_with : ℕ → List ℕ → Bool
starts_with b [] = false
starts_with b (c ∷ bytes) = eqb c b

-- The piece at an offset of the text: the ETX after the fields, or else.
abbrev pub or_end : ℕ → List ℕ → Cut → Cut
or_end at piece other =
    cond (starts_with etx (drop (blanks_before piece) piece))
    (record { fields = []; end = some (at + blanks_before piece) }) other

abbrev pub with_field : ℕ → List ℕ → Cut → Cut
with_field at piece others =
    record {
      fields = (record { start = at + blanks_before piece; bytes = drop (blanks_before piece) piece }) ∷ others.fields;
      end = others.end;
    }

-- The fields among the pieces, of which the first stands at an offset of the text.
unfoldable pub fields_from : ℕ → (ended : List (List ℕ)) → (rest : List ℕ) → Cut
fields_from at [] rest = or_end at rest (record { fields = []; end = none })
fields_from at (p ∷ ps) rest = or_end at p (with_field at p (fields_from (at + length p + 1) ps rest))

-- Whether some bytes hold STX or ETX.
unfoldable pub holds_mark : List ℕ → Bool
holds_mark [] = false
holds_mark (b ∷ bytes) = is_mark b || holds_mark bytes

-- After ETX: four hex digits and then only blanks give a sum; else the first wrong byte, or
-- the end of a text that ends early.
pub data Tail : Type 0 where
  given : (sum : ℕ) → Tail
  wrong : (at : ℕ) → Tail

abbrev pub digit_or : Tail → Option ℕ → (ℕ → Tail) → Tail
digit_or other none next = other
digit_or other (some x) next = next x

unfoldable pub tail_from : (at digits sum : ℕ) → List ℕ → Tail
tail_from at zero sum [] = given sum
tail_from at zero sum (b ∷ bytes) = cond (is_blank b) (tail_from (at + 1) zero sum bytes) (wrong at)
tail_from at (suc digits) sum [] = wrong at
tail_from at (suc digits) sum (b ∷ bytes) =
    digit_or (wrong at) (hex_value b) (λ x. tail_from (at + 1) digits (sum * 16 + x) bytes)
