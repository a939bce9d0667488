-- What the proofs of a name work with: a few bytes as one word, a name made of five such pieces, and its bit.
-- Assumes nothing.
use Rattle.std.specs.Prelude.{ℕ, ◌*◌, ◌^◌, ◌≤◌, ◌<◌, ◌≡◌, List, [], ◌∷◌, ◌++◌, replicate}
use Rattle.cells.specs.Cells.{cut}
use Rattle.names.specs.declared.pieces.Piece.{Piece}
use Rattle.names.specs.declared.pieces.Words.{Words}
use Rattle.names.specs.declared.pieces.BitName.{BitName}

-- The bytes of a piece.
abbrev pub text_of : Piece → List ℕ
text_of p = cut (replicate p.len 8) p.word

-- The word of a piece holds no other bytes.
abbrev pub Alone : Piece → Type 0
Alone p = p.word < 2 ^ (p.len * 8)

-- A piece of these bytes: they are at most eight, and the word holds no other.
pub record Holds (p : Piece) (text : List ℕ) : Type 0 where
  pub few : p.len ≤ 8
  pub alone : Alone p
  pub text_is : text_of p ≡ text

-- Words of these bytes.
pub record SpellsWords (w : Words) (text : List ℕ) : Type 0 where
  pub one_few : w.one.len ≤ 8
  pub two_few : w.two.len ≤ 8
  pub three_few : w.three.len ≤ 8
  pub text_is : text_of w.one ++ text_of w.two ++ text_of w.three ≡ text

-- Pieces one after another, each of at most eight bytes: a name of these bytes.
abbrev pub name_text : List Piece → List ℕ
name_text [] = []
name_text (p ∷ pieces) = text_of p ++ name_text pieces

abbrev pub AllFew : List Piece → Type 0
AllFew [] = Unit {0}
AllFew (p ∷ pieces) = (p.len ≤ 8) × AllFew pieces

pub record Spells (pieces : List Piece) (text : List ℕ) : Type 0 where
  pub few : AllFew pieces
  pub text_is : name_text pieces ≡ text

-- A name and a bit of these bytes.
pub record SpellsBit (n : BitName) (text : List ℕ) : Type 0 where
  pub few : AllFew n.name
  pub bit_few : n.bit.len ≤ 3
  pub bit_alone : Alone n.bit
  pub text_is : name_text n.name ++ text_of n.bit ≡ text
