-- What the answers about fields by position say, in the terms of crate `jedec`.
-- An L field is told by its bytes, and where the next field stands by the text.
use Rattle.std.specs.Prelude.{ℕ, suc, ◌+◌, ◌-◌, ◌≤◌, ◌<◌, ◌≡◌, false, cond, List, [], ◌∷◌, eqb, length, take, drop}
use Rattle.std.specs.Prelude as code
use Rattle.std.proofs.Math.Option.{Option}
use Rattle.std.proofs.Math.Option.Option.{none, some}
use Rattle.jedec.specs.Characters.{star}
use Rattle.jedec.specs.Cut.{pieces, Cut, fields_from, holds_mark}
use Rattle.jedec.specs.Judge.{states_in, list_in, judge}
use Rattle.jedec.specs.Judge.Judged.{bad}
use Rattle.jedec_judge.specs.Judged.{states_of, states_in_word, AsBits, Says}
use Rattle.jedec_judge.specs.declared.FieldSays.TheVariants as says
use Rattle.jedec_fields.specs.declared.lists.StatesRun.{StatesRun}
use Rattle.jedec_fields.specs.declared.lists.ListField.{ListField}
use Rattle.jedec_fields.specs.declared.NextSays.{NextSays}
use Rattle.jedec_fields.specs.declared.NextSays.TheVariants as next

-- How many states there are, if there are any.
abbrev pub states_count : Option (List ℕ) → Option ℕ
states_count none = none
states_count (some states) = some (length states)

-- The first bytes that are 0, 1 and blanks write so many states, and few are told as bits; with the byte after them, if
-- there is one, they write none.
pub record RunStands (bytes : List ℕ) (r : StatesRun) : Type 0 where
  pub inside : r.length ≤ length bytes
  pub few : r.count ≤ r.length
  pub writes : states_count (states_in (take r.length bytes)) ≡ some r.count
  pub stops : r.length < length bytes → states_in (take (suc r.length) bytes) ≡ none
  pub told : r.count ≤ states_in_word → AsBits (states_of (take r.length bytes)) r.count r.bits

-- How many bytes stand before the first `*`, or all.
unfoldable pub until_star : List ℕ → ℕ
until_star [] = 0
until_star (b ∷ bytes) = cond (eqb b star) 0 (suc (until_star bytes))

-- The fields of some bytes that stand at an offset of the text.
unfoldable pub fields_at : (at : ℕ) → List ℕ → Cut
fields_at at bytes = fields_from at (pieces bytes).ended (pieces bytes).rest

-- A good L field, by what follows the L.
pub record ListAt (after : List ℕ) (l : ListField) : Type 0 where
  pub inside : l.length < length after
  pub until : until_star after ≡ l.length
  pub unmarked : holds_mark (take l.length after) ≡ false
  pub says : Says (take l.length after) (list_in (take l.length after)) (says.List l.says)

-- Any other: what stands before the `*`, if there is one, is bad.
pub record NoList (after : List ℕ) : Type 0 where
  pub is_bad : until_star after < length after → list_in (take (until_star after) after) ≡ bad

-- What an answer about an L field says.
abbrev pub ListStands : (after : List ℕ) → code.Option ListField → Type 0
ListStands after (code.Some l) = ListAt after l
ListStands after code.None = NoList after

-- The fields of a text from an offset on, by what stands next; none where the text ends early.
abbrev pub cut_of : (text : List ℕ) → code.Option NextSays → Cut
cut_of text (code.Some (next.Field from to fs)) =
    record {
      fields =
          (record { start = from; bytes = take (to - from) (drop from text) })
          ∷ (fields_at (to + 1) (drop (to + 1) text)).fields;
      end = (fields_at (to + 1) (drop (to + 1) text)).end;
    }
cut_of text (code.Some (next.End etx)) = record { fields = []; end = some etx }
cut_of text code.None = record { fields = []; end = none }

-- The offsets that an answer speaks of are in the text.
abbrev pub Inside : (text : List ℕ) → (at : ℕ) → code.Option NextSays → Type 0
Inside text at (code.Some (next.Field from to fs)) = (at ≤ from) × (from ≤ to) × (to < length text)
Inside text at (code.Some (next.End etx)) = etx < length text
Inside text at code.None = Unit {0}

-- A field says what it is judged to say.
abbrev pub SaysThere : (text : List ℕ) → code.Option NextSays → Type 0
SaysThere text (code.Some (next.Field from to fs)) =
    Says (drop 1 (take (to - from) (drop from text))) (judge (take (to - from) (drop from text))) fs
SaysThere text (code.Some (next.End etx)) = Unit {0}
SaysThere text code.None = Unit {0}

-- An answer says what stands next.
pub record Stands (text : List ℕ) (at : ℕ) (r : code.Option NextSays) : Type 0 where
  pub cut : cut_of text r ≡ fields_at at (drop at text)
  pub inside : Inside text at r
  pub judged : SaysThere text r
