-- The form of a text, put together from fields and blanks, and the conditions for it to be accepted, refused 9 or 13.
-- The laws about them stand in proofs/Laws.antt: those that end in -iff, `finished_state` and `assembled_accepted`.
use Rattle.std.specs.Prelude.{ℕ, ◌+◌, ◌/◌, ◌^◌, ◌<◌, ◌≤◌, ◌≡◌, ◌⊎◌, Bool, true, false, not, ◌&&◌, List, [], ◌∷◌, ◌++◌, eqb, length, take, drop, get_or}
use Rattle.std.proofs.Math.Option.Option.{none, some}
use Rattle.image.specs.Image.{state, sum16}
use Rattle.jedec.specs.Characters.{stx, etx, star, is_blank, sum_in}
use Rattle.jedec.specs.Cut.{pieces, Field, starts_with, fields_from, holds_mark, tail_from}
use Rattle.jedec.specs.Cut.Tail.{given}
use Rattle.jedec.specs.Rules.{At, Listed, Given, nothing_given, all_fields, misplaced, start_state, finished}
use Rattle.jedec.specs.Rules.Fields.{all_good}
use Rattle.jedec.specs.Meaning.{longest}

-- Every byte passes a test.
unfoldable pub all : (ℕ → Bool) → List ℕ → Bool
all test [] = true
all test (b ∷ bytes) = test b && all test bytes

abbrev pub not_star : ℕ → Bool
not_star b = not (eqb b star)

-- A field with the blanks before it.
pub record SpacedField : Type 0 where
  pub blanks : List ℕ
  pub bytes : List ℕ

-- A field starts with neither a blank nor ETX.
abbrev pub starts : List ℕ → Bool
starts [] = true
starts (b ∷ bytes) = not (is_blank b) && not (eqb b etx)

pub record RightField (p : SpacedField) : Type 0 where
  pub blank : all is_blank p.blanks ≡ true
  pub no_star : all not_star p.bytes ≡ true
  pub begins : starts p.bytes ≡ true

abbrev pub RightFields : List SpacedField → Type 0
RightFields [] = Unit {0}
RightFields (p ∷ spaced) = RightField p × RightFields spaced

-- Such fields one after the other, each up to its `*`; the fields alone with their offsets; the offset after the last.
unfoldable pub spaced_text : List SpacedField → List ℕ
spaced_text [] = []
spaced_text (p ∷ spaced) = p.blanks ++ p.bytes ++ star ∷ spaced_text spaced

abbrev pub offset_after : ℕ → SpacedField → ℕ
offset_after at p = at + length (p.blanks ++ p.bytes) + 1

unfoldable pub fields_of : ℕ → List SpacedField → List Field
fields_of at [] = []
fields_of at (p ∷ spaced) =
    record { start = at + length p.blanks; bytes = p.bytes } ∷ fields_of (offset_after at p) spaced

unfoldable pub offset_after_all : ℕ → List SpacedField → ℕ
offset_after_all at [] = at
offset_after_all at (p ∷ spaced) = offset_after_all (offset_after at p) spaced

-- From STX to ETX: STX, design text, `*`, fields, blanks, ETX; then four hex digits and blanks.
abbrev pub head_of : (design : List ℕ) → List SpacedField → (gap : List ℕ) → List ℕ
head_of design spaced gap = (stx ∷ design) ++ (star ∷ (spaced_text spaced ++ gap)) ++ (etx ∷ [])

abbrev pub assembled : (design : List ℕ) → List SpacedField → (gap digits blanks : List ℕ) → List ℕ
assembled design spaced gap digits blanks = head_of design spaced gap ++ (digits ++ blanks)

-- What each of these may hold.
pub record RightForm (design : List ℕ) (spaced : List SpacedField) (gap digits blanks : List ℕ) (sum : ℕ) : Type 0 where
  pub design_no_star : all not_star design ≡ true
  pub design_no_mark : holds_mark design ≡ false
  pub right_fields : RightFields spaced
  pub blank_gap : all is_blank gap ≡ true
  pub hex_digits : sum_in digits ≡ some sum
  pub blank_tail : all is_blank blanks ≡ true

-- Where its fields start, and where its ETX stands.
abbrev pub first_at : (design : List ℕ) → ℕ
first_at design = length (stx ∷ design) + 1

abbrev pub etx_at : (design : List ℕ) → List SpacedField → (gap : List ℕ) → ℕ
etx_at design spaced gap = offset_after_all (first_at design) spaced + length gap

-- QF gives the count.
pub record Counted (fuses : ℕ) (k : Given) : Type 0 where
  pub count_field : At
  pub has_count : k.count ≡ some count_field
  pub right_count : count_field.value ≡ fuses

-- Something holds of some L.
abbrev pub Any : (Listed → Type 0) → List Listed → Type 0
Any P [] = ⊥
Any P (l ∷ lists) = P l ⊎ Any P lists

-- A fuse is one of those of an L: from its first on, as many as it has states.
abbrev pub Inside : (fuse : ℕ) → Listed → Type 0
Inside fuse l = (l.first ≤ fuse) × (fuse < l.first + length l.states)

-- Every fuse below a number is in some L.
abbrev pub AllGiven : (fuses : ℕ) → List Listed → Type 0
AllGiven fuses lists = (fuse : ℕ) → fuse < fuses → Any (Inside fuse) lists

-- What a text of good form needs to be accepted with an image: QF gives the count, no L is out of place, every fuse is
-- in some L unless there is an F, C gives the fuse sum of the image, and the transmission sum is 0000 or the sum of the
-- bytes from STX to ETX; `in_place` and `as_image` in plain terms are `InPlace` and `Described` below.
pub record Concluded (fuses : ℕ) (text image : List ℕ) (etxOffset sum : ℕ) (k : Given) : Type 0 where
  pub counted : Counted fuses k
  pub in_place : misplaced fuses 0 k.lists ≡ none
  pub all_given : k.start ≡ none → AllGiven fuses k.lists
  pub as_image : image ≡ finished fuses k
  pub right_sum : (c : At) → k.sum ≡ some c → c.value ≡ sum16 image
  pub right_transmission : (sum ≡ 0) ⊎ (sum ≡ sum16 (take (etxOffset + 1) text))

-- A text of good form, with what its fields give, where its ETX stands, and its transmission sum: it is not too long;
-- STX, a design text without STX and ETX, good fields in order, ETX, four hex digits and blanks.
pub record GoodForm (text : List ℕ) (gives : Given) (etxOffset sum : ℕ) : Type 0 where
  pub not_long : length text ≤ longest
  pub begins : starts_with stx text ≡ true
  pub design : List ℕ
  pub ended : List (List ℕ)
  pub text_pieces : (pieces text).ended ≡ design ∷ ended
  pub good_design : holds_mark (drop 1 design) ≡ false
  pub good_fields :
      all_fields nothing_given (fields_from (length design + 1) ended (pieces text).rest).fields ≡ all_good gives
  pub has_etx : (fields_from (length design + 1) ended (pieces text).rest).end ≡ some etxOffset
  pub good_tail : tail_from (etxOffset + 1) 4 0 (drop (etxOffset + 1) text) ≡ given sum

-- A text that is accepted, and its image: it is of good form, and meets the conditions above.
pub record Accepted (fuses : ℕ) (text image : List ℕ) : Type 0 where
  pub gives : Given
  pub etx_offset : ℕ
  pub sum : ℕ
  pub form : GoodForm text gives etx_offset sum
  pub concluded : Concluded fuses text image etx_offset sum gives

-- A text put together from a design text, fields and blanks, with what its fields give, where its ETX stands, and its
-- transmission sum: it is not too long, each part holds what it may, and its fields are good and in order.
pub record Assembled (text : List ℕ) (gives : Given) (etxOffset sum : ℕ) : Type 0 where
  pub not_long : length text ≤ longest
  pub design : List ℕ
  pub spaced : List SpacedField
  pub gap : List ℕ
  pub digits : List ℕ
  pub blanks : List ℕ
  pub right_form : RightForm design spaced gap digits blanks sum
  pub text_bytes_lem : text ≡ assembled design spaced gap digits blanks
  pub good_fields : all_fields nothing_given (fields_of (first_at design) spaced) ≡ all_good gives
  pub etx_place : etxOffset ≡ etx_at design spaced gap

-- An image of so many fuses: its bytes, and nothing past the last fuse.
pub record Image (fuses : ℕ) (image : List ℕ) : Type 0 where
  pub size : length image ≡ (fuses + 7) / 8
  pub bytes : (i : ℕ) → get_or image i 0 < 2 ^ 8
  pub no_more : (fuse : ℕ) → fuses ≤ fuse → state image fuse ≡ 0

-- Each L starts at or after the end of the L before it, the first at or after `end`, and ends at or before the count.
abbrev pub InPlace : (fuses end : ℕ) → List Listed → Type 0
InPlace fuses end [] = Unit {0}
InPlace fuses end (l ∷ lists) =
    (end ≤ l.first) × (l.first + length l.states ≤ fuses) × InPlace fuses (l.first + length l.states) lists

-- Where the last L ends; `end` if there is none.
unfoldable pub last_end : (end : ℕ) → List Listed → ℕ
last_end end [] = end
last_end end (l ∷ lists) = last_end (l.first + length l.states) lists

-- An L starts before an end, or ends past the count.
abbrev pub OutOfPlace : (fuses end : ℕ) → Listed → Type 0
OutOfPlace fuses end l = (l.first < end) ⊎ (fuses < l.first + length l.states)

-- The first L that is out of place, and where its field starts: every L before it is in place, and it starts before the
-- end of the L before it (if there is none before it, before `end`) or ends past the count.
pub record FirstMisplaced (fuses end : ℕ) (lists : List Listed) (at : ℕ) : Type 0 where
  pub before : List Listed
  pub found : Listed
  pub behind : List Listed
  pub all_lists : lists ≡ before ++ (found ∷ behind)
  pub before_in_place : InPlace fuses end before
  pub out_of_place : OutOfPlace fuses (last_end end before) found
  pub found_start : found.at ≡ at

-- A text of good form whose QF gives the count, and what holds of its fields.
pub record CountedText (fuses : ℕ) (text : List ℕ) (Holds : Given → Type 0) : Type 0 where
  pub gives : Given
  pub etx_offset : ℕ
  pub sum : ℕ
  pub form : GoodForm text gives etx_offset sum
  pub counted : Counted fuses gives
  pub holds : Holds gives

-- A text that is refused 9, and the refusal's value: it is of good form, QF gives the count, and the first L
-- that is out of place starts there.
abbrev pub Refused9 : (fuses : ℕ) → (text : List ℕ) → (at : ℕ) → Type 0
Refused9 fuses text at = CountedText fuses text (λ k. FirstMisplaced fuses 0 k.lists at)

-- Something holds of each L.
abbrev pub Each : (Listed → Type 0) → List Listed → Type 0
Each P [] = Unit {0}
Each P (l ∷ lists) = P l × Each P lists

-- A fuse is before the first or after the last of an L.
abbrev pub Outside : (fuse : ℕ) → Listed → Type 0
Outside fuse l = (fuse < l.first) ⊎ (l.first + length l.states ≤ fuse)

-- The first fuse that no L gives: it is in none, and every lower one is in some.
pub record FirstNotGiven (lists : List Listed) (fuse : ℕ) : Type 0 where
  pub in_none : Each (Outside fuse) lists
  pub lower_given : AllGiven fuse lists

-- The fields lack a fuse: no L is out of place, there is no F, and the fuse is below the count and the first that no L
-- gives.
pub record LacksFuse (fuses fuse : ℕ) (k : Given) : Type 0 where
  pub in_place : InPlace fuses 0 k.lists
  pub no_start : k.start ≡ none
  pub below : fuse < fuses
  pub first_not_given_lem : FirstNotGiven k.lists fuse

-- A text that is refused 13, and the refusal's value: it is of good form, QF gives the count, and its fields lack that
-- fuse.
abbrev pub Refused13 : (fuses : ℕ) → (text : List ℕ) → (fuse : ℕ) → Type 0
Refused13 fuses text fuse = CountedText fuses text (LacksFuse fuses fuse)

-- The fuses from the first of an L on have its states, one after the other.
abbrev pub Gives : (state_of : ℕ → ℕ) → Listed → Type 0
Gives state_of l = (i : ℕ) → i < length l.states → state_of (l.first + i) ≡ get_or l.states i 0

-- The image that fields describe: each L gives its fuses their states, and every other fuse has the start state.
pub record Described (fuses : ℕ) (k : Given) (image : List ℕ) : Type 0 where
  pub is_image : Image fuses image
  pub listed : Each (Gives (state image)) k.lists
  pub others : (fuse : ℕ) → fuse < fuses → Each (Outside fuse) k.lists → state image fuse ≡ start_state k.start
