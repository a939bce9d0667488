-- The text of a line and how many bytes it has: in pieces, by the old state alone, and as the definition has it.
-- Assumes nothing.
use mathlib.Core.Path.{◌≡◌, refl, sym, ◌∙◌, ap, ap₂}
use mathlib.Core.Bool.{Bool, true, false, cond}
use mathlib.Core.List.{List, [], ◌∷◌, ◌++◌, append_assoc}
use Prim.Native.Nat.{ℕ, zero, suc, ◌+◌, ◌*◌, ◌-◌, ◌/◌, ◌%◌, ◌^◌, ◌≤◌, ◌<◌}
use native.Mathlib.Omega.{arith}
use lib.Bits.{bit_and, and_le_l}
use lib.Count.{count_trailing_zeros, trailing_le}
use lib.Dec.{eqb}
use lib.ListN.{length, take, length-append}
use borrow.Author.Tests.{eqb-false}
use Rattle.cells.specs.Cells.{cut}
use Rattle.part.specs.Device.{known, fuse_count, decimal_digits}
use Rattle.part.specs.declared.Device.{Device}
use Rattle.part.proofs.Devices.{fuses_small}
use Rattle.image.specs.Image.{state}
use Rattle.image.proofs.Counts.{state_bit}
use Rattle.jedec.specs.Characters.{lf, space, decimal_digit, count_digits}
use Rattle.jedec.proofs.Numbers.{digits_length}
use Rattle.jedec.specs.Quoted.{chars}
use Rattle.report_lines.specs.Put.{Put}
use Rattle.names.specs.Names.{name_at}
use Rattle.names.specs.Pieces.{text_of, name_text, Holds, SpellsBit}
use Rattle.names.specs.declared.pieces.Piece.{Piece}
use Rattle.names.specs.declared.pieces.BitName.{BitName}
use Rattle.names.proofs.AtFuse.{held_length, text_length}
use Rattle.names.proofs.WordBytes.{few_count}
use Rattle.differences.specs.Differences.{differing, line_of, lines_of, first_line}
use Rattle.differences.specs.Scan.{ones_from, AllBelow, line_bytes, lines_bytes, line_with, lines_with, Laid, SpellsLine}
use Rattle.differences.proofs.Ones.{first_one, no_ones, ones_most, ones_below}
use Rattle.differences.proofs.LaidText.{then, put_laid, Going, going_fits}

-- The two states of a line.
pub states_held : (old : ℕ) → old < 2
    → Holds (record { word = 0x31203020 + old * 0x100 - old * 0x1000000; len = 4 })
    (space ∷ decimal_digit old ∷ space ∷ decimal_digit (1 - old) ∷ [])
unfolding cut
states_held zero h = record { few = omega arith; alone = omega arith; text_is = refl }
states_held (suc zero) h = record { few = omega arith; alone = omega arith; text_is = refl }
states_held (suc (suc old)) h = absurd (omega arith)

-- A fuse of a known device has at most six digits.
pub fuse_small : (d : Device) (fuse : ℕ) → known d ≡ true → fuse < fuse_count d → fuse < 1000000
fuse_small d fuse k h = omega (arith, fuses_small d k)

-- The end of a line: the bit, and LF.
pub end_fits : (n : BitName) (text : List ℕ) → SpellsBit n text → n.bit.len + 1 ≤ 8
end_fits n text h = omega (arith, h.bit_few)

-- The pieces of a line.
pub line_spelled : (d : Device) (fuse old : ℕ) (number states end : Piece) (n : BitName) → Holds number (count_digits fuse)
    → Holds states (space ∷ decimal_digit old ∷ space ∷ decimal_digit (1 - old) ∷ []) → SpellsBit n (space ∷ name_at d fuse)
    → Holds end (text_of n.bit ++ text_of (record { word = 10; len = 1 }))
    → SpellsLine (record { number = number; states = states; name = n.name; end = end }) (line_with d fuse old)
unfolding cut
line_spelled d fuse old number states end n hn hs hb he =
    let apart : (u v w x y : List ℕ) → u ++ v ++ w ++ (x ++ y) ≡ u ++ (v ++ ((w ++ x) ++ y)) = λ u v w x y. simp append_assoc in
    record {
      number_few = hn.few;
      states_few = hs.few;
      name_few = hb.few;
      end_few = he.few;
      text_is =
          ap (λ (l : List ℕ). text_of number ++ text_of states ++ name_text n.name ++ l) he.text_is
          ∙ apart (text_of number) (text_of states) (name_text n.name) (text_of n.bit) (lf ∷ [])
          ∙ ap₂ ◌++◌ hn.text_is (ap₂ ◌++◌ hs.text_is (ap (λ (l : List ℕ). l ++ lf ∷ []) hb.text_is));
    }

-- How many bytes a line has.
pub line_counted : (d : Device) (fuse digits bytes : ℕ) (n : BitName) → digits ≡ decimal_digits fuse
    → SpellsBit n (space ∷ name_at d fuse) → bytes ≡ length (name_text n.name)
    → digits + 4 + (bytes + n.bit.len) + 1 ≡ line_bytes d fuse
unfolding line_bytes
line_counted d fuse digits bytes n e h f =
    let long : length (name_text n.name) + n.bit.len ≡ 1 + length (name_at d fuse) =
    ap (λ (k : ℕ). length (name_text n.name) + k) (sym (text_length n.bit)) ∙ sym (length-append (name_text n.name) (text_of n.bit))
    ∙ ap length h.text_is ∙ omega arith in
    rw (digits_length 10 decimal_digit (decimal_digits fuse) fuse, ← e, ← long, ← f)

pub line_short : (d : Device) (fuse digits bytes : ℕ) (n : BitName) → known d ≡ true → fuse < fuse_count d → digits ≡ decimal_digits fuse
    → SpellsBit n (space ∷ name_at d fuse) → bytes ≤ 40 → digits + 4 + (bytes + n.bit.len) + 1 ≤ 64
line_short d fuse digits bytes n k l e h few = omega (arith, few_count fuse digits e (fuse_small d fuse k l), h.bit_few)

pub line_length : (d : Device) (fuse old : ℕ) → length (line_with d fuse old) ≡ line_bytes d fuse
unfolding line_bytes
line_length d fuse old = simp length-append (omega arith)

pub lines_length : (d : Device) (from states : ℕ) (fuses : List ℕ) → length (lines_with d from states fuses) ≡ lines_bytes d fuses
unfolding lines_with lines_bytes
lines_length d from states [] = refl
lines_length d from states (fuse ∷ fuses) =
    length-append (line_with d fuse (states / 2 ^ (fuse - from) % 2)) (lines_with d from states fuses)
    ∙ ap₂ ◌+◌ (line_length d fuse (states / 2 ^ (fuse - from) % 2)) (lines_length d from states fuses)

pub lines_count : (d : Device) (old new fuses : List ℕ) → length (lines_of d old new fuses) ≡ lines_bytes d fuses
unfolding lines_of line_of lines_bytes line_bytes
lines_count d old new [] = refl
lines_count d old new (fuse ∷ fuses) = simp (length-append, lines_count d old new fuses) (omega arith)

pub bytes_append : (d : Device) (xs ys : List ℕ) → lines_bytes d (xs ++ ys) ≡ lines_bytes d xs + lines_bytes d ys
unfolding lines_bytes
bytes_append d [] ys = omega arith
bytes_append d (x ∷ xs) ys = ap (λ (n : ℕ). line_bytes d x + n) (bytes_append d xs ys) ∙ omega arith

pub lines_append : (d : Device) (old new xs ys : List ℕ) → lines_of d old new (xs ++ ys) ≡ lines_of d old new xs ++ lines_of d old new ys
unfolding lines_of
lines_append d old new [] ys = refl
lines_append d old new (x ∷ xs) ys =
    ap (λ (l : List ℕ). line_of d old new x ++ l) (lines_append d old new xs ys)
    ∙ sym (append_assoc (line_of d old new x) (lines_of d old new xs) (lines_of d old new ys))

-- Of a fuse that differs the new state is the other one.
line_same : (d : Device) (old new : List ℕ) (fuse : ℕ) → eqb (state old fuse) (state new fuse) ≡ false
    → line_with d fuse (state old fuse) ≡ line_of d old new fuse
unfolding line_of
line_same d old new fuse e =
    let other : state old fuse ≡ state new fuse → ⊥ = eqb-false _ _ e in
    let flipped : 1 - state old fuse ≡ state new fuse = omega (arith, state_bit old fuse, state_bit new fuse) in
    rw (flipped, append_assoc)

-- The lines by the bits of a word are those of the definition.
pub lines_same : (d : Device) (old new : List ℕ) (base states : ℕ)
    → ((j : ℕ) → j < 64 → states / 2 ^ j % 2 ≡ state old (base + j)) → (count from : ℕ) → base ≤ from → from + count ≤ base + 64
    → lines_with d base states (differing old new from count) ≡ lines_of d old new (differing old new from count)
unfolding lines_with lines_of differing
lines_same d old new base states has zero from h g = refl
lines_same d old new base states has (suc count) from h g =
    go (eqb (state old from) (state new from)) refl (lines_same d old new base states has count (from + 1) (omega arith) (omega arith))
  where
    back : base + (from - base) ≡ from
    back = omega arith

    bit : states / 2 ^ (from - base) % 2 ≡ state old from
    bit = has (from - base) (omega arith) ∙ ap (state old) back

    go : (t : Bool) → eqb (state old from) (state new from) ≡ t
        → lines_with d base states (differing old new (from + 1) count) ≡ lines_of d old new (differing old new (from + 1) count)
        → lines_with d base states (cond t (differing old new (from + 1) count) (from ∷ differing old new (from + 1) count))
        ≡ lines_of d old new (cond t (differing old new (from + 1) count) (from ∷ differing old new (from + 1) count))
    go true e rest = rest
    go false e rest = ap₂ ◌++◌ (ap (line_with d from) bit ∙ line_same d old new from e) rest

-- The first line: its digits, and eight bytes.
pub first_counted : (x digits : ℕ) → digits ≡ decimal_digits x → digits + 8 ≡ length (first_line x)
first_counted x digits e =
    sym (simp (length-append, digits_length 10 decimal_digit (decimal_digits x) x) (rw (← e) (omega arith)))

pub first_short : (x digits : ℕ) → x < 1000000 → digits ≡ decimal_digits x → digits + 8 ≤ 14
first_short x digits h e = omega (arith, few_count x digits e h)

pub piece_counted : (x : ℕ) (p : Piece) → Holds p (count_digits x) → p.len + 8 ≡ length (first_line x)
piece_counted x p h =
    first_counted x p.len (held_length p (count_digits x) h ∙ digits_length 10 decimal_digit (decimal_digits x) x)

pub first_room : (x n : ℕ) → length (first_line x) ≤ n → 8 ≤ n
first_room x n h = omega (arith, first_counted x (decimal_digits x) refl)

pub second_room : (x behind until : ℕ) (p : Piece) (o a text : List ℕ) → Holds p (count_digits x) → Laid o a 0 until text behind
    → behind ≡ 0 + p.len → length (first_line x) ≤ length o → behind + 8 ≤ length a
second_room x behind until p o a text h l e g = omega (arith, piece_counted x p h, l.long)

pub first_laid : (x : ℕ) (p : Piece) (o a b : List ℕ) (behind end : ℕ) → Holds p (count_digits x)
    → Laid o a 0 (0 + 8) (text_of p) behind → behind ≡ 0 + p.len
    → Laid a b behind (behind + 8) (text_of (record { word = 0x0A72656666696420; len = 8 })) end
    → Laid o b 0 (length (first_line x)) (first_line x) end
unfolding cut
first_laid x p o a b behind end h l e m =
    let long = piece_counted x p h in
    let both = then o a b _ _ 0 behind end _ _ (length (first_line x)) l m (omega arith) (omega arith) in
    let text : text_of p ++ (chars " differ" ++ lf ∷ []) ≡ first_line x =
    ap (λ (t : List ℕ). t ++ (chars " differ" ++ lf ∷ [])) h.text_is ∙ sym (append_assoc (count_digits x) (chars " differ") (lf ∷ [])) in
    rw text at both

-- A line that is made in 64 bytes of its own: those bytes of it that are the line.
module _ (d : Device) (fuse old n : ℕ) (blank line : List ℕ) (l : Laid blank line 0 (0 + 64) (line_with d fuse old) n) where
  pub part_is : take n line ≡ line_with d fuse old
  part_is = l.holds

  pub part_counts : n ≡ length (take n line)
  part_counts = l.ends ∙ rw part_is (omega arith)

  pub part_fits : (at room : ℕ) → at + line_bytes d fuse ≤ room → at + length (take n line) ≤ room
  part_fits at room h = rw (part_is, line_length d fuse old) h

  pub part_laid : (before after : List ℕ) (at end : ℕ) → at + line_bytes d fuse ≤ length before → Put before after at (take n line) end
      → Laid before after at (at + line_bytes d fuse) (line_with d fuse old) end
  part_laid before after at end h p =
      let same = line_length d fuse old in
      let q = put_laid before after (line_with d fuse old) at end (rw same h) (rw part_is at p) in
      rw same at q

-- A turn of the walk over the ones of a word: the line of the first of them, and the rest.
module _ (from left : ℕ) (some : left ≡ 0 → ⊥) (word : left < 2 ^ 64) where
  turn : ones_from from left 64 ≡ (from + count_trailing_zeros 64 left) ∷ ones_from from (bit_and left (left - 1)) 64
  turn = first_one 64 from left (omega arith) word

  pub first_below : (n : ℕ) → AllBelow n (ones_from from left 64) → from + count_trailing_zeros 64 left < n
  first_below n h = (rw turn at h).0

  pub bit_below : count_trailing_zeros 64 left < 64
  bit_below = omega (arith, trailing_le 64 left, not_all)
    where
      not_all : count_trailing_zeros 64 left ≡ 64 → ⊥
      not_all e = omega (arith, first_below (from + 64) (ones_below 64 from left))

  module _ (rest : ℕ) (without : rest ≡ bit_and left (left - 1)) where
    next : ones_from from left 64 ≡ (from + count_trailing_zeros 64 left) ∷ ones_from from rest 64
    next = rw without turn

    pub rest_word : rest < 2 ^ 64
    rest_word = rw without (omega (arith, and_le_l left (left - 1)))

    pub rest_below : (n : ℕ) → AllBelow n (ones_from from left 64) → AllBelow n (ones_from from rest 64)
    rest_below n h = (rw next at h).1

    pub ones_fall : length (ones_from from rest 64) < length (ones_from from left 64)
    ones_fall = rw next (omega arith)

    pub room_on : (bytes line most : ℕ) → bytes + 64 * length (ones_from from left 64) ≤ most → line ≤ 64
        → bytes + line + 64 * length (ones_from from rest 64) ≤ most
    room_on bytes line most h l = omega (arith, ap length next, h)

    pub bytes_on : (d : Device) (bytes line all : ℕ) → bytes + lines_bytes d (ones_from from left 64) ≡ all
        → line ≡ line_bytes d (from + count_trailing_zeros 64 left) → bytes + line + lines_bytes d (ones_from from rest 64) ≡ all
    unfolding lines_bytes
    bytes_on d bytes line all h e = let f = rw next at h in omega (arith, e, f)

pub bytes_end : (d : Device) (from left bytes all : ℕ) → bytes + lines_bytes d (ones_from from left 64) ≡ all → left ≡ 0 → bytes ≡ all
unfolding lines_bytes
bytes_end d from left bytes all h e = let f = rw (e, no_ones from 64) at h in omega arith

pub ones_few : (from x : ℕ) → 64 * length (ones_from from x 64) ≤ 4096
ones_few from x = omega (arith, ones_most 64 from x)

-- The same turn with text: what is put, and the lines that are to come.
module _ (d : Device) (from states left : ℕ) (some : left ≡ 0 → ⊥) (word : left < 2 ^ 64) where
  back : from + count_trailing_zeros 64 left - from ≡ count_trailing_zeros 64 left
  back = omega arith

  pub state_small : (x : ℕ) → x ≡ states / 2 ^ count_trailing_zeros 64 left % 2 ^ 1 → x < 2
  state_small x e = omega arith

  pub line_on : (rest state : ℕ) → rest ≡ bit_and left (left - 1) → state ≡ states / 2 ^ count_trailing_zeros 64 left % 2 ^ 1
      → lines_with d from states (ones_from from left 64)
      ≡ line_with d (from + count_trailing_zeros 64 left) state ++ lines_with d from states (ones_from from rest 64)
  unfolding lines_with
  line_on rest state without e =
      ap (lines_with d from states) (next from left some word rest without)
      ∙ ap (λ (x : ℕ). line_with d (from + count_trailing_zeros 64 left) x ++ lines_with d from states (ones_from from rest 64))
      (ap (λ (k : ℕ). states / 2 ^ k % 2) back ∙ sym e)

  -- The line fits before the end.
  pub line_fits : (until at end : ℕ) (before after all : List ℕ) (start : ℕ)
      → Going before after start until (lines_with d from states (ones_from from left 64)) all at → start + length all ≤ end
      → at + line_bytes d (from + count_trailing_zeros 64 left) ≤ end
  unfolding lines_with lines_bytes
  line_fits until at end before after all start g h =
      let long = going_fits before after _ all start until at g in
      let lines = lines_length d from states (ones_from from left 64) in
      let first = ap (lines_bytes d) (turn from left some word) in
      omega (arith, long, lines, first, h)

pub lines_end : (d : Device) (from states left : ℕ) → left ≡ 0 → lines_with d from states (ones_from from left 64) ≡ []
unfolding lines_with
lines_end d from states left e = rw (e, no_ones from 64)

pub lines_fit : (d : Device) (from states x at end : ℕ) → at + lines_bytes d (ones_from from x 64) ≤ end
    → at + length (lines_with d from states (ones_from from x 64)) ≤ end
lines_fit d from states x at end h = rw (lines_length d from states (ones_from from x 64)) h
