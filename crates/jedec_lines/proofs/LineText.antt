-- A line made of a start, five columns and an end: the bytes of each, and the whole stored.
-- Assumes nothing.
use mathlib.Core.Path.{◌≡◌, refl, sym, ◌∙◌, ap, ap₂, subst}
use mathlib.Core.List.{List, [], ◌∷◌, ◌++◌, append_assoc, append-nil}
use Prim.Native.Nat.{ℕ, zero, suc, ◌+◌, ◌*◌, ◌-◌, ◌/◌, ◌^◌, ◌≤◌, ◌<◌}
use native.Mathlib.Omega.{arith}
use lib.ListN.{length, get_or, take, replicate, length-append}
use Rattle.std.proofs.lemmas.List.{take_all}
use Rattle.std.proofs.Common.{length-take-le}
use lib.Pow.{shr-shr}
use Rattle.std.proofs.lemmas.List.{take_more}
use native.Mathlib.Nat.{div-one, le_of_suc-le-suc, not-suc-le-zero}
use Rattle.cells.proofs.Laws.{total_append}
use lib.Seq.{sets}
use Rattle.cells.specs.Cells.{cut, total, number}
use Rattle.part.specs.Device.{line_bytes}
use Rattle.jedec.specs.Characters.{letter_l, decimal_digit, seven_digits}
use Rattle.jedec.specs.WrittenText.{line_end, states_text, columns_text, line_text}
use Rattle.jedec_lines.specs.Columns.{column_text, columns_of, Wide, AllWide, Stored}
use Rattle.jedec.proofs.Numbers.{digits_length}
use Rattle.jedec_lines.proofs.Bits.{bits_length, columns_bits, columns_same}
use Rattle.jedec_lines.proofs.Stored.{stored_next, stored_last}
use Rattle.jedec_lines.proofs.FuseDigits.{start_cut}

-- The bytes of a line are those of its start, of its columns and of its end.
states_length : (image : List ℕ) (fuse width : ℕ) → length (states_text image fuse width) ≡ width
unfolding states_text
states_length image fuse zero = refl
states_length image fuse (suc width) = ap suc (states_length image (fuse + 1) width)

columns_length : (image : List ℕ) (fuse : ℕ) (widths : List ℕ) → length (columns_text image fuse widths) ≡ length widths + total widths
unfolding columns_text total
columns_length image fuse [] = refl
columns_length image fuse (w ∷ widths) =
    let rest = columns_text image (fuse + w) widths in
    let e : length (states_text image fuse w ++ rest) ≡ w + (length widths + total widths) =
    length-append (states_text image fuse w) rest ∙ ap₂ ◌+◌ (states_length image fuse w) (columns_length image (fuse + w) widths) in
    ap suc e ∙ omega arith

start_length : (fuse : ℕ) → length (letter_l ∷ seven_digits fuse) ≡ 8
start_length fuse = ap suc (digits_length 10 decimal_digit 7 fuse)

pub line_length : (image : List ℕ) (fuse : ℕ) (widths : List ℕ)
    → length (line_text image fuse widths) ≡ line_bytes (length widths) (total widths)
line_length image fuse widths =
    let start = letter_l ∷ seven_digits fuse in
    let columns = columns_text image fuse widths in
    let inner : length (start ++ columns) ≡ 8 + (length widths + total widths) =
    length-append start columns ∙ ap₂ ◌+◌ (start_length fuse) (columns_length image fuse widths) in
    length-append (start ++ columns) line_end ∙ ap (λ (n : ℕ). n + 2) inner ∙ omega arith

-- The code's word for the end of a line holds `*` and LF.
end_cut : cut (replicate 2 8) 0x0A2A ≡ line_end
unfolding cut
end_cut = refl

column_length : (width x : ℕ) → length (column_text width x) ≡ 1 + width
column_length width x = ap suc (bits_length width x) ∙ omega arith

columns_of_length : (x : ℕ) (widths : List ℕ) → length (columns_of x widths) ≡ length widths + total widths
unfolding columns_of total
columns_of_length x [] = refl
columns_of_length x (w ∷ widths) =
    length-append (column_text w x) (columns_of (x / 2 ^ w) widths)
    ∙ ap₂ ◌+◌ (column_length w x) (columns_of_length (x / 2 ^ w) widths) ∙ omega arith

columns_append : (ws vs : List ℕ) (x : ℕ) → columns_of x (ws ++ vs) ≡ columns_of x ws ++ columns_of (x / 2 ^ total ws) vs
unfolding columns_of total
columns_append [] vs x = ap (λ (y : ℕ). columns_of y vs) (sym (div-one x))
columns_append (w ∷ ws) vs x =
    ap (λ (l : List ℕ). column_text w x ++ l)
    (columns_append ws vs (x / 2 ^ w) ∙ ap (λ (y : ℕ). columns_of (x / 2 ^ w) ws ++ columns_of y vs) (shr-shr x w (total ws)))
    ∙ sym (append_assoc (column_text w x) (columns_of (x / 2 ^ w) ws) _)

-- Each of some widths is one that a column has, so there is space for the columns from each on.
wide_at : (ws : List ℕ) (i : ℕ) → AllWide ws → i < length ws → Wide (get_or ws i 0)
wide_at [] i h l = absurd (not-suc-le-zero l)
wide_at (w ∷ ws) zero h l = h.0
wide_at (w ∷ ws) (suc i) h l = wide_at ws i h.1 (le_of_suc-le-suc l)

wide_few : (ws : List ℕ) → AllWide ws → total ws ≤ 8 * length ws
unfolding total
wide_few [] h = omega arith
wide_few (w ∷ ws) h = omega (arith, h.0, wide_few ws h.1)

wide_left : (ws : List ℕ) (i : ℕ) → AllWide ws → i ≤ length ws → total (take i ws) + 6 * (length ws - i) ≤ total ws
unfolding total
wide_left [] zero h l = omega arith
wide_left [] (suc i) h l = absurd (not-suc-le-zero l)
wide_left (w ∷ ws) zero h l = omega (arith, h.0, wide_left ws zero h.1 (omega arith))
wide_left (w ∷ ws) (suc i) h l = omega (arith, wide_left ws i h.1 (le_of_suc-le-suc l))

pub line_bits : (widths : List ℕ) → AllWide widths → length widths ≡ 5 → (30 ≤ total widths) × (total widths ≤ 40)
unfolding total
line_bits widths wide five = (omega (arith, wide_left widths 0 wide (omega arith)), omega (arith, wide_few widths wide))

-- The columns of a line are put one after another: what is stored when `i` of them are, where the next one stands,
-- and what is left of the word.
pub record ColumnsPut (word : ℕ) (widths before after : List ℕ) (at i rest next : ℕ) : Type 0 where
  pub stored : Stored before after at (columns_of word (take i widths))
  pub rest_is : rest ≡ word / 2 ^ total (take i widths)
  pub next_is : next ≡ at + (i + total (take i widths))

pub none_put : (word : ℕ) (widths out : List ℕ) (at : ℕ) → ColumnsPut word widths out out at 0 word at
unfolding columns_of total
none_put word widths out at =
    record {
      stored = record { more = []; few = omega arith; holds = refl };
      rest_is = sym (div-one word);
      next_is = omega arith;
    }

pub column_fits : {word : ℕ} {widths before after : List ℕ} {at i rest next : ℕ} → ColumnsPut word widths before after at i rest next
    → AllWide widths → length widths ≡ 5 → i < 5 → at + 7 + total widths ≤ length after
    → Wide (get_or widths i 0) × (next + 9 ≤ length after)
column_fits {word} {widths} {before} {after} {at} {i} {rest} {next} put wide five below fits =
    let here : i < length widths = omega arith in
    (wide_at widths i wide here, omega (arith, put.next_is, wide_left widths i wide (omega arith)))

pub column_put : (word : ℕ) (widths before after : List ℕ) (at i rest next : ℕ) → ColumnsPut word widths before after at i rest next
    → AllWide widths → i < length widths → (more : List ℕ) (width : ℕ) → width ≡ get_or widths i 0
    → Stored after more next (column_text width rest)
    → ColumnsPut word widths before more at (i + 1) (rest / 2 ^ width) (next + (1 + width))
unfolding columns_of total
column_put word widths before after at i rest next put wide below more width e t =
    let so_far = take i widths in
    let now : take (i + 1) widths ≡ so_far ++ width ∷ [] = take_more widths i 0 below ∙ ap (λ (w : ℕ). so_far ++ w ∷ []) (sym e) in
    let sum : total (take (i + 1) widths) ≡ total so_far + width = ap total now ∙ total_append so_far (width ∷ []) ∙ omega arith in
    let long : length so_far ≡ i = length-take-le i widths (omega arith) in
    let place : next ≡ at + length (columns_of word so_far) =
    put.next_is ∙ ap (λ (k : ℕ). at + k) (sym (columns_of_length word so_far ∙ ap (λ (k : ℕ). k + total so_far) long)) in
    let wide_one : Wide width = subst Wide (sym e) (wide_at widths i wide below) in
    let both = stored_next next put.stored place (omega (arith, column_length width rest)) t in
    let text : columns_of word so_far ++ column_text width rest ≡ columns_of word (take (i + 1) widths) =
    sym (ap (columns_of word) now ∙ columns_append so_far (width ∷ []) word
    ∙ ap (λ (l : List ℕ). columns_of word so_far ++ l) (append-nil _ ∙ ap (column_text width) (sym put.rest_is))) in
    record {
      stored = subst (Stored before more at) text both;
      rest_is = ap (λ (y : ℕ). y / 2 ^ width) put.rest_is ∙ shr-shr word (total so_far) width ∙ ap (λ (k : ℕ). word / 2 ^ k) (sym sum);
      next_is = omega (arith, put.next_is, sum);
    }

pub all_put : {word : ℕ} {widths before after : List ℕ} {at i rest next : ℕ} → ColumnsPut word widths before after at i rest next
    → length widths ≡ 5 → i ≤ 5 → 5 ≤ i → Stored before after at (columns_of word widths) × (next ≡ at + (5 + total widths))
all_put {word} {widths} {before} {after} {at} {i} {rest} {next} put five below above =
    let all : take i widths ≡ widths = take_all i widths (omega arith) in
    let end : i ≡ 5 = omega arith in
    (rw all at put.stored, put.next_is ∙ rw (all, end))

pub line_of : (image out s0 s1 s2 widths : List ℕ) (fuse at behind w x : ℕ)
    → ((ws : List ℕ) → total ws ≤ 56 → fuse + total ws ≤ length image * 8 → cut ws w ≡ cut ws (number image / 2 ^ fuse))
    → fuse + total widths ≤ length image * 8 → AllWide widths → length widths ≡ 5
    → x ≡ number (letter_l ∷ seven_digits fuse) → s0 ≡ sets out at (cut (replicate 8 8) x)
    → Stored s0 s1 (at + 8) (columns_of w widths) → behind ≡ at + 8 + (5 + total widths)
    → s2 ≡ sets s1 behind (cut (replicate 2 8) 0x0A2A)
    → s2 ≡ sets out at (line_text image fuse widths)
line_of image out s0 s1 s2 widths fuse at behind w x given fits wide five ex e0 t eb e2 =
    let start = letter_l ∷ seven_digits fuse in
    let begun : Stored out s0 at start =
    record { more = []; few = omega arith; holds = e0 ∙ rw (ex, start_cut fuse) (ap (sets out at) (sym (append-nil start))) } in
    let long : length (columns_of w widths) ≡ 5 + total widths =
    columns_of_length w widths ∙ ap (λ (k : ℕ). k + total widths) five in
    let both = stored_next (at + 8) begun (rw (start_length fuse)) (omega (arith, long)) t in
    let place : behind ≡ at + length (start ++ columns_of w widths) =
    eb ∙ rw (length-append start (columns_of w widths), start_length fuse, long) (omega arith) in
    let columns : columns_text image fuse widths ≡ columns_of w widths = columns_bits image widths fuse fits
    ∙ sym (columns_same widths w (number image / 2 ^ fuse) (given widths (omega (arith, line_bits widths wide five)) fits)) in
    stored_last _ s2 line_end both place (omega arith) (rw end_cut at e2)
    ∙ ap (λ (l : List ℕ). sets out at (start ++ l ++ line_end)) (sym columns)
