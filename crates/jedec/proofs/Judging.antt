-- What the writer writes in a field is judged as meant: the count, the start state, a line of states, the fuse sum.
-- Assumes nothing.
use mathlib.Core.Path.{◌≡◌, refl, sym, ◌∙◌, ap}
use mathlib.Core.Bool.{Bool, true, false, not, ◌&&◌, ◌||◌}
use mathlib.Core.List.{List, [], ◌∷◌, ◌++◌}
use mathlib.Core.Option.Option.{some}
use Prim.Native.Nat.{ℕ, zero, suc, ◌+◌, ◌-◌, ◌/◌, ◌%◌, ◌^◌, ◌<◌}
use native.Mathlib.Omega.{arith}
use native.Mathlib.Nat.{mod-lt}
use lib.Dec.{eqb, leb}
use lib.ListN.{length}
use lib.Seq.{take_at, drop_at}
use borrow.Author.Tests.{leb-true, ne_eqb, not-true}
use Rattle.part.specs.Device.{decimal_digits}
use Rattle.part.proofs.Facts.{and_iff}
use Rattle.part.proofs.Tables.{each_below}
use Rattle.cells.specs.Cells.{total}
use Rattle.image.specs.Image.{state}
use Rattle.image.proofs.Counts.{state_bit}
use Rattle.jedec.specs.Characters.{letter_c, letter_f, letter_l, letter_q, is_blank, is_mark, decimal_digit, hex_digit}
use Rattle.jedec.specs.Characters.{digits_of, count_digits, seven_digits, four_hex}
use Rattle.jedec.specs.Cut.{holds_mark}
use Rattle.jedec.specs.Judge.{Judged, by_letters, unbroken, states_in, list_from, list_in, judge}
use Rattle.jedec.specs.Judge.Judged.{count, start, list, sum}
use Rattle.jedec.specs.WrittenText.{states_text, columns_text}
use Rattle.jedec.specs.Form.{all, not_star}
use Rattle.jedec.proofs.Numbers.{digits_length, seven_back, count_back, sum_back}
use Rattle.jedec.proofs.Cutting.{all_append}

-- A byte that is no control character and no `*`.
abbrev pub plain : ℕ → Bool
plain b = leb 32 b && not_star b

-- Bytes that all pass a test also pass a weaker one.
pub all_weaker : (p q : ℕ → Bool) → ((b : ℕ) → p b ≡ true → q b ≡ true) → (bytes : List ℕ) → all p bytes ≡ true → all q bytes ≡ true
unfolding all
all_weaker p q so [] h = refl
all_weaker p q so (b ∷ bytes) h =
    let both = (and_iff (p b) (all p bytes)).0 h in
    (and_iff (q b) (all q bytes)).1 (so b both.0, all_weaker p q so bytes both.1)

pub plain_no_star : (bytes : List ℕ) → all plain bytes ≡ true → all not_star bytes ≡ true
plain_no_star = all_weaker plain not_star (λ b h. ((and_iff (leb 32 b) (not_star b)).0 h).1)

no_mark : (b : ℕ) → plain b ≡ true → is_mark b ≡ false
no_mark b h =
    let large = leb-true 32 b ((and_iff (leb 32 b) (not_star b)).0 h).0 in
    rw (ne_eqb b 2 (λ e. omega arith), ne_eqb b 3 (λ e. omega arith))

pub plain_no_mark : (bytes : List ℕ) → all plain bytes ≡ true → holds_mark bytes ≡ false
unfolding all holds_mark
plain_no_mark [] h = refl
plain_no_mark (b ∷ bytes) h =
    let both = (and_iff (plain b) (all plain bytes)).0 h in
    rw (no_mark b both.0) (plain_no_mark bytes both.1)

-- Where the digit of each number below the base passes a test, all digits of any number pass it.
all_digits : (test : ℕ → Bool) (base : ℕ) → 0 < base → (digit : ℕ → ℕ) → ((y : ℕ) → y < base → test (digit y) ≡ true)
    → (places x : ℕ) → all test (digits_of base digit places x) ≡ true
unfolding all digits_of
all_digits test base positive digit right zero x = refl
all_digits test base positive digit right (suc places) x =
    all_append test (digits_of base digit places (x / base)) (digit (x % base) ∷ [])
    (all_digits test base positive digit right places (x / base))
    (rw (right (x % base) (mod-lt x positive)))

decimal_plain : (y : ℕ) → y < 10 → plain (decimal_digit y) ≡ true
decimal_plain =
    each_below (λ (y : ℕ). plain (decimal_digit y) ≡ true) 10
    (refl, (refl, (refl, (refl, (refl, (refl, (refl, (refl, (refl, (refl, tt))))))))))

decimal_no_blank : (y : ℕ) → y < 10 → not (is_blank (decimal_digit y)) ≡ true
decimal_no_blank =
    each_below (λ (y : ℕ). not (is_blank (decimal_digit y)) ≡ true) 10
    (refl, (refl, (refl, (refl, (refl, (refl, (refl, (refl, (refl, (refl, tt))))))))))

hex_plain : (y : ℕ) → y < 16 → plain (hex_digit y) ≡ true
hex_plain =
    each_below (λ (y : ℕ). plain (hex_digit y) ≡ true) 16
    (refl, (refl, (refl, (refl, (refl, (refl, (refl, (refl, (refl, (refl, (refl, (refl, (refl, (refl, (refl, (refl, tt))))))))))))))))

pub decimal_digits_plain : (places x : ℕ) → all plain (digits_of 10 decimal_digit places x) ≡ true
decimal_digits_plain = all_digits plain 10 (omega arith) decimal_digit decimal_plain

pub hex_digits_plain : (places x : ℕ) → all plain (digits_of 16 hex_digit places x) ≡ true
hex_digits_plain = all_digits plain 16 (omega arith) hex_digit hex_plain

-- The states of so many fuses, from a fuse on, as numbers.
unfoldable pub states_of : (image : List ℕ) → (fuse width : ℕ) → List ℕ
states_of image fuse zero = []
states_of image fuse (suc width) = state image fuse ∷ states_of image (fuse + 1) width

pub states_append : (image : List ℕ) (fuse v w : ℕ) → states_of image fuse (v + w) ≡ states_of image fuse v ++ states_of image (fuse + v) w
unfolding states_of
states_append image fuse zero w =
    let here : fuse + 0 ≡ fuse = omega arith in
    let none_more : 0 + w ≡ w = omega arith in rw (here, none_more)
states_append image fuse (suc v) w =
    let more : suc v + w ≡ suc (v + w) = omega arith in
    let there : fuse + suc v ≡ fuse + 1 + v = omega arith in
    rw (more, there) (ap (λ (l : List ℕ). state image fuse ∷ l) (states_append image (fuse + 1) v w))

-- The digit of a state is plain, is no blank, and is read as a state.
state_digit : (s : ℕ) → s < 2
    → (plain (decimal_digit s) ≡ true) × (is_blank (decimal_digit s) ≡ false)
    × ((eqb (decimal_digit s) 48 || eqb (decimal_digit s) 49) ≡ true)
state_digit =
    each_below (λ (s : ℕ). (plain (decimal_digit s) ≡ true) × (is_blank (decimal_digit s) ≡ false)
    × ((eqb (decimal_digit s) 48 || eqb (decimal_digit s) 49) ≡ true)) 2 ((refl, refl, refl), ((refl, refl, refl), tt))

states_plain : (image : List ℕ) (fuse width : ℕ) → all plain (states_text image fuse width) ≡ true
unfolding all states_text
states_plain image fuse zero = refl
states_plain image fuse (suc width) = rw (state_digit (state image fuse) (state_bit image fuse)).0 (states_plain image (fuse + 1) width)

pub columns_plain : (image : List ℕ) (fuse : ℕ) (widths : List ℕ) → all plain (columns_text image fuse widths) ≡ true
unfolding all columns_text
columns_plain image fuse [] = refl
columns_plain image fuse (w ∷ widths) =
    all_append plain (states_text image fuse w) (columns_text image (fuse + w) widths) (states_plain image fuse w)
    (columns_plain image (fuse + w) widths)

-- The states are read back.
states_read : (image : List ℕ) (fuse width : ℕ) (rest : List ℕ) (states : List ℕ) → states_in rest ≡ some states
    → states_in (states_text image fuse width ++ rest) ≡ some (states_of image fuse width ++ states)
unfolding states_in states_text states_of
states_read image fuse zero rest states e = e
states_read image fuse (suc width) rest states e =
    let d = state_digit (state image fuse) (state_bit image fuse) in
    let own : decimal_digit (state image fuse) - 48 ≡ state image fuse = omega arith in
    rw (d.1, d.2, states_read image (fuse + 1) width rest states e, own)

columns_read : (image : List ℕ) (fuse : ℕ) (widths : List ℕ)
    → states_in (columns_text image fuse widths) ≡ some (states_of image fuse (total widths))
unfolding states_in columns_text states_of total
columns_read image fuse [] = refl
columns_read image fuse (w ∷ widths) =
    states_read image fuse w (columns_text image (fuse + w) widths) (states_of image (fuse + w) (total widths))
    (columns_read image (fuse + w) widths)
    ∙ ap some (sym (states_append image fuse w (total widths)))

-- The digits end at the first blank.
run_ends : (digits rest : List ℕ) → all (λ b. not (is_blank b)) digits ≡ true → unbroken rest ≡ 0
    → unbroken (digits ++ rest) ≡ length digits
unfolding all unbroken
run_ends [] rest h none_there = none_there
run_ends (b ∷ digits) rest h none_there =
    let both = (and_iff (not (is_blank b)) (all (λ c. not (is_blank c)) digits)).0 h in
    rw (not-true (is_blank b) both.0) (ap suc (run_ends digits rest both.1 none_there))

columns_blank : (image : List ℕ) (fuse : ℕ) (widths : List ℕ) → unbroken (columns_text image fuse widths) ≡ 0
unfolding unbroken columns_text
columns_blank image fuse [] = refl
columns_blank image fuse (w ∷ widths) = refl

-- A field of plain bytes is judged by its letters.
plain_judged : (bytes : List ℕ) (j : Judged) → all plain bytes ≡ true → by_letters bytes ≡ j → judge bytes ≡ j
unfolding judge
plain_judged bytes j h e = rw (plain_no_mark bytes h) e

pub count_judged : (fuses : ℕ) → fuses < 10 ^ 7 → judge (letter_q ∷ letter_f ∷ count_digits fuses) ≡ count fuses
unfolding all
count_judged fuses h =
    plain_judged (letter_q ∷ letter_f ∷ count_digits fuses) (count fuses) (decimal_digits_plain (decimal_digits fuses) fuses)
    (rw (count_back fuses h))

pub start_judged : judge (letter_f ∷ decimal_digit 0 ∷ []) ≡ start 0
unfolding all
start_judged = plain_judged (letter_f ∷ decimal_digit 0 ∷ []) (start 0) refl refl

pub sum_judged : (x : ℕ) → x < 2 ^ 16 → judge (letter_c ∷ four_hex x) ≡ sum x
unfolding all
sum_judged x h = plain_judged (letter_c ∷ four_hex x) (sum x) (hex_digits_plain 4 x) (rw (sum_back x h))

-- A line is judged as the list of its states.
abbrev pub line_bytes : (image : List ℕ) → (fuse : ℕ) → (widths : List ℕ) → List ℕ
line_bytes image fuse widths = letter_l ∷ seven_digits fuse ++ columns_text image fuse widths

pub line_plain : (image : List ℕ) (fuse : ℕ) (widths : List ℕ) → all plain (line_bytes image fuse widths) ≡ true
unfolding all
line_plain image fuse widths =
    all_append plain (seven_digits fuse) (columns_text image fuse widths) (decimal_digits_plain 7 fuse) (columns_plain image fuse widths)

some_listed : (image : List ℕ) (fuse width : ℕ) → 0 < width
    → list_from fuse (states_of image fuse width) ≡ list fuse (states_of image fuse width)
unfolding states_of
some_listed image fuse zero h = absurd (omega arith)
some_listed image fuse (suc width) h = refl

pub line_judged : (image : List ℕ) (fuse : ℕ) (widths : List ℕ) → fuse < 10 ^ 7 → 0 < total widths
    → judge (line_bytes image fuse widths) ≡ list fuse (states_of image fuse (total widths))
unfolding list_in
line_judged image fuse widths h positive =
    let digits = seven_digits fuse in
    let columns = columns_text image fuse widths in
    let seven : length digits ≡ 7 = digits_length 10 decimal_digit 7 fuse in
    let run : unbroken (digits ++ columns) ≡ 7 =
    run_ends digits columns (all_digits (λ b. not (is_blank b)) 10 (omega arith) decimal_digit decimal_no_blank 7 fuse)
    (columns_blank image fuse widths) ∙ seven in
    plain_judged (line_bytes image fuse widths) _ (line_plain image fuse widths)
    (rw (run, take_at digits columns 7 seven, drop_at digits columns 7 seven, seven_back fuse h, columns_read image fuse widths)
    (some_listed image fuse (total widths) positive))
