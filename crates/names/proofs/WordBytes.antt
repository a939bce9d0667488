-- Laws of pieces: bytes behind bytes in one word, bytes taken from a text, the digits of a number.
-- Assumes nothing.
use mathlib.Core.Path.{◌≡◌, refl, sym, ◌∙◌, ap, ap₂, subst}
use mathlib.Core.Bool.{true}
use mathlib.Core.List.{List, [], ◌∷◌, ◌++◌}
use Prim.Native.Nat.{ℕ, zero, suc, ◌+◌, ◌*◌, ◌-◌, ◌/◌, ◌%◌, ◌^◌, ◌≤◌, ◌<◌}
use native.Mathlib.Omega.{arith}
use native.Mathlib.Nat.{mod-lt, mod-eq_of_lt, add_comm, add-suc, lt_of_lt_of_le, not-suc-le-zero, le_of_suc-le-suc}
use lib.Arith.{digits_lt}
use lib.ListN.{length, get_or, take, drop, replicate, length-drop, length-replicate, replicate-append-replicate, drop_of_length-le}
use lib.Pow.{pow-add, pow_mono, pow_pos, high, low, shr_lt}
use lib.Seq.{drop-append-le, drop_at, take_all, get_or-drop}
use lib.Dec.{eqb}
use borrow.Author.Tests.{lt-ltb, le-ltb, eqb-true}
use Rattle.part.proofs.Facts.{by_cases}
use Rattle.part.proofs.Tables.{all_below, below_all}
use Rattle.cells.specs.Cells.{cut, join, total, number}
use Rattle.cells.proofs.Laws.{cut_append, cut_low, cut_length, total_replicate, join_small}
use Rattle.part.specs.Device.{decimal_digits}
use Rattle.jedec.specs.Characters.{letter_l, decimal_digit, digits_of, count_digits, seven_digits}
use Rattle.jedec.proofs.Numbers.{digits_length}
use Rattle.jedec_lines.proofs.FuseDigits.{start_cut, start_small}
use Rattle.names.specs.Pieces.{text_of, Holds}
use Rattle.names.specs.declared.pieces.Piece.{Piece}

-- A word of two parts, the first in its low bytes.
module _ (a b m n : ℕ) (ha : a < 2 ^ (m * 8)) (hb : b < 2 ^ (n * 8)) (fits : m + n ≤ 8) where
  both_small : b * 2 ^ (m * 8) + a < 2 ^ ((m + n) * 8)
  both_small =
      let e : (m + n) * 8 ≡ n * 8 + m * 8 = omega arith in
      subst (λ (k : ℕ). b * 2 ^ (m * 8) + a < 2 ^ k) (sym e) (rw (pow-add 2 (n * 8) (m * 8)) (digits_lt hb ha))

  both_fit : b * 2 ^ (m * 8) + a < 2 ^ 64
  both_fit = lt_of_lt_of_le both_small (pow_mono {i = (m + n) * 8} {j = 64} (omega arith))

  -- What the code's shift gives.
  pub shifted : b * 2 ^ (m * 8) % 2 ^ 64 ≡ b * 2 ^ (m * 8)
  shifted = mod-eq_of_lt (omega (arith, both_fit))

  pub sum_fits : a + b * 2 ^ (m * 8) % 2 ^ 64 < 2 ^ 64
  sum_fits = rw shifted (omega (arith, both_fit))

  pub both_held : Holds (record { word = a + b * 2 ^ (m * 8) % 2 ^ 64; len = m + n }) (cut (replicate m 8) a ++ cut (replicate n 8) b)
  both_held =
      let swap : a + b * 2 ^ (m * 8) ≡ b * 2 ^ (m * 8) + a = add_comm _ _ in
      let x = b * 2 ^ (m * 8) + a in
      let first : cut (replicate m 8) x ≡ cut (replicate m 8) a = sym (cut_low (replicate m 8) x 0)
      ∙ rw total_replicate (ap (λ (t : ℕ). cut (replicate m 8) (x % 2 ^ t)) (omega arith) ∙ ap (cut (replicate m 8)) (low b (m * 8) ha)) in
      let second : cut (replicate n 8) (x / 2 ^ total (replicate m 8)) ≡ cut (replicate n 8) b =
      rw total_replicate (ap (cut (replicate n 8)) (high b (m * 8) ha)) in
      record {
        few = fits;
        alone = rw (shifted, swap) both_small;
        text_is =
            rw (shifted, swap)
            (ap (λ (ws : List ℕ). cut ws x) (sym (replicate-append-replicate m n 8)) ∙ cut_append (replicate m 8) (replicate n 8) x
            ∙ ap₂ ◌++◌ first second);
      }

-- Some cells of a byte each, joined and cut.
pub cut_joined : (k : ℕ) (cells : List ℕ) → k ≤ length cells → ((i : ℕ) → get_or cells i 0 < 2 ^ 8)
    → cut (replicate k 8) (join (replicate k 8) cells) ≡ take k cells
unfolding cut join
cut_joined zero cells h small = refl
cut_joined (suc k) [] h small = absurd (not-suc-le-zero h)
cut_joined (suc k) (b ∷ cells) h small =
    let y = join (replicate k 8) cells in
    let byte : b % 2 ^ 8 < 2 ^ 8 = mod-lt b (pow_pos 8) in
    ap₂ ◌∷◌ (low y 8 byte ∙ mod-eq_of_lt (small 0))
    (ap (cut (replicate k 8)) (high y 8 byte) ∙ cut_joined k cells (le_of_suc-le-suc h) (λ i. small (suc i)))

joined_alone : (k : ℕ) (cells : List ℕ) → join (replicate k 8) cells < 2 ^ (k * 8)
joined_alone k cells = subst (λ (t : ℕ). join (replicate k 8) cells < 2 ^ t) (total_replicate k 8) (join_small (replicate k 8) cells)

-- Bytes taken from a text: eight, fewer, none.
module _ (text : List ℕ) (at : ℕ) where
  pub none_there : length text ≤ at → Holds (record { word = 0; len = 0 }) (take 8 (drop at text))
  unfolding cut
  none_there h = record { few = omega arith; alone = omega arith; text_is = rw (drop_of_length-le text h) }

  module _ (small : (i : ℕ) → get_or text i 0 < 2 ^ 8) (word : ℕ) where
    small_behind : (i : ℕ) → get_or (drop at text) i 0 < 2 ^ 8
    small_behind i = rw (get_or-drop at text i 0) (small (at + i))

    pub eight_there : 8 ≤ length text - at → word ≡ join (replicate 8 8) (drop at text)
        → Holds (record { word = word; len = 8 }) (take 8 (drop at text))
    eight_there h e =
        rw e
        (record {
          few = omega arith;
          alone = joined_alone 8 (drop at text);
          text_is = cut_joined 8 (drop at text) (rw (length-drop at text) h) small_behind;
        })

    pub fewer_there : (left : ℕ) → left ≡ length text - at → left < 8 → word ≡ join (replicate left 8) (drop at text)
        → Holds (record { word = word; len = left }) (take 8 (drop at text))
    fewer_there left l h e =
        let long : length (drop at text) ≡ left = length-drop at text ∙ sym l in
        let whole : take left (drop at text) ≡ take 8 (drop at text) =
        take_all left (drop at text) (omega arith) ∙ sym (take_all 8 (drop at text) (omega arith)) in
        rw e
        (record {
          few = omega arith;
          alone = joined_alone left (drop at text);
          text_is = cut_joined left (drop at text) (omega arith) small_behind ∙ whole;
        })

-- A number of one digit, and of two.
pub one_digit : (x : ℕ) → x < 10 → Holds (record { word = x + 48; len = 1 }) (count_digits x)
unfolding cut digits_of
one_digit x h =
    let byte : (x + 48) % 256 ≡ 48 + x % 10 = omega arith in
    record {
      few = omega arith;
      alone = omega arith;
      text_is = rw (lt-ltb x 10 h) (ap (λ (b : ℕ). b ∷ []) byte);
    }

-- The tenth of a number by a product, proved by a computed test.
tenth_all : all_below (λ (x : ℕ). eqb (x * 103 / 2 ^ 10) (x / 10)) 100 ≡ true
tenth_all = refl

tenth : (x : ℕ) → x < 100 → x * 103 / 2 ^ 10 ≡ x / 10
tenth x h = eqb-true _ _ (below_all (λ (x : ℕ). eqb (x * 103 / 2 ^ 10) (x / 10)) 100 tenth_all x h)

rest_of_ten : (x t o : ℕ) → t ≡ x / 10 → o ≡ x - t * 10 → o ≡ x % 10
rest_of_ten x t o e f = omega arith

word_small : (t o : ℕ) → t < 10 → o < 10 → t + 48 + (o + 48) * 256 < 2 ^ (2 * 8)
word_small t o h g = omega arith

second_byte : (a b : ℕ) → a < 256 → b < 256 → (a + b * 256) / 256 % 256 ≡ b
second_byte a b ha hb = omega arith

first_byte : (a b : ℕ) → a < 256 → (a + b * 256) % 256 ≡ a
first_byte a b ha = omega arith

pub two_digits : (x tens ones : ℕ) → 10 ≤ x → x < 100 → tens ≡ x * 103 / 2 ^ 10 → ones ≡ x - tens * 10
    → Holds (record { word = tens + 48 + (ones + 48) * 256; len = 2 }) (count_digits x)
unfolding cut digits_of
two_digits x tens ones more less et eo =
    let t : tens ≡ x / 10 = et ∙ tenth x less in
    let o : ones ≡ x % 10 = rest_of_ten x tens ones t eo in
    let ten : tens < 10 = omega (arith, t) in
    let one : ones < 10 = omega (arith, o) in
    record {
      few = omega arith;
      alone = word_small tens ones ten one;
      text_is =
          rw (le-ltb x 10 more, lt-ltb x 100 less)
          (ap₂ (λ (b c : ℕ). b ∷ c ∷ []) (first_byte (tens + 48) (ones + 48) (omega (arith, ten)) ∙ omega (arith, t))
          (second_byte (tens + 48) (ones + 48) (omega (arith, ten)) (omega (arith, one)) ∙ omega (arith, o)));
    }

-- The last digits of a number that is written in more.
last_digits : (base : ℕ) (digit : ℕ → ℕ) (a b x : ℕ) → drop a (digits_of base digit (a + b) x) ≡ digits_of base digit b x
unfolding digits_of
last_digits base digit a zero x =
    drop_of_length-le (digits_of base digit (a + 0) x) {i = a} (omega (arith, digits_length base digit (a + 0) x))
last_digits base digit a (suc b) x =
    rw (add-suc a b)
    (drop-append-le a (digits_of base digit (a + b) (x / base)) (digit (x % base) ∷ [])
    (omega (arith, digits_length base digit (a + b) (x / base)))
    ∙ ap (λ (l : List ℕ). l ++ (digit (x % base) ∷ [])) (last_digits base digit a b (x / base)))

-- The digits of a number are the last of its seven.
pub count_held : (x digits word : ℕ) → digits ≡ decimal_digits x → digits ≤ 6 → word ≡ number (letter_l ∷ seven_digits x)
    → Holds (record { word = word / 2 ^ ((8 - digits) * 8); len = digits }) (count_digits x)
count_held x n word en few ew =
    let a = 8 - n in
    let start = letter_l ∷ seven_digits x in
    let all : a + n ≡ 8 = omega arith in
    let small : word < 2 ^ 64 = rw ew (start_small x) in
    let whole : cut (replicate a 8) word ++ cut (replicate n 8) (word / 2 ^ (a * 8)) ≡ start =
    ap (λ (t : ℕ). cut (replicate a 8) word ++ cut (replicate n 8) (word / 2 ^ t)) (sym (total_replicate a 8))
    ∙ sym (cut_append (replicate a 8) (replicate n 8) word)
    ∙ ap (λ (ws : List ℕ). cut ws word) (replicate-append-replicate a n 8 ∙ ap (λ (k : ℕ). replicate k 8) all)
    ∙ rw ew (start_cut x) in
    let first : length (cut (replicate a 8) word) ≡ a = cut_length (replicate a 8) word ∙ length-replicate {A = ℕ} a 8 in
    let behind : cut (replicate n 8) (word / 2 ^ (a * 8)) ≡ drop a start =
    sym (drop_at (cut (replicate a 8) word) (cut (replicate n 8) (word / 2 ^ (a * 8))) a first) ∙ ap (drop a) whole in
    let sevens : 7 ≡ (7 - n) + n = omega arith in
    let next : a ≡ suc (7 - n) = omega arith in
    let bits : 64 ≡ n * 8 + a * 8 = omega arith in
    record {
      few = omega arith;
      alone = shr_lt (n * 8) (a * 8) (subst (λ (k : ℕ). word < 2 ^ k) bits small);
      text_is =
          behind ∙ rw next (ap (λ (k : ℕ). drop (7 - n) (digits_of 10 decimal_digit k x)) sevens ∙ last_digits 10 decimal_digit (7 - n) n x
          ∙ ap (λ (k : ℕ). digits_of 10 decimal_digit k x) en);
    }

-- A number below a million has one to six digits.
one_to_six : (x : ℕ) → x < 1000000 → (1 ≤ decimal_digits x) × (decimal_digits x ≤ 6)
one_to_six x h =
    let P : ℕ → Type 0 = λ n. (1 ≤ n) × (n ≤ 6) in
    by_cases P x 10 (λ l. (omega arith, omega arith)) (λ m1.
    by_cases P x 100 (λ l. (omega arith, omega arith)) (λ m2.
    by_cases P x 1000 (λ l. (omega arith, omega arith)) (λ m3.
    by_cases P x 10000 (λ l. (omega arith, omega arith)) (λ m4.
    by_cases P x 100000 (λ l. (omega arith, omega arith)) (λ m5.
    by_cases P x 1000000 (λ l. (omega arith, omega arith)) (λ m6. absurd (omega arith)))))))

pub few_count : (x digits : ℕ) → digits ≡ decimal_digits x → x < 1000000 → digits ≤ 6
few_count x digits e h = rw e (one_to_six x h).1

pub some_count : (x digits : ℕ) → digits ≡ decimal_digits x → x < 1000000 → 1 ≤ digits
some_count x digits e h = rw e (one_to_six x h).0

-- Bytes behind bytes, and the second are digits.
pub then_digits : (p q r : Piece) (text : List ℕ) → Holds q text → Holds r (text_of p ++ text_of q) → Holds r (text_of p ++ text)
then_digits p q r text hq hr = rw hq.text_is at hr
