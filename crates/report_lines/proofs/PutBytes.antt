-- Laws of bytes put into a slice: copied, a digit at a time, and one part after another.
-- Assumes nothing.
use mathlib.Core.Path.{◌≡◌, refl, sym, ◌∙◌, ap}
use mathlib.Core.List.{List, [], ◌∷◌, ◌++◌, append_assoc}
use Prim.Native.Nat.{ℕ, zero, suc, ◌+◌, ◌-◌, ◌/◌, ◌%◌, ◌≤◌, ◌<◌}
use native.Mathlib.Omega.{arith}
use native.Mathlib.Nat.{add_assoc}
use lib.ListN.{length, take, replicate, set, length-append}
use lib.Seq.{sets, sets-eq, length-sets, set_comm, drop-drop}
use borrow.Rule.Slice.PartMut.{put_mid}
use Rattle.cells.specs.Cells.{cut, number}
use Rattle.cells.proofs.Laws.{sets_append}
use Rattle.part.specs.Device.{blocks_of, fuse_count, decimal_digits}
use Rattle.part.specs.declared.Device.{Device}
use Rattle.part.proofs.Devices.{digits_small}
use Rattle.image.specs.Image.{sum16, zeros_below}
use Rattle.jedec.specs.Characters.{lf, decimal_digit, hex_digit, digits_of, count_digits, four_hex}
use Rattle.jedec_lines.proofs.HexDigits.{hex_cut}
use Rattle.jedec.proofs.Numbers.{digits_length}
use Rattle.report_lines.specs.ReportLines.{word_blocks, word_fuses, word_zero, word_sum, word_refused, word_at}
use Rattle.report_lines.specs.ReportLines.{line, count_lines, refusal_line}
use Rattle.report_lines.specs.Put.{Put}

-- Bytes copied over a part of a slice are put there.
pub copied : (out part bytes : List ℕ) (at : ℕ) → part ≡ bytes → at + length bytes ≤ length out
    → Put out (put_mid at (at + length bytes - at) out part) at bytes (at + length bytes)
copied out part bytes at e h =
    let long : at + length bytes - at ≡ length bytes = omega arith in
    record {
      holds =
          rw (e, long, drop-drop (length bytes) at out) (sym (sets-eq bytes out at h ∙ append_assoc (take at out) bytes _));
      ends = refl;
    }

-- A store behind others may as well come first.
set_behind : (l bytes : List ℕ) (at j b : ℕ) → at + length bytes ≤ j → set (sets l at bytes) j b ≡ sets (set l j b) at bytes
set_behind l [] at j b h = refl
set_behind l (c ∷ bytes) at j b h =
    set_behind (set l at c) bytes (suc at) j b (omega arith)
    ∙ ap (λ (m : List ℕ). sets m (suc at) bytes) (set_comm l at j c b (λ e. omega arith))

-- The loop over digits, from the last on: those still to come, put now, give what all give.
pub digit_put : (out all : List ℕ) (at i rest : ℕ) → 0 < i → sets out at (digits_of 10 decimal_digit i rest) ≡ all
    → sets (set out (at + (i - 1)) (48 + rest % 10)) at (digits_of 10 decimal_digit (i - 1) (rest / 10)) ≡ all
unfolding digits_of
digit_put out all at zero rest h e = absurd (omega arith)
digit_put out all at (suc i) rest h e =
    let less : suc i - 1 ≡ i = omega arith in
    let before = digits_of 10 decimal_digit i (rest / 10) in
    let long : length before ≡ i = digits_length 10 decimal_digit i (rest / 10) in
    rw less
    (sym (set_behind out before at (at + i) (48 + rest % 10) (omega arith))
    ∙ (rw (sets_append out at before (decimal_digit (rest % 10) ∷ []), long) at e))

pub no_digit : (out all : List ℕ) (at i rest : ℕ) → i ≤ 0 → sets out at (digits_of 10 decimal_digit i rest) ≡ all → out ≡ all
unfolding digits_of
no_digit out all at zero rest h e = e
no_digit out all at (suc i) rest h e = absurd (omega arith)

-- Bytes put behind bytes are put as one.
pub then : (before middle after xs ys : List ℕ) (at next end : ℕ) → Put before middle at xs next → Put middle after next ys end
    → Put before after at (xs ++ ys) end
then before middle after xs ys at next end p q =
    record {
      holds = q.holds ∙ rw (p.ends, p.holds) (sym (sets_append before at xs ys));
      ends = rw (length-append xs ys) (q.ends ∙ rw p.ends (add_assoc at (length xs) (length ys)));
    }

-- A word and a number fit, and are put as one.
pub digits_fit : (out middle word : List ℕ) (x at behind digits : ℕ) → Put out middle at word behind → digits ≡ decimal_digits x
    → at + length word + 7 ≤ length out → behind + digits ≤ length middle
digits_fit out middle word x at behind digits p e h =
    rw (p.holds, length-sets out at word) (omega (arith, p.ends, digits_small x, e))

pub number_short : (out middle word : List ℕ) (x at behind digits : ℕ) → Put out middle at word behind → digits ≡ decimal_digits x
    → behind + digits ≤ at + length word + 7
number_short out middle word x at behind digits p e = omega (arith, p.ends, digits_small x, e)

pub word_number : (before middle after word : List ℕ) (x at behind digits : ℕ) → Put before middle at word behind
    → digits ≡ decimal_digits x
    → after ≡ sets middle behind (digits_of 10 decimal_digit digits x) → Put before after at (word ++ count_digits x) (behind + digits)
word_number before middle after word x at behind digits p e f =
    then before middle after word (count_digits x) at behind (behind + digits) p
    (record { holds = f ∙ rw e; ends = rw (digits_length 10 decimal_digit (decimal_digits x) x) (ap (λ (n : ℕ). behind + n) e) })

-- Two words, each with its number, are the line of a refusal.
pub two_words : (before middle after : List ℕ) (number value x y next end : ℕ)
    → Put before middle 0 (word_refused ++ count_digits x) next → x ≡ number
    → Put middle after next (line word_at (count_digits y)) end → y ≡ value → Put before after 0 (refusal_line number value) end
unfolding refusal_line
two_words before middle after number value x y next end p e q f =
    then before middle after (word_refused ++ count_digits number) (line word_at (count_digits value)) 0 next end
    (rw e at p) (rw f at q)

-- A word, four hex digits and LF are a line.
pub hex_line : (out one two three word : List ℕ) (at behind end sum four : ℕ) → Put out one at word behind → four ≡ number (four_hex sum)
    → two ≡ sets one behind (cut (replicate 4 8) four) → Put two three (behind + 4) (lf ∷ []) end
    → Put out three at (line word (four_hex sum)) end
hex_line out one two three word at behind end sum four p e f q =
    let digits : Put one two behind (four_hex sum) (behind + 4) =
    record { holds = f ∙ rw (e, hex_cut sum); ends = rw (digits_length 16 hex_digit 4 sum) } in
    then out two three (word ++ four_hex sum) (lf ∷ []) at (behind + 4) end
    (then out one two word (four_hex sum) at behind (behind + 4) p digits) q

-- Four lines put one after another are those of an image.
pub four_lines : (d : Device) (image out one two three four : List ℕ) (i j k end blocks fuses zeros sum : ℕ)
    → Put out one 0 (line word_blocks (count_digits blocks)) i → blocks ≡ blocks_of d
    → Put one two i (line word_fuses (count_digits fuses)) j → fuses ≡ fuse_count d
    → Put two three j (line word_zero (count_digits zeros)) k → zeros ≡ zeros_below image (fuse_count d)
    → Put three four k (line word_sum (four_hex sum)) end → sum ≡ sum16 image → Put out four 0 (count_lines d image) end
unfolding count_lines
four_lines d image out one two three four i j k end blocks fuses zeros sum p1 e1 p2 e2 p3 e3 p4 e4 =
    let l1 = line word_blocks (count_digits (blocks_of d)) in
    let l2 = line word_fuses (count_digits (fuse_count d)) in
    let l3 = line word_zero (count_digits (zeros_below image (fuse_count d))) in
    let l4 = line word_sum (four_hex (sum16 image)) in
    then out three four (l1 ++ l2 ++ l3) l4 0 k end
    (then out two three (l1 ++ l2) l3 0 j k (then out one two l1 l2 0 i j (rw e1 at p1) (rw e2 at p2)) (rw e3 at p3))
    (rw e4 at p4)
