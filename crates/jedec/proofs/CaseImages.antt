-- The images of the texts in specs/Cases.antt: each is what the fields of the text give, shown byte by byte.
-- Assumes nothing. At most one byte of each is computed; the others hold no fuse of an L, so each bit has the start state.
use mathlib.Core.Path.{◌≡◌, refl, sym, ◌∙◌, ap}
use mathlib.Core.Logic.{inl, inr}
use mathlib.Core.List.{List, [], ◌∷◌, ◌++◌}
use Prim.Native.Nat.{ℕ, zero, suc, ◌+◌, ◌*◌, ◌≤◌, ◌<◌}
use native.Mathlib.Omega.{arith}
use lib.ListN.{length, get_or, replicate, length-replicate, length-append, get_or-replicate, get_or-append}
use lib.Seq.{ext_get_or, get_or_at}
use borrow.Author.Tests.{lt-ltb}
use Rattle.part.proofs.Facts.{compared}
use Rattle.image.specs.Bits.{gathered}
use Rattle.image.proofs.Bits.{gathered_same}
use Rattle.jedec.specs.Rules.{Listed, state_given, within, image_with}
use Rattle.jedec.specs.Form.{Each, Outside}
use Rattle.jedec.specs.Cases.{all_ones, all_zeros, only_first, all_but_first, only_last}
use Rattle.jedec.proofs.StatesGiven.{given_outside, image_length, image_at}

-- A byte of the image that fields give.
abbrev byte_given : (from : ℕ) → List Listed → (index : ℕ) → ℕ
byte_given from lists index = gathered (λ bit. within 18144 (state_given from lists) (index * 8 + bit)) 8

-- An image is the list of its bytes.
by_bytes : (from : ℕ) (lists : List Listed) (image : List ℕ) → length image ≡ 2268
    → ((i : ℕ) → i < 2268 → byte_given from lists i ≡ get_or image i 0) → image_with 18144 (state_given from lists) ≡ image
by_bytes from lists image long same =
    let states : ℕ → ℕ = state_given from lists in
    ext_get_or 0 (image_with 18144 states) image (image_length 18144 states ∙ sym long)
    (λ i h.
    let less : i < 2268 = rw (image_length 18144 states) at h in
    image_at 18144 states i less ∙ same i less)

-- A byte of which no L gives a fuse has the start state in each bit.
start_byte : (from : ℕ) (lists : List Listed) (i : ℕ) → i < 2268 → ((bit : ℕ) → bit < 8 → Each (Outside (i * 8 + bit)) lists)
    → byte_given from lists i ≡ gathered (λ bit. from) 8
start_byte from lists i h none =
    gathered_same _ (λ bit. from) 8
    (λ bit l.
    let inside : i * 8 + bit < 18144 = omega arith in
    rw (lt-ltb (i * 8 + bit) 18144 inside) (given_outside from (i * 8 + bit) lists (none bit l)))

-- Without an L every byte has the start state in each bit.
only_start : (from : ℕ) → image_with 18144 (state_given from []) ≡ replicate 2268 (gathered (λ bit. from) 8)
only_start from =
    let byte = gathered (λ bit. from) 8 in
    by_bytes from [] (replicate 2268 byte) (length-replicate {A = ℕ} 2268 byte)
    (λ i h. start_byte from [] i h (λ bit l. tt) ∙ sym (get_or-replicate 2268 i byte 0 h))

-- Where every L lies in the first byte, all other bytes have the start state in each bit.
first_byte : (from : ℕ) (lists : List Listed) (first : ℕ) → byte_given from lists 0 ≡ first
    → ((fuse : ℕ) → 8 ≤ fuse → Each (Outside fuse) lists)
    → image_with 18144 (state_given from lists) ≡ first ∷ replicate 2267 (gathered (λ bit. from) 8)
first_byte from lists first e outside =
    by_bytes from lists (first ∷ replicate 2267 (gathered (λ bit. from) 8))
    (ap suc (length-replicate {A = ℕ} 2267 (gathered (λ bit. from) 8))) go
  where
    go : (i : ℕ) → i < 2268 → byte_given from lists i ≡ get_or (first ∷ replicate 2267 (gathered (λ bit. from) 8)) i 0
    go zero h = e
    go (suc i) h =
        start_byte from lists (suc i) h (λ bit l. outside (suc i * 8 + bit) (omega arith))
        ∙ sym (get_or-replicate 2267 i (gathered (λ bit. from) 8) 0 (omega arith))

pub all_ones_lem : image_with 18144 (state_given 1 []) ≡ all_ones
unfolding gathered
all_ones_lem = only_start 1

pub all_zeros_lem : image_with 18144 (state_given 0 []) ≡ all_zeros
unfolding gathered
all_zeros_lem = only_start 0

-- The L fields of the texts with an image of other bytes.
abbrev one_first : List Listed
one_first = record { at = 13; first = 0; states = 1 ∷ [] } ∷ []

abbrev three_first : List Listed
three_first =
    record { at = 13; first = 0; states = 1 ∷ [] } ∷ record { at = 18; first = 1; states = 0 ∷ [] }
    ∷ record { at = 23; first = 5; states = 0 ∷ [] } ∷ []

abbrev zero_first : List Listed
zero_first = record { at = 13; first = 0; states = 0 ∷ [] } ∷ []

abbrev one_last : List Listed
one_last = record { at = 13; first = 18143; states = 1 ∷ [] } ∷ []

pub only_first_lem : image_with 18144 (state_given 0 one_first) ≡ only_first
unfolding gathered state_given
only_first_lem = first_byte 0 one_first 1 refl (λ fuse h. (inr (omega arith), tt))

pub first_of_three : image_with 18144 (state_given 0 three_first) ≡ only_first
unfolding gathered state_given
first_of_three = first_byte 0 three_first 1 refl (λ fuse h. (inr (omega arith), (inr (omega arith), (inr (omega arith), tt))))

pub all_but_first_lem : image_with 18144 (state_given 1 zero_first) ≡ all_but_first
unfolding gathered state_given
all_but_first_lem = first_byte 1 zero_first 254 refl (λ fuse h. (inr (omega arith), tt))

-- The last fuse lies in the last byte, which is computed; all others have the start state in each bit.
pub only_last_lem : image_with 18144 (state_given 0 one_last) ≡ only_last
unfolding gathered state_given
only_last_lem = by_bytes 0 one_last (replicate 2267 0 ++ 128 ∷ []) long go
  where
    zeros : length {A = ℕ} (replicate 2267 0) ≡ 2267
    zeros = length-replicate {A = ℕ} 2267 0

    long : length {A = ℕ} (replicate 2267 0 ++ 128 ∷ []) ≡ 2268
    long = length-append {A = ℕ} (replicate 2267 0) (128 ∷ []) ∙ ap (λ (n : ℕ). n + 1) zeros

    go : (i : ℕ) → i < 2268 → byte_given 0 one_last i ≡ get_or (replicate 2267 0 ++ 128 ∷ []) i 0
    go i h =
        compared i 2267
        (λ less.
        start_byte 0 one_last i h (λ bit l. (inl (omega arith), tt))
        ∙ sym (get_or-append (replicate 2267 0) (128 ∷ []) 0 i (rw zeros less) ∙ get_or-replicate 2267 i 0 0 less))
        (λ more.
        let last : i ≡ 2267 = omega arith in
        rw last (sym (get_or_at (replicate 2267 0) 128 [] 0 2267 zeros)))
