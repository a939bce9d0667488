-- The image of so many fuses: a byte of a start state, and states put in place, which change those fuses alone.
-- Assumes nothing.
use mathlib.Core.Path.{◌≡◌, refl, sym, ◌∙◌, ap}
use mathlib.Core.Bool.{Bool, true, false, cond, ◌&&◌}
use mathlib.Core.List.{List, [], ◌∷◌}
use Prim.Native.Nat.{ℕ, zero, suc, ◌+◌, ◌*◌, ◌-◌, ◌/◌, ◌%◌, ◌^◌, ◌≤◌, ◌<◌}
use native.Mathlib.Omega.{arith}
use native.Mathlib.Nat.{mod-eq_of_lt, mul-add, mul-zero, zero-mul, add-zero, two-pow-succ}
use native.Mathlib.Decide.{ℕ_discrete}
use lib.Dec.{eqb, ltb, leb}
use lib.ListN.{length, get_or, set, length-set}
use lib.Pow.{pow_pos}
use lib.Seq.{ext_get_or, get_or-set_same, get_or-set_other}
use borrow.Author.Tests.{lt-ltb, le-ltb, le-leb, lt-leb, eq-eqb, ne_eqb}
use Rattle.part.proofs.Facts.{compared}
use Rattle.image.specs.Bits.{bit_of, put_bit, with_bit, gathered}
use Rattle.image.specs.Image.{with_fuse}
use Rattle.image.proofs.Bits.{put_same, put_other, put_small, gathered_small, gathered_bit, gathered_same, gathered_own}
use Rattle.jedec.specs.Rules.{state_given, within, image_with}
use Rattle.jedec.proofs.States.{image_length, image_at, within_small}
use Rattle.jedec_image.specs.States.{with_states}

-- Two images are equal where each byte is gathered from the same bits.
image_is : (fuses : ℕ) (f : ℕ → ℕ) (bytes : List ℕ) → length bytes ≡ (fuses + 7) / 8
    → ((i : ℕ) → i < (fuses + 7) / 8 → get_or bytes i 0 ≡ gathered (λ bit. within fuses f (i * 8 + bit)) 8) → bytes ≡ image_with fuses f
image_is fuses f bytes e h =
    ext_get_or 0 bytes (image_with fuses f) (e ∙ sym (image_length fuses f))
    (λ i l. let m : i < (fuses + 7) / 8 = omega arith in h i m ∙ sym (image_at fuses f i m))

within_same : (fuses : ℕ) (f g : ℕ → ℕ) → ((k : ℕ) → k < fuses → f k ≡ g k) → (k : ℕ) → within fuses f k ≡ within fuses g k
within_same fuses f g e k = compared k fuses (λ l. rw (lt-ltb k fuses l) (e k l)) (λ m. rw (le-ltb k fuses m))

pub image_same : (fuses : ℕ) (f g : ℕ → ℕ) → ((k : ℕ) → k < fuses → f k ≡ g k) → image_with fuses f ≡ image_with fuses g
image_same fuses f g e =
    image_is fuses g (image_with fuses f) (image_length fuses f)
    (λ i l. image_at fuses f i l ∙ gathered_same _ _ 8 (λ b m. within_same fuses f g e (i * 8 + b)))

-- A byte of which the lowest bits have a state is that state times a power of two less one.
below_bit : (s r b : ℕ) → b < r → cond (ltb b r) s 0 ≡ s
below_bit s r b l = rw (lt-ltb b r l)

gathered_below : (s r w : ℕ) → r ≤ w → gathered (λ b. cond (ltb b r) s 0) w ≡ s * (2 ^ r - 1)
unfolding gathered
gathered_below s r zero h = let z : r ≡ 0 = omega arith in rw z (sym (mul-zero s))
gathered_below s r (suc w) h =
    compared w r
    (λ l.
    let z : r ≡ suc w = omega arith in
    let lower : gathered (λ b. cond (ltb b r) s 0) w ≡ s * (2 ^ w - 1) =
    gathered_same _ _ w (λ b m. below_bit s r b (omega arith) ∙ sym (below_bit s w b m)) ∙ gathered_below s w w (omega arith) in
    let sums : 2 ^ suc w - 1 ≡ 2 ^ w - 1 + 2 ^ w = omega (arith, two-pow-succ w, pow_pos w) in
    rw (below_bit s r w l, lower, z, sums) (sym (mul-add s (2 ^ w - 1) (2 ^ w))))
    (λ m. rw (le-ltb w r m, zero-mul) (add-zero _ ∙ gathered_below s r w m))

-- A byte of the image of a start state is told by how many fuses it has.
pub start_byte : (fuses s i r : ℕ) → i < (fuses + 7) / 8 → r ≤ 8 → (i * 8 + 8 ≤ fuses → r ≡ 8) → (fuses < i * 8 + 8 → r ≡ fuses - i * 8)
    → s * (2 ^ r - 1) ≡ get_or (image_with fuses (state_given s [])) i 0
unfolding state_given
start_byte fuses s i r l m e f =
    sym (image_at fuses (state_given s []) i l ∙ gathered_same _ _ 8 same ∙ gathered_below s r 8 m)
  where
    same : (b : ℕ) → b < 8 → within fuses (state_given s []) (i * 8 + b) ≡ cond (ltb b r) s 0
    same b h =
        compared (i * 8 + b) fuses
        (λ less. rw (lt-ltb (i * 8 + b) fuses less)
        (sym (below_bit s r b (compared fuses (i * 8 + 8) (λ p. omega (arith, f p)) (λ p. omega (arith, e p))))))
        (λ more. let past : r ≤ b = compared fuses (i * 8 + 8) (λ p. omega (arith, f p)) (λ p. omega arith) in
        rw (le-ltb (i * 8 + b) fuses more, le-ltb b r past))

-- A bit put in place in a gathered byte changes that bit alone.
module _ (h : ℕ → ℕ) (small : (b : ℕ) → h b < 2) (bit s : ℕ) (l : bit < 8) (m : s < 2) where
  gathered_put : put_bit (gathered h 8) bit s ≡ gathered (λ b. cond (eqb b bit) s (h b)) 8
  gathered_put =
      let x = put_bit (gathered h 8) bit s in
      let below : put_bit (gathered h 8) bit s < 2 ^ 8 = put_small (gathered h 8) bit s m 8 (gathered_small h small 8) l in
      sym (gathered_own (put_bit (gathered h 8) bit s) 8 ∙ mod-eq_of_lt below) ∙ gathered_same _ _ 8 same
    where
      same : (b : ℕ) → b < 8 → bit_of (put_bit (gathered h 8) bit s) b ≡ cond (eqb b bit) s (h b)
      same b lb = either_way (ℕ_discrete b bit)
        where
          either_way : Dec (b ≡ bit) → bit_of (put_bit (gathered h 8) bit s) b ≡ cond (eqb b bit) s (h b)
          either_way (yes e) = rw (eq-eqb b bit e, e) (put_same (gathered h 8) bit s m)
          either_way (no n) = rw (ne_eqb b bit n) (put_other (gathered h 8) bit s m b n ∙ gathered_bit h small 8 b lb)

-- The states with one of them changed.
abbrev changed : (ℕ → ℕ) → (fuse state : ℕ) → ℕ → ℕ
changed f fuse s k = cond (eqb k fuse) s (f k)

module _ (fuses : ℕ) (f : ℕ → ℕ) (small : (k : ℕ) → f k < 2) where
  put_state : (fuse s : ℕ) → fuse < fuses → s < 2 → with_fuse (image_with fuses f) fuse s ≡ image_with fuses (changed f fuse s)
  unfolding with_bit
  put_state fuse s l m =
      image_is fuses (changed f fuse s) _ (length-set (image_with fuses f) (fuse / 8) _ ∙ image_length fuses f)
      (λ i h. byte i h (ℕ_discrete i (fuse / 8)))
    where
      inside : fuse / 8 < (fuses + 7) / 8
      inside = omega arith

      byte : (i : ℕ) → i < (fuses + 7) / 8 → Dec (i ≡ fuse / 8)
          → get_or (set (image_with fuses f) (fuse / 8) (put_bit (get_or (image_with fuses f) (fuse / 8) 0) (fuse % 8) s)) i 0
          ≡ gathered (λ b. within fuses (changed f fuse s) (i * 8 + b)) 8
      byte i h (yes e) =
          rw (
            e,
            get_or-set_same (image_with fuses f) (fuse / 8) (put_bit (get_or (image_with fuses f) (fuse / 8) 0) (fuse % 8) s) 0
                (rw (image_length fuses f) inside),
            image_at fuses f (fuse / 8) inside,
          )
          (gathered_put (λ b. within fuses f (fuse / 8 * 8 + b)) (λ b. within_small fuses f small (fuse / 8 * 8 + b))
          (fuse % 8) s (omega arith) m
          ∙ gathered_same _ _ 8 (λ b lb. here b (ℕ_discrete b (fuse % 8))))
        where
          here : (b : ℕ) → Dec (b ≡ fuse % 8)
              → cond (eqb b (fuse % 8)) s (within fuses f (fuse / 8 * 8 + b)) ≡ within fuses (changed f fuse s) (fuse / 8 * 8 + b)
          here b (yes q) =
              let this : fuse / 8 * 8 + b ≡ fuse = omega arith in
              rw (eq-eqb b (fuse % 8) q, this, lt-ltb fuse fuses l, eq-eqb fuse fuse refl)
          here b (no n) =
              let other : fuse / 8 * 8 + b ≡ fuse → ⊥ = λ z. n (omega arith) in
              rw (ne_eqb b (fuse % 8) n, ne_eqb (fuse / 8 * 8 + b) fuse other)
      byte i h (no n) =
          get_or-set_other (image_with fuses f) (fuse / 8) i _ 0 n ∙ image_at fuses f i h
          ∙ gathered_same _ _ 8
          (λ b lb.
          let other : i * 8 + b ≡ fuse → ⊥ = λ z. n (omega arith) in
          rw (ne_eqb (i * 8 + b) fuse other))

-- The state of a fuse with a list of states put in place.
abbrev pub over : (ℕ → ℕ) → (first : ℕ) → (states : List ℕ) → ℕ → ℕ
over f first states k = cond (leb first k && ltb k (first + length states)) (get_or states (k - first) 0) (f k)

abbrev pub Bits : List ℕ → Type 0
Bits states = (k : ℕ) → get_or states k 0 < 2

changed_small : (f : ℕ → ℕ) (fuse s : ℕ) → ((k : ℕ) → f k < 2) → s < 2 → (k : ℕ) → changed f fuse s k < 2
changed_small f fuse s small m k = go (eqb k fuse)
  where
    go : (t : Bool) → cond t s (f k) < 2
    go true = m
    go false = small k

over_more : (f : ℕ → ℕ) (first s : ℕ) (states : List ℕ) (k : ℕ)
    → over (changed f first s) (first + 1) states k ≡ over f first (s ∷ states) k
over_more f first s states k =
    compared k first
    (λ l.
    let ne : k ≡ first → ⊥ = λ e. omega arith in
    rw (lt-leb first k l, lt-leb (first + 1) k (omega arith), ne_eqb k first ne))
    (λ g. at_or_past g (ℕ_discrete k first))
  where
    at_or_past : first ≤ k → Dec (k ≡ first) → over (changed f first s) (first + 1) states k ≡ over f first (s ∷ states) k
    at_or_past g (yes e) =
        let z : k - first ≡ 0 = omega arith in
        rw (le-leb first k g, lt-leb (first + 1) k (omega arith), eq-eqb k first e, lt-ltb k (first + suc (length states)) (omega arith), z)
    at_or_past g (no n) =
        let more : first + 1 ≤ k = omega arith in
        let back : k - first ≡ suc (k - (first + 1)) = omega arith in
        let same : first + 1 + length states ≡ first + suc (length states) = omega arith in
        rw (le-leb first k g, le-leb (first + 1) k more, ne_eqb k first n, back, same)

pub put_states : (fuses : ℕ) (states : List ℕ) (f : ℕ → ℕ) (first : ℕ) → ((k : ℕ) → f k < 2) → Bits states → first + length states ≤ fuses
    → with_states (image_with fuses f) first states ≡ image_with fuses (over f first states)
unfolding with_states
put_states fuses [] f first small bits l =
    image_same fuses f (over f first [])
    (λ k h. compared k first (λ m. rw (lt-leb first k m)) (λ g. rw (le-leb first k g, le-ltb k (first + 0) (omega arith))))
put_states fuses (s ∷ states) f first small bits l =
    ap (λ (image : List ℕ). with_states image (first + 1) states) (put_state fuses f small first s (omega arith) (bits 0))
    ∙ put_states fuses states (changed f first s) (first + 1) (changed_small f first s small (bits 0)) (λ k. bits (suc k)) (omega arith)
    ∙ image_same fuses _ _ (λ k h. over_more f first s states k)
