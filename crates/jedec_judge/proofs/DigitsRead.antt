-- What a digit stands for, and the numbers that digits write while they are read.
-- A loop keeps each law, since it is said of the bytes still to come.
use mathlib.Core.Path.{◌≡◌, refl}
use mathlib.Core.Bool.{Bool, true, false, cond, ◌&&◌}
use mathlib.Core.List.{List}
use mathlib.Core.Option.{Option}
use mathlib.Core.Option.Option.{none, some}
use Prim.Native.Nat.{ℕ, ◌+◌, ◌*◌, ◌-◌, ◌^◌, ◌≤◌, ◌<◌}
use native.Mathlib.Omega.{arith}
use native.Mathlib.Nat.{pow-zero, pow-suc, pow-le-pow_right, lt_of_lt_of_le}
use native.Mathlib.Numerals.{add-one}
use lib.Arith.{digits_lt}
use lib.Dec.{leb}
use lib.ListN.{length, get_or, drop, drop_of_length-le}
use lib.Seq.{drop-cons}
use borrow.Author.Tests.{leb-true}
use Rattle.jedec.specs.Characters.{between, decimal_value, hex_value, digits_read}

-- What a digit stands for is below the base.
abbrev pub IsBelow : ℕ → Option ℕ → Type 0
IsBelow k none = Unit {0}
IsBelow k (some y) = y < k

pub digit_below : (k y : ℕ) (o : Option ℕ) → IsBelow k o → some y ≡ o → y < k
digit_below k y o b e = rw (← e) at b

between_below : (k low high base b : ℕ) (o : Option ℕ) → high + base < low + k → IsBelow k o → IsBelow k (between low high base b o)
between_below k low high base b o fits rest = go (leb low b) (leb b high) refl refl
  where
    go : (t u : Bool) → leb low b ≡ t → leb b high ≡ u → IsBelow k (cond (t && u) (some (b - low + base)) o)
    go true true e f =
        let l : low ≤ b = leb-true low b e in
        let m : b ≤ high = leb-true b high f in
        omega arith
    go true false e f = rest
    go false u e f = rest

pub decimal_below : (b : ℕ) → IsBelow 10 (decimal_value b)
decimal_below b = between_below 10 48 57 0 b none (omega arith) tt

pub hex_below : (b : ℕ) → IsBelow 16 (hex_value b)
hex_below b =
    between_below 16 48 57 0 b _ (omega arith)
    (between_below 16 65 70 10 b _ (omega arith) (between_below 16 97 102 10 b none (omega arith) tt))

-- The digits so far write a number, and the bytes still to come are read on from it.
pub record Reading (base : ℕ) (digit : ℕ → Option ℕ) (bytes : List ℕ) (x i : ℕ) : Type 0 where
  pub upto : i ≤ length bytes
  pub small : x < base ^ i
  pub rest : digits_read base digit x (drop i bytes) ≡ digits_read base digit 0 bytes

module _ (base : ℕ) (digit : ℕ → Option ℕ) (bytes : List ℕ) where
  pub reading_starts : Reading base digit bytes 0 0
  reading_starts = record { upto = omega arith; small = rw (pow-zero base) (omega arith); rest = refl }

  module _ (x i : ℕ) (r : Reading base digit bytes x i) (l : i < length bytes) where
    pub reading_goes : (y : ℕ) → some y ≡ digit (get_or bytes i 0) → y < base → Reading base digit bytes (x * base + y) (i + 1)
    unfolding digits_read
    reading_goes y e less =
        record {
          upto = omega arith;
          small = rw (add-one i, pow-suc base i) (digits_lt r.small less);
          rest = rw add-one (rw (drop-cons bytes i 0 l, ← e) at r.rest);
        }

    pub reading_stops : none ≡ digit (get_or bytes i 0) → none ≡ digits_read base digit 0 bytes
    unfolding digits_read
    reading_stops e = rw (drop-cons bytes i 0 l, ← e) at r.rest

  pub reading_ends : (x i : ℕ) → Reading base digit bytes x i → length bytes ≤ i → some x ≡ digits_read base digit 0 bytes
  unfolding digits_read
  reading_ends x i r l = rw (drop_of_length-le bytes l) at r.rest

  pub reading_small : (x i k : ℕ) → Reading base digit bytes x i → 0 < base → i ≤ k → x < base ^ k
  reading_small x i k r p l = lt_of_lt_of_le r.small (pow-le-pow_right p l)
