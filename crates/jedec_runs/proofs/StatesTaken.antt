-- What stands at an offset, states or a blank, and what is taken there.
-- Assumes nothing.
use Rattle.std.proofs.Common.{◌≡◌, ℕ, suc, ◌+◌, ◌-◌, ◌/◌, ◌%◌, ◌^◌, ◌<◌, ◌≤◌, true, false, ◌||◌, eqb, List, [], length, get_or, take, drop, replicate, sym, ap, ◌∙◌, append-nil, add-zero, mod-eq_of_lt, arith, length-drop, get_or-drop, drop-cons, drop-drop, take-add, w8, Fits}
use mathlib.Core.Option.Option.{none, some}
use lib.Bits.{bit_and}
use Rattle.cells.specs.Cells.{cut, join}
use Rattle.cells.proofs.Laws.{join_small, total_replicate}
use Rattle.jedec.specs.Judge.{states_in}
use Rattle.jedec_runs.specs.Runs.{AllStates, one_if_blank, IsBlankAt, StatesAt}
use Rattle.jedec_runs.proofs.Words.{no_states, spread, and_apart}
use Rattle.jedec_runs.proofs.LowestBits.{bits_low}
use Rattle.jedec_runs.proofs.StatesWritten.{Octets, states_append, state_half, states_written, blank_written, no_blank}

-- A blank behind states writes no state.
with_blank : (bytes : List ℕ) (at k z : ℕ) (states : List ℕ) → IsBlankAt bytes (at + k) z → states_in (take k (drop at bytes)) ≡ some states
    → states_in (take (k + z) (drop at bytes)) ≡ some states
with_blank bytes at k z states b e =
    let behind : drop k (drop at bytes) ≡ drop (at + k) bytes = drop-drop k at bytes in
    let blank : states_in (take z (drop k (drop at bytes))) ≡ some [] = rw (behind, b.is) (blank_written (drop (at + k) bytes)) in
    rw (take-add k z (drop at bytes)) (states_append (take k (drop at bytes)) (take z (drop k (drop at bytes))) states e [] blank)
    ∙ ap some (append-nil states)

module _ (bytes : List ℕ) (at : ℕ) where
  -- A word gives the bits of its first states.
  pub bits_by_word : (word whole r count : ℕ) → word ≡ join (replicate 8 8) (drop at bytes) → count ≤ 8
      → ((x : ℕ) → x < 2 ^ 8 → bit_and word 0x0101010101010101 ≡ join (replicate 8 8) (cut (replicate 8 1) x) → whole ≡ x)
      → r ≡ whole % 2 ^ count → r ≡ join (replicate count 1) (drop at bytes)
  unfolding spread
  bits_by_word word whole r count is few w e =
      let here : whole ≡ join (replicate 8 1) (drop at bytes) =
      w (join (replicate 8 1) (drop at bytes)) (rw (total_replicate 8 1) at (join_small (replicate 8 1) (drop at bytes)))
      (and_apart word (drop at bytes) is) in
      let more : count + (8 - count) ≡ 8 = omega arith in
      e ∙ ap (λ (x : ℕ). x % 2 ^ count) here ∙ ap (λ (n : ℕ). join (replicate n 1) (drop at bytes) % 2 ^ count) (sym more)
      ∙ bits_low count (8 - count) (drop at bytes)

  pub by_word : (word count : ℕ) → 8 ≤ length bytes - at → word ≡ join (replicate 8 8) (drop at bytes) → count ≤ 8
      → ((cs : List ℕ) → word ≡ join (replicate 8 8) cs → AllStates count cs) → 0 < count → StatesAt bytes at count
  by_word word count l is few s m =
      record { inside = omega arith; few = few; states = s (drop at bytes) is; stops = λ z. absurd (omega arith) }

  module _ (l : at < length bytes) (o : (k : ℕ) → Fits w8 (get_or bytes k 0)) where
    pub one_state : (eqb (get_or bytes at 0) 48 || eqb (get_or bytes at 0) 49) ≡ true → StatesAt bytes at 1
    unfolding AllStates
    one_state s =
        let first : get_or (drop at bytes) 0 0 ≡ get_or bytes at 0 =
        get_or-drop at bytes 0 0 ∙ ap (λ (n : ℕ). get_or bytes n 0) (add-zero at) in
        let half : get_or bytes at 0 / 2 ≡ 24 = state_half (get_or bytes at 0) s in
        record {
          inside = omega arith;
          few = omega arith;
          states = (rw (first, mod-eq_of_lt (o at).fits) half, tt);
          stops = λ z. absurd (omega arith);
        }

    pub none_taken : (eqb (get_or bytes at 0) 48 || eqb (get_or bytes at 0) 49) ≡ false → StatesAt bytes at 0
    none_taken s = record { inside = omega arith; few = omega arith; states = no_states (drop at bytes); stops = λ z. s }

-- States and a blank behind them are taken at an offset; nothing is taken only where no state and no blank stands.
pub record StatesTaken (bytes : List ℕ) (at count taken : ℕ) : Type 0 where
  pub inside : at + taken ≤ length bytes
  pub writes : states_in (take taken (drop at bytes)) ≡ some (cut (replicate count 1) (join (replicate count 1) (drop at bytes)))
  pub stops : taken ≡ 0 → states_in (take 1 (drop at bytes)) ≡ none

pub taken_at : (bytes : List ℕ) (at count z : ℕ) → at < length bytes → ((k : ℕ) → Fits w8 (get_or bytes k 0)) → StatesAt bytes at count
    → IsBlankAt bytes (at + count) z → StatesTaken bytes at count (count + z)
unfolding states_in
taken_at bytes at count z l o s b =
    let octets : Octets (drop at bytes) = λ k. rw (get_or-drop at bytes k 0) (o (at + k)).fits in
    let long : count ≤ length (drop at bytes) = rw (length-drop at bytes) (omega (arith, s.inside)) in
    record {
      inside = omega (arith, b.inside s.inside);
      writes = with_blank bytes at count z _ b (states_written count (drop at bytes) long octets s.states);
      stops = λ h.
          let c : count ≡ 0 = omega arith in
          let y : z ≡ 0 = omega arith in
          let here : at + count ≡ at = omega arith in
          let none-blank : one_if_blank (drop at bytes) ≡ 0 = sym (rw (here, y) at b.is) in
          rw (
            drop-cons bytes at 0 l,
            no_blank (drop at bytes) (get_or bytes at 0) (drop (suc at) bytes) (drop-cons bytes at 0 l) none-blank,
            s.stops c,
          );
    }
