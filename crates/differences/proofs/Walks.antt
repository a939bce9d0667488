-- The walk over the words of two images: what is counted or put so far, and what is to come, are all that differs.
-- Assumes nothing.
use mathlib.Core.Path.{◌≡◌, sym, ◌∙◌, ap, subst}
use mathlib.Core.Bool.{true}
use mathlib.Core.List.{List, [], ◌++◌}
use Prim.Native.Nat.{ℕ, ◌+◌, ◌*◌, ◌-◌, ◌^◌, ◌≤◌, ◌<◌}
use native.Mathlib.Omega.{arith}
use lib.Bits.{bit_xor, xor_lt}
use lib.Count.{ones}
use lib.ListN.{length, drop, replicate, length-append}
use Rattle.cells.specs.Cells.{join}
use Rattle.cells.proofs.Laws.{join_few}
use Rattle.part.specs.Device.{known, fuse_count, image_bytes}
use Rattle.part.specs.declared.Device.{Device}
use Rattle.part.proofs.Devices.{fuses_small, image_whole}
use Rattle.differences.specs.Differences.{differing, differing_fuses, lines_of}
use Rattle.differences.specs.Scan.{ones_from, HasStates, AllBelow, lines_bytes, lines_with, Laid, differing_from}
use Rattle.differences.proofs.Ones.{ones_count, xor_ones}
use Rattle.differences.proofs.Differing.{differ_few, past_all, word_differs, word_below, word_states}
use Rattle.differences.proofs.LineTexts.{bytes_append, lines_append, lines_count, lines_same}
use Rattle.differences.proofs.LaidText.{Going, going_start, going_end, going_fits}

module _ (d : Device) (old new : List ℕ) (k : known d ≡ true) (lo : length old ≡ image_bytes d) (ln : length new ≡ image_bytes d) where
  pub same_length : length new ≡ length old
  same_length = ln ∙ sym lo

  whole : length old * 8 ≡ fuse_count d
  whole = ap (λ (n : ℕ). n * 8) lo ∙ sym (image_whole d k)

  pub few_bytes : length old ≤ 36288
  few_bytes = omega (arith, whole, fuses_small d k)

  pub most_differ : length (differing_fuses d old new) ≤ 290304
  unfolding differing_fuses
  most_differ = omega (arith, differ_few old new (fuse_count d) 0, fuses_small d k)

  -- All that differs is what differs from the first byte on.
  pub from_start : differing_fuses d old new ≡ differing_from old new 0
  unfolding differing_fuses
  from_start = let all : fuse_count d ≡ length old * 8 - 0 * 8 = omega (arith, whole) in ap (differing old new 0) all

  pub from_first : (at : ℕ) → differing_from old new 0 ≡ differing_from old new at → differing_fuses d old new ≡ differing_from old new at
  from_first at e = from_start ∙ e

  pub none_behind : (at : ℕ) → length old ≤ at → differing_from old new at ≡ []
  none_behind at h = past_all old new at h

  -- A word, and what is behind it.
  module _ (at a b r : ℕ) (there : at < length old) (ea : a ≡ join (replicate 8 8) (drop at old))
      (eb : b ≡ join (replicate 8 8) (drop at new))
    where
      pub ones_there : AllBelow (fuse_count d) (ones_from (at * 8) (bit_xor a b) 64)
      ones_there = subst (λ (n : ℕ). AllBelow n (ones_from (at * 8) (bit_xor a b) 64)) whole
          (word_below old new same_length at a b (omega arith) ea eb)

      small : bit_xor a b < 2 ^ 64
      small =
          xor_lt 64 a b (rw ea (join_few 8 8 8 (drop at old) (omega arith) (omega arith)))
          (rw eb (join_few 8 8 8 (drop at new) (omega arith) (omega arith)))

      module _ (e : differing_from old new (at + 8) ≡ differing_from old new r) where
        parts : differing_from old new at ≡ ones_from (at * 8) (bit_xor a b) 64 ++ differing_from old new r
        parts =
            word_differs old new same_length at a b (omega arith) ea eb
            ∙ ap (λ (l : List ℕ). ones_from (at * 8) (bit_xor a b) 64 ++ l) e

        pub fuses_on : (fuses all : ℕ) → fuses + length (differing_from old new at) ≡ all
            → fuses + ones (bit_xor a b) + length (differing_from old new r) ≡ all
        fuses_on fuses all h =
            let long : length (differing_from old new at) ≡ ones (bit_xor a b) + length (differing_from old new r) =
            ap length parts ∙ length-append (ones_from (at * 8) (bit_xor a b) 64) (differing_from old new r)
            ∙ ap (λ (n : ℕ). n + length (differing_from old new r)) (ones_count 64 (at * 8) (bit_xor a b) small) in
            omega (arith, h, long)

        pub words_on : (bytes more all : ℕ) → bytes + lines_bytes d (differing_from old new at) ≡ all
            → more ≡ lines_bytes d (ones_from (at * 8) (bit_xor a b) 64) → bytes + more + lines_bytes d (differing_from old new r) ≡ all
        words_on bytes more all h f =
            let long : lines_bytes d (differing_from old new at)
            ≡ lines_bytes d (ones_from (at * 8) (bit_xor a b) 64) + lines_bytes d (differing_from old new r) =
            ap (lines_bytes d) parts ∙ bytes_append d (ones_from (at * 8) (bit_xor a b) 64) (differing_from old new r) in
            omega (arith, h, long, f)

        -- The lines of the word, and those behind it.
        pub text_on : lines_of d old new (differing_from old new at)
            ≡ lines_with d (at * 8) a (ones_from (at * 8) (bit_xor a b) 64) ++ lines_of d old new (differing_from old new r)
        text_on =
            let has : HasStates old (at * 8) a = λ j l. rw ea (word_states old at j l) in
            let others : HasStates new (at * 8) b = λ j l. rw eb (word_states new at j l) in
            let same : differing old new (at * 8) 64 ≡ ones_from (at * 8) (bit_xor a b) 64 =
            xor_ones 64 (at * 8) old new a b has others in
            let lines : lines_with d (at * 8) a (ones_from (at * 8) (bit_xor a b) 64)
            ≡ lines_of d old new (ones_from (at * 8) (bit_xor a b) 64) =
            rw same at (lines_same d old new (at * 8) a has 64 (at * 8) (omega arith) (omega arith)) in
            ap (lines_of d old new) parts ∙ lines_append d old new (ones_from (at * 8) (bit_xor a b) 64) (differing_from old new r)
            ∙ ap (λ (l : List ℕ). l ++ lines_of d old new (differing_from old new r)) (sym lines)

      -- The lines of the word lie before the end.
      pub text_fits : (before after : List ℕ) (start until next end : ℕ)
          → Going before after start until (lines_of d old new (differing_from old new at)) (lines_of d old new (differing_fuses d old new))
          next
          → start + lines_bytes d (differing_fuses d old new) ≡ end → next + lines_bytes d (ones_from (at * 8) (bit_xor a b) 64) ≤ end
      text_fits before after start until next end g h =
          let sum = going_fits before after _ _ start until next g in
          let rest = lines_count d old new (differing_from old new at) in
          let all = lines_count d old new (differing_fuses d old new) in
          let long : lines_bytes d (differing_from old new at)
          ≡ lines_bytes d (ones_from (at * 8) (bit_xor a b) 64) + lines_bytes d (differing_from old new (at + 8)) =
          ap (lines_bytes d) (word_differs old new same_length at a b (omega arith) ea eb)
          ∙ bytes_append d (ones_from (at * 8) (bit_xor a b) 64) (differing_from old new (at + 8)) in
          omega (arith, sum, rest, all, long, h)

      -- The count does not pass what there is.
      pub fuses_fit : (fuses : ℕ) → fuses + length (differing_from old new at) ≡ length (differing_fuses d old new)
          → fuses + ones (bit_xor a b) ≤ 290304
      fuses_fit fuses h =
          let long : length (differing_from old new at) ≡ ones (bit_xor a b) + length (differing_from old new (at + 8)) =
          ap length (word_differs old new same_length at a b (omega arith) ea eb)
          ∙ length-append (ones_from (at * 8) (bit_xor a b) 64) (differing_from old new (at + 8))
          ∙ ap (λ (n : ℕ). n + length (differing_from old new (at + 8))) (ones_count 64 (at * 8) (bit_xor a b) small) in
          omega (arith, h, long, most_differ)

  pub counted_all : (fuses at all : ℕ) → length old ≤ at → fuses + length (differing_from old new at) ≡ all → fuses ≡ all
  counted_all fuses at all h e = let f = rw (none_behind at h) at e in omega arith

  pub measured_all : (bytes at all : ℕ) → length old ≤ at → bytes + lines_bytes d (differing_from old new at) ≡ all → bytes ≡ all
  unfolding lines_bytes
  measured_all bytes at all h e = let f = rw (none_behind at h) at e in omega arith

  pub put_start : (before : List ℕ) (at i end : ℕ) → differing_from old new 0 ≡ differing_from old new i → at ≤ length before
      → Going before before at end (lines_of d old new (differing_from old new i)) (lines_of d old new (differing_fuses d old new)) at
  put_start before at i end e h =
      rw (← from_first i e) (going_start before (lines_of d old new (differing_fuses d old new)) at end h)

  pub put_all : (before after : List ℕ) (at i end next : ℕ) → length old ≤ i
      → Going before after at end (lines_of d old new (differing_from old new i)) (lines_of d old new (differing_fuses d old new)) next
      → at + lines_bytes d (differing_fuses d old new) ≡ end
      → Laid before after at end (lines_of d old new (differing_fuses d old new)) end
  unfolding lines_of
  put_all before after at i end next h g e =
      let laid = going_end before after _ _ at end next g (ap (lines_of d old new) (none_behind i h)) in
      let same : next ≡ end = omega (arith, laid.ends, lines_count d old new (differing_fuses d old new)) in
      rw same at laid
