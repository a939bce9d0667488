-- States counted over the first bytes of an L field.
-- Assumes nothing.
use mathlib.Core.Path.{◌≡◌, refl, sym, ◌∙◌, ap, subst}
use mathlib.Core.List.{List, ◌++◌}
use mathlib.Core.Option.{Option}
use mathlib.Core.Option.Option.{none, some}
use Prim.Native.Nat.{ℕ, ◌+◌, ◌*◌, ◌%◌, ◌^◌, ◌≤◌, ◌<◌}
use native.Mathlib.Omega.{arith}
use native.Mathlib.Nat.{mul-one}
use native.Mathlib.Numerals.{add-one}
use lib.ListN.{length, get_or, take, drop, replicate, length-append, length-replicate}
use lib.Pow.{pow_mono, shl_exact}
use lib.Seq.{take-add}
use Rattle.cells.specs.Cells.{cut, join}
use Rattle.cells.proofs.Laws.{cut_length, join_small, total_replicate}
use Rattle.jedec.specs.Judge.{states_in}
use mir.Syntax.{w8}
use mir.Val.{Fits}
use Rattle.jedec_runs.specs.Runs.{IsBlankAt, StatesAt}
use Rattle.jedec_runs.proofs.StatesTaken.{StatesTaken, taken_at}
use Rattle.jedec_runs.proofs.StatesWritten.{states_append, states_none}
use Rattle.jedec_runs.proofs.BitsJoined.{bits_under, bits_joined}
use Rattle.jedec_judge.specs.Judged.{or_empty, states_of, states_in_word, AsBits}
use Rattle.jedec_fields.specs.Fields.{states_count, RunStands}
use Rattle.jedec_fields.specs.declared.lists.StatesRun.{StatesRun}

-- Where states are counted, there are so many.
pub some_counted : (o : Option (List ℕ)) (n : ℕ) → some n ≡ states_count o → (o ≡ some (or_empty o)) × (length (or_empty o) ≡ n)
some_counted none n e = let z : ◌≡◌ {A = ℕ} 0 1 = cc in absurd (omega arith)
some_counted (some states) n e = let h : n ≡ length states = cc in (refl, sym h)

-- The first bytes write so many states, and few are told as bits.
pub record StatesCounted (bytes : List ℕ) (r : StatesRun) : Type 0 where
  pub upto : r.length ≤ length bytes
  pub few : r.count ≤ r.length
  pub so_far : states_count (states_in (take r.length bytes)) ≡ some r.count
  pub told : r.count ≤ states_in_word → AsBits (states_of (take r.length bytes)) r.count r.bits

pub counted_start : (bytes : List ℕ) → StatesCounted bytes (record { length = 0; count = 0; bits = 0 })
unfolding states_in states_of cut
counted_start bytes =
    record { upto = omega arith; few = omega arith; so_far = refl; told = λ l. record { small = omega arith; are = refl } }

module _ (bytes : List ℕ) (r : StatesRun) (c : StatesCounted bytes r) where
  counted : (states_in (take r.length bytes) ≡ some (or_empty (states_in (take r.length bytes))))
      × (length (or_empty (states_in (take r.length bytes))) ≡ r.count)
  counted = some_counted (states_in (take r.length bytes)) r.count (sym c.so_far)

  module _ (count z : ℕ) (l : r.length < length bytes) (o : (k : ℕ) → Fits w8 (get_or bytes k 0)) (there : StatesAt bytes r.length count)
      (blank : IsBlankAt bytes (r.length + count) z) where
    s : StatesTaken bytes r.length count (count + z)
    s = taken_at bytes r.length count z l o there blank

    pub counted_stop : count + z ≡ 0 → RunStands bytes r
    counted_stop none_there =
        record {
          inside = c.upto;
          few = c.few;
          writes = c.so_far;
          stops =
              λ l. rw (← add-one r.length)
              (ap states_in (take-add r.length 1 bytes)
              ∙ states_none (take r.length bytes) (take 1 (drop r.length bytes)) _ counted.0 (s.stops none_there));
          told = c.told;
        }

    pub counted_inside : r.length + (count + z) ≤ length bytes
    counted_inside = s.inside

    abbrev before : List ℕ
    before = or_empty (states_in (take r.length bytes))

    abbrev group : ℕ
    group = join (replicate count 1) (drop r.length bytes)

    all : states_in (take (r.length + (count + z)) bytes) ≡ some (before ++ cut (replicate count 1) group)
    all =
        ap states_in (take-add r.length (count + z) bytes)
        ∙ states_append (take r.length bytes) (take (count + z) (drop r.length bytes)) before counted.0 (cut (replicate count 1) group)
        s.writes

    so_far_next : states_count (states_in (take (r.length + (count + z)) bytes)) ≡ some (r.count + count)
    so_far_next =
        let long : length (before ++ cut (replicate count 1) group) ≡ r.count + count =
        length-append before (cut (replicate count 1) group)
        ∙ rw (counted.1, cut_length (replicate count 1) group, length-replicate {A = ℕ} count 1) in
        ap states_count all ∙ ap some long

    -- More states than are told as bits.
    pub counted_more : states_in_word < r.count
        → StatesCounted bytes (record { length = r.length + (count + z); count = r.count + count; bits = r.bits })
    counted_more m =
        record { upto = s.inside; few = omega (arith, c.few); so_far = so_far_next; told = λ l. absurd (omega arith) }

    module _ (m : r.count ≤ states_in_word) (x : ℕ) (e : x ≡ join (replicate count 1) (drop r.length bytes)) where
      group_small : x < 2 ^ count
      group_small =
          rw e (subst (λ (k : ℕ). join (replicate count 1) (drop r.length bytes) < 2 ^ k) (total_replicate count 1 ∙ mul-one count)
          (join_small (replicate count 1) (drop r.length bytes)))

      exact : x * 2 ^ r.count % 2 ^ 64 ≡ x * 2 ^ r.count
      exact = shl_exact count r.count 64 group_small (omega (arith, there.few))

      next_under : r.bits + x * 2 ^ r.count % 2 ^ 64 < 2 ^ (r.count + count)
      next_under = rw exact (bits_under r.count count r.bits x (c.told m).small group_small)

      pub bits_fit : r.bits + x * 2 ^ r.count % 2 ^ 64 < 2 ^ 64
      bits_fit = let w : r.count + count ≤ 64 = omega (arith, there.few) in omega (arith, next_under, pow_mono w)

      pub counted_next : StatesCounted bytes
          (record { length = r.length + (count + z); count = r.count + count; bits = r.bits + x * 2 ^ r.count % 2 ^ 64 })
      unfolding states_of
      counted_next =
          record {
            upto = s.inside;
            few = omega (arith, c.few);
            so_far = so_far_next;
            told = λ l.
                record {
                  small = next_under;
                  are =
                      ap or_empty all ∙ ap (λ (a : List ℕ). a ++ cut (replicate count 1) group) (c.told m).are
                      ∙ rw (exact, e) (bits_joined r.count count r.bits group (c.told m).small);
                };
          }

  pub counted_end : length bytes ≤ r.length → RunStands bytes r
  counted_end l = record { inside = c.upto; few = c.few; writes = c.so_far; stops = λ m. absurd (omega arith); told = c.told }
