-- Bytes stored one part after another, where a part may leave bytes behind it that the next replaces.
-- Assumes nothing.
use mathlib.Core.Path.{◌≡◌, refl, sym, ◌∙◌, ap}
use mathlib.Core.List.{List, [], ◌∷◌, ◌++◌, append_assoc}
use Prim.Native.Nat.{ℕ, suc, ◌+◌, ◌≤◌, ◌<◌}
use native.Mathlib.Omega.{arith}
use native.Mathlib.Nat.{zero-add, le_of_suc-le-suc, not-suc-le-zero}
use lib.ListN.{length, set, get_or, take, drop, length-append}
use lib.Seq.{sets, sets-eq, set-set, set_comm}
use Rattle.std.proofs.lemmas.List.{take_more, length-take-le}
use Rattle.cells.proofs.Laws.{sets_append}
use Rattle.jedec_lines.specs.Columns.{Stored}

-- Bytes stored over fewer others replace them.
set_before : (l bytes : List ℕ) (i j b : ℕ) → i < j → set (sets l j bytes) i b ≡ sets (set l i b) j bytes
set_before l [] i j b h = refl
set_before l (c ∷ bytes) i j b h =
    set_before (set l j c) bytes i (suc j) b (omega arith)
    ∙ ap (λ (m : List ℕ). sets m (suc j) bytes) (set_comm l j i c b (λ e. omega arith))

stored_over : (l old bytes : List ℕ) (at : ℕ) → length old ≤ length bytes → sets (sets l at old) at bytes ≡ sets l at bytes
stored_over l [] bytes at h = refl
stored_over l (c ∷ old) [] at h = absurd (not-suc-le-zero h)
stored_over l (c ∷ old) (b ∷ bytes) at h =
    ap (λ (m : List ℕ). sets m (suc at) bytes) (set_before (set l at c) old at (suc at) b (omega arith))
    ∙ rw (set-set l at c b) (stored_over (set l at b) old bytes (suc at) (le_of_suc-le-suc h))

overwritten : (l bytes old new : List ℕ) (at here : ℕ) → here ≡ at + length bytes → length old ≤ length new
    → sets (sets l at (bytes ++ old)) here new ≡ sets l at (bytes ++ new)
overwritten l bytes old new at here e h =
    rw (e, sets_append l at bytes old, sets_append l at bytes new) (stored_over (sets l at bytes) old new (at + length bytes) h)

-- Three lists of bytes stored one after another are stored as one.
pub three_parts : (out one two three a b c : List ℕ) (at p q : ℕ) → one ≡ sets out at a → two ≡ sets one p b → three ≡ sets two q c
    → p ≡ at + length a → q ≡ p + length b → three ≡ sets out at (a ++ b ++ c)
three_parts out one two three a b c at p q e1 e2 e3 ep eq =
    let place : q ≡ at + length (a ++ b) = omega (arith, length-append a b) in
    e3 ∙ rw (e2, e1, place, ep)
    (sym (sets_append out at (a ++ b) c ∙ ap (λ (l : List ℕ). sets l (at + length (a ++ b)) c) (sets_append out at a b)))

-- Bytes stored behind stored ones replace what was left there; the last ones leave nothing behind them.
pub stored_next : {before after next bytes new : List ℕ} {at : ℕ} (here : ℕ) → Stored before after at bytes
    → here ≡ at + length bytes → 2 ≤ length new → Stored after next here new → Stored before next at (bytes ++ new)
stored_next {before} {after} {next} {bytes} {new} {at} here s e h t =
    let enough : length s.more ≤ length (new ++ t.more) = omega (arith, s.few, length-append new t.more) in
    record {
      more = t.more;
      few = t.few;
      holds =
          t.holds ∙ rw s.holds
          (overwritten before bytes s.more (new ++ t.more) at here e enough
          ∙ ap (sets before at) (sym (append_assoc bytes new t.more)));
    }

pub stored_last : {before after bytes : List ℕ} {at : ℕ} (here : ℕ) (next new : List ℕ) → Stored before after at bytes
    → here ≡ at + length bytes → 2 ≤ length new → next ≡ sets after here new → next ≡ sets before at (bytes ++ new)
stored_last {before} {after} {bytes} {at} here next new s e h f =
    f ∙ rw s.holds (overwritten before bytes s.more new at here e (omega (arith, s.few)))

-- Bytes stored one by one: when `k` of them are, the next one follows.
pub next_stored : (out now bytes : List ℕ) (at k : ℕ) → now ≡ sets out at (take k bytes) → k < length bytes
    → set now (at + k) (get_or bytes k 0) ≡ sets out at (take (k + 1) bytes)
next_stored out now bytes at k e h =
    let long : length (take k bytes) ≡ k = length-take-le k bytes (omega arith) in
    rw (e, take_more bytes k 0 h, sets_append out at (take k bytes) (get_or bytes k 0 ∷ []), long)

-- What is stored from the first byte on is what the list then starts with.
pub stored_first : (out bytes : List ℕ) (n : ℕ) → length bytes ≡ n → n ≤ length out → sets out 0 bytes ≡ bytes ++ drop n out
stored_first out bytes n e h = sets-eq bytes out 0 (omega arith) ∙ rw (zero-add (length bytes), e)
