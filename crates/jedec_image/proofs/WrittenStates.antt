-- Bytes that write states, all of them: the first state, the states of which some are taken, and that each is 0 or 1.
-- Assumes nothing.
use mathlib.Core.Path.{◌≡◌, refl, sym, ◌∙◌, ap}
use mathlib.Core.Bool.{Bool, true, false, cond, ◌||◌}
use mathlib.Core.List.{List, [], ◌∷◌, ◌++◌}
use mathlib.Core.Option.{Option}
use mathlib.Core.Option.Option.{none, some}
use Prim.Native.Nat.{ℕ, zero, suc, ◌+◌, ◌-◌, ◌<◌}
use native.Mathlib.Omega.{arith}
use lib.Dec.{eqb}
use lib.ListN.{get_or, take, drop, take-append-drop}
use lib.Seq.{drop-drop}
use borrow.Author.Tests.{eqb-true}
use Rattle.part.proofs.Facts.{either}
use Rattle.jedec.specs.Characters.{is_blank, and_then}
use Rattle.jedec.specs.Judge.{with_first, states_in}
use Rattle.jedec_runs.proofs.StatesWritten.{states_append, states_none}
use Rattle.jedec_judge.specs.Judged.{or_empty, states_of}

-- Bytes that write states, all of them.
abbrev pub WritesStates : List ℕ → Type 0
WritesStates bytes = states_in bytes ≡ some (states_of bytes)

module _ (b : ℕ) (bytes : List ℕ) (w : WritesStates (b ∷ bytes)) where
  after_blank : is_blank b ≡ true → (states_of (b ∷ bytes) ≡ states_of bytes) × WritesStates bytes
  unfolding states_of states_in
  after_blank e = (rw e, rw e at w)

  record FirstState : Type 0 where
    pub bit : b - 48 < 2
    pub first : states_of (b ∷ bytes) ≡ (b - 48) ∷ states_of bytes
    pub rest : WritesStates bytes

after_state : (b : ℕ) (bytes : List ℕ) (w : WritesStates (b ∷ bytes)) → is_blank b ≡ false → FirstState b bytes w
unfolding states_of states_in
after_state b bytes w e = go (eqb b 48 || eqb b 49) refl (states_in bytes) refl (rw e at w)
  where
    go : (s : Bool) → (eqb b 48 || eqb b 49) ≡ s → (o : Option (List ℕ)) → states_in bytes ≡ o
        → cond (eqb b 48 || eqb b 49) (and_then (states_in bytes) (with_first (b - 48))) none
        ≡ some (or_empty (cond (eqb b 48 || eqb b 49) (and_then (states_in bytes) (with_first (b - 48))) none)) → FirstState b bytes w
    go true s none f h = let bad : none ≡ some _ = rw (s, f) at h in let z : ◌≡◌ {A = ℕ} 0 1 = cc in absurd (omega arith)
    go false s o f h = let bad : none ≡ some _ = rw s at h in let z : ◌≡◌ {A = ℕ} 0 1 = cc in absurd (omega arith)
    go true s (some states) f h =
        let bit : b - 48 < 2 =
        either (eqb b 48) (eqb b 49) s (λ q. let v : b ≡ 48 = eqb-true b 48 q in omega arith)
        (λ q. let v : b ≡ 49 = eqb-true b 49 q in omega arith) in
        record { bit = bit; first = rw (e, s, f); rest = rw f }

-- Where the first bytes are taken, the others write the states that are left.
pub rest_written : (bytes : List ℕ) (i k : ℕ) (states : List ℕ) → WritesStates (drop i bytes)
    → states_in (take k (drop i bytes)) ≡ some states
    → (states_of (drop i bytes) ≡ states ++ states_of (drop (i + k) bytes)) × WritesStates (drop (i + k) bytes)
unfolding states_of
rest_written bytes i k states w e = rw (← drop-drop k i bytes) (go (states_in (drop k (drop i bytes))) refl)
  where
    whole : take k (drop i bytes) ++ drop k (drop i bytes) ≡ drop i bytes
    whole = take-append-drop k (drop i bytes)

    go : (o : Option (List ℕ)) → states_in (drop k (drop i bytes)) ≡ o
        → (or_empty (states_in (drop i bytes)) ≡ states ++ or_empty (states_in (drop k (drop i bytes))))
        × (states_in (drop k (drop i bytes)) ≡ some (or_empty (states_in (drop k (drop i bytes)))))
    go none f =
        let bad : states_in (drop i bytes) ≡ none =
        ap states_in (sym whole) ∙ states_none (take k (drop i bytes)) (drop k (drop i bytes)) states e f in
        let no : none ≡ some _ = sym bad ∙ w in
        let z : ◌≡◌ {A = ℕ} 0 1 = cc in
        absurd (omega arith)
    go (some more) f =
        let all : states_in (drop i bytes) ≡ some (states ++ more) =
        ap states_in (sym whole) ∙ states_append (take k (drop i bytes)) (drop k (drop i bytes)) states e more f in
        (rw (all, f), rw f)

pub none_written : states_of [] ≡ []
unfolding states_of states_in
none_written = refl

-- The states that bytes write are each 0 or 1.
pub written_bits : (bytes : List ℕ) → WritesStates bytes → (k : ℕ) → get_or (states_of bytes) k 0 < 2
written_bits [] w k = rw none_written (omega arith)
written_bits (b ∷ bytes) w k = go (is_blank b) refl (written_bits bytes)
  where
    in_list : (states : List ℕ) → ((j : ℕ) → get_or states j 0 < 2) → b - 48 < 2 → (j : ℕ) → get_or ((b - 48) ∷ states) j 0 < 2
    in_list states small h zero = h
    in_list states small h (suc j) = small j

    go : (t : Bool) → is_blank b ≡ t → (WritesStates bytes → (j : ℕ) → get_or (states_of bytes) j 0 < 2)
        → get_or (states_of (b ∷ bytes)) k 0 < 2
    go true e ih = let p = after_blank b bytes w e in rw p.0 (ih p.1 k)
    go false e ih = let p = after_state b bytes w e in rw p.first (in_list (states_of bytes) (ih p.rest) p.bit k)
