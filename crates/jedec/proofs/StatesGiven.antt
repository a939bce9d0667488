-- The state that the fields give a fuse, and the bytes of the image with given states.
-- Assumes nothing.
use mathlib.Core.Path.{◌≡◌, refl, sym, ◌∙◌, ap}
use mathlib.Core.Logic.{inl, inr}
use mathlib.Core.List.{List, [], ◌∷◌}
use Prim.Native.Nat.{ℕ, ◌+◌, ◌*◌, ◌-◌, ◌/◌, ◌<◌, ◌≤◌}
use native.Mathlib.Omega.{arith}
use lib.ListN.{length, get_or}
use borrow.Author.Tests.{lt-ltb, le-ltb, le-leb, lt-leb}
use Rattle.part.proofs.Facts.{compared}
use Rattle.image.specs.Bits.{gathered}
use Rattle.image.proofs.Bits.{tabulate_length, tabulate_at}
use Rattle.jedec.specs.Rules.{Listed, end_of}
use Rattle.jedec.specs.Rules.{state_given, within, image_with}
use Rattle.jedec.specs.Form.{InPlace, Each, Outside, Gives}

-- The state that the fields give a fuse is that of the L that holds it, else the start state.
module _ (from : ℕ) where
  pub given_before : (l : Listed) (lists : List Listed) (fuse : ℕ) → fuse < l.first
      → state_given from (l ∷ lists) fuse ≡ state_given from lists fuse
  unfolding state_given
  given_before l lists fuse m = rw (lt-leb l.first fuse m)

  pub given_inside : (l : Listed) (lists : List Listed) (fuse : ℕ) → l.first ≤ fuse → fuse < end_of l
      → state_given from (l ∷ lists) fuse ≡ get_or l.states (fuse - l.first) 0
  unfolding state_given
  given_inside l lists fuse g m = rw (le-leb l.first fuse g, lt-ltb fuse (end_of l) m)

  pub given_after : (l : Listed) (lists : List Listed) (fuse : ℕ) → end_of l ≤ fuse
      → state_given from (l ∷ lists) fuse ≡ state_given from lists fuse
  unfolding state_given
  given_after l lists fuse m = rw (le-leb l.first fuse (omega arith), le-ltb fuse (end_of l) m)

  pub given_outside : (fuse : ℕ) (lists : List Listed) → Each (Outside fuse) lists → state_given from lists fuse ≡ from
  unfolding state_given
  given_outside fuse [] o = refl
  given_outside fuse (l ∷ lists) (inl m, o) = given_before l lists fuse m ∙ given_outside fuse lists o
  given_outside fuse (l ∷ lists) (inr m, o) = given_after l lists fuse m ∙ given_outside fuse lists o

  -- An image has the states that the fields give exactly if each L gives its states and the others have the start state.
  module _ (fuses : ℕ) (state_of : ℕ → ℕ) where
    pub each_gives : (end : ℕ) (lists : List Listed) → InPlace fuses end lists
        → ((fuse : ℕ) → end ≤ fuse → fuse < fuses → state_of fuse ≡ state_given from lists fuse) → Each (Gives state_of) lists
    each_gives end [] p same = tt
    each_gives end (l ∷ lists) p same = (
      λ i h.
          let index : l.first + i - l.first ≡ i = omega arith in
          same (l.first + i) (omega arith) (omega arith) ∙ given_inside l lists (l.first + i) (omega arith) (omega arith) ∙ rw index,
      each_gives (end_of l) lists p.2 (λ fuse g h. same fuse (omega arith) h ∙ given_after l lists fuse g),
    )

    pub gives_each : (fuse : ℕ) (lists : List Listed) → Each (Gives state_of) lists → (Each (Outside fuse) lists → state_of fuse ≡ from)
        → state_given from lists fuse ≡ state_of fuse
    unfolding state_given
    gives_each fuse [] gives other = sym (other tt)
    gives_each fuse (l ∷ lists) gives other =
        compared fuse l.first
        (λ m. given_before l lists fuse m ∙ gives_each fuse lists gives.1 (λ o. other (inl m, o)))
        (λ g.
        compared fuse (end_of l)
        (λ m.
        let own : l.first + (fuse - l.first) ≡ fuse = omega arith in
        given_inside l lists fuse g m ∙ sym (gives.0 (fuse - l.first) (omega arith)) ∙ ap state_of own)
        (λ m. given_after l lists fuse m ∙ gives_each fuse lists gives.1 (λ o. other (inr m, o))))

-- The image with given states has its length, and each byte gathers eight of them.
module _ (fuses : ℕ) (states : ℕ → ℕ) where
  pub image_length : length (image_with fuses states) ≡ (fuses + 7) / 8
  unfolding image_with
  image_length = tabulate_length ((fuses + 7) / 8) _

  pub image_at : (i : ℕ) → i < (fuses + 7) / 8
      → get_or (image_with fuses states) i 0 ≡ gathered (λ bit. within fuses states (i * 8 + bit)) 8
  unfolding image_with
  image_at i h = tabulate_at ((fuses + 7) / 8) _ i h
