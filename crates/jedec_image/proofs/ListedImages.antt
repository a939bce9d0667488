-- An L field after the L fields before it: whether it is misplaced, and the image that then holds what they give.
-- Assumes nothing.
use mathlib.Core.Path.{◌≡◌, refl, sym, ◌∙◌, ap}
use mathlib.Core.Bool.{Bool, true, false, cond, ◌&&◌, ◌||◌}
use mathlib.Core.List.{List, [], ◌∷◌, ◌++◌}
use mathlib.Core.Option.Option.{none, some}
use Prim.Native.Nat.{ℕ, ◌+◌, ◌-◌, ◌≤◌, ◌<◌}
use native.Mathlib.Omega.{arith}
use lib.Dec.{ltb, leb}
use lib.ListN.{length, get_or}
use borrow.Author.Tests.{lt-ltb, le-ltb, le-leb, lt-leb}
use Rattle.part.proofs.Facts.{compared}
use Rattle.jedec.specs.Rules.{Listed, end_of, misplaced, state_given, image_with}
use Rattle.jedec.proofs.States.{placed}
use Rattle.jedec.specs.Form.{last_end}
use Rattle.jedec_image.specs.States.{with_states}
use Rattle.jedec_image.proofs.Images.{image_same, over, Bits, put_states}

-- One L field more is misplaced by its own place only if those before it are in place.
module _ (fuses : ℕ) (l : Listed) where
  pub last_more : (end : ℕ) (lists : List Listed) → last_end end (lists ++ (l ∷ [])) ≡ end_of l
  unfolding last_end
  last_more end [] = refl
  last_more end (a ∷ lists) = last_more (end_of a) lists

  pub still_misplaced : (end : ℕ) (lists : List Listed) (at : ℕ)
      → misplaced fuses end lists ≡ some at → misplaced fuses end (lists ++ (l ∷ [])) ≡ some at
  unfolding misplaced
  still_misplaced end [] at e = let z : ◌≡◌ {A = ℕ} 0 1 = cc in absurd (omega arith)
  still_misplaced end (a ∷ lists) at e = go (ltb a.first end || ltb fuses (end_of a)) (still_misplaced (end_of a) lists at) e
    where
      go : (t : Bool) → (misplaced fuses (end_of a) lists ≡ some at → misplaced fuses (end_of a) (lists ++ (l ∷ [])) ≡ some at)
          → cond t (some a.at) (misplaced fuses (end_of a) lists)
          ≡ some at → cond t (some a.at) (misplaced fuses (end_of a) (lists ++ (l ∷ []))) ≡ some at
      go true ih h = h
      go false ih h = ih h

  pub now_misplaced : (end : ℕ) (lists : List Listed) → misplaced fuses end lists ≡ none
      → misplaced fuses end (lists ++ (l ∷ [])) ≡ cond (ltb l.first (last_end end lists) || ltb fuses (end_of l)) (some l.at) none
  unfolding misplaced last_end
  now_misplaced end [] e = refl
  now_misplaced end (a ∷ lists) e = go (ltb a.first end || ltb fuses (end_of a)) (now_misplaced (end_of a) lists) e
    where
      go : (t : Bool)
          → (misplaced fuses (end_of a) lists ≡ none → misplaced fuses (end_of a) (lists ++ (l ∷ []))
          ≡ cond (ltb l.first (last_end (end_of a) lists) || ltb fuses (end_of l)) (some l.at) none)
          → cond t (some a.at) (misplaced fuses (end_of a) lists) ≡ none
          → cond t (some a.at) (misplaced fuses (end_of a) (lists ++ (l ∷ [])))
          ≡ cond (ltb l.first (last_end (end_of a) lists) || ltb fuses (end_of l)) (some l.at) none
      go true ih h = let z : ◌≡◌ {A = ℕ} 0 1 = cc in absurd (omega arith)
      go false ih h = ih h

  -- Where it is in place too, it starts at or after the end of the last one before it.
  pub last_placed : (end : ℕ) (lists : List Listed) → misplaced fuses end lists ≡ none → misplaced fuses end (lists ++ (l ∷ [])) ≡ none
      → (last_end end lists ≤ l.first) × (end_of l ≤ fuses)
  unfolding misplaced
  last_placed end lists e f =
      let p = placed fuses (last_end end lists) l [] (sym (now_misplaced end lists e) ∙ f) in
      (p.0, p.1)

pub ends_rise : (fuses end : ℕ) (lists : List Listed) → misplaced fuses end lists ≡ none → end ≤ last_end end lists
unfolding last_end
ends_rise fuses end [] e = omega arith
ends_rise fuses end (a ∷ lists) e =
    let p = placed fuses end a lists e in
    omega (arith, p.0, ends_rise fuses (end_of a) lists p.2)

given_more : (fuses from end : ℕ) (l : Listed) (lists : List Listed) → misplaced fuses end lists ≡ none
    → last_end end lists ≤ l.first → (k : ℕ) → over (state_given from lists) l.first l.states k ≡ state_given from (lists ++ (l ∷ [])) k
unfolding state_given last_end
given_more fuses from end l [] e h k = refl
given_more fuses from end l (a ∷ lists) e h k = go (given_more fuses from (end_of a) l lists (placed fuses end a lists e).2 h k)
  where
    go : over (state_given from lists) l.first l.states k ≡ state_given from (lists ++ (l ∷ [])) k
        → over (state_given from (a ∷ lists)) l.first l.states k ≡ state_given from ((a ∷ lists) ++ (l ∷ [])) k
    go ih =
        compared k a.first (λ m. rw (lt-leb a.first k m) ih)
        (λ g. compared k (end_of a)
        (λ m.
        let before : k < l.first = omega (arith, ends_rise fuses (end_of a) lists (placed fuses end a lists e).2) in
        rw (le-leb a.first k g, lt-ltb k (end_of a) m, lt-leb l.first k before))
        (λ m. rw (le-leb a.first k g, le-ltb k (end_of a) m) ih))

over_small : (f : ℕ → ℕ) (first : ℕ) (states : List ℕ) → ((k : ℕ) → f k < 2) → Bits states → (k : ℕ) → over f first states k < 2
over_small f first states small bits k = go (leb first k && ltb k (first + length states))
  where
    go : (t : Bool) → cond t (get_or states (k - first) 0) (f k) < 2
    go true = bits (k - first)
    go false = small k

-- An image that holds what the fields gave.
pub record Holds (fuses from : ℕ) (lists : List Listed) (image : List ℕ) : Type 0 where
  pub is : image ≡ image_with fuses (state_given from lists)
  pub bits : (k : ℕ) → state_given from lists k < 2

pub start_holds : (fuses from : ℕ) → from < 2 → Holds fuses from [] (image_with fuses (state_given from []))
unfolding state_given
start_holds fuses from h = record { is = refl; bits = λ k. h }

pub put_listed : (fuses from : ℕ) (lists : List Listed) (l : Listed) (image : List ℕ) → Holds fuses from lists image → Bits l.states
    → misplaced fuses 0 (lists ++ (l ∷ [])) ≡ none → misplaced fuses 0 lists ≡ none
    → Holds fuses from (lists ++ (l ∷ [])) (with_states image l.first l.states)
put_listed fuses from lists l image h bits e f =
    let p = last_placed fuses l 0 lists f e in
    let same : (k : ℕ) → over (state_given from lists) l.first l.states k ≡ state_given from (lists ++ (l ∷ [])) k =
    given_more fuses from 0 l lists f p.0 in
    record {
      is =
          ap (λ (x : List ℕ). with_states x l.first l.states) h.is
          ∙ put_states fuses l.states (state_given from lists) l.first h.bits bits p.1
          ∙ image_same fuses _ _ (λ k p. same k);
      bits = λ k. rw (← same k) (over_small (state_given from lists) l.first l.states h.bits bits k);
    }
