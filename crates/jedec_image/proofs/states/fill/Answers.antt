-- `fill` meets its contract: the whole bytes are those of the image of the start state, and so is the last.
-- Assumes nothing.
use mathlib.Core.Path.{◌≡◌, refl, sym, ◌∙◌, ap, ap₂}
use mathlib.Core.List.{List, [], ◌∷◌, ◌++◌, append-nil}
use Prim.Native.Nat.{ℕ, zero, suc, ◌+◌, ◌*◌, ◌-◌, ◌/◌, ◌%◌, ◌^◌, ◌≤◌, ◌<◌}
use native.Mathlib.Omega.{arith}
use native.Mathlib.Numerals.{add-one}
use lib.ListN.{length, get_or, set, take, drop, replicate, drop_of_length-le}
use lib.Seq.{take_all, take-suc, length-take-le, drop-cons}
use borrow.Author.Rules.{rules}
use Rattle.std.proofs.lemmas.List.{replicate_more, set_at}
use Rattle.jedec.specs.Rules.{state_given, image_with}
use Rattle.jedec.proofs.States.{image_length}
use Rattle.jedec_image.proofs.Images.{start_byte}
use Rattle.jedec_image.proofs.states.fill.Goals as goal

module _ (fuses state byte : ℕ) (e : byte ≡ state * (2 ^ 8 - 1)) where
  abbrev meant : List ℕ
  meant = image_with fuses (state_given state [])

  long : length meant ≡ (fuses + 7) / 8
  long = image_length fuses (state_given state [])

  first : (k : ℕ) → k ≤ fuses / 8 → take k meant ≡ replicate k byte
  first zero l = refl
  first (suc k) l =
      let there : k < length meant = rw long (omega arith) in
      let here : byte ≡ get_or meant k 0 =
      e ∙ start_byte fuses state k 8 (omega arith) (omega arith) (λ h. refl) (λ h. absurd (omega arith)) in
      take-suc meant k 0 there ∙ ap₂ (λ (xs : List ℕ) (x : ℕ). xs ++ (x ∷ [])) (first k (omega arith)) (sym here)
      ∙ replicate_more k byte ∙ ap (λ (n : ℕ). replicate n byte) (add-one k)

  module _ (image : List ℕ) (size : length image ≡ (fuses + 7) / 8) (filled : List ℕ)
      (f : filled ≡ replicate (length (take (fuses / 8) image)) byte) where
    count : length (take (fuses / 8) image) ≡ fuses / 8
    count = length-take-le (fuses / 8) image (omega arith)

    so_far : filled ≡ take (fuses / 8) meant
    so_far = f ∙ ap (λ (n : ℕ). replicate n byte) count ∙ sym (first (fuses / 8) (omega arith))

    no_last : length image ≤ fuses / 8 → filled ++ drop (fuses / 8) image ≡ meant
    no_last l =
        let all : length meant ≤ fuses / 8 = rw long (omega arith) in
        rw (drop_of_length-le image l) (append-nil filled ∙ so_far ∙ take_all (fuses / 8) meant all)

    last : (x : ℕ) → fuses / 8 < length image → x ≡ state * (2 ^ (fuses % 8) - 1)
        → set (filled ++ drop (fuses / 8) image) (fuses / 8) x ≡ meant
    last x l g =
        let w = fuses / 8 in
        let there : w < length meant = rw long (omega arith) in
        let none_behind : length image ≤ suc w = omega arith in
        let all : length meant ≤ suc w = rw long (omega arith) in
        let here : x ≡ get_or meant w 0 =
        g ∙ start_byte fuses state w (fuses % 8) (omega arith) (omega arith) (λ h. absurd (omega arith)) (λ h. omega arith) in
        let before : length filled ≡ w = ap length so_far ∙ length-take-le w meant (omega arith) in
        rw (drop-cons image w 0 l, drop_of_length-le image none_behind) (set_at filled (get_or image w 0) [] x w before
        ∙ ap₂ (λ (xs : List ℕ) (y : ℕ). xs ++ (y ∷ [])) so_far here
        ∙ sym (take-suc meant w 0 there) ∙ take_all (suc w) meant all)

pub returns-then-whole-image : goal.returns-then-whole-image
returns-then-whole-image c = search (rules, last, c.fill.ensures.after (λ y h. h))

pub returns-else-whole-image : goal.returns-else-whole-image
returns-else-whole-image c = search (rules, no_last, c.fill.ensures.after (λ y h. h))
