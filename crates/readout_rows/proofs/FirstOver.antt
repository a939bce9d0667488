-- The first cell with a bit above its width: in cells of two parts, and in equal runs looked at one after another.
-- Assumes nothing.
use mathlib.Core.Path.{◌≡◌, refl, sym, ◌∙◌, ap}
use mathlib.Core.Bool.{Bool, true, false, cond}
use mathlib.Core.List.{List, ◌++◌}
use Prim.Native.Nat.{ℕ, suc, ◌+◌, ◌-◌, ◌*◌, ◌^◌, ◌≤◌, ◌<◌}
use native.Mathlib.Omega.{arith}
use lib.Dec.{ltb}
use lib.ListN.{length, take, drop, length-append, length-drop, take-append-drop}
use Rattle.std.proofs.Common.{length-take-le}
use lib.Seq.{drop-drop}
use mir.Syntax.{w64}
use mir.Val.{Fits}
use borrow.Author.Tests.{lt-ltb, le-ltb, ltb-true, ltb-false}
use Rattle.std.specs.Prelude.{Option, Some, None, option_map}
use Rattle.cells.specs.Cells.{repeat}
use Rattle.readout_rows.specs.Widths.{cells_within, first_over}
use Rattle.readout_rows.proofs.Stores.{turn_within}
use Rattle.readout_rows.proofs.CellsWithin.{within_on, within_found, within_front}

module _ (ws cells : List ℕ) where
  pub found_over : (i : ℕ) → i ≡ cells_within ws cells → i < length ws → Some i ≡ first_over ws cells
  unfolding first_over
  found_over i e h = rw (← e, lt-ltb i (length ws) h)

  pub none_over : length ws ≤ cells_within ws cells → None ≡ first_over ws cells
  unfolding first_over
  none_over h = rw (le-ltb (cells_within ws cells) (length ws) h)

  pub over_found : (i : ℕ) → Some i ≡ first_over ws cells → (i ≡ cells_within ws cells) × (i < length ws)
  unfolding first_over
  over_found i = go (ltb (cells_within ws cells) (length ws)) refl
    where
      go : (t : Bool) → ltb (cells_within ws cells) (length ws) ≡ t → Some i ≡ cond t (Some (cells_within ws cells)) None
          → (i ≡ cells_within ws cells) × (i < length ws)
      go true e f = let same : i ≡ cells_within ws cells = cc in (same, rw same (ltb-true _ _ e))
      go false e f = absurd cc

  pub over_none : None ≡ first_over ws cells → length ws ≤ cells_within ws cells
  unfolding first_over
  over_none = go (ltb (cells_within ws cells) (length ws)) refl
    where
      go : (t : Bool) → ltb (cells_within ws cells) (length ws) ≡ t → None ≡ cond t (Some (cells_within ws cells)) None
          → length ws ≤ cells_within ws cells
      go true e f = absurd cc
      go false e f = ltb-false _ _ e

-- Cells in two parts: the first one is in the first part, or that has none.
module _ (ws vs cells : List ℕ) where
  pub in_first : (i : ℕ) → Some i ≡ first_over ws cells → Some i ≡ first_over (ws ++ vs) cells
  in_first i f =
      let h = over_found ws cells i f in
      found_over (ws ++ vs) cells i (h.0 ∙ sym (within_found ws vs cells (rw h.0 at h.1))) (omega (arith, h.1, length-append ws vs))

  module _ (none : length ws ≤ cells_within ws cells) where
    pub in_second : (i : ℕ) → Some i ≡ first_over vs (drop (length ws) cells) → Some (length ws + i) ≡ first_over (ws ++ vs) cells
    in_second i f =
        let h = over_found vs (drop (length ws) cells) i f in
        found_over (ws ++ vs) cells (length ws + i) (ap (λ (x : ℕ). length ws + x) h.0 ∙ sym (within_on ws vs cells none))
        (omega (arith, h.1, length-append ws vs))

    pub in_none : None ≡ first_over vs (drop (length ws) cells) → None ≡ first_over (ws ++ vs) cells
    in_none f =
        none_over (ws ++ vs) cells
        (omega (arith, within_on ws vs cells none, over_none vs (drop (length ws) cells) f, length-append ws vs))

-- Only as many cells count as there are widths.
pub few_over : (ws cells : List ℕ) (n : ℕ) → n ≡ length ws → n ≤ length cells → first_over ws (take n cells) ≡ first_over ws cells
unfolding first_over
few_over ws cells n e h =
    let long : length ws ≤ length (take n cells) = omega (arith, length-take-le n cells h) in
    let same : cells_within ws cells ≡ cells_within ws (take n cells) =
    ap (cells_within ws) (sym (take-append-drop n cells)) ∙ within_front ws (take n cells) (drop n cells) long in
    rw same

-- Runs of cells of the widths `ws`, looked at one after another. What holds when the first k of `count` have none over
-- its width: what is found in those that are left is what is found in all.
pub record Looked (ws cells : List ℕ) (count k : ℕ) : Type 0 where
  pub same : option_map (λ i. k * length ws + i) (first_over (repeat (count - k) ws) (drop (k * length ws) cells))
      ≡ first_over (repeat count ws) cells

pub looked_none_yet : (ws cells : List ℕ) (count : ℕ) → Looked ws cells count 0
looked_none_yet ws cells count =
    let none : 0 * length ws ≡ 0 = omega arith in
    let all : count - 0 ≡ count = omega arith in
    record { same = rw (none, all) (whole (first_over (repeat count ws) cells)) }
  where
    whole : (o : Option ℕ) → option_map (λ i. 0 + i) o ≡ o
    whole None = refl
    whole (Some i) = let e : 0 + i ≡ i = omega arith in ap Some e

module _ (ws cells : List ℕ) (count k : ℕ) (now : Looked ws cells count k) where
  pub looked_at_all : count ≤ k → None ≡ first_over (repeat count ws) cells
  unfolding repeat first_over cells_within
  looked_at_all h = let none : count - k ≡ 0 = omega arith in rw none at now.same

  module _ (at size : ℕ) (es : size ≡ length ws) (ea : at ≡ k * size) (h : k < count) (g : count * size ≤ length cells) where
    rest : List ℕ
    rest = drop (k * length ws) cells

    more : List ℕ
    more = repeat (count - (k + 1)) ws

    split : first_over (repeat (count - k) ws) rest ≡ first_over (ws ++ more) rest
    unfolding repeat rest more
    split = let one : count - k ≡ suc (count - (k + 1)) = omega arith in ap (λ (n : ℕ). first_over (repeat n ws) rest) one

    -- The run at hand.
    here : first_over ws (take (at + size - at) (drop at cells)) ≡ first_over ws rest
    unfolding rest
    here =
        let there : at ≡ k * length ws = rw (← es) ea in
        let long : size ≤ length (drop at cells) = omega (arith, length-drop at cells, turn_within k count size (length cells) h g) in
        few_over ws (drop at cells) (at + size - at) (omega arith) (omega arith) ∙ ap (λ (i : ℕ). first_over ws (drop i cells)) there

    pub looked_found : (i : ℕ) → Some i ≡ first_over ws (take (at + size - at) (drop at cells))
        → Some (at + i) ≡ first_over (repeat count ws) cells
    unfolding rest
    looked_found i f =
        let there : at + i ≡ k * length ws + i = rw (← es) (ap (λ (x : ℕ). x + i) ea) in
        ap Some there ∙ ap (option_map (λ j. k * length ws + j)) (in_first ws more rest i (f ∙ here) ∙ sym split) ∙ now.same

    pub looked_fits : (i : ℕ) → Some i ≡ first_over ws (take (at + size - at) (drop at cells)) → length cells < 2 ^ 64 → Fits w64 (at + i)
    unfolding rest
    looked_fits i f l = omega (arith, (over_found ws rest i (f ∙ here)).1, turn_within k count size (length cells) h g)

    pub looked_on : None ≡ first_over ws (take (at + size - at) (drop at cells)) → Looked ws cells count (k + 1)
    unfolding rest more
    looked_on f =
        let next : (k + 1) * length ws ≡ k * length ws + length ws = omega arith in
        record {
          same = rw next (go (over_none ws rest (f ∙ here)) (first_over more (drop (k * length ws + length ws) cells)) refl
              ∙ ap (option_map (λ j. k * length ws + j)) (sym split) ∙ now.same);
        }
      where
        past : drop (length ws) rest ≡ drop (k * length ws + length ws) cells
        past = drop-drop (length ws) (k * length ws) cells

        go : length ws ≤ cells_within ws rest → (o : Option ℕ) → o ≡ first_over more (drop (k * length ws + length ws) cells)
            → option_map (λ i. k * length ws + length ws + i) o ≡ option_map (λ i. k * length ws + i) (first_over (ws ++ more) rest)
        go none None e = ap (option_map (λ i. k * length ws + i)) (in_none ws more rest none (rw past e))
        go none (Some i) e =
            let there : k * length ws + length ws + i ≡ k * length ws + (length ws + i) = omega arith in
            ap Some there ∙ ap (option_map (λ i. k * length ws + i)) (in_second ws more rest none i (rw past e))
