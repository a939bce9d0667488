-- Laws of the block count for a text: the first QF field from an offset on.
-- Assumes nothing.
use mathlib.Core.Path.{◌≡◌, refl, sym, ◌∙◌, ap}
use mathlib.Core.List.{List}
use mathlib.Core.Option.{Option, or_else}
use mathlib.Core.Option.Option.{none, some}
use Prim.Native.Nat.{ℕ, suc, ◌+◌, ◌-◌, ◌^◌, ◌≤◌, ◌<◌}
use native.Mathlib.Omega.{arith}
use native.Mathlib.Nat.{zero-add}
use native.Mathlib.Numerals.{add-one}
use lib.ListN.{length, take, drop}
use lib.Seq.{length-take-le}
use borrow.Author.Tests.{eq-eqb, ne_eqb}
use Rattle.std.specs.Prelude as code
use Rattle.part.specs.Device.{fuse_count}
use Rattle.jedec.specs.Cut.{pieces, Cut, fields_from}
use Rattle.jedec.specs.Judge.{judge}
use Rattle.jedec_judge.specs.Judged.{number_read, judged_after, Says}
use Rattle.jedec_fields.specs.Fields.{until_star, fields_at, cut_of, Inside, Stands}
use Rattle.jedec_judge.specs.declared.FieldSays.{FieldSays}
use Rattle.jedec_judge.specs.declared.FieldSays.TheVariants as says
use Rattle.jedec_fields.specs.declared.NextSays.{NextSays}
use Rattle.jedec_fields.specs.declared.NextSays.TheVariants as next
use Rattle.jedec_fields.proofs.Fields.{Cuts, pieces_star, Uncut, pieces_none}
use Rattle.report.specs.Report.{of_blocks, fields_in, fuse_count_in, first_count, blocks_by, blocks_for}

-- A field that is no QF field.
abbrev NoCount : FieldSays → Type 0
NoCount fs = (n : ℕ) → fs ≡ says.Count n → ⊥

no_qf : (after : List ℕ) (fs : FieldSays) → NoCount fs → fuse_count_in (judged_after after fs) ≡ none
no_qf after (says.Count n) h = absurd (h n refl)
no_qf after (says.Start s) h = refl
no_qf after (says.List l) h = refl
no_qf after (says.Sum x) h = refl
no_qf after says.Skipped h = refl
no_qf after says.Bad h = refl

-- The first QF field of some fields.
abbrev pub first : Cut → Option ℕ
first cut = first_count cut.fields

module _ (text : List ℕ) (from at : ℕ) (e : first (fields_at at (drop at text)) ≡ first (fields_at from (drop from text)))
    (n : code.Option NextSays) (s : Stands text at n) where
  by_next : (m : code.Option NextSays) → n ≡ m → first (cut_of text m) ≡ first (fields_at from (drop from text))
  by_next m w = ap (λ (k : code.Option NextSays). first (cut_of text k)) (sym w) ∙ ap first s.cut ∙ e

  pub text_ends : n ≡ code.None → none ≡ first_count (fields_at from (drop from text)).fields
  unfolding first_count
  text_ends w = by_next code.None w

  pub fields_end : (etx : ℕ) → n ≡ code.Some (next.End etx) → none ≡ first_count (fields_at from (drop from text)).fields
  unfolding first_count
  fields_end etx w = by_next (code.Some (next.End etx)) w

  module _ (start star : ℕ) (fs : FieldSays) (w : n ≡ code.Some (next.Field start star fs)) where
    there : Inside text at (code.Some (next.Field start star fs))
    there = rw w at s.inside

    pub next_there : star + 1 ≤ length text
    next_there = omega (arith, there.2)

    pub next_fits : length text < 2 ^ 64 → star + 1 < 2 ^ 64
    next_fits l = omega (arith, there.2)

    pub falls : length text - (star + 1) < length text - at
    falls = omega (arith, there.0, there.1, there.2)

    abbrev field : List ℕ
    field = take (star - start) (drop start text)

    judged : Says (drop 1 (take (star - start) (drop start text))) (judge (take (star - start) (drop start text))) fs
    judged = rw w at s.judged

    pub a_count : (count : ℕ) → fs ≡ says.Count count → some count ≡ first_count (fields_at from (drop from text)).fields
    unfolding first_count or_else
    a_count count g =
        let reads : fuse_count_in (judge field) ≡ some count =
        ap fuse_count_in (sym judged.is) ∙ ap (λ (k : FieldSays). fuse_count_in (judged_after (drop 1 field) k)) g in
        rw reads at (by_next (code.Some (next.Field start star fs)) w)

    pub no_count : NoCount fs → first (fields_at (star + 1) (drop (star + 1) text)) ≡ first (fields_at from (drop from text))
    unfolding first_count or_else
    no_count h =
        let reads : fuse_count_in (judge field) ≡ none = ap fuse_count_in (sym judged.is) ∙ no_qf (drop 1 field) fs h in
        rw reads at (by_next (code.Some (next.Field start star fs)) w)

-- What the first QF field of a text reads.
abbrev pub first_of : List ℕ → Option ℕ
first_of text = first_count (fields_in (pieces text).ended (pieces text).rest)

-- The fields of a text start behind its first `*`.
pub no_star : (text : List ℕ) → 0 + until_star (drop 0 text) ≡ length text → none ≡ first_of text
unfolding first_count
no_star text f = let u : Uncut text = pieces_none text (omega (arith, f)) in rw u.ended

pub behind_star : (text : List ℕ) (star : ℕ) (o : Option ℕ) → (star ≡ 0 + until_star (drop 0 text)) × (star < length text)
    → o ≡ first_count (fields_at (star + 1) (drop (star + 1) text)).fields → o ≡ first_of text
unfolding fields_at
behind_star text star o e g =
    let is : star ≡ until_star text = e.0 ∙ zero-add (until_star text) in
    let less : until_star text < length text = omega (arith, is, e.1) in
    let cut : Cuts text star = rw is (pieces_star text less) in
    let rest = pieces (drop (suc star) text) in
    let at : length (take star text) + 1 ≡ suc star = rw (length-take-le star text (omega (arith, e.1)), add-one star) in
    g ∙ rw (add-one star, cut.ended, cut.rest)
    (ap (λ (k : ℕ). first_count (fields_from k rest.ended rest.rest).fields) (sym at))

-- The code's test tells four blocks from two.
module _ (text : List ℕ) (x : ℕ) (e : x ≡ fuse_count (of_blocks 4)) (o : code.Option ℕ) (f : number_read o ≡ first_of text) where
  pub four_read : (count : ℕ) → o ≡ code.Some count → count ≡ x → of_blocks 4 ≡ of_blocks (blocks_for text)
  unfolding blocks_for
  four_read count g h =
      let reads : some count ≡ first_of text = ap number_read (sym g) ∙ f in
      ap of_blocks (sym (rw (eq-eqb count (fuse_count (of_blocks 4)) (h ∙ e)) at (ap blocks_by (sym reads))))

  pub other_read : (count : ℕ) → o ≡ code.Some count → (count ≡ x → ⊥) → of_blocks 2 ≡ of_blocks (blocks_for text)
  unfolding blocks_for
  other_read count g h =
      let reads : some count ≡ first_of text = ap number_read (sym g) ∙ f in
      ap of_blocks (sym (ap blocks_by (sym reads) ∙ rw (ne_eqb count (fuse_count (of_blocks 4)) (λ k. h (k ∙ sym e)))))

pub none_read : (text : List ℕ) (o : code.Option ℕ) → number_read o ≡ first_of text → o ≡ code.None
    → of_blocks 2 ≡ of_blocks (blocks_for text)
unfolding blocks_for
none_read text o f g = ap (λ (k : Option ℕ). of_blocks (blocks_by k)) (ap number_read (sym g) ∙ f)
