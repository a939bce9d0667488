-- `both_ways` meets its contract: each call gave what its definition says, and demand 3 holds of the definitions.
-- Assumes nothing.
use mathlib.Core.Path.{◌≡◌, sym, ◌∙◌, ap}
use mathlib.Core.List.{List}
use Prim.Native.Nat.{ℕ}
use lib.ListN.{length}
use borrow.Author.Tests.{eq-eqb}
use Rattle.part.specs.Outcome.{Outcome, Written, written}
use Rattle.part.specs.Outcome.Outcome.{accepted}
use Rattle.part.specs.Device.{image_bytes}
use Rattle.part.specs.declared.Device.{Device}
use Rattle.part.specs.Answer.{done_outcome}
use Rattle.readout.specs.Readout.{to_readout, readout_of, to_image, image_of}
use Rattle.settings.specs.declared.Setting.{Setting}
use Rattle.values.specs.declared.Value.{Value}
use Rattle.setting_bits.specs.declared.Layout.TheVariants.{Image, Readout}
use Rattle.edit.specs.Edit.{with_value, set_in}
use Rattle.edit.specs.Demand.{Premise, AsDefined}
use Rattle.edit.proofs.NotRefused.{not_refused, its_length}
use Rattle.edit.proofs.SameReadout.{same_readout}
use Rattle.edit.proofs.SameImage.{changed, same_image}
use Rattle.edit.proofs.ConversionsAccepted.{passes, passes_back}
use Rattle.edit.proofs.Demand.{of_calls}
use Rattle.demand.specs.BothWays.{ReadInBoth, Begun, SetInBoth, BothConverted, StepByStep, RightLengths, BothWays, calls_of}
use Rattle.demand.specs.declared.BothAnswer.{BothAnswer}
use Rattle.demand.proofs.both_ways.Goals as goal

-- What an accepted call left in its target.
left : {A : Type 0} {o answer : Outcome A} {x : A} {result before after : List ℕ} → Written o answer result before after → o ≡ accepted x
    → after ≡ result
left {result = result} {before = before} w e = w.holds ∙ ap (λ (p : Outcome _). written p result before) e

module _ (d : Device) (image readout kept as_readout as_image : List ℕ) (s : Setting) (v : Value) (t : Setting) (r : BothAnswer)
    (readout1 kept1 image2 readout2 as-readout1 as-image1 : List ℕ)
    (begun : Begun d image readout readout1 kept kept1 t r.before)
    (put : SetInBoth d image image2 readout1 readout2 s v r.set)
    (converted : BothConverted d image2 readout2 as_readout as-readout1 as_image as-image1 r.converted)
    (reads : ReadInBoth d image2 readout2 s r.read)
    (others : ReadInBoth d image2 readout2 t r.other) where
  module _ (pattern : ℕ) (taken : Premise d image s v pattern) (lengths : RightLengths d readout kept as_readout as_image) where
    -- Before the change.
    made_before : readout1 ≡ readout_of d image
    made_before = left begun.converted (passes d image readout taken.device taken.size lengths.readout_size)

    kept_before : kept1 ≡ readout1
    kept_before =
        let same_size : length kept ≡ length readout1 = lengths.kept_size ∙ sym (ap length made_before ∙ its_length d image) in
        begun.keeps ∙ rw (eq-eqb (length kept) (length readout1) same_size)

    kept_own : kept1 ≡ readout_of d image
    kept_own = kept_before ∙ made_before

    first_answer : to_readout d image readout ≡ to_readout d image kept1
    first_answer =
        passes d image readout taken.device taken.size lengths.readout_size
        ∙ sym (passes d image kept1 taken.device taken.size (ap length kept_own ∙ its_length d image))

    -- Setting.
    changed_image : image2 ≡ with_value d Image image s v
    changed_image = left put.in_image (not_refused d image s v pattern taken).0

    put_kept : Written (set_in d Readout kept1 s v) (done_outcome r.set.readout) (with_value d Readout kept1 s v) kept1 readout2
    put_kept = rw kept_before put.in_readout

    changed_readout : readout2 ≡ with_value d Readout kept1 s v
    changed_readout = left put_kept (rw kept_own (not_refused d image s v pattern taken).1)

    -- After the change.
    size2 : length image2 ≡ image_bytes d
    size2 = ap length changed_image ∙ (changed d image s v pattern taken).size

    image_passes : to_readout d image2 as_readout ≡ accepted tt
    image_passes = passes d image2 as_readout taken.device size2 lengths.as_readout_size

    its_own_readout : as-readout1 ≡ readout_of d image2
    its_own_readout = left converted.of_image image_passes

    changed_own : readout2 ≡ with_value d Readout (readout_of d image) s v
    changed_own = changed_readout ∙ ap (λ (x : List ℕ). with_value d Readout x s v) kept_own

    same : readout2 ≡ readout_of d image2
    same = changed_own ∙ same_readout d image s v pattern taken ∙ ap (readout_of d) (sym changed_image)

    readout_passes : to_image d readout2 as_image ≡ accepted tt
    readout_passes = passes_back d image2 readout2 as_image taken.device same lengths.as_image_size

    its_own_image : as-image1 ≡ image_of d readout2
    its_own_image = left converted.of_readout readout_passes

    as_image_size : length as-image1 ≡ image_bytes d
    as_image_size =
        ap length (its_own_image ∙ ap (image_of d) changed_own ∙ same_image d image s v pattern taken)
        ∙ (changed d image s v pattern taken).size

    made : AsDefined d image s v t (calls_of r image2 readout2 kept1 as-readout1 as-image1)
    made = record {
      conversion = (begun.converted.answers ∙ first_answer, kept_own);
      answers = (put.in_image.answers, put_kept.answers);
      changes = (changed_image, changed_readout);
      image_converted = (
        converted.of_image.answers
            ∙ image_passes
            ∙ sym (passes d image2 as-readout1 taken.device size2 (ap length its_own_readout ∙ its_length d image2)),
        its_own_readout,
      );
      readout_converted = (
        converted.of_readout.answers
            ∙ readout_passes
            ∙ sym (passes_back d image2 readout2 as-image1 taken.device same as_image_size),
        its_own_image,
      );
      readings = (reads.in_image, reads.in_readout);
      others_before = (begun.read.in_image, rw kept_before begun.read.in_readout);
      others_after = (others.in_image, others.in_readout);
    }

  steps : StepByStep d image readout kept as_readout as_image s v t r image2 readout2 kept1 as-readout1 as-image1
  steps = record {
    begun = rw (← begun.converted.holds) begun;
    set = rw (← begun.converted.holds) put;
    converted = converted;
    read = reads;
    other = others;
  }

  ran : BothWays d image readout kept as_readout as_image s v t r image2 readout2 kept1 as-readout1 as-image1
  ran = (
    steps,
    λ pattern taken lengths.
        (made pattern taken lengths, of_calls d image s v pattern t _ taken (made pattern taken lengths)),
  )

pub returns : goal.returns
returns c =
    ran _ _ _ _ _ _ _ _ _ _ _ _ _ _ _ _ c.begin-before.ensures c.set_both-set.ensures c.convert_both-converted.ensures
    c.read_both-read.ensures c.read_both-other.ensures
