-- The fields in a loop: what the fields so far gave, and the fields still to come.
-- Assumes nothing.
use mathlib.Core.Path.{◌≡◌, refl, sym, ◌∙◌, ap}
use mathlib.Core.Bool.{Bool, true, false}
use mathlib.Core.List.{List, []}
use mathlib.Core.Option.Option.{some}
use Prim.Native.Nat.{ℕ, ◌+◌, ◌-◌, ◌/◌, ◌^◌, ◌≤◌, ◌<◌}
use native.Mathlib.Omega.{arith}
use lib.ListN.{length, take, drop, length-take, length-drop}
use Rattle.part.specs.Outcome.{Outcome}
use Rattle.part.specs.Outcome.Outcome.{refused}
use Rattle.jedec.specs.Cut.{Cut}
use Rattle.jedec.specs.Judge.{judge}
use Rattle.jedec.specs.Rules.{Given, nothing_given, in_order, after, all_fields, misplaced, state_given, image_with}
use Rattle.jedec.specs.Meaning.{longest, with_end, with_fields, of_cut}
use Rattle.jedec_judge.specs.Judged.{judged_after, SaysFits, Says}
use Rattle.jedec_fields.specs.Fields.{fields_at, cut_of, Inside, Stands}
use Rattle.jedec_judge.specs.declared.FieldSays.{FieldSays}
use Rattle.jedec_judge.specs.declared.FieldSays.TheVariants as says
use Rattle.jedec_fields.specs.declared.NextSays.{NextSays}
use Rattle.jedec_fields.specs.declared.NextSays.TheVariants as next
use Rattle.std.specs.Prelude.{Option, Some, None}
use Rattle.jedec.specs.Form.{last_end}
use Rattle.jedec.proofs.States.{image_length}
use Rattle.jedec_image.proofs.ListedImages.{start_holds}
use Rattle.jedec_image.proofs.Lengths.{put_length}
use Rattle.jedec_progress.specs.Progress.{no_progress, may_stand, FewStates, after_field}
use Rattle.jedec_image.specs.States.{put_field, PutFits}
use Rattle.jedec_progress.specs.Progress.{ProgressKnows}
use Rattle.jedec_end.specs.End.{TextRead}
use Rattle.jedec_progress.specs.declared.progress.Progress.{Progress}
use Rattle.jedec_reader.proofs.Steps.{in_order_lem, put_fits, given_after}
use Rattle.jedec_end.proofs.Ends.{refused_reads}

-- The outcome of a text, by what is known before some of its fields.
abbrev of_rest : (fuses : ℕ) → (text : List ℕ) → Given → Cut → Outcome (List ℕ)
of_rest fuses text k cut = with_fields fuses text cut.end (all_fields k cut.fields)

-- What the fields so far gave, and the fields still to come.
pub record Walks (fuses : ℕ) (text : List ℕ) (from : ℕ) (image₀ image : List ℕ) (p : Progress) (at : ℕ) : Type 0 where
  pub k : Given
  pub given : ProgressKnows fuses p k image
  pub size : length image ≡ (fuses + 7) / 8
  pub same : length image ≡ length image₀
  pub inside : at ≤ length text
  pub rest : of_rest fuses text k (fields_at at (drop at text)) ≡ of_cut fuses text (fields_at from (drop from text))

pub starts : (fuses : ℕ) (text : List ℕ) (from : ℕ) (image : List ℕ) (p : Progress) → p ≡ no_progress → from ≤ length text
    → image ≡ image_with fuses (state_given 0 []) → Walks fuses text from image image p from
unfolding misplaced last_end
starts fuses text from image p none l e =
    rw none (record {
      k = nothing_given;
      given = record {
        count = refl;
        start = refl;
        listed = refl;
        end = refl;
        faulty = refl;
        missing = λ m.
            record { first = record { in_none = tt; lower_given = λ fuse h. absurd (omega arith) }; at_most = omega arith };
        sum = refl;
        bits = λ m. (start_holds fuses 0 (omega arith)).bits;
        holds = λ m. e;
      };
      size = ap length e ∙ image_length fuses (state_given 0 []);
      same = refl;
      inside = l;
      rest = refl;
    })

module _ (fuses : ℕ) (text : List ℕ) (from : ℕ) (image₀ image : List ℕ) (p : Progress) (at : ℕ)
    (r : Walks fuses text from image₀ image p at) where
  pub kept : length image ≡ length image₀
  kept = r.same

  pub in_text : at ≤ length text
  in_text = r.inside

  pub of_size : length image ≡ (fuses + 7) / 8
  of_size = r.size

  -- The outcome is told by what stands next.
  by_next : (o : Option NextSays) → Stands text at o
      → of_rest fuses text r.k (cut_of text o) ≡ of_cut fuses text (fields_at from (drop from text))
  by_next o s = ap (of_rest fuses text r.k) s.cut ∙ r.rest

  pub early : Stands text at None → TextRead (of_cut fuses text (fields_at from (drop from text))) (refused 7 (length text)) image
  unfolding all_fields
  early s = refused_reads _ 7 (length text) image (sym (by_next None s))

  module _ (n : NextSays) (s : Stands text at (Some n)) where
    pub etx_there : (etx : ℕ) → n ≡ next.End etx → etx < length text
    etx_there etx w = rw w at s.inside

    pub the_end : (etx : ℕ) (answer : Outcome (Unit {0})) → n ≡ next.End etx
        → ((k : Given) → ProgressKnows fuses p k image → TextRead (with_end fuses text k (some etx)) answer image)
        → TextRead (of_cut fuses text (fields_at from (drop from text))) answer image
    unfolding all_fields
    the_end etx answer w f =
        let t : Stands text at (Some (next.End etx)) = rw w at s in
        rw (← by_next (Some (next.End etx)) t) (f r.k r.given)

    module _ (start star : ℕ) (fs : FieldSays) (w : n ≡ next.Field start star fs) where
      stands : Stands text at (Some (next.Field start star fs))
      stands = rw w at s

      there : Inside text at (Some (next.Field start star fs))
      there = stands.inside

      pub start_first : start ≤ star
      start_first = there.1

      pub star_there : star ≤ length text
      star_there = omega (arith, there.2)

      pub start_small : length text ≤ longest → start < 2 ^ 32
      start_small l = omega (arith, there.1, there.2)

      pub star_small : length text ≤ longest → star + 1 < 2 ^ 64
      star_small l = omega (arith, there.2)

      pub falls : length text - (star + 1) < length text - at
      falls = omega (arith, there.0, there.1, there.2)

      abbrev field : List ℕ
      field = take (star - start) (drop start text)

      j : Says (drop 1 field) (judge field) fs
      j = stands.judged

      order : may_stand p fs ≡ in_order r.k (judge field)
      order = in_order_lem fuses p r.k image (drop 1 field) fs r.given ∙ ap (in_order r.k) j.is

      pub a_bad_field : (t : Bool) → t ≡ may_stand p fs → t ≡ false
          → TextRead (of_cut fuses text (fields_at from (drop from text))) (refused 7 start) image
      unfolding all_fields
      a_bad_field t e h =
          let bad : in_order r.k (judge field) ≡ false = sym order ∙ sym e ∙ h in
          refused_reads _ 7 start image (sym (by_next (Some (next.Field start star fs)) stands) ∙ rw bad)

      pub few_states : length text ≤ longest → FewStates fs
      few_states l = few fs j.fits
        where
          few : (x : FieldSays) → SaysFits (drop 1 (take (star - start) (drop start text))) x → FewStates x
          few (says.Count n) f = tt
          few (says.Start x) f = tt
          few (says.List list) f = omega (
            arith,
            f.few,
            length-drop 1 (take (star - start) (drop start text)),
            length-take (star - start) (drop start text),
            length-drop start text,
          )
          few (says.Sum x) f = tt
          few says.Skipped f = tt
          few says.Bad f = tt

      module _ (q : Progress) (e : q ≡ after_field fuses p start fs) where
        pub goes_in : PutFits fuses (drop 1 (take (star - start) (drop start text))) fs q.misplaced
        goes_in = rw e (put_fits fuses p start (drop 1 field) fs j.fits)

        pub one_more : (t : Bool) (image' : List ℕ) → t ≡ may_stand p fs → t ≡ true
            → image' ≡ put_field fuses (drop 1 (take (star - start) (drop start text))) fs q.misplaced image
            → Walks fuses text from image₀ image' q (star + 1)
        unfolding all_fields
        one_more t image' f h i =
            let good : in_order r.k (judge field) ≡ true = sym order ∙ sym f ∙ h in
            let good-here : in_order r.k (judged_after (drop 1 field) fs) ≡ true = ap (in_order r.k) j.is ∙ good in
            let known : ProgressKnows fuses q (after r.k start (judge field)) image' =
            rw (i, e, ← j.is) (given_after fuses p r.k image (drop 1 field) start r.given fs j.fits good-here) in
            let long : length image' ≡ length image = rw i (put_length fuses (drop 1 field) fs q.misplaced image r.size) in
            record {
              k = after r.k start (judge field);
              given = known;
              size = long ∙ r.size;
              same = long ∙ r.same;
              inside = omega (arith, there.2);
              rest = (rw good at (by_next (Some (next.Field start star fs)) stands));
            }
