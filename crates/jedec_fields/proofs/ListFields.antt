-- What follows an L, by the tests that tell it: a good list, or why there is none.
-- Assumes nothing.
use mathlib.Core.Path.{◌≡◌, refl, sym, ◌∙◌, ap}
use mathlib.Core.Bool.{Bool, true, false}
use mathlib.Core.List.{List, [], ◌∷◌, ◌++◌, append-nil, append_assoc}
use mathlib.Core.Option.{Option}
use mathlib.Core.Option.Option.{none, some}
use Prim.Native.Nat.{ℕ, suc, ◌+◌, ◌-◌, ◌≤◌, ◌<◌}
use native.Mathlib.Omega.{arith}
use native.Mathlib.Nat.{add-zero}
use native.Mathlib.Numerals.{add-one}
use lib.ListN.{length, get_or, take, drop, length-drop, take-append-drop}
use lib.Seq.{take_all, length-take-le, drop-append-add, take-add, take-suc, drop-cons, get_or-drop}
use borrow.Author.Tests.{ne_eqb}
use Rattle.jedec.specs.Characters.{is_blank, decimal_value, number_in}
use Rattle.jedec.specs.Cut.{holds_mark}
use Rattle.jedec.specs.Judge.{states_in, states_from, list_in}
use Rattle.jedec_runs.specs.Runs.{IsBlankAt}
use mir.Val.{bool_byte}
use Rattle.jedec_judge.specs.Judged.{DigitsStand, or_empty, states_of}
use Rattle.jedec_judge.specs.declared.digits.LeadingDigits.{LeadingDigits}
use Rattle.jedec_judge.proofs.Slices.{rest_whole}
use Rattle.jedec_judge.proofs.Numbers.{in_number, first_long}
use Rattle.jedec_fields.specs.Fields.{RunStands, until_star, ListAt, NoList}
use Rattle.jedec_fields.specs.declared.lists.StatesRun.{StatesRun}
use Rattle.jedec_fields.proofs.StatesCounted.{some_counted}
use Rattle.jedec_fields.proofs.PlainBytes.{Plain, AllPlain, plain_until, plain_marks, blank_plain, digits_plain}
use Rattle.jedec_fields.proofs.PlainBytes.{states_plain, all_plain, plain_field}
use Rattle.jedec_fields.proofs.BadLists.{full_list, list_blank, no_states_bad, unended_bad, first_not_blank, wrong_then}

-- The digits are read first, then the blank, then the states.
module _ (after : List ℕ) (d : LeadingDigits) (s : DigitsStand after d) where
  digits_long : length (take d.length after) ≡ d.length
  digits_long = first_long after d s

  unended : (is_blank (get_or (drop d.length after) 0 0) ≡ true → d.length ≡ 0) → NoList after
  unended g =
      let a = take d.length after in
      let t = drop d.length after in
      let field : take (until_star after) after ≡ a ++ take (until_star t) t =
      ap (λ (l : List ℕ). take (until_star l) l) (sym (take-append-drop d.length after))
      ∙ plain_field a t (digits_plain a 0 d.value s.reads) in
      record { is_bad = λ h. rw field (unended_bad a d.value (until_star t) t s.reads first_wrong (λ b. digits_long ∙ g b)) }
    where
      first_wrong : length (take d.length after) < 7 → 0 < length (drop d.length after)
          → decimal_value (get_or (drop d.length after) 0 0) ≡ none
      first_wrong l m =
          rw (get_or-drop d.length after 0 0, add-zero d.length)
          (s.stops (omega (arith, length-drop d.length after)) (omega (arith, digits_long)))

  pub no_digits : d.length ≡ 0 → NoList after
  no_digits z = unended (λ b. z)

  pub no_blank : (t : Bool) → IsBlankAt after d.length (bool_byte t) → t ≡ false → NoList after
  no_blank t at_end e = unended (λ b. absurd (first_not_blank (drop d.length after) (sym at_end.is ∙ ap bool_byte e) b))

  module _ (some_there : d.length ≡ 0 → ⊥) (t : Bool) (at_end : IsBlankAt after d.length (bool_byte t)) (is_there : t ≡ true) where
    a-blank : bool_byte t ≡ 0 → ⊥
    a-blank e = let z : ◌≡◌ {A = ℕ} 1 0 = rw is_there at e in omega arith

    pub blank_inside : d.length + 1 ≤ length after
    blank_inside = go (drop d.length after) refl
      where
        go : (cs : List ℕ) → drop d.length after ≡ cs → d.length + 1 ≤ length after
        go [] e = absurd (a-blank (at_end.is ∙ rw e))
        go (b ∷ cs) e =
            let long : length after - d.length ≡ suc (length cs) = sym (length-drop d.length after) ∙ ap length e in omega arith

    blank_there : drop d.length after ≡ get_or after d.length 0 ∷ drop (d.length + 1) after
    blank_there = rw (add-one d.length) (drop-cons after d.length 0 (omega (arith, blank_inside)))

    is_blank_lem : is_blank (get_or after d.length 0) ≡ true
    is_blank_lem = go (is_blank (get_or after d.length 0)) refl
      where
        go : (t : Bool) → is_blank (get_or after d.length 0) ≡ t → t ≡ true
        go true e = refl
        go false e = absurd (a-blank (at_end.is ∙ rw (blank_there, e)))

    number : number_in (take d.length after) ≡ some d.value
    number = sym (in_number (take d.length after) (omega (arith, digits_long)) (omega (arith, digits_long, s.few))) ∙ s.reads

    module _ (run : StatesRun) (g : RunStands (take (length after - (d.length + 1)) (drop (d.length + 1) after)) run) where
      runs : RunStands (drop (d.length + 1) after) run
      runs = rw (rest_whole (d.length + 1) after) at g

      pub run_inside : d.length + 1 + run.length ≤ length after
      run_inside = omega (arith, runs.inside, length-drop (d.length + 1) after, blank_inside)

      pub star_inside : (d.length + 1 + run.length ≡ length after → ⊥) → d.length + 1 + run.length < length after
      star_inside h = omega (arith, run_inside)

      abbrev long : ℕ
      long = d.length + 1 + run.length

      abbrev states : List ℕ
      states = take run.length (drop (d.length + 1) after)

      counted_states : (states_in states ≡ some (or_empty (states_in states)))
          × (length (or_empty (states_in states)) ≡ run.count)
      counted_states = some_counted (states_in states) run.count (sym runs.writes)

      -- Up to where the states end stand digits, a blank and states.
      parts : take long after ≡ take d.length after ++ (get_or after d.length 0 ∷ states)
      parts =
          let e : d.length + 1 + run.length ≡ d.length + suc run.length = omega arith in
          rw e (take-add d.length (suc run.length) after ∙ rw blank_there)

      parts_plain : AllPlain (take long after)
      unfolding AllPlain
      parts_plain =
          let b-plain : Plain (get_or after d.length 0) = blank_plain (get_or after d.length 0) is_blank_lem in
          rw parts (all_plain (take d.length after) _ (digits_plain (take d.length after) 0 d.value s.reads)
          (b-plain, states_plain states _ counted_states.0))

      -- What the field says depends on the bytes behind these.
      says_list : (x : List ℕ) → list_in (take long after ++ x) ≡ states_from (states_in (states ++ x)) d.value
      says_list x =
          rw (parts, append_assoc (take d.length after) (get_or after d.length 0 ∷ states) x)
          (list_blank (take d.length after) d.value s.reads (states ++ x) (get_or after d.length 0) is_blank_lem ∙ rw number)

      field_is : take (until_star after) after ≡ take long after ++ take (until_star (drop long after)) (drop long after)
      field_is =
          ap (λ (l : List ℕ). take (until_star l) l) (sym (take-append-drop long after))
          ∙ plain_field (take long after) (drop long after) parts_plain

      pub no_star : d.length + 1 + run.length ≡ length after → NoList after
      unfolding until_star
      no_star e =
          let all : take long after ≡ after = take_all long after (omega arith) in
          let plain-after : AllPlain after = rw all at parts_plain in
          let until : until_star after ≡ length after =
          rw (append-nil after, add-zero (length after)) at (plain_until after [] plain-after) in
          record { is_bad = λ h. absurd (omega arith) }

      module _ (more : d.length + 1 + run.length ≡ length after → ⊥) where
        next_there : drop long after ≡ get_or after long 0 ∷ drop (suc long) after
        next_there = drop-cons after long 0 (star_inside more)

        pub wrong_byte : (get_or after (d.length + 1 + run.length) 0 ≡ 42 → ⊥) → NoList after
        unfolding until_star
        wrong_byte n =
            let b = get_or after long 0 in
            let at_next : run.length < length (drop (d.length + 1) after) =
            omega (arith, star_inside more, length-drop (d.length + 1) after) in
            let there : get_or (drop (d.length + 1) after) run.length 0 ≡ b = get_or-drop (d.length + 1) after run.length 0 in
            let wrong : states_in (states ++ (b ∷ [])) ≡ none =
            rw (take-suc (drop (d.length + 1) after) run.length 0 at_next, there) at (runs.stops at_next) in
            record { is_bad = λ h. rw (field_is, next_there, ne_eqb b 42 n) (says_list _ ∙ rw (wrong_then states _ b wrong)) }

        pub no_state : get_or after (d.length + 1 + run.length) 0 ≡ 42 → run.count ≡ 0 → NoList after
        unfolding until_star
        no_state star none_there =
            record {
              is_bad =
                  λ h. rw (field_is, next_there, star) (says_list []
                  ∙ rw (append-nil states) (no_states_bad (some d.value) (states_in states) (counted_states.1 ∙ none_there)));
            }

        pub a_good_list : get_or after (d.length + 1 + run.length) 0 ≡ 42 → (run.count ≡ 0 → ⊥)
            → ListAt after
            (record {
              says = record { first = d.value; skip = d.length + 1; count = run.count; bits = run.bits };
              length = d.length + 1 + run.length;
            })
        unfolding until_star holds_mark states_of
        a_good_list star n =
            let field-long : length (take long after) ≡ long = length-take-le long after run_inside in
            let split = take d.length after ++ (get_or after d.length 0 ∷ states) in
            let rest : drop (d.length + 1) (take long after) ≡ states =
            rw parts (ap (λ (k : ℕ). drop (k + 1) split) (sym digits_long)
            ∙ drop-append-add (take d.length after) (get_or after d.length 0 ∷ states) 1) in
            let some-state : length (or_empty (states_in states)) ≡ 0 → ⊥ = λ e. n (sym counted_states.1 ∙ e) in
            let says : list_in (take long after) ≡ states_from (states_in states) d.value =
            rw (append-nil (take long after), append-nil states) at (says_list []) in
            record {
              inside = star_inside more;
              until =
                  ap until_star (sym (take-append-drop long after)) ∙ plain_until (take long after) (drop long after) parts_plain
                  ∙ rw (next_there, star, field-long) (add-zero long);
              unmarked = ap holds_mark (sym (append-nil (take long after))) ∙ plain_marks (take long after) [] parts_plain;
              says =
                  record {
                    is =
                        rw rest (full_list (or_empty (states_in states)) d.value some-state
                        ∙ sym (says ∙ ap (λ (o : Option (List ℕ)). states_from o d.value) counted_states.0));
                    fits =
                        record {
                          inside = omega arith;
                          found = rw rest counted_states.0;
                          many = rw rest counted_states.1;
                          few = omega (arith, runs.few);
                          any = omega arith;
                          told = λ l. rw rest (runs.told l);
                        };
                  };
            }
