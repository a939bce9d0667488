-- The fields of a text by position: cut at the first `*`, with blanks before a field left out.
-- Assumes nothing.
use mathlib.Core.Path.{◌≡◌, refl, sym, ◌∙◌, ap}
use mathlib.Core.Bool.{Bool, true, false}
use mathlib.Core.List.{List, [], ◌∷◌}
use mathlib.Core.Option.Option.{none, some}
use Prim.Native.Nat.{ℕ, zero, suc, ◌+◌, ◌-◌, ◌≤◌, ◌<◌}
use native.Mathlib.Omega.{arith}
use native.Mathlib.Nat.{add-zero, not-suc-le-zero}
use lib.Dec.{eqb}
use lib.ListN.{length, get_or, take, drop, length-drop, drop_of_length-le}
use lib.Seq.{length-take-le, drop-cons, drop-drop}
use borrow.Author.Tests.{ne_eqb}
use Rattle.jedec.specs.Characters.{etx, star, is_blank}
use Rattle.jedec.specs.Cut.{on_first, pieces, blanks_before, Cut, starts_with, or_end, fields_from}
use Rattle.jedec.specs.Judge.{judge}
use Rattle.jedec_judge.specs.Judged.{Says}
use Rattle.jedec_fields.proofs.PlainBytes.{blank_other}
use Rattle.jedec_fields.specs.Fields.{until_star, fields_at, cut_of, Stands}
use Rattle.jedec_judge.specs.declared.FieldSays.{FieldSays}
use Rattle.std.specs.Prelude.{Some, None}
use Rattle.jedec_fields.specs.declared.NextSays.TheVariants.{Field, End}

-- A text is cut at its first `*`, or holds none.
pub record Cuts (bytes : List ℕ) (u : ℕ) : Type 0 where
  pub ended : (pieces bytes).ended ≡ take u bytes ∷ (pieces (drop (suc u) bytes)).ended
  pub rest : (pieces bytes).rest ≡ (pieces (drop (suc u) bytes)).rest

pub pieces_star : (bytes : List ℕ) → until_star bytes < length bytes → Cuts bytes (until_star bytes)
unfolding pieces until_star
pieces_star [] h = absurd (not-suc-le-zero h)
pieces_star (b ∷ bytes) h = go (eqb b star) refl (pieces_star bytes)
  where
    go : (t : Bool) → eqb b star ≡ t → (until_star bytes < length bytes → Cuts bytes (until_star bytes))
        → Cuts (b ∷ bytes) (until_star (b ∷ bytes))
    go true e shorter = record { ended = rw e; rest = rw e }
    go false e shorter =
        let less : suc (until_star bytes) < suc (length bytes) = rw e at h in
        let ih : Cuts bytes (until_star bytes) = shorter (omega arith) in
        record { ended = rw (e, ih.ended); rest = rw (e, ih.ended, ih.rest) }

pub record Uncut (bytes : List ℕ) : Type 0 where
  pub ended : (pieces bytes).ended ≡ []
  pub rest : (pieces bytes).rest ≡ bytes

pub pieces_none : (bytes : List ℕ) → length bytes ≤ until_star bytes → Uncut bytes
unfolding pieces until_star
pieces_none [] h = record { ended = refl; rest = refl }
pieces_none (b ∷ bytes) h = go (eqb b star) refl (pieces_none bytes)
  where
    go : (t : Bool) → eqb b star ≡ t → (length bytes ≤ until_star bytes → Uncut bytes) → Uncut (b ∷ bytes)
    go true e shorter = let none_left : suc (length bytes) ≤ 0 = rw e at h in absurd (not-suc-le-zero none_left)
    go false e shorter =
        let less : suc (length bytes) ≤ suc (until_star bytes) = rw e at h in
        let ih : Uncut bytes = shorter (omega arith) in
        record { ended = rw (e, ih.ended); rest = rw (e, ih.ended, ih.rest) }

-- A blank before a field does not change the fields.
blank_on_first : (at b : ℕ) (ended : List (List ℕ)) (rest : List ℕ) → is_blank b ≡ true
    → fields_from at (on_first b ended rest).ended (on_first b ended rest).rest ≡ fields_from (at + 1) ended rest
unfolding fields_from blanks_before
blank_on_first at b [] rest h =
    let e : at + suc (blanks_before rest) ≡ at + 1 + blanks_before rest = omega arith in
    rw (h, e)
blank_on_first at b (p ∷ ps) rest h =
    let e : at + suc (blanks_before p) ≡ at + 1 + blanks_before p = omega arith in
    let f : at + suc (length p) + 1 ≡ at + 1 + length p + 1 = omega arith in
    rw (h, e, f)

blank_skipped : (at b : ℕ) (bytes : List ℕ) → is_blank b ≡ true → fields_at at (b ∷ bytes) ≡ fields_at (at + 1) bytes
unfolding fields_at pieces
blank_skipped at b bytes h =
    rw (ne_eqb b star (blank_other b star h refl)) (blank_on_first at b (pieces bytes).ended (pieces bytes).rest h)

blanks_skipped : (at : ℕ) (bytes : List ℕ) → fields_at at bytes ≡ fields_at (at + blanks_before bytes) (drop (blanks_before bytes) bytes)
unfolding blanks_before
blanks_skipped at [] = rw (add-zero at)
blanks_skipped at (b ∷ bytes) = go (is_blank b) refl (blanks_skipped (at + 1) bytes)
  where
    go : (t : Bool) → is_blank b ≡ t
        → fields_at (at + 1) bytes ≡ fields_at (at + 1 + blanks_before bytes) (drop (blanks_before bytes) bytes)
        → fields_at at (b ∷ bytes) ≡ fields_at (at + blanks_before (b ∷ bytes)) (drop (blanks_before (b ∷ bytes)) (b ∷ bytes))
    go true e shorter =
        let f : at + suc (blanks_before bytes) ≡ at + 1 + blanks_before bytes = omega arith in
        rw (e, f) (blank_skipped at b bytes e ∙ shorter)
    go false e shorter = rw (e, add-zero at)

-- What the blanks stop at is no blank.
after_blanks : (bytes : List ℕ) (b : ℕ) (rest : List ℕ) → drop (blanks_before bytes) bytes ≡ b ∷ rest → is_blank b ≡ false
unfolding blanks_before
after_blanks [] b rest e = let z : ◌≡◌ {A = ℕ} 0 1 = cc in absurd (omega arith)
after_blanks (a ∷ bytes) b rest e = go (is_blank a) refl (after_blanks bytes b rest)
  where
    go : (t : Bool) → is_blank a ≡ t → (drop (blanks_before bytes) bytes ≡ b ∷ rest → is_blank b ≡ false) → is_blank b ≡ false
    go true f shorter = shorter (rw f at e)
    go false f shorter = let g : a ∷ bytes ≡ b ∷ rest = rw f at e in let h : a ≡ b = cc in rw (← h) f

-- A field starts with neither a blank nor ETX.
abbrev StartsField : List ℕ → Type 0
StartsField p = (blanks_before p ≡ 0) × (starts_with etx p ≡ false)

starts_first : (b : ℕ) (bytes : List ℕ) → is_blank b ≡ false → (b ≡ 3 → ⊥) → StartsField (b ∷ bytes)
unfolding blanks_before
starts_first b bytes h n = (rw h, ne_eqb b 3 n)

starts_take : (u b : ℕ) (bytes : List ℕ) → is_blank b ≡ false → (b ≡ 3 → ⊥) → StartsField (take u (b ∷ bytes))
unfolding blanks_before
starts_take zero b bytes h n = (refl, refl)
starts_take (suc u) b bytes h n = starts_first b (take u bytes) h n

starts_or_end : (at : ℕ) (p : List ℕ) (other : Cut) → StartsField p → or_end at p other ≡ other
starts_or_end at p other e = rw (e.0, e.1)

at_etx : (at : ℕ) (bytes : List ℕ) → fields_at at (3 ∷ bytes) ≡ record { fields = []; end = some at }
unfolding fields_at pieces fields_from blanks_before
at_etx at bytes = go (pieces bytes).ended (pieces bytes).rest
  where
    go : (ended : List (List ℕ)) (rest : List ℕ)
        → fields_from at (on_first 3 ended rest).ended (on_first 3 ended rest).rest ≡ record { fields = []; end = some at }
    go [] rest = rw (add-zero at)
    go (p ∷ ps) rest = rw (add-zero at)

module _ (at b : ℕ) (bytes : List ℕ) (h : is_blank b ≡ false) (n : b ≡ 3 → ⊥) where
  at_none : length (b ∷ bytes) ≤ until_star (b ∷ bytes) → fields_at at (b ∷ bytes) ≡ record { fields = []; end = none }
  unfolding fields_at fields_from
  at_none l =
      let u : Uncut (b ∷ bytes) = pieces_none (b ∷ bytes) l in
      rw (u.ended, u.rest) (starts_or_end at (b ∷ bytes) _ (starts_first b bytes h n))

  at_field : (u : ℕ) → u ≡ until_star (b ∷ bytes) → u < length (b ∷ bytes)
      → fields_at at (b ∷ bytes)
      ≡ record {
        fields = (record { start = at; bytes = take u (b ∷ bytes) }) ∷ (fields_at (at + u + 1) (drop (u + 1) (b ∷ bytes))).fields;
        end = (fields_at (at + u + 1) (drop (u + 1) (b ∷ bytes))).end;
      }
  unfolding fields_at fields_from
  at_field u e l =
      let c : Cuts (b ∷ bytes) u = rw e (pieces_star (b ∷ bytes) (rw e at l)) in
      let p : StartsField (take u (b ∷ bytes)) = starts_take u b bytes h n in
      let k : length (take u (b ∷ bytes)) ≡ u = length-take-le u (b ∷ bytes) (omega arith) in
      let s : u + 1 ≡ suc u = omega arith in
      rw (s, c.ended, c.rest, p.0, p.1, k, add-zero at)

-- What stands next is told from the first byte on that is no blank.
nothing : (at : ℕ) → fields_at at [] ≡ record { fields = []; end = none }
unfolding fields_at pieces fields_from blanks_before
nothing at = refl

module _ (text : List ℕ) (at start : ℕ) (e : start ≡ at + blanks_before (drop at text)) where
  -- The fields from the first byte on that is no blank.
  from_start : fields_at at (drop at text) ≡ fields_at start (drop start text)
  from_start = blanks_skipped at (drop at text) ∙ rw (drop-drop (blanks_before (drop at text)) at text, ← e)

  nothing_from : start ≡ length text → Stands text at None
  nothing_from l =
      let past : length text ≤ start = omega arith in
      record { cut = sym (from_start ∙ rw (drop_of_length-le text past) (nothing start)); inside = tt; judged = tt }

  module _ (l : start < length text) where
    first_there : drop start text ≡ get_or text start 0 ∷ drop (suc start) text
    first_there = drop-cons text start 0 (omega arith)

    pub the_end : get_or text start 0 ≡ 3 → Stands text at (Some (End start))
    the_end f =
        record { cut = sym (from_start ∙ rw (first_there, f) (at_etx start (drop (suc start) text))); inside = omega arith; judged = tt }

    no_blank : is_blank (get_or text start 0) ≡ false
    no_blank =
        after_blanks (drop at text) (get_or text start 0) (drop (suc start) text)
        (drop-drop (blanks_before (drop at text)) at text ∙ ap (λ (k : ℕ). drop k text) (sym e) ∙ first_there)

    module _ (m : get_or text start 0 ≡ 3 → ⊥) (star : ℕ) (s : star ≡ start + until_star (drop start text)) where
      long : length (get_or text start 0 ∷ drop (suc start) text) ≡ length text - start
      long = ap length (sym first_there) ∙ length-drop start text

      no_star_from : star ≡ length text → Stands text at None
      no_star_from g =
          let u : until_star (get_or text start 0 ∷ drop (suc start) text) ≡ length text - start = rw (← first_there) (omega arith) in
          record {
            cut =
                sym (from_start
                ∙ rw first_there (at_none start (get_or text start 0) (drop (suc start) text) no_blank m (omega (arith, long, u))));
            inside = tt;
            judged = tt;
          }

      pub a_field : star < length text → (fs : FieldSays)
          → Says (drop 1 (take (star - start) (drop start text))) (judge (take (star - start) (drop start text))) fs
          → Stands text at (Some (Field start star fs))
      a_field k fs j =
          let w : star - start ≡ until_star (get_or text start 0 ∷ drop (suc start) text) = rw (← first_there) (omega arith) in
          let there : start + (star - start) + 1 ≡ star + 1 = omega arith in
          let next : start + (star - start + 1) ≡ star + 1 = omega arith in
          let beyond : drop (star - start + 1) (drop start text) ≡ drop (star + 1) text =
          drop-drop (star - start + 1) start text ∙ ap (λ (j : ℕ). drop j text) next in
          let field : fields_at start (drop start text) ≡ cut_of text (Some (Field start star fs)) =
          rw (← first_there, there, beyond) at (at_field start (get_or text start 0) (drop (suc start) text) no_blank m (star - start) w
          (omega (arith, long))) in
          record { cut = sym (from_start ∙ field); inside = (omega arith, omega arith, omega arith); judged = j }

pub nothing_left : (text : List ℕ) (at : ℕ) → at + blanks_before (drop at text) ≡ length text → Stands text at None
nothing_left text at e = nothing_from text at _ refl e

pub no_star : (text : List ℕ) (at start : ℕ) → start ≡ at + blanks_before (drop at text) → start < length text
    → (get_or text start 0 ≡ 3 → ⊥) → start + until_star (drop start text) ≡ length text → Stands text at None
no_star text at start e l m g = no_star_from text at start e l m _ refl g
