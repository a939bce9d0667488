-- Every refusal of a text has a number of 7 to 11 or 13, and its value is no larger than the longest text if the count is not.
-- Assumes nothing.
use mathlib.Core.Path.{◌≡◌, refl, sym, ◌∙◌, ap, subst}
use mathlib.Core.Bool.{Bool, true, false, cond, ◌||◌, true≢false}
use mathlib.Core.List.{List, [], ◌∷◌}
use mathlib.Core.Option.{Option}
use mathlib.Core.Option.Option.{none, some}
use Prim.Native.Nat.{ℕ, zero, suc, ◌+◌, ◌*◌, ◌≤◌, ◌<◌}
use native.Mathlib.Omega.{arith}
use lib.Dec.{eqb, ltb}
use lib.ListN.{length, take, drop, drop_of_length-le, length-drop}
use Rattle.part.specs.Outcome.{Outcome}
use Rattle.part.specs.Outcome.Outcome.{accepted, refused}
use Rattle.part.proofs.Facts.{compared, by_cases}
use Rattle.image.specs.Image.{sum16}
use Rattle.jedec.specs.Characters.{stx, etx, star, is_blank, hex_value}
use Rattle.jedec.specs.Cut.{on_first, pieces, blanks_before, Field, Cut, starts_with, or_end, fields_from, holds_mark, Tail, digit_or}
use Rattle.jedec.specs.Cut.{tail_from}
use Rattle.jedec.specs.Cut.Tail.{given, wrong}
use Rattle.jedec.specs.Judge.{Judged, judge}
use Rattle.jedec.specs.Judge.Judged.{count, start, list, sum, skipped, bad}
use Rattle.jedec.specs.Rules.{At, Listed, Given, nothing_given, in_order, after, Fields, all_fields, wrong_count, end_of, misplaced}
use Rattle.jedec.specs.Rules.{first_not_given, without_start, finished}
use Rattle.jedec.specs.Rules.Fields.{all_good, bad_at}
use Rattle.jedec.specs.Form.{Each}
use Rattle.jedec.proofs.Lists.{each_more}
use Rattle.jedec.specs.Meaning.{longest, unless, wrong_sum, concluded, with_tail, with_end, with_fields, of_cut, of_pieces, meaning}

-- What holds of both holds of the choice.
pub chosen : {A : Type 0} (P : A → Type 0) (t : Bool) {a b : A} → P a → P b → P (cond t a b)
chosen P true x y = x
chosen P false x y = y

-- The refusals that a text has: 7 to 11, and 13.
abbrev pub OfText : (number : ℕ) → Type 0
OfText number = (7 ≤ number) × (number ≤ 13) × (number ≡ 12 → ⊥)

data Small : Outcome (List ℕ) → Type 0 where
  described : {image : List ℕ} → Small (accepted image)
  refusal : {number value : ℕ} → OfText number → value ≤ longest → Small (refused number value)

data PlaceSmall : Option ℕ → Type 0 where
  nowhere : PlaceSmall none
  place : {at : ℕ} → at ≤ longest → PlaceSmall (some at)

seven : (at : ℕ) → at ≤ longest → Small (refused 7 at)
seven at h = refusal {number = 7} (omega arith, omega arith, λ e. omega arith) h

-- The offsets that the fields gave are no larger than the longest text.
abbrev AtSmall : Option At → Type 0
AtSmall none = Unit {0}
AtSmall (some a) = a.at ≤ longest

abbrev ListSmall : Listed → Type 0
ListSmall l = l.at ≤ longest

record GivenSmall (k : Given) : Type 0 where
  count : AtSmall k.count
  lists : Each ListSmall k.lists
  sum : AtSmall k.sum

after_small : (k : Given) (at : ℕ) (j : Judged) → GivenSmall k → at ≤ longest → GivenSmall (after k at j)
after_small k at (count n) s h = record { count = h; lists = s.lists; sum = s.sum }
after_small k at (start x) s h = record { count = s.count; lists = s.lists; sum = s.sum }
after_small k at (list first states) s h = record { count = s.count; lists = each_more ListSmall _ k.lists s.lists h; sum = s.sum }
after_small k at (sum x) s h = record { count = s.count; lists = s.lists; sum = h }
after_small k at skipped s h = s
after_small k at bad s h = s

abbrev StartsSmall : List Field → Type 0
StartsSmall [] = Unit {0}
StartsSmall (f ∷ fields) = (f.start ≤ longest) × StartsSmall fields

abbrev FieldsSmall : Fields → Type 0
FieldsSmall (all_good k) = GivenSmall k
FieldsSmall (bad_at at) = at ≤ longest

fields_small : (fields : List Field) (k : Given) → GivenSmall k → StartsSmall fields → FieldsSmall (all_fields k fields)
unfolding all_fields
fields_small [] k s h = s
fields_small (f ∷ fields) k s h =
    chosen FieldsSmall (in_order k (judge f.bytes))
    (fields_small fields (after k f.start (judge f.bytes)) (after_small k f.start (judge f.bytes) s h.0) h.1)
    h.0

-- The values of refusals 8 to 11 are offsets of fields, or that of ETX; that of 13 is a fuse below the count.
unless_small : (number : ℕ) {o : Option ℕ} {answer : Outcome (List ℕ)} → OfText number → PlaceSmall o → Small answer
    → Small (unless number o answer)
unless_small number of-text nowhere s = s
unless_small number of-text (place h) s = refusal of-text h

count_small : (fuses etxOffset : ℕ) (o : Option At) → etxOffset ≤ longest → AtSmall o → PlaceSmall (wrong_count fuses etxOffset o)
count_small fuses etxOffset none h s = place h
count_small fuses etxOffset (some q) h s = chosen PlaceSmall (eqb q.value fuses) nowhere (place s)

lists_small : (fuses end : ℕ) (lists : List Listed) → Each ListSmall lists → PlaceSmall (misplaced fuses end lists)
unfolding misplaced
lists_small fuses end [] s = nowhere
lists_small fuses end (l ∷ lists) s =
    chosen PlaceSmall (ltb l.first end || ltb fuses (end_of l)) (place s.0) (lists_small fuses (end_of l) lists s.1)

sum_small : (image : List ℕ) (o : Option At) → AtSmall o → PlaceSmall (wrong_sum image o)
sum_small image none s = nowhere
sum_small image (some c) s = chosen PlaceSmall (eqb c.value (sum16 image)) nowhere (place s)

fuse_small : (fuses : ℕ) (start : Option ℕ) (first : ℕ) → fuses ≤ longest → PlaceSmall (without_start fuses start first)
fuse_small fuses none first few = by_cases PlaceSmall first fuses (λ l. place (omega arith)) (λ g. nowhere)
fuse_small fuses (some s) first few = nowhere

concluded_small : (fuses : ℕ) (text : List ℕ) (etxOffset x : ℕ) (k : Given) → fuses ≤ longest → etxOffset ≤ longest → GivenSmall k
    → Small (concluded fuses text etxOffset x k)
unfolding concluded
concluded_small fuses text etxOffset x k few h s =
    unless_small 8 (omega arith, omega arith, λ e. omega arith) (count_small fuses etxOffset k.count h s.count)
    (unless_small 9 (omega arith, omega arith, λ e. omega arith) (lists_small fuses 0 k.lists s.lists)
    (unless_small 13 (omega arith, omega arith, λ e. omega arith) (fuse_small fuses k.start (first_not_given fuses k.lists) few)
    (unless_small 10 (omega arith, omega arith, λ e. omega arith) (sum_small (finished fuses k) k.sum s.sum)
    (unless_small 11 (omega arith, omega arith, λ e. omega arith)
    (chosen PlaceSmall (eqb x 0 || eqb x (sum16 (take (etxOffset + 1) text))) nowhere (place h)) described))))

-- A wrong byte after ETX lies in the text or at its end.
abbrev TailSmall : Tail → Type 0
TailSmall (given x) = Unit {0}
TailSmall (wrong at) = at ≤ longest

tail_small : (bytes : List ℕ) (at digits x : ℕ) → at + length bytes ≤ longest → TailSmall (tail_from at digits x bytes)
unfolding tail_from
tail_small [] at zero x h = tt
tail_small [] at (suc digits) x h = omega arith
tail_small (b ∷ bytes) at zero x h = chosen TailSmall (is_blank b) (tail_small bytes (at + 1) zero x (omega arith)) (omega arith)
tail_small (b ∷ bytes) at (suc digits) x h = go (hex_value b) (λ y. tail_small bytes (at + 1) digits (x * 16 + y) (omega arith))
  where
    go : (o : Option ℕ) → ((y : ℕ) → TailSmall (tail_from (at + 1) digits (x * 16 + y) bytes))
        → TailSmall (digit_or (wrong at) o (λ y. tail_from (at + 1) digits (x * 16 + y) bytes))
    go none others = omega arith
    go (some y) others = others y

-- The fields lie in the text.
size : List (List ℕ) → ℕ
size [] = 0
size (p ∷ ps) = length p + 1 + size ps

pieces_size : (bytes : List ℕ) → size (pieces bytes).ended + length (pieces bytes).rest ≡ length bytes
unfolding pieces size
pieces_size [] = refl
pieces_size (b ∷ bytes) = go (eqb b star) (pieces bytes).ended (pieces bytes).rest (pieces_size bytes)
  where
    go : (t : Bool) (ended : List (List ℕ)) (rest : List ℕ) → size ended + length rest ≡ length bytes
        → size (cond t (record { ended = [] ∷ ended; rest = rest }) (on_first b ended rest)).ended
        + length (cond t (record { ended = [] ∷ ended; rest = rest }) (on_first b ended rest)).rest
        ≡ suc (length bytes)
    go true ended rest e = omega arith
    go false [] rest e = omega arith
    go false (p ∷ ps) rest e = omega arith

blanks_few : (bytes : List ℕ) → blanks_before bytes ≤ length bytes
unfolding blanks_before
blanks_few [] = omega arith
blanks_few (b ∷ bytes) =
    let shorter = blanks_few bytes in
    chosen (λ (n : ℕ). n ≤ suc (length bytes)) (is_blank b) (omega arith) (omega arith)

etx_there : (k : ℕ) (p : List ℕ) → starts_with etx (drop k p) ≡ true → k < length p
etx_there k p e = compared k (length p) (λ l. l) (λ g. absurd (true≢false (sym e ∙ ap (starts_with etx) (drop_of_length-le p g))))

abbrev EndSmall : Option ℕ → Type 0
EndSmall none = Unit {0}
EndSmall (some at) = at < longest

record CutSmall (cut : Cut) : Type 0 where
  starts : StartsSmall cut.fields
  end : EndSmall cut.end

or_end_small : (at : ℕ) (p : List ℕ) (cut : Cut) → at + length p ≤ longest → CutSmall cut → CutSmall (or_end at p cut)
or_end_small at p cut h s = go (starts_with etx (drop (blanks_before p) p)) refl
  where
    go : (t : Bool) → starts_with etx (drop (blanks_before p) p) ≡ t
        → CutSmall (cond t (record { fields = []; end = some (at + blanks_before p) }) cut)
    go true e = record { starts = tt; end = omega (arith, etx_there (blanks_before p) p e) }
    go false e = s

cut_small : (ended : List (List ℕ)) (at : ℕ) (rest : List ℕ) → at + (size ended + length rest) ≤ longest
    → CutSmall (fields_from at ended rest)
unfolding fields_from size
cut_small [] at rest h = or_end_small at rest _ (omega arith) (record { starts = tt; end = tt })
cut_small (p ∷ ps) at rest h =
    let others = cut_small ps (at + length p + 1) rest (omega arith) in
    or_end_small at p _ (omega arith) (record { starts = (omega (arith, blanks_few p), others.starts); end = others.end })

module _ (fuses : ℕ) (few : fuses ≤ longest) (text : List ℕ) (h : length text ≤ longest) where
  end_small : (k : Given) (o : Option ℕ) → GivenSmall k → EndSmall o → Small (with_end fuses text k o)
  end_small k none s l = seven (length text) h
  end_small k (some at) s l =
      let rest = drop (at + 1) text in
      go (tail_from (at + 1) 4 0 rest) (tail_small rest (at + 1) 4 0 (omega (arith, length-drop (at + 1) text)))
    where
      go : (t : Tail) → TailSmall t → Small (with_tail fuses text at k t)
      go (given x) m = concluded_small fuses text at x k few (omega arith) s
      go (wrong byte) m = seven byte m

  fields_then : (o : Option ℕ) (f : Fields) → FieldsSmall f → EndSmall o → Small (with_fields fuses text o f)
  fields_then o (all_good k) s l = end_small k o s l
  fields_then o (bad_at at) s l = seven at s

  cut_then : (cut : Cut) → CutSmall cut → Small (of_cut fuses text cut)
  cut_then cut s =
      fields_then cut.end (all_fields nothing_given cut.fields)
      (fields_small cut.fields nothing_given (record { count = tt; lists = tt; sum = tt }) s.starts) s.end

  pieces_small : (ended : List (List ℕ)) (rest : List ℕ) → size ended + length rest ≡ length text → Small (of_pieces fuses text ended rest)
  unfolding size
  pieces_small [] rest e = seven (length text) h
  pieces_small (design ∷ ended) rest e =
      chosen Small (holds_mark (drop 1 design)) (seven 1 (omega arith))
      (cut_then (fields_from (length design + 1) ended rest) (cut_small ended (length design + 1) rest (omega arith)))

meaning_small : (fuses : ℕ) → fuses ≤ longest → (text : List ℕ) → Small (meaning fuses text)
unfolding meaning
meaning_small fuses few text =
    by_cases Small longest (length text) (λ l. seven longest (omega arith)) (λ h.
    chosen Small (starts_with stx text) (pieces_small fuses few text h (pieces text).ended (pieces text).rest (pieces_size text))
    (seven 0 (omega arith)))

pub values_small : (fuses : ℕ) → fuses ≤ longest → (text : List ℕ) (number value : ℕ) → meaning fuses text ≡ refused number value
    → OfText number × (value ≤ longest)
values_small fuses few text number value e = go (subst Small e (meaning_small fuses few text))
  where
    go : Small (refused number value) → OfText number × (value ≤ longest)
    go (refusal of-text h) = (of-text, h)
