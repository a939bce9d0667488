-- A text put together from fields and blanks is cut into these fields: `assembled` in specs/Form.antt.
-- Assumes nothing.
use mathlib.Core.Path.{◌≡◌, refl, sym, ◌∙◌, ap}
use mathlib.Core.Bool.{Bool, true, false, not, true≢false}
use mathlib.Core.List.{List, [], ◌∷◌, ◌++◌, append_assoc}
use mathlib.Core.Option.Option.{some}
use Prim.Native.Nat.{ℕ, suc, ◌+◌}
use native.Mathlib.Omega.{arith}
use lib.Dec.{eqb}
use lib.ListN.{length, length-append}
use lib.Seq.{drop-append_seam}
use borrow.Author.Tests.{not-true, ne_eqb}
use Rattle.part.proofs.Facts.{and_iff}
use Rattle.jedec.specs.Characters.{etx, star, is_blank}
use Rattle.jedec.specs.Cut.{on_first, pieces, blanks_before, Cut, starts_with, or_end, fields_from}
use Rattle.jedec.specs.Form.{all, not_star, SpacedField, starts, RightField, RightFields, spaced_text, offset_after, fields_of}
use Rattle.jedec.specs.Form.{offset_after_all}

-- Bytes without a `*` stay together.
piece_byte : (b : ℕ) → not_star b ≡ true → (bytes : List ℕ) → pieces (b ∷ bytes) ≡ on_first b (pieces bytes).ended (pieces bytes).rest
unfolding pieces
piece_byte b h bytes = rw (not-true (eqb b star) h)

pub no_star_pieces : (bytes : List ℕ) → all not_star bytes ≡ true → pieces bytes ≡ record { ended = []; rest = bytes }
unfolding all pieces
no_star_pieces [] h = refl
no_star_pieces (b ∷ bytes) h =
    let both = (and_iff (not_star b) (all not_star bytes)).0 h in
    piece_byte b both.0 bytes ∙ rw (no_star_pieces bytes both.1)

-- The bytes up to the next `*` are a piece.
pub star_pieces : (bytes rest : List ℕ) → all not_star bytes ≡ true
    → pieces (bytes ++ star ∷ rest) ≡ record { ended = bytes ∷ (pieces rest).ended; rest = (pieces rest).rest }
unfolding all pieces
star_pieces [] rest h = refl
star_pieces (b ∷ bytes) rest h =
    let both = (and_iff (not_star b) (all not_star bytes)).0 h in
    piece_byte b both.0 (bytes ++ star ∷ rest) ∙ rw (star_pieces bytes rest both.1)

-- Blanks before a field are counted as such.
pub blanks_before_lem : (blanks bytes : List ℕ) → all is_blank blanks ≡ true → blanks_before bytes ≡ 0
    → blanks_before (blanks ++ bytes) ≡ length blanks
unfolding all blanks_before
blanks_before_lem [] bytes h none = none
blanks_before_lem (b ∷ blanks) bytes h none =
    let both = (and_iff (is_blank b) (all is_blank blanks)).0 h in
    rw both.0 (ap suc (blanks_before_lem blanks bytes both.1 none))

-- A field starts with no blank and no ETX.
record Starting (bytes : List ℕ) : Type 0 where
  no_blank : blanks_before bytes ≡ 0
  no_etx : starts_with etx bytes ≡ false

starting : (bytes : List ℕ) → starts bytes ≡ true → Starting bytes
unfolding blanks_before
starting [] h = record { no_blank = refl; no_etx = refl }
starting (b ∷ bytes) h =
    let both = (and_iff (not (is_blank b)) (not (eqb b etx))).0 h in
    record { no_blank = rw (not-true (is_blank b) both.0); no_etx = not-true (eqb b etx) both.1 }

-- Two lists of bytes pass a test together exactly if each does.
pub all_append : (test : ℕ → Bool) (xs ys : List ℕ) → all test xs ≡ true → all test ys ≡ true → all test (xs ++ ys) ≡ true
unfolding all
all_append test [] ys h k = k
all_append test (b ∷ xs) ys h k =
    let both = (and_iff (test b) (all test xs)).0 h in
    (and_iff (test b) (all test (xs ++ ys))).1 (both.0, all_append test xs ys both.1 k)

pub all_behind : (test : ℕ → Bool) (xs ys : List ℕ) → all test (xs ++ ys) ≡ true → all test ys ≡ true
unfolding all
all_behind test [] ys h = h
all_behind test (b ∷ xs) ys h = all_behind test xs ys ((and_iff (test b) (all test (xs ++ ys))).0 h).1

-- No blank is a `*`.
pub blank_no_star : (bytes : List ℕ) → all is_blank bytes ≡ true → all not_star bytes ≡ true
unfolding all
blank_no_star [] h = refl
blank_no_star (b ∷ bytes) h =
    let both = (and_iff (is_blank b) (all is_blank bytes)).0 h in
    (and_iff (not_star b) (all not_star bytes)).1 (one b both.0, blank_no_star bytes both.1)
  where
    one : (b : ℕ) → is_blank b ≡ true → not_star b ≡ true
    one b h = rw (ne_eqb b star (λ e. true≢false (sym (rw e at h))))

-- A piece with a field is no end, and the one with ETX after blanks is.
pub no_end : (at : ℕ) (p : SpacedField) → all is_blank p.blanks ≡ true → starts p.bytes ≡ true → (other : Cut)
    → or_end at (p.blanks ++ p.bytes) other ≡ other
no_end at p blank begins other =
    let s = starting p.bytes begins in
    rw (blanks_before_lem p.blanks p.bytes blank s.no_blank, drop-append_seam p.blanks p.bytes, s.no_etx)

pub at_end : (at : ℕ) (gap tail : List ℕ) → all is_blank gap ≡ true → (other : Cut)
    → or_end at (gap ++ etx ∷ tail) other ≡ record { fields = []; end = some (at + length gap) }
unfolding blanks_before
at_end at gap tail blank other = rw (blanks_before_lem gap (etx ∷ tail) blank refl, drop-append_seam gap (etx ∷ tail))

-- The first piece gives its field, and the rest of the pieces the others.
pub one_field : (at : ℕ) (p : SpacedField) → RightField p → (ended : List (List ℕ)) (rest : List ℕ)
    → fields_from at ((p.blanks ++ p.bytes) ∷ ended) rest
    ≡ record {
      fields = record { start = at + length p.blanks; bytes = p.bytes } ∷ (fields_from (offset_after at p) ended rest).fields;
      end = (fields_from (offset_after at p) ended rest).end;
    }
unfolding fields_from
one_field at p right ended rest =
    let s = starting p.bytes right.begins in
    no_end at p right.blank right.begins _
    ∙ rw (blanks_before_lem p.blanks p.bytes right.blank s.no_blank, drop-append_seam p.blanks p.bytes)

-- Fields before blanks and ETX are cut into these fields and this ETX.
module _ (gap tail : List ℕ) (blank : all is_blank gap ≡ true) (no_star : all not_star tail ≡ true) where
  last : List ℕ
  last = gap ++ etx ∷ tail

  last_pieces : pieces last ≡ record { ended = []; rest = last }
  unfolding last all
  last_pieces = no_star_pieces (gap ++ etx ∷ tail) (all_append not_star gap (etx ∷ tail) (blank_no_star gap blank) no_star)

  last_cut : (at : ℕ) → fields_from at [] last ≡ record { fields = []; end = some (at + length gap) }
  unfolding last fields_from
  last_cut at = at_end at gap tail blank _

  cut_from : ℕ → List ℕ → Cut
  cut_from at text = fields_from at (pieces text).ended (pieces text).rest

  fields_last : (at : ℕ) (spaced : List SpacedField) → RightFields spaced
      → cut_from at (spaced_text spaced ++ last)
      ≡ record { fields = fields_of at spaced; end = some (offset_after_all at spaced + length gap) }
  unfolding spaced_text fields_of offset_after_all cut_from
  fields_last at [] right = rw last_pieces (last_cut at)
  fields_last at (p ∷ spaced) right =
      let piece = p.blanks ++ p.bytes in
      let regrouped : spaced_text (p ∷ spaced) ++ last ≡ piece ++ (star ∷ (spaced_text spaced ++ last)) =
      append_assoc piece (star ∷ spaced_text spaced) last in
      let no-star-in : all not_star piece ≡ true =
      all_append not_star p.blanks p.bytes (blank_no_star p.blanks right.0.blank) right.0.no_star in
      rw (regrouped, star_pieces piece (spaced_text spaced ++ last) no-star-in)
      (one_field at p right.0 (pieces (spaced_text spaced ++ last)).ended (pieces (spaced_text spaced ++ last)).rest
      ∙ rw (fields_last (offset_after at p) spaced right.1))

  pub fields_cut : (at : ℕ) (spaced : List SpacedField) → RightFields spaced
      → fields_from at (pieces (spaced_text spaced ++ (gap ++ etx ∷ tail))).ended (pieces (spaced_text spaced ++ (gap ++ etx ∷ tail))).rest
      ≡ record { fields = fields_of at spaced; end = some (offset_after_all at spaced + length gap) }
  unfolding last cut_from
  fields_cut at spaced right = fields_last at spaced right

-- The offset after all fields is that of the first plus their bytes.
pub offset_after_all_lem : (at : ℕ) (spaced : List SpacedField) → offset_after_all at spaced ≡ at + length (spaced_text spaced)
unfolding offset_after_all spaced_text
offset_after_all_lem at [] = omega arith
offset_after_all_lem at (p ∷ spaced) =
    offset_after_all_lem (offset_after at p) spaced
    ∙ omega (arith, length-append (p.blanks ++ p.bytes) (star ∷ spaced_text spaced))
