-- A text taken apart at each `*`: the pieces are the text, and up to ETX each is a field with the blanks before it.
-- Assumes nothing.
use mathlib.Core.Path.{◌≡◌, refl, sym, ap}
use mathlib.Core.Bool.{Bool, true, false, cond}
use mathlib.Core.List.{List, [], ◌∷◌, ◌++◌, append_assoc}
use mathlib.Core.Option.Option.{none, some}
use Prim.Native.Nat.{ℕ, ◌+◌}
use native.Mathlib.Omega.{arith}
use lib.Dec.{eqb}
use lib.ListN.{length}
use borrow.Author.Tests.{eqb-true}
use Rattle.jedec.specs.Characters.{etx, star, is_blank}
use Rattle.jedec.specs.Cut.{Pieces, on_first, pieces, Cut, or_end, fields_from}
use Rattle.jedec.specs.Form.{all, not_star, SpacedField, starts, RightField, RightFields, spaced_text, offset_after, fields_of}
use Rattle.jedec.specs.Form.{offset_after_all}
use Rattle.jedec.proofs.Cutting.{all_behind, no_end, at_end, one_field}

-- Pieces one after the other, each with its `*`.
unfoldable pub joined : List (List ℕ) → List ℕ → List ℕ
joined [] rest = rest
joined (p ∷ ps) rest = p ++ star ∷ joined ps rest

abbrev pub NoStars : List (List ℕ) → Type 0
NoStars [] = Unit {0}
NoStars (p ∷ ps) = (all not_star p ≡ true) × NoStars ps

-- They are the text, and hold no other `*`.
pub record Whole (bytes : List ℕ) (p : Pieces) : Type 0 where
  pub joined_bytes : joined p.ended p.rest ≡ bytes
  pub no_stars : NoStars p.ended

pub whole : (bytes : List ℕ) → Whole bytes (pieces bytes)
unfolding pieces joined all
whole [] = record { joined_bytes = refl; no_stars = tt }
whole (b ∷ bytes) = go (eqb b star) refl (pieces bytes).ended (pieces bytes).rest (whole bytes)
  where
    go : (t : Bool) → eqb b star ≡ t → (ended : List (List ℕ)) (rest : List ℕ) → Whole bytes (record { ended = ended; rest = rest })
        → Whole (b ∷ bytes) (cond t (record { ended = [] ∷ ended; rest = rest }) (on_first b ended rest))
    go true w ended rest h = record { joined_bytes = rw (eqb-true b star w, h.joined_bytes); no_stars = (refl, h.no_stars) }
    go false w [] rest h = record { joined_bytes = ap (λ (r : List ℕ). b ∷ r) h.joined_bytes; no_stars = tt }
    go false w (p ∷ ps) rest h =
        record { joined_bytes = ap (λ (r : List ℕ). b ∷ r) h.joined_bytes; no_stars = (rw w h.no_stars.0, h.no_stars.1) }

-- A piece is blanks and then a field, or blanks and then ETX and others.
data Piece : List ℕ → Type 0 where
  field : (p : SpacedField) → all is_blank p.blanks ≡ true → starts p.bytes ≡ true → Piece (p.blanks ++ p.bytes)
  last : (gap tail : List ℕ) → all is_blank gap ≡ true → Piece (gap ++ etx ∷ tail)

with_blank : (b : ℕ) → is_blank b ≡ true → (bytes : List ℕ) → Piece bytes → Piece (b ∷ bytes)
unfolding all
with_blank b blank bytes (field p h begins) = field (record { blanks = b ∷ p.blanks; bytes = p.bytes }) (rw blank h) begins
with_blank b blank bytes (last gap tail h) = last (b ∷ gap) tail (rw blank h)

piece : (bytes : List ℕ) → Piece bytes
unfolding all
piece [] = field (record { blanks = []; bytes = [] }) refl refl
piece (b ∷ bytes) = go (is_blank b) refl (eqb b etx) refl (piece bytes)
  where
    go : (t : Bool) → is_blank b ≡ t → (u : Bool) → eqb b etx ≡ u → Piece bytes → Piece (b ∷ bytes)
    go true blank u w others = with_blank b blank bytes others
    go false blank true w others = rw (eqb-true b etx w) (last [] bytes refl)
    go false blank false w others = field (record { blanks = []; bytes = b ∷ bytes }) refl (rw (blank, w))

-- Bytes are fields with blanks before them, then blanks, then ETX and what follows it, and the cut gives these fields and this ETX.
pub record TakenApart (at : ℕ) (bytes : List ℕ) (cut : Cut) (etxOffset : ℕ) : Type 0 where
  pub spaced : List SpacedField
  pub gap : List ℕ
  pub tail : List ℕ
  pub right : RightFields spaced
  pub blank_gap : all is_blank gap ≡ true
  pub all_bytes : bytes ≡ spaced_text spaced ++ (gap ++ etx ∷ tail)
  pub cut_fields : cut.fields ≡ fields_of at spaced
  pub etx_place : etxOffset ≡ offset_after_all at spaced + length gap

-- The piece with ETX ends the fields, whatever stands behind it.
last_piece : (at : ℕ) (gap tail : List ℕ) → all is_blank gap ≡ true → (other : Cut) (etxOffset : ℕ)
    → (or_end at (gap ++ etx ∷ tail) other).end ≡ some etxOffset
    → (bytes behind : List ℕ) → bytes ≡ gap ++ etx ∷ behind → TakenApart at bytes (or_end at (gap ++ etx ∷ tail) other) etxOffset
unfolding spaced_text fields_of offset_after_all
last_piece at gap tail blank other etxOffset e bytes behind is =
    let there : some (at + length gap) ≡ some etxOffset = rw (at_end at gap tail blank other) at e in
    record {
      spaced = [];
      gap = gap;
      tail = behind;
      right = tt;
      blank_gap = blank;
      all_bytes = is;
      cut_fields = rw (at_end at gap tail blank other);
      etx_place = cc;
    }

-- A piece with a field adds this field to those behind it.
one_piece : (at : ℕ) (p : SpacedField) → RightField p → (ended : List (List ℕ)) (rest : List ℕ) (etxOffset : ℕ)
    → TakenApart (offset_after at p) (joined ended rest) (fields_from (offset_after at p) ended rest) etxOffset
    → TakenApart at (joined ((p.blanks ++ p.bytes) ∷ ended) rest) (fields_from at ((p.blanks ++ p.bytes) ∷ ended) rest) etxOffset
unfolding joined spaced_text fields_of offset_after_all
one_piece at p right ended rest etxOffset q =
    record {
      spaced = p ∷ q.spaced;
      gap = q.gap;
      tail = q.tail;
      right = (right, q.right);
      blank_gap = q.blank_gap;
      all_bytes = rw q.all_bytes (sym (append_assoc (p.blanks ++ p.bytes) (star ∷ spaced_text q.spaced) (q.gap ++ etx ∷ q.tail)));
      cut_fields = rw (one_field at p right ended rest, q.cut_fields);
      etx_place = q.etx_place;
    }

-- All pieces up to the one with ETX are taken apart so.
pub taken_apart : (ended : List (List ℕ)) (at : ℕ) (rest : List ℕ) (etxOffset : ℕ) → NoStars ended
    → (fields_from at ended rest).end ≡ some etxOffset
    → TakenApart at (joined ended rest) (fields_from at ended rest) etxOffset
unfolding fields_from joined
taken_apart [] at rest etxOffset no_star e = go rest (piece rest) e
  where
    go : (bytes : List ℕ) → Piece bytes → (fields_from at [] bytes).end ≡ some etxOffset
        → TakenApart at bytes (fields_from at [] bytes) etxOffset
    go bytes (field p blank begins) e =
        let nowhere : none ≡ some etxOffset = rw (no_end at p blank begins (record { fields = []; end = none })) at e in
        let z : ◌≡◌ {A = ℕ} 0 1 = cc in
        absurd (omega arith)
    go bytes (last gap tail blank) e = last_piece at gap tail blank _ etxOffset e (gap ++ etx ∷ tail) tail refl
taken_apart (p ∷ ps) at rest etxOffset no_star e =
    go p (piece p) no_star.0 (taken_apart ps (at + length p + 1) rest etxOffset no_star.1) e
  where
    go : (bytes : List ℕ) → Piece bytes → all not_star bytes ≡ true
        → ((fields_from (at + length bytes + 1) ps rest).end ≡ some etxOffset
        → TakenApart (at + length bytes + 1) (joined ps rest) (fields_from (at + length bytes + 1) ps rest) etxOffset)
        → (fields_from at (bytes ∷ ps) rest).end ≡ some etxOffset
        → TakenApart at (bytes ++ star ∷ joined ps rest) (fields_from at (bytes ∷ ps) rest) etxOffset
    go bytes (field q blank begins) no_star others e =
        let right : RightField q = record { blank = blank; no_star = all_behind not_star q.blanks q.bytes no_star; begins = begins } in
        one_piece at q right ps rest etxOffset (others (rw (one_field at q right ps rest) at e))
    go bytes (last gap tail blank) no_star others e =
        let behind = star ∷ joined ps rest in
        last_piece at gap tail blank _ etxOffset e (gap ++ etx ∷ tail ++ behind) (tail ++ behind) (append_assoc gap (etx ∷ tail) behind)
