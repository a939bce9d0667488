-- Text put one part after another, where a part may leave other bytes behind it that the next replaces.
-- Assumes nothing.
use mathlib.Core.Path.{◌≡◌, refl, sym, ◌∙◌, ap, ap₂}
use mathlib.Core.List.{List, [], ◌∷◌, ◌++◌, append_assoc, append-nil}
use Prim.Native.Nat.{ℕ, zero, suc, ◌+◌, ◌*◌, ◌-◌, ◌/◌, ◌^◌, ◌≤◌, ◌<◌}
use native.Mathlib.Omega.{arith}
use native.Mathlib.Nat.{add-zero, not-suc-le-zero, le_of_suc-le-suc}
use lib.ListN.{length, get_or, take, drop, replicate, length-append, length-take, length-replicate, replicate-append-replicate}
use lib.Seq.{sets, sets-eq, length-sets, take_at, drop_at, drop-drop}
use Rattle.cells.specs.Cells.{cut, total}
use Rattle.cells.proofs.Laws.{cut_append, cut_length}
use Rattle.report_lines.specs.Put.{Put}
use Rattle.names.specs.Pieces.{text_of, name_text, AllFew}
use Rattle.names.specs.declared.pieces.Piece.{Piece}
use Rattle.names.proofs.AtFuse.{text_length}
use Rattle.std.proofs.lemmas.List.{take_more, take_all}
use Rattle.differences.specs.Scan.{Laid, SpellsLine}
use Rattle.differences.specs.declared.lines.Line.{Line}

-- What stands behind an index stands behind a later one.
later : (a b : List ℕ) (from to : ℕ) → from ≤ to → drop from a ≡ drop from b → drop to a ≡ drop to b
later a b from to h e =
    let sum : from + (to - from) ≡ to = omega arith in
    ap (λ (k : ℕ). drop k a) (sym sum) ∙ sym (drop-drop (to - from) from a) ∙ ap (drop (to - from)) e ∙ drop-drop (to - from) from b
    ∙ ap (λ (k : ℕ). drop k b) sum

-- Bytes stored from an index on, of which the first are the text.
pub stored : (before after text more : List ℕ) (at : ℕ) → at + length (text ++ more) ≤ length before
    → after ≡ sets before at (text ++ more) → Laid before after at (at + length (text ++ more)) text (at + length text)
stored before after text more at fits e =
    let bytes = text ++ more in
    let whole : after ≡ take at before ++ bytes ++ drop (at + length bytes) before = e ∙ sets-eq bytes before at fits in
    let first : length (take at before) ≡ at = length-take at before ∙ omega (arith, length-append text more) in
    let front : length (take at before ++ text) ≡ at + length text =
    length-append (take at before) text ∙ ap (λ (n : ℕ). n + length text) first in
    let all : length (take at before ++ bytes) ≡ at + length bytes =
    length-append (take at before) bytes ∙ ap (λ (n : ℕ). n + length bytes) first in
    let apart : (u v w x : List ℕ) → u ++ (v ++ w) ++ x ≡ (u ++ v) ++ (w ++ x) = λ u v w x. simp append_assoc in
    record {
      ends = refl;
      long = ap length e ∙ length-sets before at bytes;
      holds =
          ap (take (at + length text)) (whole ∙ apart (take at before) text more (drop (at + length bytes) before))
          ∙ take_at (take at before ++ text) _ (at + length text) front;
      behind = ap (drop (at + length bytes)) whole ∙ drop_at (take at before ++ bytes) _ (at + length bytes) all;
    }

-- Text behind text is one text.
pub then : (before middle after first second : List ℕ) (at next end until until' all : ℕ) → Laid before middle at until first next
    → Laid middle after next until' second end → until ≤ all → until' ≤ all → Laid before after at all (first ++ second) end
then before middle after first second at next end until until' all p q h h' =
    record {
      ends = q.ends ∙ rw (p.ends, length-append first second) (omega arith);
      long = q.long ∙ p.long;
      holds = q.holds ∙ rw p.holds (append_assoc (take at before) first second);
      behind = later _ _ until' all h' q.behind ∙ later _ _ until all h p.behind;
    }

-- The same with other names for indices and text.
pub until_later : (before after text : List ℕ) (at next until all : ℕ) → Laid before after at until text next → until ≤ all
    → Laid before after at all text next
until_later before after text at next until all p h =
    record { ends = p.ends; long = p.long; holds = p.holds; behind = later _ _ until all h p.behind }

-- The bytes of a piece, and more behind them.
pub piece_laid : (p : Piece) (before after : List ℕ) (at : ℕ) → p.len ≤ 8 → at + 8 ≤ length before
    → after ≡ sets before at (cut (replicate 8 8) p.word) → Laid before after at (at + 8) (text_of p) (at + p.len)
piece_laid p before after at few fits e =
    let rest = 8 - p.len in
    let eight : p.len + rest ≡ 8 = omega arith in
    let more = cut (replicate rest 8) (p.word / 2 ^ total (replicate p.len 8)) in
    let split : cut (replicate 8 8) p.word ≡ text_of p ++ more =
    ap (λ (k : ℕ). cut (replicate k 8) p.word) (sym eight)
    ∙ ap (λ (ws : List ℕ). cut ws p.word) (sym (replicate-append-replicate p.len rest 8))
    ∙ cut_append (replicate p.len 8) (replicate rest 8) p.word in
    let long : length (text_of p) ≡ p.len = cut_length (replicate p.len 8) p.word ∙ length-replicate {A = ℕ} p.len 8 in
    let whole : length (text_of p ++ more) ≡ 8 =
    ap length (sym split) ∙ cut_length (replicate 8 8) p.word ∙ length-replicate {A = ℕ} 8 8 in
    let laid = stored before after (text_of p) more at (omega (arith, whole)) (e ∙ ap (sets before at) split) in
    record {
      ends = ap (λ (n : ℕ). at + n) (sym long);
      long = laid.long;
      holds = ap (λ (n : ℕ). take (at + n) after) (sym long) ∙ laid.holds;
      behind = ap (λ (n : ℕ). drop (at + n) after) (sym whole) ∙ laid.behind ∙ ap (λ (n : ℕ). drop (at + n) before) whole;
    }

-- Bytes put, and no others.
pub put_laid : (before after bytes : List ℕ) (at end : ℕ) → at + length bytes ≤ length before → Put before after at bytes end
    → Laid before after at (at + length bytes) bytes end
put_laid before after bytes at end fits p =
    let none : bytes ++ [] ≡ bytes = append-nil bytes in
    let laid = stored before after bytes [] at (rw none fits) (p.holds ∙ ap (sets before at) (sym none)) in
    record { ends = p.ends; long = laid.long; holds = rw p.ends laid.holds; behind = rw none at laid.behind }

-- No text.
pub nothing_laid : (out : List ℕ) (at until : ℕ) → Laid out out at until [] at
nothing_laid out at until =
    record { ends = sym (add-zero at); long = refl; holds = sym (append-nil (take at out)); behind = refl }

-- Text of which a part is put and the rest is to come.
pub record Going (before after : List ℕ) (at until : ℕ) (rest all : List ℕ) (next : ℕ) : Type 0 where
  pub done : List ℕ
  pub laid : Laid before after at until done next
  pub whole : done ++ rest ≡ all

pub going_start : (before all : List ℕ) (at until : ℕ) → at ≤ length before → Going before before at until all all at
going_start before all at until h =
    record {
      done = [];
      laid = nothing_laid before at until;
      whole = refl;
    }

pub going_on : (before middle after text rest more all : List ℕ) (at until next end : ℕ) → Going before middle at until more all next
    → more ≡ text ++ rest → Laid middle after next until text end → Going before after at until rest all end
going_on before middle after text rest more all at until next end g e p =
    record {
      done = g.done ++ text;
      laid = then before middle after g.done text at next end until until until g.laid p (omega arith) (omega arith);
      whole = append_assoc g.done text rest ∙ ap (λ (l : List ℕ). g.done ++ l) (sym e) ∙ g.whole;
    }

pub going_end : (before after rest all : List ℕ) (at until next : ℕ) → Going before after at until rest all next → rest ≡ []
    → Laid before after at until all next
going_end before after rest all at until next g e =
    let same : g.done ≡ all = sym (append-nil g.done) ∙ ap (λ (l : List ℕ). g.done ++ l) (sym e) ∙ g.whole in
    rw same at g.laid

pub going_fits : (before after rest all : List ℕ) (at until next : ℕ) → Going before after at until rest all next
    → next + length rest ≡ at + length all
going_fits before after rest all at until next g =
    let long : length g.done + length rest ≡ length all = sym (length-append g.done rest) ∙ ap length g.whole in
    omega (arith, g.laid.ends)

-- The pieces of a name one behind another: when `i` of them are put, the next one follows.
name_append : (ps qs : List Piece) → name_text (ps ++ qs) ≡ name_text ps ++ name_text qs
name_append [] qs = refl
name_append (p ∷ ps) qs =
    ap (λ (l : List ℕ). text_of p ++ l) (name_append ps qs) ∙ sym (append_assoc (text_of p) (name_text ps) (name_text qs))

name_more : (n : List Piece) (i : ℕ) (none : Piece) → i < length n
    → name_text (take (i + 1) n) ≡ name_text (take i n) ++ text_of (get_or n i none)
name_more n i none h =
    ap name_text (take_more n i none h) ∙ name_append (take i n) (get_or n i none ∷ [])
    ∙ ap (λ (l : List ℕ). name_text (take i n) ++ l) (append-nil (text_of (get_or n i none)))

few_at : (n : List Piece) (i : ℕ) (none : Piece) → AllFew n → i < length n → (get_or n i none).len ≤ 8
few_at [] i none h l = absurd (not-suc-le-zero l)
few_at (q ∷ n) zero none h l = h.0
few_at (q ∷ n) (suc i) none h l = few_at n i none h.1 (le_of_suc-le-suc l)

module _ (n : List Piece) (few : AllFew n) (five : length n ≡ 5) where
  -- The bytes of the pieces so far.
  pub bytes_fit : (none : Piece) (i bytes : ℕ) → i < 5 → bytes ≤ 8 * i → bytes + (get_or n i none).len ≤ 8 * (i + 1)
  bytes_fit none i bytes below most = omega (arith, few_at n i none few (omega arith))

  pub bytes_more : (none : Piece) (i bytes : ℕ) → i < 5 → bytes ≡ length (name_text (take i n))
      → bytes + (get_or n i none).len ≡ length (name_text (take (i + 1) n))
  bytes_more none i bytes below e =
      e' ∙ sym (ap length (name_more n i none (omega arith)) ∙ length-append (name_text (take i n)) (text_of (get_or n i none)))
    where
      e' : bytes + (get_or n i none).len ≡ length (name_text (take i n)) + length (text_of (get_or n i none))
      e' = ap₂ ◌+◌ e (sym (text_length (get_or n i none)))

  pub bytes_all : (i bytes : ℕ) → 5 ≤ i → i ≤ 5 → bytes ≡ length (name_text (take i n)) → bytes ≤ 8 * i
      → (bytes ≡ length (name_text n)) × (bytes ≤ 40)
  bytes_all i bytes above below e most = (e ∙ ap (λ (l : List Piece). length (name_text l)) (take_all i n (omega arith)), omega arith)

  -- The text of the pieces so far.
  pub piece_room : (none : Piece) (out : List ℕ) (at i next : ℕ) → i < 5 → next ≤ at + 8 * i → at + 40 ≤ length out
      → ((get_or n i none).len ≤ 8) × (next + 8 ≤ length out)
  piece_room none out at i next below most fits = (few_at n i none few (omega arith), omega arith)

  pub piece_put : (none : Piece) (before out after : List ℕ) (at i next end : ℕ) → i < 5
      → Laid before out at (at + 40) (name_text (take i n)) next → next ≤ at + 8 * i
      → Laid out after next (next + 8) (text_of (get_or n i none)) end → end ≡ next + (get_or n i none).len
      → Laid before after at (at + 40) (name_text (take (i + 1) n)) end × (end ≤ at + 8 * (i + 1))
  piece_put none before out after at i next end below p most q e =
      let all = then before out after _ _ at next end _ _ (at + 40) p q (omega arith) (omega arith) in
      (rw (name_more n i none (omega arith)) all, omega (arith, few_at n i none few (omega arith)))

  pub name_put : (before after : List ℕ) (at i next : ℕ) → 5 ≤ i → i ≤ 5 → Laid before after at (at + 40) (name_text (take i n)) next
      → next ≤ at + 8 * i → Laid before after at (at + 40) (name_text n) next × (next ≤ at + 40)
  name_put before after at i next above below p most =
      let all : take i n ≡ n = take_all i n (omega arith) in (rw all at p, omega arith)

pub line_laid : (l : Line) (text o a b c e : List ℕ) (at p q r s : ℕ) → SpellsLine l text
    → Laid o a at (at + 8) (text_of l.number) p → p ≡ at + l.number.len → Laid a b p (p + 8) (text_of l.states) q
    → q ≡ p + l.states.len → Laid b c q (q + 40) (name_text l.name) r → r ≤ q + 40
    → Laid c e r (r + 8) (text_of l.end) s → Laid o e at (at + 64) text s
line_laid l text o a b c e at p q r s h l1 e1 l2 e2 l3 e3 l4 =
    let few : (l.number.len ≤ 8) × (l.states.len ≤ 8) = (h.number_few, h.states_few) in
    let two = then o a b _ _ at p q _ _ (at + 64) l1 l2 (omega arith) (omega arith) in
    let three = then o b c _ _ at q r _ _ (at + 64) two l3 (omega arith) (omega arith) in
    rw h.text_is at (then o c e _ _ at r s _ _ (at + 64) three l4 (omega arith) (omega arith))

pub line_ends : (l : Line) (text : List ℕ) (at p q r s : ℕ) → SpellsLine l text → p ≡ at + l.number.len → q ≡ p + l.states.len
    → r ≤ q + 40 → s ≡ r + l.end.len → s ≤ at + 64
line_ends l text at p q r s h e1 e2 e3 e4 = omega (arith, h.number_few, h.states_few, h.end_few)
