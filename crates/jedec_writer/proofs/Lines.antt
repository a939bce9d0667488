-- Lines one after another: the fuses and bytes of lines, lines stored part by part, and the loops over rows and blocks.
-- Assumes nothing.
use mathlib.Core.Path.{◌≡◌, refl, sym, ◌∙◌, ap, ap₂}
use mathlib.Core.List.{List, [], ◌∷◌, ◌++◌, append_assoc, append-nil}
use Prim.Native.Nat.{ℕ, zero, suc, ◌+◌, ◌*◌, ◌-◌, ◌<◌}
use native.Mathlib.Omega.{arith}
use native.Mathlib.Nat.{suc-add, add-zero, zero-add, add_assoc, add_comm, zero-mul, suc-mul}
use lib.ListN.{length, length-append}
use lib.Seq.{sets, length-sets}
use Rattle.cells.specs.Cells.{total, repeat}
use Rattle.cells.proofs.Laws.{sets_append}
use Rattle.part.specs.Device.{line_bytes}
use Rattle.jedec.specs.WrittenText.{line_text, lines_text, pattern_fuses}
use Rattle.jedec_writer.specs.Pattern.{lines_bytes}
use Rattle.jedec_writer.specs.Spots.{Room, Lined}
use Rattle.jedec_writer.specs.declared.text.Spot.{Spot}
use Rattle.jedec_lines.proofs.LineText.{line_length}

-- Lines after lines: their text, bytes and fuses are those of both.
lines_append : (image : List ℕ) (lines more : List (List ℕ)) (fuse : ℕ)
    → lines_text image fuse (lines ++ more) ≡ lines_text image fuse lines ++ lines_text image (fuse + pattern_fuses lines) more
unfolding lines_text pattern_fuses
lines_append image [] more fuse = ap (λ (f : ℕ). lines_text image f more) (sym (add-zero fuse))
lines_append image (line ∷ lines) more fuse =
    ap (λ (l : List ℕ). line_text image fuse line ++ l) (lines_append image lines more (fuse + total line) ∙ ap
    (λ (f : ℕ). lines_text image (fuse + total line) lines ++ lines_text image f more) (add_assoc fuse (total line) (pattern_fuses lines)))
    ∙ sym (append_assoc (line_text image fuse line) (lines_text image (fuse + total line) lines) _)

pub lines_length : (image : List ℕ) (lines : List (List ℕ)) (fuse : ℕ) → length (lines_text image fuse lines) ≡ lines_bytes lines
unfolding lines_text lines_bytes
lines_length image [] fuse = refl
lines_length image (line ∷ lines) fuse =
    length-append (line_text image fuse line) (lines_text image (fuse + total line) lines)
    ∙ ap₂ ◌+◌ (line_length image fuse line) (lines_length image lines (fuse + total line))

pub fuses_append : (lines more : List (List ℕ)) → pattern_fuses (lines ++ more) ≡ pattern_fuses lines + pattern_fuses more
unfolding pattern_fuses
fuses_append [] more = sym (zero-add (pattern_fuses more))
fuses_append (line ∷ lines) more =
    ap (λ (x : ℕ). total line + x) (fuses_append lines more) ∙ sym (add_assoc (total line) (pattern_fuses lines) (pattern_fuses more))

pub bytes_append : (lines more : List (List ℕ)) → lines_bytes (lines ++ more) ≡ lines_bytes lines + lines_bytes more
unfolding lines_bytes
bytes_append [] more = sym (zero-add (lines_bytes more))
bytes_append (line ∷ lines) more =
    ap (λ (x : ℕ). line_bytes (length line) (total line) + x) (bytes_append lines more)
    ∙ sym (add_assoc (line_bytes (length line) (total line)) (lines_bytes lines) (lines_bytes more))

pub fuses_repeat : (k : ℕ) (lines : List (List ℕ)) → pattern_fuses (repeat k lines) ≡ k * pattern_fuses lines
unfolding pattern_fuses repeat
fuses_repeat zero lines = sym (zero-mul (pattern_fuses lines))
fuses_repeat (suc k) lines =
    fuses_append lines (repeat k lines) ∙ ap (λ (x : ℕ). pattern_fuses lines + x) (fuses_repeat k lines)
    ∙ add_comm (pattern_fuses lines) (k * pattern_fuses lines) ∙ sym (suc-mul k (pattern_fuses lines))

pub bytes_repeat : (k : ℕ) (lines : List (List ℕ)) → lines_bytes (repeat k lines) ≡ k * lines_bytes lines
unfolding lines_bytes repeat
bytes_repeat zero lines = sym (zero-mul (lines_bytes lines))
bytes_repeat (suc k) lines =
    bytes_append lines (repeat k lines) ∙ ap (λ (x : ℕ). lines_bytes lines + x) (bytes_repeat k lines)
    ∙ add_comm (lines_bytes lines) (k * lines_bytes lines) ∙ sym (suc-mul k (lines_bytes lines))

-- Lines stored behind lines are stored as one.
pub lines_sets : (image out : List ℕ) (lines more : List (List ℕ)) (fuse at n t : ℕ) → lines_bytes lines ≡ n → pattern_fuses lines ≡ t
    → sets (sets out at (lines_text image fuse lines)) (at + n) (lines_text image (fuse + t) more)
    ≡ sets out at (lines_text image fuse (lines ++ more))
lines_sets image out lines more fuse at n t e f =
    sym (rw (
      lines_append image lines more fuse,
      sets_append out at (lines_text image fuse lines) (lines_text image (fuse + pattern_fuses lines) more),
      lines_length image lines fuse,
      e,
      f,
    ))

-- What is known of lines put from a spot on: what was promised for lines and for those behind them holds of all.
pub lined_append : {lines more : List (List ℕ)} {image before middle after : List ℕ} {from here next : Spot}
    → Lined lines image before middle from here → Lined more image middle after here next
    → Lined (lines ++ more) image before after from next
lined_append {lines} {more} {image} {before} {middle} {after} {from} {here} {next} p q =
    record {
      stored =
          q.stored ∙ rw (p.stored, p.byte_on, p.fuse_on)
          (lines_sets image before lines more from.fuse from.at (lines_bytes lines) (pattern_fuses lines) refl refl);
      fuse_on = q.fuse_on ∙ rw (p.fuse_on, fuses_append lines more) (omega arith);
      byte_on = q.byte_on ∙ rw (p.byte_on, bytes_append lines more) (omega arith);
    }

pub room_first : {lines : List (List ℕ)} (more : List (List ℕ)) {image out : List ℕ} {from : Spot} → Room (lines ++ more) image from out
    → Room lines image from out
room_first {lines} more r =
    let fuses = fuses_append lines more in
    let bytes = bytes_append lines more in
    record { word = r.word; few = r.few; fuses = omega (arith, r.fuses, fuses); bytes = omega (arith, r.bytes, bytes) }

pub room_behind : {lines more : List (List ℕ)} {image before middle : List ℕ} {from here : Spot} → Room (lines ++ more) image from before
    → Lined lines image before middle from here → Room more image here middle
room_behind {lines} {more} {image} {before} {middle} {from} {here} r p =
    let fuses = fuses_append lines more in
    let bytes = bytes_append lines more in
    let kept : length middle ≡ length before = ap length p.stored ∙ length-sets before from.at (lines_text image from.fuse lines) in
    record {
      word = r.word;
      few = r.few;
      fuses = omega (arith, r.fuses, fuses, p.fuse_on);
      bytes = omega (arith, r.bytes, bytes, p.byte_on, kept);
    }

-- A line and the lines behind it.
pub line_room : (line : List ℕ) (more : List (List ℕ)) (image out : List ℕ) (from : Spot) → Room (line ∷ more) image from out
    → Room (line ∷ []) image from out
line_room line more image out from r = room_first {lines = line ∷ []} more r

pub rest_room : (line : List ℕ) (more : List (List ℕ)) (image before middle : List ℕ) (from here : Spot)
    → Room (line ∷ more) image from before → Lined (line ∷ []) image before middle from here → Room more image here middle
rest_room line more image before middle from here r p = room_behind {lines = line ∷ []} {more = more} r p

pub line_lined : (line : List ℕ) (more : List (List ℕ)) (image before middle after : List ℕ) (from here next : Spot)
    → Lined (line ∷ []) image before middle from here → Lined more image middle after here next
    → Lined (line ∷ more) image before after from next
line_lined line more image before middle after from here next p q = lined_append {lines = line ∷ []} {more = more} p q

pub one_lined : (line : List ℕ) (image before after : List ℕ) (from next : Spot)
    → after ≡ sets before from.at (line_text image from.fuse line)
    → next.fuse ≡ from.fuse + total line → next.at ≡ from.at + line_bytes (length line) (total line)
    → Lined (line ∷ []) image before after from next
unfolding lines_text pattern_fuses lines_bytes
one_lined line image before after from next e f g =
    record {
      stored = e ∙ ap (sets before from.at) (sym (append-nil (line_text image from.fuse line)));
      fuse_on = f ∙ omega arith;
      byte_on = g ∙ omega arith;
    }

-- A loop that puts lines `count` times: those so far, and once more.
repeat_add : (i k : ℕ) (lines : List (List ℕ)) → repeat (i + k) lines ≡ repeat i lines ++ repeat k lines
unfolding repeat
repeat_add zero k lines = rw (zero-add k)
repeat_add (suc i) k lines =
    rw (suc-add i k)
    (ap (λ (l : List (List ℕ)). lines ++ l) (repeat_add i k lines) ∙ sym (append_assoc lines (repeat i lines) (repeat k lines)))

repeat_once : (lines : List (List ℕ)) → repeat 1 lines ≡ lines
unfolding repeat
repeat_once lines = append-nil lines

pub none_lined : (lines : List (List ℕ)) (image out : List ℕ) (from : Spot) → Lined (repeat 0 lines) image out out from from
unfolding repeat lines_text pattern_fuses lines_bytes
none_lined lines image out from = record { stored = refl; fuse_on = omega arith; byte_on = omega arith }

pub next_lined : (lines : List (List ℕ)) (image before middle after : List ℕ) (from here next : Spot) (i : ℕ)
    → Lined (repeat i lines) image before middle from here → Lined lines image middle after here next
    → Lined (repeat (i + 1) lines) image before after from next
next_lined lines image before middle after from here next i p q = rw (repeat_add i 1 lines, repeat_once lines) (lined_append p q)

-- There is room for the next, since there is for all that are still to come.
pub next_room : (lines : List (List ℕ)) (image before middle : List ℕ) (from here : Spot) (i count : ℕ)
    → Room (repeat count lines) image from before → Lined (repeat i lines) image before middle from here → i < count
    → Room lines image here middle
unfolding repeat
next_room lines image before middle from here i count r p h =
    let left : count ≡ i + suc (count - (i + 1)) = omega arith in
    room_first _ (room_behind (rw (left, repeat_add i (suc (count - (i + 1))) lines) at r) p)
