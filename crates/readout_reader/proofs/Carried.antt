-- Words stored above the bits that were left over before, in whole bytes of an image: nothing of them is lost, and what
-- one step leaves over the next one stores.
use Rattle.readout_rows.proofs.Stores.{sets_whole}
use mathlib.Core.Path.{◌≡◌, refl, sym, ◌∙◌, ap, ap₂, subst}
use mathlib.Core.List.{List, ◌++◌}
use Prim.Native.Nat.{ℕ, ◌+◌, ◌*◌, ◌-◌, ◌/◌, ◌%◌, ◌^◌, ◌≤◌, ◌<◌}
use native.Mathlib.Omega.{arith}
use native.Mathlib.Nat.{mul_assoc, add_comm, add-zero, zero-add, add-mul-div_right, add-mul-mod_self_right, mod-lt}
use lib.Arith.{digits_lt}
use lib.ListN.{length, drop, replicate, length-replicate, replicate-append-replicate}
use lib.Pow.{pow_pos, pow-add, shl_exact, shr_lt, shr-shr, high, low, mod-pow-add}
use lib.Seq.{sets, drop-drop}
use mir.Syntax.{w64}
use mir.Val.{Fits}
use Rattle.cells.specs.Cells.{cut, join, total}
use Rattle.cells.proofs.Laws.{cut_append, cut_low, cut_length, regrouped, join_append, join_small, join_few, total_replicate}

-- The shift of a word of few bits loses none.
shifted : (cells shift : ℕ) → cells < 2 ^ 48 → shift ≤ 4 → cells * 2 ^ shift % 2 ^ 64 ≡ cells * 2 ^ shift
shifted cells shift h hs = shl_exact 48 shift 64 h (omega arith)

-- Bytes that fill a slice.
bytes_filled : (n x : ℕ) (out : List ℕ) → length out ≡ n → sets out 0 (cut (replicate n 8) x) ≡ cut (replicate n 8) x
bytes_filled n x out e =
    sets_whole out (cut (replicate n 8) x) (e ∙ sym (cut_length (replicate n 8) x ∙ length-replicate {A = ℕ} n 8))

pub stored : (cells carry shift : ℕ) (out next : List ℕ) → cells < 2 ^ 48 → shift ≤ 4
    → next ≡ sets out 0 (cut (replicate (length out) 8) (cells * 2 ^ shift % 2 ^ 64 + carry))
    → next ≡ cut (replicate (length out) 8) (cells * 2 ^ shift + carry)
stored cells carry shift out next h hs e =
    e ∙ bytes_filled (length out) (cells * 2 ^ shift % 2 ^ 64 + carry) out refl
    ∙ ap (λ (y : ℕ). cut (replicate (length out) 8) (y + carry)) (shifted cells shift h hs)

-- Of a whole word, what the shift loses is what is left over.
wrapped : (word x shift : ℕ) → x < 2 ^ shift → shift ≤ 36 → (word * 2 ^ shift + x) % 2 ^ 64 ≡ word % 2 ^ (64 - shift) * 2 ^ shift + x
wrapped word x shift h hs =
    let whole : 64 ≡ 64 - shift + shift = omega arith in
    ap (λ (j : ℕ). (word * 2 ^ shift + x) % 2 ^ j) whole
    ∙ mod-pow-add (word * 2 ^ shift + x) (64 - shift) shift
    ∙ ap₂ (λ (y z : ℕ). y % 2 ^ (64 - shift) * 2 ^ shift + z) (high word shift h) (low word shift h)

eight_low : (word carry shift : ℕ) → carry < 2 ^ shift → shift ≤ 36
    → word * 2 ^ shift % 2 ^ 64 + carry ≡ (word * 2 ^ shift + carry) % 2 ^ 64
eight_low word carry shift h hs =
    ap (λ (y : ℕ). y % 2 ^ 64 + carry) (sym (add-zero (word * 2 ^ shift)))
    ∙ ap (λ (y : ℕ). y + carry) (wrapped word 0 shift (pow_pos shift) hs ∙ add-zero (word % 2 ^ (64 - shift) * 2 ^ shift))
    ∙ sym (wrapped word carry shift h hs)

pub eight_fits : (word carry shift : ℕ) → carry < 2 ^ shift → shift ≤ 36 → Fits w64 (word * 2 ^ shift % 2 ^ 64 + carry)
eight_fits word carry shift h hs =
    let small : (word * 2 ^ shift + carry) % 2 ^ 64 < 2 ^ 64 = mod-lt (word * 2 ^ shift + carry) (pow_pos 64) in
    rw (eight_low word carry shift h hs) (omega arith)

pub eight_over : (word carry shift : ℕ) → carry < 2 ^ shift → shift ≤ 36
    → word / 2 ^ 1 / 2 ^ (63 - shift) ≡ (word * 2 ^ shift + carry) / 2 ^ (8 * 8)
eight_over word carry shift h hs =
    let x = word * 2 ^ shift + carry in
    let less : 1 + (63 - shift) ≡ 64 - shift = omega arith in
    let whole : shift + (64 - shift) ≡ 64 = omega arith in
    shr-shr word 1 (63 - shift)
    ∙ ap (λ (j : ℕ). word / 2 ^ j) less
    ∙ ap (λ (y : ℕ). y / 2 ^ (64 - shift)) (sym (high word shift h))
    ∙ shr-shr x shift (64 - shift)
    ∙ ap (λ (j : ℕ). x / 2 ^ j) whole

pub eight_stored : (word carry shift : ℕ) (out next : List ℕ) → carry < 2 ^ shift → shift ≤ 36 → length out ≡ 8
    → next ≡ sets out 0 (cut (replicate 8 8) (word * 2 ^ shift % 2 ^ 64 + carry))
    → next ≡ cut (replicate 8 8) (word * 2 ^ shift + carry)
unfolding total
eight_stored word carry shift out next h hs size e =
    e ∙ bytes_filled 8 (word * 2 ^ shift % 2 ^ 64 + carry) out size
    ∙ ap (cut (replicate 8 8)) (eight_low word carry shift h hs) ∙ cut_low (replicate 8 8) (word * 2 ^ shift + carry) 0

-- At most six cells have at most 48 bits.
pub few : (count width x : ℕ) (cells : List ℕ) → count ≤ 6 → width ≤ 8 → x ≡ join (replicate count width) cells → x < 2 ^ 48
few count width x cells hc hw e = rw e (join_few count width 6 cells hc hw)

-- What a step stores and leaves over, said of the cells that its word is joined from.
pub of_cells : (x cells carry shift bytes r : ℕ) (next : List ℕ) → x ≡ cells → r ≡ (x * 2 ^ shift + carry) / 2 ^ (bytes * 8)
    → next ≡ cut (replicate bytes 8) (x * 2 ^ shift + carry)
    → (r ≡ (cells * 2 ^ shift + carry) / 2 ^ (bytes * 8)) × (next ≡ cut (replicate bytes 8) (cells * 2 ^ shift + carry))
of_cells x cells carry shift bytes r next e f g = (
  f ∙ ap (λ (y : ℕ). (y * 2 ^ shift + carry) / 2 ^ (bytes * 8)) e,
  g ∙ ap (λ (y : ℕ). cut (replicate bytes 8) (y * 2 ^ shift + carry)) e,
)

-- Bytes of a number in two parts: what the first part leaves over is added to the second.
pub bytes_in_parts : (k m x y : ℕ)
    → cut (replicate (k + m) 8) (x + y * 2 ^ (k * 8)) ≡ cut (replicate k 8) x ++ cut (replicate m 8) (y + x / 2 ^ (k * 8))
bytes_in_parts k m x y =
    let both = x + y * 2 ^ (k * 8) in
    let ws : List ℕ = replicate k 8 in
    let size : 0 + total ws ≡ k * 8 = zero-add (total ws) ∙ total_replicate k 8 in
    let lower : (z : ℕ) → cut ws (z % 2 ^ (k * 8)) ≡ cut ws z =
    λ z. subst (λ (j : ℕ). cut ws (z % 2 ^ j) ≡ cut ws z) size (cut_low ws z 0) in
    ap (λ (l : List ℕ). cut l both) (sym (replicate-append-replicate {A = ℕ} k m 8))
    ∙ cut_append ws (replicate m 8) both
    ∙ ap₂ ◌++◌ (sym (lower both) ∙ ap (cut ws) (add-mul-mod_self_right x y (2 ^ (k * 8))) ∙ lower x)
    (ap (cut (replicate m 8))
    (ap (λ (j : ℕ). both / 2 ^ j) (total_replicate k 8) ∙ add-mul-div_right x y (pow_pos (k * 8)) ∙ add_comm (x / 2 ^ (k * 8)) y))

-- One step: of the cells `cs` and then `ws`, joined above a carry of s bits, k bytes are stored and s' bits are left over.
module _ (cs ws readout : List ℕ) (at at' carry over s s' k : ℕ) (bits : total cs + s ≡ s' + k * 8) (ea : at' ≡ at + length cs)
    (eo : over ≡ (join cs (drop at readout) * 2 ^ s + carry) / 2 ^ (k * 8)) where
  -- The rest stands above the word of this step.
  step_word : join (cs ++ ws) (drop at readout) * 2 ^ s + carry
      ≡ join cs (drop at readout) * 2 ^ s + carry + join ws (drop at' readout) * 2 ^ s' * 2 ^ (k * 8)
  step_word =
      let cells = drop at readout in
      let rest = join ws (drop at' readout) in
      let there : drop (length cs) cells ≡ drop at' readout = drop-drop (length cs) at readout ∙ ap (λ (i : ℕ). drop i readout) (sym ea) in
      let power : rest * 2 ^ (s + total cs) ≡ rest * 2 ^ s' * 2 ^ (k * 8) = ap (λ (i : ℕ). rest * 2 ^ i) (add_comm s (total cs) ∙ bits)
      ∙ ap (λ (y : ℕ). rest * y) (pow-add 2 s' (k * 8)) ∙ sym (mul_assoc rest (2 ^ s') (2 ^ (k * 8))) in
      ap (λ (y : ℕ). y * 2 ^ s + carry) (join_append cs ws cells ∙ ap (λ (l : List ℕ). join cs cells + join ws l * 2 ^ total cs) there)
      ∙ regrouped (join cs cells) rest carry (total cs) s ∙ ap (λ (y : ℕ). join cs cells * 2 ^ s + carry + y) power

  -- What the rest leaves over is what all cells leave over.
  pub step_over : (m : ℕ)
      → (join ws (drop at' readout) * 2 ^ s' + over) / 2 ^ (m * 8)
      ≡ (join (cs ++ ws) (drop at readout) * 2 ^ s + carry) / 2 ^ ((k + m) * 8)
  step_over m =
      let word = join cs (drop at readout) * 2 ^ s + carry in
      let rest = join ws (drop at' readout) * 2 ^ s' in
      let bytes : k * 8 + m * 8 ≡ (k + m) * 8 = omega arith in
      rw (step_word, ← bytes, ← shr-shr (word + rest * 2 ^ (k * 8)) (k * 8) (m * 8), eo)
      (ap (λ (y : ℕ). y / 2 ^ (m * 8)) (add_comm rest (word / 2 ^ (k * 8)) ∙ sym (add-mul-div_right word rest (pow_pos (k * 8)))))

  -- The bytes of this step and those of the rest are the bytes of all cells.
  pub step_bytes : (m : ℕ)
      → cut (replicate k 8) (join cs (drop at readout) * 2 ^ s + carry)
      ++ cut (replicate m 8) (join ws (drop at' readout) * 2 ^ s' + over)
      ≡ cut (replicate (k + m) 8) (join (cs ++ ws) (drop at readout) * 2 ^ s + carry)
  step_bytes m =
      let word = join cs (drop at readout) * 2 ^ s + carry in
      let rest = join ws (drop at' readout) * 2 ^ s' in
      ap (λ (y : ℕ). cut (replicate k 8) word ++ cut (replicate m 8) (rest + y)) eo
      ∙ sym (ap (cut (replicate (k + m) 8)) step_word ∙ bytes_in_parts k m word rest)

-- What is left over has only the bits that were not stored.
pub left_over : (cs cells : List ℕ) (carry over s s' k : ℕ) → carry < 2 ^ s → total cs + s ≡ s' + k * 8
    → over ≡ (join cs cells * 2 ^ s + carry) / 2 ^ (k * 8) → over < 2 ^ s'
left_over cs cells carry over s s' k h t e =
    let small : join cs cells * 2 ^ s + carry < 2 ^ total cs * 2 ^ s = digits_lt (join_small cs cells) h in
    let small' : join cs cells * 2 ^ s + carry < 2 ^ (s' + k * 8) =
    subst (λ (i : ℕ). join cs cells * 2 ^ s + carry < 2 ^ i) t (rw (pow-add 2 (total cs) s) small) in
    rw e (shr_lt s' (k * 8) small')

-- After whole bytes as many bits are left over as before.
pub left_over_bytes : (count x carry over s : ℕ) (cells : List ℕ) → x ≡ join (replicate count 8) cells → carry < 2 ^ s
    → over ≡ (x * 2 ^ s + carry) / 2 ^ (count * 8) → over < 2 ^ s
left_over_bytes count x carry over s cells e h f =
    left_over (replicate count 8) cells carry over s s count h
    (ap (λ (t : ℕ). t + s) (total_replicate count 8) ∙ add_comm (count * 8) s) (rw e at f)
