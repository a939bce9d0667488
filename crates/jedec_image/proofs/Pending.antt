-- An image whose byte has new low bits that are not stored yet, and up to eight states more, which fill the byte or not.
-- Assumes nothing.
use mathlib.Core.Path.{◌≡◌, sym, ◌∙◌, ap, ap₂, subst}
use mathlib.Core.List.{List, ◌++◌, append_assoc}
use Prim.Native.Nat.{ℕ, zero, suc, ◌+◌, ◌*◌, ◌-◌, ◌/◌, ◌%◌, ◌^◌, ◌≤◌, ◌<◌}
use native.Mathlib.Omega.{arith}
use native.Mathlib.Nat.{add-mul, mul_assoc, mul_comm, pow-suc, add_comm, add-zero, div-one, mul-one, zero-mul, div-eq_of_lt, zero-add}
use native.Mathlib.Nat.{mod-lt, mod-eq_of_lt}
use native.Mathlib.Numerals.{add-one}
use lib.Arith.{digits_div, digits_mod, digits_lt}
use lib.ListN.{length, get_or, set, replicate, length-set, replicate-append-replicate}
use lib.Pow.{pow_pos, pow-add, split, high, low, shr-shr, shr_lt}
use lib.Seq.{set-get_or, set-set, get_or-set_same}
use Rattle.cells.specs.Cells.{cut, total}
use Rattle.cells.proofs.Laws.{cut_append, cut_low, total_replicate}
use Rattle.jedec_runs.proofs.BitsJoined.{bits_under}
use Rattle.image.specs.Bits.{put_bit, with_bit}
use Rattle.image.specs.Image.{with_fuse}
use Rattle.jedec_image.specs.States.{with_states}

-- An image whose byte has new low bits that are not stored yet.
unfoldable pub pending : (image : List ℕ) → (index bit low : ℕ) → List ℕ
pending image index bit low = set image index (get_or image index 0 / 2 ^ bit * 2 ^ bit + low)

pub pending_none : (image : List ℕ) (index : ℕ) → pending image index 0 0 ≡ image
unfolding pending
pending_none image index =
    ap (set image index) (add-zero _ ∙ mul-one _ ∙ div-one (get_or image index 0)) ∙ set-get_or image index 0

pub pending_own : (image : List ℕ) (index bit : ℕ) → pending image index bit (get_or image index 0 % 2 ^ bit) ≡ image
unfolding pending
pending_own image index bit = ap (set image index) (split (get_or image index 0) bit) ∙ set-get_or image index 0

-- One state more is one new low bit more.
regrouped : (q s m low : ℕ) → (q * 2 + s) * m + low ≡ q * (m * 2) + (low + s * m)
regrouped q s m low =
    let d : (q * 2 + s) * m ≡ q * 2 * m + s * m = add-mul (q * 2) s m in
    let a : q * 2 * m ≡ q * (2 * m) = mul_assoc q 2 m in
    let c : q * (2 * m) ≡ q * (m * 2) = ap (λ (x : ℕ). q * x) (mul_comm 2 m) in
    omega arith

put_low : (old low bit s : ℕ) → low < 2 ^ bit
    → put_bit (old / 2 ^ bit * 2 ^ bit + low) bit s ≡ old / 2 ^ (bit + 1) * 2 ^ (bit + 1) + (low + s * 2 ^ bit)
unfolding put_bit
put_low old l bit s h =
    let p : 2 ^ (bit + 1) ≡ 2 ^ bit * 2 = ap (λ (k : ℕ). 2 ^ k) (add-one bit) ∙ pow-suc 2 bit in
    let q : old / 2 ^ (bit + 1) ≡ old / 2 ^ bit / 2 = sym (shr-shr old bit 1) in
    rw (high (old / 2 ^ bit) bit h, low (old / 2 ^ bit) bit h, q, p) (regrouped (old / 2 ^ bit / 2) s (2 ^ bit) l)

module _ (image : List ℕ) (index bit l s : ℕ) (inside : index < length image) (small : bit < 8) (under : l < 2 ^ bit) where
  put_next : with_fuse (pending image index bit l) (index * 8 + bit) s ≡ pending image index (bit + 1) (l + s * 2 ^ bit)
  unfolding with_bit pending
  put_next =
      let old = get_or image index 0 in
      rw (digits_div index small, digits_mod index small, get_or-set_same image index (old / 2 ^ bit * 2 ^ bit + l) 0 inside, set-set)
      (ap (set image index) (put_low old l bit s under))

  under_next : s < 2 → l + s * 2 ^ bit < 2 ^ (bit + 1)
  under_next h =
      let p : 2 ^ (bit + 1) ≡ 2 * 2 ^ bit = ap (λ (k : ℕ). 2 ^ k) (add-one bit) ∙ pow-suc 2 bit ∙ mul_comm (2 ^ bit) 2 in
      rw (p, add_comm l (s * 2 ^ bit)) (digits_lt h under)

-- A byte whose eight bits are all new is stored whole.
pub put_stored : (image : List ℕ) (index l : ℕ) → get_or image index 0 < 2 ^ 8 → pending image index 8 l ≡ set image index l
unfolding pending
put_stored image index l h = ap (set image index) (rw (div-eq_of_lt h) (zero-add l))

-- A byte with new low bits is a byte.
module _ (old bit l : ℕ) (part : bit < 8) (under : l < 2 ^ bit) (octet : old < 2 ^ 8) where
  last_whole : old / 2 ^ bit * 2 ^ bit + l < 2 ^ 8
  last_whole =
      let e : 8 ≡ 8 - bit + bit = omega arith in
      let above : old < 2 ^ (8 - bit + bit) = rw (← e) octet in
      let all : old / 2 ^ bit * 2 ^ bit + l < 2 ^ (8 - bit) * 2 ^ bit = digits_lt (shr_lt (8 - bit) bit above) under in
      let p : 2 ^ (8 - bit) * 2 ^ bit ≡ 2 ^ 8 = sym (ap (λ (k : ℕ). 2 ^ k) e ∙ pow-add 2 (8 - bit) bit) in
      omega arith

  pub last_exact : old / 2 ^ bit * 2 ^ bit % 2 ^ 64 ≡ old / 2 ^ bit * 2 ^ bit
  last_exact = mod-eq_of_lt (omega (arith, last_whole))

  pub last_fits : old / 2 ^ bit * 2 ^ bit % 2 ^ 64 + l < 2 ^ 8
  last_fits = rw last_exact last_whole

-- Several states more that stay in the byte are as many new low bits more.
more_low : (low x bit : ℕ) → low + x % 2 ^ 1 * 2 ^ bit + x / 2 ^ 1 * 2 ^ (bit + 1) ≡ low + x * 2 ^ bit
more_low low x bit =
    let p : 2 ^ (bit + 1) ≡ 2 ^ bit * 2 = ap (λ (k : ℕ). 2 ^ k) (add-one bit) ∙ pow-suc 2 bit in
    let a : x / 2 ^ 1 * (2 ^ bit * 2) ≡ x / 2 ^ 1 * 2 * 2 ^ bit =
    ap (λ (y : ℕ). x / 2 ^ 1 * y) (mul_comm (2 ^ bit) 2) ∙ sym (mul_assoc (x / 2 ^ 1) 2 (2 ^ bit)) in
    let d : (x / 2 ^ 1 * 2 + x % 2 ^ 1) * 2 ^ bit ≡ x / 2 ^ 1 * 2 * 2 ^ bit + x % 2 ^ 1 * 2 ^ bit =
    add-mul (x / 2 ^ 1 * 2) (x % 2 ^ 1) (2 ^ bit) in
    let w : x / 2 ^ 1 * 2 + x % 2 ^ 1 ≡ x = split x 1 in
    rw (p, a) (omega (arith, (rw w at d)))

one_less : (x : ℕ) → x < 2 ^ 0 → x ≡ 0
one_less x h = omega arith

same_put : (image : List ℕ) (index bit bit' l l' at at' : ℕ) (rest : List ℕ) → bit ≡ bit' → l ≡ l' → at ≡ at'
    → with_states (pending image index bit l) at rest ≡ with_states (pending image index bit' l') at' rest
same_put image index bit bit' l l' at at' rest e f g = rw (e, f, g)

pub put_few : (k : ℕ) (image : List ℕ) (index bit l x : ℕ) (rest : List ℕ) → bit + k ≤ 8 → index * 8 + bit + k ≤ length image * 8
    → l < 2 ^ bit → x < 2 ^ k
    → with_states (pending image index bit l) (index * 8 + bit) (cut (replicate k 1) x ++ rest)
    ≡ with_states (pending image index (bit + k) (l + x * 2 ^ bit)) (index * 8 + bit + k) rest
unfolding with_states cut
put_few zero image index bit l x rest h fits under small =
    let z : l ≡ l + x * 2 ^ bit = sym (rw (one_less x small, zero-mul (2 ^ bit)) (add-zero l)) in
    same_put image index bit (bit + 0) l (l + x * 2 ^ bit) (index * 8 + bit) (index * 8 + bit + 0) rest (sym (add-zero bit)) z
    (sym (add-zero (index * 8 + bit)))
put_few (suc k) image index bit l x rest h fits under small =
    let inside : index < length image = omega arith in
    let e : bit < 8 = omega arith in
    let s : x % 2 ^ 1 < 2 = omega arith in
    let half : x / 2 ^ 1 < 2 ^ k = shr_lt k 1 (rw (add-one k) small) in
    let next : bit + 1 + k ≤ 8 = omega arith in
    let space : index * 8 + (bit + 1) + k ≤ length image * 8 = omega arith in
    ap (λ (p : List ℕ). with_states p (index * 8 + bit + 1) (cut (replicate k 1) (x / 2 ^ 1) ++ rest))
    (put_next image index bit l (x % 2 ^ 1) inside e under)
    ∙ ap (λ (n : ℕ). with_states (pending image index (bit + 1) (l + x % 2 ^ 1 * 2 ^ bit)) n (cut (replicate k 1) (x / 2 ^ 1) ++ rest))
    (omega arith)
    ∙ put_few k image index (bit + 1) (l + x % 2 ^ 1 * 2 ^ bit) (x / 2 ^ 1) rest next space
    (under_next image index bit l (x % 2 ^ 1) inside e under s) half
    ∙ same_put image index (bit + 1 + k) (bit + suc k) _ (l + x * 2 ^ bit) (index * 8 + (bit + 1) + k) (index * 8 + bit + suc k) rest
    (omega arith) (more_low l x bit) (omega arith)

-- Of states that run over, some fill the byte and the others stand in the next.
module _ (image : List ℕ) (index bit l x k : ℕ) (rest : List ℕ) (eight : bit < 8) (few : k ≤ 8) (full : 8 ≤ bit + k)
    (fits : index * 8 + bit + k ≤ length image * 8) (under : l < 2 ^ bit) (small : x < 2 ^ k) (octet : get_or image index 0 < 2 ^ 8) where
  into : ℕ
  into = 8 - bit

  over : ℕ
  over = bit + k - 8

  stored : ℕ
  stored = l + x % 2 ^ into * 2 ^ bit

  in_byte : bit + into ≡ 8
  unfolding into
  in_byte = omega arith

  stored_small : stored < 2 ^ 8
  unfolding stored
  stored_small =
      subst (λ (n : ℕ). l + x % 2 ^ into * 2 ^ bit < 2 ^ n) in_byte (bits_under bit into l (x % 2 ^ into) under (mod-lt x (pow_pos into)))

  in_two : l + x * 2 ^ bit ≡ x / 2 ^ into * 2 ^ 8 + stored
  unfolding stored
  in_two =
      let p : 2 ^ 8 ≡ 2 ^ into * 2 ^ bit = ap (λ (n : ℕ). 2 ^ n) (sym in_byte) ∙ pow-add 2 bit into ∙ mul_comm (2 ^ bit) (2 ^ into) in
      let a : x / 2 ^ into * (2 ^ into * 2 ^ bit) ≡ x / 2 ^ into * 2 ^ into * 2 ^ bit =
      sym (mul_assoc (x / 2 ^ into) (2 ^ into) (2 ^ bit)) in
      let d : (x / 2 ^ into * 2 ^ into + x % 2 ^ into) * 2 ^ bit ≡ x / 2 ^ into * 2 ^ into * 2 ^ bit + x % 2 ^ into * 2 ^ bit =
      add-mul (x / 2 ^ into * 2 ^ into) (x % 2 ^ into) (2 ^ bit) in
      let w : x * 2 ^ bit ≡ x / 2 ^ into * 2 ^ into * 2 ^ bit + x % 2 ^ into * 2 ^ bit =
      ap (λ (y : ℕ). y * 2 ^ bit) (sym (split x into)) ∙ d in
      let q : x / 2 ^ into * 2 ^ 8 ≡ x / 2 ^ into * 2 ^ into * 2 ^ bit = ap (λ (y : ℕ). x / 2 ^ into * y) p ∙ a in
      omega arith

  stored_is : (l + x * 2 ^ bit) % 2 ^ 8 ≡ stored
  stored_is = ap (λ (y : ℕ). y % 2 ^ 8) in_two ∙ low (x / 2 ^ into) 8 stored_small

  over_is : (l + x * 2 ^ bit) / 2 ^ 8 ≡ x / 2 ^ into
  over_is = ap (λ (y : ℕ). y / 2 ^ 8) in_two ∙ high (x / 2 ^ into) 8 stored_small

  parts : cut (replicate k 1) x ≡ cut (replicate into 1) (x % 2 ^ into) ++ cut (replicate over 1) (x / 2 ^ into)
  unfolding into over
  parts =
      let whole : k ≡ into + over = omega arith in
      let bits : total (replicate into 1) ≡ into = total_replicate into 1 ∙ mul-one into in
      ap (λ (n : ℕ). cut (replicate n 1) x) whole
      ∙ ap (λ (ws : List ℕ). cut ws x) (sym (replicate-append-replicate into over 1))
      ∙ cut_append (replicate into 1) (replicate over 1) x
      ∙ ap (λ (n : ℕ). cut (replicate into 1) x ++ cut (replicate over 1) (x / 2 ^ n)) bits
      ∙ ap (λ (ws : List ℕ). ws ++ cut (replicate over 1) (x / 2 ^ into)) (sym (cut_low (replicate into 1) x 0)
      ∙ ap (λ (n : ℕ). cut (replicate into 1) (x % 2 ^ n)) (zero-add (total (replicate into 1)) ∙ bits))

  pub put_over : with_states (pending image index bit l) (index * 8 + bit) (cut (replicate k 1) x ++ rest)
      ≡ with_states (pending (set image index ((l + x * 2 ^ bit) % 2 ^ 8)) (index + 1) (bit + k - 8) ((l + x * 2 ^ bit) / 2 ^ 8))
      ((index + 1) * 8 + (bit + k - 8)) rest
  unfolding stored into over
  put_over =
      let image' = set image index stored in
      let second = cut (replicate over 1) (x / 2 ^ into) in
      let upto : bit + into ≤ 8 = omega arith in
      let space : index * 8 + bit + into ≤ length image * 8 = omega arith in
      let space' : (index + 1) * 8 + 0 + over ≤ length image' * 8 = rw (length-set image index stored) (omega arith) in
      let half : x / 2 ^ into < 2 ^ over = shr_lt over into (rw (← wide) small) in
      ap (λ (ss : List ℕ). with_states (pending image index bit l) (index * 8 + bit) (ss ++ rest)) parts
      ∙ ap (with_states (pending image index bit l) (index * 8 + bit)) (append_assoc (cut (replicate into 1) (x % 2 ^ into)) second rest)
      ∙ put_few into image index bit l (x % 2 ^ into) (second ++ rest) upto space under (mod-lt x (pow_pos into))
      ∙ ap₂ (λ (p : List ℕ) (n : ℕ). with_states p n (second ++ rest))
      (ap (λ (n : ℕ). pending image index n stored) in_byte ∙ put_stored image index stored octet ∙ sym (pending_none image' (index + 1)))
      next
      ∙ put_few over image' (index + 1) 0 0 (x / 2 ^ into) rest less space' (omega arith) half
      ∙ same_put image' (index + 1) (0 + over) (bit + k - 8) (0 + x / 2 ^ into * 2 ^ 0) ((l + x * 2 ^ bit) / 2 ^ 8)
      ((index + 1) * 8 + 0 + over) ((index + 1) * 8 + (bit + k - 8)) rest
      (zero-add over) (zero-add _ ∙ mul-one (x / 2 ^ into) ∙ sym over_is) (omega arith)
      ∙ ap (λ (b : ℕ). with_states (pending (set image index b) (index + 1) (bit + k - 8) ((l + x * 2 ^ bit) / 2 ^ 8))
      ((index + 1) * 8 + (bit + k - 8)) rest) (sym stored_is)
    where
      wide : k ≡ over + into
      wide = omega arith

      next : index * 8 + bit + into ≡ (index + 1) * 8 + 0
      next = omega arith

      less : 0 + over ≤ 8
      less = omega arith
