-- A few states, told as bits, put into an image byte by byte: the bits still to come, from the first bit of a byte on.
-- Assumes nothing.
use mathlib.Core.Path.{◌≡◌, refl, sym, ◌∙◌, ap, ap₂}
use mathlib.Core.List.{List, [], ◌++◌, append-nil}
use Prim.Native.Nat.{ℕ, ◌+◌, ◌*◌, ◌-◌, ◌/◌, ◌%◌, ◌^◌, ◌≤◌, ◌<◌}
use native.Mathlib.Omega.{arith}
use native.Mathlib.Nat.{mod-lt, div-add-mod', mul-one, zero-add, add_comm}
use lib.ListN.{length, get_or, set, replicate, length-set}
use lib.Pow.{pow_pos, pow_mono, split, shl_exact, shr_lt}
use mir.Syntax.{w8}
use mir.Val.{Fits}
use Rattle.cells.specs.Cells.{cut}
use Rattle.jedec_runs.proofs.BitsJoined.{bits_under, bits_joined}
use Rattle.jedec_judge.specs.Judged.{states_in_word}
use Rattle.jedec_image.specs.States.{with_states}
use Rattle.jedec_image.proofs.Pending.{pending, pending_none, pending_own, last_exact, last_fits, put_few, put_stored}
use Rattle.jedec_image.proofs.StatesPut.{set_octets}

-- Bits from the first bit of a byte on are its new low bits.
bits_low : (k : ℕ) (image : List ℕ) (index x : ℕ) (rest : List ℕ) → k ≤ 8 → index * 8 + k ≤ length image * 8 → x < 2 ^ k
    → with_states image (index * 8) (cut (replicate k 1) x ++ rest) ≡ with_states (pending image index k x) (index * 8 + k) rest
bits_low k image index x rest few fits small =
    let at : index * 8 + 0 ≡ index * 8 = omega arith in
    let here : 0 + x * 2 ^ 0 ≡ x = zero-add (x * 2 ^ 0) ∙ mul-one x in
    let more : with_states (pending image index 0 0) (index * 8 + 0) (cut (replicate k 1) x ++ rest)
    ≡ with_states (pending image index (0 + k) (0 + x * 2 ^ 0)) (index * 8 + 0 + k) rest =
    put_few k image index 0 0 x rest (omega arith) (omega arith) (omega arith) small in
    rw (pending_none image index, at, here, zero-add k) at more

-- What is stored, and the bits still to come.
pub record PutsBits (image₀ : List ℕ) (fuse : ℕ) (bits count : ℕ) (image : List ℕ) (index rest : ℕ) : Type 0 where
  pub left : ℕ
  pub ends : index * 8 + left ≡ fuse + count
  pub under : rest < 2 ^ left
  pub fits : index * 8 + left ≤ length image * 8
  pub same : length image ≡ length image₀
  pub octets : (k : ℕ) → Fits w8 (get_or image k 0)
  pub so_far : with_states image (index * 8) (cut (replicate left 1) rest) ≡ with_states image₀ fuse (cut (replicate count 1) bits)

module _ (image : List ℕ) (fuse bits count : ℕ) (few : count ≤ states_in_word) (small : bits < 2 ^ count)
    (fits : fuse + count ≤ length image * 8) where
  exact : bits * 2 ^ (fuse % 8) % 2 ^ 64 ≡ bits * 2 ^ (fuse % 8)
  exact = shl_exact count (fuse % 8) 64 small (omega arith)

  module _ (own : ℕ) (e : own ≡ get_or image (fuse / 8) 0 % 2 ^ (fuse % 8)) where
    own_small : own < 2 ^ (fuse % 8)
    own_small = rw e (mod-lt (get_or image (fuse / 8) 0) (pow_pos (fuse % 8)))

    all_under : own + bits * 2 ^ (fuse % 8) % 2 ^ 64 < 2 ^ (fuse % 8 + count)
    all_under = rw exact (bits_under (fuse % 8) count own bits own_small small)

    pub all_fit : own + bits * 2 ^ (fuse % 8) % 2 ^ 64 < 2 ^ 64
    all_fit = let m : fuse % 8 + count ≤ 64 = omega arith in omega (arith, all_under, pow_mono m)

    pub bits_start : ((k : ℕ) → Fits w8 (get_or image k 0))
        → PutsBits image fuse bits count image (fuse / 8) (own + bits * 2 ^ (fuse % 8) % 2 ^ 64)
    bits_start o =
        let whole : fuse / 8 * 8 + fuse % 8 ≡ fuse = div-add-mod' fuse 8 in
        record {
          left = fuse % 8 + count;
          ends = omega arith;
          under = all_under;
          fits = omega arith;
          same = refl;
          octets = o;
          so_far =
              rw exact (ap (with_states image (fuse / 8 * 8)) (sym (bits_joined (fuse % 8) count own bits own_small))
              ∙ bits_low (fuse % 8) image (fuse / 8) own (cut (replicate count 1) bits) (omega arith) (omega arith) own_small
              ∙ ap₂ (λ (p : List ℕ) (n : ℕ). with_states p n (cut (replicate count 1) bits))
              (ap (pending image (fuse / 8) (fuse % 8)) e ∙ pending_own image (fuse / 8) (fuse % 8)) whole);
        }

module _ (image₀ : List ℕ) (fuse bits count : ℕ) (image : List ℕ) (index rest : ℕ)
    (r : PutsBits image₀ fuse bits count image index rest) where
  abbrev left : ℕ
  left = r.left

  module _ (m : index < fuse / 8 + (fuse % 8 + count) / 8) where
    whole_left : 8 ≤ left
    whole_left = omega (arith, r.ends)

    pub bits_there_whole : index < length image
    bits_there_whole = omega (arith, r.fits, whole_left)

    pub bits_stored : (octet : ℕ) → octet ≡ rest % 2 ^ 8
        → PutsBits image₀ fuse bits count (set image index octet) (index + 1) (rest / 2 ^ 8)
    bits_stored octet f =
        let size : length (set image index octet) ≡ length image = length-set image index octet in
        let wide : left - 8 + 8 ≡ left = omega (arith, whole_left) in
        let wide' : 8 + (left - 8) ≡ left = omega (arith, whole_left) in
        let low_small : rest % 2 ^ 8 < 2 ^ 8 = mod-lt rest (pow_pos 8) in
        let whole : rest % 2 ^ 8 + rest / 2 ^ 8 * 2 ^ 8 ≡ rest = add_comm (rest % 2 ^ 8) (rest / 2 ^ 8 * 2 ^ 8) ∙ split rest 8 in
        let next : index * 8 + 8 ≡ (index + 1) * 8 = omega arith in
        let parts : cut (replicate 8 1) (rest % 2 ^ 8) ++ cut (replicate (left - 8) 1) (rest / 2 ^ 8) ≡ cut (replicate left 1) rest =
        bits_joined 8 (left - 8) (rest % 2 ^ 8) (rest / 2 ^ 8) low_small
        ∙ ap₂ (λ (n x : ℕ). cut (replicate n 1) x) wide' whole in
        record {
          left = left - 8;
          ends = omega (arith, r.ends, whole_left);
          under = shr_lt (left - 8) 8 (rw wide r.under);
          fits = omega (arith, r.fits, whole_left);
          same = size ∙ r.same;
          octets = set_octets image index octet r.octets (rw f low_small);
          so_far =
              rw f (sym (ap (with_states image (index * 8)) (sym parts)
              ∙ bits_low 8 image index (rest % 2 ^ 8) (cut (replicate (left - 8) 1) (rest / 2 ^ 8)) (omega arith)
              (omega (arith, r.fits, whole_left)) low_small
              ∙ ap₂ (λ (p : List ℕ) (n : ℕ). with_states p n (cut (replicate (left - 8) 1) (rest / 2 ^ 8)))
              (put_stored image index (rest % 2 ^ 8) (r.octets index).fits) next) ∙ r.so_far);
        }

  -- Behind the last whole byte.
  module _ (last : ℕ) (e : last ≡ fuse / 8 + (fuse % 8 + count) / 8) (from : last ≤ index) (upto : index ≤ last) (over : ℕ)
      (f : over ≡ (fuse % 8 + count) % 8) where
    here : index ≡ last
    here = omega arith

    few : left ≡ over
    few = omega (arith, r.ends)

    small : over < 8
    small = omega arith

    under_last : rest < 2 ^ over
    under_last = rw few at r.under

    pub bits_last_byte : get_or image last 0 / 2 ^ over * 2 ^ over % 2 ^ 64 + rest < 2 ^ 8
    bits_last_byte = last_fits (get_or image last 0) over rest small under_last (r.octets last).fits

    pub bits_last_space : get_or image last 0 / 2 ^ over * 2 ^ over % 2 ^ 64 + rest < 2 ^ 64
    bits_last_space = omega (arith, bits_last_byte)

    pub bits_there : 0 < over → last < length image
    bits_there m = omega (arith, r.fits, few)

    all_bits : pending image last over rest ≡ with_states image₀ fuse (cut (replicate count 1) bits)
    unfolding with_states
    all_bits =
        rw (← here, ← few) (sym (bits_low left image index rest [] (omega (arith, few)) r.fits r.under)
        ∙ ap (with_states image (index * 8)) (append-nil (cut (replicate left 1) rest)) ∙ r.so_far)

    pub bits_last : set image last (get_or image last 0 / 2 ^ over * 2 ^ over % 2 ^ 64 + rest)
        ≡ with_states image₀ fuse (cut (replicate count 1) bits)
    unfolding pending
    bits_last = rw (last_exact (get_or image last 0) over rest small under_last (r.octets last).fits) all_bits

    pub bits_done : over ≤ 0 → image ≡ with_states image₀ fuse (cut (replicate count 1) bits)
    bits_done m =
        let z : over ≡ 0 = omega arith in
        let none-low : rest < 2 ^ 0 = rw z at under_last in
        let y : rest ≡ 0 = omega arith in
        sym (pending_none image last) ∙ (rw (z, y) at all_bits)
