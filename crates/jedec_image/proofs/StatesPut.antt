-- States put into an image in a loop: what is stored, with the new low bits of one byte, and the states still to come.
-- Assumes nothing.
use mathlib.Core.Path.{◌≡◌, refl, sym, ◌∙◌, ap, subst}
use mathlib.Core.List.{List, [], ◌∷◌, ◌++◌}
use mathlib.Core.Option.Option.{none, some}
use Prim.Native.Nat.{ℕ, zero, suc, ◌+◌, ◌*◌, ◌-◌, ◌/◌, ◌%◌, ◌^◌, ◌≤◌, ◌<◌}
use native.Mathlib.Omega.{arith}
use native.Mathlib.Nat.{mod-lt, div-add-mod', mul-one}
use lib.ListN.{length, get_or, set, drop, replicate, length-set, length-append, length-replicate, drop_of_length-le}
use lib.Pow.{pow_pos, pow_mono, shl_exact, shr_lt}
use mir.Syntax.{w8}
use mir.Val.{Fits}
use Rattle.cells.specs.Cells.{cut, join}
use Rattle.cells.proofs.Laws.{cut_length, join_small, total_replicate}
use Rattle.jedec_runs.specs.Runs.{IsBlankAt, StatesAt}
use Rattle.jedec_runs.proofs.StatesTaken.{StatesTaken, taken_at}
use Rattle.jedec_runs.proofs.StatesWritten.{none_first}
use Rattle.jedec_runs.proofs.BitsJoined.{bits_under}
use Rattle.jedec_judge.specs.Judged.{states_of}
use Rattle.jedec_image.specs.States.{with_states}
use Rattle.jedec_image.proofs.WrittenStates.{WritesStates, rest_written, none_written}
use Rattle.jedec_image.proofs.Pending.{pending, pending_none, pending_own}
use Rattle.jedec_image.proofs.Pending.{last_exact, last_fits, put_few, put_over}

-- What is stored, with the new low bits of one byte, and the states still to come.
pub record Puts (bytes image₀ : List ℕ) (fuse : ℕ) (image : List ℕ) (index bit low i : ℕ) : Type 0 where
  pub upto : i ≤ length bytes
  pub small : bit < 8
  pub under : low < 2 ^ bit
  pub left : WritesStates (drop i bytes)
  pub fits : index * 8 + bit + length (states_of (drop i bytes)) ≤ length image * 8
  pub same : length image ≡ length image₀
  pub octets : (k : ℕ) → Fits w8 (get_or image k 0)
  pub so_far : with_states (pending image index bit low) (index * 8 + bit) (states_of (drop i bytes))
      ≡ with_states image₀ fuse (states_of bytes)

pub starts : (bytes image : List ℕ) (fuse low : ℕ) → WritesStates bytes → fuse + length (states_of bytes) ≤ length image * 8
    → low ≡ get_or image (fuse / 8) 0 % 2 ^ (fuse % 8)
    → ((k : ℕ) → Fits w8 (get_or image k 0)) → Puts bytes image fuse image (fuse / 8) (fuse % 8) low 0
starts bytes image fuse low w l e o =
    let whole : fuse / 8 * 8 + fuse % 8 ≡ fuse = div-add-mod' fuse 8 in
    record {
      upto = omega arith;
      small = omega arith;
      under = rw e (mod-lt (get_or image (fuse / 8) 0) (pow_pos (fuse % 8)));
      left = w;
      fits = omega arith;
      same = refl;
      octets = o;
      so_far = rw (e, pending_own image (fuse / 8) (fuse % 8), whole);
    }

pub byte_wide : (image : List ℕ) (k : ℕ) → ((j : ℕ) → Fits w8 (get_or image j 0)) → get_or image k 0 < 2 ^ 64
byte_wide image k o = omega (arith, (o k).fits)

pub set_octets : (image : List ℕ) (index x : ℕ) → ((k : ℕ) → Fits w8 (get_or image k 0)) → x < 2 ^ 8 → (k : ℕ)
    → Fits w8 (get_or (set image index x) k 0)
set_octets [] index x o h k = o k
set_octets (a ∷ image) zero x o h zero = record { fits = h }
set_octets (a ∷ image) zero x o h (suc k) = o (suc k)
set_octets (a ∷ image) (suc index) x o h zero = o 0
set_octets (a ∷ image) (suc index) x o h (suc k) = set_octets image index x (λ j. o (suc j)) h k

module _ (bytes image₀ : List ℕ) (fuse : ℕ) (image : List ℕ) (index bit low i : ℕ) (r : Puts bytes image₀ fuse image index bit low i) where
  pub kept : length image ≡ length image₀
  kept = r.same

  pub kept_set : (x : ℕ) → length (set image index x) ≡ length image₀
  kept_set x = length-set image index x ∙ r.same

  pub octet_wide : get_or image index 0 < 2 ^ 64
  octet_wide = byte_wide image index r.octets

  module _ (count : ℕ) (there : StatesAt bytes i count) (bits : ℕ) (e : bits ≡ join (replicate count 1) (drop i bytes)) where
    bits_small : bits < 2 ^ count
    bits_small =
        rw e (subst (λ (n : ℕ). join (replicate count 1) (drop i bytes) < 2 ^ n) (total_replicate count 1 ∙ mul-one count)
        (join_small (replicate count 1) (drop i bytes)))

    exact : bits * 2 ^ bit % 2 ^ 64 ≡ bits * 2 ^ bit
    exact = shl_exact count bit 64 bits_small (omega (arith, r.small, there.few))

    next_under : low + bits * 2 ^ bit % 2 ^ 64 < 2 ^ (bit + count)
    next_under = rw exact (bits_under bit count low bits r.under bits_small)

    pub no_overflow : low + bits * 2 ^ bit % 2 ^ 64 < 2 ^ 64
    no_overflow = let m : bit + count ≤ 64 = omega (arith, r.small, there.few) in omega (arith, next_under, pow_mono m)

    module _ (z : ℕ) (l : i < length bytes) (o : (k : ℕ) → Fits w8 (get_or bytes k 0)) (blank : IsBlankAt bytes (i + count) z) where
      s : StatesTaken bytes i count (count + z)
      s = taken_at bytes i count z l o there blank

      pub inside : i + (count + z) ≤ length bytes
      inside = s.inside

      rest : (states_of (drop i bytes) ≡ cut (replicate count 1) bits ++ states_of (drop (i + (count + z)) bytes))
          × WritesStates (drop (i + (count + z)) bytes)
      rest = rest_written bytes i (count + z) (cut (replicate count 1) bits) r.left (s.writes ∙ rw e)

      -- A byte is taken, since every byte left is a state or a blank.
      pub falls : length bytes - (i + (count + z)) < length bytes - i
      falls = go (count + z) refl
        where
          go : (k : ℕ) → count + z ≡ k → length bytes - (i + k) < length bytes - i
          go zero f =
              let no : none ≡ some (states_of (drop i bytes)) = sym (none_first 1 (drop i bytes) (s.stops f)) ∙ r.left in
              let y : ◌≡◌ {A = ℕ} 0 1 = cc in
              absurd (omega arith)
          go (suc k) f = omega arith

      many : length (states_of (drop i bytes)) ≡ count + length (states_of (drop (i + (count + z)) bytes))
      many =
          ap length rest.0 ∙ length-append (cut (replicate count 1) bits) (states_of (drop (i + (count + z)) bytes))
          ∙ rw (cut_length (replicate count 1) bits, length-replicate {A = ℕ} count 1)

      so_far_next : with_states (pending image index bit low) (index * 8 + bit)
          (cut (replicate count 1) bits ++ states_of (drop (i + (count + z)) bytes)) ≡ with_states image₀ fuse (states_of bytes)
      so_far_next = rw rest.0 at r.so_far

      fits_next : index * 8 + bit + count + length (states_of (drop (i + (count + z)) bytes)) ≤ length image * 8
      fits_next = omega (arith, many, r.fits)

      pub bits_added : bit + count < 8 → Puts bytes image₀ fuse image index (bit + count) (low + bits * 2 ^ bit % 2 ^ 64) (i + (count + z))
      bits_added m =
          let place : index * 8 + (bit + count) ≡ index * 8 + bit + count = omega arith in
          record {
            upto = inside;
            small = m;
            under = next_under;
            left = rest.1;
            fits = omega (arith, fits_next);
            same = r.same;
            octets = r.octets;
            so_far =
                rw (exact, place) (sym (put_few count image index bit low bits (states_of (drop (i + (count + z)) bytes)) (omega arith)
                (omega (arith, fits_next)) r.under bits_small) ∙ so_far_next);
          }

      module _ (m : 8 ≤ bit + count) where
        pub index_there : index < length image
        index_there = omega (arith, fits_next)

        pub byte_stored : (octet : ℕ) → octet ≡ (low + bits * 2 ^ bit % 2 ^ 64) % 2 ^ 8
            → Puts bytes image₀ fuse (set image index octet) (index + 1) (bit + count - 8)
            ((low + bits * 2 ^ bit % 2 ^ 64) / 2 ^ 8) (i + (count + z))
        byte_stored octet f =
            let size : length (set image index octet) ≡ length image = length-set image index octet in
            let wide : bit + count - 8 + 8 ≡ bit + count = omega arith in
            record {
              upto = inside;
              small = omega (arith, r.small, there.few);
              under = shr_lt (bit + count - 8) 8 (rw wide next_under);
              left = rest.1;
              fits = omega (arith, fits_next);
              same = size ∙ r.same;
              octets = set_octets image index octet r.octets (rw f (mod-lt _ (pow_pos 8)));
              so_far =
                  rw (f, exact)
                  (sym (put_over image index bit low bits count (states_of (drop (i + (count + z)) bytes)) r.small there.few m
                  (omega (arith, fits_next)) r.under bits_small (r.octets index).fits) ∙ so_far_next);
            }

  module _ (l : length bytes ≤ i) where
    done : pending image index bit low ≡ with_states image₀ fuse (states_of bytes)
    unfolding with_states
    done = rw (drop_of_length-le bytes l, none_written) at r.so_far

    pub there_yet : 0 < bit → index < length image
    there_yet m = omega (arith, r.fits)

    pub last_byte : get_or image index 0 / 2 ^ bit * 2 ^ bit % 2 ^ 64 + low < 2 ^ 8
    last_byte = last_fits (get_or image index 0) bit low r.small r.under (r.octets index).fits

    pub last_space : get_or image index 0 / 2 ^ bit * 2 ^ bit % 2 ^ 64 + low < 2 ^ 64
    last_space = omega (arith, last_byte)

    pub last_stored : set image index (get_or image index 0 / 2 ^ bit * 2 ^ bit % 2 ^ 64 + low) ≡ with_states image₀ fuse (states_of bytes)
    unfolding pending
    last_stored = rw (last_exact (get_or image index 0) bit low r.small r.under (r.octets index).fits) done

    pub all_stored : bit ≤ 0 → image ≡ with_states image₀ fuse (states_of bytes)
    all_stored m =
        let z : bit ≡ 0 = omega arith in
        let none-low : low < 2 ^ 0 = rw z at r.under in
        let y : low ≡ 0 = omega arith in
        sym (pending_none image index) ∙ (rw (z, y) at done)
