-- Setting a pattern in an image or a readout: it reads back, every other fuse and bit stands, and the two ways agree.
-- Stated once for images and readouts where both have it.
use mathlib.Core.Path.{◌≡◌, refl, sym, ◌∙◌, ap, ap₂}
use mathlib.Core.Logic.{◌≢◌}
use mathlib.Core.Bool.{true}
use mathlib.Core.List.{List}
use Prim.Native.Nat.{ℕ, zero, suc, ◌^◌, ◌<◌, ◌≤◌}
use native.Mathlib.Omega.{arith}
use native.Mathlib.Decide.{ℕ_discrete}
use lib.Dec.{ltb}
use lib.ListN.{length, get_or, set}
use lib.Seq.{get_or-set_same, get_or-set_other}
use borrow.Author.Tests.{lt-ltb, lt-leb}
use Rattle.part.specs.Device.{known, fuse_count, image_bytes, readout_bytes}
use Rattle.part.specs.declared.Device.{Device}
use Rattle.part.proofs.Facts.{and_iff}
use Rattle.part.proofs.Devices.{image_whole}
use Rattle.image.specs.Bits.{bit_of, bit_at, put_bit, with_bit}
use Rattle.image.specs.Image.{state}
use Rattle.image.proofs.Bits.{put_small, gathered_same}
use Rattle.image.proofs.Counts.{state_bit}
use Rattle.readout.specs.Readout.{width_at, fuse_at, readout_of, state_in, above_at}
use Rattle.readout.proofs.Laws.{lying, readout_state, change_agrees}
use Rattle.settings.specs.Settings.{has_setting}
use Rattle.settings.specs.declared.Setting.{Setting}
use Rattle.setting_places.specs.Places.{bits_of, fuse_of, lists}
use Rattle.fuse_settings.proofs.Laws as places
use Rattle.values.specs.Values.{bits_in}
use Rattle.values.specs.declared.Kind.{Kind}
use Rattle.values.specs.declared.Kind.TheVariants as kind
use Rattle.setting_values.specs.Kinds.{kind_of}
use Rattle.setting_values.proofs.Widths.{kind_bits}
use Rattle.setting_bits.specs.declared.Layout.{Layout}
use Rattle.setting_bits.specs.declared.Layout.TheVariants.{Image, Readout}
use Rattle.setting_bits.specs.SettingBits.{bytes_of, byte_of, bit_in, state_of, with_state, pattern_at, with_bits, with_pattern, above_among}
use Rattle.setting_bits.proofs.Locations.{a_bit, put, put_length, put_other, put_same, put_read}

-- Where a fuse stands: inside the bytes, and no other fuse stands there.
pub inside : (d : Device) (layout : Layout) (f : ℕ) → known d ≡ true → f < fuse_count d → byte_of d layout f < bytes_of d layout
inside d Image f k h = omega (arith, image_whole d k)
inside d Readout f k h = (lying d f h).index_below

pub one_fuse : (d : Device) (layout : Layout) (f g : ℕ) → f < fuse_count d → g < fuse_count d → byte_of d layout f ≡ byte_of d layout g
    → bit_in d layout f ≡ bit_in d layout g → f ≡ g
one_fuse d Image f g hf hg e b = omega arith
one_fuse d Readout f g hf hg e b = sym (lying d f hf).same_fuse ∙ ap₂ (fuse_at d) e b ∙ (lying d g hg).same_fuse

-- A bit of a setting is one of its fuses, and lies below the count.
listed : (d : Device) (t : Setting) → has_setting d t ≡ true → (b : ℕ) → b < bits_of t → lists d t b ≡ true
listed d t h b l = (and_iff (has_setting d t) (ltb b (bits_of t))).1 (h, lt-ltb b (bits_of t) l)

pub fuse_below : (d : Device) → known d ≡ true → (t : Setting) → has_setting d t ≡ true → (b : ℕ) → b < bits_of t
    → fuse_of d t b < fuse_count d
fuse_below d k t h b l = (places.left_inverse d k).below t b (listed d t h b l)

-- And each setting has one at least.
some_bit : (k : Kind) → 0 < bits_in k
some_bit kind.Flag = omega arith
some_bit kind.TermAlloc = omega arith
some_bit kind.ImportAlloc = omega arith
some_bit kind.ExportDir = omega arith
some_bit kind.IobOeMux = omega arith
some_bit kind.OutMux = omega arith
some_bit kind.OeMux = omega arith
some_bit kind.ClkMux = omega arith
some_bit kind.RegMode = omega arith
some_bit kind.RstSetMux = omega arith
some_bit kind.UimOeMux = omega arith
some_bit kind.IobSlew = omega arith
some_bit (kind.FclkMux c) = omega arith
some_bit (kind.FoeMux e large) = omega arith
some_bit kind.Usercode = omega arith

pub some_fuse : (d : Device) (t : Setting) → has_setting d t ≡ true → 0 < bits_of t
some_fuse d t h = rw (← kind_bits d t h) (some_bit (kind_of d t))

-- Bits put one after the other, as the definition has it.
as_put : (d : Device) (layout : Layout) (bytes : List ℕ) (s : Setting) (pattern w : ℕ)
    → with_bits d layout bytes s pattern w
    ≡ put (λ b. byte_of d layout (fuse_of d s b)) (λ b. bit_in d layout (fuse_of d s b)) pattern bytes w
unfolding with_bits put
as_put d layout bytes s pattern zero = refl
as_put d layout bytes s pattern (suc w) = rw (as_put d layout bytes s pattern w)

module _ (d : Device) (k : known d ≡ true) (layout : Layout) (bytes : List ℕ) (e : length bytes ≡ bytes_of d layout)
    (s : Setting) (h : has_setting d s ≡ true) (pattern : ℕ) where
  at : ℕ → ℕ
  at b = byte_of d layout (fuse_of d s b)

  its : ℕ → ℕ
  its b = bit_in d layout (fuse_of d s b)

  there : (b : ℕ) → b < bits_of s → at b < length bytes
  unfolding at
  there b l = rw e (inside d layout (fuse_of d s b) k (fuse_below d k s h b l))

  differ : (b c : ℕ) → b < bits_of s → c < bits_of s → at b ≡ at c → its b ≡ its c → b ≡ c
  unfolding at its
  differ b c lb lc x y =
      (places.apart d k s s b c (listed d s h b lb) (listed d s h c lc)
      (one_fuse d layout (fuse_of d s b) (fuse_of d s c) (fuse_below d k s h b lb) (fuse_below d k s h c lc) x y)).1

  changed : List ℕ
  changed = with_pattern d layout bytes s pattern

  is_put : changed ≡ put at its pattern bytes (bits_of s)
  unfolding changed with_pattern at its
  is_put = as_put d layout bytes s pattern (bits_of s)

  pub set_length : length (with_pattern d layout bytes s pattern) ≡ length bytes
  unfolding changed
  set_length = rw is_put (put_length at its pattern bytes (bits_of s) there)

  -- Every bit of every byte that is none of the setting's stands as before.
  pub set_others : (i j : ℕ)
      → ((b : ℕ) → b < bits_of s → (i ≡ byte_of d layout (fuse_of d s b)) × (j ≡ bit_in d layout (fuse_of d s b)) → ⊥)
      → bit_at (with_pattern d layout bytes s pattern) i j ≡ bit_at bytes i j
  unfolding changed at its
  set_others i j apart = rw is_put (put_other at its pattern bytes (bits_of s) there (bits_of s) (omega arith) i j apart)

  -- Each fuse of the setting has the state that the pattern needs.
  pub set_fuses : (b : ℕ) → b < bits_of s → state_of d layout (with_pattern d layout bytes s pattern) (fuse_of d s b) ≡ bit_of pattern b
  unfolding changed at its
  set_fuses b l = rw is_put (put_same at its pattern bytes (bits_of s) there differ (bits_of s) (omega arith) b l)

  -- Every other fuse stands as before.
  pub set_other_fuses : (f : ℕ) → f < fuse_count d → ((b : ℕ) → b < bits_of s → fuse_of d s b ≢ f)
      → state_of d layout (with_pattern d layout bytes s pattern) f ≡ state_of d layout bytes f
  set_other_fuses f hf apart =
      set_others (byte_of d layout f) (bit_in d layout f)
      (λ b l x. apart b l (sym (one_fuse d layout f (fuse_of d s b) hf (fuse_below d k s h b l) x.0 x.1)))

  -- The setting reads as set, every other setting as before.
  pub set_reads : pattern < 2 ^ bits_of s → pattern_at d layout (with_pattern d layout bytes s pattern) s ≡ pattern
  unfolding pattern_at changed at its
  set_reads fits = rw is_put (put_read at its pattern bytes (bits_of s) there differ fits)

  pub set_others_read : (t : Setting) → has_setting d t ≡ true → t ≢ s
      → pattern_at d layout (with_pattern d layout bytes s pattern) t ≡ pattern_at d layout bytes t
  unfolding pattern_at
  set_others_read t ht ne =
      gathered_same (λ b. state_of d layout (with_pattern d layout bytes s pattern) (fuse_of d t b))
      (λ b. state_of d layout bytes (fuse_of d t b)) (bits_of t)
      (λ b l.
      set_other_fuses (fuse_of d t b) (fuse_below d k t ht b l)
      (λ c m x. ne (places.apart d k t s b c (listed d t ht b l) (listed d s h c m) (sym x)).0))

-- So many of the bits put: the length stays.
bits_length : (d : Device) → known d ≡ true → (layout : Layout) (bytes : List ℕ) → length bytes ≡ bytes_of d layout
    → (s : Setting) → has_setting d s ≡ true
    → (pattern w : ℕ) → w ≤ bits_of s → length (with_bits d layout bytes s pattern w) ≡ bytes_of d layout
bits_length d k layout bytes e s h pattern w l =
    rw (as_put d layout bytes s pattern w)
    (put_length (λ b. byte_of d layout (fuse_of d s b)) (λ b. bit_in d layout (fuse_of d s b)) pattern bytes w
    (λ b m. rw e (inside d layout (fuse_of d s b) k (fuse_below d k s h b (omega arith))))
    ∙ e)

-- The two ways agree, bit after bit: the readout of the changed image is the changed readout.
module _ (d : Device) (k : known d ≡ true) (image : List ℕ) (e : length image ≡ image_bytes d)
    (s : Setting) (h : has_setting d s ≡ true) (pattern : ℕ) where
  bits_agree : (w : ℕ) → w ≤ bits_of s
      → readout_of d (with_bits d Image image s pattern w) ≡ with_bits d Readout (readout_of d image) s pattern w
  unfolding with_bits
  bits_agree zero l = refl
  bits_agree (suc w) l =
      change_agrees d (with_bits d Image image s pattern w) (fuse_of d s w) (bit_of pattern w) k
      (bits_length d k Image image e s h pattern w (omega arith))
      (fuse_below d k s h w l) (a_bit pattern w)
      ∙ ap (λ (r : List ℕ). with_state d Readout r (fuse_of d s w) (bit_of pattern w)) (bits_agree w (omega arith))

  pub agrees : readout_of d (with_pattern d Image image s pattern) ≡ with_pattern d Readout (readout_of d image) s pattern
  unfolding with_pattern
  agrees = bits_agree (bits_of s) (omega arith)

-- In the readout of an image each fuse stands as in the image, and so each setting.
module _ (d : Device) (image : List ℕ) where
  pub same_state : (f : ℕ) → f < fuse_count d → state_of d Readout (readout_of d image) f ≡ state_of d Image image f
  unfolding readout_of state_in state
  same_state f h = readout_state d (state image) (state_bit image) f h

  pub same_pattern : known d ≡ true → (t : Setting) → has_setting d t ≡ true
      → pattern_at d Readout (readout_of d image) t ≡ pattern_at d Image image t
  unfolding pattern_at
  same_pattern k t h =
      gathered_same (λ b. state_of d Readout (readout_of d image) (fuse_of d t b)) (λ b. state_of d Image image (fuse_of d t b)) (bits_of t)
      (λ b l. same_state (fuse_of d t b) (fuse_below d k t h b l))

-- A byte keeps its bound where a bit within the bound is put.
pub with_kept : (bytes : List ℕ) (index b st : ℕ) (bound : ℕ → ℕ) → index < length bytes → st < 2 → b < bound index
    → (i : ℕ) → get_or bytes i 0 < 2 ^ bound i → get_or (with_bit bytes index b st) i 0 < 2 ^ bound i
unfolding with_bit
with_kept bytes index b st bound there bit within i own = at_or (ℕ_discrete i index)
  where
    at_or : Dec (i ≡ index) → get_or (set bytes index (put_bit (get_or bytes index 0) b st)) i 0 < 2 ^ bound i
    at_or (yes e) =
        rw (e, get_or-set_same bytes index (put_bit (get_or bytes index 0) b st) 0 there)
        (put_small (get_or bytes index 0) b st bit (bound index) (rw e at own) within)
    at_or (no ne) = rw (get_or-set_other bytes index i (put_bit (get_or bytes index 0) b st) 0 ne) own

module _ (d : Device) (k : known d ≡ true) (layout : Layout) (bytes : List ℕ) (e : length bytes ≡ bytes_of d layout)
    (s : Setting) (h : has_setting d s ≡ true) (pattern : ℕ) (bound : ℕ → ℕ)
    (within : (b : ℕ) → b < bits_of s → bit_in d layout (fuse_of d s b) < bound (byte_of d layout (fuse_of d s b))) where
  bits_kept : (w : ℕ) → w ≤ bits_of s → (i : ℕ) → get_or bytes i 0 < 2 ^ bound i
      → get_or (with_bits d layout bytes s pattern w) i 0 < 2 ^ bound i
  unfolding with_bits
  bits_kept zero l i own = own
  bits_kept (suc w) l i own =
      with_kept (with_bits d layout bytes s pattern w) (byte_of d layout (fuse_of d s w))
      (bit_in d layout (fuse_of d s w)) (bit_of pattern w) bound
      (rw (bits_length d k layout bytes e s h pattern w (omega arith)) (inside d layout (fuse_of d s w) k (fuse_below d k s h w l)))
      (a_bit pattern w) (within w l)
      i (bits_kept w (omega arith) i own)

  set_kept : (i : ℕ) → get_or bytes i 0 < 2 ^ bound i → get_or (with_pattern d layout bytes s pattern) i 0 < 2 ^ bound i
  unfolding with_pattern
  set_kept = bits_kept (bits_of s) (omega arith)

-- So a byte of an image stays a byte.
pub set_small : (d : Device) → known d ≡ true → (image : List ℕ) → length image ≡ image_bytes d → (s : Setting) → has_setting d s ≡ true
    → (pattern i : ℕ) → get_or image i 0 < 2 ^ 8 → get_or (with_pattern d Image image s pattern) i 0 < 2 ^ 8
set_small d k image e s h pattern = set_kept d k Image image e s h pattern (λ i. 8) (λ b l. omega arith)

-- A readout byte without a bit above its width stays one.
pub set_clean : (d : Device) → known d ≡ true → (readout : List ℕ) → length readout ≡ readout_bytes d → (s : Setting)
    → has_setting d s ≡ true
    → (pattern i : ℕ) → get_or readout i 0 < 2 ^ width_at d i → get_or (with_pattern d Readout readout s pattern) i 0 < 2 ^ width_at d i
set_clean d k readout e s h pattern =
    set_kept d k Readout readout e s h pattern (width_at d) (λ b l. (lying d (fuse_of d s b) (fuse_below d k s h b l)).bit_below)

-- No byte that holds the setting has a bit above its width exactly if the scan goes through.
pub clean_through : (d : Device) (readout : List ℕ) (s : Setting) (w : ℕ)
    → ((b : ℕ) → b < w → get_or readout (byte_of d Readout (fuse_of d s b)) 0 < 2 ^ width_at d (byte_of d Readout (fuse_of d s b)))
    → above_among d readout s w ≡ readout_bytes d
unfolding above_among above_at
clean_through d readout s zero clean = refl
clean_through d readout s (suc w) clean =
    rw (lt-leb (2 ^ width_at d (byte_of d Readout (fuse_of d s w))) (get_or readout (byte_of d Readout (fuse_of d s w)) 0)
    (clean w (omega arith)))
    (clean_through d readout s w (λ b l. clean b (omega arith)))
