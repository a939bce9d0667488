-- What `differences` answers and leaves in the buffer: refusals 1, 2 and 12, and the text put at the start.
-- Assumes nothing.
use mathlib.Core.Path.{◌≡◌, refl, sym, ◌∙◌, ap, ap₂}
use mathlib.Core.Bool.{true, false}
use mathlib.Core.List.{List, ◌++◌}
use Prim.Native.Nat.{ℕ, ◌+◌, ◌≤◌, ◌<◌}
use native.Mathlib.Omega.{arith}
use lib.ListN.{length, drop, length-append, take-append-drop}
use borrow.Author.Tests.{lt-ltb, le-ltb}
use Rattle.part.specs.Outcome.{Outcome, Written}
use Rattle.part.specs.Outcome.Outcome.{accepted, refused}
use Rattle.part.specs.Device.{known, image_bytes}
use Rattle.part.specs.Sizes.{bytes_put}
use Rattle.part.specs.declared.Device.{Device}
use Rattle.part.proofs.Targets.{unknown, wrong_first, wrong_second, right}
use Rattle.differences.specs.Differences.{differing_fuses, lines_of, first_line, text_of, to_differences, with_differences}
use Rattle.differences.specs.Scan.{lines_bytes, Laid}
use Rattle.differences.proofs.LineTexts.{lines_count}
use Rattle.differences.proofs.LaidText.{then}

module _ (d : Device) (old new buffer : List ℕ) where
  abbrev At : Outcome ℕ → List ℕ → Type 0
  At answer after = Written (to_differences d old new buffer) answer (with_differences d old new buffer) buffer after

  pub no_device : known d ≡ false → At (refused 1 0) buffer
  unfolding to_differences
  no_device h = unknown d (length old) (image_bytes d) (length new) (image_bytes d) (bytes_put (text_of d old new) buffer)
      (with_differences d old new buffer) buffer h

  module _ (k : known d ≡ true) (bytes : ℕ) (e : bytes ≡ image_bytes d) where
    pub old_wrong : (length old ≡ bytes → ⊥) → At (refused 2 0) buffer
    unfolding to_differences
    old_wrong h = wrong_first d (length old) (image_bytes d) (length new) (image_bytes d) (bytes_put (text_of d old new) buffer)
        (with_differences d old new buffer) buffer k bytes e h

    module _ (lo : length old ≡ bytes) where
      pub new_wrong : (length new ≡ bytes → ⊥) → At (refused 2 0) buffer
      unfolding to_differences
      new_wrong h = wrong_second d (length old) (image_bytes d) (length new) (image_bytes d) (bytes_put (text_of d old new) buffer)
          (with_differences d old new buffer) buffer k bytes e lo bytes e h

      module _ (ln : length new ≡ bytes) (fuses first lines : ℕ) (ef : fuses ≡ length (differing_fuses d old new))
          (es : first ≡ length (first_line fuses)) (el : lines ≡ lines_bytes d (differing_fuses d old new)) where
        whole : first + lines ≡ length (text_of d old new)
        unfolding text_of
        whole =
            sym (length-append (first_line (length (differing_fuses d old new))) (lines_of d old new (differing_fuses d old new))
            ∙ ap₂ ◌+◌ (ap (λ (n : ℕ). length (first_line n)) (sym ef) ∙ sym es)
            (lines_count d old new (differing_fuses d old new) ∙ sym el))

        pub too_short : length buffer < first + lines → At (refused 12 (first + lines)) buffer
        unfolding to_differences
        too_short h =
            right d (length old) (image_bytes d) (length new) (image_bytes d) (bytes_put (text_of d old new) buffer)
            (with_differences d old new buffer) buffer k bytes e lo bytes e ln (refused 12 (first + lines))
            (rw (← whole, lt-ltb (length buffer) (first + lines) h)) buffer refl

        pub put_there : (middle after : List ℕ) (next : ℕ) → first + lines ≤ length buffer
            → Laid buffer middle 0 (length (first_line fuses)) (first_line fuses) next
            → Laid middle after first (first + lines) (lines_of d old new (differing_fuses d old new)) (first + lines)
            → At (accepted (first + lines)) after
        unfolding to_differences text_of
        put_there middle after next h p q =
            let behind : next ≡ first = omega (arith, p.ends, es) in
            let lines-there : Laid middle after next (first + lines) (lines_of d old new (differing_fuses d old new)) (first + lines) =
            rw behind q in
            let all = then buffer middle after (first_line fuses) (lines_of d old new (differing_fuses d old new)) 0 next (first + lines)
            (length (first_line fuses)) (first + lines) (first + lines) p lines-there (omega (arith, es)) (omega arith) in
            let text : first_line fuses ++ lines_of d old new (differing_fuses d old new) ≡ text_of d old new =
            ap (λ (n : ℕ). first_line n ++ lines_of d old new (differing_fuses d old new)) ef in
            let same : after ≡ text_of d old new ++ drop (length (text_of d old new)) buffer =
            sym (take-append-drop (first + lines) after)
            ∙ ap₂ ◌++◌ (all.holds ∙ text) (all.behind ∙ ap (λ (n : ℕ). drop n buffer) whole) in
            right d (length old) (image_bytes d) (length new) (image_bytes d) (bytes_put (text_of d old new) buffer)
            (with_differences d old new buffer) buffer k bytes e lo bytes e ln (accepted (first + lines))
            (rw (← whole, le-ltb (length buffer) (first + lines) h)) after same
