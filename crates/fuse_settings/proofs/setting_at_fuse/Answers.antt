-- `setting_at_fuse` meets its contract: the candidate is the answer exactly if it lists the fuse, as literals and wire-ANDs always do.
-- Assumes nothing.
use mathlib.Core.Path.{◌≡◌, sym, ◌∙◌, ap}
use mathlib.Core.Bool.{Bool, true, false}
use Prim.Native.Nat.{ℕ, ◌<◌, ◌≤◌}
use native.Mathlib.Omega.{arith}
use borrow.Author.Tests.{lt-ltb, le-ltb, eq-eqb, ne_eqb}
use Rattle.part.specs.Outcome.Outcome.{accepted, refused}
use Rattle.part.specs.Device.{known}
use Rattle.part.specs.declared.Device.{Device}
use Rattle.part.proofs.Refused.{refused_with}
use mathlib.Core.Option.Option.{none, some}
use Rattle.part.specs.Device.{fuse_count}
use Rattle.part.specs.Place.{has_place, place_of_fuse}
use Rattle.part.specs.declared.Place.{Place}
use Rattle.part.proofs.Fuses.{at_fuse}
use Rattle.settings.specs.Settings.{has_setting}
use Rattle.setting_places.specs.Places.{bits_of, fuse_of}
use Rattle.fuse_settings.specs.Back.{candidate_at, always_listed, setting_at}
use Rattle.fuse_settings.specs.Operations.{setting_at_fuse}
use Rattle.fuse_settings.specs.declared.SettingBit.{SettingBit}
use Rattle.fuse_settings.proofs.NamedFuses.{always_listed_lem}
use Rattle.settings.proofs.Asked.{no_device}
use borrow.Author.Rules.{rules}
use Rattle.fuse_settings.proofs.setting_at_fuse.Goals as goal

no_fuse_lem : (d : Device) (f count : ℕ) → known d ≡ true → count ≡ fuse_count d → count ≤ f → refused 3 0 ≡ setting_at_fuse d f
unfolding setting_at_fuse
no_fuse_lem d f count k e h = rw (k, le-ltb f (fuse_count d) (omega arith))

below : (d : Device) (f count : ℕ) → count ≡ fuse_count d → f < count → f < fuse_count d
below d f count e h = omega arith

place_there : (d : Device) (f : ℕ) (p : Place) → p ≡ place_of_fuse d f → f < fuse_count d → has_place d p ≡ true
place_there d f p e h = rw e (at_fuse d f h).0

-- What the code has found at each return, and the definition's answer.
module _ (d : Device) (f : ℕ) (p : Place) (c : SettingBit) (k : known d ≡ true) (h : f < fuse_count d) (e : p ≡ place_of_fuse d f)
    (g : c ≡ candidate_at p) where
  always : (t : Bool) → t ≡ always_listed c.setting → t ≡ true → accepted (some (c.setting, c.bit)) ≡ setting_at_fuse d f
  unfolding setting_at_fuse
  always t w y = rw (k, lt-ltb f (fuse_count d) h) (ap accepted (always_listed_lem d k f h c (rw e at g) (sym w ∙ y)))

  not_there : has_setting d c.setting ≡ false → accepted none ≡ setting_at_fuse d f
  unfolding setting_at_fuse setting_at
  not_there n = rw (k, lt-ltb f (fuse_count d) h, ← e, ← g, n)

  module _ (s : has_setting d c.setting ≡ true) (width : ℕ) (q : width ≡ bits_of c.setting) where
    no_such_bit : width ≤ c.bit → accepted none ≡ setting_at_fuse d f
    unfolding setting_at_fuse setting_at
    no_such_bit n = rw (k, lt-ltb f (fuse_count d) h, ← e, ← g, s, le-ltb c.bit (bits_of c.setting) (omega arith))

    another : (found : ℕ) → c.bit < width → found ≡ fuse_of d c.setting c.bit → (found ≡ f → ⊥) → accepted none ≡ setting_at_fuse d f
    unfolding setting_at_fuse setting_at
    another found l w n =
        rw (
          k,
          lt-ltb f (fuse_count d) h,
          ← e,
          ← g,
          s,
          lt-ltb c.bit (bits_of c.setting) (omega arith),
          ne_eqb (fuse_of d c.setting c.bit) f (λ same. n (w ∙ same)),
        )

    listed : (found : ℕ) → c.bit < width → found ≡ fuse_of d c.setting c.bit → found ≡ f
        → accepted (some (c.setting, c.bit)) ≡ setting_at_fuse d f
    unfolding setting_at_fuse setting_at
    listed found l w same =
        rw (
          k,
          lt-ltb f (fuse_count d) h,
          ← e,
          ← g,
          s,
          lt-ltb c.bit (bits_of c.setting) (omega arith),
          eq-eqb (fuse_of d c.setting c.bit) f (sym w ∙ same),
        )

pub returns-in_err-part : goal.returns-in_err-part
unfolding setting_at_fuse
returns-in_err-part c = search (rules, refused_with, no_device)

pub returns-then-fuse_count-fuse : goal.returns-then-fuse_count-fuse
returns-then-fuse_count-fuse c = rw (← c.in_ok-part.ensures) (search (rules, no_fuse_lem))

pub candidate_at-candidate-requires : goal.candidate_at-candidate-requires
candidate_at-candidate-requires c = rw (← c.in_ok-part.ensures) (search (rules, below, place_there))

pub returns-then-always_listed : goal.returns-then-always_listed
returns-then-always_listed c = rw (← c.in_ok-part.ensures) (search (rules, below, always))

pub returns-in_default : goal.returns-in_default
returns-in_default c = rw (← c.in_ok-part.ensures) (search (rules, below, not_there))

pub returns-then-bits_of-candidate : goal.returns-then-bits_of-candidate
returns-then-bits_of-candidate c = rw (← c.in_ok-part.ensures) (search (rules, below, no_such_bit))

pub returns-then-ne : goal.returns-then-ne
returns-then-ne c = rw (← c.in_ok-part.ensures) (search (rules, below, another))

pub returns : goal.returns
returns c = rw (← c.in_ok-part.ensures) (search (rules, below, listed))
