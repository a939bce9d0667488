-- The name of a bit of a setting, and of a fuse: from the answer of the step that finds the setting at a fuse.
-- Assumes nothing.
use mathlib.Core.Path.{◌≡◌, refl, sym, ◌∙◌, ap, ap₂}
use mathlib.Core.Bool.{true}
use mathlib.Core.List.{List, [], ◌∷◌, ◌++◌}
use mathlib.Core.Option.{Option}
use mathlib.Core.Option.Option.{none, some}
use Prim.Native.Nat.{ℕ, ◌≤◌, ◌<◌}
use native.Mathlib.Omega.{arith}
use lib.ListN.{length, replicate, length-replicate}
use borrow.Author.Tests.{lt-ltb, le-ltb, ltb-true}
use Rattle.cells.specs.Cells.{cut}
use Rattle.cells.proofs.Laws.{cut_length}
use Rattle.part.specs.Outcome.Outcome.{accepted}
use Rattle.part.specs.Device.{known, fuse_count}
use Rattle.part.specs.declared.Device.{Device}
use Rattle.part.specs.declared.Refusal.{Refusal}
use Rattle.part.proofs.Checks.{passed, result}
use Rattle.part.proofs.Facts.{given, tests}
use Rattle.settings.specs.Fields.{macrocell_index}
use Rattle.settings.specs.Settings.{has_setting}
use Rattle.settings.specs.declared.GlobalField.{GlobalField}
use Rattle.settings.specs.declared.GlobalField.TheVariants.{FsrInv, FclkInv, FoeInv, FclkMux, FoeMux, Usercode}
use Rattle.settings.specs.declared.Setting.{Setting}
use Rattle.settings.specs.declared.Setting.TheVariants.{Literal, WireAnd, Macrocell, Block, Global}
use Rattle.settings.proofs.FieldIndices.{macrocell_at}
use Rattle.setting_places.specs.Places.{rows, global_bits, bits_of}
use Rattle.setting_places.specs.Operations.{fuse_of_bit}
use Rattle.setting_places.proofs.OnePlaceEach.{rows_few}
use Rattle.fuse_settings.specs.Answer.{named_outcome}
use Rattle.fuse_settings.specs.Back.{setting_at}
use Rattle.fuse_settings.specs.Operations.{setting_at_fuse}
use Rattle.std.specs.Prelude as rust
use Rattle.std.specs.Prelude.{Result, Ok, Err, IsOk}
use Rattle.fuse_settings.specs.declared.SettingBit.{SettingBit}
use Rattle.fuse_settings.proofs.Laws.{fuses_inverse}
use Rattle.jedec.specs.Characters.{space, count_digits}
use Rattle.jedec.specs.Quoted.{chars}
use Rattle.names.specs.Names.{setting_name, bit_text, name_of, unnamed, name_at}
use Rattle.names.specs.Pieces.{text_of, Holds, Spells, SpellsBit}
use Rattle.names.specs.declared.pieces.Piece.{Piece}
use Rattle.names.specs.declared.pieces.BitName.{BitName}

-- A piece has as many bytes as its text.
pub held_length : (p : Piece) (text : List ℕ) → Holds p text → p.len ≡ length text
held_length p text h =
    sym (length-replicate {A = ℕ} p.len 8) ∙ sym (cut_length (replicate p.len 8) p.word) ∙ ap length h.text_is

pub text_length : (p : Piece) → length (text_of p) ≡ p.len
text_length p = cut_length (replicate p.len 8) p.word ∙ length-replicate {A = ℕ} p.len 8

-- The name of a fuse that no setting has.
pub unnamed_spelled : (q : Piece) → q ≡ record { word = 0; len = 0 }
    → SpellsBit (record { name = record { word = 0x64656D616E6E7520; len = 8 } ∷ q ∷ q ∷ q ∷ q ∷ []; bit = q }) (space ∷ unnamed)
unfolding cut
unnamed_spelled q e =
    rw e
    (record {
      few = (omega arith, (omega arith, (omega arith, (omega arith, (omega arith, tt)))));
      bit_few = omega arith;
      bit_alone = omega arith;
      text_is = refl;
    })

-- No setting has more than 32 bits.
global_few : (f : GlobalField) → global_bits f ≤ 32
global_few FsrInv = omega arith
global_few (FclkInv c) = omega arith
global_few (FoeInv e) = omega arith
global_few (FclkMux c) = omega arith
global_few (FoeMux e) = omega arith
global_few Usercode = omega arith

bits_few : (d : Device) (s : Setting) → has_setting d s ≡ true → bits_of s ≤ 32
unfolding has_setting bits_of
bits_few d (Literal b j k l p) h = omega arith
bits_few d (WireAnd i j k l) h = omega arith
bits_few d (Macrocell b m f) h =
    let facts = simp tests at h in
    let few : rows f ≤ 3 = rw (macrocell_at f facts.1) at (rows_few (macrocell_index f) facts.1) in
    omega arith
bits_few d (Block b f) h = omega arith
bits_few d (Global f) h = global_few f

-- The bit after a dot.
module _ (d : Device) (s : Setting) (bit width : ℕ) (p : Piece) (e : width ≡ bits_of s) where
  pub no_bit_lem : width ≤ 1 → Holds p [] → Holds p (bit_text s bit)
  unfolding bit_text
  no_bit_lem h held = rw (le-ltb 1 (bits_of s) (omega arith)) held

  pub after_dot : 1 < width → Holds p (chars "." ++ count_digits bit) → Holds p (bit_text s bit)
  unfolding bit_text
  after_dot h held = rw (lt-ltb 1 (bits_of s) (omega arith)) held

pub bit_small : (d : Device) (s : Setting) (bit : ℕ) → has_setting d s ≡ true → bit < bits_of s → bit < 100
bit_small d s bit h l = omega (arith, bits_few d s h)

pub no_length : (p : Piece) → Holds p [] → p.len ≤ 3
no_length p h = omega (arith, held_length p [] h)

-- A name and a bit.
pub bit_spelled : (s : Setting) (bit : ℕ) (n : List Piece) (p : Piece) → Spells n (space ∷ setting_name s) → Holds p (bit_text s bit)
    → p.len ≤ 3 → SpellsBit (record { name = n; bit = p }) (space ∷ name_of s bit)
unfolding name_of
bit_spelled s bit n p hn hp few =
    record { few = hn.few; bit_few = few; bit_alone = hp.alone; text_is = ap₂ ◌++◌ hn.text_is hp.text_is }

-- What the answer for a fuse says.
module _ (d : Device) (f : ℕ) (r : Result (rust.Option SettingBit) Refusal) (k : known d ≡ true) (below : f < fuse_count d)
    (e : named_outcome r ≡ setting_at_fuse d f) where
  answered : named_outcome r ≡ accepted (setting_at d f)
  unfolding setting_at_fuse
  answered = e ∙ rw (k, lt-ltb f (fuse_count d) below)

  pub not_refused : IsOk r
  not_refused = accepted_ok r (setting_at d f) answered
    where
      accepted_ok : (r : Result (rust.Option SettingBit) Refusal) (x : Option (Setting × ℕ)) → named_outcome r ≡ accepted x → IsOk r
      accepted_ok (Ok o) x g = refl
      accepted_ok (Err n) x g = let z : ◌≡◌ {A = ℕ} 0 1 = cc in absurd (omega arith)

  module _ (found : rust.Option SettingBit) (g : r ≡ Ok found) where
    module _ (named : SettingBit) (h : found ≡ rust.Some named) where
      located : fuse_of_bit d named.setting named.bit ≡ accepted (some f)
      located = (fuses_inverse d named.setting named.bit f).1 (sym e ∙ ap named_outcome (g ∙ ap Ok h))

      pub has_there : has_setting d named.setting ≡ true
      unfolding fuse_of_bit
      has_there = (passed (has_setting d named.setting) _ 4 0 (passed (known d) _ 1 0 located).1).0

      pub bit_there : named.bit < bits_of named.setting
      unfolding fuse_of_bit
      bit_there =
          ltb-true named.bit (bits_of named.setting)
          (given _ _ f (result (passed (has_setting d named.setting) _ 4 0 (passed (known d) _ 1 0 located).1).1)).0

      pub name_there : (n : BitName) → SpellsBit n (space ∷ name_of named.setting named.bit) → SpellsBit n (space ∷ name_at d f)
      unfolding name_at
      name_there n held =
          let at : setting_at d f ≡ some (named.setting, named.bit) = result (sym answered ∙ ap named_outcome (g ∙ ap Ok h)) in rw at held

    pub no_name_there : found ≡ rust.None → (n : BitName) → SpellsBit n (space ∷ unnamed) → SpellsBit n (space ∷ name_at d f)
    unfolding name_at
    no_name_there h n held =
        let at : setting_at d f ≡ none = result (sym answered ∙ ap named_outcome (g ∙ ap Ok h)) in rw at held
