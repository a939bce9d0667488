-- Names put together: pieces one after another spell the parts of a setting, each after a space.
-- Assumes nothing.
use mathlib.Core.Path.{◌≡◌, refl, sym, ◌∙◌, ap, ap₂}
use mathlib.Core.Bool.{true}
use mathlib.Core.List.{List, [], ◌∷◌, ◌++◌, append_assoc, append-nil}
use Prim.Native.Nat.{ℕ, ◌≤◌, ◌<◌}
use native.Mathlib.Omega.{arith}
use lib.ListN.{length, take, drop, length-drop, take-append-drop}
use lib.Seq.{take_all, drop-drop}
use borrow.Author.Tests.{le-ltb}
use Rattle.cells.specs.Cells.{cut}
use Rattle.part.specs.Device.{known}
use Rattle.part.specs.declared.Device.{Device}
use Rattle.part.proofs.Facts.{tests, compared}
use Rattle.part.proofs.Devices.{blocks_small}
use Rattle.settings.specs.Fields.{foes, listed, macrocell_fields, macrocell_index, global_fields, global_index}
use Rattle.settings.specs.Settings.{has_setting}
use Rattle.settings.specs.declared.Polarity.{Polarity}
use Rattle.settings.specs.declared.MacrocellField.{MacrocellField}
use Rattle.settings.specs.declared.MacrocellField.TheVariants.{Alloc, Hp}
use Rattle.settings.specs.declared.BlockField.{BlockField}
use Rattle.settings.specs.declared.GlobalField.{GlobalField}
use Rattle.settings.specs.declared.GlobalField.TheVariants.{FclkInv, FoeInv, FclkMux, FoeMux}
use Rattle.settings.specs.declared.Setting.{Setting}
use Rattle.settings.specs.declared.Setting.TheVariants.{Literal, WireAnd, Macrocell, Block, Global}
use Rattle.settings.proofs.FieldIndices.{by_class}
use Rattle.jedec.specs.Characters.{space}
use Rattle.names.specs.Names.{part_text, polarity_name, macrocell_parts, block_field_name, global_field_name, spaced, joined, parts_of}
use Rattle.names.specs.Names.{setting_name}
use Rattle.names.specs.Names.Part.{fb, mc, pt, im, uim}
use Rattle.names.specs.Pieces.{text_of, name_text, Holds, SpellsWords, Spells}
use Rattle.names.specs.declared.pieces.Piece.{Piece}
use Rattle.names.specs.declared.pieces.Words.{Words}

-- No bytes.
pub nothing_held : Holds (record { word = 0; len = 0 }) []
unfolding cut
nothing_held = record { few = omega arith; alone = omega arith; text_is = refl }

-- Three pieces.
pub words_held : (p q r : Piece) (x y z : List ℕ) → Holds p x → Holds q y → Holds r z
    → SpellsWords (record { one = p; two = q; three = r }) (x ++ y ++ z)
words_held p q r x y z hp hq hr =
    record {
      one_few = hp.few;
      two_few = hq.few;
      three_few = hr.few;
      text_is = rw (hp.text_is, hq.text_is, hr.text_is);
    }

-- A text of up to 24 bytes by eights.
by_eights : (text : List ℕ) → length text ≤ 24 → take 8 (drop 0 text) ++ take 8 (drop 8 text) ++ take 8 (drop 16 text) ≡ text
by_eights text h =
    let last : take 8 (drop 16 text) ≡ drop 16 text = take_all 8 (drop 16 text) (rw (length-drop 16 text) (omega arith)) in
    let next : drop 8 (drop 8 text) ≡ drop 16 text = drop-drop 8 8 text in
    ap (λ (l : List ℕ). take 8 text ++ take 8 (drop 8 text) ++ l) (last ∙ sym next)
    ∙ append_assoc (take 8 text) (take 8 (drop 8 text)) (drop 8 (drop 8 text))
    ∙ ap (λ (l : List ℕ). take 8 text ++ l) (take-append-drop 8 (drop 8 text)) ∙ take-append-drop 8 text

pub words_of_text : (text : List ℕ) (p q r : Piece) → length text ≤ 24 → Holds p (take 8 (drop 0 text))
    → Holds q (take 8 (drop 8 text)) → Holds r (take 8 (drop 16 text)) → SpellsWords (record { one = p; two = q; three = r }) text
words_of_text text p q r h hp hq hr = rw (by_eights text h) at (words_held p q r _ _ _ hp hq hr)

-- A part, or letters and digits, and a text of up to eight bytes.
pub part_and_text : (first text : List ℕ) (p q r : Piece) → length text ≤ 8 → Holds p first → Holds q (take 8 (drop 0 text))
    → Holds r [] → SpellsWords (record { one = p; two = q; three = r }) (first ++ text)
part_and_text first text p q r h hp hq hr =
    let whole : first ++ take 8 (drop 0 text) ++ [] ≡ first ++ text = rw (append-nil, take_all 8 text h) in
    rw whole at (words_held p q r _ _ _ hp hq hr)

-- Words of a text that is another.
pub words_same : {A : Type 0} (text_of : A → List ℕ) (x y : A) (w : Words) (text : List ℕ) → x ≡ y → text ≡ text_of y
    → SpellsWords w text → SpellsWords w (text_of x)
words_same text_of x y w text e f h = rw (e, ← f) h

-- A name piece by piece.
spelled_none : Spells [] []
spelled_none = record { few = tt; text_is = refl }

spelled_next : (p : Piece) (pieces : List Piece) (x y : List ℕ) → Holds p x → Spells pieces y → Spells (p ∷ pieces) (x ++ y)
spelled_next p pieces x y hp hs = record { few = (hp.few, hs.few); text_is = ap₂ ◌++◌ hp.text_is hs.text_is }

-- Words before other pieces.
spelled_words : (w : Words) (pieces : List Piece) (x y : List ℕ) → SpellsWords w x → Spells pieces y
    → Spells (w.one ∷ w.two ∷ w.three ∷ pieces) (x ++ y)
spelled_words w pieces x y hw hs =
    record {
      few = (hw.one_few, (hw.two_few, (hw.three_few, hs.few)));
      text_is =
          sym (append_assoc (text_of w.one ++ text_of w.two) (text_of w.three) (name_text pieces)
          ∙ append_assoc (text_of w.one) (text_of w.two) (text_of w.three ++ name_text pieces)) ∙ ap₂ ◌++◌ hw.text_is hs.text_is;
    }

-- The name of each group.
pub literal_spelled : (b j k l : ℕ) (pol : Polarity) (p q r s t : Piece) → Holds p (space ∷ part_text (fb b))
    → Holds q (space ∷ part_text (mc j)) → Holds r (space ∷ part_text (pt k)) → Holds s (space ∷ part_text (im l))
    → Holds t (space ∷ polarity_name pol) → Spells (p ∷ q ∷ r ∷ s ∷ t ∷ []) (spaced (parts_of (Literal b j k l pol)))
unfolding parts_of spaced
literal_spelled b j k l pol p q r s t hp hq hr hs ht =
    spelled_next _ _ _ _ hp (spelled_next _ _ _ _ hq (spelled_next _ _ _ _ hr (spelled_next _ _ _ _ hs
    (spelled_next _ _ _ _ ht spelled_none))))

pub wire_and_spelled : (i j k l : ℕ) (p q r s t : Piece) → Holds p (space ∷ part_text (fb i)) → Holds q (space ∷ part_text (im j))
    → Holds r (space ∷ part_text uim) → Holds s (space ∷ part_text (fb k)) → Holds t (space ∷ part_text (mc l))
    → Spells (p ∷ q ∷ r ∷ s ∷ t ∷ []) (spaced (parts_of (WireAnd i j k l)))
unfolding parts_of spaced
wire_and_spelled i j k l p q r s t hp hq hr hs ht =
    spelled_next _ _ _ _ hp (spelled_next _ _ _ _ hq (spelled_next _ _ _ _ hr (spelled_next _ _ _ _ hs
    (spelled_next _ _ _ _ ht spelled_none))))

pub macrocell_spelled : (b m : ℕ) (f : MacrocellField) (p q : Piece) (w : Words) → Holds p (space ∷ part_text (fb b))
    → Holds q (space ∷ part_text (mc m)) → SpellsWords w (spaced (macrocell_parts f))
    → Spells (p ∷ q ∷ w.one ∷ w.two ∷ w.three ∷ []) (spaced (parts_of (Macrocell b m f)))
unfolding parts_of spaced
macrocell_spelled b m f p q w hp hq hw =
    let words = rw append-nil at (spelled_words w [] _ _ hw spelled_none) in
    spelled_next _ _ _ _ hp (spelled_next _ _ _ _ hq words)

pub block_spelled : (b : ℕ) (f : BlockField) (p t : Piece) (w : Words) → Holds p (space ∷ part_text (fb b))
    → SpellsWords w (space ∷ block_field_name f) → Holds t []
    → Spells (p ∷ w.one ∷ w.two ∷ w.three ∷ t ∷ []) (spaced (parts_of (Block b f)))
unfolding parts_of spaced
block_spelled b f p t w hp hw ht =
    spelled_next _ _ _ _ hp (spelled_words w (t ∷ []) _ [] hw (spelled_next _ _ [] [] ht spelled_none))

pub global_spelled : (f : GlobalField) (s t : Piece) (w : Words) → SpellsWords w (space ∷ global_field_name f) → Holds s [] → Holds t []
    → Spells (w.one ∷ w.two ∷ w.three ∷ s ∷ t ∷ []) (spaced (parts_of (Global f)))
unfolding parts_of spaced
global_spelled f s t w hw hs ht =
    spelled_words w (s ∷ t ∷ []) _ [] hw (spelled_next _ _ [] [] hs (spelled_next _ _ [] [] ht spelled_none))

-- Parts, each after a space, are a space and the parts with a space between them.
spaced_name : (s : Setting) → spaced (parts_of s) ≡ space ∷ setting_name s
unfolding parts_of spaced setting_name joined
spaced_name (Literal b j k l pol) = refl
spaced_name (WireAnd i j k l) = refl
spaced_name (Macrocell b m f) = refl
spaced_name (Block b f) = refl
spaced_name (Global f) = refl

pub named : (s t : Setting) (n : List Piece) → s ≡ t → Spells n (spaced (parts_of t)) → Spells n (space ∷ setting_name s)
named s t n e h = rw (e, ← spaced_name t) h

-- The word of the mark of a wire-AND.
pub uim_held : Holds (record { word = 0x4D495520; len = 4 }) (space ∷ part_text uim)
unfolding cut
uim_held = record { few = omega arith; alone = omega arith; text_is = refl }

-- What a setting of a known device has is small.
pub literal_small : (d : Device) (s : Setting) {b j k l : ℕ} {p : Polarity} → known d ≡ true → has_setting d s ≡ true
    → s ≡ Literal b j k l p → (b < 100) × (j < 100) × (k < 100) × (l < 100)
unfolding has_setting
literal_small d s k h e = let facts = simp tests at (rw e at h) in omega (arith, blocks_small d k)

pub wire_and_small : (d : Device) (s : Setting) {i j k l : ℕ} → known d ≡ true → has_setting d s ≡ true
    → s ≡ WireAnd i j k l → (i < 100) × (j < 100) × (k < 100) × (l < 100)
unfolding has_setting
wire_and_small d s k h e = let facts = simp tests at (rw e at h) in omega (arith, blocks_small d k)

pub macrocell_small : (d : Device) (s : Setting) {b m : ℕ} {f : MacrocellField} → known d ≡ true → has_setting d s ≡ true
    → s ≡ Macrocell b m f → (b < 100) × (m < 100) × (macrocell_index f < macrocell_fields)
unfolding has_setting
macrocell_small d s k h e = let facts = simp tests at (rw e at h) in (omega (arith, blocks_small d k), omega arith, facts.1)

pub block_small : (d : Device) (s : Setting) {b : ℕ} {f : BlockField} → known d ≡ true → has_setting d s ≡ true
    → s ≡ Block b f → b < 100
unfolding has_setting
block_small d s k h e = let facts = simp tests at (rw e at h) in omega (arith, blocks_small d k)

pub global_there : (d : Device) (s : Setting) {f : GlobalField} → has_setting d s ≡ true → s ≡ Global f
    → global_index (foes d) f < global_fields (foes d)
unfolding has_setting
global_there d s h e = simp tests at (rw e at h)

-- An index of a listed field is small.
listed_small : (k count first past : ℕ) → listed k count first past < past → count ≤ 100 → k < 100
listed_small k count first past h few =
    compared k count (λ l. omega arith) (λ g. absurd (omega (arith, rw (le-ltb k count g) at h)))

pub alloc_small : (f : MacrocellField) (k : ℕ) → macrocell_index f < macrocell_fields → f ≡ Alloc k → k < 100
alloc_small f k h e = listed_small k 5 0 macrocell_fields (rw e at h) (omega arith)

pub hp_small : (f : MacrocellField) (k : ℕ) → macrocell_index f < macrocell_fields → f ≡ Hp k → k < 100
hp_small f k h e = listed_small k 5 22 macrocell_fields (rw e at h) (omega arith)

foes_few : (d : Device) → foes d ≤ 100
foes_few d = by_class d (λ n. n ≤ 100) (omega arith) (omega arith)

module _ (d : Device) (f : GlobalField) (h : global_index (foes d) f < global_fields (foes d)) (k : ℕ) where
  pub fclk_inv_small : f ≡ FclkInv k → k < 100
  fclk_inv_small e = listed_small k 3 _ (global_fields (foes d)) (rw e at h) (omega arith)

  pub foe_inv_small : f ≡ FoeInv k → k < 100
  foe_inv_small e = listed_small k (foes d) _ (global_fields (foes d)) (rw e at h) (foes_few d)

  pub fclk_mux_small : f ≡ FclkMux k → k < 100
  fclk_mux_small e = listed_small k 3 _ (global_fields (foes d)) (rw e at h) (omega arith)

  pub foe_mux_small : f ≡ FoeMux k → k < 100
  foe_mux_small e = listed_small k (foes d) _ (global_fields (foes d)) (rw e at h) (foes_few d)
