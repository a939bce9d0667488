-- The fields of a group and their indices: each index is that of the field there, and each field that there is stands at its index.
-- Stated once for every device.
use mathlib.Core.Path.{◌≡◌, refl}
use mathlib.Core.Bool.{Bool, true, false, cond}
use Prim.Native.Nat.{ℕ, ◌+◌, ◌<◌, ◌≤◌}
use native.Mathlib.Omega.{arith}
use lib.Dec.{ltb, eqb}
use borrow.Author.Tests.{lt-ltb, le-ltb, eqb-true}
use Rattle.part.specs.Device.{known, blocks_of, is_large}
use Rattle.part.specs.declared.Device.{Device}
use Rattle.part.proofs.Facts.{compared}
use Rattle.part.proofs.Devices.{by_count, known_count}
use Rattle.settings.specs.Fields.{foes, listed, polarity_index, macrocell_fields, macrocell_index, block_fields, block_index, global_fields}
use Rattle.settings.specs.Fields.{global_index}
use Rattle.settings.specs.Order.{polarity_at}
use Rattle.settings.specs.Order.{macrocell_field_at, block_field_at, global_field_at}
use Rattle.settings.specs.declared.Polarity.{Polarity}
use Rattle.settings.specs.declared.Polarity.TheVariants.{P, N}
use Rattle.settings.specs.declared.MacrocellField.{MacrocellField}
use Rattle.settings.specs.declared.MacrocellField.TheVariants.{Alloc, Inv, ImportUpAlloc, ImportDownAlloc, ExportDir, SumHp}
use Rattle.settings.specs.declared.MacrocellField.TheVariants.{IobOeMux, OeMux, OutMux, ClkMux, RegMode, RstMux, SetMux, Init}
use Rattle.settings.specs.declared.MacrocellField.TheVariants.{UimOeMux, UimOutInv, IobGnd, IobSlew, Hp}
use Rattle.settings.specs.declared.BlockField.{BlockField}
use Rattle.settings.specs.declared.BlockField.TheVariants.{Enable, ExportEnable, PullupDisable, ReadProtA, ReadProtB, WriteProt}
use Rattle.settings.specs.declared.GlobalField.{GlobalField}
use Rattle.settings.specs.declared.GlobalField.TheVariants.{FsrInv, FclkInv, FoeInv, FclkMux, FoeMux, Usercode}
use Rattle.part.proofs.Tables.{all_below, below_all, Each, each_below}

-- A known device has a block 0.
pub block_0 : (d : Device) → known d ≡ true → 0 < blocks_of d
block_0 d k =
    by_count (λ n. 0 < n) (omega arith) (omega arith) (omega arith) (omega arith) (omega arith) (omega arith) (blocks_of d)
    (known_count d k)

-- A device has 2 or 4 FOE.
pub by_class : (d : Device) (Q : ℕ → Type 0) → Q 2 → Q 4 → Q (foes d)
by_class d Q small large = go (is_large d)
  where
    go : (t : Bool) → Q (cond t 4 2)
    go true = large
    go false = small

pub few : (d : Device) → foes d ≤ 4
few d = by_class d (λ e. e ≤ 4) (omega arith) (omega arith)

-- A field and its index: each index is that of the field there.
pub polarity_index_lem : (x : ℕ) → x < 2 → polarity_index (polarity_at x) ≡ x
polarity_index_lem x h = eqb-true _ x (below_all (λ i. eqb (polarity_index (polarity_at i)) i) 2 refl x h)

pub macrocell_index_lem : (x : ℕ) → x < macrocell_fields → macrocell_index (macrocell_field_at x) ≡ x
macrocell_index_lem x h = eqb-true _ x (below_all (λ i. eqb (macrocell_index (macrocell_field_at i)) i) macrocell_fields refl x h)

pub block_index_lem : (x : ℕ) → x < block_fields → block_index (block_field_at x) ≡ x
block_index_lem x h = eqb-true _ x (below_all (λ i. eqb (block_index (block_field_at i)) i) block_fields refl x h)

pub global_index_lem : (d : Device) (x : ℕ) → x < global_fields (foes d) → global_index (foes d) (global_field_at (foes d) x) ≡ x
global_index_lem d x =
    by_class d (λ e. x < global_fields e → global_index e (global_field_at e x) ≡ x) (at 2 refl) (at 4 refl)
  where
    at : (e : ℕ) → all_below (λ i. eqb (global_index e (global_field_at e i)) i) (global_fields e) ≡ true
        → x < global_fields e → global_index e (global_field_at e x) ≡ x
    at e all h = eqb-true _ x (below_all (λ i. eqb (global_index e (global_field_at e i)) i) (global_fields e) all x h)

-- Each field that there is stands at its index.
pub polarity_at_lem : (p : Polarity) → polarity_at (polarity_index p) ≡ p
polarity_at_lem P = refl
polarity_at_lem N = refl

pub block_at : (f : BlockField) → (block_index f < block_fields) × (block_field_at (block_index f) ≡ f)
block_at Enable = (omega arith, refl)
block_at ExportEnable = (omega arith, refl)
block_at PullupDisable = (omega arith, refl)
block_at ReadProtA = (omega arith, refl)
block_at ReadProtB = (omega arith, refl)
block_at WriteProt = (omega arith, refl)

-- What holds of the place of a field that there is.
pub listed_there : (Q : ℕ → Type 0) (k count first past : ℕ) → listed k count first past < past
    → (k < count → first + k < past → Q (first + k)) → Q (listed k count first past)
listed_there Q k count first past h there =
    compared k count (λ l. less (lt-ltb k count l) l) (λ g. more (le-ltb k count g))
  where
    less : ltb k count ≡ true → k < count → Q (listed k count first past)
    less e l = rw e (there l (rw e at h))

    more : ltb k count ≡ false → Q (listed k count first past)
    more e = let none : past < past = rw e at h in absurd (omega arith)

-- A field that is numbered and that there is has a number below its count.
pub numbered : (k count first past : ℕ) → listed k count first past < past → k < count
numbered k count first past h = listed_there (λ i. k < count) k count first past h (λ l m. l)

pub macrocell_at : (f : MacrocellField) → macrocell_index f < macrocell_fields → macrocell_field_at (macrocell_index f) ≡ f
macrocell_at (Alloc k) h =
    listed_there (λ i. macrocell_field_at i ≡ Alloc k) k 5 0 27 h
    (λ l m. each_below (λ k. macrocell_field_at (0 + k) ≡ Alloc k) 5 (refl, (refl, (refl, (refl, (refl, tt))))) k l)
macrocell_at Inv h = refl
macrocell_at ImportUpAlloc h = refl
macrocell_at ImportDownAlloc h = refl
macrocell_at ExportDir h = refl
macrocell_at SumHp h = refl
macrocell_at IobOeMux h = refl
macrocell_at OeMux h = refl
macrocell_at OutMux h = refl
macrocell_at ClkMux h = refl
macrocell_at RegMode h = refl
macrocell_at RstMux h = refl
macrocell_at SetMux h = refl
macrocell_at Init h = refl
macrocell_at UimOeMux h = refl
macrocell_at UimOutInv h = refl
macrocell_at IobGnd h = refl
macrocell_at IobSlew h = refl
macrocell_at (Hp k) h =
    listed_there (λ i. macrocell_field_at i ≡ Hp k) k 5 22 27 h
    (λ l m. each_below (λ k. macrocell_field_at (22 + k) ≡ Hp k) 5 (refl, (refl, (refl, (refl, (refl, tt))))) k l)

module _ (count : ℕ) where
  -- Field x of a kind that begins at `first` is found there.
  abbrev Stands : (first : ℕ) → (ℕ → GlobalField) → ℕ → Type 0
  Stands first field x = global_field_at count (first + x) ≡ field x

  -- The four kinds of field that are numbered, each below its own count.
  record GlobalsAt : Type 0 where
    fclk_inv : Each (Stands 1 FclkInv) 3
    foe_inv : Each (Stands 4 FoeInv) count
    fclk_mux : Each (Stands (4 + count) FclkMux) 3
    foe_mux : Each (Stands (4 + count + 3) FoeMux) count
    usercode : global_field_at count (4 + count + 3 + count) ≡ Usercode

  there : (first many : ℕ) (field : ℕ → GlobalField) → Each (Stands first field) many → (x : ℕ)
      → listed x many first (global_fields count) < global_fields count
      → global_field_at count (listed x many first (global_fields count)) ≡ field x
  there first many field all x h =
      listed_there (λ i. global_field_at count i ≡ field x) x many first (global_fields count) h
      (λ l m. each_below (Stands first field) many all x l)

  global_at_count : GlobalsAt → (f : GlobalField) → global_index count f < global_fields count
      → global_field_at count (global_index count f) ≡ f
  global_at_count all FsrInv h = refl
  global_at_count all (FclkInv c) h = there 1 3 FclkInv all.fclk_inv c h
  global_at_count all (FoeInv e) h = there 4 count FoeInv all.foe_inv e h
  global_at_count all (FclkMux c) h = there (4 + count) 3 FclkMux all.fclk_mux c h
  global_at_count all (FoeMux e) h = there (4 + count + 3) count FoeMux all.foe_mux e h
  global_at_count all Usercode h = all.usercode

pub global_at : (d : Device) (f : GlobalField) → global_index (foes d) f < global_fields (foes d)
    → global_field_at (foes d) (global_index (foes d) f) ≡ f
global_at d f =
    by_class d (λ e. global_index e f < global_fields e → global_field_at e (global_index e f) ≡ f)
    (global_at_count 2
    (record {
      fclk_inv = (refl, (refl, (refl, tt)));
      foe_inv = (refl, (refl, tt));
      fclk_mux = (refl, (refl, (refl, tt)));
      foe_mux = (refl, (refl, tt));
      usercode = refl;
    })
    f)
    (global_at_count 4
    (record {
      fclk_inv = (refl, (refl, (refl, tt)));
      foe_inv = (refl, (refl, (refl, (refl, tt))));
      fclk_mux = (refl, (refl, (refl, tt)));
      foe_mux = (refl, (refl, (refl, (refl, tt))));
      usercode = refl;
    })
    f)
