-- The numbers of the settings, "from 0 in the order of this list: group by group", then by indices, the last fastest;
-- a macrocell's, block's or global field comes last, in the order listed. P stands before N.
use Rattle.std.specs.Prelude.{ℕ, zero, suc, ◌+◌, ◌*◌, ◌-◌, ◌/◌, ◌%◌, Bool, false, cond, ◌&&◌, ◌||◌, List, [], ◌∷◌, eqb, ltb}
use Rattle.part.specs.Device.{blocks_of}
use Rattle.part.specs.declared.Device.{Device}
use Rattle.settings.specs.Fields.{macrocells, terms, inputs, foes, polarity_index, macrocell_fields, macrocell_index}
use Rattle.settings.specs.Fields.{block_fields, block_index, global_fields, global_index}
use Rattle.settings.specs.declared.Polarity.{Polarity}
use Rattle.settings.specs.declared.Polarity.TheVariants.{P, N}
use Rattle.settings.specs.declared.MacrocellField.{MacrocellField}
use Rattle.settings.specs.declared.MacrocellField.TheVariants.{Alloc, Inv, ImportUpAlloc, ImportDownAlloc}
use Rattle.settings.specs.declared.MacrocellField.TheVariants.{ExportDir, SumHp, IobOeMux, OeMux, OutMux, ClkMux}
use Rattle.settings.specs.declared.MacrocellField.TheVariants.{RegMode, RstMux, SetMux, Init, UimOeMux}
use Rattle.settings.specs.declared.MacrocellField.TheVariants.{UimOutInv, IobGnd, IobSlew, Hp}
use Rattle.settings.specs.declared.BlockField.{BlockField}
use Rattle.settings.specs.declared.BlockField.TheVariants.{Enable, ExportEnable, PullupDisable, ReadProtA}
use Rattle.settings.specs.declared.BlockField.TheVariants.{ReadProtB, WriteProt}
use Rattle.settings.specs.declared.GlobalField.{GlobalField}
use Rattle.settings.specs.declared.GlobalField.TheVariants.{FsrInv, FclkInv, FoeInv, FclkMux, FoeMux, Usercode}
use Rattle.settings.specs.declared.Setting.{Setting}
use Rattle.settings.specs.declared.Setting.TheVariants.{Literal, WireAnd, Macrocell, Block, Global}

-- The groups in the order of the list.
pub data Group : Type 0 where
  literals : Group
  wire_ands : Group
  macrocell_settings : Group
  block_settings : Group
  globals : Group

abbrev pub rank : Group → ℕ
rank literals = 0
rank wire_ands = 1
rank macrocell_settings = 2
rank block_settings = 3
rank globals = 4

abbrev pub group : Setting → Group
group (Literal block j k l polarity) = literals
group (WireAnd i j k l) = wire_ands
group (Macrocell block m field) = macrocell_settings
group (Block block field) = block_settings
group (Global field) = globals

-- The indices of a setting in its group, in the order in which they count, the last fastest.
abbrev pub indices : Device → Setting → List ℕ
indices d (Literal block j k l polarity) = block ∷ j ∷ k ∷ l ∷ polarity_index polarity ∷ []
indices d (WireAnd i j k l) = i ∷ j ∷ k ∷ l ∷ []
indices d (Macrocell block m field) = block ∷ m ∷ macrocell_index field ∷ []
indices d (Block block field) = block ∷ block_index field ∷ []
indices d (Global field) = global_index (foes d) field ∷ []

-- How many values each of these indices has.
abbrev pub bounds : Device → Group → List ℕ
bounds d literals = blocks_of d ∷ macrocells ∷ terms ∷ inputs ∷ 2 ∷ []
bounds d wire_ands = blocks_of d ∷ inputs ∷ blocks_of d ∷ macrocells ∷ []
bounds d macrocell_settings = blocks_of d ∷ macrocells ∷ macrocell_fields ∷ []
bounds d block_settings = blocks_of d ∷ block_fields ∷ []
bounds d globals = global_fields (foes d) ∷ []

-- How many lists of indices there are within such bounds.
abbrev pub product : List ℕ → ℕ
product [] = 1
product (b ∷ bs) = b * product bs

-- The position of a list of indices among all of them, the last fastest.
abbrev pub position : (bounds indices : List ℕ) → ℕ
position [] xs = 0
position (b ∷ bs) [] = 0
position (b ∷ bs) (x ∷ xs) = x * product bs + position bs xs

-- The list of indices at a position.
abbrev pub at : List ℕ → ℕ → List ℕ
at [] position = []
at (b ∷ bs) position = position / product bs ∷ at bs (position % product bs)

-- The first number of a group, which follows the group before it.
abbrev pub size : Device → Group → ℕ
size d g = product (bounds d g)

abbrev pub start : Device → Group → ℕ
start d literals = 0
start d wire_ands = size d literals
start d macrocell_settings = size d literals + size d wire_ands
start d block_settings = size d literals + size d wire_ands + size d macrocell_settings
start d globals = size d literals + size d wire_ands + size d macrocell_settings + size d block_settings

-- How many settings a device has, and the number of each.
unfoldable pub count_of : Device → ℕ
count_of d = start d globals + size d globals

unfoldable pub number_of : Device → Setting → ℕ
number_of d s = start d (group s) + position (bounds d (group s)) (indices d s)

-- The setting of a number, which the law `numbers_inverse` ties to the number of a setting: a field by its index.
abbrev pub polarity_at : ℕ → Polarity
polarity_at x = cond (eqb x 0) P N

abbrev pub macrocell_field_at : ℕ → MacrocellField
macrocell_field_at x =
    cond (ltb x 5) (Alloc x)
    (cond (ltb 21 x) (Hp (x - 22))
    (cond (eqb x 5) Inv
    (cond (eqb x 6) ImportUpAlloc
    (cond (eqb x 7) ImportDownAlloc
    (cond (eqb x 8) ExportDir
    (cond (eqb x 9) SumHp
    (cond (eqb x 10) IobOeMux
    (cond (eqb x 11) OeMux
    (cond (eqb x 12) OutMux
    (cond (eqb x 13) ClkMux
    (cond (eqb x 14) RegMode
    (cond (eqb x 15) RstMux
    (cond (eqb x 16) SetMux
    (cond (eqb x 17) Init
    (cond (eqb x 18) UimOeMux
    (cond (eqb x 19) UimOutInv
    (cond (eqb x 20) IobGnd IobSlew)))))))))))))))))

abbrev pub block_field_at : ℕ → BlockField
block_field_at x =
    cond (eqb x 0) Enable
    (cond (eqb x 1) ExportEnable
    (cond (eqb x 2) PullupDisable (cond (eqb x 3) ReadProtA (cond (eqb x 4) ReadProtB WriteProt))))

abbrev pub global_field_at : ℕ → ℕ → GlobalField
global_field_at count x =
    cond (eqb x 0) FsrInv
    (cond (ltb x 4) (FclkInv (x - 1))
    (cond (ltb x (4 + count)) (FoeInv (x - 4))
    (cond (ltb x (7 + count)) (FclkMux (x - (4 + count)))
    (cond (ltb x (7 + count + count)) (FoeMux (x - (7 + count))) Usercode))))

-- A setting by its group and its position there.
abbrev pub index : List ℕ → ℕ → ℕ
index [] i = 0
index (x ∷ xs) zero = x
index (x ∷ xs) (suc i) = index xs i

abbrev pub from_indices : Device → Group → List ℕ → Setting
from_indices d literals xs = Literal (index xs 0) (index xs 1) (index xs 2) (index xs 3) (polarity_at (index xs 4))
from_indices d wire_ands xs = WireAnd (index xs 0) (index xs 1) (index xs 2) (index xs 3)
from_indices d macrocell_settings xs = Macrocell (index xs 0) (index xs 1) (macrocell_field_at (index xs 2))
from_indices d block_settings xs = Block (index xs 0) (block_field_at (index xs 1))
from_indices d globals xs = Global (global_field_at (foes d) (index xs 0))

abbrev pub in_group : Device → Group → ℕ → Setting
in_group d g x = from_indices d g (at (bounds d g) x)

-- A setting by its number: the group whose numbers hold it.
abbrev pub from : Device → Group → ℕ → Setting
from d g x = in_group d g (x - start d g)

unfoldable pub setting_of : Device → ℕ → Setting
setting_of d x =
    cond (ltb x (start d wire_ands)) (from d literals x)
    (cond (ltb x (start d macrocell_settings)) (from d wire_ands x)
    (cond (ltb x (start d block_settings)) (from d macrocell_settings x)
    (cond (ltb x (start d globals)) (from d block_settings x) (from d globals x))))

-- The order, with no formula: the first index that differs decides; used on a setting's group followed by its indices.
abbrev pub earlier : (xs ys : List ℕ) → Bool
earlier [] ys = false
earlier (x ∷ xs) [] = false
earlier (x ∷ xs) (y ∷ ys) = ltb x y || (eqb x y && earlier xs ys)

abbrev pub before : Device → Setting → Setting → Bool
before d s t = earlier (rank (group s) ∷ indices d s) (rank (group t) ∷ indices d t)
