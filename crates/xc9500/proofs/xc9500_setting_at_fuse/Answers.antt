-- `xc9500_setting_at_fuse` meets its contract: a device with a setting at a fuse is known, and has the setting.
-- Assumes nothing.
use mathlib.Core.Path.{◌≡◌, sym, ◌∙◌, ap}
use mathlib.Core.Bool.{true}
use Prim.Native.Nat.{ℕ}
use Rattle.std.specs.Prelude.{Result, Option, Ok, Some}
use borrow.Author.Rules.{rules}
use Rattle.part.specs.Device.{device, known}
use Rattle.part.specs.declared.Device.{Device}
use Rattle.part.specs.declared.Refusal.{Refusal}
use Rattle.settings.specs.Settings.{has_setting}
use Rattle.fuse_settings.specs.Answer.{named_outcome}
use Rattle.fuse_settings.specs.Operations.{setting_at_fuse}
use Rattle.fuse_settings.specs.declared.SettingBit.{SettingBit}
use Rattle.fuse_settings.proofs.Laws.{at_fuse_has}
use Rattle.xc9500.proofs.xc9500_setting_at_fuse.Goals as goal

there : (a : Result (Option SettingBit) Refusal) (d : Device) (f : ℕ) (x : SettingBit)
    → named_outcome a ≡ setting_at_fuse d f → a ≡ Ok (Some x)
    → (known d ≡ true) × (has_setting d x.setting ≡ true)
there a d f x e g = at_fuse_has d f x.setting x.bit (sym e ∙ ap named_outcome g)

its : (c : goal.In-Ok-Some) → (known (device c.args.blocks c.args.class) ≡ true)
    × (has_setting (device c.args.blocks c.args.class) c.in-Ok-Some.named.setting ≡ true)
its c =
    there c.setting_at_fuse.result _ _ c.in-Ok-Some.named c.setting_at_fuse.ensures
    (c.in-Ok-Some.is ∙ ap Ok c.in-Ok-Some.field-0-is)

pub invariant_of-number_of : goal.invariant_of-number_of
invariant_of-number_of c = record { is_known = (its c).0 }

pub invariant_of-number_of-in-Ok-Some : goal.invariant_of-number_of-in-Ok-Some
invariant_of-number_of-in-Ok-Some c = search (rules, its)
