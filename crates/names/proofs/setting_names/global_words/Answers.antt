-- `global_words` meets its contract: the words of each field.
-- Assumes nothing.
use mathlib.Core.Path.{refl}
use mathlib.Core.List.{◌∷◌}
use Rattle.cells.specs.Cells.{cut}
use Rattle.settings.specs.declared.GlobalField.TheVariants.{FclkInv, FoeInv, FclkMux, FoeMux}
use Rattle.jedec.specs.Characters.{space}
use Rattle.names.specs.Names.{global_field_name}
use Rattle.names.proofs.Spelled.{words_same}
use Rattle.names.proofs.setting_names.global_words.Goals as goal

pub returns-in-FclkInv : goal.returns-in-FclkInv
unfolding cut
returns-in-FclkInv c = words_same (λ f. space ∷ global_field_name f) _ (FclkInv _) _ _ c.in-FclkInv.is refl c.indexed_words.ensures

pub returns-in-FoeInv : goal.returns-in-FoeInv
unfolding cut
returns-in-FoeInv c = words_same (λ f. space ∷ global_field_name f) _ (FoeInv _) _ _ c.in-FoeInv.is refl c.indexed_words-in-FoeInv.ensures

pub returns-in-FclkMux : goal.returns-in-FclkMux
unfolding cut
returns-in-FclkMux c =
    words_same (λ f. space ∷ global_field_name f) _ (FclkMux _) _ _ c.in-FclkMux.is refl c.indexed_words-in-FclkMux.ensures

pub returns-in-FoeMux : goal.returns-in-FoeMux
unfolding cut
returns-in-FoeMux c = words_same (λ f. space ∷ global_field_name f) _ (FoeMux _) _ _ c.in-FoeMux.is refl c.indexed_words-in-FoeMux.ensures
