-- `macrocell_words` meets its contract: the words of each field.
-- Assumes nothing.
use mathlib.Core.Path.{refl}
use mathlib.Core.List.{append-nil}
use Rattle.cells.specs.Cells.{cut}
use Rattle.settings.specs.declared.MacrocellField.TheVariants.{Alloc, Inv, ImportUpAlloc, ImportDownAlloc, ExportDir, SumHp, IobOeMux, OeMux, OutMux, ClkMux}
use Rattle.settings.specs.declared.MacrocellField.TheVariants.{RegMode, RstMux, SetMux, Init, UimOeMux, UimOutInv, IobGnd, IobSlew, Hp}
use Rattle.names.specs.Names.{spaced, macrocell_parts}
use Rattle.names.proofs.Spelled.{words_same}
use Rattle.names.proofs.setting_names.macrocell_words.Goals as goal

pub returns-in-Alloc : goal.returns-in-Alloc
unfolding spaced cut
returns-in-Alloc c = words_same (λ f. spaced (macrocell_parts f)) _ (Alloc _) _ _ c.in-Alloc.is (simp append-nil) c.indexed_words.ensures

pub returns-in-Inv : goal.returns-in-Inv
unfolding spaced
returns-in-Inv c = words_same (λ f. spaced (macrocell_parts f)) _ Inv _ _ c.in-Inv.is refl c.words_of.ensures

pub returns-in-ImportUpAlloc : goal.returns-in-ImportUpAlloc
unfolding spaced
returns-in-ImportUpAlloc c =
    words_same (λ f. spaced (macrocell_parts f)) _ ImportUpAlloc _ _ c.in-ImportUpAlloc.is refl c.words_of-in-ImportUpAlloc.ensures

pub returns-in-ImportDownAlloc : goal.returns-in-ImportDownAlloc
unfolding spaced
returns-in-ImportDownAlloc c =
    words_same (λ f. spaced (macrocell_parts f)) _ ImportDownAlloc _ _ c.in-ImportDownAlloc.is refl c.words_of-in-ImportDownAlloc.ensures

pub returns-in-ExportDir : goal.returns-in-ExportDir
unfolding spaced
returns-in-ExportDir c = words_same (λ f. spaced (macrocell_parts f)) _ ExportDir _ _ c.in-ExportDir.is refl c.words_of-in-ExportDir.ensures

pub returns-in-SumHp : goal.returns-in-SumHp
unfolding spaced
returns-in-SumHp c = words_same (λ f. spaced (macrocell_parts f)) _ SumHp _ _ c.in-SumHp.is refl c.words_of-in-SumHp.ensures

pub returns-in-IobOeMux : goal.returns-in-IobOeMux
unfolding spaced
returns-in-IobOeMux c = words_same (λ f. spaced (macrocell_parts f)) _ IobOeMux _ _ c.in-IobOeMux.is refl c.words_of-in-IobOeMux.ensures

pub returns-in-OeMux : goal.returns-in-OeMux
unfolding spaced
returns-in-OeMux c = words_same (λ f. spaced (macrocell_parts f)) _ OeMux _ _ c.in-OeMux.is refl c.words_of-in-OeMux.ensures

pub returns-in-OutMux : goal.returns-in-OutMux
unfolding spaced
returns-in-OutMux c = words_same (λ f. spaced (macrocell_parts f)) _ OutMux _ _ c.in-OutMux.is refl c.words_of-in-OutMux.ensures

pub returns-in-ClkMux : goal.returns-in-ClkMux
unfolding spaced
returns-in-ClkMux c = words_same (λ f. spaced (macrocell_parts f)) _ ClkMux _ _ c.in-ClkMux.is refl c.words_of-in-ClkMux.ensures

pub returns-in-RegMode : goal.returns-in-RegMode
unfolding spaced
returns-in-RegMode c = words_same (λ f. spaced (macrocell_parts f)) _ RegMode _ _ c.in-RegMode.is refl c.words_of-in-RegMode.ensures

pub returns-in-RstMux : goal.returns-in-RstMux
unfolding spaced
returns-in-RstMux c = words_same (λ f. spaced (macrocell_parts f)) _ RstMux _ _ c.in-RstMux.is refl c.words_of-in-RstMux.ensures

pub returns-in-SetMux : goal.returns-in-SetMux
unfolding spaced
returns-in-SetMux c = words_same (λ f. spaced (macrocell_parts f)) _ SetMux _ _ c.in-SetMux.is refl c.words_of-in-SetMux.ensures

pub returns-in-Init : goal.returns-in-Init
unfolding spaced
returns-in-Init c = words_same (λ f. spaced (macrocell_parts f)) _ Init _ _ c.in-Init.is refl c.words_of-in-Init.ensures

pub returns-in-UimOeMux : goal.returns-in-UimOeMux
unfolding spaced
returns-in-UimOeMux c = words_same (λ f. spaced (macrocell_parts f)) _ UimOeMux _ _ c.in-UimOeMux.is refl c.words_of-in-UimOeMux.ensures

pub returns-in-UimOutInv : goal.returns-in-UimOutInv
unfolding spaced
returns-in-UimOutInv c = words_same (λ f. spaced (macrocell_parts f)) _ UimOutInv _ _ c.in-UimOutInv.is refl c.words_of-in-UimOutInv.ensures

pub returns-in-IobGnd : goal.returns-in-IobGnd
unfolding spaced
returns-in-IobGnd c = words_same (λ f. spaced (macrocell_parts f)) _ IobGnd _ _ c.in-IobGnd.is refl c.words_of-in-IobGnd.ensures

pub returns-in-IobSlew : goal.returns-in-IobSlew
unfolding spaced
returns-in-IobSlew c = words_same (λ f. spaced (macrocell_parts f)) _ IobSlew _ _ c.in-IobSlew.is refl c.words_of-in-IobSlew.ensures

pub returns-in-Hp : goal.returns-in-Hp
unfolding spaced cut
returns-in-Hp c = words_same (λ f. spaced (macrocell_parts f)) _ (Hp _) _ _ c.in-Hp.is (simp append-nil) c.indexed_words-in-Hp.ensures
