-- Bytes put into a slice one part after another: what the proofs of the report work with.
-- Assumes nothing.
use Rattle.std.specs.Prelude.{ℕ, ◌+◌, ◌≡◌, List, length}
use Rattle.std.proofs.lemmas.List.Edits.{sets}

-- Some bytes put from an index on, and the index behind them.
pub record Put (before after : List ℕ) (at : ℕ) (bytes : List ℕ) (end : ℕ) : Type 0 where
  pub holds : after ≡ sets before at bytes
  pub ends : end ≡ at + length bytes
