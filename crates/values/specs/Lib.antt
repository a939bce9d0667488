-- The definitions that the contracts of `values` cite: those to believe, which say what each pattern stands for.
-- Assumes nothing.
pub mod Values
pub mod Words
