-- The definitions that the contracts of `patterns` cite: the pattern of each value is determined by the laws
-- `pattern_iff` and `no_pattern_iff`.
pub mod Patterns
