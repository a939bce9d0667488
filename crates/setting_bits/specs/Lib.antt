-- The definitions that the contracts of `setting_bits` cite.
-- Assumes nothing.
pub mod SettingBits
