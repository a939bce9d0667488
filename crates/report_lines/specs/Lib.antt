-- The definitions that the contracts of `report_lines` cite: the lines, and bytes put one part after another.
-- Assumes nothing.
pub mod ReportLines
pub mod Put
