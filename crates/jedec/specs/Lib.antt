-- What a JEDEC text means and what the writer writes, for any fuse count and line pattern: document 01, "Reading and
-- writing the text". Cutting, judging and rules have a module each.
pub mod Characters
pub mod Cut
pub mod Judge
pub mod Rules
pub mod Meaning
pub mod WrittenText
pub mod Form
pub mod Quoted
pub mod Cases
