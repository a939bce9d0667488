-- The laws about states taken several at a time.
-- Assumes nothing.
pub mod Words
pub mod LowestBits
pub mod StatesWritten
pub mod StatesTaken
pub mod BitsJoined
