pub mod FrameRows
pub mod Writes
pub mod KindNumbers
