-- What calls keep: sound books stay sound, and what is written is read.
pub mod WrittenRead
pub mod Equivocating
pub mod Keeping
pub mod KeptBytes
pub mod PacketKeeping
pub mod Refusals
pub mod BookBytes
pub mod Fields
pub mod Readable
pub mod Named
pub mod Reply
pub mod SettingStays
pub mod Grows
