-- What the functions for C write and answer.
pub mod Written
pub mod DigestCall
