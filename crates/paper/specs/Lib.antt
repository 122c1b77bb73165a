-- The paper's blockchains and five steps, the register that they make, and that nothing idles.
pub mod Paper
pub mod Idle
pub mod Blockchains
pub mod Register
pub mod Steps
pub mod Timer
pub mod Observing
