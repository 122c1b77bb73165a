-- What observers' calls keep and refuse, what they read of what replicas write, and that a replica and an observer who
-- hear the same certificates read the same log.
pub mod Refusing
pub mod Twins
pub mod TwinsMet
pub mod CertificatesRead
pub mod ObserverOpened
pub mod ObserverKeeping
