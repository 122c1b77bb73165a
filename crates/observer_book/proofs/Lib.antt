pub mod ObserverWrites
