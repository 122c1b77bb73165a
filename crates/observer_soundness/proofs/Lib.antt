pub mod ObserverTests
