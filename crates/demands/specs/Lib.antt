-- The three demands on one page, and those on observers on a second one.
pub mod Demands
pub mod ObserverDemands
