-- What the contracts of the filter speak of.
pub mod Filter
