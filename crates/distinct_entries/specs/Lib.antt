-- What the contracts of the distinct entries speak of.
pub mod Taking
