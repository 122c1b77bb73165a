-- What the contracts of linking speak of.
pub mod Parent
