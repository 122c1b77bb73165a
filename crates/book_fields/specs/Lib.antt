-- What the contracts of a book's fields speak of, and laws about it.
pub mod Kinds
pub mod Book
pub mod Numbered
pub mod Setting
pub mod Laws
