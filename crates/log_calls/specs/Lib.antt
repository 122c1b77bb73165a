-- What Submit, Register size and Read answer, row by row.
pub mod EntryKnown
pub mod Laws
