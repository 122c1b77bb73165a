-- What each case of an answer means, document 01's numbers of a move, and what calls answer row by row.
pub mod Answers
pub mod MoveNumbers
pub mod Refusal
