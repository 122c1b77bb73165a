-- Lists of calls that meet every premise of demand 3, beside those of `agreement`, which no edit of the claim needs.
pub mod Witness
pub mod AllEditions
pub mod Laws
