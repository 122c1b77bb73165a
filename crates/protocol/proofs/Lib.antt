-- What is proved of the definitions in specs/: nothing here has to be believed.
pub mod Laws
