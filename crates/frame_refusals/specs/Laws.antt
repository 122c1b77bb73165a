-- What is proved of the definitions beside this folder: nothing here has to be believed.
pub mod RefusalLaws
pub mod RefusalNumberLaws
