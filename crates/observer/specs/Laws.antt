-- What is proved of the calls of an observer: nothing here has to be believed.
pub mod CallLaws
pub mod LogLaws
