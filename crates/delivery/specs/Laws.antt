-- What is proved of the definitions beside this folder: nothing here has to be believed.
pub mod FrameReadLaws
pub mod JoinLaws
pub mod KeepLaws
pub mod KindLaws
pub mod NotarizeLaws
pub mod OutcomeLaws
