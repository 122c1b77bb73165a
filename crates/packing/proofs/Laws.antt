-- What is proved of the definitions beside this folder: nothing here has to be believed.
pub mod PackingLaws
pub mod NumberedLaws
pub mod ReadBackLaws
pub mod FrameCountLaws
pub mod UnpackingLaws
pub mod ObserverPackingLaws
