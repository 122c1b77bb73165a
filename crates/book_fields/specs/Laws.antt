-- What is proved of the definitions beside this folder: nothing here has to be believed.
pub mod BookLaws
pub mod HeadLaws
pub mod ObserverBookLaws
pub mod SettingRowsLaws
pub mod WeightLaws
