-- What is proved of the definitions beside this folder: nothing here has to be believed.
pub mod WitnessLaws
pub mod AllEditionsLaws
