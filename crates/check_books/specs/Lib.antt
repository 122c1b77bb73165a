-- What the checks of the definitions compute on: books, states and calls as numbers.
pub mod CheckCalls
pub mod CheckStates
pub mod CheckObservers
