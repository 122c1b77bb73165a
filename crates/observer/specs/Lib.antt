-- Laws about the calls of an observer; what their contracts speak of stands in `protocol` and `answers`.
pub mod Laws
