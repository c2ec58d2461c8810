-- What the code's functions yield is what the definitions say.
pub mod Filling
pub mod Answering
pub mod Texts
