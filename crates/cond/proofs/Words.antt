-- The words that the code hands on while it reads: what each step makes of them.
pub mod Marks
pub mod Copy
pub mod Items
pub mod Readers
pub mod Answers
