pub mod Page
pub mod Loop
