-- Laws of bytes, runs of digits, numbers and words that other crates' proofs cite, from the files that prove them.
pub use Rattle.text.proofs.Bytes.{inside, byte_past, digit-is}
pub use Rattle.text.proofs.Items.{has-none}
pub use Rattle.text.proofs.Numbers.Ended.{number-none, number_zero, number_more, ended_no, ended_yes}
pub use Rattle.text.proofs.Numbers.Runs.{Going, going_start, going_below, going_room, going_stop, going_full, going_on}
