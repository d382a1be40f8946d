-- The words of this crate's specs, from one place, for the crates above.
pub use Rattle.dk_base.specs.Errno.{errno_name}
pub use Rattle.dk_base.specs.Exact.{enum_exact, field_exact, last_exact, lists_exact, none_exact}
pub use Rattle.dk_base.specs.ExactParts.{attrs_exact, bytes_exact, flag_exact, mode_exact, number_exact, op_exact, param_exact, path_exact, poll_exact, process_exact, thread_exact}
pub use Rattle.dk_base.specs.Outside.{Rose}
pub use Rattle.dk_base.specs.Spare.{RoomValue}
pub use Rattle.dk_base.specs.ThreadSets.{IsFirst, has, members, with_thread}
