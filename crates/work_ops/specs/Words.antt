-- The words of this crate's specs, from one place, for the crates above.
pub use Rattle.work_ops.specs.Digest.{digest_of, hex_byte, hex_text}
pub use Rattle.work_ops.specs.Ops.{TaskValue, output_of}
