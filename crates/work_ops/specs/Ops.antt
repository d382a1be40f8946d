-- What each op makes of its input.
use Rattle.std.specs.Prelude.{ℕ, List, decimal, map, reverse, sum}
use Rattle.std.specs.Char.{to_ascii_uppercase}
use Rattle.dk_base.specs.declared.request.Op.{Op}
use Rattle.dk_base.specs.declared.request.Op.TheVariants as op
use Rattle.work_ops.specs.Digest.{digest_of}

-- a task: its op, and the bytes that it is for
pub record TaskValue : Type 0 where
  pub op : Op
  pub input : List ℕ

-- a to z become A to Z; the last first; the sum of the bytes in decimal; their SHA-256 in lower case hexadecimal
abbrev pub output_of : Op → List ℕ → List ℕ
output_of op.Upper bytes = map to_ascii_uppercase bytes
output_of op.Reverse bytes = reverse bytes
output_of op.Sum bytes = decimal (sum bytes)
output_of op.Digest bytes = digest_of bytes
