-- The greatest numbers of 32 and 64 bits.
use Rattle.std.specs.Prelude.{ℕ}

abbrev pub greatest_32 : ℕ
greatest_32 = 4294967295

abbrev pub greatest_64 : ℕ
greatest_64 = 18446744073709551615
