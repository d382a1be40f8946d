-- Data as a trace shows it: in quotes as in a script, or by its length and digest.
use Rattle.std.specs.Prelude.{ℕ, nat_le, if◌then◌else◌, List, ◌++◌, length, codes, decimal}
use Rattle.line_text.specs.Words.{quoted_text}
use Rattle.work_ops.specs.Words.{digest_of}

-- `sha256:LENGTH:DIGEST`
abbrev pub digest_text : List ℕ → List ℕ
digest_text bytes = codes "sha256:" ++ decimal (length bytes) ++ codes ":" ++ digest_of bytes

-- at most 64 bytes are shown, more are named by their digest
abbrev pub data_text : List ℕ → List ℕ
data_text bytes = if nat_le (length bytes) 64 then quoted_text bytes else digest_text bytes
