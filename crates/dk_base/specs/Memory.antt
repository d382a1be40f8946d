-- The source and the sink in memory.
use Rattle.std.specs.Prelude.{ℕ, ◌-◌, ◌==◌, min, Bool, ◌||◌, nat_le, if◌then◌else◌, List, [], ◌++◌, length, take, drop, Result, Ok, Err}
use Rattle.std.specs.List.{list_any}
use Rattle.dk_base.specs.declared.error.Failed.{Failed}
use Rattle.dk_base.specs.Outside.{one_more}

-- `piece` is the most that one read gives; `fail` has the numbers, from 1, of the reads that fail
pub record StoredSource : Type 0 where
  pub left : List ℕ
  pub piece : ℕ
  pub fail : List ℕ
  pub calls : ℕ
  pub faults : ℕ

-- `room` is the most that is held; `piece` is the most that one write takes; `fail` has the numbers of the writes that fail
pub record StoredSink : Type 0 where
  pub held : List ℕ
  pub room : ℕ
  pub piece : ℕ
  pub fail : List ℕ
  pub calls : ℕ
  pub faults : ℕ

abbrev pub failure : Failed
failure = record {}

abbrev pub is_listed : List ℕ → ℕ → Bool
is_listed fail call = list_any (λ n. n == call) fail

abbrev pub fresh_source : List ℕ → ℕ → List ℕ → StoredSource
fresh_source bytes piece fail = record { left = bytes; piece = piece; fail = fail; calls = 0; faults = 0 }

abbrev pub read_fails : StoredSource → Bool
read_fails s = is_listed s.fail (one_more s.calls)

-- how many bytes a read into this much room gives
abbrev pub read_count : StoredSource → ℕ → ℕ
read_count s room = min (min s.piece room) (length s.left)

abbrev pub read_answer : StoredSource → ℕ → Result ℕ Failed
read_answer s room = if read_fails s then Err failure else Ok (read_count s room)

abbrev pub source_after : StoredSource → ℕ → StoredSource
source_after s room =
    if read_fails s
    then record s { calls = one_more s.calls; faults = one_more s.faults }
    else record s { calls = one_more s.calls; left = drop (read_count s room) s.left }

abbrev pub buffer_after : StoredSource → List ℕ → List ℕ
buffer_after s buf =
    if read_fails s
    then buf
    else take (read_count s (length buf)) s.left ++ drop (read_count s (length buf)) buf

abbrev pub fresh_sink : ℕ → ℕ → List ℕ → StoredSink
fresh_sink room piece fail = record { held = []; room = room; piece = piece; fail = fail; calls = 0; faults = 0 }

abbrev pub write_fails : StoredSink → Bool
write_fails s = nat_le s.room (length s.held) || is_listed s.fail (one_more s.calls)

-- how many bytes a write of this many takes
abbrev pub write_count : StoredSink → ℕ → ℕ
write_count s n = min (min s.piece n) (s.room - length s.held)

abbrev pub write_answer : StoredSink → ℕ → Result ℕ Failed
write_answer s n = if write_fails s then Err failure else Ok (write_count s n)

abbrev pub sink_after : StoredSink → List ℕ → StoredSink
sink_after s bytes =
    if write_fails s
    then record s { calls = one_more s.calls; faults = one_more s.faults }
    else record s { calls = one_more s.calls; held = s.held ++ take (write_count s (length bytes)) bytes }
