-- What is declared has names of at most 16 bytes, so that the room for a line is a constant.
use Rattle.std.specs.Prelude.{ℕ, ◌≤◌, length}
use Rattle.history_text.specs.Types.{PathId, Pid, Tid}
use Rattle.history_text.specs.Names.{Names}
use Rattle.history_text.specs.Lookups.{path_word, procedure_word, process_word, thread_word}

pub record AreShort (names : Names) : Type 0 where
  pub processes : (process : Pid) → length (process_word names process) ≤ 16
  pub threads : (thread : Tid) → length (thread_word names thread) ≤ 16
  pub procedures : (entry : ℕ) → length (procedure_word names entry) ≤ 16
  pub paths : (path : PathId) → length (path_word names path) ≤ 16
