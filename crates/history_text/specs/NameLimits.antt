-- What names keep: each number has 32 bits, and a name at most 16 bytes.
use Rattle.std.specs.Prelude.{ℕ, ◌≡◌, ◌<◌, ◌&&◌, Bool, true, List, None, Option, Some, length, nat_le}
use Rattle.std.specs.List.{list_all}
use Rattle.history_text.specs.Types.{Member, NamedProcedure, NamedProcess, NamedThread}

abbrev pub is_short : List ℕ → Bool
is_short name = nat_le (length name) 16

abbrev pub is_short_given : Option (List ℕ) → Bool
is_short_given None = true
is_short_given (Some name) = is_short name

abbrev pub is_short_process : NamedProcess → Bool
is_short_process process = is_short process.declared && is_short_given process.given

abbrev pub is_short_thread : NamedThread → Bool
is_short_thread thread = is_short thread.declared && is_short_given thread.given

abbrev pub is_short_procedure : NamedProcedure → Bool
is_short_procedure procedure = is_short procedure.name

abbrev pub is_short_member : Member → Bool
is_short_member member = is_short member.name

pub record AreLimited (processes : List NamedProcess) (threads : List NamedThread) (procedures : List NamedProcedure) (paths : List (List ℕ)) : Type 0 where
  pub few_processes : length processes < 4294967295
  pub few_threads : length threads < 4294967295
  pub few_procedures : length procedures < 4294967295
  pub few_paths : length paths < 4294967295
  pub short_processes : list_all is_short_process processes ≡ true
  pub short_threads : list_all is_short_thread threads ≡ true
  pub short_procedures : list_all is_short_procedure procedures ≡ true
  pub short_paths : list_all is_short paths ≡ true
