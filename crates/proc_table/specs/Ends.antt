-- The end of a process together with all its threads.
use Rattle.std.specs.Prelude.{ℕ, ◌==◌, if◌then◌else◌, map}
use Rattle.spec_records.specs.declared.record.Thread.{Thread}
use Rattle.spec_records.specs.Words.{ProcessTable, end_process, ended_thread}

abbrev pub ended_where_of : ℕ → Thread → Thread
ended_where_of p x = if x.process.0 == p then ended_thread x else x

-- every thread of the process is Done, without an invocation, and the process does not live
abbrev pub end_proc : ProcessTable → ℕ → ProcessTable
end_proc table p = end_process (record table { threads = map (ended_where_of p) table.threads }) p
