use Rattle.std.proofs.Common.{◌≡◌, List, drop, filter}
use Rattle.law_channels.specs.Ended.{rows_ended}
use Rattle.spec_records.specs.Words.{Pipe}
use Rattle.kernel_store.specs.Telling.{channels_in, is_empty_in}
use Rattle.kernel_store.proofs.telling.end_empty.Given as goal

abbrev pub invariant-loop-fd : goal.invariant-loop-fd
invariant-loop-fd l =
    (pipes : List Pipe) →
    rows_ended (channels_in pipes l.ports) l.process.0 (filter (is_empty_in l.fn.held.tables l.process.0) (drop l.fd-index l.fds))
    ≡ rows_ended (channels_in pipes l.fn.ports) l.process.0 (filter (is_empty_in l.fn.held.tables l.process.0) l.fds)
