use Rattle.std.proofs.Common.{◌≡◌, ◌≤◌, ◌++◌, length, filter}
use Rattle.spec_records.specs.Words.{associations_of_row, is_of_other_row, numbers_of, ports_of}
use Rattle.port_assoc.specs.Words.{KeepsRoom}
use Rattle.port_assoc.proofs.assocs.Assocs.drop_fd.Given as goal

abbrev pub invariant-loop-a : goal.invariant-loop-a
invariant-loop-a l =
    (l.self.list.made ≡ l.initial.self.list.made)
    × (filter (is_of_other_row l.process.0 l.fd) l.self.list.associations ≡ filter (is_of_other_row l.process.0 l.fd) l.initial.self.list.associations)
    × (l.ports.items ++ ports_of (associations_of_row l.self.list.associations l.process.0 l.fd)
    ≡ l.initial.ports.items ++ ports_of (associations_of_row l.initial.self.list.associations l.process.0 l.fd))
    × (l.ids.items ++ numbers_of (associations_of_row l.self.list.associations l.process.0 l.fd)
    ≡ l.initial.ids.items ++ numbers_of (associations_of_row l.initial.self.list.associations l.process.0 l.fd))
    × (length l.self.list.associations ≤ l.ports.spare)
    × (length l.self.list.associations ≤ l.ids.spare)
    × KeepsRoom l.initial.self l.self

abbrev pub decreases-loop-a : goal.decreases-loop-a
decreases-loop-a l = length l.self.list.associations
