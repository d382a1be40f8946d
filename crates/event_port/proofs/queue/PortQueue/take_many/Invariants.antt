use Rattle.std.proofs.Common.{◌≡◌, ◌+◌, ◌≤◌, ◌++◌, length, take}
use Rattle.spec_records.specs.Words.{associations_of, records_of}
use Rattle.event_port.specs.Words.{without_oldest}
use Rattle.event_port.proofs.queue.PortQueue.take_many.Given as goal

abbrev pub invariant-loop : goal.invariant-loop
invariant-loop l =
    (l.self.port ≡ without_oldest l.counter l.initial.self.port)
    × (l.into.items ≡ l.initial.into.items ++ records_of (take l.counter l.initial.self.port.queue))
    × (l.ids.items ≡ l.initial.ids.items ++ associations_of (take l.counter l.initial.self.port.queue))
    × (l.initial.self.room ≤ l.self.room)
    × (l.initial.self.room + length l.initial.self.port.queue ≤ l.self.room + length l.self.port.queue)
    × (l.initial.into.spare ≤ l.into.spare + l.counter)
    × (l.initial.ids.spare ≤ l.ids.spare + l.counter)
