use Rattle.std.proofs.Common.{◌≡◌, ◌++◌, ◌∙◌, ap, rules, sym}
use Rattle.std.proofs.lemmas.List.{append-nil}
use Rattle.spec_records.specs.Words.{associations_of, new_port, port_of, records_of}
use Rattle.event_port.proofs.Changed.{no_events, no_port_read}
use Rattle.event_port.proofs.ports.Ports.take_found.Goals as goal

pub returns-in_default-clause-records : goal.returns-in_default-clause-records
returns-in_default-clause-records c =
    let gone : port_of c.args.self.now.ports c.args.p ≡ new_port 0 = search (rules, no_port_read) in
    let none = no_events c.args.max (port_of c.args.self.now.ports c.args.p) gone in
    sym (ap (λ qs. c.args.into.now.items ++ records_of qs) none ∙ append-nil c.args.into.now.items)

pub returns-in_default-clause-numbers : goal.returns-in_default-clause-numbers
returns-in_default-clause-numbers c =
    let gone : port_of c.args.self.now.ports c.args.p ≡ new_port 0 = search (rules, no_port_read) in
    let none = no_events c.args.max (port_of c.args.self.now.ports c.args.p) gone in
    sym (ap (λ qs. c.args.ids.now.items ++ associations_of qs) none ∙ append-nil c.args.ids.now.items)
