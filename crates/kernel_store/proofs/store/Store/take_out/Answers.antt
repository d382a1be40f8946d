use Rattle.std.proofs.Common.{◌∙◌, rules}
use Rattle.dk_base.specs.declared.object.Obj.TheVariants as obj
use Rattle.spec_records.specs.Words.{objects_passed, table_in}
use Rattle.kernel_store.proofs.There.{there_fewer}
use Rattle.kernel_store.proofs.Waits.{no_port, passed_port}
use Rattle.kernel_store.proofs.store.Store.take_out.Goals as goal

pub invariant_of-self : goal.invariant_of-self
invariant_of-self c = (search rules, there_fewer c.self.inside.doors.items c.self.inside.held c.take_out.new.self c.self.invariant.1 c.take_out.ensures.references, search rules, search rules, c.self.invariant.4, c.note_references.ensures c.self.inside.held (λ none q. c.take_out.ensures.others (obj.Port q) (no_port (objects_passed (table_in c.self.inside.held.tables c.args.p.0) c.args.pass.now) (passed_port c.args.into.now.items (objects_passed (table_in c.self.inside.held.tables c.args.p.0) c.args.pass.now) c.slice.result.now c.has_port.result c.has_port.ensures (c.slice.ensures ∙ c.take_out.ensures.items) none) q)) c.self.invariant.5)

pub returns-clause-there : goal.returns-clause-there
returns-clause-there c = λ d none. rw (← c.self.view_is) (c.take_out.ensures.held (obj.Door d) (c.self.invariant.1 d none))
