use Rattle.std.proofs.Common.{ap, ◌∙◌, rules}
use Rattle.kernel_store.proofs.There.{there_more}
use Rattle.kernel_store.proofs.Waits.{others_kept}
use Rattle.std.specs.List.{list_any}
use Rattle.kernel_store.specs.Turning.{is_port}
use Rattle.kernel_store.proofs.store.Store.install.Goals as goal

pub invariant_of-self : goal.invariant_of-self
invariant_of-self c = (search rules, there_more c.self.inside.doors.items c.self.inside.held c.install-fds.new.self c.args.objects.now c.self.invariant.1 (rw (← c.self.view_is) at c.requires.can_hold.there) c.install-fds.ensures.references, search rules, search rules, c.self.invariant.4, c.note_references.ensures c.self.inside.held (others_kept c.self.inside.held c.install-fds.new.self c.args.objects.now c.has_port.result (c.has_port.ensures ∙ ap (list_any is_port) c.slice.ensures) c.install-fds.ensures.others) c.self.invariant.5)
