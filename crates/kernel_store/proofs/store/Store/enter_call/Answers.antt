use Rattle.dk_base.specs.declared.object.Item.TheVariants as item
use Rattle.kernel_store.proofs.Knowing.{entered_still, knows_changed}
use Rattle.std.proofs.Common.{ap, ◌∙◌}
use Rattle.law_calls.proofs.Backing.{call_entered, some_call}
use Rattle.kernel_store.proofs.Acts.{entered, state_is}
use Rattle.kernel_store.proofs.There.{held_there, there_fewer}
use Rattle.kernel_store.proofs.Waits.{entered_gets_not, others_kept, waits_changed}
use Rattle.std.specs.List.{list_any}
use Rattle.kernel_store.specs.Turning.{is_port}
use Rattle.kernel_store.proofs.store.Store.enter_call.Goals as goal

pub invariant_of-self : goal.invariant_of-self
invariant_of-self c =
    let x = some_call _ (rw (← c.self.view_is) at c.requires.there) in
    rw (c.enter_call-args.ensures.same, c.enter.ensures, c.enter_call-args.ensures.calls) (
      entered c.self.invariant.0 c.self.view_is c.args.c c.args.t.0 c.requires.given,
      rw (c.enter_call-args.ensures.same, c.enter_call-args.ensures.calls) at (there_fewer c.self.inside.doors.items c.self.inside.held c.enter_call-args.new.self c.self.invariant.1 c.enter_call-args.ensures.references),
      call_entered c.self.inside.processes c.self.inside.held.calls.tree c.self.invariant.0.calls c.self.invariant.2 c.args.c c.args.t.0
          (state_is c.self.invariant.0 c.self.view_is c.args.t.0 ∙ c.requires.given) x.0 x.1,
      knows_changed c.self.inside.processes c.args.t.0 _ (entered_still (item.Call c.args.c)) c.self.invariant.3,
      c.self.invariant.4,
      waits_changed c.self.inside.processes c.args.t.0 _ (entered_gets_not (item.Call c.args.c))
          (rw (c.enter_call-args.ensures.same, c.enter_call-args.ensures.calls) at (c.note_references.ensures c.self.inside.held (others_kept c.self.inside.held c.enter_call-args.new.self c.enter_call-args.result.objects c.has_port.result (c.has_port.ensures ∙ ap (list_any is_port) c.slice.ensures) c.enter_call-args.ensures.others) c.self.invariant.5)),
    )

pub returns-clause-there : goal.returns-clause-there
returns-clause-there c = held_there c.self.inside.doors.items c.self.inside.held c.enter_call-args.result.objects c.self.invariant.1 c.enter_call-args.ensures.held
