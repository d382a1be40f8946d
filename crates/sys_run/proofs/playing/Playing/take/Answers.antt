use Rattle.std.proofs.Common.{arith, refl, ap, ◌∙◌}
use Rattle.std.proofs.lemmas.Option.{slice_get_read}
use Rattle.spec_events.specs.Words.{output_at}
use Rattle.sys_run.specs.Sys.{state_of_run, with_journal}
use Rattle.sys_run.specs.Playing.{first_events}
use Rattle.sys_run.proofs.FirstTurns.{can_turn, its_machine, so_far, told, told_same}
use Rattle.sys_run.proofs.Systems.{machine-stands}
use Rattle.sys_run.proofs.playing.Playing.take.Goals as goal

pub index_mut-machine-requires : goal.index_mut-machine-requires
index_mut-machine-requires c =
    let has = its_machine _ _ _ _ _ c.self.invariant (rw (← c.self.view_is) at c.requires) in omega (arith, has.place)

pub overflow_sub-t : goal.overflow_sub-t
overflow_sub-t c =
    let has = its_machine _ _ _ _ _ c.self.invariant (rw (← c.self.view_is) at c.requires) in omega (arith, has.first)

pub turn_with_room-requires : goal.turn_with_room-requires
turn_with_room-requires c =
    let next = rw (← c.self.view_is) at c.requires
    in let has = its_machine _ _ _ _ _ c.self.invariant next
    in let stands = c.self.invariant.kernel_stands
    in (
      first_events c.self.inside.script c.self.inside.kernel.events,
      can_turn _ _ _ _ _ _ _ c.self.invariant next (slice_get_read _ _ _ _ refl has.place c.index_mut-machine.ensures.value)
          (c.in_ok-output.ensures ∙ ap output_at (c.state.ensures.stands (state_of_run (so_far c.self.inside.script c.self.inside.kernel.events)) stands)),
    )

pub invariant_of-self : goal.invariant_of-self
invariant_of-self c =
    let next = rw (← c.self.view_is) at c.requires
    in let has = its_machine _ _ _ _ _ c.self.invariant next
    in
    (told_same _ _ _ _ _ _ _ _ c.self.invariant next c.in_err-turned.ensures.kernel_err c.in_err-turned.ensures.tables_err
    (c.in_err-turned.ensures.machine_err _
    (machine-stands _ _ _ _ _ _ _ c.self.invariant has (slice_get_read _ _ _ _ refl has.place c.index_mut-machine.ensures.value)))).stands

pub invariant_of-self-2 : goal.invariant_of-self-2
invariant_of-self-2 c =
    let next = rw (← c.self.view_is) at c.requires
    in let has = its_machine _ _ _ _ _ c.self.invariant next
    in let stands = c.self.invariant.kernel_stands
    in let can =
    can_turn _ _ _ _ _ _ _ c.self.invariant next (slice_get_read _ _ _ _ refl has.place c.index_mut-machine.ensures.value)
    (c.in_ok-output.ensures ∙ ap output_at (c.state.ensures.stands (state_of_run (so_far c.self.inside.script c.self.inside.kernel.events)) stands)) in
    (told _ _ _ _ _ _ _ _ _ c.self.invariant next (c.in_ok-turned.ensures.turned _ can)).stands

pub returns-clause-event : goal.returns-clause-event
returns-clause-event c =
    let next = rw (← c.self.view_is) at c.requires
    in let has = its_machine _ _ _ _ _ c.self.invariant next
    in let stands = c.self.invariant.kernel_stands
    in let can =
    can_turn _ _ _ _ _ _ _ c.self.invariant next (slice_get_read _ _ _ _ refl has.place c.index_mut-machine.ensures.value)
    (c.in_ok-output.ensures ∙ ap output_at (c.state.ensures.stands (state_of_run (so_far c.self.inside.script c.self.inside.kernel.events)) stands)) in
    rw (← c.self.view_is) (ap (with_journal c.self.inside.script) (told _ _ _ _ _ _ _ _ _ c.self.invariant next (c.in_ok-turned.ensures.turned _ can)).events)
