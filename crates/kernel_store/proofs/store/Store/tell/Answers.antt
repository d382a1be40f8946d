use Rattle.std.proofs.Common.{List, ap, length, subst, sym, ◌∙◌}
use Rattle.law_channels.proofs.Told.{leaves_to_tell}
use Rattle.law_channels.specs.Ended.{empty_rows, timers_ended}
use Rattle.kernel_ports.specs.Words.{HasRoomToEnd}
use Rattle.spec_kernel.specs.Types.{Obj}
use Rattle.spec_records.specs.Words.{TimerList}
use Rattle.spec_kernel.specs.Words.{State, associations_in, fire, timers_in, with_channels}
use Rattle.kernel_store.specs.Stored.{stored_state}
use Rattle.kernel_store.specs.Telling.{AreNamed, closing_of}
use Rattle.kernel_store.proofs.Naming.{ended_lost, ended_timers, left_named}
use Rattle.kernel_store.proofs.Unended.{untimed}
use Rattle.kernel_store.proofs.store.Store.tell.Goals as goal

pub fire-requires-clause-named : goal.fire-requires-clause-named
fire-requires-clause-named c =
    let h = c.requires.told.3 in
    let n = stored_state c.args.self.now in
    let lost = c.end_closed.ensures.state ∙ ended_lost h in
    subst (λ (gone : List Obj). AreNamed (stored_state c.end_timers.new.self) c.args.pipe gone) (sym c.slice.ensures)
    (left_named c.requires.told.0 c.requires.told.1 c.requires.told.2 n (stored_state c.end_timers.new.self) c.args.pipe c.args.rooms.now.gone.items
    (leaves_to_tell c.requires.told.0 c.requires.told.1 c.requires.told.2 n h.unborn h.after h.told)
    (c.end_timers.ensures.state ∙ ap (λ (k : State). with_channels k (timers_ended k.channels (closing_of c.args.closed.now))) lost ∙ ended_timers h) h.readied h.gone)

pub returns-clause-state : goal.returns-clause-state
returns-clause-state c =
    let h = c.requires.told.3 in
    let lost = c.end_closed.ensures.state ∙ ended_lost h in
    c.fire.ensures.state
    ∙ ap fire (c.end_timers.ensures.state ∙ ap (λ (k : State). with_channels k (timers_ended k.channels (closing_of c.args.closed.now))) lost ∙ ended_timers h)

pub end_closed-requires : goal.end_closed-requires
end_closed-requires c = (length (timers_in (stored_state c.args.self.now)), c.requires.room)

pub end_timers-requires : goal.end_timers-requires
end_timers-requires c =
    let n = stored_state c.args.self.now in
    let same = ap (λ (k : State). k.channels.timers) c.end_closed.ensures.state ∙ untimed n.channels (empty_rows n (closing_of c.args.closed.now)) in (
      length (associations_in n),
      subst (λ (list : TimerList). HasRoomToEnd c.end_closed.new.ending (length (associations_in n)) (length list.timers)) (sym same)
          (c.end_closed.ensures.room (length (associations_in n)) (length (timers_in n)) c.requires.room),
    )
