-- What ports are told after an act: first associations end whose descriptor names their object no more, in whatever way its row was
-- closed, and timers whose process lives no more, in whatever way it ended; then associations that are armed fire, in order, where their
-- object is ready for what they ask, or for err or hup. All of them are looked at after each event.
use Rattle.std.specs.Prelude.{List}
use Rattle.dk_base.specs.declared.set.PollSet.{PollSet}
use Rattle.spec_kernel.specs.Types.{Obj}
use Rattle.spec_records.specs.declared.association.Association.{Association}
use Rattle.spec_records.specs.declared.timer.Timer.{Timer}
use Rattle.spec_records.specs.Words.{all_fired, associations_that_lost, end_closed, end_timers_of_ended, fire_all, post_fired, ready_object, timers_of_ended, withdraw_events, withdraw_timers}
use Rattle.spec_kernel.specs.State.{State, is_live_process, timers_in, with_channels}
use Rattle.spec_kernel.specs.References.{references_of}

-- those that have not ended, in order of number
abbrev pub associations_in : State → List Association
associations_in m = m.channels.associations.associations

-- what an object is ready for
abbrev pub ready_at : State → Obj → PollSet
ready_at m = ready_object m.channels.pipes (references_of m)

abbrev pub lost_associations : State → List Association
lost_associations m = associations_that_lost m.tables (associations_in m)

abbrev pub end_lost : State → State
end_lost m =
    with_channels m
    (record m.channels {
      ports = withdraw_events m.channels.ports (lost_associations m);
      associations = end_closed m.tables m.channels.associations;
    })

abbrev pub lost_timers : State → List Timer
lost_timers m = timers_of_ended (is_live_process m) (timers_in m)

abbrev pub end_timers : State → State
end_timers m =
    with_channels m
    (record m.channels {
      ports = withdraw_timers m.channels.ports (lost_timers m);
      timers = end_timers_of_ended (is_live_process m) m.channels.timers;
    })

abbrev pub fire : State → State
fire m =
    with_channels m
    (record m.channels {
      ports = post_fired m.channels.ports (all_fired (ready_at m) (associations_in m));
      associations = fire_all m.channels.associations (ready_at m);
    })

abbrev pub tell : State → State
tell m = fire (end_timers (end_lost m))
