-- What the lines so far have come to.
use Rattle.std.specs.Prelude.{nat_le, nat_lt}
use Rattle.dk_base.specs.declared.limits.TheConstants.{CLOCK_MAX, EVENTS_MAX}
use Rattle.spec_kernel.specs.Words.{State}
use Rattle.spec_histories.specs.Histories.{Entry, History, begun, end, grown}
use Rattle.history_text.specs.declared.place.Place.{Place}
use Rattle.history_text.specs.declared.place.Stage.{Stage}
use Rattle.history_text.specs.declared.place.Stage.TheVariants.{Head, Body, Ended}
use Rattle.history_text.specs.Words.{Names, no_names}
use Rattle.history_check.specs.Openings.{opening_of_names}

-- the names, which lines may come, and the history that is told
pub record Reached : Type 0 where
  pub names : Names
  pub stage : Stage
  pub history : History

abbrev pub state_of : Reached → State
state_of r = end r.history

-- where the next line stands
abbrev pub place_of : Reached → Place
place_of r =
    record {
      stage = r.stage;
      late = nat_lt CLOCK_MAX (state_of r).channels.timers.clock;
      full = nat_le EVENTS_MAX (state_of r).events;
    }

-- after processes and children the history begins with what these declare
abbrev pub in_head : Names → Reached
in_head names = record { names = names; stage = Head; history = begun (opening_of_names names) }

-- before any line
abbrev pub at_start : Reached
at_start = in_head no_names

abbrev pub in_body : Reached → Names → Reached
in_body r names = record r { names = names; stage = Body }

abbrev pub with_entry : Reached → Names → Entry → Reached
with_entry r names e = record { names = names; stage = Body; history = grown r.history e }

abbrev pub at_end : Reached → Reached
at_end r = record r { stage = Ended }
