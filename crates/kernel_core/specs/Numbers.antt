-- What the numbers that the kernel hands out need to fit.
use Rattle.std.specs.Prelude.{ℕ, ◌+◌, ◌<◌, ◌≤◌, ◌*◌, length}
use Rattle.spec_kernel.specs.Words.{State, port, port_at}
use Rattle.spec_kernel.specs.Types.{Fd}
use Rattle.unref_notice.specs.declared.counts.TheConstants.{STEP_MAX}
use Rattle.dk_base.specs.declared.limits.TheConstants.{EVENTS_MAX, USER_EVENTS_MAX}

-- another door, call, pipe, port, association, timer and event can be numbered, and a notice of each door; and it can be told how many events are queued at
-- a port
pub record HasNumbersLeft (m : State) : Type 0 where
  pub events : m.events < EVENTS_MAX
  pub doors : length m.doors < EVENTS_MAX
  pub calls : m.call_tree.made < EVENTS_MAX
  pub notices : m.notice_list.made ≤ STEP_MAX * EVENTS_MAX
  pub pipes : length m.channels.pipes < EVENTS_MAX
  pub ports : length m.channels.ports < EVENTS_MAX
  pub associations : m.channels.associations.made < EVENTS_MAX
  pub timers : m.channels.timers.made < EVENTS_MAX
  -- what names a port names one that was made
  pub named : (p : ℕ) (fd : Fd) → port_at m p fd ≤ length m.channels.ports
  pub queued : (q : ℕ) → length (port m q).queue ≤ USER_EVENTS_MAX + 2 * EVENTS_MAX
