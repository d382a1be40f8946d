-- One act makes at most one pipe, one port, one association and one timer, and moves the clock by a step at most.
use Rattle.std.proofs.Common.{◌≡◌, ℕ, ◌+◌, ◌≤◌, [], ◌∷◌, Option, Some, filter, length, map, arith}
use Rattle.std.proofs.lemmas.List.{length-append}
use Rattle.dk_base.specs.declared.limits.TheConstants.{ADVANCE_MAX}
use Rattle.spec_records.specs.Words.{associations_of, dues, events_found, has_key, new_pipe, new_port, port_of, user_event, with_alert, with_event, without_found, without_oldest, written}
use Rattle.spec_kernel.specs.Types.{Answer, Request}
use Rattle.spec_kernel.specs.Words.{ActResult, Channels, MayTurn, State, associations_in, key_at, object_at, pipe_at, port_at, process_of, take_found, timer_of}
use Rattle.spec_kernel.proofs.Moves.{IsMaking, IsPassing, Moves}
use Rattle.law_channels.proofs.Associations.{made_left}
use Rattle.law_channels.proofs.Bounds.{all_long, length-change_at_number}
use Rattle.law_channels.proofs.Queues.{length-withdraw_events}
use Rattle.law_channels.proofs.Timers.{length-tell_dues, length-without_queued}

pub record MakesFew (m : State) (c : Channels) : Type 0 where
  pub pipes : length c.pipes ≤ length m.channels.pipes + 1
  pub ports : length c.ports ≤ length m.channels.ports + 1
  pub associations : c.associations.made ≤ m.channels.associations.made + 1
  pub timers : c.timers.made ≤ m.channels.timers.made + 1
  pub clock : c.timers.clock ≤ m.channels.timers.clock + ADVANCE_MAX

pub taken_made : (c : Channels) (q max : ℕ) → (take_found c q max).associations.made ≡ c.associations.made
taken_made c q max = made_left (associations_of (events_found max (port_of c.ports q))) c.associations

passing_few : (m : State) (t : ℕ) (r : Request) (c : Channels) (a : Answer) → MayTurn m t (Some r) → IsPassing m t r c a → MakesFew m c
passing_few m t r c a may (IsPassing.writes fd bytes f) =
    record { pipes = omega (arith, length-change_at_number m.channels.pipes (pipe_at m (process_of m t) fd) (written bytes)); ports = omega arith; associations = omega arith; timers = omega arith; clock = omega arith }
passing_few m t r c a may (IsPassing.reads fd max f) =
    record { pipes = omega (arith, length-change_at_number m.channels.pipes (pipe_at m (process_of m t) fd) (without_oldest max)); ports = omega arith; associations = omega arith; timers = omega arith; clock = omega arith }
passing_few m t r c a may (IsPassing.sends fd events user f) =
    record {
      pipes = omega arith;
      ports = omega (arith, length-change_at_number m.channels.ports (port_at m (process_of m t) fd) (with_event (user_event events user)));
      associations = omega arith;
      timers = omega arith;
      clock = omega arith;
    }
passing_few m t r c a may (IsPassing.sends_each fds events user) =
    record { pipes = omega arith; ports = omega (arith, all_long m.channels.ports (map (object_at m (process_of m t)) fds) events user); associations = omega arith; timers = omega arith; clock = omega arith }
passing_few m t r c a may (IsPassing.alerts fd mode events user f) =
    record {
      pipes = omega arith;
      ports = omega (arith, length-change_at_number m.channels.ports (port_at m (process_of m t) fd) (with_alert events user));
      associations = omega arith;
      timers = omega arith;
      clock = omega arith;
    }
passing_few m t r c a may (IsPassing.gets fd wait f g) =
    record {
      pipes = omega arith;
      ports = omega (arith, length-change_at_number m.channels.ports (port_at m (process_of m t) fd) (without_found 1));
      associations = omega (arith, taken_made m.channels (port_at m (process_of m t) fd) 1);
      timers = omega arith;
      clock = omega arith;
    }
passing_few m t r c a may (IsPassing.gets_many fd max nget wait f z g) =
    record {
      pipes = omega arith;
      ports = omega (arith, length-change_at_number m.channels.ports (port_at m (process_of m t) fd) (without_found max));
      associations = omega (arith, taken_made m.channels (port_at m (process_of m t) fd) max);
      timers = omega arith;
      clock = omega arith;
    }
passing_few m t r c a may (IsPassing.associates port object events user f) =
    record {
      pipes = omega arith;
      ports = omega (arith, length-withdraw_events m.channels.ports (filter (has_key (key_at m (process_of m t) port object)) (associations_in m)));
      associations = omega arith;
      timers = omega arith;
      clock = omega arith;
    }
passing_few m t r c a may (IsPassing.dissociates port object f) =
    record {
      pipes = omega arith;
      ports = omega (arith, length-withdraw_events m.channels.ports (filter (has_key (key_at m (process_of m t) port object)) (associations_in m)));
      associations = omega arith;
      timers = omega arith;
      clock = omega arith;
    }
passing_few m t r c a may (IsPassing.creates_timer port user f) =
    record { pipes = omega arith; ports = omega arith; associations = omega arith; timers = omega arith; clock = omega arith }
passing_few m t r c a may (IsPassing.sets_timer id first interval f) =
    record {
      pipes = omega arith;
      ports = omega (arith, length-without_queued m.channels.ports (timer_of m.channels (process_of m t) id));
      associations = omega arith;
      timers = omega arith;
      clock = omega arith;
    }
passing_few m t r c a may (IsPassing.deletes_timer id f) =
    record {
      pipes = omega arith;
      ports = omega (arith, length-without_queued m.channels.ports (timer_of m.channels (process_of m t) id));
      associations = omega arith;
      timers = omega arith;
      clock = omega arith;
    }
passing_few m t r c a may (IsPassing.advances by) =
    record {
      pipes = omega arith;
      ports = omega (arith, length-tell_dues m.channels.ports (dues m.channels.timers by));
      associations = omega arith;
      timers = omega arith;
      clock = omega (arith, may.fit.1);
    }

pub move_few : (m : State) (t : ℕ) (q : Option Request) (a : ActResult) → MayTurn m t q → Moves m t q a → MakesFew m a.state.channels
move_few m t q a may (Moves.passes r c x e) = passing_few m t r c x may e
move_few m t q a may (Moves.makes_channel r c objects x (IsMaking.makes_pipe f)) =
    record { pipes = omega (arith, length-append m.channels.pipes (new_pipe (length m.channels.pipes + 1) ∷ [])); ports = omega arith; associations = omega arith; timers = omega arith; clock = omega arith }
move_few m t q a may (Moves.makes_channel r c objects x (IsMaking.makes_port f)) =
    record { pipes = omega arith; ports = omega (arith, length-append m.channels.ports (new_port (length m.channels.ports + 1) ∷ [])); associations = omega arith; timers = omega arith; clock = omega arith }
move_few m t q a may (Moves.retrieves port max nget one e) =
    record {
      pipes = omega arith;
      ports = omega (arith, length-change_at_number m.channels.ports port (without_found max));
      associations = omega (arith, taken_made m.channels port max);
      timers = omega arith;
      clock = omega arith;
    }
move_few m t q a may _ = record { pipes = omega arith; ports = omega arith; associations = omega arith; timers = omega arith; clock = omega arith }
