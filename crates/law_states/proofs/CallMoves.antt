-- The atomic changes of the core that concern a call: it is made, given, entered, ended, returned and collected, and its thread may
-- return without it. Each keeps what holds of a core.
use Rattle.std.specs.Prelude.{ℕ, ◌≡◌, ◌+◌, List, Bool, true, false, Some, None}
use Rattle.std.proofs.Common.{refl}
use native.Mathlib.Omega.{arith}
use Rattle.std.proofs.lemmas.Bool.Decides.{nat_tests}
use Rattle.dk_base.specs.declared.object.Item.TheVariants as item
use Rattle.spec_records.specs.declared.record.ThreadState.TheVariants as is
use Rattle.spec_kernel.specs.Types.{Call, Errno, Obj, ThreadState}
use Rattle.spec_records.specs.declared.record.CallStage.TheVariants as stage
use Rattle.spec_records.specs.declared.pool.TheConstants.{LOST_DOOR}
use Rattle.spec_records.specs.Words.{at_stage, is_idle, is_to_collect, is_valid_in, new_invocation, no_cancel_of, tid, without_arguments_at}
use Rattle.law_states.specs.Records.{item_in, owner_in}
use Rattle.law_states.specs.Core.{Core, abandoned_in}
use Rattle.law_states.specs.Coherent.{IsCoherent, bound_for}
use Rattle.law_states.proofs.Cores.{set_role, set_serves, set_call, set_new_call}
use Rattle.law_states.proofs.Parts.{at_doors_move, at_doors_set, bindings_turn, fit_turn, calls_move, calls_set, notices_serve, notices_turn, processes_turn, servers_move, servers_turn, waits_turn}

-- a new call of a running thread waits at a valid door
abbrev pub with_call_of : Core → ℕ → Call → Core
with_call_of k t r = set_role (set_new_call k r) t (is.Calling r.number)

pub record Calls (k : Core) (t : ℕ) (r : Call) : Type 0 where
  pub running : k.role t ≡ is.Running
  pub number : r.number ≡ k.made + 1
  pub caller : r.caller.0 ≡ t
  pub kept : r.abandoned ≡ false
  pub queued : r.stage ≡ stage.Queued
  pub no_cancel : r.no_cancel ≡ no_cancel_of (k.door r.door)
  pub valid : is_valid_in (k.door r.door) ≡ true

pub call_keeps : (k : Core) (t : ℕ) (r : Call) → IsCoherent k → Calls k t r → IsCoherent (with_call_of k t r)
call_keeps k t r h p =
    record {
      waits =
          record {
            given = λ c v e. grind (arith, nat_tests, h.waits.given c v);
            given_back = λ c v e. grind (arith, nat_tests, h.waits.given_back c v, h.calls.unmade c);
            caller = λ c v e. grind (arith, nat_tests, h.waits.caller c v, h.waits.live c v, h.calls.unmade c);
            live = λ c v e. grind (arith, nat_tests, h.waits.live c v, h.calls.unmade c);
            calling = λ c e. grind (arith, nat_tests, h.waits.calling c);
          };
      invocations =
          record {
            entered = λ c v e. grind (arith, nat_tests, h.invocations.entered c v);
            entered_back = λ c v e f. grind (arith, nat_tests, h.invocations.entered_back c v, h.servers.served_made c v);
            kept = λ c e. grind (arith, nat_tests, h.invocations.kept c);
          };
      notices_given = notices_turn t _ h.notices_given (grind arith) refl;
      notices_entered = h.notices_entered;
      notices_at_doors = h.notices_at_doors;
      servers =
          record {
            outside = λ v e. grind (arith, nat_tests, h.servers.outside v);
            below = λ c d v e f. grind (arith, nat_tests, h.servers.below c d v, h.servers.served_made c v);
            served_made = λ c v e. grind (arith, nat_tests, h.servers.served_made c v);
          };
      calls =
          record {
            arguments = λ c x e f. grind (arith, nat_tests, h.calls.arguments c x);
            call_number = λ c x e. grind (arith, nat_tests, h.calls.call_number c x);
            unmade = λ c e. grind (arith, nat_tests, h.calls.unmade c);
          };
      at_doors =
          at_doors_set r.number r h.at_doors (grind (arith, p.valid)) p.no_cancel (λ e. p.valid) (λ u e. grind (arith, p.queued))
          (λ u e. grind (arith, p.queued))
          (λ u e. grind (arith, p.queued));
      doors = h.doors;
      bindings = bindings_turn t _ h.bindings (λ e. absurd (grind arith));
      processes = processes_turn t _ h.processes (grind arith) (grind (arith, p.running, h.processes.unborn_dormant t));
      threads = h.threads;
      has_fit_state = fit_turn t _ h refl;
    }

-- a waiting call is given to an idle thread of its door's pool
abbrev pub given_core : Core → Call → ℕ → Core
given_core k r u = set_role (set_call k r.number (at_stage (stage.Given (tid u)) r)) u (is.Given (item.Call r.number))

pub record Gives (k : Core) (r : Call) (u : ℕ) : Type 0 where
  pub since : ℕ
  pub idle : k.role u ≡ is.Idle since
  pub found : k.call r.number ≡ Some r
  pub queued : r.stage ≡ stage.Queued
  pub owner : owner_in (k.door r.door) ≡ Some (k.process u)
  pub bound : k.bound u ≡ bound_for r.door (k.door r.door)

pub give_keeps : (k : Core) (r : Call) (u : ℕ) → IsCoherent k → Gives k r u → IsCoherent (given_core k r u)
give_keeps k r u h p =
    record {
      waits =
          record {
            given = λ c v e. grind (arith, nat_tests, h.waits.given c v);
            given_back = λ c v e. grind (arith, nat_tests, h.waits.given_back c v);
            caller = λ c v e. grind (arith, nat_tests, h.waits.caller c v);
            live = λ c v e. grind (arith, nat_tests, h.waits.live c v);
            calling = λ c e. grind (arith, nat_tests, h.waits.calling c);
          };
      invocations =
          record {
            entered = λ c v e. grind (arith, nat_tests, h.invocations.entered c v);
            entered_back = λ c v e f. grind (arith, nat_tests, h.invocations.entered_back c v);
            kept = λ c e. grind (arith, nat_tests, h.invocations.kept c);
          };
      notices_given = notices_turn u _ h.notices_given (grind (arith, p.idle)) refl;
      notices_entered = h.notices_entered;
      notices_at_doors = h.notices_at_doors;
      servers = servers_turn u _ h.servers (λ e. h.servers.outside u (grind (arith, p.idle))) refl;
      calls = calls_set r _ h.calls p.found refl (λ e. grind arith);
      at_doors =
          at_doors_set r.number _ h.at_doors (h.at_doors.door_there r.number r p.found) (h.at_doors.no_cancel r.number r p.found)
          (λ e. grind arith) (λ v e. grind (arith, p.owner)) (λ v e. grind (arith, p.bound)) (λ v e. grind arith);
      doors = h.doors;
      bindings = bindings_turn u _ h.bindings (λ e. absurd (grind arith));
      processes = processes_turn u _ h.processes (grind (arith, p.idle)) (grind (arith, p.idle, h.processes.unborn_dormant u));
      threads = h.threads;
      has_fit_state = fit_turn u _ h refl;
    }

-- a thread enters the call that it was given
abbrev pub entered_core : Core → ℕ → Call → Core
entered_core k t r =
    set_role (set_serves (set_call k r.number (without_arguments_at (stage.Entered (tid t)) r)) t (Some (new_invocation (item.Call r.number)))) t is.Running

pub enter_keeps :
    (k : Core) (t : ℕ) (r : Call) → IsCoherent k → k.call r.number ≡ Some r → k.role t ≡ is.Given (item.Call r.number) →
    IsCoherent (entered_core k t r)
enter_keeps k t r h q g =
    record {
      waits =
          record {
            given = λ c v e. grind (arith, nat_tests, h.waits.given c v);
            given_back = λ c v e. grind (arith, nat_tests, h.waits.given_back c v, h.waits.given_back r.number t);
            caller = λ c v e. grind (arith, nat_tests, h.waits.caller c v);
            live = λ c v e. grind (arith, nat_tests, h.waits.live c v);
            calling = λ c e. grind (arith, nat_tests, h.waits.calling c, h.waits.given_back r.number t);
          };
      invocations =
          record {
            entered = λ c v e. grind (arith, nat_tests, h.invocations.entered c v, h.servers.outside t);
            entered_back = λ c v e f. grind (arith, nat_tests, h.invocations.entered_back c v, h.waits.given_back r.number t);
            kept = λ c e. grind (arith, nat_tests, h.invocations.kept c, h.waits.given_back r.number t);
          };
      notices_given = notices_turn t _ h.notices_given (grind arith) refl;
      notices_entered =
          notices_serve t _ h.notices_entered (λ n e. grind (arith, h.servers.outside t)) (λ n e. grind arith);
      notices_at_doors = h.notices_at_doors;
      servers = servers_move t _ _ h.servers (λ e. grind arith) refl (λ c e. grind (arith, h.calls.unmade r.number));
      calls = calls_move r _ h.calls q;
      at_doors =
          at_doors_set r.number _ h.at_doors (h.at_doors.door_there r.number r q) (h.at_doors.no_cancel r.number r q) (λ e. grind arith)
          (λ u e. grind arith)
          (λ u e. grind arith)
          (λ u e. grind (arith, h.at_doors.given_owner r.number t, h.waits.given_back r.number t));
      doors = h.doors;
      bindings = bindings_turn t _ h.bindings (λ e. absurd (grind arith));
      processes = processes_turn t _ h.processes (grind arith) (grind (arith, h.processes.unborn_dormant t));
      threads = h.threads;
      has_fit_state = fit_turn t _ h refl;
    }

-- a thread cannot enter the call that it was given: the call ends, and the thread is parked
abbrev pub failed_core : Core → ℕ → Call → Errno → ℕ → Core
failed_core k t r e since =
    set_role (set_serves (set_call k r.number (without_arguments_at (stage.Ended e) r)) t None) t (is.Idle since)

pub fail_keeps :
    (k : Core) (t : ℕ) (r : Call) (e : Errno) (since : ℕ) → IsCoherent k → k.call r.number ≡ Some r →
    k.role t ≡ is.Given (item.Call r.number) → IsCoherent (failed_core k t r e since)
fail_keeps k t r x since h q g =
    record {
      waits =
          record {
            given = λ c v e. grind (arith, nat_tests, h.waits.given c v);
            given_back = λ c v e. grind (arith, nat_tests, h.waits.given_back c v, h.waits.given_back r.number t);
            caller = λ c v e. grind (arith, nat_tests, h.waits.caller c v);
            live = λ c v e. grind (arith, nat_tests, h.waits.live c v);
            calling = λ c e. grind (arith, nat_tests, h.waits.calling c, h.waits.given_back r.number t);
          };
      invocations =
          record {
            entered = λ c v e. grind (arith, nat_tests, h.invocations.entered c v, h.servers.outside t);
            entered_back = λ c v e f. grind (arith, nat_tests, h.invocations.entered_back c v, h.waits.given_back r.number t);
            kept = λ c e. grind (arith, nat_tests, h.invocations.kept c);
          };
      notices_given = notices_turn t _ h.notices_given (grind arith) refl;
      notices_entered =
          notices_serve t _ h.notices_entered (λ n e. grind (arith, h.servers.outside t)) (λ n e. grind arith);
      notices_at_doors = h.notices_at_doors;
      servers = servers_move t _ None h.servers (λ e. refl) refl (λ c e. grind arith);
      calls = calls_move r _ h.calls q;
      at_doors = at_doors_move r _ h.at_doors q refl;
      doors = h.doors;
      bindings =
          bindings_turn t _ h.bindings
          (λ e f. grind (arith, h.waits.given_back r.number t g, h.at_doors.given_bound r.number t, h.doors.none_lost));
      processes = processes_turn t _ h.processes (grind arith) (grind (arith, h.processes.unborn_dormant t));
      threads = h.threads;
      has_fit_state = fit_turn t _ h refl;
    }

-- a thread that returns is parked, or goes on
abbrev pub is_after_return : ThreadState → Bool
is_after_return (is.Idle since) = true
is_after_return is.Running = true
is_after_return _ = false

-- a thread returns from its call
abbrev pub returned_core : Core → ℕ → Call → List ℕ → List Obj → ThreadState → Core
returned_core k t r bytes objects s =
    set_role (set_serves (set_call k r.number (without_arguments_at (stage.Returned bytes objects) r)) t None) t s

pub return_keeps :
    (k : Core) (t : ℕ) (r : Call) (bytes : List ℕ) (objects : List Obj) (s : ThreadState) → IsCoherent k → k.role t ≡ is.Running →
    is_after_return s ≡ true → (is_idle s ≡ true → k.bound t ≡ Some LOST_DOOR → ⊥) → k.call r.number ≡ Some r →
    item_in (k.serves t) ≡ Some (item.Call r.number) → r.abandoned ≡ false → IsCoherent (returned_core k t r bytes objects s)
return_keeps k t r bytes objects s h p z b q i a =
    record {
      waits =
          record {
            given = λ c v e. grind (arith, nat_tests, h.waits.given c v);
            given_back = λ c v e. grind (arith, nat_tests, h.waits.given_back c v, h.invocations.entered_back r.number t);
            caller = λ c v e. grind (arith, nat_tests, h.waits.caller c v);
            live = λ c v e. grind (arith, nat_tests, h.waits.live c v);
            calling = λ c e. grind (arith, nat_tests, h.waits.calling c, h.invocations.entered_back r.number t);
          };
      invocations =
          record {
            entered = λ c v e. grind (arith, nat_tests, h.invocations.entered c v);
            entered_back = λ c v e f. grind (arith, nat_tests, h.invocations.entered_back c v, h.invocations.entered_back r.number t);
            kept = λ c e. grind (arith, nat_tests, h.invocations.kept c);
          };
      notices_given = notices_turn t _ h.notices_given (grind arith) (grind arith);
      notices_entered = notices_serve t _ h.notices_entered (λ n e. grind arith) (λ n e. grind arith);
      notices_at_doors = h.notices_at_doors;
      servers = servers_move t s None h.servers (λ e. refl) (grind arith) (λ c e. grind arith);
      calls = calls_move r _ h.calls q;
      at_doors = at_doors_move r _ h.at_doors q refl;
      doors = h.doors;
      bindings = bindings_turn t s h.bindings b;
      processes = processes_turn t _ h.processes (grind arith) (grind (arith, h.processes.unborn_dormant t));
      threads = h.threads;
      has_fit_state = fit_turn t s h (grind arith);
    }

-- a thread without a client returns
abbrev pub parked_core : Core → ℕ → ThreadState → Core
parked_core k t s = set_role (set_serves k t None) t s

pub park_keeps :
    (k : Core) (t : ℕ) (s : ThreadState) → IsCoherent k → k.role t ≡ is.Running → is_after_return s ≡ true →
    (is_idle s ≡ true → k.bound t ≡ Some LOST_DOOR → ⊥) →
    ((c : ℕ) → item_in (k.serves t) ≡ Some (item.Call c) → abandoned_in (k.call c) ≡ true) →
    ((n : ℕ) → item_in (k.serves t) ≡ Some (item.Notice n) → ⊥) → IsCoherent (parked_core k t s)
park_keeps k t s h p w b q z =
    record {
      waits = waits_turn t s h.waits (grind arith) (grind arith);
      invocations =
          record {
            entered = λ c v e. grind (arith, nat_tests, h.invocations.entered c v, h.invocations.kept c, q c);
            entered_back = λ c v e f. grind (arith, nat_tests, h.invocations.entered_back c v);
            kept = h.invocations.kept;
          };
      notices_given = notices_turn t _ h.notices_given (grind arith) (grind arith);
      notices_entered = notices_serve t _ h.notices_entered z (λ n e. grind arith);
      notices_at_doors = h.notices_at_doors;
      servers = servers_move t s None h.servers (λ e. refl) (grind arith) (λ c e. grind arith);
      calls = h.calls;
      at_doors = h.at_doors;
      doors = h.doors;
      bindings = bindings_turn t s h.bindings b;
      processes = processes_turn t _ h.processes (grind arith) (grind (arith, h.processes.unborn_dormant t));
      threads = h.threads;
      has_fit_state = fit_turn t s h (grind arith);
    }

-- a caller collects the answer of its call
abbrev pub answered_core : Core → ℕ → Call → ℕ → Core
answered_core k t r at = set_role (set_call k r.number (without_arguments_at (stage.Answered at) r)) t is.Running

pub collect_keeps :
    (k : Core) (t : ℕ) (r : Call) (at : ℕ) → IsCoherent k → k.call r.number ≡ Some r → k.role t ≡ is.Calling r.number →
    is_to_collect r.stage ≡ true → IsCoherent (answered_core k t r at)
collect_keeps k t r at h q g z =
    record {
      waits =
          record {
            given = λ c v e. grind (arith, nat_tests, h.waits.given c v);
            given_back = λ c v e. grind (arith, nat_tests, h.waits.given_back c v);
            caller = λ c v e. grind (arith, nat_tests, h.waits.caller c v);
            live = λ c v e. grind (arith, nat_tests, h.waits.live c v, h.waits.caller r.number t, h.waits.caller c v);
            calling = λ c e. grind (arith, nat_tests, h.waits.calling c);
          };
      invocations =
          record {
            entered = λ c v e. grind (arith, nat_tests, h.invocations.entered c v);
            entered_back = λ c v e f. grind (arith, nat_tests, h.invocations.entered_back c v);
            kept = λ c e. grind (arith, nat_tests, h.invocations.kept c);
          };
      notices_given = notices_turn t _ h.notices_given (grind arith) refl;
      notices_entered = h.notices_entered;
      notices_at_doors = h.notices_at_doors;
      servers = servers_turn t _ h.servers (λ e. grind arith) refl;
      calls = calls_move r _ h.calls q;
      at_doors = at_doors_move r _ h.at_doors q refl;
      doors = h.doors;
      bindings = bindings_turn t _ h.bindings (λ e. absurd (grind arith));
      processes = processes_turn t _ h.processes (grind arith) (grind (arith, h.processes.unborn_dormant t));
      threads = h.threads;
      has_fit_state = fit_turn t _ h refl;
    }
