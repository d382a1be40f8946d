-- What a change of one thread, or of one call or notice, keeps of the parts that hold of a core.
use Rattle.std.specs.Prelude.{ℕ, ◌≡◌, ◌≤◌, [], Option, Bool, true, false, Some, None, is_some}
use Rattle.std.proofs.Common.{refl}
use native.Mathlib.Omega.{arith}
use Rattle.std.proofs.lemmas.Bool.Decides.{nat_tests}
use Rattle.dk_base.specs.declared.object.Item.TheVariants as item
use Rattle.spec_kernel.specs.Types.{Call, CallStage, Door, Inv, NoticeStage, Process, ThreadState}
use Rattle.spec_records.specs.declared.record.ThreadState.TheVariants as is
use Rattle.spec_records.specs.declared.record.CallStage.TheVariants as stage
use Rattle.spec_records.specs.declared.record.NoticeStage.TheVariants as notice
use Rattle.spec_records.specs.declared.pool.TheConstants.{LOST_DOOR}
use Rattle.spec_records.specs.Words.{is_idle, is_unborn_in, is_valid_in, no_cancel_of, tid, without_arguments_at}
use Rattle.law_states.specs.Records.{item_in, owner_in}
use Rattle.law_states.specs.Core.{Core, has_arguments, is_outside, is_underway}
use Rattle.law_states.specs.Coherent.{AreAtDoors, AreBindings, AreCalls, AreNoticesAtDoors, AreNoticesEntered, AreNoticesGiven, AreProcesses, AreServers, AreWaits, IsCoherent, bound_for, is_unfit}
use Rattle.law_states.proofs.Cores.{set_role, upd}

-- a thread turns from one state to another

-- a state in which a thread waits for a call, of its own or to enter it
abbrev pub is_of_call : ThreadState → Bool
is_of_call (is.Given (item.Call c)) = true
is_of_call (is.Calling c) = true
is_of_call _ = false

abbrev pub is_given_notice : ThreadState → Bool
is_given_notice (is.Given (item.Notice n)) = true
is_given_notice _ = false

abbrev pub is_calling : ThreadState → Bool
is_calling (is.Calling c) = true
is_calling _ = false

abbrev pub is_done : ThreadState → Bool
is_done is.Done = true
is_done _ = false

pub waits_turn :
    {role : ℕ → ThreadState} {call : ℕ → Option Call} (t : ℕ) (s : ThreadState) → AreWaits role call → is_of_call (role t) ≡ false →
    is_of_call s ≡ false → AreWaits (upd role t s) call
waits_turn t s h p q =
    record {
      given = λ c v e. grind (arith, nat_tests, h.given c v);
      given_back = λ c v e. grind (arith, nat_tests, h.given_back c v);
      caller = λ c v e. grind (arith, nat_tests, h.caller c v);
      live = λ c v e. grind (arith, nat_tests, h.live c v);
      calling = λ c e. grind (arith, nat_tests, h.calling c);
    }

pub servers_turn :
    {role : ℕ → ThreadState} {serves : ℕ → Option Inv} {made : ℕ} (t : ℕ) (s : ThreadState) → AreServers role serves made →
    (is_outside s ≡ true → serves t ≡ None) → is_calling s ≡ false → AreServers (upd role t s) serves made
servers_turn t s h p q =
    record {
      outside = λ v e. grind (arith, nat_tests, h.outside v);
      below = λ c d v e f. grind (arith, nat_tests, h.below c d v);
      served_made = h.served_made;
    }

pub notices_turn :
    {role : ℕ → ThreadState} {notices : ℕ → Option NoticeStage} (t : ℕ) (s : ThreadState) → AreNoticesGiven role notices →
    is_given_notice (role t) ≡ false → is_given_notice s ≡ false → AreNoticesGiven (upd role t s) notices
notices_turn t s h p q =
    record {
      notice_given = λ n v e. grind (arith, nat_tests, h.notice_given n v);
      notice_given_back = λ n v e. grind (arith, nat_tests, h.notice_given_back n v);
    }

pub processes_turn :
    {role : ℕ → ThreadState} {process : ℕ → ℕ} {proc : ℕ → Option Process} (t : ℕ) (s : ThreadState) →
    AreProcesses role process proc → is_done (role t) ≡ false → is_unborn_in (proc (process t)) ≡ false →
    AreProcesses (upd role t s) process proc
processes_turn t s h p q =
    record {
      ended_done = λ v e. grind (arith, nat_tests, h.ended_done v);
      unborn_dormant = λ v e. grind (arith, nat_tests, h.unborn_dormant v);
    }

-- to a state that is not idle, or as one that is not bound to the lost door
pub bindings_turn :
    {role : ℕ → ThreadState} {bound : ℕ → Option ℕ} {door : ℕ → Option Door} {process : ℕ → ℕ} (t : ℕ) (s : ThreadState) →
    AreBindings role bound door process → (is_idle s ≡ true → bound t ≡ Some LOST_DOOR → ⊥) → AreBindings (upd role t s) bound door process
bindings_turn t s h p =
    record {
      bound_own = h.bound_own;
      bound_private = h.bound_private;
      idle_not_lost = λ v since e f. grind (arith, nat_tests, h.idle_not_lost v since, p);
    }

pub fit_turn :
    {k : Core} (t : ℕ) (s : ThreadState) → IsCoherent k → is_unfit s ≡ false → (u : ℕ) → is_unfit (upd k.role t s u) ≡ false
fit_turn t s h p u = grind (arith, nat_tests, h.has_fit_state u)

-- the states of a thread that has not ended and holds no item
abbrev pub is_free : ThreadState → Bool
is_free (is.Given i) = false
is_free (is.Calling c) = false
is_free is.Done = false
is_free _ = true

-- a thread turns between states that hold no item
pub role_keeps :
    (k : Core) (t : ℕ) (s : ThreadState) → IsCoherent k → is_free (k.role t) ≡ true → is_free s ≡ true → is_unfit s ≡ false →
    is_idle s ≡ false → is_unborn_in (k.proc (k.process t)) ≡ false → (is_outside s ≡ true → k.serves t ≡ None) → IsCoherent (set_role k t s)
role_keeps k t s h p q u i b o =
    record {
      waits = waits_turn t s h.waits (grind arith) (grind arith);
      invocations = h.invocations;
      notices_given = notices_turn t s h.notices_given (grind arith) (grind arith);
      notices_entered = h.notices_entered;
      notices_at_doors = h.notices_at_doors;
      servers = servers_turn t s h.servers o (grind arith);
      calls = h.calls;
      at_doors = h.at_doors;
      doors = h.doors;
      bindings = bindings_turn t s h.bindings (λ e. absurd (grind arith));
      processes = processes_turn t s h.processes (grind arith) b;
      threads = h.threads;
      has_fit_state = fit_turn t s h u;
    }

-- a thread's invocation begins or ends

pub servers_move :
    {role : ℕ → ThreadState} {serves : ℕ → Option Inv} {made : ℕ} (t : ℕ) (s : ThreadState) (v : Option Inv) → AreServers role serves made →
    (is_outside s ≡ true → v ≡ None) → is_calling s ≡ false → ((c : ℕ) → item_in v ≡ Some (item.Call c) → c ≤ made) →
    AreServers (upd role t s) (upd serves t v) made
servers_move t s v h p q n =
    record {
      outside = λ u e. grind (arith, nat_tests, h.outside u);
      below = λ c d u e f. grind (arith, nat_tests, h.below c d u);
      served_made = λ c u e. grind (arith, nat_tests, h.served_made c u, n c);
    }

-- and is of no notice
pub notices_serve :
    {serves : ℕ → Option Inv} {notices : ℕ → Option NoticeStage} (t : ℕ) (v : Option Inv) → AreNoticesEntered serves notices →
    ((n : ℕ) → item_in (serves t) ≡ Some (item.Notice n) → ⊥) → ((n : ℕ) → item_in v ≡ Some (item.Notice n) → ⊥) →
    AreNoticesEntered (upd serves t v) notices
notices_serve t v h p q =
    record {
      notice_entered = λ n u e. grind (arith, nat_tests, h.notice_entered n u, p n);
      notice_entered_back = λ n u e. grind (arith, nat_tests, h.notice_entered_back n u, q n);
    }

-- the record of one call changes

pub calls_set :
    {call : ℕ → Option Call} {made : ℕ} (r x : Call) → AreCalls call made → call r.number ≡ Some r → x.number ≡ r.number →
    (has_arguments x.stage ≡ false → (x.bytes ≡ []) × (x.objects ≡ [])) → AreCalls (upd call r.number (Some x)) made
calls_set r x h f n a =
    record {
      arguments = λ c y e g. grind (arith, nat_tests, h.arguments c y, a);
      call_number = λ c y e. grind (arith, nat_tests, h.call_number c y);
      unmade = λ c e. grind (arith, nat_tests, h.unmade c);
    }

pub at_doors_set :
    {call : ℕ → Option Call} {door : ℕ → Option Door} {process : ℕ → ℕ} {bound : ℕ → Option ℕ} (n : ℕ) (x : Call) →
    AreAtDoors call door process bound →
    is_some (door x.door) ≡ true → x.no_cancel ≡ no_cancel_of (door x.door) →
    (x.stage ≡ stage.Queued → is_valid_in (door x.door) ≡ true) →
    ((u : ℕ) → x.stage ≡ stage.Given (tid u) → owner_in (door x.door) ≡ Some (process u)) →
    ((u : ℕ) → x.stage ≡ stage.Given (tid u) → bound u ≡ bound_for x.door (door x.door)) →
    ((u : ℕ) → x.stage ≡ stage.Entered (tid u) → owner_in (door x.door) ≡ Some (process u)) →
    AreAtDoors (upd call n (Some x)) door process bound
at_doors_set n x h there no_cancel queued given bound_to entered =
    record {
      door_there = λ c y e. grind (arith, nat_tests, h.door_there c y, there);
      no_cancel = λ c y e. grind (arith, nat_tests, h.no_cancel c y, no_cancel);
      waiting_valid = λ c e. grind (arith, nat_tests, h.waiting_valid c, queued);
      given_owner = λ c u e. grind (arith, nat_tests, h.given_owner c u, given u);
      given_bound = λ c u e. grind (arith, nat_tests, h.given_bound c u, bound_to u);
      entered_owner = λ c u e. grind (arith, nat_tests, h.entered_owner c u, entered u);
    }

-- it moves to another stage, where it has no arguments
pub calls_move :
    {call : ℕ → Option Call} {made : ℕ} (r : Call) (s : CallStage) → AreCalls call made → call r.number ≡ Some r →
    AreCalls (upd call r.number (Some (without_arguments_at s r))) made
calls_move r s h f = calls_set r (without_arguments_at s r) h f refl (λ e. (refl, refl))

-- the same, to a stage after its server's
pub at_doors_move :
    {call : ℕ → Option Call} {door : ℕ → Option Door} {process : ℕ → ℕ} {bound : ℕ → Option ℕ} (r : Call) (s : CallStage) →
    AreAtDoors call door process bound → call r.number ≡ Some r → is_underway s ≡ false →
    AreAtDoors (upd call r.number (Some (without_arguments_at s r))) door process bound
at_doors_move r s h f g =
    at_doors_set r.number (without_arguments_at s r) h (h.door_there r.number r f) (h.no_cancel r.number r f)
    (λ e. grind arith) (λ u e. grind arith) (λ u e. grind arith) (λ u e. grind arith)

-- a notice moves to a stage after it waited
pub notices_at_doors_move :
    {notices : ℕ → Option NoticeStage} {noticed_door : ℕ → ℕ} {door : ℕ → Option Door} {process : ℕ → ℕ} {bound : ℕ → Option ℕ} (n : ℕ)
    (s : NoticeStage) → AreNoticesAtDoors notices noticed_door door process bound → is_some (notices n) ≡ true → (s ≡ notice.Waiting → ⊥) →
    ((u : ℕ) → s ≡ notice.Given (tid u) → owner_in (door (noticed_door n)) ≡ Some (process u)) →
    ((u : ℕ) → s ≡ notice.Given (tid u) → bound u ≡ bound_for (noticed_door n) (door (noticed_door n))) →
    ((u : ℕ) → s ≡ notice.Entered (tid u) → owner_in (door (noticed_door n)) ≡ Some (process u)) →
    AreNoticesAtDoors (upd notices n (Some s)) noticed_door door process bound
notices_at_doors_move n s h there waiting given bound_to entered =
    record {
      notice_door = λ c e. grind (arith, nat_tests, h.notice_door c);
      notice_valid = λ c e. grind (arith, nat_tests, h.notice_valid c, waiting);
      notice_given_owner = λ c u e. grind (arith, nat_tests, h.notice_given_owner c u, given u);
      notice_given_bound = λ c u e. grind (arith, nat_tests, h.notice_given_bound c u, bound_to u);
      notice_entered_owner = λ c u e. grind (arith, nat_tests, h.notice_entered_owner c u, entered u);
    }
