-- The atomic changes of the core that concern a notice: it is made, is given, is entered, and is over. Each keeps what holds of a core.
use Rattle.std.specs.Prelude.{ℕ, ◌≡◌, Option, true, Some, None}
use Rattle.std.proofs.Common.{refl}
use native.Mathlib.Omega.{arith}
use Rattle.std.proofs.lemmas.Bool.Decides.{nat_tests}
use Rattle.dk_base.specs.declared.object.Item.TheVariants as item
use Rattle.spec_kernel.specs.Types.{NoticeStage, ThreadState}
use Rattle.spec_records.specs.declared.record.ThreadState.TheVariants as is
use Rattle.spec_records.specs.declared.record.NoticeStage.TheVariants as notice
use Rattle.spec_records.specs.declared.pool.TheConstants.{LOST_DOOR}
use Rattle.spec_records.specs.Words.{is_idle, is_valid_in, new_invocation, tid}
use Rattle.law_states.specs.Core.{Core}
use Rattle.law_states.specs.Coherent.{IsCoherent, bound_for}
use Rattle.law_states.specs.Records.{owner_in}
use Rattle.law_states.proofs.Cores.{set_role, set_serves, upd}
use Rattle.law_states.proofs.CallMoves.{is_after_return}
use Rattle.law_states.proofs.Parts.{bindings_turn, fit_turn, notices_at_doors_move, processes_turn, servers_move, servers_turn, waits_turn}

abbrev pub set_notice : Core → ℕ → NoticeStage → Core
set_notice k n s = record k { notice = upd k.notice n (Some s) }

-- a new notice of a valid door waits
pub make_notice_keeps :
    (k : Core) (n d : ℕ) (notices : ℕ → Option NoticeStage) (doors : ℕ → ℕ) → IsCoherent k → k.notice n ≡ None → is_valid_in (k.door d) ≡ true →
    ((c : ℕ) → notices c ≡ upd k.notice n (Some notice.Waiting) c) → ((c : ℕ) → doors c ≡ upd k.noticed_door n d c) →
    IsCoherent (record k { notice = notices; noticed_door = doors })
make_notice_keeps k n d notices doors h p v s o =
    record {
      waits = h.waits;
      invocations = h.invocations;
      notices_given =
          record {
            notice_given = λ c u e. grind (arith, nat_tests, s c, h.notices_given.notice_given c u);
            notice_given_back = λ c u e. grind (arith, nat_tests, s c, h.notices_given.notice_given_back c u);
          };
      notices_entered =
          record {
            notice_entered = λ c u e. grind (arith, nat_tests, s c, h.notices_entered.notice_entered c u);
            notice_entered_back = λ c u e. grind (arith, nat_tests, s c, h.notices_entered.notice_entered_back c u);
          };
      notices_at_doors =
          record {
            notice_door = λ c e. grind (arith, nat_tests, s c, o c, h.notices_at_doors.notice_door c);
            notice_valid = λ c e. grind (arith, nat_tests, s c, o c, h.notices_at_doors.notice_valid c);
            notice_given_owner = λ c u e. grind (arith, nat_tests, s c, o c, h.notices_at_doors.notice_given_owner c u);
            notice_given_bound = λ c u e. grind (arith, nat_tests, s c, o c, h.notices_at_doors.notice_given_bound c u);
            notice_entered_owner = λ c u e. grind (arith, nat_tests, s c, o c, h.notices_at_doors.notice_entered_owner c u);
          };
      servers = h.servers;
      calls = h.calls;
      at_doors = h.at_doors;
      doors = h.doors;
      bindings = h.bindings;
      processes = h.processes;
      threads = h.threads;
      has_fit_state = h.has_fit_state;
    }

-- a waiting notice is given to an idle thread of its door's pool
abbrev pub given_notice_core : Core → ℕ → ℕ → Core
given_notice_core k n u = set_role (set_notice k n (notice.Given (tid u))) u (is.Given (item.Notice n))

pub record GivesNotice (k : Core) (n u : ℕ) : Type 0 where
  pub since : ℕ
  pub idle : k.role u ≡ is.Idle since
  pub waiting : k.notice n ≡ Some notice.Waiting
  pub owner : owner_in (k.door (k.noticed_door n)) ≡ Some (k.process u)
  pub bound : k.bound u ≡ bound_for (k.noticed_door n) (k.door (k.noticed_door n))

pub give_notice_keeps : (k : Core) (n u : ℕ) → IsCoherent k → GivesNotice k n u → IsCoherent (given_notice_core k n u)
give_notice_keeps k n u h p =
    record {
      waits = waits_turn u _ h.waits (grind (arith, p.idle)) refl;
      invocations = h.invocations;
      notices_given =
          record {
            notice_given = λ c v e. grind (arith, nat_tests, h.notices_given.notice_given c v);
            notice_given_back = λ c v e. grind (arith, nat_tests, h.notices_given.notice_given_back c v);
          };
      notices_entered =
          record {
            notice_entered = λ c v e. grind (arith, nat_tests, h.notices_entered.notice_entered c v);
            notice_entered_back = λ c v e. grind (arith, nat_tests, h.notices_entered.notice_entered_back c v);
          };
      notices_at_doors =
          notices_at_doors_move n _ h.notices_at_doors (grind (arith, p.waiting)) (λ e. grind arith) (λ v e. grind (arith, p.owner))
          (λ v e. grind (arith, p.bound)) (λ v e. grind arith);
      servers = servers_turn u _ h.servers (λ e. h.servers.outside u (grind (arith, p.idle))) refl;
      calls = h.calls;
      at_doors = h.at_doors;
      doors = h.doors;
      bindings = bindings_turn u _ h.bindings (λ e. absurd (grind arith));
      processes = processes_turn u _ h.processes (grind (arith, p.idle)) (grind (arith, p.idle, h.processes.unborn_dormant u));
      threads = h.threads;
      has_fit_state = fit_turn u _ h refl;
    }

-- a thread enters the notice that it was given
abbrev pub entered_notice_core : Core → ℕ → ℕ → Core
entered_notice_core k t n =
    set_role (set_serves (set_notice k n (notice.Entered (tid t))) t (Some (new_invocation (item.Notice n)))) t is.Running

pub enter_notice_keeps :
    (k : Core) (t n : ℕ) → IsCoherent k → k.role t ≡ is.Given (item.Notice n) → IsCoherent (entered_notice_core k t n)
enter_notice_keeps k t n h g =
    record {
      waits = waits_turn t _ h.waits (grind arith) refl;
      invocations =
          record {
            entered = λ c v e. grind (arith, nat_tests, h.invocations.entered c v, h.servers.outside t);
            entered_back = λ c v e f. grind (arith, nat_tests, h.invocations.entered_back c v);
            kept = h.invocations.kept;
          };
      notices_given =
          record {
            notice_given = λ c v e. grind (arith, nat_tests, h.notices_given.notice_given c v);
            notice_given_back =
                λ c v e. grind (arith, nat_tests, h.notices_given.notice_given_back c v, h.notices_given.notice_given_back n t);
          };
      notices_entered =
          record {
            notice_entered = λ c v e. grind (arith, nat_tests, h.notices_entered.notice_entered c v, h.servers.outside t);
            notice_entered_back =
                λ c v e. grind (arith, nat_tests, h.notices_entered.notice_entered_back c v, h.notices_given.notice_given_back n t);
          };
      notices_at_doors =
          notices_at_doors_move n _ h.notices_at_doors (grind (arith, h.notices_given.notice_given_back n t)) (λ e. grind arith)
          (λ u e. grind arith)
          (λ u e. grind arith)
          (λ u e. grind (arith, h.notices_at_doors.notice_given_owner n t, h.notices_given.notice_given_back n t));
      servers = servers_move t _ _ h.servers (λ e. grind arith) refl (λ c e. grind arith);
      calls = h.calls;
      at_doors = h.at_doors;
      doors = h.doors;
      bindings = bindings_turn t _ h.bindings (λ e. absurd (grind arith));
      processes = processes_turn t _ h.processes (grind arith) (grind (arith, h.processes.unborn_dormant t));
      threads = h.threads;
      has_fit_state = fit_turn t _ h refl;
    }

-- a thread returns from the notice that it has entered
abbrev pub over_notice_core : Core → ℕ → ℕ → ThreadState → Core
over_notice_core k t n s = set_role (set_serves (set_notice k n notice.Over) t None) t s

pub end_notice_keeps :
    (k : Core) (t n : ℕ) (s : ThreadState) → IsCoherent k → k.role t ≡ is.Running → is_after_return s ≡ true →
    (is_idle s ≡ true → k.bound t ≡ Some LOST_DOOR → ⊥) → k.notice n ≡ Some (notice.Entered (tid t)) → IsCoherent (over_notice_core k t n s)
end_notice_keeps k t n s h p w b i =
    record {
      waits = waits_turn t _ h.waits (grind arith) (grind arith);
      invocations =
          record {
            entered = λ c v e. grind (arith, nat_tests, h.invocations.entered c v, h.notices_entered.notice_entered n t);
            entered_back = λ c v e f. grind (arith, nat_tests, h.invocations.entered_back c v);
            kept = h.invocations.kept;
          };
      notices_given =
          record {
            notice_given = λ c v e. grind (arith, nat_tests, h.notices_given.notice_given c v);
            notice_given_back = λ c v e. grind (arith, nat_tests, h.notices_given.notice_given_back c v);
          };
      notices_entered =
          record {
            notice_entered =
                λ c v e. grind (arith, nat_tests, h.notices_entered.notice_entered c v, h.notices_entered.notice_entered n t);
            notice_entered_back = λ c v e. grind (arith, nat_tests, h.notices_entered.notice_entered_back c v);
          };
      notices_at_doors =
          notices_at_doors_move n _ h.notices_at_doors (grind arith) (λ e. grind arith) (λ u e. grind arith) (λ u e. grind arith)
          (λ u e. grind arith);
      servers = servers_move t _ None h.servers (λ e. refl) (grind arith) (λ c e. grind arith);
      calls = h.calls;
      at_doors = h.at_doors;
      doors = h.doors;
      bindings = bindings_turn t s h.bindings b;
      processes = processes_turn t _ h.processes (grind arith) (grind (arith, h.processes.unborn_dormant t));
      threads = h.threads;
      has_fit_state = fit_turn t _ h (grind arith);
    }
