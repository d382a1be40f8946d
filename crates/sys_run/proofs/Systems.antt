-- A script with its kernel, machines and journal: what holds at the begin, and after a turn.
use Rattle.std.proofs.Common.{◌≡◌, ℕ, ◌+◌, ◌-◌, ◌≤◌, ◌<◌, List, [], length, Some, true, arith, refl, ap, sym, ◌∙◌, subst}
use Rattle.std.specs.Prelude.{slice_get, slice_set}
use Rattle.std.proofs.Math.ListN.{length-set}
use Rattle.ncd_app.specs.Words.{NcdValue}
use Rattle.spec_kernel.specs.Types.{Event}
use Rattle.script_lang.specs.Words.{ScriptValue}
use Rattle.thread_machine.specs.declared.machine.Machine.{Machine}
use Rattle.spec_kernel.specs.Words.{StandsFor, State, is_runnable, waiting_threads}
use Rattle.spec_kernel.proofs.Opening.{forget-opening}
use Rattle.spec_requests.specs.Words.{IsSound, IsThread}
use Rattle.spec_scripts.specs.Words.{History, opening_of}
use Rattle.spec_scripts.proofs.Histories.{IsOpening-opening_of}
use Rattle.spec_scripts.proofs.RunTurns.{history_after-thread}
use Rattle.sys_run.specs.NameTables.{AllTablesStandFrom, HasTables}
use Rattle.sys_run.specs.Sys.{SysValue, asked_in, with_journal, history, state_of_run, with_turn, MachineStands, AllStandFrom, IsJournal, IsSys}
use Rattle.sys_run.proofs.Journals.{known-history, IsJournal-with_turn}
use Rattle.sys_run.proofs.Finishing.{history-new}
use Rattle.sys_run.proofs.Machines.{stands-at, AllStandFrom-turn, AllStandFrom-same}

IsJournal-new : (script : ScriptValue) → IsSound script → IsJournal (with_journal script [])
IsJournal-new script sound =
    record {
      script = sound;
      events = rw (history-new script) refl;
      allowed = record { runnable = tt; within = omega arith };
    }

pub IsSys-new :
    (script : ScriptValue) (kernel : State) (machines : List Machine) (tables : List NcdValue) →
    IsSound script → kernel ≡ opening_of script → AllStandFrom script [] 1 machines → length machines ≡ length script.threads →
    AllTablesStandFrom [] 1 tables → length tables ≡ length script.processes → IsSys script [] kernel machines tables
IsSys-new script kernel machines tables sound k first count stand there =
    record {
      journal_is_run = IsJournal-new script sound;
      kernel_stands =
          subst
          (λ (h : History). StandsFor kernel h.state)
          (sym (history-new script))
          (k ∙ sym (forget-opening (IsOpening-opening_of script sound)));
      machines_stand = first;
      machines_there = count;
      tables_stand =
          subst
          (λ (h : History). HasTables script h.asked tables)
          (sym (history-new script))
          (record { stand = stand; there = there });
    }

-- a runnable thread has a machine
pub record HasMachine (t : ℕ) (machines : List Machine) : Type 0 where
  pub first : 0 < t
  pub place : t - 1 < length machines

pub has_machine :
    (script : ScriptValue) (es : List Event) (kernel : State) (machines : List Machine) (tables : List NcdValue) (t : ℕ) →
    IsSys script es kernel machines tables → is_runnable (state_of_run (with_journal script es)) t ≡ true → HasMachine t machines
has_machine script es kernel machines tables t is can =
    let thread : IsThread script t =
    history_after-thread script (history (with_journal script es)) t (known-history (with_journal script es) is.journal_is_run) can
    in let first : 0 < t = thread.0
    in let last : t ≤ length script.threads = thread.1
    in let machines_there : length machines ≡ length script.threads = is.machines_there
    in record { first = first; place = omega arith }

pub machine-stands :
    (script : ScriptValue) (es : List Event) (kernel : State) (machines : List Machine) (tables : List NcdValue) (t : ℕ) (x : Machine) →
    IsSys script es kernel machines tables → HasMachine t machines → slice_get machines (t - 1) ≡ Some x →
    MachineStands script es t x
machine-stands script es kernel machines tables t x is has e =
    let first : 0 < t = has.first
    in let number : 1 + (t - 1) ≡ t = omega arith
    in rw number at (stands-at script es machines 1 (t - 1) x is.machines_stand e)

-- after a turn
pub IsSys-turn :
    (script : ScriptValue) (es es' : List Event) (kernel kernel' : State) (machines : List Machine) (tables tables' : List NcdValue) (t : ℕ)
    (x : Machine) →
    IsSys script es kernel machines tables → HasMachine t machines → is_runnable (state_of_run (with_journal script es)) t ≡ true →
    length es < script.budget → with_journal script es' ≡ with_turn (with_journal script es) t →
    StandsFor kernel' (state_of_run (with_turn (with_journal script es) t)) → MachineStands script es' t x →
    HasTables script (asked_in (with_turn (with_journal script es) t)) tables' → IsSys script es' kernel' (slice_set machines (t - 1) x) tables'
IsSys-turn script es es' kernel kernel' machines tables tables' t x is has can left new stands machine stand =
    let first : 0 < t = has.first
    in let number : 1 + (t - 1) ≡ t = omega arith
    in let journal : es' ≡ (with_turn (with_journal script es) t).journal = ap (λ (p : SysValue). p.journal) new
    in record {
      journal_is_run = rw new (IsJournal-with_turn (with_journal script es) t is.journal_is_run can left);
      kernel_stands = rw new stands;
      machines_stand =
          rw journal
          (AllStandFrom-turn
          script
          es
          _
          machines
          1
          (t - 1)
          x
          is.machines_stand
          (sym number)
          (rw number (rw journal at machine)));
      machines_there = simp length-set is.machines_there;
      tables_stand = rw new stand;
    }

-- where no turn was taken
pub IsSys-same :
    (script : ScriptValue) (es es' : List Event) (kernel kernel' : State) (machines : List Machine) (tables tables' : List NcdValue) (t : ℕ)
    (x : Machine) →
    IsSys script es kernel machines tables → HasMachine t machines → es' ≡ es → kernel' ≡ kernel → tables' ≡ tables → MachineStands script es' t x →
    IsSys script es' kernel' (slice_set machines (t - 1) x) tables'
IsSys-same script es es' kernel kernel' machines tables tables' t x is has hes hk ht machine =
    let first : 0 < t = has.first
    in let number : 1 + (t - 1) ≡ t = omega arith
    in rw (hes, hk, ht)
    (record {
      journal_is_run = is.journal_is_run;
      kernel_stands = is.kernel_stands;
      machines_stand = AllStandFrom-same script es machines 1 (t - 1) x is.machines_stand (rw number (rw hes at machine));
      machines_there = simp length-set is.machines_there;
      tables_stand = is.tables_stand;
    })

-- what the kernel sees of its threads is what its state has

pub waiting_threads-kept : (kept m : State) → StandsFor kept m → waiting_threads kept ≡ waiting_threads m
waiting_threads-kept kept m stands = ap waiting_threads stands
