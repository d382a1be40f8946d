use Rattle.std.proofs.Common.{◌≡◌, ℕ, List, Option, Result, Ok, Err, IfOk, OnErr, subst, sym}
use Rattle.std.proofs.lemmas.Result.{IfOk-weaker}
use Rattle.ncd_app.specs.Words.{NcdValue}
use Rattle.spec_kernel.specs.Types.{Event, NoMemory}
use Rattle.spec_kernel.specs.Words.{State}
use Rattle.script_lang.specs.Words.{ScriptValue}
use Rattle.spec_requests.specs.Words.{Frame}
use Rattle.thread_machine.specs.declared.machine.Machine.{Machine}
use Rattle.thread_machine.specs.Words.{IsMachine, Stands}
use Rattle.sys_run.specs.declared.turn.Turned.{Turned}
use Rattle.sys_run.specs.Sys.{MachineStands}
use Rattle.sys_run.specs.Turns.{CanTurn, HasTurned}
use Rattle.sys_run.proofs.turn.turn_with_room.Goals as goal

-- room leaves the machine where it stood
abbrev KeepsMachine : Machine → Machine → Type 0
KeepsMachine old new = ((s : ScriptValue) → IsMachine s old → IsMachine s new) × ((s : ScriptValue) (f : Frame) → Stands s old f → Stands s new f)

stands-with_room : (script : ScriptValue) (es : List Event) (t : ℕ) (old new : Machine) → KeepsMachine old new → MachineStands script es t old → MachineStands script es t new
stands-with_room script es t old new kept is = record { machine = kept.0 script is.machine; stands = kept.1 script _ is.stands }

can-with_room :
    (script : ScriptValue) (es : List Event) (kernel : State) (old new : Machine) (tables : List NcdValue) (t : ℕ) (output : Option (List ℕ)) →
    KeepsMachine old new → CanTurn script es kernel old tables t output → CanTurn script es kernel new tables t output
can-with_room script es kernel old new tables t output kept h =
    record {
      run = h.run;
      kernel_stands = h.kernel_stands;
      machine_stands = stands-with_room script es t old new kept h.machine_stands;
      tables_stand = h.tables_stand;
      can = h.can;
      left = h.left;
      is_output = h.is_output;
    }

stands-after :
    (result : Result Turned NoMemory) (script : ScriptValue) (t : ℕ) (old mid new : Machine) → KeepsMachine old mid → OnErr result (new ≡ mid) →
    OnErr result ((es : List Event) → MachineStands script es t old → MachineStands script es t new)
stands-after (Ok x) script t old mid new kept same = tt
stands-after (Err fault) script t old mid new kept same =
    λ es is. subst (λ m. MachineStands script es t m) (sym same) (stands-with_room script es t old mid kept is)

in_any : {T E P : Type 0} (result : Result T E) → P → OnErr result P
in_any (Ok x) p = tt
in_any (Err fault) p = p

pub turn-requires-clause-can : goal.turn-requires-clause-can
turn-requires-clause-can c =
    (c.requires.0, can-with_room _ _ _ _ _ _ _ _ (c.make_room.ensures.machine, c.make_room.ensures.stands) c.requires.1)

pub returns-in_err-make_room-clause-machine_err : goal.returns-in_err-make_room-clause-machine_err
returns-in_err-make_room-clause-machine_err c =
    in_any c.from_residual.result (λ es is. stands-with_room _ es _ _ _ (c.make_room.ensures.machine, c.make_room.ensures.stands) is)

pub returns-clause-turned : goal.returns-clause-turned
returns-clause-turned c =
    IfOk-weaker c.turn.result
    (λ x. (es : List Event) → CanTurn c.args.script.now es c.args.kernel.now c.make_room.new.self c.args.tables.now c.args.t.0 c.args.output → HasTurned c.args.script.now es c.args.t.0 x c.turn.new.kernel c.turn.new.machine c.turn.new.tables)
    (λ x. (es : List Event) → CanTurn c.args.script.now es c.args.kernel.now c.args.machine.now c.args.tables.now c.args.t.0 c.args.output → HasTurned c.args.script.now es c.args.t.0 x c.turn.new.kernel c.turn.new.machine c.turn.new.tables)
    (λ x turned. λ es h. turned es (can-with_room _ es _ _ _ _ _ _ (c.make_room.ensures.machine, c.make_room.ensures.stands) h))
    c.turn.ensures.turned

pub returns-clause-machine_err : goal.returns-clause-machine_err
returns-clause-machine_err c =
    stands-after c.turn.result _ _ _ _ _ (c.make_room.ensures.machine, c.make_room.ensures.stands) c.turn.ensures.machine_err
