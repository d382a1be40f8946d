use Rattle.std.proofs.Common.{◌≡◌, ℕ, List, [], ◌∷◌, ◌++◌, ap, sym, ◌∙◌, subst}
use Rattle.ncd_app.specs.Words.{NcdValue}
use Rattle.spec_kernel.specs.Types.{Event}
use Rattle.spec_kernel.specs.Words.{State}
use Rattle.script_lang.specs.Words.{ScriptValue}
use Rattle.thread_machine.specs.declared.machine.Machine.{Machine}
use Rattle.sys_run.specs.declared.turn.Turned.{Turned}
use Rattle.sys_run.specs.Sys.{MachineStands, with_journal, with_turn}
use Rattle.sys_run.specs.Turns.{HasTurned}
use Rattle.sys_run.proofs.turn.take_turn.Goals as goal

-- the event is appended

record HasAppended (script : ScriptValue) (es fs : List Event) (t : ℕ) (x : Machine) : Type 0 where
  pub journal : with_journal script fs ≡ with_turn (with_journal script es) t
  pub machine : MachineStands script fs t x

appended :
    (script : ScriptValue) (es room fs : List Event) (t : ℕ) (turned : Turned) (kernel : State) (x : Machine) (tables : List NcdValue) → room ≡ es →
    fs ≡ room ++ turned.event ∷ [] → HasTurned script es t turned kernel x tables → HasAppended script es fs t x
appended script es room fs t turned kernel x tables same new h =
    let events : fs ≡ es ++ turned.event ∷ [] = new ∙ ap (λ gs. gs ++ turned.event ∷ []) same
    in record {
      journal = ap (with_journal script) events ∙ h.journal;
      machine = subst (λ gs. MachineStands script gs t x) (sym events) h.machine_stands;
    }

pub turn_with_room-requires : goal.turn_with_room-requires
turn_with_room-requires c = (c.args.journal.now.items, c.requires)

pub returns-in_err-make_room-clause-machine : goal.returns-in_err-make_room-clause-machine
returns-in_err-make_room-clause-machine c = rw c.make_room.ensures.items c.requires.machine_stands

pub returns-in_err-turned-clause-machine : goal.returns-in_err-turned-clause-machine
returns-in_err-turned-clause-machine c = rw c.make_room.ensures.items (c.in_err-turned.ensures.machine_err _ c.requires.machine_stands)

pub returns-clause-journal : goal.returns-clause-journal
returns-clause-journal c =
    (appended _ _ _ _ _ _ _ _ _ c.make_room.ensures.items c.push_reserved.ensures.items (c.in_ok-turned.ensures.turned _ c.requires)).journal

pub returns-clause-kernel : goal.returns-clause-kernel
returns-clause-kernel c = (c.in_ok-turned.ensures.turned _ c.requires).kernel_stands

pub returns-clause-machine : goal.returns-clause-machine
returns-clause-machine c =
    (appended _ _ _ _ _ _ _ _ _ c.make_room.ensures.items c.push_reserved.ensures.items (c.in_ok-turned.ensures.turned _ c.requires)).machine

pub returns-clause-tables : goal.returns-clause-tables
returns-clause-tables c = (c.in_ok-turned.ensures.turned _ c.requires).tables_stand

pub returns-clause-woken : goal.returns-clause-woken
returns-clause-woken c = (c.in_ok-turned.ensures.turned _ c.requires).woken
