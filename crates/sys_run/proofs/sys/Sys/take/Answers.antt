use Rattle.std.proofs.Common.{arith, refl}
use Rattle.std.proofs.lemmas.Option.{slice_get_read}
use Rattle.sys_run.specs.Sys.{with_journal}
use Rattle.sys_run.proofs.Systems.{has_machine, machine-stands, HasMachine, IsSys-same, IsSys-turn}
use Rattle.sys_run.proofs.Looks.{laws-journal}
use Rattle.sys_run.proofs.Journals.{IsJournal-with_turn}
use Rattle.sys_run.proofs.sys.Sys.take.Goals as goal

pub index_mut-machine-requires : goal.index_mut-machine-requires
index_mut-machine-requires c =
    let has : HasMachine c.args.t.0 c.self.inside.machines.items =
    has_machine _ _ _ _ _ _ c.self.invariant (rw (← c.self.view_is) at c.requires.can)
    in omega (arith, has.place)

pub take_turn-requires : goal.take_turn-requires
take_turn-requires c =
    let has : HasMachine c.args.t.0 c.self.inside.machines.items =
    has_machine _ _ _ _ _ _ c.self.invariant (rw (← c.self.view_is) at c.requires.can)
    in record {
      run = c.self.invariant.journal_is_run;
      kernel_stands = c.self.invariant.kernel_stands;
      machine_stands = machine-stands _ _ _ _ _ _ _ c.self.invariant has (slice_get_read _ _ _ _ refl has.place c.index_mut-machine.ensures.value);
      tables_stand = c.self.invariant.tables_stand;
      can = rw (← c.self.view_is) at c.requires.can;
      left = rw (← c.self.view_is) at c.requires.left;
      is_output = rw (← c.self.view_is) at c.requires.output;
    }

pub invariant_of-self : goal.invariant_of-self
invariant_of-self c =
    let has : HasMachine c.args.t.0 c.self.inside.machines.items =
    has_machine _ _ _ _ _ _ c.self.invariant (rw (← c.self.view_is) at c.requires.can)
    in IsSys-same
    _
    _
    _
    _
    _
    _
    _
    _
    _
    _
    c.self.invariant
    has
    c.in_err-woken.ensures.journal_err
    c.in_err-woken.ensures.kernel_err
    c.in_err-woken.ensures.tables_err
    c.in_err-woken.ensures.machine

pub invariant_of-self-2 : goal.invariant_of-self-2
invariant_of-self-2 c =
    let has : HasMachine c.args.t.0 c.self.inside.machines.items =
    has_machine _ _ _ _ _ _ c.self.invariant (rw (← c.self.view_is) at c.requires.can)
    in IsSys-turn
    _
    _
    _
    _
    _
    _
    _
    _
    _
    _
    c.self.invariant
    has
    (rw (← c.self.view_is) at c.requires.can)
    (rw (← c.self.view_is) at c.requires.left)
    c.in_ok-woken.ensures.journal
    c.in_ok-woken.ensures.kernel
    c.in_ok-woken.ensures.machine
    c.in_ok-woken.ensures.tables

pub returns-clause-laws : goal.returns-clause-laws
returns-clause-laws c =
    laws-journal
    (with_journal c.self.inside.script c.take_turn.new.journal.items)
    c.every_run.ensures
    (rw c.in_ok-woken.ensures.journal
    (IsJournal-with_turn
    _
    _
    c.self.invariant.journal_is_run
    (rw (← c.self.view_is) at c.requires.can)
    (rw (← c.self.view_is) at c.requires.left)))
