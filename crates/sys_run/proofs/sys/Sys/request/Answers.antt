use Rattle.std.proofs.Common.{◌≡◌, IfOk, arith, refl, subst}
use Rattle.std.proofs.lemmas.Option.{slice_get_read}
use Rattle.std.proofs.lemmas.Result.{IfOk-weaker}
use Rattle.spec_requests.specs.Words.{Frame, request_after, request_of}
use Rattle.thread_machine.specs.Words.{Stands}
use Rattle.sys_run.specs.Sys.{SysValue}
use Rattle.sys_run.proofs.Systems.{has_machine, machine-stands, HasMachine}
use Rattle.sys_run.proofs.sys.Sys.request.Goals as goal

pub index-requires : goal.index-requires
index-requires c =
    let has : HasMachine c.args.t.0 c.self.inside.machines.items =
    has_machine _ _ _ _ _ _ c.self.invariant (rw (← c.self.view_is) at c.requires)
    in omega (arith, has.place)

pub next-requires : goal.next-requires
next-requires c =
    let has : HasMachine c.args.t.0 c.self.inside.machines.items =
    has_machine _ _ _ _ _ _ c.self.invariant (rw (← c.self.view_is) at c.requires)
    in (machine-stands _ _ _ _ _ _ _ c.self.invariant has (slice_get_read _ _ _ _ refl has.place c.index.ensures)).machine

pub returns : goal.returns
returns c =
    let has : HasMachine c.args.t.0 c.self.inside.machines.items =
    has_machine _ _ _ _ _ _ c.self.invariant (rw (← c.self.view_is) at c.requires)
    in let stands = machine-stands _ _ _ _ _ _ _ c.self.invariant has (slice_get_read _ _ _ _ refl has.place c.index.ensures)
    in subst
    (λ (p : SysValue). IfOk c.next.result (λ r. r ≡ request_after p.script c.args.t.0 p.journal))
    c.self.view_is
    (IfOk-weaker
    c.next.result
    (λ r. (f : Frame) → Stands c.self.inside.script c.index.result.now f → r ≡ request_of f)
    (λ r. r ≡ request_after c.self.inside.script c.args.t.0 c.self.inside.journal.items)
    (λ r is. is _ stands.stands)
    c.next.ensures)
