use Rattle.std.proofs.Common.{ap, arith, length, sym, ◌∙◌}
use Rattle.spec_records.specs.Words.{state_in, thread_at}
use Rattle.dk_base.proofs.ThreadMembers.{first_taken}
use Rattle.kernel_store.specs.Turning.{has_ended_at}
use Rattle.kernel_store.proofs.Knowing.{asked}
use Rattle.kernel_store.proofs.Turns.{ended_not}
use Rattle.kernel_store.proofs.ports.find_ended.Goals as goal

pub loop-t-init : goal.loop-t-init
loop-t-init c = λ u out.
    c.new-ended.ensures u
    ∙ sym (ended_not c.args.held.now c.args.ports.now.ports.ports (state_in (thread_at c.args.processes.now u)) (sym (c.getting-rest.ensures u) ∙ out))

pub loop-t-smaller : goal.loop-t-smaller
loop-t-smaller c =
    let t = c.in-Some.ensures in
    omega (arith, ap length (first_taken c.loop-t.rest c.put.new.self c.in-Some.t.0 t.first c.put.ensures t.within.0 t.within.1))

pub loop-t-preserved : goal.loop-t-preserved
loop-t-preserved c =
    λ u.
    asked c.loop-t.ended c.put-in-Some.new.self c.loop-t.rest c.put.new.self c.in-Some.t.0 u c.has_ended.result _ (c.put-in-Some.ensures u) (c.put.ensures u)
    (c.loop-t.invariant u)
    (λ same. c.has_ended.ensures ∙ ap (has_ended_at c.args.held.now c.args.ports.now.ports.ports) (c.state.ensures ∙ ap (λ n. state_in (thread_at c.args.processes.now n)) (sym same)))

pub returns : goal.returns
returns c = λ t. c.loop-t.invariant t (c.in_default.ensures.none t)
