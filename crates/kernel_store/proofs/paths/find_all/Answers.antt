use Rattle.std.proofs.Common.{ap, arith, length, sym, true≢false, ◌∙◌}
use Rattle.spec_records.specs.Words.{state_in, thread_at}
use Rattle.proc_table.specs.Words.{is_awaiting}
use Rattle.dk_base.proofs.ThreadMembers.{first_taken}
use Rattle.kernel_store.specs.Turning.{is_found_at}
use Rattle.kernel_store.proofs.Knowing.{asked}
use Rattle.kernel_store.proofs.paths.find_all.Goals as goal

pub loop-t-init : goal.loop-t-init
loop-t-init c = λ u path e out. absurd (true≢false (sym (ap is_awaiting e) ∙ sym (c.awaiting-rest.ensures u) ∙ out))

pub loop-t-smaller : goal.loop-t-smaller
loop-t-smaller c =
    let t = c.in-Some.ensures in
    omega (arith, ap length (first_taken c.loop-t.rest c.put.new.self c.in-Some.t.0 t.first c.put.ensures t.within.0 t.within.1))

pub loop-t-preserved : goal.loop-t-preserved
loop-t-preserved c =
    λ u path e.
    asked c.loop-t.named c.put-in-Some.new.self c.loop-t.rest c.put.new.self c.in-Some.t.0 u c.is_found.result _ (c.put-in-Some.ensures u) (c.put.ensures u)
    (c.loop-t.invariant u path e)
    (λ same. c.is_found.ensures ∙ ap (is_found_at c.args.names.now.names) (c.state.ensures ∙ ap (λ n. state_in (thread_at c.args.processes.now n)) (sym same) ∙ e))

pub returns : goal.returns
returns c = record { known = λ u path e. c.loop-t.invariant u path e (c.in_default.ensures.none u) }
