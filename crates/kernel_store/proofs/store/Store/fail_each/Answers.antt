use Rattle.std.proofs.Common.{sym, true≢false, ◌∙◌}
use Rattle.kernel_store.proofs.FailingParts.{failing_more, failing_none, next_failed}
use Rattle.kernel_store.proofs.store.Store.fail_each.Goals as goal

pub loop-t-init : goal.loop-t-init
loop-t-init c = record { failing = failing_none c.args.self.now; done = λ t e f. absurd (true≢false (sym e ∙ f)) }

pub loop-t-preserved : goal.loop-t-preserved
loop-t-preserved c =
    let e = c.fail_where_lost.ensures in
    record {
      failing = failing_more c.args.self.now c.loop-t.self c.fail_where_lost.new.self c.loop-t.invariant.failing e.failing;
      done =
          next_failed c.loop-t.self c.fail_where_lost.new.self c.args.threads c.loop-t.rest c.take_least.new.set c.in-Some.t.0 c.loop-t.invariant.done
          c.in-Some.ensures.others e.failing e.gone;
    }

pub returns-clause-none : goal.returns-clause-none
returns-clause-none c = λ t e. c.loop-t.invariant.done t e (c.in_default.ensures.none t)
