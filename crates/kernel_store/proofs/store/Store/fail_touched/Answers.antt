use Rattle.std.proofs.Common.{◌∙◌}
use Rattle.kernel_store.proofs.FailingParts.{all_failed}
use Rattle.kernel_store.proofs.store.Store.fail_touched.Goals as goal

pub returns-clause-state : goal.returns-clause-state
returns-clause-state c =
    all_failed c.args.self.now c.fail_parked.new.self c.fail_each.new.self c.args.touched c.args.parked c.requires c.fail_parked.ensures.failing
    c.fail_parked.ensures.none c.fail_each.ensures.failing c.fail_each.ensures.none

pub returns-clause-given_out : goal.returns-clause-given_out
returns-clause-given_out c = λ set pool out. c.fail_each.ensures.failing.given_out set pool (c.fail_parked.ensures.failing.given_out set pool out)

pub returns-clause-latest : goal.returns-clause-latest
returns-clause-latest c = c.fail_each.ensures.failing.latest ∙ c.fail_parked.ensures.failing.latest
