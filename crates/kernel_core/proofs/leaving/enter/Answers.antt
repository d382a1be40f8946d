use Rattle.std.proofs.Common.{sym, subst, ◌∙◌}
use Rattle.dk_base.specs.declared.request.Request.TheVariants as request
use Rattle.kernel_store.specs.Words.{MayBegin, stored_state}
use Rattle.kernel_core.specs.Forking.{MayFork}
use Rattle.kernel_core.proofs.leaving.enter.Goals as goal

pub fork-requires-clause-may : goal.fork-requires-clause-may
fork-requires-clause-may c =
    let m = stored_state c.args.store.now in
    let may : MayFork m c.args.t.0 (request.Fork c.in-Fork.child) = subst (λ r. MayFork m c.args.t.0 r) c.in-Fork.is c.requires.may_fork in
    subst (λ p. MayBegin p c.in-Fork.child.0 m) (sym c.requires.own) (may (sym c.fork_refusal.ensures ∙ c.in-None-fork_refusal.is))
