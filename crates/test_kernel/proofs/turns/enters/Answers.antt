use Rattle.test_kernel.proofs.turns.enters.Goals as goal

pub enter-requires-clause-fit : goal.enter-requires-clause-fit
enter-requires-clause-fit c = c.in-Ok.ensures.fit c.args.kernel.now c.args.t.0
