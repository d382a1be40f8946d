use Rattle.exit_paths.proofs.fates.end_thread.Goals as goal

pub returns-clause-agreed : goal.returns-clause-agreed
returns-clause-agreed c = λ n doors tree list h. rw c.end_thread.ensures.state (c.take_out.ensures.agreed n doors tree list h)
