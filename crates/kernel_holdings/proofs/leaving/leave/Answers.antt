use Rattle.kernel_holdings.proofs.leaving.leave.Goals as goal

pub revoke_all-requires-clause-can : goal.revoke_all-requires-clause-can
revoke_all-requires-clause-can c = (c.args.step, c.requires.can)
