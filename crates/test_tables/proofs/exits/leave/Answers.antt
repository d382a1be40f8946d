use Rattle.test_tables.proofs.exits.leave.Goals as goal

pub revoke_all-requires-clause-can : goal.revoke_all-requires-clause-can
revoke_all-requires-clause-can c = (0, c.requires.can)
