use Rattle.test_tables.proofs.notices.ends.Given as goal

-- by what the test refers to
abbrev pub ghost-end : goal.ghost-end
ghost-end a = a.takes_many.0.now.items
