use Rattle.std.specs.Prelude.{◌==◌, ◌||◌, false}
use Rattle.test_tables.proofs.notices.leaves.Given as goal

-- as the test says
abbrev pub ghost-leave : goal.ghost-leave
ghost-leave a =
    record { who = record { ends = λ t. (t == 6) || (t == 7); interrupts = λ t. false; loses = λ d. d == 1 }; doors = a.takes_many.0.now.items }
