use Rattle.spec_records.specs.Words.{leaving_of}
use Rattle.kernel_store.proofs.leaving.leave_notices.Given as goal

-- by what the tests refer to
abbrev pub ghost-leave : goal.ghost-leave
ghost-leave a =
    let doors = a.loses.1.now.items in
    record { who = leaving_of a.ends.1.now doors a.ends.0.now; doors = doors }
