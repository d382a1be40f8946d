use Rattle.std.proofs.Common.{sym, ap, ◌∙◌}
use Rattle.spec_records.specs.Words.{change_thread}
use Rattle.exit_paths.specs.Words.{deserted_as, parks_again}
use Rattle.exit_paths.proofs.Fated.{agrees_cancelled, change_nothing}
use Rattle.exit_paths.proofs.fates.desert.Goals as goal

pub returns-in-Stays-clause-thread : goal.returns-in-Stays-clause-thread
returns-in-Stays-clause-thread c =
    sym (change_nothing c.args.processes.now c.args.t.0)
    ∙ ap (λ d. change_thread c.args.processes.now c.args.t.0 (deserted_as c.args.now d)) (sym c.in-Stays.is)

pub returns-in-IsCancelled-clause-agreed : goal.returns-in-IsCancelled-clause-agreed
returns-in-IsCancelled-clause-agreed c = λ doors tree list h. rw c.cancel.ensures (agrees_cancelled h c.args.t.0)

pub park_again-requires : goal.park_again-requires
park_again-requires c = c.requires (ap parks_again c.in-Parks.is)
