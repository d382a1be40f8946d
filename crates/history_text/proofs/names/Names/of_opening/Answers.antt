use Rattle.history_text.proofs.ShortKept.{limited_opening}
use Rattle.history_text.proofs.names.Names.of_opening.Goals as goal

pub invariant_of-result : goal.invariant_of-result
invariant_of-result c =
    limited_opening c.args.processes.now c.args.threads.now _ _ _ _ c.requires.processes c.requires.threads c.in_ok-processes_of.ensures c.in_ok-threads_of.ensures c.new.ensures.items c.new-2.ensures
