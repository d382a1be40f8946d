use Rattle.std.proofs.Common.{rules}
use Rattle.std.proofs.lemmas.Fn.{filter_same}
use Rattle.timer_src.specs.Pending.{is_pending_of_other}
use Rattle.timer_src.proofs.armed.Armed.end_process.Goals as goal

pub returns-clause-items : goal.returns-clause-items
returns-clause-items c = rw (← c.self.view_is) (filter_same _ (is_pending_of_other c.args.process.0) _ (λ x b f' k. search rules) _ _ c.retain.ensures.filtered)
