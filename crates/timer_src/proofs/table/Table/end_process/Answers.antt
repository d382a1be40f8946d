use Rattle.std.proofs.Common.{◌≡◌, ap, filter, rules, ◌∙◌}
use Rattle.indexmap.proofs.CallerLemmas.{filter-RetainsPairs}
use Rattle.timer_src.specs.Keys.{is_key_of_other_process}
use Rattle.timer_src.specs.Table.{timers_in}
use Rattle.timer_src.proofs.Entries.{others_in}
use Rattle.timer_src.proofs.table.Table.end_process.Goals as goal

pub returns-clause-items : goal.returns-clause-items
returns-clause-items c =
    let es = c.self.inside.entries.entries in
    let kept : c.retain.new.self.entries ≡ filter (λ e. is_key_of_other_process c.args.process.0 e.0) es =
    filter-RetainsPairs _ _ _ (λ k v b w g call. search rules) _ _ c.retain.ensures.filtered in
    rw (← c.self.view_is) (ap timers_in kept ∙ others_in c.args.process.0 es)
