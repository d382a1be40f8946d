use Rattle.std.proofs.Common.{◌≡◌, ap, filter, rules, ◌∙◌}
use Rattle.indexmap.proofs.CallerLemmas.{filter-RetainsPairs}
use Rattle.port_assoc.specs.Rows.{count_at, is_row_of_other_process}
use Rattle.port_assoc.proofs.Counted.{others_kept}
use Rattle.port_assoc.proofs.rows.Rows.end_process.Goals as goal

pub returns-clause-counts : goal.returns-clause-counts
returns-clause-counts c r =
    let es = c.self.inside.counts.entries in
    let kept : c.retain.new.self.entries ≡ filter (λ e. is_row_of_other_process c.args.process.0 e.0) es =
    filter-RetainsPairs _ _ _ (λ k v b w g call. search rules) _ _ c.retain.ensures.filtered in
    rw (← c.self.view_is) (ap (λ xs. count_at xs r) kept ∙ others_kept c.args.process.0 es r)
