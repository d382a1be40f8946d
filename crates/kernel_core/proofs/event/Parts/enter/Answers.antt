use Rattle.std.proofs.Common.{sym, true≢false, ◌∙◌}
use Rattle.kernel_store.specs.Words.{stored_state}
use Rattle.kernel_core.proofs.CacheLines.{line_step}
use Rattle.kernel_core.proofs.event.Parts.enter.Goals as goal

pub returns-then-is_cache_line-clause-step : goal.returns-then-is_cache_line-clause-step
returns-then-is_cache_line-clause-step c =
    let line = sym c.is_cache_line.ensures ∙ c.if-is_cache_line.true in
    line_step (stored_state c.args.self.now.store) (stored_state c.count_line.new.self.store) c.args.t.0 c.args.request c.count_line.result line
    c.requires.can_step.none_past (c.requires.counts line) c.count_line.ensures.state c.count_line.ensures.answer c.count_line.ensures.woken

pub returns-else-is_cache_line-clause-no_memory : goal.returns-else-is_cache_line-clause-no_memory
returns-else-is_cache_line-clause-no_memory c = λ line. absurd (true≢false (sym line ∙ sym c.is_cache_line.ensures ∙ c.if-is_cache_line.false))
