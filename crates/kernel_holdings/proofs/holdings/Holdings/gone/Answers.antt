use Rattle.std.proofs.Common.{◌+◌, ◌==◌, ◌&&◌, ◌||◌, ap, if◌then◌else◌, ◌∙◌}
use Rattle.std.specs.List.{list_any}
use Rattle.spec_records.specs.Words.{count_object, is_object}
use Rattle.unref_notice.specs.Words.{is_pipe_end, was_referred_to}
use Rattle.kernel_holdings.proofs.holdings.Holdings.gone.Goals as goal

pub returns-clause-each : goal.returns-clause-each
returns-clause-each c =
    λ o.
    let h = c.self.inside in
    rw (← c.self.view_is)
    (c.gone.ensures.each o
    ∙ ap
    (λ n. count_object o c.args.into.now.items + (if is_pipe_end o && (was_referred_to h.counts.opening o && (n == 0)) then 1 else 0))
    (c.self.invariant.0 o))

pub returns-clause-members : goal.returns-clause-members
returns-clause-members c =
    λ o.
    let h = c.self.inside in
    rw (← c.self.view_is)
    (c.gone.ensures.members o
    ∙ ap (λ n. list_any (is_object o) c.args.into.now.items || (is_pipe_end o && (was_referred_to h.counts.opening o && (n == 0)))) (c.self.invariant.0 o))
