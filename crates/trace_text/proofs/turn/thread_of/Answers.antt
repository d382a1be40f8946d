use Rattle.std.proofs.Common.{ap, sym, ◌∙◌}
use Rattle.std.specs.Prelude.{option_copied}
use Rattle.trace_text.proofs.NamedThreads.{named_by}
use Rattle.trace_text.proofs.turn.thread_of.Goals as goal

pub returns-clause-named : goal.returns-clause-named
returns-clause-named c =
    named_by c.args.script.now c.args.line.now c.in_ok-second_word.field-0.now c.thread_named.result
    (sym c.second_word.ensures ∙ ap option_copied c.in_ok-second_word.was)
    c.thread_named.ensures
