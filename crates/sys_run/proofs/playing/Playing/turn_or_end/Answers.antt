use Rattle.std.proofs.Common.{◌+◌, ap, sym, ◌∙◌, subst, option_map}
use Rattle.spec_scripts.specs.Words.{tid_number}
use Rattle.sys_run.specs.Playing.{first_events}
use Rattle.sys_run.specs.Schedules.{IsBefore, refusal_at}
use Rattle.sys_run.specs.Sys.{state_of_run}
use Rattle.sys_run.proofs.FirstTurns.{is_before, is_play, so_far}
use Rattle.sys_run.proofs.Journals.{events-counted}
use Rattle.sys_run.proofs.playing.Playing.turn_or_end.Goals as goal

pub returns-in-Some-2-clause-ended : goal.returns-in-Some-2-clause-ended
returns-in-Some-2-clause-ended c =
    let s = c.self.inside.script
    in let n = c.self.inside.kernel.events
    in let p = so_far s n
    in let stands = c.self.invariant.kernel_stands
    in rw (← c.self.view_is)
    (subst (λ k. IsBefore s (refusal_at (k + 1) c.in-Some.t.0) p) (sym (c.events.ensures.count ∙ events-counted p _ stands))
    (is_before s n c.in-Some.t c.self.invariant.journal_is_run (sym c.in-Some.is ∙ c.next_scheduled.ensures (first_events s n) stands)
    (sym (c.runnable.ensures.stands (state_of_run p) stands) ∙ c.if-runnable.false)))

pub returns-in-None-next_thread-clause-ended : goal.returns-in-None-next_thread-clause-ended
returns-in-None-next_thread-clause-ended c =
    let s = c.self.inside.script
    in let n = c.self.inside.kernel.events
    in let stands = c.self.invariant.kernel_stands
    in rw (← c.self.view_is)
    (is_play s n (sym c.in-None.is ∙ c.next_scheduled.ensures (first_events s n) stands)
    (sym (c.next_thread.ensures (first_events s n) stands) ∙ ap (option_map tid_number) c.in-None-next_thread.is))
