use Rattle.std.proofs.Common.{sym}
use Rattle.sys_run.proofs.Scheduling.{HasScheduled-none, HasScheduled-more, HasPlayed-all, IsRefused-here, next_scheduled}
use Rattle.sys_run.proofs.sys.Sys.play_schedule.Goals as goal

pub loop-t-init : goal.loop-t-init
loop-t-init c = HasScheduled-none _ c.requires

pub step-requires-clause-left : goal.step-requires-clause-left
step-requires-clause-left c = (next_scheduled c.loop-t.self c.in-Some.t c.in-Some.ensures).left

pub returns-then-not-runnable-clause-played : goal.returns-then-not-runnable-clause-played
returns-then-not-runnable-clause-played c =
    rw c.events.ensures.count
    (IsRefused-here _ _ _ c.loop-t.invariant c.events.ensures.run c.in-Some.ensures (sym c.if-not-runnable.ensures))

pub loop-t-preserved : goal.loop-t-preserved
loop-t-preserved c =
    rw c.in_ok-step.ensures.event
    (HasScheduled-more _ _ _ c.loop-t.invariant c.in-Some.ensures (sym c.if-not-runnable.ensures))

pub returns-clause-played : goal.returns-clause-played
returns-clause-played c = HasPlayed-all _ _ c.loop-t.invariant c.in_default.ensures
