use Rattle.std.proofs.Common.{sym, ◌∙◌}
use Rattle.doors_top.proofs.Plays.{play_turns, played_ok, played_bad}
use Rattle.doors_top.proofs.play.play.Goals as goal

pub returns-in_ok-reply-in-Ok-clause-said : goal.returns-in_ok-reply-in-Ok-clause-said
returns-in_ok-reply-in-Ok-clause-said c =
    let reply = c.in_ok-reply-in-Ok.ensures in
    played_ok _ _ _ _ (sym c.in_ok-script.ensures.script ∙ c.in-Ok.is) reply.status reply.text c.script_in.ensures.spelled
    (play_turns _ c.played_turns.ensures.whole c.played_turns.ensures.refused) reply.laws

pub returns-in_ok-reply-in-Err-clause-said : goal.returns-in_ok-reply-in-Err-clause-said
returns-in_ok-reply-in-Err-clause-said c =
    let reply = c.in_ok-reply-in-Err.ensures in
    played_bad _ _ _ _ (sym c.in_ok-script.ensures.script ∙ c.in-Err.is) reply.status reply.text c.script_in.ensures.spelled
    (play_turns _ c.played_turns.ensures.whole c.played_turns.ensures.refused)
