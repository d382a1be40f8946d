use Rattle.std.proofs.Common.{sym, ◌∙◌}
use Rattle.doors_top.proofs.Runs.{ran_bad, ran_ok, spelled_of}
use Rattle.doors_top.proofs.run.run.Goals as goal

pub run_script-requires-after_bounds : goal.run_script-requires-after_bounds
run_script-requires-after_bounds g c κs within =
    spelled_of c.read_is_spelled.ensures _ c.in-Ok.script (sym c.in_ok-script.ensures.script ∙ c.in-Ok.is)

pub returns-in_ok-reply-in-Ok-clause-said : goal.returns-in_ok-reply-in-Ok-clause-said
returns-in_ok-reply-in-Ok-clause-said g c =
    ran_ok _ _ _ _ (sym c.in_ok-script.ensures.script ∙ c.in-Ok.is) c.script_in.ensures.spelled c.in_ok-reply-in-Ok.ensures.run

pub returns-in_ok-reply-in-Err-clause-said : goal.returns-in_ok-reply-in-Err-clause-said
returns-in_ok-reply-in-Err-clause-said g c =
    let reply = c.in_ok-reply-in-Err.ensures in
    ran_bad _ _ _ _ (sym c.in_ok-script.ensures.script ∙ c.in-Err.is) reply.status reply.text c.script_in.ensures.spelled
