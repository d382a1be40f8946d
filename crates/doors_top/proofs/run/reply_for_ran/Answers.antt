use Rattle.std.proofs.Common.{arith}
use Rattle.doors_top.proofs.Runs.{is_run}
use Rattle.doors_top.proofs.run.reply_for_ran.Goals as goal

pub returns-clause-run : goal.returns-clause-run
returns-clause-run c =
    is_run c.turns_of_texts.ensures.traces c.legal_traces.ensures.again c.fronts_of_runs.ensures.found c.args.ran.now.sys c.args.ran.now.tail _ _
    (record {
      spelled = c.requires.spelled;
      allowed = c.events.ensures.run.allowed;
      over = c.requires.over;
      few = omega (arith, c.requires.sum);
      of_end = c.in_ok-reply.ensures.status;
      written = c.in_ok-reply.ensures.text;
      laws = c.requires.laws;
    })
