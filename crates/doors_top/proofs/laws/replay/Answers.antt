use Rattle.doors_top.proofs.Replays.{replayed}
use Rattle.doors_top.proofs.laws.replay.Goals as goal

pub returns : goal.returns
returns c source script turns spelled allowed over within =
    replayed script turns
    (c.spelled_is_read.ensures _ _ (c.replay.ensures.spelled source script turns spelled allowed))
    within
    (c.replay.ensures.unrefused script turns allowed)
    (c.replay.ensures.turns script turns allowed over)
    (c.replay.ensures.run script turns turns)
    (c.replay.ensures.text script turns)
