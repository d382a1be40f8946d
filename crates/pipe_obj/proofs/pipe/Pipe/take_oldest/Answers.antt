use Rattle.std.proofs.Common.{rules}
use Rattle.pipe_obj.proofs.Halves.{take_halves}
use Rattle.pipe_obj.proofs.pipe.Pipe.take_oldest.Goals as goal

pub returns-clause-taken : goal.returns-clause-taken
returns-clause-taken c =
    let all = take_halves c.args.into.now.items c.as_slices.result.0.now c.as_slices.result.1.now _ _ c.args.max _ _ c.as_slices.ensures c.len-held.ensures.len c.min-count.ensures c.min-first.ensures in
    search rules
