use Rattle.std.proofs.Common.{flat_map, length, sym, ap, ◌∙◌, arith}
use Rattle.spec_records.specs.Words.{CallTree}
use Rattle.call_tree.specs.Words.{transit_in}
use Rattle.fork_step.proofs.Abandoned.{none_after, transit_after}
use Rattle.fork_step.proofs.forking.fork_call.Goals as goal

pub returns-in_default-clause-tree : goal.returns-in_default-clause-tree
returns-in_default-clause-tree c = none_after c.args.calls.now.tree c.args.t.0 c.are_sound.ensures.live (sym c.in_default.ensures)

pub append-requires : goal.append-requires
append-requires c =
    let tree = c.args.calls.now.tree in
    let left = ap length (c.slice.ensures ∙ c.abandon-left.ensures.dropped) in
    omega (arith, left, transit_after tree c.args.t.0 c.are_sound.ensures.live, c.requires.dropped_room)

pub returns-clause-dropped_left : goal.returns-clause-dropped_left
returns-clause-dropped_left c =
    let tree = c.args.calls.now.tree in
    let left = ap length (c.slice.ensures ∙ c.abandon-left.ensures.dropped) in
    let after = ap (λ (t : CallTree). length (flat_map transit_in t.calls)) c.abandon-left.ensures.tree in
    omega (arith, left, after, transit_after tree c.args.t.0 c.are_sound.ensures.live, c.requires.dropped_room, c.append.ensures.spare)
