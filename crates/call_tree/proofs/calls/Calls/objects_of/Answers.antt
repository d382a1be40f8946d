use Rattle.std.proofs.Common.{ap, length, sym, ◌∙◌}
use Rattle.call_tree.specs.Words.{is_call}
use Rattle.call_tree.specs.Calls.{is_waiting}
use Rattle.call_tree.specs.Walks.{argument_objects}
use Rattle.call_tree.proofs.Keys.{arguments_of, finds, found, known_there, looked_up, narrow_first, of_number, there, waiting_open}
use Rattle.call_tree.proofs.Ties.{and_second}
use Rattle.call_tree.proofs.calls.Calls.objects_of.Goals as goal

pub known-key-requires : goal.known-key-requires
known-key-requires c = known_there (of_number c.of_number.ensures.single c.args.c) (narrow_first (is_call c.args.c) (λ r. is_waiting r.stage)) c.of_number.result c.of_number.ensures.found (rw (← c.self.view_is) at c.requires)

pub returns : goal.returns
returns c =
    let o = of_number c.of_number.ensures.single c.args.c in
    let w = looked_up (is_call c.args.c) _ c.of_number.result c.known-key.result c.of_number.ensures.found c.known-key.ensures in
    let k = c.known-key.result in
    let r = c.at.result.now in
    let l = c.at.ensures.call in
    let waits = and_second _ _ (there o (narrow_first (is_call c.args.c) (λ r. is_waiting r.stage)) k r l w (rw (← c.self.view_is) at c.requires)) in
    rw (← c.self.view_is)
    (c.len.ensures
    ∙ ap length (arguments_of r (c.at.ensures.single.sound k r l) (waiting_open r.stage waits) ∙ sym (ap argument_objects (finds o k r l (found o k r l w)))))
