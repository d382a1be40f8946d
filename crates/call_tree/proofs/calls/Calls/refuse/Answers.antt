use Rattle.std.proofs.Common.{ap, sym, ◌∙◌}
use Rattle.spec_records.specs.declared.record.CallStage.TheVariants as stage
use Rattle.spec_records.specs.Words.{is_given_to, without_arguments_at}
use Rattle.call_tree.specs.Words.{is_call}
use Rattle.call_tree.specs.Calls.{is_waiting}
use Rattle.call_tree.specs.Walks.{argument_objects}
use Rattle.call_tree.proofs.Keys.{arguments_of, changes, finds, found, known_there, looked_up, narrow_first, of_number, only_narrow, there, waiting_moved, waiting_open}
use Rattle.call_tree.proofs.Ties.{and_second}
use Rattle.call_tree.proofs.calls.Calls.refuse.Goals as goal

pub known-key-requires : goal.known-key-requires
known-key-requires c = known_there (of_number c.of_number.ensures.single c.args.c) (narrow_first (is_call c.args.c) (λ r. is_waiting r.stage)) c.of_number.result c.of_number.ensures.found (rw (← c.self.view_is) at c.requires)

pub returns-clause-tree : goal.returns-clause-tree
returns-clause-tree c =
    let o = of_number c.of_number.ensures.single c.args.c in
    let w = looked_up (is_call c.args.c) _ c.of_number.result c.known-key.result c.of_number.ensures.found c.known-key.ensures in
    let k = c.known-key.result in
    let r = c.end-call.result in
    let l = c.end-call.ensures.before in
    let test = there o (narrow_first (is_call c.args.c) (λ r. is_waiting r.stage)) k r l w (rw (← c.self.view_is) at c.requires) in
    let s = stage.Ended c.args.e in
    let waits = and_second _ _ test in
    rw (← c.self.view_is, c.end-call.ensures.after, waiting_moved r s (c.of_number.ensures.single.sound k r l) waits)
    (ap (λ rs. record { made = c.self.inside.index.made; calls = rs }) (sym (changes o (without_arguments_at s) k r l (found o k r l w))))

pub returns-clause-failed : goal.returns-clause-failed
returns-clause-failed c =
    let o = of_number c.of_number.ensures.single c.args.c in
    let w = looked_up (is_call c.args.c) _ c.of_number.result c.known-key.result c.of_number.ensures.found c.known-key.ensures in
    let k = c.known-key.result in
    let r = c.end-call.result in
    let l = c.end-call.ensures.before in
    let test = there o (narrow_first (is_call c.args.c) (λ r. is_waiting r.stage)) k r l w (rw (← c.self.view_is) at c.requires) in
    let s = stage.Ended c.args.e in
    let waits = and_second _ _ test in
    rw (← c.self.view_is, c.end-call.ensures.after, waiting_moved r s (c.of_number.ensures.single.sound k r l) waits)
    (λ t h e.
    let n = narrow_first (is_call c.args.c) (λ x. is_given_to t x.stage) in
    rw (← e) (ap (λ rs. record { made = c.self.inside.index.made; calls = rs }) (sym (changes (only_narrow o n) (without_arguments_at s) k r l (there o n k r l w h)))))

pub returns-clause-objects : goal.returns-clause-objects
returns-clause-objects c =
    let o = of_number c.of_number.ensures.single c.args.c in
    let w = looked_up (is_call c.args.c) _ c.of_number.result c.known-key.result c.of_number.ensures.found c.known-key.ensures in
    let k = c.known-key.result in
    let r = c.end-call.result in
    let l = c.end-call.ensures.before in
    let test = there o (narrow_first (is_call c.args.c) (λ r. is_waiting r.stage)) k r l w (rw (← c.self.view_is) at c.requires) in
    rw (← c.self.view_is)
    (arguments_of r (c.of_number.ensures.single.sound k r l) (waiting_open r.stage (and_second _ _ test))
    ∙ sym (ap argument_objects (finds o k r l (found o k r l w))))
