use Rattle.std.proofs.Common.{ap, sym}
use Rattle.spec_records.specs.declared.record.CallStage.TheVariants as stage
use Rattle.spec_records.specs.Words.{at_stage, is_queued, tid}
use Rattle.call_tree.specs.Words.{is_call}
use Rattle.call_tree.proofs.Keys.{changes, known_there, looked_up, narrow_first, of_number, only_narrow, queued_is, there}
use Rattle.call_tree.proofs.Ties.{and_second}
use Rattle.call_tree.proofs.calls.Calls.give.Goals as goal

pub known-key-requires : goal.known-key-requires
known-key-requires c = known_there (of_number c.of_number.ensures.single c.args.c) (narrow_first (is_call c.args.c) (λ r. is_queued r.stage)) c.of_number.result c.of_number.ensures.found (rw (← c.self.view_is) at c.requires.queued)

pub give-requires-clause-queued : goal.give-requires-clause-queued
give-requires-clause-queued c =
    let w = looked_up (is_call c.args.c) _ c.of_number.result c.known-key.result c.of_number.ensures.found c.known-key.ensures in
    (w.0, w.1, queued_is w.0.stage (and_second _ _ (there (of_number c.of_number.ensures.single c.args.c) (narrow_first (is_call c.args.c) (λ r. is_queued r.stage)) c.known-key.result w.0 w.1 w (rw (← c.self.view_is) at c.requires.queued))))

pub returns-clause-tree : goal.returns-clause-tree
returns-clause-tree c =
    let o = of_number c.of_number.ensures.single c.args.c in
    let n = narrow_first (is_call c.args.c) (λ r. is_queued r.stage) in
    let w = looked_up (is_call c.args.c) _ c.of_number.result c.known-key.result c.of_number.ensures.found c.known-key.ensures in
    let k = c.known-key.result in
    let test = there o n k w.0 w.1 w (rw (← c.self.view_is) at c.requires.queued) in
    rw (← c.self.view_is, c.give.ensures w.0 w.1)
    (ap (λ rs. record { made = c.self.inside.index.made; calls = rs }) (sym (changes (only_narrow o n) (at_stage (stage.Given (tid c.args.u.0))) k w.0 w.1 test)))

pub returns-clause-spare : goal.returns-clause-spare
returns-clause-spare c =
    let w = looked_up (is_call c.args.c) _ c.of_number.result c.known-key.result c.of_number.ensures.found c.known-key.ensures in
    rw (← c.self.view_is) (ap (λ v. v.spare) (c.give.ensures w.0 w.1))
