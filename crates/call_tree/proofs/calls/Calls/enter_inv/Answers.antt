use Rattle.std.proofs.Common.{ap, sym}
use Rattle.spec_records.specs.declared.record.CallStage.TheVariants as stage
use Rattle.spec_records.specs.Words.{is_given_to, tid, without_arguments_at}
use Rattle.call_tree.specs.Words.{is_call}
use Rattle.call_tree.specs.Calls.{args_in, is_given}
use Rattle.call_tree.proofs.Keys.{changes, finds, found, known_there, looked_up, narrow_first, of_number, only_narrow, there}
use Rattle.call_tree.proofs.Ties.{and_second}
use Rattle.call_tree.proofs.Whole.{given_stage}
use Rattle.call_tree.proofs.calls.Calls.enter_inv.Goals as goal

pub known-key-requires : goal.known-key-requires
known-key-requires c = known_there (of_number c.of_number.ensures.single c.args.c) (narrow_first (is_call c.args.c) (λ r. is_given r.stage)) c.of_number.result c.of_number.ensures.found (rw (← c.self.view_is) at c.requires)

pub enter-call-requires : goal.enter-call-requires
enter-call-requires c =
    let w = looked_up (is_call c.args.c) _ c.of_number.result c.known-key.result c.of_number.ensures.found c.known-key.ensures in
    (w.0, w.1, and_second _ _ (there (of_number c.of_number.ensures.single c.args.c) (narrow_first (is_call c.args.c) (λ r. is_given r.stage)) c.known-key.result w.0 w.1 w (rw (← c.self.view_is) at c.requires)))

pub returns-clause-tree : goal.returns-clause-tree
returns-clause-tree c =
    let o = of_number c.of_number.ensures.single c.args.c in
    let w = looked_up (is_call c.args.c) _ c.of_number.result c.known-key.result c.of_number.ensures.found c.known-key.ensures in
    let k = c.known-key.result in
    let e = c.enter-call.ensures in
    let r = c.enter-call.result in
    rw (← c.self.view_is)
    (λ t h.
    let n = narrow_first (is_call c.args.c) (λ x. is_given_to t x.stage) in
    let test = there o n k r e.before w h in
    let g = and_second _ _ test in
    rw (e.after t g)
    (ap (λ rs. record { made = c.self.inside.index.made; calls = rs }) (sym (changes (only_narrow o n) (without_arguments_at (stage.Entered (tid t))) k r e.before test))))

pub returns-clause-args : goal.returns-clause-args
returns-clause-args c =
    let o = of_number c.of_number.ensures.single c.args.c in
    let w = looked_up (is_call c.args.c) _ c.of_number.result c.known-key.result c.of_number.ensures.found c.known-key.ensures in
    let l = c.enter-call.ensures.before in
    rw (← c.self.view_is) (ap args_in (finds o c.known-key.result c.enter-call.result l (found o c.known-key.result c.enter-call.result l w)))

pub returns-clause-spare : goal.returns-clause-spare
returns-clause-spare c =
    let w = looked_up (is_call c.args.c) _ c.of_number.result c.known-key.result c.of_number.ensures.found c.known-key.ensures in
    let k = c.known-key.result in
    let r = c.enter-call.result in
    let l = c.enter-call.ensures.before in
    let test = and_second _ _ (there (of_number c.of_number.ensures.single c.args.c) (narrow_first (is_call c.args.c) (λ r. is_given r.stage)) k r l w (rw (← c.self.view_is) at c.requires)) in
    let g = given_stage r.stage test in
    rw (← c.self.view_is) (ap (λ v. v.spare) (c.enter-call.ensures.after g.0 g.1))
