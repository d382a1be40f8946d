use Rattle.std.proofs.Common.{ap, sym, ◌∙◌}
use Rattle.dk_base.specs.declared.error.Errno.TheVariants.{EINTR}
use Rattle.spec_records.specs.declared.record.CallStage.TheVariants as stage
use Rattle.spec_records.specs.Words.{is_served_by, without_arguments_at}
use Rattle.spec_records.proofs.Places.{change_first-none}
use Rattle.call_tree.specs.Walks.{argument_objects}
use Rattle.call_tree.proofs.Keys.{changes, finds, found, of_server, served_arguments, served_moved}
use Rattle.call_tree.proofs.calls.Calls.server_left.Goals as goal

pub returns-in_default-clause-tree : goal.returns-in_default-clause-tree
returns-in_default-clause-tree c =
    rw (← c.self.view_is)
    (ap (λ rs. record { made = c.self.inside.index.made; calls = rs }) (sym (change_first-none (is_served_by c.args.u.0) (without_arguments_at (stage.Ended EINTR)) _ c.in_default.ensures.found)))

pub returns-clause-tree : goal.returns-clause-tree
returns-clause-tree c =
    let o = of_server c.of_server.ensures.single c.args.u.0 in
    let k = c.in-Some.key in
    let r = c.end.result in
    let l = c.end.ensures.before in
    let test = found o k r l c.in-Some.ensures.found in
    let s = stage.Ended EINTR in
    rw (← c.self.view_is, c.end.ensures.after, served_moved c.args.u.0 r s test)
    (ap (λ rs. record { made = c.self.inside.index.made; calls = rs }) (sym (changes o (without_arguments_at s) k r l test)))

pub returns-clause-objects : goal.returns-clause-objects
returns-clause-objects c =
    let o = of_server c.of_server.ensures.single c.args.u.0 in
    let k = c.in-Some.key in
    let r = c.end.result in
    let l = c.end.ensures.before in
    let test = found o k r l c.in-Some.ensures.found in
    rw (← c.self.view_is) (served_arguments c.args.u.0 r (c.of_server.ensures.single.sound k r l) test ∙ sym (ap argument_objects (finds o k r l test)))
