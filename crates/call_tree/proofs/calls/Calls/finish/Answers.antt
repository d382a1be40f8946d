use Rattle.std.proofs.Common.{ap, sym}
use Rattle.spec_records.specs.declared.record.CallStage.TheVariants as stage
use Rattle.spec_records.specs.Words.{is_served_by, without_arguments_at}
use Rattle.call_tree.proofs.Keys.{changes, found, known_there, looked_up, narrow_client, of_server, only_narrow, served_moved, there}
use Rattle.call_tree.proofs.calls.Calls.finish.Goals as goal

pub known-key-requires : goal.known-key-requires
known-key-requires c = known_there (of_server c.of_server.ensures.single c.args.u.0) (narrow_client c.args.u.0) c.of_server.result c.of_server.ensures.found (rw (← c.self.view_is) at c.requires)

pub returns-clause-tree : goal.returns-clause-tree
returns-clause-tree c =
    let o = of_server c.of_server.ensures.single c.args.u.0 in
    let n = narrow_client c.args.u.0 in
    let w = looked_up (is_served_by c.args.u.0) _ c.of_server.result c.known-key.result c.of_server.ensures.found c.known-key.ensures in
    let k = c.known-key.result in
    let r = c.end.result in
    let l = c.end.ensures.before in
    let test = there o n k r l w (rw (← c.self.view_is) at c.requires) in
    let s = stage.Returned c.args.bytes c.args.objects in
    rw (← c.self.view_is, c.end.ensures.after, served_moved c.args.u.0 r s (found o k r l w))
    (ap (λ rs. record { made = c.self.inside.index.made; calls = rs }) (sym (changes (only_narrow o n) (without_arguments_at s) k r l test)))
