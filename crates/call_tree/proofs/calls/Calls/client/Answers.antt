use Rattle.std.proofs.Common.{sym, ◌∙◌}
use Rattle.call_tree.proofs.Keys.{finds, misses, narrow_client, nowhere, of_server, only_narrow}
use Rattle.call_tree.proofs.calls.Calls.client.Goals as goal

pub returns-in_default : goal.returns-in_default
returns-in_default c =
    rw (← c.self.view_is) (sym (nowhere (of_server c.of_server.ensures.single c.args.t.0) (narrow_client c.args.t.0) c.in_default.ensures.found))

pub returns-then-is_client_call_of : goal.returns-then-is_client_call_of
returns-then-is_client_call_of c =
    let o = of_server c.at-call.ensures.single c.args.t.0 in
    let q = only_narrow o (narrow_client c.args.t.0) in
    let r = c.at-call.result.now in
    rw (← c.self.view_is) (sym (finds q c.in-Some.key r c.at-call.ensures.call (sym c.is_client_call_of.ensures ∙ c.if-is_client_call_of.true)))

pub returns-else-is_client_call_of : goal.returns-else-is_client_call_of
returns-else-is_client_call_of c =
    let o = of_server c.at-call.ensures.single c.args.t.0 in
    let r = c.at-call.result.now in
    rw (← c.self.view_is) (sym (misses o (narrow_client c.args.t.0) c.in-Some.key r c.at-call.ensures.call c.in-Some.ensures.found (sym c.is_client_call_of.ensures ∙ c.if-is_client_call_of.false)))
