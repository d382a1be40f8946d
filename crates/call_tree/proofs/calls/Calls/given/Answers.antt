use Rattle.std.proofs.Common.{sym, ◌∙◌}
use Rattle.call_tree.proofs.Keys.{finds, misses, narrow_given, nowhere, of_server, only_narrow}
use Rattle.call_tree.proofs.calls.Calls.given.Goals as goal

pub returns-in_default : goal.returns-in_default
returns-in_default c =
    rw (← c.self.view_is) (sym (nowhere (of_server c.of_server.ensures.single c.args.t.0) (narrow_given c.of_server.ensures.single c.args.c c.args.t.0) c.in_default.ensures.found))

pub returns-then-is_given_as : goal.returns-then-is_given_as
returns-then-is_given_as c =
    let o = of_server c.at-call.ensures.single c.args.t.0 in
    let q = only_narrow o (narrow_given c.at-call.ensures.single c.args.c c.args.t.0) in
    let r = c.at-call.result.now in
    rw (← c.self.view_is) (sym (finds q c.in-Some.key r c.at-call.ensures.call (sym c.is_given_as.ensures ∙ c.if-is_given_as.true)))

pub returns-else-is_given_as : goal.returns-else-is_given_as
returns-else-is_given_as c =
    let o = of_server c.at-call.ensures.single c.args.t.0 in
    let r = c.at-call.result.now in
    rw (← c.self.view_is) (sym (misses o (narrow_given c.at-call.ensures.single c.args.c c.args.t.0) c.in-Some.key r c.at-call.ensures.call c.in-Some.ensures.found (sym c.is_given_as.ensures ∙ c.if-is_given_as.false)))
