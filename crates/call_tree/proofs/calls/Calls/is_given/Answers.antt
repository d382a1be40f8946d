use Rattle.std.proofs.Common.{ap, is_some, sym, ◌∙◌}
use Rattle.call_tree.specs.Calls.{is_given}
use Rattle.call_tree.specs.Words.{is_call}
use Rattle.call_tree.proofs.Keys.{found_is, narrow_first, nowhere, of_number}
use Rattle.call_tree.proofs.calls.Calls.is_given.Goals as goal

pub returns-in-Some : goal.returns-in-Some
returns-in-Some c =
    rw (← c.self.view_is)
    (c.is_given.ensures
    ∙ sym (found_is (of_number c.of_number.ensures.single c.args.c) (λ r. is_given r.stage) (narrow_first (is_call c.args.c) (λ r. is_given r.stage)) c.in-Some.key c.at.result.now c.at.ensures.call c.in-Some.ensures.found))

pub returns-in-None : goal.returns-in-None
returns-in-None c =
    rw (← c.self.view_is) (sym (ap is_some (nowhere (of_number c.of_number.ensures.single c.args.c) (narrow_first (is_call c.args.c) (λ r. is_given r.stage)) c.in-None.ensures.found)))
