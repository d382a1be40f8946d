use Rattle.std.proofs.Common.{ℕ, ◌∙◌, List, [], sym, subst, refl, arith}
use Rattle.std.specs.Prelude.{codes}
use Rattle.spec_requests.specs.Words.{no_variables, set_variable, with_both}
use Rattle.thread_machine.specs.Slots.{Slot, Holds, greatest_name}
use Rattle.thread_machine.proofs.Slotted.{Holds-none}
use Rattle.thread_machine.proofs.machine.Machine.set_arguments.Goals as goal

pub set-requires-clause-name : goal.set-requires-clause-name
unfolding greatest_name
set-requires-clause-name c = omega arith

pub set-requires-2-clause-name : goal.set-requires-2-clause-name
unfolding greatest_name
set-requires-2-clause-name c = omega arith

pub returns : goal.returns
returns c =
    record {
      thread = refl;
      entry = refl;
      place = refl;
      known = refl;
      variables =
          subst
          (λ (text : List ℕ).
          Holds
          c.set-2.new.self.set
          (set_variable
          (set_variable no_variables (codes "arg") (with_both c.args.bytes.now c.args.fds.now))
          (codes "cookie")
          (with_both text [])))
          (c.as_bytes.ensures.value ∙ c.format-text.ensures.text)
          (c.set-2.ensures.held
          (set_variable no_variables (codes "arg") (with_both c.args.bytes.now c.args.fds.now))
          (c.set.ensures.held
          no_variables
          (subst (λ (slots : List Slot). Holds slots no_variables) (sym c.requires.none) Holds-none)));
    }
