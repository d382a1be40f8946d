use Rattle.std.proofs.Common.{ap, ◌∙◌}
use Rattle.dk_base.specs.ByNumber.{at_number}
use Rattle.dk_base.specs.declared.object.Obj.TheVariants as obj
use Rattle.spec_kernel.specs.Words.{reference_count, references_of}
use Rattle.kernel_store.specs.Stored.{StoreValue, stored_state}
use Rattle.kernel_store.proofs.store.Store.start_step.Goals as goal

pub returns-clause-opened : goal.returns-clause-opened
returns-clause-opened c =
    record {
      counts = λ d. c.start_step.ensures.opening (obj.Door d) ∙ ap (λ (s : StoreValue). reference_count (stored_state s) d) c.self.view_is;
      all = λ o. c.start_step.ensures.opening o ∙ ap (λ (s : StoreValue). references_of (stored_state s) o) c.self.view_is;
      none =
          λ d e.
          c.start_step.ensures.opening (obj.Door d) ∙ c.self.invariant.1 d (ap (λ (s : StoreValue). at_number s.doors.items d) c.self.view_is ∙ e);
    }
