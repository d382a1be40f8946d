use Rattle.std.proofs.Common.{◌≡◌, drop}
use Rattle.dk_base.specs.declared.thread_set.ThreadSet.{ThreadSet}
use Rattle.kernel_store.specs.Words.{CanMake, CanSettle, IsInEvent, stored_state}
use Rattle.spec_kernel.specs.Types.{Pool}
use Rattle.kernel_core.specs.Watched.{make_of}
use Rattle.kernel_core.proofs.notices.make_all.Given as goal

abbrev pub invariant-loop-d : goal.invariant-loop-d
invariant-loop-d l =
    record {
      state : make_of (stored_state l.store) (drop l.d-index l.ds) ≡ make_of (stored_state l.fn.store) l.ds;
      within : IsInEvent l.store;
      room : CanMake l.store (drop l.d-index l.ds);
      events : l.store.events ≡ l.fn.store.events;
      served : (touched : Pool) (parked : ThreadSet) → CanSettle touched parked l.ds l.fn.store → CanSettle touched parked l.ds l.store;
    }
