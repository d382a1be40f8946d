-- The states after an act to which its changes apply: as the kernel keeps them, and while what follows the act goes on.
use Rattle.std.specs.Prelude.{ℕ, ◌≡◌, ◌==◌, ◌&&◌, Option, false, true, not, length, filter}
use native.Mathlib.Omega.{arith}
use Rattle.std.proofs.Common.{sym, ap, ◌∙◌}
use Rattle.std.proofs.lemmas.List.Elements.{All-weaker}
use Rattle.spec_kernel.specs.Types.{Obj, Process, Request}
use Rattle.spec_records.specs.declared.association.Association.{Association}
use Rattle.spec_records.specs.Words.{is_live_in, is_object, is_to_fire, is_unborn_in}
use Rattle.spec_kernel.specs.Words.{State, associations_in, forget, ready_at, references_of, settle_pools}
use Rattle.spec_kernel.proofs.Forget.{references_of-forget}
use Rattle.spec_kernel.proofs.Settling.{channels-settle_pools, processes-settle_pools, settle_pools-alone}
use Rattle.dk_base.specs.ByNumber.{at_number}
use Rattle.law_states.specs.Invariant.{IsConsistent}
use Rattle.law_states.specs.Told.{AreTold}
use Rattle.law_states.proofs.NoticeSteps.{holdings-settle}
use Rattle.law_channels.specs.Changed.{IsAfterAct, OnlyLiveHaveRows, UnbornHaveNoRows, is_gone}
use Rattle.law_channels.specs.Ends.{other_end}
use Rattle.law_channels.proofs.Ready.{fires_alike}

pub forgotten_is_after : (m : State) (t : ℕ) (q : Option Request) (n : State) → IsAfterAct m t q n → IsAfterAct m t q (forget n)
forgotten_is_after m t q n h = record { processes = h.processes; tables = h.tables; channels = h.channels }

pub settled_is_after :
    (m : State) (t : ℕ) (q : Option Request) (before n : State) → IsAfterAct m t q n → IsAfterAct m t q (settle_pools before n)
settled_is_after m t q before n h =
    record {
      processes = processes-settle_pools before n ∙ h.processes;
      tables = ap (λ (k : State). k.tables) (settle_pools-alone before n) ∙ h.tables;
      channels = channels-settle_pools before n ∙ h.channels;
    }

-- giving, failing and starting leave all references
pub references-settle_pools : (before n : State) (o : Obj) → references_of (settle_pools before n) o ≡ references_of n o
references-settle_pools before n o = ap (λ os. length (filter (is_object o) os)) (holdings-settle before n)

pub gone-settle_pools : (m before n : State) (o : Obj) → is_gone m (settle_pools before n) o ≡ is_gone m n o
gone-settle_pools m before n o = ap (λ k. not (references_of m o == 0) && (k == 0)) (references-settle_pools before n o)

-- all is told of a state exactly where it is of what is kept

fires-forget : (m : State) (a : Association) → is_to_fire (ready_at (forget m)) a ≡ is_to_fire (ready_at m) a
fires-forget m a =
    fires_alike m.channels.pipes (references_of m) (references_of (forget m)) a
    (ap (λ k. k == 0) (references_of-forget m (other_end a.object)))

pub told-forget : (m : State) → AreTold m → AreTold (forget m)
told-forget m h =
    record {
      rows = h.rows;
      wait =
          All-weaker (λ a. is_to_fire (ready_at m) a ≡ false) (λ a. is_to_fire (ready_at (forget m)) a ≡ false) (λ a e. fires-forget m a ∙ e)
          (associations_in m) h.wait;
      timers = h.timers;
    }

pub told-kept : (m : State) → AreTold (forget m) → AreTold m
told-kept m h =
    record {
      rows = h.rows;
      wait =
          All-weaker (λ a. is_to_fire (ready_at (forget m)) a ≡ false) (λ a. is_to_fire (ready_at m) a ≡ false)
          (λ a e. sym (fires-forget m a) ∙ e) (associations_in m) h.wait;
      timers = h.timers;
    }

-- in every state of a run only a process that lives has rows
pub only_live_have_rows : (m : State) → IsConsistent m → OnlyLiveHaveRows m
only_live_have_rows m h = h.no_rows

-- so no process that has not begun has one
pub unborn_have_none : (m : State) → IsConsistent m → UnbornHaveNoRows m
unborn_have_none m h p fd e = h.no_rows p fd (not_live (at_number m.process_table.processes p) e)
  where
    not_live : (o : Option Process) → is_unborn_in o ≡ true → is_live_in o ≡ false
    not_live o f = grind arith
