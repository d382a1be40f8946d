-- What an act does to doors, for the notices that follow it: those that are there stay.
use Rattle.std.proofs.Common.{◌≡◌, ℕ, List, Option, Some, refl, sym, subst, ap, ◌∙◌}
use Rattle.dk_base.specs.ByNumber.{at_number}
use Rattle.spec_kernel.specs.Types.{Door, Request}
use Rattle.spec_kernel.specs.Words.{State, StandsFor, act, door_of, step}
use Rattle.spec_kernel.proofs.Settling.{doors-settle}
use Rattle.law_states.specs.Invariant.{Invariant}
use Rattle.law_states.specs.Events.{DoorArrow, IsSameDoor, Keeps}
use Rattle.law_states.specs.Events.DoorArrow.{none, kept, created}
use Rattle.kernel_core.specs.Watched.{IsKeptDoor, KeepsDoors}

-- the act of an event, as the kernel's invariant knows it
pub act_keeps_doors : (m : State) (t : ℕ) (q : Option Request) → Invariant m → Keeps m t q → KeepsDoors m (act m t q).state
unfolding step
act_keeps_doors m t q h k =
    record {
      numbered = λ d x e. h.consistent.coherent.doors.door_number d x e;
      kept = λ d x e. stays d x (door_of m d) (door_of (act m t q).state d) (arrow d) e;
    }
  where
    arrow : (d : ℕ) → DoorArrow m t q (door_of m d) (door_of (act m t q).state d)
    arrow d = subst (λ (doors : List Door). DoorArrow m t q (door_of m d) (at_number doors d)) (doors-settle m (act m t q).state) (k.doors d)

    stays : (d : ℕ) (x : Door) (o u : Option Door) → DoorArrow m t q o u → o ≡ Some x → IsKeptDoor x u
    stays d x o u none e = cc
    stays d x o u (kept a b s) e =
        let same : a ≡ x = cc in
        record { door = b; there = refl; same = subst (λ (z : Door). IsSameDoor z b) same s }
    stays d x o u (created a c) e = cc

-- states of which a kernel keeps the same
pub kept_keeps_doors : (m n j k : State) → StandsFor j m → StandsFor k n → KeepsDoors m n → KeepsDoors j k
kept_keeps_doors m n j k e f h =
    record {
      numbered = λ d x g. h.numbered d x (sym (doors_of m j e d) ∙ g);
      kept = λ d x g. subst (λ (o : Option Door). IsKeptDoor x o) (sym (doors_of n k f d)) (h.kept d x (sym (doors_of m j e d) ∙ g));
    }
  where
    doors_of : (w v : State) → StandsFor v w → (d : ℕ) → door_of v d ≡ door_of w d
    doors_of w v e d = ap (λ (u : State). door_of u d) e
