-- A door stays over an event, or is new and made by a Create of the event's thread.
use Rattle.std.specs.Prelude.{ℕ, ◌≡◌, ◌+◌, Option, Bool, true, false, ◌==◌, if◌then◌else◌, Some, length}
use Rattle.std.proofs.Common.{refl, sym, subst}
use native.Mathlib.Omega.{arith}
use Rattle.std.proofs.lemmas.Bool.Decides.{nat_tests}
use Rattle.spec_kernel.specs.Types.{Attrs, Door, Param, Request}
use Rattle.dk_base.specs.declared.request.Param.TheVariants as param
use Rattle.dk_base.specs.declared.request.Request.TheVariants as request
use Rattle.dk_base.specs.ByNumber.{at_number}
use Rattle.spec_records.specs.Words.{new_door, set_param, with_door, with_param}
use Rattle.spec_kernel.specs.Words.{ActResult, MayTurn, State, act, door_of, process_of, step}
use Rattle.spec_records.proofs.Lists.{numbered_push, numbered_past}
use Rattle.spec_kernel.proofs.Moves.{Moves, act_moves}
use Rattle.spec_kernel.proofs.Moves.IsLeaving.{interrupts, exits}
use Rattle.law_states.specs.Invariant.{IsConsistent, Invariant}
use Rattle.law_states.specs.Events.{DoorArrow, IsSameDoor}
use Rattle.law_states.specs.Events.DoorArrow.{created}
use Rattle.law_states.proofs.Leaving.{interrupt_leaves, one_door_changes, process_leaves, revoke_leaves, same_door, thread_leaves}
use Rattle.law_states.proofs.Beginning.{fork_leaves}
use Rattle.law_states.proofs.Steps.{StepDoes, running_is, step_does}

-- door d, from state m to state n

abbrev Holds : State → ℕ → Option Request → State → ℕ → Type 0
Holds m t q n d = DoorArrow m t q (door_of m d) (door_of n d)

-- one more door
create_holds :
    (m : State) (t entry cookie : ℕ) (attrs : Attrs) (d : ℕ) →
    DoorArrow m t (Some (request.Create entry cookie attrs)) (door_of m d)
    (at_number (with_door m.doors (process_of m t) entry cookie attrs) d)
create_holds m t entry cookie attrs d = subst (λ o. DoorArrow m t q (door_of m d) o) (sym (numbered_push m.doors x d)) (go (d == length m.doors + 1) refl)
  where
    q : Option Request
    q = Some (request.Create entry cookie attrs)

    x : Door
    x = new_door (length m.doors + 1) (process_of m t) entry cookie attrs

    go : (b : Bool) → (d == length m.doors + 1) ≡ b → DoorArrow m t q (door_of m d) (if b then Some x else door_of m d)
    go false e = same_door m t q (door_of m d)
    go true e =
        subst (λ o. DoorArrow m t q o (Some x)) (sym (numbered_past m.doors d (grind (arith, nat_tests))))
        (created x (record { request = refl; owner = refl }))

-- a parameter of a door
set_param_holds :
    (m : State) (t : ℕ) (q : Option Request) (x : Param) (value e d : ℕ) → DoorArrow m t q (door_of m d) (at_number (set_param m.doors e x value) d)
set_param_holds m t q x value e d = one_door_changes m t q (with_param x value) (same x) e d
  where
    same : (x : Param) (y : Door) → IsSameDoor y (with_param x value y)
    same param.DataMax y = record { number = refl; owner = refl; entry = refl; cookie = refl; attrs = refl }
    same param.DataMin y = record { number = refl; owner = refl; entry = refl; cookie = refl; attrs = refl }
    same param.DescMax y = record { number = refl; owner = refl; entry = refl; cookie = refl; attrs = refl }

move_holds :
    (m : State) (t : ℕ) (q : Option Request) (a : ActResult) → IsConsistent m → MayTurn m t q → Moves m t q a → (d : ℕ) →
    Holds m t q a.state d
move_holds m t q a h may (Moves.makes entry cookie attrs f) d = create_holds m t entry cookie attrs d
move_holds m t q a h may (Moves.parameter fd x value f) d = set_param_holds m t q x value _ d
move_holds m t q a h may (Moves.leaves r who (interrupts u)) d = (interrupt_leaves m t u.0 h).doors d
move_holds m t q a h may (Moves.leaves r who (exits e)) d = (thread_leaves m t q t h (running_is m t may.running)).doors d
move_holds m t q a h may (Moves.revokes fd f) d = (revoke_leaves m t q fd h (running_is m t may.running)).doors d
move_holds m t q a h may (Moves.ends r p _) d = (process_leaves m t q p h).doors d
move_holds m t q a h may (Moves.forks child f) d = (fork_leaves m t child h f).doors d
move_holds m t q a h may _ d = same_door m t q (door_of m d)

act_holds : (m : State) (t : ℕ) (q : Option Request) (d : ℕ) → IsConsistent m → MayTurn m t q → Holds m t q (act m t q).state d
act_holds m t q d h may = move_holds m t q (act m t q) h may (act_moves m t q) d

-- what the kernel does after an act leaves every door as it is
pub step_holds :
    (m : State) (t : ℕ) (q : Option Request) (d : ℕ) → Invariant m → MayTurn m t q →
    DoorArrow m t q (door_of m d) (door_of (step m t q).state d)
unfolding step
step_holds m t q d h may =
    let k : StepDoes m t q = step_does m t q h may in
    subst (λ o. DoorArrow m t q (door_of m d) o) (sym (k.settled.gave.doors d)) (act_holds m t q d h.consistent may)
