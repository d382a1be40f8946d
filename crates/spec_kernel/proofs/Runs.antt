-- Runs: what one more turn adds, and the states on the way.
use Rattle.std.proofs.Common.{◌≡◌, ℕ, zero, suc, ◌+◌, ◌≤◌, List, [], ◌∷◌, Some, length, take, slice_get, refl, subst, ap, ◌∙◌, arith, add-one, length-take, take_all}
use Rattle.spec_kernel.specs.State.{State, process_of}
use Rattle.spec_kernel.specs.Legal.{MayTurn}
use Rattle.spec_kernel.specs.Runs.{Turn, state_after_turn, state_after, state_at, IsRun}
use Rattle.spec_kernel.proofs.Steps.{events-step, process_of-step}

-- how many

pub events-state_after : (m : State) (xs : List Turn) → (state_after m xs).events ≡ m.events + length xs
events-state_after m [] = omega arith
events-state_after m (x ∷ xs) = omega (arith, events-state_after (state_after_turn m x) xs, events-step m x.thread x.request)

pub process_of-state_after : (m : State) (xs : List Turn) (t : ℕ) → process_of (state_after m xs) t ≡ process_of m t
process_of-state_after m [] t = refl
process_of-state_after m (x ∷ xs) t = process_of-state_after (state_after_turn m x) xs t ∙ process_of-step m x.thread t x.request

-- the states on the way

pub state_at_all : (m : State) (xs : List Turn) (i : ℕ) → length xs ≤ i → state_at m xs i ≡ state_after m xs
state_at_all m xs i h = ap (state_after m) (take_all i xs h)

pub events-state_at : (m : State) (xs : List Turn) (i : ℕ) → i ≤ length xs → (state_at m xs i).events ≡ m.events + i
events-state_at m xs i h = events-state_after m (take i xs) ∙ omega (arith, length-take i xs)

state_at_suc :
    (m : State) (xs : List Turn) (i : ℕ) (x : Turn) → slice_get xs i ≡ Some x →
    state_at m xs (suc i) ≡ state_after_turn (state_at m xs i) x
state_at_suc m [] i x e = cc
state_at_suc m (y ∷ ys) zero x e = let k : y ≡ x = cc in ap (state_after_turn m) k
state_at_suc m (y ∷ ys) (suc i) x e = state_at_suc (state_after_turn m y) ys i x e

pub state_at_more :
    (m : State) (xs : List Turn) (i : ℕ) (x : Turn) → slice_get xs i ≡ Some x →
    state_at m xs (i + 1) ≡ state_after_turn (state_at m xs i) x
state_at_more m xs i x e = ap (state_at m xs) (add-one i) ∙ state_at_suc m xs i x e

-- each turn of a run is one that its thread may take then
pub MayTurn_at :
    (m : State) (xs : List Turn) (i : ℕ) (x : Turn) → IsRun m xs → slice_get xs i ≡ Some x →
    MayTurn (state_at m xs i) x.thread x.request
MayTurn_at m [] i x h e = absurd (cc)
MayTurn_at m (y ∷ ys) zero x h e = let k : y ≡ x = cc in subst (λ z. MayTurn m z.thread z.request) k h.0
MayTurn_at m (y ∷ ys) (suc i) x h e = MayTurn_at (state_after_turn m y) ys i x h.1 e
