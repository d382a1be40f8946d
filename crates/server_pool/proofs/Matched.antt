-- The thread on top of a stack with the first item of a queue, and the calls that are left.
use Rattle.std.proofs.Common.{◌≡◌, ℕ, ◌+◌, ◌<◌, true, cond, List, [], ◌∷◌, ◌++◌, Some, if◌then◌else◌, sym, ap, subst, ◌∙◌, arith}
use Rattle.std.proofs.lemmas.List.Sums.{sum_by-cons}
use Rattle.spec_records.specs.declared.pool.Parked.{Parked}
use Rattle.spec_records.specs.declared.pool.Waiting.{Waiting}
use Rattle.server_pool.specs.Words.{IsStack, count_calls, first_match, is_call, is_waiting_call, match_of, next_of, pick_of}
use Rattle.server_pool.proofs.Order.{ordered_less, top_picked}

-- a stack without its top

pub stack_below : (parked rest : List Parked) (top : Parked) → IsStack parked → parked ≡ rest ++ top ∷ [] → IsStack rest
stack_below parked rest top stack is = ordered_less _ rest top (subst IsStack is stack)

pub matched :
    (parked rest : List Parked) (top : Parked) (waiting left : List Waiting) (first : Waiting) → IsStack parked →
    parked ≡ rest ++ top ∷ [] → waiting ≡ first ∷ left →
    Some (record { thread = top.thread; item = first.item }) ≡ first_match parked waiting
matched parked rest top waiting left first stack is begins =
    let pick : pick_of parked ≡ Some top = ap pick_of is ∙ top_picked rest top (subst IsStack is stack) in
    let next : next_of waiting ≡ Some first = ap next_of begins in
    sym (ap (λ o. match_of o (next_of waiting)) pick ∙ ap (λ o. match_of (Some top) o) next)

-- the calls of a queue

one_counted : (w : Waiting) (ws : List Waiting) → count_calls (w ∷ ws) ≡ cond (is_call w.item) 1 0 + count_calls ws
one_counted w ws = sum_by-cons (λ x. cond (is_waiting_call x) 1 0) w ws

pub call_counted : (waiting left : List Waiting) (first : Waiting) (calls : ℕ) → waiting ≡ first ∷ left → calls ≡ count_calls waiting → is_call first.item ≡ true → 0 < calls
call_counted waiting left first calls begins counted call =
    let all = counted ∙ ap count_calls begins ∙ one_counted first left in
    let n : ℕ = 1 in
    let one : cond (is_call first.item) n 0 ≡ n = ap (λ b. cond b n 0) call in
    omega (arith, all, one)

pub calls_left :
    (waiting left : List Waiting) (first : Waiting) (calls n : ℕ) → waiting ≡ first ∷ left → calls ≡ count_calls waiting →
    n + (if is_call first.item then 1 else 0) ≡ calls → n ≡ count_calls left
calls_left waiting left first calls n begins counted less =
    let all = counted ∙ ap count_calls begins ∙ one_counted first left in
    omega (arith, all, less)
