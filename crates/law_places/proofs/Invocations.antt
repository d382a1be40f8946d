-- What the arrows of invocations say of each place of a run: where one begins, and that a Return that is not refused ends it.
use Rattle.std.specs.Prelude.{ℕ, ◌≡◌, ◌+◌, List, Option, Bool, true, false, if◌then◌else◌, Some, None, slice_get}
use Rattle.std.proofs.Common.{refl, sym, ap, subst, ◌∙◌}
use native.Mathlib.Omega.{arith}
use Rattle.std.proofs.lemmas.Bool.Decides.{nat_tests}
use Rattle.spec_kernel.specs.Types.{Answer, Inv, Item, Pass, Request}
use Rattle.dk_base.specs.declared.request.Request.TheVariants as request
use Rattle.spec_records.specs.Words.{new_invocation, thread_outside}
use Rattle.spec_kernel.specs.Words.{State, Turn, act, has_invalid_door, invocation_of, now, process_of, refusal_of, return, return_parked, return_unbound, state_at, step, unless_refused}
use Rattle.spec_kernel.proofs.Invocations.{invocation-park_thread, invocation-without, invocation_of-settle}
use Rattle.law_states.specs.Records.{item_in, record_of}
use Rattle.law_states.specs.Events.{InvocationArrow}
use Rattle.law_states.specs.Events.InvocationArrow.{stays, begins, cancels, ends, leaves}
use Rattle.law_places.specs.Places.{BecomesEntered, IsReturn, answer_at, is_entered_in}
use Rattle.law_places.proofs.Known.{Known, changes, false_not_true, next}
use Rattle.law_places.proofs.ReturnRefusals.{not_refused_at}
use Rattle.law_places.proofs.Rows.{EnteredRow, entered_row}

pub begun :
    (m : State) (t : ℕ) (q : Option Request) (a : Answer) (n : State) (u : ℕ) (w : Item) (o p : Option Inv) →
    InvocationArrow m t q a n u o p → o ≡ None → item_in p ≡ Some w → p ≡ Some (new_invocation w)
begun m t q a n u w o p stays e f = absurd (grind arith)
begun m t q a n u w o p (begins i g h k b) e f =
    let same : i ≡ w = cc in
    ap (λ (z : Item). Some (new_invocation z)) same
begun m t q a n u w o p (cancels v g) e f = absurd (grind arith)
begun m t q a n u w o p (ends v bytes pass g h l k) e f = absurd (grind arith)
begun m t q a n u w o p (leaves v g) e f = absurd (grind arith)

return_leaves : (m : State) (t p : ℕ) (bytes : List ℕ) (pass : List Pass) → invocation_of (return m t p bytes pass).state t ≡ None
return_leaves m t p bytes pass = go (has_invalid_door m t)
  where
    go :
        (b : Bool) → invocation_of (if b then return_unbound m t p bytes pass else return_parked m t p bytes pass).state t ≡ None
    go true = invocation-without m.process_table t t thread_outside (λ x. refl) ∙ grind (arith, nat_tests)
    go false = invocation-park_thread m.process_table t (now m) t ∙ grind (arith, nat_tests)

step_leaves :
    (m : State) (t : ℕ) (bytes : List ℕ) (pass : List Pass) → refusal_of m t (process_of m t) (request.Return bytes pass) ≡ None →
    invocation_of (step m t (Some (request.Return bytes pass))).state t ≡ None
unfolding step
step_leaves m t bytes pass e =
    invocation_of-settle m (act m t (Some (request.Return bytes pass))).state t
    ∙ ap (λ o. invocation_of (unless_refused m o (return m t (process_of m t) bytes pass)).state t) e
    ∙ return_leaves m t (process_of m t) bytes pass

module _ (m : State) (xs : List Turn) (k : Known m xs) where
  abbrev pub MovesAt : ℕ → Turn → ℕ → Option Inv → Option Inv → Type 0
  MovesAt i x t o p = InvocationArrow (state_at m xs i) x.thread x.request (answer_at m xs i x) (state_at m xs (i + 1)) t o p

  pub invocations :
      (i t : ℕ) (x : Turn) → slice_get xs i ≡ Some x → MovesAt i x t (invocation_of (state_at m xs i) t) (invocation_of (state_at m xs (i + 1)) t)
  invocations i t x e =
      subst
      (λ n. InvocationArrow (state_at m xs i) x.thread x.request (answer_at m xs i x) n t (invocation_of (state_at m xs i) t) (invocation_of n t))
      (sym (next m xs k i x e))
      ((k.keeps i x e).invocations t)

  pub entered_by :
      (i c : ℕ) (x : Turn) → slice_get xs i ≡ Some x → BecomesEntered m xs c i →
      EnteredRow (state_at m xs i) x.thread x.request (answer_at m xs i x) (record_of (state_at m xs i) c) (record_of (state_at m xs (i + 1)) c)
  entered_by i c x e b =
      entered_row _ _ _ _ _ _ _ (changes m xs k c i x is_entered_in false true e false_not_true b.before b.after) b.after

  pub return_ends :
      (i : ℕ) (x : Turn) (bytes : List ℕ) (pass : List Pass) → slice_get xs i ≡ Some x → IsReturn m xs i x bytes pass →
      invocation_of (state_at m xs (i + 1)) x.thread ≡ None
  return_ends i x bytes pass e h =
      ap (λ n. invocation_of n x.thread) (next m xs k i x e)
      ∙ ap (λ r. invocation_of (step (state_at m xs i) x.thread r).state x.thread) h.asked
      ∙ step_leaves (state_at m xs i) x.thread bytes pass (not_refused_at m xs k i x bytes pass e h)
