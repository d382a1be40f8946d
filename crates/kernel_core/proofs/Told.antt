-- What a thread that enters a call is told, and what a caller is told that collects.
use Rattle.std.proofs.Common.{◌≡◌, ℕ, true, List, Option, None, Some, cond, sym, ap, ap₂, ◌∙◌}
use Rattle.dk_base.specs.declared.answer.Answer.TheVariants as answer
use Rattle.spec_records.specs.declared.record.CallStage.TheVariants as stage
use Rattle.spec_records.specs.Words.{cookie_of, entry_of, is_given_as, new_descriptors}
use Rattle.spec_kernel.specs.Types.{Call, CallStage, Fd}
use Rattle.spec_kernel.specs.Words.{State, accept_call, begin_call, door_of, fail_begin, find_call, has_room, objects_collected, objects_collected_in, table_of}
use Rattle.call_tree.specs.Calls.{args_in}
use Rattle.call_tree.specs.Words.{outcome_at, outcome_in}
use Rattle.call_tree.specs.declared.parts.Args.{Args}
use Rattle.call_tree.specs.declared.parts.Outcome.{Outcome}
use Rattle.kernel_store.specs.Words.{results_in}
use Rattle.kernel_core.specs.Handed.{objects_given, objects_of_call}

same_args : (r : Call) (a : Args) → args_in (Some r) ≡ Some a → a ≡ record { bytes = r.bytes; objects = r.objects }
same_args r a e = cc

pub begins :
    (m : State) (t p c : ℕ) (r : Call) (a : Args) (entry cookie : ℕ) (fds : List Fd) → find_call m (is_given_as c t) ≡ Some r →
    args_in (find_call m (is_given_as c t)) ≡ Some a → has_room m p (objects_given m t c) ≡ true → entry ≡ entry_of (door_of m r.door) →
    cookie ≡ cookie_of (door_of m r.door) → fds ≡ new_descriptors (table_of m p) a.objects →
    answer.Entered r.number entry cookie a.bytes fds ≡ (accept_call m t p c (find_call m (is_given_as c t))).answer
begins m t p c r a entry cookie fds found args room entry_is cookie_is fds_is =
    let is : a ≡ record { bytes = r.bytes; objects = r.objects } = same_args r a (ap args_in (sym found) ∙ args) in
    let free : has_room m p r.objects ≡ true = ap (λ o. has_room m p (objects_of_call o)) (sym found) ∙ room in
    let descriptors : fds ≡ new_descriptors (table_of m p) r.objects = fds_is ∙ ap (λ (b : Args). new_descriptors (table_of m p) b.objects) is in
    sym
    (ap (λ o. (accept_call m t p c o).answer) found
    ∙ ap (λ b. (cond b (begin_call m t p c r) (fail_begin m t c r)).answer) free
    ∙ sym
    (ap (λ e. answer.Entered r.number e cookie a.bytes fds) entry_is
    ∙ ap (λ k. answer.Entered r.number (entry_of (door_of m r.door)) k a.bytes fds) cookie_is
    ∙ ap₂ (λ (b : Args) ds. answer.Entered r.number (entry_of (door_of m r.door)) (cookie_of (door_of m r.door)) b.bytes ds) is descriptors))

pub told_results : (o : Option Call) (x : Outcome) → outcome_in o ≡ Some x → results_in x ≡ objects_collected_in o
told_results None x e = cc
told_results (Some r) x e = at r.stage e
  where
    at : (s : CallStage) → outcome_at r.rsize s ≡ Some x → results_in x ≡ objects_collected s
    at (stage.Returned bytes objects) f = cc
    at (stage.Ended y) f = cc
    at stage.Queued f = cc
    at (stage.Given u) f = cc
    at (stage.Entered u) f = cc
    at (stage.Answered k) f = cc
    at stage.Gone f = cc
