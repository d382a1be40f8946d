-- A child of which a Fork is not refused may begin: it has no descriptor, and none of its threads has begun.
use Rattle.std.proofs.Common.{◌≡◌, ℕ, ◌≤◌, true, false, List, [], ◌∷◌, Option, None, Some, length, suc, refl, sym, subst, ap, ◌∙◌, arith}
use Rattle.dk_base.specs.ByNumber.{at_number}
use Rattle.dk_base.specs.declared.request.Request.TheVariants as request
use Rattle.spec_records.specs.Words.{descriptor, first_refusal, is_dormant, is_live_in, is_unborn_in, object_named, objects_of, pid}
use Rattle.spec_records.proofs.Lists.{numbered_within}
use Rattle.spec_kernel.specs.Types.{Fd, Obj, Process, Request}
use Rattle.spec_kernel.specs.Words.{IsFit, State, forking_tests, is_live_process, is_unborn_process, parent_of, process_of, table_of}
use Rattle.law_states.specs.Invariant.{IsChildOf, Invariant}
use Rattle.kernel_store.specs.Words.{MayBegin}
use Rattle.kernel_core.specs.Forking.{MayFork}
use Rattle.kernel_core.specs.Kept.{IsKept}

none_named : (t : List (Option Obj)) → ((fd : Fd) → object_named t fd ≡ None) → objects_of t ≡ []
none_named [] h = refl
none_named (None ∷ t) h = none_named t (λ fd. h (descriptor (suc fd.0)))
none_named (Some o ∷ t) h = let first = h (descriptor 0) in cc

was_unborn : (m : State) (child : ℕ) → first_refusal (forking_tests m child) ≡ None → is_unborn_process m child ≡ true
was_unborn m child f = grind arith

not_live : (o : Option Process) → is_unborn_in o ≡ true → is_live_in o ≡ false
not_live o f = grind arith

there : (m : State) (child : ℕ) → is_unborn_process m child ≡ true → child ≤ length m.process_table.processes
there m child e = go (at_number m.process_table.processes child) refl e
  where
    go : (o : Option Process) → at_number m.process_table.processes child ≡ o → is_unborn_in o ≡ true → child ≤ length m.process_table.processes
    go None f g = cc
    go (Some x) f g = (numbered_within m.process_table.processes child x f).1

child_may_begin :
    (m : State) (t child : ℕ) → Invariant m → parent_of m child ≡ Some (pid (process_of m t)) → is_unborn_process m child ≡ true →
    MayBegin (process_of m t) child m
child_may_begin m t child h parent unborn =
    let c : IsChildOf m child (process_of m t) = h.children child (pid (process_of m t)) parent in
    let lives : is_live_process m child ≡ false = not_live (at_number m.process_table.processes child) unborn in
    record {
      first = c.first;
      after = c.after;
      there = omega (arith, there m child unborn, h.consistent.tables);
      no_rows = none_named (table_of m child) (λ fd. h.consistent.no_rows child fd lives);
      limit = c.limit;
      dormant = λ u e. ap is_dormant (h.consistent.coherent.processes.unborn_dormant u (ap (λ p. is_unborn_process m p) e ∙ unborn));
    }

-- what is kept has the threads, processes and tables of what it stands for
pub may_fork : (kept m : State) (t : ℕ) (r : Request) → kept ≡ m → IsKept kept → IsFit m t r → MayFork kept t r
may_fork kept m t (request.Fork child) same k fit =
    λ free.
    let n : State = k.written in
    let parent : parent_of n child.0 ≡ Some (pid (process_of n t)) =
    subst (λ (s : State). parent_of s child.0 ≡ Some (pid (process_of s t))) (sym same ∙ k.stands) fit in
    let unborn : is_unborn_process n child.0 ≡ true = ap (λ (s : State). is_unborn_process s child.0) (sym k.stands) ∙ was_unborn kept child.0 free in
    let h : MayBegin (process_of n t) child.0 n = child_may_begin n t child.0 k.invariant parent unborn in
    subst (λ (s : State). MayBegin (process_of s t) child.0 s) (sym k.stands)
    (record { first = h.first; after = h.after; there = h.there; no_rows = h.no_rows; limit = h.limit; dormant = h.dormant })
may_fork kept m t r same k fit = tt
