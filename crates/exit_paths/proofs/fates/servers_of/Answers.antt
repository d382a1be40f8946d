use Rattle.std.proofs.Common.{◌≡◌, ⊎_elim, ◌≤◌, true, IfSome, find, is_some, sym, ap, ◌∙◌, subst, eq-or-lt_of_le, true≢false, arith}
use Rattle.spec_records.specs.Words.{thread_at}
use Rattle.call_tree.specs.Words.{is_called_by}
use Rattle.proc_table.specs.Words.{Walks}
use Rattle.dk_base.specs.Words.{has}
use Rattle.exit_paths.specs.Words.{deserted_in_call}
use Rattle.exit_paths.proofs.Walked.{all_came, earlier, none_zero, server_more}
use Rattle.exit_paths.proofs.fates.servers_of.Goals as goal

pub loop-t-init : goal.loop-t-init
loop-t-init c = (
  subst (λ s. Walks s c.over-walk.result) (sym c.over-walk.ensures.rest) c.over-walk.ensures.walks,
  λ t e. absurd (true≢false (sym e ∙ c.new-touched.ensures t)),
  λ t l e. absurd (none_zero c.over-walk.result.rest t c.over-walk.result.done l c.over-walk.ensures.start e),
)

pub loop-t-smaller : goal.loop-t-smaller
loop-t-smaller c =
    let step = c.in-Some.ensures.next c.over-walk.result.rest c.loop-t.invariant.0 in
    omega (arith, step.later, step.done, c.in-Some.ensures.within.1)

pub loop-t-preserved : goal.loop-t-preserved
loop-t-preserved c =
    let own = c.over-walk.result.rest in
    let table = c.args.processes.now in
    let calls = c.args.calls.now.tree.calls in
    let new = c.put_server.new.touched in
    let step = c.in-Some.ensures.next own c.loop-t.invariant.0 in (
      step.walks,
      c.put_server.ensures.there c.loop-t.invariant.1,
      λ t l e.
          ⊎_elim
          (λ k.
          subst (λ u. IfSome (deserted_in_call (find (is_called_by u) calls)) (λ d. is_some (thread_at table d.server.0) ≡ true → has new d.server.0 ≡ true)) (sym k)
          (subst (λ o. IfSome o (λ d. is_some (thread_at table d.server.0) ≡ true → has new d.server.0 ≡ true)) c.deserted_by.ensures c.put_server.ensures.server))
          (λ k.
          server_more table c.loop-t.touched new c.put_server.ensures.more (deserted_in_call (find (is_called_by t) calls))
          (c.loop-t.invariant.2 t (earlier own t c.loop-t.walk.done c.in-Some.t.0 (step.between t) k e) e))
          (eq-or-lt_of_le (subst (λ n. t ≤ n) step.done l)),
    )

pub returns-clause-servers : goal.returns-clause-servers
returns-clause-servers c = λ t e.
    let end = c.in_default.ensures.end c.over-walk.result.rest c.loop-t.invariant.0 in
    let here = ap (λ s. has s t) c.over-walk.ensures.rest ∙ e in
    c.loop-t.invariant.2 t (all_came c.over-walk.result.rest t c.loop-t.walk.done (end t) here) here
