use Rattle.std.proofs.Common.{◌≡◌, ℕ, sym, ap, ◌∙◌, subst}
use Rattle.dk_base.specs.ByNumber.{at_number}
use Rattle.spec_records.specs.Words.{ProcessTable, is_idle, is_idle_thread, state_in}
use Rattle.dk_base.specs.Words.{has}
use Rattle.proc_table.proofs.Others.{any_numbered, meets_idle, none_numbered}
use Rattle.proc_table.proofs.procs.Procs.has_idle.Goals as goal

pub returns-in-Some : goal.returns-in-Some
returns-in-Some c =
    let idle =
    subst (λ xs. (u : ℕ) → has c.self.inside.standing.idle u ≡ is_idle (state_in (at_number xs u))) (ap (λ (x : ProcessTable). x.threads) c.self.view_is)
    c.self.invariant.3.idle in
    let t = c.in-Some.field-0.0 in
    let threads = c.args.self.now.threads in
    sym (any_numbered is_idle_thread threads t (sym (idle t ∙ meets_idle (at_number threads t)) ∙ c.in-Some.ensures.first.here))

pub returns-in-None : goal.returns-in-None
returns-in-None c =
    let idle =
    subst (λ xs. (u : ℕ) → has c.self.inside.standing.idle u ≡ is_idle (state_in (at_number xs u))) (ap (λ (x : ProcessTable). x.threads) c.self.view_is)
    c.self.invariant.3.idle in
    let threads = c.args.self.now.threads in
    sym (none_numbered is_idle_thread threads (λ k. sym (idle k ∙ meets_idle (at_number threads k)) ∙ c.in-None.ensures.none k))
