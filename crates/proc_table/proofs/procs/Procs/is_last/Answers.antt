use Rattle.std.proofs.Common.{◌≡◌, ℕ, Some, not, sym, ap, ◌∙◌, subst}
use Rattle.dk_base.specs.ByNumber.{at_number}
use Rattle.spec_records.specs.declared.record.Thread.{Thread}
use Rattle.spec_records.specs.Words.{ProcessTable, is_active, keeps_alive, state_in}
use Rattle.dk_base.specs.Words.{has}
use Rattle.proc_table.proofs.Others.{any_numbered, none_numbered, others}
use Rattle.proc_table.proofs.procs.Procs.is_last.Goals as goal

pub returns-in-Some : goal.returns-in-Some
returns-in-Some c =
    let same = ap (λ (x : ProcessTable). x.threads) c.self.view_is in
    let active = subst (λ xs. (u : ℕ) → has c.self.inside.standing.active u ≡ is_active (state_in (at_number xs u))) same c.self.invariant.3.active in
    let numbered = subst (λ xs. (u : ℕ) (x : Thread) → at_number xs u ≡ Some x → x.number ≡ u) same c.self.invariant.4.numbered in
    let other =
    others c.args.self.now.threads c.args.t.0 c.args.p.0 c.thread_count.result c.threads_of.result c.self.inside.standing.active c.and-others.result c.without.result
    numbered c.threads_of.ensures active c.and-others.ensures c.thread_count.ensures.count c.without.ensures.within c.without.ensures.none in
    sym (ap not (any_numbered (keeps_alive c.args.t.0 c.args.p.0) c.args.self.now.threads c.in-Some.field-0.0 (sym (other c.in-Some.field-0.0) ∙ c.in-Some.ensures.first.here)))

pub returns-in-None : goal.returns-in-None
returns-in-None c =
    let same = ap (λ (x : ProcessTable). x.threads) c.self.view_is in
    let active = subst (λ xs. (u : ℕ) → has c.self.inside.standing.active u ≡ is_active (state_in (at_number xs u))) same c.self.invariant.3.active in
    let numbered = subst (λ xs. (u : ℕ) (x : Thread) → at_number xs u ≡ Some x → x.number ≡ u) same c.self.invariant.4.numbered in
    let other =
    others c.args.self.now.threads c.args.t.0 c.args.p.0 c.thread_count.result c.threads_of.result c.self.inside.standing.active c.and-others.result c.without.result
    numbered c.threads_of.ensures active c.and-others.ensures c.thread_count.ensures.count c.without.ensures.within c.without.ensures.none in
    sym (ap not (none_numbered (keeps_alive c.args.t.0 c.args.p.0) c.args.self.now.threads (λ k. sym (other k) ∙ c.in-None.ensures.none k)))
