use Rattle.std.proofs.Common.{◌&&◌, ap, find, is_some, subst, ◌∙◌}
use Rattle.spec_records.specs.Words.{state_in, thread_at}
use Rattle.proc_table.specs.Words.{goes_on}
use Rattle.law_calls.specs.Words.{AreBacked}
use Rattle.call_tree.specs.Words.{CallsValue, is_ready_of}
use Rattle.dk_base.specs.Words.{has}
use Rattle.kernel_store.specs.Stored.{StoreValue}
use Rattle.kernel_store.specs.Turning.{has_ended_at, is_found_at}
use Rattle.kernel_store.proofs.Turns.{found_is, held_of, turns_are}
use Rattle.kernel_store.proofs.Waits.{wait_is}
use Rattle.kernel_store.proofs.store.Store.runnable.Goals as goal

pub returns : goal.returns
returns c = λ t.
    let s = c.self.inside in
    turns_are c.args.self.now t _ _ _ _ _ _ _ (subst (λ (v : StoreValue). AreBacked v.processes v.calls.tree.calls) c.self.view_is c.self.invariant.2)
    (c.going-going.ensures t ∙ ap (λ (v : StoreValue). goes_on (state_in (thread_at v.processes t))) c.self.view_is)
    (c.collecting-collecting.ensures t ∙ ap (λ (k : CallsValue). is_some (find (is_ready_of t) k.tree.calls)) (c.calls.ensures ∙ ap (λ (v : StoreValue). v.calls) c.self.view_is))
    (c.and-found.ensures t ∙ ap (λ b. b && has s.named t) (c.awaiting.ensures t)
    ∙ found_is s.held.names.names (has s.named t) (state_in (thread_at s.processes t)) (c.self.invariant.3.known t)
    ∙ ap (λ (v : StoreValue). is_found_at v.names.names (state_in (thread_at v.processes t))) c.self.view_is)
    (c.and-ended.ensures t ∙ ap (λ b. b && has s.ended t) (c.getting.ensures t)
    ∙ wait_is s.held.tables s.held.names.names s.held.calls.tree.calls s.ports.ports.ports (has s.ended t) (state_in (thread_at s.processes t)) (c.self.invariant.5.known t)
    ∙ ap (λ (v : StoreValue). has_ended_at (held_of v) v.ports.ports (state_in (thread_at v.processes t))) c.self.view_is)
    (c.or.ensures t) (c.or-2.ensures t) (c.or-3.ensures t)
