use Rattle.std.proofs.Common.{ap, drop, get_or, length, sym, ◌+◌, ◌∙◌, ◌∷◌, [], arith, length-append}
use Rattle.std.proofs.lemmas.List.{drop_more}
use Rattle.spec_records.specs.Words.{empty_table, new_process}
use Rattle.spec_kernel.specs.Words.{State, with_processes}
use Rattle.kernel_store.specs.Words.{stored_state}
use Rattle.kernel_core.proofs.kernel.with_processes.Goals as goal

pub loop-limit-preserved : goal.loop-limit-preserved
loop-limit-preserved c =
    let m = stored_state c.loop-limit.store in
    let limits = c.args.limits.now in
    let i = c.loop-limit.limit-index in
    let one = ap (λ (k : State). length k.process_table.processes) c.in_ok-store.ensures.state in
    let longer = length-append m.process_table.processes (new_process (length m.process_table.processes + 1) (get_or limits i 0) ∷ []) in
    record {
      added =
          ap (λ (k : State). with_processes k (drop (i + 1) limits)) c.in_ok-store.ensures.state
          ∙ ap (with_processes m) (sym (drop_more limits i 0 (omega arith)))
          ∙ c.loop-limit.invariant.added;
      few = omega (arith, one, longer, c.loop-limit.invariant.few);
      tables = omega (arith, ap (λ (k : State). length k.tables) c.in_ok-store.ensures.state, length-append m.tables (empty_table (get_or limits i 0) ∷ []), c.loop-limit.invariant.tables);
      rest = λ n h. c.in_ok-store.ensures.rest n (c.loop-limit.invariant.rest n h);
    }
