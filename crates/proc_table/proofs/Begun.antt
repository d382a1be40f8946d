-- A process of a table, changed.
use Rattle.std.proofs.Common.{◌≡◌, ℕ, suc, ◌+◌, ◌-◌, ◌<◌, Some, None, get_or, length, slice_set, sym, ap, ◌∙◌, arith}
use Rattle.dk_base.specs.ByNumber.{at_number, with_at_number}
use Rattle.spec_records.specs.declared.record.Process.{Process}
use Rattle.spec_records.specs.Words.{ProcessTable, change_process, change_process_in}
use Rattle.spec_records.proofs.Lists.{with_at_number-suc}
use Rattle.spec_records.proofs.Places.{numbered_here}

-- the table of these processes, of which one is changed
pub process_changed :
    (table : ProcessTable) (f : Process → Process) (p i : ℕ) (d x : Process) → i + 1 ≡ p → i < length table.processes → x ≡ f (get_or table.processes i d) →
    record table { processes = slice_set table.processes i x } ≡ change_process table p f
process_changed table f p i d x e l is =
    let place : p - 1 ≡ i = omega arith in
    let there : at_number table.processes p ≡ Some (get_or table.processes i d) = numbered_here table.processes p d (omega arith) (omega arith) ∙ ap (λ j. Some (get_or table.processes j d)) place in
    let same : with_at_number table.processes p x ≡ slice_set table.processes i x = ap (λ n. with_at_number table.processes n x) (sym next) ∙ with_at_number-suc table.processes i x in
    ap (λ xs. record table { processes = xs }) (sym same) ∙ ap (λ y. record table { processes = with_at_number table.processes p y }) is ∙ sym (ap (change_process_in table p f) there)
  where
    next : suc i ≡ p
    next = omega arith

-- a number that no process has
pub process_none : (table : ProcessTable) (f : Process → Process) (p : ℕ) → at_number table.processes p ≡ None → table ≡ change_process table p f
process_none table f p e = sym (ap (change_process_in table p f) e)
