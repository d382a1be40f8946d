use Rattle.std.proofs.Common.{◌≤◌, ap, ◌∙◌, arith, rules}
use Rattle.std.specs.List.{list_any}
use Rattle.spec_records.specs.Words.{count_object}
use Rattle.spec_kernel.specs.Types.{Obj}
use Rattle.kernel_holdings.specs.Words.{references_of}
use Rattle.kernel_store.specs.Turning.{is_port}
use Rattle.kernel_store.proofs.Copied.{table_held}
use Rattle.kernel_store.proofs.There.{held_there, there_more}
use Rattle.kernel_store.proofs.Waits.{others_kept}
use Rattle.kernel_store.proofs.store.Store.copy_rows.Goals as goal

pub invariant_of-self : goal.invariant_of-self
invariant_of-self c =
    let s = c.self.inside in
    let added = c.copy_rows.new.added.items in
    let within : (o : Obj) → count_object o added ≤ references_of s.held o =
    λ o.
    let l = table_held s.held.tables s.held.names.names s.held.calls.tree.calls c.args.parent.0 o in
    let e = ap (count_object o) c.copy_rows.ensures.added in omega (arith, l, e) in
    (search rules, there_more s.doors.items s.held c.copy_rows.new.self added c.self.invariant.1 (held_there s.doors.items s.held added c.self.invariant.1 within) c.copy_rows.ensures.references, search rules, search rules, c.self.invariant.4, c.note_references.ensures s.held (others_kept s.held c.copy_rows.new.self added c.has_port.result (c.has_port.ensures ∙ ap (list_any is_port) c.slice.ensures) c.copy_rows.ensures.others) c.self.invariant.5)
