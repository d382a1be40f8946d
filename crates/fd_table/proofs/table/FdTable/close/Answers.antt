use Rattle.std.proofs.Common.{Option, None, is_none, min, set, sym, ap, ◌∙◌, arith, length-set}
use Rattle.std.proofs.lemmas.List.Sums.{count_by-le-length}
use Rattle.dk_base.specs.declared.object.Obj.{Obj}
use Rattle.fd_table.proofs.Lowest.{free_closed, lowest_closed, named_there}
use Rattle.fd_table.proofs.table.FdTable.close.Goals as goal

pub index_mut-requires : goal.index_mut-requires
index_mut-requires c =
    let there = named_there c.self.inside.rows.items c.args.fd.0 (rw c.self.view_is c.requires) in
    omega (arith, there.0, c.self.inside.rows.ok.0)

pub overflow_add-self : goal.overflow_add-self
overflow_add-self c =
    let t = c.self.inside.rows.items in
    let none : Option Obj = None in
    let there = named_there t c.args.fd.0 (rw c.self.view_is c.requires) in
    let closed = free_closed t c.args.fd.0 there.0 there.1 in
    let least = count_by-le-length (λ (row : Option Obj). is_none row) (set t c.args.fd.0 none) in
    omega (arith, closed, least, length-set t c.args.fd.0 none, c.self.invariant.0, c.self.invariant.2)

pub invariant_of-self : goal.invariant_of-self
invariant_of-self c =
    let t = c.self.inside.rows.items in
    let n = c.args.fd.0 in
    let there = named_there t n (rw c.self.view_is c.requires) in (
      omega (arith, length-set {A = Option Obj}, c.self.invariant.0),
      c.min-self-inside.ensures ∙ ap (λ k. min k n) c.self.invariant.1 ∙ sym (lowest_closed t n there.0),
      omega (arith, free_closed t n there.0 there.1, c.self.invariant.2),
    )
