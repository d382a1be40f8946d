use Rattle.std.proofs.Common.{◌≡◌, ◌<◌, List, Option, Some, None, is_none, true, length, get_or, sym, ap, ◌∙◌, arith, length-set}
use Rattle.dk_base.specs.declared.object.Obj.{Obj}
use Rattle.spec_records.specs.Words.{object_named}
use Rattle.fd_table.specs.Rows.{lowest_row}
use Rattle.fd_table.proofs.Lowest.{free_put, lowest_put, lowest_taken_at, others_put, row_free, there_put}
use Rattle.fd_table.proofs.table.FdTable.put.Goals as goal

pub overflow_sub-self : goal.overflow_sub-self
overflow_sub-self c =
    let t = c.self.inside.rows.items in
    let n = c.args.fd.0 in
    let within : n < length t = rw c.self.view_is c.requires.below in
    let free : is_none (get_or t n None) ≡ true = row_free t n within (rw c.self.view_is c.requires.free) in
    omega (arith, free_put t n c.args.object within free, c.self.invariant.2)

pub lowest_from-self-inside-requires-clause-taken :
    goal.lowest_from-self-inside-requires-clause-taken
lowest_from-self-inside-requires-clause-taken c =
    let t = c.self.inside.rows.items in
    let n = c.args.fd.0 in
    let within : n < length t = rw c.self.view_is c.requires.below in
    rw c.deref.ensures.value (lowest_taken_at t n c.args.object (c.if-fd-self.true ∙ c.self.invariant.1) within)

pub invariant_of-self : goal.invariant_of-self
invariant_of-self c =
    let t = c.self.inside.rows.items in
    let n = c.args.fd.0 in
    let within : n < length t = rw c.self.view_is c.requires.below in
    let free : is_none (get_or t n None) ≡ true = row_free t n within (rw c.self.view_is c.requires.free) in (
      omega (arith, length-set t n (Some c.args.object), c.self.invariant.0),
      c.lowest_from-self-inside.ensures ∙ ap lowest_row c.deref.ensures.value,
      omega (arith, free_put t n c.args.object within free, c.self.invariant.2),
    )

pub invariant_of-self-else-fd-self : goal.invariant_of-self-else-fd-self
invariant_of-self-else-fd-self c =
    let t = c.self.inside.rows.items in
    let n = c.args.fd.0 in
    let within : n < length t = rw c.self.view_is c.requires.below in
    let free : is_none (get_or t n None) ≡ true = row_free t n within (rw c.self.view_is c.requires.free) in (
      omega (arith, length-set t n (Some c.args.object), c.self.invariant.0),
      c.self.invariant.1 ∙ sym (lowest_put t n c.args.object within free (λ e. c.if-fd-self.false (e ∙ sym c.self.invariant.1))),
      omega (arith, free_put t n c.args.object within free, c.self.invariant.2),
    )

pub returns-then-fd-self-clause-there : goal.returns-then-fd-self-clause-there
returns-then-fd-self-clause-there c = there_put c.self.inside.rows.items c.args.fd.0 c.args.object (rw c.self.view_is c.requires.below)

pub returns-then-fd-self-clause-others : goal.returns-then-fd-self-clause-others
returns-then-fd-self-clause-others c = λ other apart.
    others_put c.self.inside.rows.items c.args.fd.0 other.0 c.args.object apart ∙ ap (λ (t : List (Option Obj)). object_named t other) c.self.view_is

pub returns-else-fd-self-clause-there : goal.returns-else-fd-self-clause-there
returns-else-fd-self-clause-there c = there_put c.self.inside.rows.items c.args.fd.0 c.args.object (rw c.self.view_is c.requires.below)

pub returns-else-fd-self-clause-others : goal.returns-else-fd-self-clause-others
returns-else-fd-self-clause-others c = λ other apart.
    others_put c.self.inside.rows.items c.args.fd.0 other.0 c.args.object apart ∙ ap (λ (t : List (Option Obj)). object_named t other) c.self.view_is
