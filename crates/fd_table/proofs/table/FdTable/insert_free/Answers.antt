use Rattle.std.proofs.Common.{◌<◌, Some, length, sym, ap, ◌∙◌, arith, length-set}
use Rattle.spec_records.specs.Words.{descriptor, free_place, free_rows, insert_row}
use Rattle.fd_table.specs.Rows.{lowest_row}
use Rattle.fd_table.proofs.Lowest.{free_there, free_taken_at, lowest_taken_at, place_is, row_taken, some_free}
use Rattle.fd_table.proofs.table.FdTable.insert_free.Goals as goal

pub index_mut-requires : goal.index_mut-requires
index_mut-requires c =
    let t = c.self.inside.rows.items in
    let there = free_there t (some_free t (rw c.self.view_is c.requires)) in
    omega (arith, there, c.self.invariant.1, c.self.inside.rows.ok.0)

pub overflow_add-place : goal.overflow_add-place
overflow_add-place c =
    let t = c.self.inside.rows.items in
    let there = free_there t (some_free t (rw c.self.view_is c.requires)) in
    omega (arith, there, c.self.invariant.0, c.self.invariant.1)

pub lowest_from-self-inside-requires-clause-taken :
    goal.lowest_from-self-inside-requires-clause-taken
lowest_from-self-inside-requires-clause-taken c =
    let t = c.self.inside.rows.items in
    let there = free_there t (some_free t (rw c.self.view_is c.requires)) in
    let within : c.self.inside.lowest < length t = omega (arith, there, c.self.invariant.1) in
    rw c.deref.ensures.value (lowest_taken_at t c.self.inside.lowest c.args.object c.self.invariant.1 within)

pub invariant_of-self : goal.invariant_of-self
invariant_of-self c =
    let t = c.self.inside.rows.items in
    let there = free_there t (some_free t (rw c.self.view_is c.requires)) in
    let within : c.self.inside.lowest < length t = omega (arith, there, c.self.invariant.1) in (
      omega (arith, length-set t c.self.inside.lowest (Some c.args.object), c.self.invariant.0),
      c.lowest_from-self-inside.ensures ∙ ap lowest_row c.deref.ensures.value,
      omega (arith, free_taken_at t c.self.inside.lowest c.args.object c.self.invariant.1 within, c.self.invariant.2),
    )

pub returns-clause-row : goal.returns-clause-row
returns-clause-row c =
    let t = c.self.inside.rows.items in
    let there = free_there t (some_free t (rw c.self.view_is c.requires)) in
    let within : c.self.inside.lowest < length t = omega (arith, there, c.self.invariant.1) in
    row_taken t c.self.inside.lowest c.args.object c.self.invariant.1 within
    ∙ ap (λ x. insert_row x c.args.object) c.self.view_is

pub returns-clause-fd : goal.returns-clause-fd
returns-clause-fd c =
    let t = c.self.inside.rows.items in
    let there = free_there t (some_free t (rw c.self.view_is c.requires)) in
    ap descriptor (c.self.invariant.1 ∙ sym (place_is t there) ∙ ap free_place c.self.view_is)

pub returns-clause-free : goal.returns-clause-free
returns-clause-free c =
    let t = c.self.inside.rows.items in
    let there = free_there t (some_free t (rw c.self.view_is c.requires)) in
    let within : c.self.inside.lowest < length t = omega (arith, there, c.self.invariant.1) in
    free_taken_at t c.self.inside.lowest c.args.object c.self.invariant.1 within ∙ ap free_rows c.self.view_is

pub overflow_sub-self : goal.overflow_sub-self
overflow_sub-self c = omega (arith, some_free c.self.inside.rows.items (rw c.self.view_is c.requires), c.self.invariant.2)
