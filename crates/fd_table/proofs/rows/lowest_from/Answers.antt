use Rattle.std.proofs.Common.{◌≡◌, ◌≤◌, Some, None, length, drop, arith, rules}
use Rattle.std.proofs.lemmas.List.{take_rest}
use Rattle.spec_records.specs.Words.{lowest_free}
use Rattle.fd_table.proofs.Lowest.{lowest_within, found_ahead, nowhere_ahead}
use Rattle.fd_table.proofs.rows.lowest_from.Goals as goal

pub slice_bounds-first_free-count : goal.slice_bounds-first_free-count
slice_bounds-first_free-count c = omega (arith, lowest_within c.args.rows.now, c.requires.taken)

pub slice_bounds-first_free-start : goal.slice_bounds-first_free-start
slice_bounds-first_free-start c =
    let within : c.args.from ≤ length c.args.rows.now = omega (arith, lowest_within c.args.rows.now, c.requires.taken) in
    within

pub returns-in-Some : goal.returns-in-Some
returns-in-Some c =
    let is : lowest_free (drop c.args.from c.args.rows.now) ≡ Some c.in-Some.ahead = search (rules, take_rest) in
    found_ahead c.args.rows.now c.args.from c.in-Some.ahead c.requires.taken is

pub returns-in-None : goal.returns-in-None
returns-in-None c =
    let is : lowest_free (drop c.args.from c.args.rows.now) ≡ None = search (rules, take_rest) in
    nowhere_ahead c.args.rows.now c.args.from c.requires.taken is
