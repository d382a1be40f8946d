use Rattle.std.proofs.Common.{◌≡◌, ◌+◌, ◌-◌, ◌<◌, ◌≤◌, ◌∙◌, Some, ap, arith, length, refl, sym}
use Rattle.std.proofs.lemmas.Option.{slice_get_read}
use Rattle.ncd_app.specs.Words.{reply}
use Rattle.spec_events.specs.Words.{lines_of_process}
use Rattle.sys_run.proofs.NameTables.{cache_reply-is, few-lines, table-stands, tables-replied}
use Rattle.sys_run.proofs.name_tables.NameTables.reply.Goals as goal

pub reply-requires : goal.reply-requires
reply-requires c =
    let asked = c.requires.can.0
    in let can = c.requires.can.1
    in let first : 1 ≤ c.args.process.0 = c.requires.process.0
    in let last : c.args.process.0 ≤ length c.self.inside.tables.items = rw (← c.self.view_is) at c.requires.process.1
    in let place : c.args.process.0 - 1 < length c.self.inside.tables.items = omega arith
    in let stands =
    table-stands asked c.self.inside.tables.items 1 (c.args.process.0 - 1) _ (rw (← c.self.view_is) at can.stand)
    (slice_get_read _ _ _ _ refl place c.index_mut-table.ensures.value)
    in let lines : length (lines_of_process (1 + (c.args.process.0 - 1)) asked) ≤ length asked = few-lines asked (1 + (c.args.process.0 - 1))
    in omega (arith, stands.few, can.few)

pub returns-in_ok-text-in-Ncd-clause-reply : goal.returns-in_ok-text-in-Ncd-clause-reply
returns-in_ok-text-in-Ncd-clause-reply c = λ asked h.
    let p = c.args.process.0
    in let first : 1 ≤ c.args.process.0 = c.requires.process.0
    in let last : c.args.process.0 ≤ length c.self.inside.tables.items = rw (← c.self.view_is) at c.requires.process.1
    in let place : c.args.process.0 - 1 < length c.self.inside.tables.items = omega arith
    in let number : 1 + (c.args.process.0 - 1) ≡ c.args.process.0 = omega arith
    in let stands =
    table-stands asked c.self.inside.tables.items 1 (c.args.process.0 - 1) _ (rw (← c.self.view_is) at h)
    (slice_get_read _ _ _ _ refl place c.index_mut-table.ensures.value)
    in rw c.in-Ncd.is
    (ap Some
    (c.in_ok-text-in-Ncd.ensures.reply (lines_of_process p asked) (rw number at stands)
    ∙ ap (reply (lines_of_process p asked)) c.slice.ensures
    ∙ sym (cache_reply-is asked p c.in-Ncd.line)))

pub returns-in_ok-text-in-Ncd-clause-stand : goal.returns-in_ok-text-in-Ncd-clause-stand
returns-in_ok-text-in-Ncd-clause-stand c = λ asked h.
    let first : 1 ≤ c.args.process.0 = c.requires.process.0
    in let last : c.args.process.0 ≤ length c.self.inside.tables.items = rw (← c.self.view_is) at c.requires.process.1
    in let place : c.args.process.0 - 1 < length c.self.inside.tables.items = omega arith
    in let number : 1 + (c.args.process.0 - 1) ≡ c.args.process.0 = omega arith
    in let old = rw (← c.self.view_is) at h
    in let stands =
    table-stands asked c.self.inside.tables.items 1 (c.args.process.0 - 1) _ old
    (slice_get_read _ _ _ _ refl place c.index_mut-table.ensures.value)
    in let replied =
    tables-replied asked c.in-Ncd.line c.self.inside.tables.items 1 (c.args.process.0 - 1) _ old
    (rw c.slice.ensures at (c.in_ok-text-in-Ncd.ensures.stands (lines_of_process (1 + (c.args.process.0 - 1)) asked) stands))
    in rw c.in-Ncd.is (rw number at replied)
