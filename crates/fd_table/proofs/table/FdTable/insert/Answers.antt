use Rattle.std.proofs.Common.{◌≡◌, ℕ, Option, Some, None, false, is_none, is_some, true, refl, sym, ap, ◌∙◌}
use Rattle.dk_base.specs.declared.number.Fd.{Fd}
use Rattle.spec_records.specs.Words.{lowest_free}
use Rattle.fd_table.proofs.Lowest.{full_none, some_free, some_place}
use Rattle.fd_table.proofs.table.FdTable.insert.Goals as goal

not_none : (o : Option ℕ) → is_none o ≡ false → is_some o ≡ true
not_none None h = cc
not_none (Some n) h = refl

pub returns-then-is_full-clause-full : goal.returns-then-is_full-clause-full
returns-then-is_full-clause-full c = full_none c.args.self.now (sym c.is_full.ensures ∙ c.if-is_full.true)

pub insert_free-requires : goal.insert_free-requires
insert_free-requires c = not_none (lowest_free c.args.self.now) (sym c.is_full.ensures ∙ c.if-is_full.false)

pub returns-clause-ok : goal.returns-clause-ok
returns-clause-ok c =
    let some = some_free c.args.self.now (not_none (lowest_free c.args.self.now) (sym c.is_full.ensures ∙ c.if-is_full.false)) in
    some_place c.args.self.now some ∙ ap (λ (fd : Fd). Some fd.0) (sym c.insert_free.ensures.fd)
