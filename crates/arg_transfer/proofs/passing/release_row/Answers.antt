use Rattle.std.proofs.Common.{◌≡◌, false, is_some, Option, None, Some, ap, refl, rules, sym, ◌∙◌}
use Rattle.std.proofs.lemmas.Bool.{cond-true}
use Rattle.dk_base.specs.declared.object.Obj.{Obj}
use Rattle.spec_records.specs.Words.{close_row}
use Rattle.spec_records.proofs.Passing.{close_row-unnamed}
use Rattle.arg_transfer.proofs.passing.release_row.Goals as goal
use Rattle.arg_transfer.proofs.passing.release_row.Goals.{else-passed-via-then-passed+else-is_some, else-passed-via-else-passed}

unnamed : (o : Option Obj) → is_some o ≡ false → o ≡ None
unnamed None h = refl
unnamed (Some x) h = cc

pub returns-else-passed : goal.returns-else-passed
returns-else-passed c =
    let t = c.args.table.now in
    let x = c.args.passed in
    elim c.else-passed.branch [
      | else-passed-via-then-passed+else-is_some w ↦
          let none = unnamed _ (ap is_some (sym w.object_passed.ensures) ∙ sym w.is_some.ensures ∙ w.if-is_some.false) in
          sym (cond-true x.release (close_row t x.fd.0) t w.if-passed.true ∙ close_row-unnamed t x.fd none)
      | else-passed-via-else-passed w ↦ search rules
    ]
