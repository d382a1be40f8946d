use Rattle.std.proofs.Common.{◌≡◌, List, ap, sym, ◌∙◌}
use Rattle.std.proofs.lemmas.Result.{IfOk-weaker}
use Rattle.ncd_app.specs.Definition.{answer, listed}
use Rattle.ncd_app.specs.Table.{HoldsChanges, keys_with}
use Rattle.ncd_app.specs.declared.line.Change.{Change}
use Rattle.ncd_app.proofs.Owners.{owners_are}
use Rattle.ncd_app.proofs.table.Table.answer.Goals as goal

pub returns-in-Who : goal.returns-in-Who
returns-in-Who c =
    let value = c.in-Who.value in
    IfOk-weaker c.owners.result (λ text. text ≡ listed (keys_with value c.args.self.now)) (λ text. (cs : List Change) → HoldsChanges c.args.self.now cs → text ≡ answer cs c.args.question.now)
    (λ text e cs h. e ∙ ap listed (sym (owners_are c.args.self.now cs value c.owners.ensures.order h)) ∙ sym (ap (answer cs) c.in-Who.is)) c.owners.ensures.owners
