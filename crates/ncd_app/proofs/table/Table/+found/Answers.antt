use Rattle.std.proofs.Common.{◌≡◌, ◌-◌, ◌∷◌, [], List, None, Some, ap, sym, ◌∙◌}
use Rattle.std.proofs.lemmas.Result.{IfOk-weaker}
use Rattle.std.specs.Prelude.{codes}
use Rattle.ncd_app.specs.Definition.{found_from, record_of, words_after}
use Rattle.ncd_app.specs.Table.{HoldsChanges, record_in}
use Rattle.ncd_app.specs.declared.line.Change.{Change}
use Rattle.ncd_app.specs.declared.line.Record.TheVariants.{Alias, Value}
use Rattle.ncd_app.proofs.Found.{found_alias, found_loop, found_none, found_value}
use Rattle.ncd_app.proofs.table.Table.+found.Goals as goal

pub returns-in-None : goal.returns-in-None
returns-in-None t c =
    let held : record_in c.args.self.now c.args.key.now ≡ None = sym c.in-None.ensures in
    IfOk-weaker c.from_slice.result (λ text. text ≡ codes "none") (λ text. (cs : List Change) → HoldsChanges c.args.self.now cs → text ≡ found_from cs c.args.left (record_of cs c.args.key.now))
    (λ text e cs h. e ∙ found_none c.args.self.now cs c.args.key.now c.args.left h held) c.from_slice.ensures

pub returns-in-Some-Value : goal.returns-in-Some-Value
returns-in-Some-Value t c =
    let x = c.in-Some-Value in
    let value = x.value in
    let held : record_in c.args.self.now c.args.key.now ≡ Some (Value value) = sym x.ensures ∙ ap Some x.field-0-is in
    IfOk-weaker c.two_words.result (λ text. text ≡ words_after (codes "value") (c.bytes.result.now ∷ [])) (λ text. (cs : List Change) → HoldsChanges c.args.self.now cs → text ≡ found_from cs c.args.left (record_of cs c.args.key.now))
    (λ text e cs h. e ∙ ap (λ v. words_after (codes "value") (v ∷ [])) c.bytes.ensures ∙ found_value c.args.self.now cs c.args.key.now c.args.left h value held) c.two_words.ensures

pub returns-then-left-eq0 : goal.returns-then-left-eq0
returns-then-left-eq0 t c =
    let x = c.in-Some-Alias in
    let target = x.target in
    let held : record_in c.args.self.now c.args.key.now ≡ Some (Alias target) = sym x.ensures ∙ ap Some x.field-0-is in
    IfOk-weaker c.from_slice-then-left-eq0.result (λ text. text ≡ codes "loop") (λ text. (cs : List Change) → HoldsChanges c.args.self.now cs → text ≡ found_from cs c.args.left (record_of cs c.args.key.now))
    (λ text e cs h. e ∙ found_loop c.args.self.now cs c.args.key.now c.args.left h target c.if-left-eq0.true held) c.from_slice-then-left-eq0.ensures

pub returns-else-left-eq0 : goal.returns-else-left-eq0
returns-else-left-eq0 t c =
    let x = c.in-Some-Alias in
    let target = x.target in
    let held : record_in c.args.self.now c.args.key.now ≡ Some (Alias target) = sym x.ensures ∙ ap Some x.field-0-is in
    IfOk-weaker c.found.result (λ text. (cs : List Change) → HoldsChanges c.args.self.now cs → text ≡ found_from cs (c.args.left - 1) (record_of cs target)) (λ text. (cs : List Change) → HoldsChanges c.args.self.now cs → text ≡ found_from cs c.args.left (record_of cs c.args.key.now))
    (λ text e cs h. e cs h ∙ found_alias c.args.self.now cs c.args.key.now c.args.left h target c.if-left-eq0.false held) c.found.ensures
