use Rattle.std.proofs.Common.{◌≡◌, ◌++◌, ◌∷◌, [], List, refl, ap, ◌∙◌, subst}
use Rattle.std.proofs.lemmas.Result.{on_ok_weaker}
use Rattle.script_lang.specs.declared.item.ScriptLine.{ScriptLine}
use Rattle.script_lang.specs.declared.item.ScriptLine.TheVariants.{Budget}
use Rattle.script_lang.specs.Printed.{items_text}
use Rattle.script_lang.specs.Scripts.{part_items, schedule_items, items_of, tables_of}
use Rattle.script_lang.specs.Value.{ScriptValue}
use Rattle.script_lang.proofs.PrintSteps.{script_put}
use Rattle.script_lang.proofs.print.put_script.Goals as goal

pub returns : goal.returns
returns c =
    let i = c.script.inside in
    let tables = i.tables in
    let view : ScriptValue = record { version = i.version; budget = i.budget; processes = i.processes; threads = i.threads; procedures = i.procedures; order = i.order; paths = i.tables.paths; schedule = i.schedule } in
    let parts : List ScriptLine = part_items i.order i.processes i.threads i.procedures in
    let same : part_items c.slice.result.now c.slice-2.result.now c.slice-3.result.now c.slice-4.result.now ≡ parts = rw (c.slice.ensures, c.slice-2.ensures, c.slice-3.ensures, c.slice-4.ensures) refl in
    let front : c.put_parts.new.text ≡ (c.args.text.now ++ items_text tables (Budget i.budget ∷ [])) ++ items_text tables parts =
    c.in_ok-put_parts.ensures ∙
    ap (λ items. c.put_budget.new.text ++ items_text tables items) same ∙
    ap (λ text. text ++ items_text tables parts) c.in_ok-put_budget.ensures in
    let Puts : ScriptValue → Type 0 = λ script. c.put_schedules.new.text ≡ c.args.text.now ++ items_text (tables_of script) (items_of script) in
    on_ok_weaker c.put_schedules.result (λ (put : c.put_schedules.new.text ≡ c.put_parts.new.text ++ items_text tables (schedule_items c.slice-5.result.now)).
    subst Puts c.script.view_is (
    put ∙
    ap (λ turns. c.put_parts.new.text ++ items_text tables (schedule_items turns)) c.slice-5.ensures ∙
    ap (λ text. text ++ items_text tables (schedule_items i.schedule)) front ∙
    script_put tables view c.args.text.now c.script.invariant.names)) c.put_schedules.ensures
