use Rattle.std.proofs.Common.{◌≡◌, sym, ap, ◌∙◌, Ok}
use Rattle.history_text.specs.declared.place.Place.{Place}
use Rattle.history_text.specs.Words.{line_read}
use Rattle.history_check.specs.Findings.{history_of, reached}
use Rattle.history_check.specs.Places.{Reached, place_of}
use Rattle.history_check.proofs.ReadLines.{read_once}
use Rattle.history_check.proofs.Walks.{each_read_found, found_by_fault, skipped_found}
use Rattle.history_check.proofs.walk.Walk.find.Goals as goal

pub returns-then-is_skipped : goal.returns-then-is_skipped
returns-then-is_skipped g c = skipped_found _ c.args.text.now _ _ (sym c.is_skipped.ensures ∙ c.if-is_skipped.true) (c.skipped.ensures _)

pub returns-in-Ok : goal.returns-in-Ok
returns-in-Ok g c =
    each_read_found _ _ c.args.text.now (Ok c.in-Ok.line) _ (sym c.is_skipped.ensures ∙ c.if-is_skipped.false)
    (ap (λ (place : Place). line_read c.args.self.now.names place c.args.text.now) (sym c.place.ensures) ∙ c.in-Ok.ensures) c.find_line.ensures

pub returns-in-Err : goal.returns-in-Err
returns-in-Err g c =
    let p : Reached =
    reached c.args.self.now.names c.args.self.now.stage (history_of g.K.RecordsHistory.history c.args.self.now.names c.args.self.now.kernel) in
    let there : line_read p.names (place_of p) c.args.text.now ≡ line_read c.args.self.now.names c.place.result c.args.text.now =
    ap (λ (place : Place). line_read c.args.self.now.names place c.args.text.now) (sym c.place.ensures) in
    found_by_fault p c.args.text.now c.in-Err.fault c.found_by_fault.result (sym c.is_skipped.ensures ∙ c.if-is_skipped.false)
    (λ reason e. there ∙ c.in-Err.ensures reason e) c.found_by_fault.ensures

pub find_line-requires : goal.find_line-requires
find_line-requires g c = read_once c.args.self.now.names c.place.result c.args.text.now c.in-Ok.line c.in-Ok.ensures
