use Rattle.std.proofs.Common.{sym, ◌∙◌}
use Rattle.std.specs.Prelude.{bytes_eq}
use Rattle.line_forms.proofs.PathSearch.{named_place, place_found, place_missing}
use Rattle.line_forms.proofs.paths.PathTable.number_of.Goals as goal

pub returns-in-Some : goal.returns-in-Some
returns-in-Some c =
    let name = c.args.name.now in
    let keys = c.self.inside.names.keys in
    rw (← c.self.view_is) (place_found (λ key. bytes_eq name key.items) keys c.in-Some.place (sym c.in-Some.ensures.index) ∙ sym (named_place name keys))

pub returns-in-None : goal.returns-in-None
returns-in-None c =
    let name = c.args.name.now in
    let keys = c.self.inside.names.keys in
    rw (← c.self.view_is) (c.len.ensures.len ∙ place_missing (λ key. bytes_eq name key.items) keys (sym c.in-None.ensures.index) ∙ sym (named_place name keys))
