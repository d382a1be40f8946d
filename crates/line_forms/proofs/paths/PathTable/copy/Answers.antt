use Rattle.std.specs.List.{each_same}
use Rattle.line_forms.proofs.PathSearch.{copied_paths}
use Rattle.line_forms.proofs.paths.PathTable.copy.Goals as goal

pub returns-in-Ok : goal.returns-in-Ok
returns-in-Ok c =
    rw (← c.self.view_is) (copied_paths _ c.self.inside.names.keys c.in-Ok.names.keys c.in-Ok.ensures.cases (λ x y is. each_same x.items y.items is.0))
