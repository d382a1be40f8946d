use Rattle.line_forms.proofs.PathSearch.{same_paths}
use Rattle.line_forms.proofs.paths.PathTable.same.Goals as goal

pub returns : goal.returns
returns c =
    let compared = rw (c.as_slice.ensures.keys, c.as_slice-2.ensures.keys) at c.eq.ensures in
    rw (← c.self.view_is, ← c.other.view_is) (same_paths c.self.inside.names.keys c.other.inside.names.keys c.eq.result compared)
