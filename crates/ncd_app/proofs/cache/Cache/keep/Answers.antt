use Rattle.std.proofs.Common.{◌∷◌, take, ap, ◌∙◌}
use Rattle.ncd_app.specs.Cache.{answer_in}
use Rattle.ncd_app.proofs.Kept.{put_new}
use Rattle.ncd_app.proofs.cache.Cache.keep.Goals as goal

pub returns-in-Ok-clause-ok : goal.returns-in-Ok-clause-ok
returns-in-Ok-clause-ok c =
    let held = c.self.inside.answers in
    ap (λ k. k.entries) c.in-Ok.ensures.entries
    ∙ put_new held c.args.line c.args.answer c.self.invariant (ap (λ es. answer_in es c.args.line) c.self.view_is ∙ c.requires)
    ∙ ap (λ es. (c.args.line, c.args.answer) ∷ take 63 es) c.self.view_is
