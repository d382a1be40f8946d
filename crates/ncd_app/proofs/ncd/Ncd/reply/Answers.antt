use Rattle.std.proofs.Common.{◌≡◌, ◌++◌, ◌∷◌, [], List, ℕ, sym, ◌∙◌}
use Rattle.std.proofs.lemmas.Result.{IfOk-weaker}
use Rattle.std.specs.Prelude.{codes}
use Rattle.ncd_app.specs.Definition.{statistics}
use Rattle.ncd_app.specs.Stands.{StandsFor}
use Rattle.ncd_app.proofs.Steps.{bad_line, stands_after, statistics_line}
use Rattle.ncd_app.proofs.ncd.Ncd.reply.Goals as goal

pub returns-in-Statistics-clause-stands : goal.returns-in-Statistics-clause-stands
returns-in-Statistics-clause-stands c =
    let n = c.args.self.now in
    let line = c.args.line.now in
    IfOk-weaker c.statistics.result (λ text. text ≡ statistics n.hits n.misses) (λ text. (lines : List (List ℕ)) → StandsFor n lines → StandsFor n (lines ++ line ∷ []))
    (λ text t. stands_after n n line text (statistics_line n line text (sym c.command_of.ensures.command ∙ c.in-Statistics.is) t)) c.statistics.ensures

pub returns-in-Bad-clause-stands : goal.returns-in-Bad-clause-stands
returns-in-Bad-clause-stands c =
    let n = c.args.self.now in
    let line = c.args.line.now in
    IfOk-weaker c.from_slice.result (λ text. text ≡ codes "bad") (λ text. (lines : List (List ℕ)) → StandsFor n lines → StandsFor n (lines ++ line ∷ []))
    (λ text t. stands_after n n line text (bad_line n line text (sym c.command_of.ensures.command ∙ c.in-Bad.is) t)) c.from_slice.ensures
