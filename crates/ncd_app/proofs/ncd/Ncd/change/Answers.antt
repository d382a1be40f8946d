use Rattle.std.proofs.Common.{◌≡◌, Some, ap, subst, sym, ◌∙◌}
use Rattle.std.proofs.lemmas.Result.{IfOk-weaker}
use Rattle.ncd_app.specs.Stands.{Replied}
use Rattle.ncd_app.specs.Table.{HoldsChanges}
use Rattle.ncd_app.proofs.Steps.{done_line, refused_line}
use Rattle.ncd_app.proofs.ncd.Ncd.change.Goals as goal

pub returns-in-Some-clause-ok : goal.returns-in-Some-clause-ok
returns-in-Some-clause-ok c =
    let n = c.args.self.now in
    let records : c.self.inside.table ≡ n.records = ap (λ v. v.records) c.self.view_is in
    λ line e. IfOk-weaker c.from_slice.result (λ text. text ≡ c.as_bytes.result.now) (Replied n n line)
    (λ text t. refused_line n line text c.args.change e (λ cs h. sym (c.in-Some.ensures cs (subst (λ es. HoldsChanges es cs) (sym records) h)) ∙ ap Some (sym (t ∙ c.as_bytes.ensures.value)))) c.from_slice.ensures

pub returns-clause-ok : goal.returns-clause-ok
returns-clause-ok c =
    let n = c.args.self.now in
    let records : c.self.inside.table ≡ n.records = ap (λ v. v.records) c.self.view_is in
    λ line e. done_line n _ line c.in_ok-text.text c.args.change e
    (λ cs h. sym (c.in_default.ensures cs (subst (λ es. HoldsChanges es cs) (sym records) h)))
    (λ cs h. c.in_ok-apply.ensures.ok cs (subst (λ es. HoldsChanges es cs) (sym records) h))
    c.in_ok-text.ensures c.clear.ensures (ap (λ v. v.hits) c.self.view_is) (ap (λ v. v.misses) c.self.view_is)
