use Rattle.std.proofs.Common.{◌≡◌, ◌+◌, ◌∷◌, None, Some, ap, subst, sym, take, ◌∙◌}
use Rattle.std.specs.Prelude.{bytes_eq}
use Rattle.lru.specs.LruCache.{promoted}
use Rattle.ncd_app.specs.Cache.{answer_in}
use Rattle.ncd_app.specs.Table.{HoldsChanges}
use Rattle.ncd_app.proofs.Steps.{hit_line, miss_line}
use Rattle.ncd_app.proofs.ncd.Ncd.ask.Goals as goal

pub returns-in-Some-clause-ok : goal.returns-in-Some-clause-ok
returns-in-Some-clause-ok c =
    let n = c.args.self.now in
    let line = c.args.line in
    let text = c.in_ok-text.text in
    let cached : c.self.inside.cache ≡ n.cached = ap (λ v. v.cached) c.self.view_is in
    let there : answer_in n.cached line ≡ Some text =
    ap (λ es. answer_in es line) (sym cached) ∙ sym c.in-Some.ensures ∙ ap Some (sym c.in_ok-text.ensures) in
    hit_line n _ line text c.args.question.now c.requires.asks there
    (ap (λ v. v.records) c.self.view_is) (c.touch.ensures ∙ ap (promoted (bytes_eq line)) cached)
    (ap (λ v. v.hits + 1) c.self.view_is) (ap (λ v. v.misses) c.self.view_is)

pub returns-clause-ok : goal.returns-clause-ok
returns-clause-ok c =
    let n = c.args.self.now in
    let line = c.args.line in
    let text = c.in_ok-text-2.text in
    let cached : c.self.inside.cache ≡ n.cached = ap (λ v. v.cached) c.self.view_is in
    let records : c.self.inside.table ≡ n.records = ap (λ v. v.records) c.self.view_is in
    let none : answer_in n.cached line ≡ None = ap (λ es. answer_in es line) (sym cached) ∙ sym c.in_default.ensures in
    miss_line n _ line text c.args.question.now c.requires.asks none
    (λ cs h. c.in_ok-text-2.ensures cs (subst (λ es. HoldsChanges es cs) (sym records) h))
    records (c.in_ok-keep.ensures.ok ∙ (λ i. (line, c.in_ok-kept.ensures i) ∷ take 63 (cached i)))
    (ap (λ v. v.hits) c.self.view_is) (ap (λ v. v.misses + 1) c.self.view_is)
