use Rattle.std.proofs.Common.{◌≡◌, ◌+◌, ◌++◌, ap, arith, length, ◌∙◌}
use Rattle.std.proofs.lemmas.List.{length-append}
use Rattle.spec_records.specs.Words.{count_object}
use Rattle.unref_notice.specs.Counting.{counts_in, gone_among}
use Rattle.unref_notice.specs.Words.{has_gone}
use Rattle.unref_notice.proofs.Gone.{counted_more, gone_each, gone_few, members_more}
use Rattle.unref_notice.proofs.counts.Counts.gone.Goals as goal

pub returns-clause-each : goal.returns-clause-each
returns-clause-each c =
    λ o.
    let inside = c.self.inside in
    let now = counts_in inside.tallies.entries in
    let before = c.args.into.now.items in
    let told : c.tell_gone.new.into.items ≡ before ++ gone_among now inside.opening.entries inside.touched.items =
    c.tell_gone.ensures ∙ ap (λ ks. before ++ gone_among now inside.opening.entries ks) c.deref.ensures.value in
    rw (← c.self.view_is)
    (ap (count_object o) told
    ∙ counted_more o before (gone_among now inside.opening.entries inside.touched.items)
    ∙ ap (λ n. count_object o before + n) (gone_each now inside.opening.entries o inside.touched.items c.self.invariant.1.apart c.self.invariant.0))

pub returns-clause-few : goal.returns-clause-few
returns-clause-few c =
    let inside = c.self.inside in
    let now = counts_in inside.tallies.entries in
    let before = c.args.into.now.items in
    let told : c.tell_gone.new.into.items ≡ before ++ gone_among now inside.opening.entries inside.touched.items =
    c.tell_gone.ensures ∙ ap (λ ks. before ++ gone_among now inside.opening.entries ks) c.deref.ensures.value in
    let few = gone_few now inside.opening.entries inside.touched.items in
    let all = length-append before (gone_among now inside.opening.entries inside.touched.items) in
    let same = ap length told in
    omega (arith, few, all, same, c.self.invariant.6)

pub returns-clause-members : goal.returns-clause-members
returns-clause-members c = λ o. members_more o c.args.into.now.items c.tell_gone.new.into.items (has_gone c.args.self.now o) (returns-clause-each c o)
