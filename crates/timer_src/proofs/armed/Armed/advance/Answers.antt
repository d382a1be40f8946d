use Rattle.std.proofs.Common.{◌++◌, ◌∙◌, ap, drop, filter, length, map, rules, sym, take}
use Rattle.std.proofs.lemmas.Fn.{filter_same}
use Rattle.std.proofs.lemmas.List.{length-map}
use Rattle.timer_src.specs.Pending.{is_to_come, stepped}
use Rattle.timer_src.proofs.Lists.{front_of}
use Rattle.timer_src.proofs.armed.Armed.advance.Goals as goal

pub returns-clause-items : goal.returns-clause-items
returns-clause-items c =
    let xs = c.self.inside.pendings.items in
    let ys = c.step.new.pendings in
    let kept = filter_same _ (is_to_come c.args.clock) _ (λ x b f' k. search rules) _ _ c.retain.ensures.filtered in
    let long = ap length c.step.ensures ∙ length-map c.as_mut_slice.result.now (stepped c.args.clock) ∙ c.as_mut_slice.ensures.len in
    let whole = ap (λ n. take n (ys ++ drop (length ys) xs)) (sym long) ∙ front_of ys (drop (length ys) xs) in
    rw (← c.self.view_is)
    (kept ∙ ap (filter (is_to_come c.args.clock)) (whole ∙ c.step.ensures ∙ ap (map (stepped c.args.clock)) c.as_mut_slice.ensures.value))
