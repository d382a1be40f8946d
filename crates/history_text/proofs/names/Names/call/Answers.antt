use Rattle.std.proofs.Common.{◌≡◌, ◌∙◌, ap, sym, length, reverse, true, List, ℕ}
use Rattle.std.specs.List.{list_all}
use Rattle.std.proofs.lemmas.List.{reverse-reverse}
use Rattle.history_text.specs.Types.{NamedThread}
use Rattle.history_text.specs.Changes.{with_member_names}
use Rattle.history_text.specs.NameLimits.{is_short, is_short_thread}
use Rattle.history_text.proofs.ShortKept.{all_called, limited_written}
use Rattle.history_text.proofs.names.Names.call.Goals as goal

pub invariant_of-self : goal.invariant_of-self
invariant_of-self c =
    let names = reverse c.in_ok-copies.copies.items in
    let short =
    ap (λ (xs : List (List ℕ)). list_all is_short (reverse xs)) c.in_ok-copies.ensures ∙ ap (list_all is_short) (reverse-reverse c.args.members.now)
    ∙ sym c.if-not-are_short.ensures in
    limited_written c.self.inside.processes.items c.self.inside.threads.items c.call_members.new.threads c.self.inside.procedures.items c.self.inside.paths c.self.inside.threads.len c.self.invariant
    (sym c.self.inside.threads.ok.0)
    (c.call_members.auto.threads ∙ ap length c.as_mut_slice.ensures.value)
    (ap (list_all is_short_thread) (c.call_members.ensures ∙ ap (λ (ts : List NamedThread). with_member_names c.args.child.0 names ts) c.as_mut_slice.ensures.value)
    ∙ all_called c.args.child.0 names c.self.inside.threads.items short c.self.invariant.short_threads)
