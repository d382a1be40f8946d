use Rattle.std.proofs.Common.{◌≡◌, Bool, true, false, drop, refl, sym, ap, ◌∙◌}
use Rattle.std.specs.Prelude.{◌&&◌}
use Rattle.std.proofs.lemmas.Bool.{true≢false}
use Rattle.spec_traces.specs.Words.{begins_with_trace_line}
use Rattle.trace_check.proofs.Places.{place_at_start, place_later, rest_whole}
use Rattle.trace_check.proofs.input.trace_place.Goals as goal
use Rattle.trace_check.proofs.input.trace_place.Goals.{else-begins-via-then-begins+else-begins_with_trace_line, else-begins-via-else-begins}

and_false_right : (a b r : Bool) → r ≡ false → r ≡ b → (a && b) ≡ false
and_false_right true b r fails e = sym e ∙ fails
and_false_right false b r fails e = refl

and_false_left : (a b : Bool) → a ≡ false → (a && b) ≡ false
and_false_left true b e = absurd (true≢false e)
and_false_left false b e = refl

pub loop-place-init : goal.loop-place-init
loop-place-init c = place_at_start c.args.input.now

pub loop-place-preserved : goal.loop-place-preserved
loop-place-preserved c =
    let here : (c.loop-place.begins && begins_with_trace_line (drop c.loop-place.place c.args.input.now)) ≡ false =
    elim c.else-begins.branch [
      | else-begins-via-then-begins+else-begins_with_trace_line w ↦
          and_false_right c.loop-place.begins (begins_with_trace_line (drop c.loop-place.place c.args.input.now)) w.begins_with_trace_line.result w.if-begins_with_trace_line.false
          (w.begins_with_trace_line.ensures ∙ ap begins_with_trace_line (rest_whole c.loop-place.place c.args.input.now))
      | else-begins-via-else-begins w ↦ and_false_left c.loop-place.begins (begins_with_trace_line (drop c.loop-place.place c.args.input.now)) w.if-begins.false
    ] in
    place_later c.args.input.now c.loop-place.begins c.loop-place.place c.loop-place.invariant c.loop-place-test.true here
