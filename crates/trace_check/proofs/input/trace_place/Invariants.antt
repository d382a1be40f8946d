use Rattle.trace_check.proofs.Places.{IsPlaceFrom}
use Rattle.trace_check.proofs.input.trace_place.Given as goal

abbrev pub invariant-loop-place : goal.invariant-loop-place
invariant-loop-place l = IsPlaceFrom l.input l.begins l.place
