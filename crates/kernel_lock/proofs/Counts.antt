-- How many events there are after more turns.
use Rattle.std.proofs.Common.{◌≡◌, ℕ, ◌+◌, List, [], ◌∷◌, length, length-append, arith}
use Rattle.spec_scripts.specs.Words.{event_at_turn}
use Rattle.sys_run.specs.Sys.{SysValue, history, with_turn, with_turns}

length-with_turn : (p : SysValue) (t : ℕ) → length (with_turn p t).journal ≡ length p.journal + 1
length-with_turn p t = length-append p.journal (event_at_turn p.script (history p) t ∷ [])

-- each turn makes one event
pub length-with_turns : (ts : List ℕ) (p : SysValue) → length (with_turns p ts).journal ≡ length p.journal + length ts
length-with_turns [] p = omega arith
length-with_turns (t ∷ ts) p = omega (arith, length-with_turn p t, length-with_turns ts (with_turn p t))
