use Rattle.std.proofs.Common.{◌≡◌, ◌≤◌, length, ℕ, ◌+◌, List, take, drop, arith}
use Rattle.std.specs.Prelude.{min}
use Rattle.std.proofs.lemmas.Grind.{common_steps}
use Rattle.std.proofs.lemmas.List.{drop-drop}
use Rattle.dk_base.proofs.Moved.{moved, ended}
use Rattle.dk_base.proofs.memory.MemSourceSource.read.Goals as goal

pub returns-clause-bytes : goal.returns-clause-bytes
returns-clause-bytes c =
    let rest : List ℕ = drop c.self.inside.at c.self.inside.bytes in
    let n : ℕ = c.min-n.result in
    let le : n ≤ length rest = grind (arith, common_steps) in
    let copied : c.copy_from_slice.new.self ≡ take n rest = grind (arith, common_steps) in
    let rest_of : drop n rest ≡ drop (c.self.inside.at + n) c.self.inside.bytes = drop-drop n c.self.inside.at c.self.inside.bytes in
    let count : n ≡ min (min c.self.inside.piece (length c.args.buf.now)) (length rest) = grind (arith, common_steps) in
    rw (← c.self.view_is) (rw (← rest_of) (
      moved rest c.copy_from_slice.new.self _ n le copied,
      λ none some. grind (arith, common_steps, ended rest c.self.inside.piece (length c.args.buf.now) n c.self.invariant.1 count none),
    ))
