use Rattle.call_tree.proofs.Sounds.{are_sound}
use Rattle.call_tree.proofs.calls.Calls.are_sound.Goals as goal

pub returns : goal.returns
returns c = rw (← c.self.view_is) (are_sound c.self.inside.index.made c.self.inside.index.entries c.are_single.ensures.single c.are_single.ensures.rising)
