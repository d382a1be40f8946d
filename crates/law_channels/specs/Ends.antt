-- Ends of pipes.
use Rattle.std.specs.Prelude.{◌≤◌, List, Bool, true, false, length}
use Rattle.dk_base.specs.declared.object.Obj.{Obj}
use Rattle.dk_base.specs.declared.object.Obj.TheVariants as obj
use Rattle.spec_records.specs.Words.{Pipe, bytes_of}

abbrev pub is_end : Obj → Bool
is_end (obj.PipeIn n) = true
is_end (obj.PipeOut n) = true
is_end _ = false

-- the other end of its pipe; what is no end has none, and stands for itself
abbrev pub other_end : Obj → Obj
other_end (obj.PipeIn n) = obj.PipeOut n
other_end (obj.PipeOut n) = obj.PipeIn n
other_end o = o

-- no more is there to read at a reading end, and no more room at a writing end
abbrev pub HasNoMore : List Pipe → List Pipe → Obj → Type 0
HasNoMore before after (obj.PipeIn n) = length (bytes_of after n) ≤ length (bytes_of before n)
HasNoMore before after (obj.PipeOut n) = length (bytes_of before n) ≤ length (bytes_of after n)
HasNoMore before after o = Unit {0}
