-- Bytes: a pipe is made empty and under the next number. A write that is done puts the first of its bytes last, as many as there is room
-- for, and tells how many. A read that is done tells the oldest bytes, and the pipe holds the rest. Nothing else changes a pipe.
use Rattle.std.specs.Prelude.{ℕ, ◌≡◌, ◌+◌, ◌-◌, ◌++◌, ◌≤◌, List, [], Option, Some, None, length, min, slice_get, take}
use Rattle.spec_kernel.specs.Types.{Fd}
use Rattle.dk_base.specs.declared.object.Obj.TheVariants as obj
use Rattle.dk_base.specs.declared.request.Request.TheVariants as request
use Rattle.dk_base.specs.declared.answer.Answer.TheVariants as answer
use Rattle.spec_records.specs.Words.{Pipe}
use Rattle.spec_kernel.specs.Words.{State, Turn, state_at}
use Rattle.law_places.specs.Places.{answer_at}
use Rattle.law_runs.specs.Channels.{Names, pipe_under}

-- the pipe of a number, before and after the turn of place i
pub data PipeChange (m : State) (xs : List Turn) (i : ℕ) (x : Turn) (n : ℕ) : Option Pipe → Option Pipe → Type 0 where
  stays : {o : Option Pipe} → PipeChange m xs i x n o o
  made :
      (reading writing : Fd) → x.request ≡ Some request.Pipe → answer_at m xs i x ≡ answer.TwoFds reading writing →
      n ≡ length (state_at m xs i).channels.pipes + 1 → PipeChange m xs i x n None (Some (record { number = n; bytes = [] }))
  written :
      (p : Pipe) (fd : Fd) (bytes : List ℕ) (count : ℕ) → x.request ≡ Some (request.Write fd bytes) → Names m xs i x fd (obj.PipeOut n) →
      answer_at m xs i x ≡ answer.Count count →
      PipeChange m xs i x n (Some p) (Some (record { number = p.number; bytes = p.bytes ++ take count bytes }))
  read :
      (p : Pipe) (fd : Fd) (max : ℕ) (bytes rest : List ℕ) → x.request ≡ Some (request.Read fd max) → Names m xs i x fd (obj.PipeIn n) →
      answer_at m xs i x ≡ answer.Data bytes → p.bytes ≡ bytes ++ rest →
      PipeChange m xs i x n (Some p) (Some (record { number = p.number; bytes = rest }))

-- The turn of place i writes so many of these bytes: as many as there are, or as fit below 4,096. The pipe holds what it held, and then
-- the first so many of them.
pub record IsWritten (m : State) (xs : List Turn) (i : ℕ) (x : Turn) (fd : Fd) (bytes : List ℕ) (count : ℕ) : Type 0 where
  pub number : ℕ
  pub pipe : Pipe
  pub names : Names m xs i x fd (obj.PipeOut number)
  pub there : pipe_under (state_at m xs i) number ≡ Some pipe
  pub as_many : count ≡ min (length bytes) (4096 - length pipe.bytes)
  pub after : pipe_under (state_at m xs (i + 1)) number ≡ Some (record { number = pipe.number; bytes = pipe.bytes ++ take count bytes })

-- The turn of place i reads these bytes: the oldest that the pipe held, as many as there were and at most so many. The pipe holds the
-- rest.
pub record IsRead (m : State) (xs : List Turn) (i : ℕ) (x : Turn) (fd : Fd) (max : ℕ) (bytes : List ℕ) : Type 0 where
  pub number : ℕ
  pub pipe : Pipe
  pub names : Names m xs i x fd (obj.PipeIn number)
  pub there : pipe_under (state_at m xs i) number ≡ Some pipe
  pub as_many : length bytes ≡ min max (length pipe.bytes)
  pub rest : List ℕ
  pub oldest : pipe.bytes ≡ bytes ++ rest
  pub after : pipe_under (state_at m xs (i + 1)) number ≡ Some (record { number = pipe.number; bytes = rest })

pub record Bytes (m : State) (xs : List Turn) : Type 0 where
  pub none_at_first : (n : ℕ) → pipe_under m n ≡ None
  pub each :
      (i n : ℕ) (x : Turn) → slice_get xs i ≡ Some x →
      PipeChange m xs i x n (pipe_under (state_at m xs i) n) (pipe_under (state_at m xs (i + 1)) n)
  -- and each request that is done has its effect
  pub made :
      (i : ℕ) (x : Turn) (reading writing : Fd) → slice_get xs i ≡ Some x → answer_at m xs i x ≡ answer.TwoFds reading writing →
      pipe_under (state_at m xs (i + 1)) (length (state_at m xs i).channels.pipes + 1)
      ≡ Some (record { number = length (state_at m xs i).channels.pipes + 1; bytes = [] })
  pub written :
      (i : ℕ) (x : Turn) (fd : Fd) (bytes : List ℕ) (count : ℕ) → slice_get xs i ≡ Some x → x.request ≡ Some (request.Write fd bytes) →
      answer_at m xs i x ≡ answer.Count count → IsWritten m xs i x fd bytes count
  pub read :
      (i : ℕ) (x : Turn) (fd : Fd) (max : ℕ) (bytes : List ℕ) → slice_get xs i ≡ Some x → x.request ≡ Some (request.Read fd max) →
      answer_at m xs i x ≡ answer.Data bytes → IsRead m xs i x fd max bytes
  -- a pipe never holds more than 4,096 bytes
  pub at_most : (i n : ℕ) (p : Pipe) → i ≤ length xs → pipe_under (state_at m xs i) n ≡ Some p → length p.bytes ≤ 4096
