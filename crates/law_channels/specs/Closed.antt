-- Which rows an act closes. It is told before the act, by its request: no other row that was open is another afterwards.
use Rattle.std.specs.Prelude.{ℕ, ◌==◌, ◌&&◌, List, [], ◌∷◌, Option, Bool, true, false, if◌then◌else◌, Some, None, is_none}
use Rattle.std.specs.List.{list_any}
use Rattle.spec_kernel.specs.Types.{Fd, Pass, Request}
use Rattle.dk_base.specs.declared.request.Request.TheVariants as request
use Rattle.spec_records.specs.Words.{is_last}
use Rattle.spec_kernel.specs.Words.{State, is_live_process, process_of, refusal_of}

pub data Closing : Type 0 where
  nothing : Closing
  -- of a process, the rows of these descriptors
  rows : ℕ → List Fd → Closing
  -- of a process, all rows
  process : ℕ → Closing

abbrev pub is_descriptor : Fd → Fd → Bool
is_descriptor fd g = fd.0 == g.0

-- a row of process p is among them
abbrev pub is_closed : Closing → ℕ → Fd → Bool
is_closed Closing.nothing p fd = false
is_closed (Closing.rows q fds) p fd = (p == q) && list_any (is_descriptor fd) fds
is_closed (Closing.process q) p fd = p == q

-- the descriptors that a call or a return releases
abbrev pub released : List Pass → List Fd
released [] = []
released (x ∷ xs) = if x.release then x.fd ∷ released xs else released xs

-- what a request of thread t of process p closes where it is not refused
abbrev pub closed_by : State → ℕ → ℕ → Request → Closing
closed_by m t p (request.Close fd) = Closing.rows p (fd ∷ [])
closed_by m t p (request.Revoke fd) = Closing.rows p (fd ∷ [])
closed_by m t p (request.Call fd bytes pass rsize) = Closing.rows p (released pass)
closed_by m t p (request.Return bytes pass) = Closing.rows p (released pass)
closed_by m t p (request.Kill q) = if is_live_process m q.0 then Closing.process q.0 else Closing.nothing
closed_by m t p request.Exit = if is_last m.process_table t p then Closing.process p else Closing.nothing
closed_by m t p _ = Closing.nothing

-- the end of a wait closes nothing
abbrev pub closed_rows : State → ℕ → Option Request → Closing
closed_rows m t None = Closing.nothing
closed_rows m t (Some r) = closed_by m t (process_of m t) r

-- a turn that is not refused
abbrev pub is_acting : State → ℕ → Option Request → Bool
is_acting m t None = true
is_acting m t (Some r) = is_none (refusal_of m t (process_of m t) r)

-- a turn of thread t closes a row of process p
abbrev pub closes : State → ℕ → Option Request → ℕ → Fd → Bool
closes m t q p fd = is_closed (closed_rows m t q) p fd && is_acting m t q
