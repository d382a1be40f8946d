-- Which request the numbers that C hands over ask for.
use Rattle.std.specs.Prelude.{ℕ, Bool, true, false, ◌/◌, ◌%◌, ◌^◌, ◌==◌, nat_le, nat_lt, not, List, map, Option, Some, None, option_map, if◌then◌else◌}
use Rattle.std.specs.List.{list_all}
use Rattle.dk_base.specs.declared.request.Request.TheVariants as request
use Rattle.dk_base.specs.declared.request.AlertMode.{AlertMode}
use Rattle.dk_base.specs.declared.request.AlertMode.TheVariants.{Set, Update, Nothing}
use Rattle.dk_base.specs.declared.request.Param.{Param}
use Rattle.dk_base.specs.declared.request.Param.TheVariants.{DataMax, DataMin, DescMax}
use Rattle.spec_kernel.specs.Types.{Fd, Pass, Request}
use Rattle.kernel_chronicle.specs.declared.asked.Asked.{Asked}

-- a descriptor that is passed: its number, and above its 32 bits a 1 where it is released
abbrev pub pass_of : ℕ → Pass
pass_of n = record { fd = record { 0 = n % 2 ^ 32 }; release = not (n / 2 ^ 32 == 0) }

abbrev pub passes_of : List ℕ → List Pass
passes_of items = map pass_of items

-- a descriptor by its number, and one that stands among the items
abbrev pub fd_of : ℕ → Fd
fd_of n = record { 0 = n }

abbrev pub fd_of_item : ℕ → Fd
fd_of_item n = record { 0 = n % 2 ^ 32 }

abbrev pub fds_of : List ℕ → List Fd
fds_of items = map fd_of_item items

abbrev pub are_below : ℕ → List ℕ → Bool
are_below limit items = list_all (λ n. nat_lt n limit) items

-- what the numbers ask for, where there is something with this number

abbrev pub flag_asked : ℕ → Option Bool
flag_asked n = if n == 0 then Some false else if n == 1 then Some true else None

abbrev pub param_asked : ℕ → Option Param
param_asked n = if n == 0 then Some DataMax else if n == 1 then Some DataMin else if n == 2 then Some DescMax else None

abbrev pub mode_asked : ℕ → Option AlertMode
mode_asked n = if n == 0 then Some Set else if n == 1 then Some Update else if n == 2 then Some Nothing else None

abbrev pub passes_asked : List ℕ → Option (List Pass)
passes_asked items = if are_below (2 ^ 33) items then Some (passes_of items) else None

abbrev pub fds_asked : List ℕ → Option (List Fd)
fds_asked items = if are_below (2 ^ 32) items then Some (fds_of items) else None

-- of the operations that hand over data or items

unfoldable pub message_asked : Asked → List ℕ → List ℕ → Option Request
message_asked q bytes items =
    if q.op == 2 then option_map (λ pass. request.Call (fd_of q.a) bytes pass q.c) (passes_asked items) else
    if q.op == 3 then option_map (λ pass. request.Return bytes pass) (passes_asked items) else
    if q.op == 20 then Some (request.Write (fd_of q.a) bytes) else
    if q.op == 28 then option_map (λ ports. request.SendN ports q.b q.c) (fds_asked items) else
    None

-- of the others: doors and their information

unfoldable pub door_request_asked : Asked → Option Request
door_request_asked q =
    if q.op == 1 then Some (request.Create q.a q.c (record { 0 = q.b })) else
    if q.op == 4 then Some (request.Revoke (fd_of q.a)) else
    if q.op == 5 then Some (request.Bind (fd_of q.a)) else
    if q.op == 6 then Some request.Unbind else
    if q.op == 7 then Some (request.Info (fd_of q.a)) else
    if q.op == 8 then Some request.InfoQuery else
    if q.op == 9 then option_map (λ param. request.GetParam (fd_of q.a) param) (param_asked q.b) else
    if q.op == 10 then option_map (λ param. request.SetParam (fd_of q.a) param q.c) (param_asked q.b) else
    if q.op == 11 then Some request.Cred else
    if q.op == 12 then Some request.TestCancel else
    None

-- descriptors, paths and pipes

unfoldable pub descriptor_request_asked : Asked → Option Request
descriptor_request_asked q =
    if q.op == 13 then Some (request.Close (fd_of q.a)) else
    if q.op == 14 then Some (request.Dup (fd_of q.a)) else
    if q.op == 15 then Some (request.Attach (fd_of q.a) (record { 0 = q.b })) else
    if q.op == 16 then Some (request.Detach (record { 0 = q.b })) else
    if q.op == 17 then Some (request.Open (record { 0 = q.b })) else
    if q.op == 18 then Some (request.Await (record { 0 = q.b })) else
    if q.op == 19 then Some request.Pipe else
    if q.op == 21 then Some (request.Read (fd_of q.a) q.b) else
    None

-- ports

unfoldable pub port_request_asked : Asked → Option Request
port_request_asked q =
    if q.op == 22 then Some request.PortCreate else
    if q.op == 23 then (if nat_lt q.c (2 ^ 32) then Some (request.Associate (fd_of q.a) (fd_of q.b) (record { 0 = q.c }) q.d) else None) else
    if q.op == 24 then Some (request.Dissociate (fd_of q.a) (fd_of q.b)) else
    if q.op == 25 then option_map (λ wait. request.Get (fd_of q.a) wait) (flag_asked q.b) else
    if q.op == 26 then (if nat_lt q.c (2 ^ 32) then option_map (λ wait. request.GetN (fd_of q.a) q.b q.c wait) (flag_asked q.d) else None) else
    if q.op == 27 then Some (request.Send (fd_of q.a) q.b q.c) else
    if q.op == 29 then option_map (λ mode. request.Alert (fd_of q.a) mode q.b q.c) (mode_asked q.d) else
    None

-- threads, processes, timers and the clock

unfoldable pub process_request_asked : Asked → Option Request
process_request_asked q =
    if q.op == 30 then Some (request.Interrupt (record { 0 = q.a })) else
    if q.op == 31 then Some (request.Kill (record { 0 = q.a })) else
    if q.op == 32 then Some request.Exit else
    if q.op == 33 then Some (request.Fork (record { 0 = q.a })) else
    if q.op == 34 then Some (request.TimerCreate (fd_of q.a) q.c) else
    if q.op == 35 then Some (request.TimerSet q.a q.c q.d) else
    if q.op == 36 then Some (request.TimerDelete q.a) else
    if q.op == 37 then Some (request.Advance q.c) else
    None

unfoldable pub plain_asked : Asked → Option Request
plain_asked q =
    if nat_le q.op 12 then door_request_asked q else
    if nat_le q.op 21 then descriptor_request_asked q else
    if nat_le q.op 29 then port_request_asked q else
    process_request_asked q

-- the operations that hand over data or items
abbrev pub has_message : ℕ → Bool
has_message op = if op == 2 then true else if op == 3 then true else if op == 20 then true else op == 28

-- the request that is asked for, where there is one
abbrev pub asked_request : Asked → List ℕ → List ℕ → Option Request
asked_request q bytes items = if has_message q.op then message_asked q bytes items else plain_asked q
