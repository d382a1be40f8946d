-- Room that is enough for the words of a request.
use Rattle.std.specs.Prelude.{ℕ, ◌+◌, ◌*◌, List, [], length}
use Rattle.dk_base.specs.declared.request.Request.TheVariants.{Call, Return, Write, SendN}
use Rattle.history_text.specs.Types.{Request}

-- the data that it has
abbrev pub data_of : Request → List ℕ
data_of (Call door bytes pass rsize) = bytes
data_of (Return bytes pass) = bytes
data_of (Write fd bytes) = bytes
data_of request = []

-- how many descriptors it lists
abbrev pub count_given : Request → ℕ
count_given (Call door bytes pass rsize) = length pass
count_given (Return bytes pass) = length pass
count_given (SendN ports events user) = length ports
count_given request = 0

-- 160 bytes beside four for each byte of data and 22 for each descriptor
abbrev pub request_room : Request → ℕ
request_room request = 160 + 4 * length (data_of request) + 22 * count_given request
