-- The first words of a body's lines.
use Rattle.std.specs.Prelude.{ℕ, ◌&&◌, List, [], ◌∷◌, Option, bytes_eq, codes, find, nat_le}
use Rattle.std.specs.Option.{option_or}
use Rattle.line_forms.specs.declared.keyword.Keyword.{Keyword}
use Rattle.line_forms.specs.declared.keyword.Keyword.TheVariants.{Create, Call, Return, Serve, Revoke, Bind, Unbind, Info, GetParam, SetParam, Cred, TestCancel, Exit, Close, Dup, Attach, Detach, Open, Await, Pipe, Write, Read, PortCreate, Associate, Dissociate, Get, GetN, Send, SendN, Alert, TimerCreate, TimerSet, TimerDelete, Advance, Interrupt, Kill, Fork, Work, Ncd, Repeat, If, End}
use Rattle.line_forms.specs.Enumerated.{value_of_word}

abbrev pub keyword_word : Keyword → List ℕ
keyword_word Create = codes "create"
keyword_word Call = codes "call"
keyword_word Return = codes "return"
keyword_word Serve = codes "serve"
keyword_word Revoke = codes "revoke"
keyword_word Bind = codes "bind"
keyword_word Unbind = codes "unbind"
keyword_word Info = codes "info"
keyword_word GetParam = codes "getparam"
keyword_word SetParam = codes "setparam"
keyword_word Cred = codes "cred"
keyword_word TestCancel = codes "testcancel"
keyword_word Exit = codes "exit"
keyword_word Close = codes "close"
keyword_word Dup = codes "dup"
keyword_word Attach = codes "attach"
keyword_word Detach = codes "detach"
keyword_word Open = codes "open"
keyword_word Await = codes "await"
keyword_word Pipe = codes "pipe"
keyword_word Write = codes "write"
keyword_word Read = codes "read"
keyword_word PortCreate = codes "pcreate"
keyword_word Associate = codes "associate"
keyword_word Dissociate = codes "dissociate"
keyword_word Get = codes "get"
keyword_word GetN = codes "getn"
keyword_word Send = codes "send"
keyword_word SendN = codes "sendn"
keyword_word Alert = codes "alert"
keyword_word TimerCreate = codes "tcreate"
keyword_word TimerSet = codes "tset"
keyword_word TimerDelete = codes "tdelete"
keyword_word Advance = codes "advance"
keyword_word Interrupt = codes "interrupt"
keyword_word Kill = codes "kill"
keyword_word Fork = codes "fork"
keyword_word Work = codes "work"
keyword_word Ncd = codes "ncd"
keyword_word Repeat = codes "repeat"
keyword_word If = codes "if"
keyword_word End = codes "end"

abbrev pub keywords_create_to_info : List Keyword
keywords_create_to_info = Create ∷ Call ∷ Return ∷ Serve ∷ Revoke ∷ Bind ∷ Unbind ∷ Info ∷ []

abbrev pub keywords_getparam_to_detach : List Keyword
keywords_getparam_to_detach = GetParam ∷ SetParam ∷ Cred ∷ TestCancel ∷ Exit ∷ Close ∷ Dup ∷ Attach ∷ Detach ∷ []

abbrev pub keywords_open_to_get : List Keyword
keywords_open_to_get = Open ∷ Await ∷ Pipe ∷ Write ∷ Read ∷ PortCreate ∷ Associate ∷ Dissociate ∷ Get ∷ []

abbrev pub keywords_getn_to_end : List Keyword
keywords_getn_to_end = GetN ∷ Send ∷ SendN ∷ Alert ∷ Interrupt ∷ Kill ∷ Work ∷ Repeat ∷ If ∷ End ∷ []

-- those that later versions add
abbrev pub keywords_since_2 : List Keyword
keywords_since_2 = Fork ∷ TimerCreate ∷ TimerSet ∷ TimerDelete ∷ Advance ∷ Ncd ∷ []

-- the least version in whose texts a keyword is one
abbrev pub keyword_version : Keyword → ℕ
keyword_version Fork = 2
keyword_version TimerCreate = 3
keyword_version TimerSet = 3
keyword_version TimerDelete = 3
keyword_version Advance = 3
keyword_version Ncd = 4
keyword_version keyword = 1

unfoldable pub keyword_create_to_info : List ℕ → Option Keyword
keyword_create_to_info word = value_of_word keyword_word keywords_create_to_info word

unfoldable pub keyword_getparam_to_detach : List ℕ → Option Keyword
keyword_getparam_to_detach word = value_of_word keyword_word keywords_getparam_to_detach word

unfoldable pub keyword_open_to_get : List ℕ → Option Keyword
keyword_open_to_get word = value_of_word keyword_word keywords_open_to_get word

unfoldable pub keyword_getn_to_end : List ℕ → Option Keyword
keyword_getn_to_end word = value_of_word keyword_word keywords_getn_to_end word

-- the keyword that a word is, of those that later versions add, in a text of this version
unfoldable pub keyword_since_2 : ℕ → List ℕ → Option Keyword
keyword_since_2 version word = find (λ keyword. bytes_eq word (keyword_word keyword) && nat_le (keyword_version keyword) version) keywords_since_2

-- the keyword that a word is, in a text of this version
abbrev pub keyword_of : ℕ → List ℕ → Option Keyword
keyword_of version word =
    option_or (keyword_create_to_info word) (
    option_or (keyword_getparam_to_detach word) (
    option_or (keyword_open_to_get word) (
    option_or (keyword_getn_to_end word) (keyword_since_2 version word))))
