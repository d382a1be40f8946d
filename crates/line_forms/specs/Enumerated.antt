-- Operands that are one of a few words.
use Rattle.std.specs.Prelude.{ℕ, List, [], ◌∷◌, Option, Some, option_map, find, bytes_eq, codes, if◌then◌else◌}
use Rattle.line_text.specs.Types.{AlertMode, Errno, Op, Param}
use Rattle.dk_base.specs.declared.error.Errno.TheVariants.{E2BIG, EAGAIN, EBADF, EBADFD, EBUSY, EINTR, EINVAL, EMFILE, ENFILE, ENOBUFS, ENOENT, ENOTSUP, EPERM, EPIPE, ETIME}
use Rattle.dk_base.specs.declared.request.Param.TheVariants.{DataMax, DataMin, DescMax}
use Rattle.dk_base.specs.declared.request.AlertMode.TheVariants.{Set, Update, Nothing}
use Rattle.dk_base.specs.declared.request.Op.TheVariants.{Upper, Reverse, Sum, Digest}
use Rattle.dk_base.specs.Words.{errno_name}
use Rattle.line_forms.specs.declared.line.Cond.{Cond}
use Rattle.line_forms.specs.declared.line.Cond.TheVariants.{Good, Yes, Unref, Errno as ErrnoCond}

-- the value of these whose word it is
abbrev pub value_of_word : {A : Type 0} → (A → List ℕ) → List A → List ℕ → Option A
value_of_word word_of values word = find (λ value. bytes_eq word (word_of value)) values

-- PARAM
abbrev pub param_word : Param → List ℕ
param_word DataMax = codes "data-max"
param_word DataMin = codes "data-min"
param_word DescMax = codes "desc-max"

abbrev pub params : List Param
params = DataMax ∷ DataMin ∷ DescMax ∷ []

abbrev pub param_of : List ℕ → Option Param
param_of word = value_of_word param_word params word

-- MODE
abbrev pub mode_word : AlertMode → List ℕ
mode_word Set = codes "set"
mode_word Update = codes "update"
mode_word Nothing = codes "none"

abbrev pub modes : List AlertMode
modes = Set ∷ Update ∷ Nothing ∷ []

abbrev pub mode_of : List ℕ → Option AlertMode
mode_of word = value_of_word mode_word modes word

-- OP
abbrev pub op_word : Op → List ℕ
op_word Upper = codes "upper"
op_word Reverse = codes "reverse"
op_word Sum = codes "sum"
op_word Digest = codes "digest"

abbrev pub ops : List Op
ops = Upper ∷ Reverse ∷ Sum ∷ Digest ∷ []

abbrev pub op_of : List ℕ → Option Op
op_of word = value_of_word op_word ops word

-- COND: `ok`, `yes`, `unref`, or an errno's name in capitals
abbrev pub errnos : List Errno
errnos = E2BIG ∷ EAGAIN ∷ EBADF ∷ EBADFD ∷ EBUSY ∷ EINTR ∷ EINVAL ∷ EMFILE ∷ ENFILE ∷ ENOBUFS ∷ ENOENT ∷ ENOTSUP ∷ EPERM ∷ EPIPE ∷ ETIME ∷ []

abbrev pub errno_of : List ℕ → Option Errno
errno_of word = value_of_word errno_name errnos word

abbrev pub cond_word : Cond → List ℕ
cond_word Good = codes "ok"
cond_word Yes = codes "yes"
cond_word Unref = codes "unref"
cond_word (ErrnoCond errno) = errno_name errno

abbrev pub cond_of : List ℕ → Option Cond
cond_of word =
    if bytes_eq word (codes "ok") then Some Good else (
    if bytes_eq word (codes "yes") then Some Yes else (
    if bytes_eq word (codes "unref") then Some Unref else
    option_map ErrnoCond (errno_of word)))
