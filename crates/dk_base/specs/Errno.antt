-- The name of each error number.
use Rattle.std.specs.Prelude.{ℕ, List, codes}
use Rattle.dk_base.specs.declared.error.Errno.{Errno}
use Rattle.dk_base.specs.declared.error.Errno.TheVariants.{E2BIG, EAGAIN, EBADF, EBADFD, EBUSY, EINTR, EINVAL, EMFILE, ENFILE, ENOBUFS, ENOENT, ENOTSUP, EPERM, EPIPE, ETIME}

abbrev pub errno_name : Errno → List ℕ
errno_name E2BIG = codes "E2BIG"
errno_name EAGAIN = codes "EAGAIN"
errno_name EBADF = codes "EBADF"
errno_name EBADFD = codes "EBADFD"
errno_name EBUSY = codes "EBUSY"
errno_name EINTR = codes "EINTR"
errno_name EINVAL = codes "EINVAL"
errno_name EMFILE = codes "EMFILE"
errno_name ENFILE = codes "ENFILE"
errno_name ENOBUFS = codes "ENOBUFS"
errno_name ENOENT = codes "ENOENT"
errno_name ENOTSUP = codes "ENOTSUP"
errno_name EPERM = codes "EPERM"
errno_name EPIPE = codes "EPIPE"
errno_name ETIME = codes "ETIME"
