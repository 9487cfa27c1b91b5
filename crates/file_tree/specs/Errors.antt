-- The numbers of errors.
-- Source: errno(3), and Linux's include/uapi/asm-generic/errno-base.h and errno.h.
use Rattle.std.specs.Prelude.{ℕ}
use Rattle.file_tree.specs.declared.errno.Errno.{Errno}
use Rattle.file_tree.specs.declared.errno.Errno.TheVariants.{EPERM, ENOENT, ESRCH, EINTR, EBADF, EAGAIN, ENOMEM, EACCES, EFAULT, EBUSY, EEXIST, ENODEV, ENOTDIR, EISDIR, EINVAL, EMFILE, ENOTTY, EFBIG, ENOSPC, ESPIPE, EPIPE, ENAMETOOLONG, ENOSYS, ENOTEMPTY, ETIMEDOUT}

abbrev pub number : Errno → ℕ
number EPERM = 1
number ENOENT = 2
number ESRCH = 3
number EINTR = 4
number EBADF = 9
number EAGAIN = 11
number ENOMEM = 12
number EACCES = 13
number EFAULT = 14
number EBUSY = 16
number EEXIST = 17
number ENODEV = 19
number ENOTDIR = 20
number EISDIR = 21
number EINVAL = 22
number EMFILE = 24
number ENOTTY = 25
number EFBIG = 27
number ENOSPC = 28
number ESPIPE = 29
number EPIPE = 32
number ENAMETOOLONG = 36
number ENOSYS = 38
number ENOTEMPTY = 39
number ETIMEDOUT = 110
