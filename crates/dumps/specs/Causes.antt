-- Why a dump cannot be read, in words. Assumes nothing.
use Rattle.std.specs.Prelude.{ℕ, List, ◌++◌, codes, nat_abs}
use Rattle.std.specs.Fmt.{decimal}
use Rattle.dumps.specs.declared.causes.Cause.{Cause}

-- the bytes of a cause in words: a number of the system's without its sign
abbrev pub cause_text : Cause → List ℕ
cause_text Cause.NotFound = codes "no such file"
cause_text Cause.PermissionDenied = codes "permission denied"
cause_text Cause.NotADirectory = codes "a part of its path is no directory"
cause_text Cause.IsADirectory = codes "it is a directory"
cause_text Cause.NameTooLong = codes "its name is too long"
cause_text Cause.NameNotUtf8 = codes "its name is no UTF-8"
cause_text (Cause.System number) = codes "the system's error " ++ decimal (nat_abs number)
