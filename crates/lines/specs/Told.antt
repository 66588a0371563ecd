-- What a fault is told as: its line, and what is wrong there.
use Rattle.std.specs.Prelude.{ℕ, List, ◌++◌, codes, decimal}
use Rattle.lines.specs.declared.FaultKind.{FaultKind}
use Rattle.lines.specs.declared.FaultKind.TheVariants.{NoLine, TooMany, TooLong, NotUtf8}
use Rattle.lines.specs.declared.Fault.{Fault}

abbrev pub words_of : FaultKind → List ℕ
words_of NoLine = codes "there is none, and a table has at least one message"
words_of TooMany = codes "one too many, a table has at most 64 messages"
words_of TooLong = codes "the table would be longer than 65535 bytes"
words_of NotUtf8 = codes "it is not UTF-8"

abbrev pub told : Fault → List ℕ
told fault = codes "line " ++ (decimal fault.line ++ (codes ": " ++ words_of fault.kind))
