-- A request is judged by one command line: its address, a digit for the mark, its body, and the right check.
use Rattle.std.specs.Prelude.{ℕ, List, ◌++◌}
use Rattle.line.specs.Forms.{command}
use Rattle.line.specs.Lines.{Read, reading}
use Rattle.writer.specs.Canonical.{head_text, closed}

-- the check is that of the bytes up to and with the slash behind the body
abbrev pub composed : List ℕ → ℕ → List ℕ → List ℕ
composed address digit body = closed (head_text address digit ++ body)

abbrev pub request_read : List ℕ → ℕ → List ℕ → Read
request_read address digit body = reading command (composed address digit body)
