-- The size of a queue.
use Rattle.std.specs.Prelude.{ℕ}

-- How many bytes a queue holds at most.
abbrev pub capacity : ℕ
capacity = 2048
