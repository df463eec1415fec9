-- A text that lies in a part of a buffer.
use Rattle.std.specs.Prelude.{◌≡◌, ℕ, true, List}
use Rattle.record.specs.Writes.{within, part}
use Rattle.record.specs.declared.span.Span.{Span}

-- the text lies there
pub record Lies (s : Span) (text buffer : List ℕ) : Type 0 where
  pub there : within s buffer ≡ true
  pub is : part s buffer ≡ text
