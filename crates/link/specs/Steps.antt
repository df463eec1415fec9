-- What the smaller functions answer.
use Rattle.std.specs.Prelude.{◌≡◌, ℕ, ◌-◌, cond, List, ◌++◌, length, drop, Some, None, Option, ◌==◌}
use Rattle.escape.specs.Tokens.{digit}
use Rattle.line.specs.Lines.{Read, faulty}
use Rattle.reader.specs.Cutting.{Part, bare}
use Rattle.life.specs.Codec.{read_part}
use Rattle.life.specs.Calls.{event, notice}
use Rattle.life.specs.Calls.{Kind as Told-kind}
use Rattle.life.specs.Link.{Told}
use Rattle.life.specs.Link.{Slot as Standing}
use Rattle.numbers.specs.Ours.{as_answer, ours}
use Rattle.link.specs.declared.pumped.Kind.{Kind}
use Rattle.link.specs.declared.pumped.Pumped.{Pumped}
use Rattle.link.specs.declared.pumped.Pumped.TheVariants.{Dry, Line}
use Rattle.link.specs.Meanings.{kind_of, read_told}

-- the number that a mark is, if it is a digit
abbrev pub digit_number : ℕ → Option ℕ
digit_number mark = cond (digit mark) (Some (mark - 48)) None

-- the kind of a line with another mark: ! is 33, and else it is ?
abbrev pub without_number : ℕ → Told-kind
without_number mark = cond (mark == 33) event notice

-- the reading of a whole line; there is none if more of it came than is held
abbrev pub line_read : Option (List ℕ) → Read
line_read None = faulty 1 1024
line_read (Some l) = as_answer l

-- the line, of which p is held, is told as the kind; the numbers stood as b and stand as a
pub record ToldAs (p : Part) (b a : ℕ → Standing) (k : Kind) : Type 0 where
  pub told : Told ours b a (read_part ours p) (kind_of k)
  pub read : read_told k p.kept ≡ read_part ours p

-- a line that has ended was held as p and is handed out
pub record Handed (p q : Part) (b a : ℕ → Standing) (old new : List ℕ) (k : Kind) (n : ℕ) : Type 0 where
  pub told : ToldAs p b a k
  pub count : n ≡ length p.kept
  pub buffer : new ≡ p.kept ++ drop n old
  pub bared : q ≡ bare

abbrev pub HandedOut : Part → Part → (b a : ℕ → Standing) → List ℕ → List ℕ → Pumped → Type 0
HandedOut p q b a old new Dry = ⊥
HandedOut p q b a old new (Line k n) = Handed p q b a old new k n
