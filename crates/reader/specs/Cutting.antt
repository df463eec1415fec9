-- A stream by its lines: a line ends with byte 13 or 10, an empty line is ignored, and bytes after the last end are not yet a line.
use Rattle.std.specs.Prelude.{ℕ, Bool, true, false, cond, List, [], ◌∷◌, ◌++◌, map, length, Some, None, Option, ◌==◌, nat_lt}
use Rattle.reader.specs.Stream.{Cutter, run, after}

abbrev pub is_end : ℕ → Bool
is_end b = cond (b == 13) true (b == 10)

-- ---- whole lines
abbrev pub unless_empty : List ℕ → List (List ℕ)
unless_empty [] = []
unless_empty (b ∷ l) = (b ∷ l) ∷ []

-- what is held is all that came since the last end
abbrev pub by_lines : Cutter (List ℕ) (List ℕ)
by_lines = record {
  feed = λ u b. cond (is_end b) [] (u ++ (b ∷ []));
  gives = λ u b. cond (is_end b) (unless_empty u) [];
}

-- the lines, none of them empty, that end in the bytes, where u came before these since the last end
abbrev pub lines_from : List ℕ → List ℕ → List (List ℕ)
lines_from u bs = run by_lines u bs

-- what came since the last end
abbrev pub left_from : List ℕ → List ℕ → List ℕ
left_from u bs = after by_lines u bs

-- all the lines of a stream, each read by `read`
abbrev pub lines_read : {X : Type 0} → (List ℕ → X) → List ℕ → List X
lines_read read bs = map read (lines_from [] bs)

-- ---- lines of which at most 1,024 bytes are held
-- the first bytes of a line, and whether more of it came
pub record Part : Type 0 where
  pub kept : List ℕ
  pub over : Bool

abbrev pub bare : Part
bare = record { kept = []; over = false }

-- the line, unless more of it came than is kept
abbrev pub whole : Part → Option (List ℕ)
whole p = cond p.over None (Some p.kept)

-- with one byte more, of which `most` are kept
abbrev pub longer : ℕ → Part → ℕ → Part
longer most p b =
    cond (nat_lt (length p.kept) most)
    (record { kept = p.kept ++ (b ∷ []); over = p.over })
    (record { kept = p.kept; over = true })

-- the part, if what it keeps is not empty
abbrev pub unless_bare : Part → List ℕ → List Part
unless_bare p [] = []
unless_bare p (b ∷ l) = p ∷ []

abbrev pub by_parts : Cutter Part Part
by_parts = record {
  feed = λ p b. cond (is_end b) bare (longer 1024 p b);
  gives = λ p b. cond (is_end b) (unless_bare p p.kept) [];
}
