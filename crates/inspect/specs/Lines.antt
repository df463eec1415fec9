-- A line ends with byte 13 or 10; what stands behind the last end is no line.
use Rattle.std.specs.Prelude.{ℕ, Bool, true, false, cond, List, [], ◌∷◌, Some, None, Option, ◌==◌}

abbrev pub is_end : ℕ → Bool
is_end b = cond (b == 13) true (b == 10)

abbrev pub longer : ℕ → Option (List ℕ × List ℕ) → Option (List ℕ × List ℕ)
longer b None = None
longer b (Some p) = Some (b ∷ p.0, p.1)

-- what stands before the first end, and what stands behind it, if there is one
abbrev pub cut_line : List ℕ → Option (List ℕ × List ℕ)
cut_line [] = None
cut_line (b ∷ s) = elim (is_end b) [ true ↦ Some ([], s) | false ↦ longer b (cut_line s) ]
