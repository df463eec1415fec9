-- What is shown of bytes.
use Rattle.std.specs.Prelude.{ℕ, List, [], ◌∷◌, ◌++◌}
use Rattle.std.proofs.Math.Utf8.{encode}

-- each byte as the character of that number
abbrev pub characters : List ℕ → List ℕ
characters [] = []
characters (b ∷ bs) = encode b ++ characters bs
