-- Bytes laid into a buffer one after another, until nothing is left to lay.
use Rattle.std.proofs.Common.{◌≡◌, ℕ, ◌+◌, ◌<◌, ◌≤◌, List, [], ◌∷◌, ◌++◌, length, take, drop, set, None, sym, ap, ◌∙◌, append_assoc, add-zero, arith, take-append-drop, le-leb}
use borrow.Author.Tests.{lt-leb}
use Rattle.std.proofs.lemmas.List.{take_more_set, drop-set-lt}
use Rattle.escape.specs.Resolving.{fitting, written}

-- what is at the front, what is left to lay behind it, and the rest of the buffer
abbrev pub laid : List ℕ → ℕ → List ℕ → List ℕ
laid out n left = take n out ++ (left ++ drop (n + length left) out)

pub laid_more : (out left : List ℕ) (n b : ℕ) → n < length out → laid (set out n b) (n + 1) left ≡ laid out n (b ∷ left)
laid_more out left n b h =
    let k : n + 1 + length left ≡ n + length (b ∷ left) = omega arith in
    let rest : drop (n + 1 + length left) (set out n b) ≡ drop (n + length (b ∷ left)) out = drop-set-lt (n + 1 + length left) out n b (omega arith) ∙ ap (λ (i : ℕ). drop i out) k in
    ap (λ (x : List ℕ). x ++ (left ++ drop (n + 1 + length left) (set out n b))) (take_more_set out n b h)
    ∙ append_assoc (take n out) (b ∷ []) (left ++ drop (n + 1 + length left) (set out n b))
    ∙ ap (λ (x : List ℕ). take n out ++ (b ∷ (left ++ x))) rest

-- the same for an iterator that counts what it gives
pub laid_next : (out was later : List ℕ) (n i m b : ℕ) → was ≡ b ∷ later → i ≡ n → m ≡ n + 1 → n < length out → laid (set out i b) m later ≡ laid out n was
laid_next out was later n i m b e at next h =
    ap (λ (k : ℕ). laid (set out k b) m later) at ∙ ap (λ (k : ℕ). laid (set out n b) k later) next ∙ laid_more out later n b h ∙ ap (laid out n) (sym e)

pub laid_all : (out : List ℕ) (n : ℕ) → laid out n [] ≡ out
laid_all out n = rw (add-zero n) (take-append-drop n out)

pub wrote : (bs out : List ℕ) → length bs ≤ length out → laid out 0 bs ≡ written bs out
wrote bs out h = rw (le-leb (length bs) (length out) h) (ap (λ (i : ℕ). bs ++ drop i out) (omega arith))

pub too_long : (bs out : List ℕ) → length out < length bs → (None ≡ fitting bs (length out)) × (out ≡ written bs out)
too_long bs out h = let t = lt-leb (length bs) (length out) h in (rw t, rw t)
