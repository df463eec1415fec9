use Rattle.std.proofs.Common.{◌≡◌, drop}
use Rattle.escape.specs.Tokens.{resolved}
use Rattle.escape.specs.Texts.{same_bytes}
use Rattle.escape.proofs.resolving.means.Given as goal

-- what is left of the field is compared with what is left of the text
abbrev pub invariant-loop-b : goal.invariant-loop-b
invariant-loop-b l = same_bytes (resolved l.field) l.text ≡ same_bytes (resolved l.meant.0.now) (drop l.b-index l.text)
