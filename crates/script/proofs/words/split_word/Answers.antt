use Rattle.std.proofs.Common.{rules}
use Rattle.script.proofs.Turns.{words_here, words_none}
use Rattle.script.proofs.words.split_word.Goals as goal

pub returns-in-Some : goal.returns-in-Some
returns-in-Some c = words_here _ _ (search rules)

pub returns-in-None : goal.returns-in-None
returns-in-None c = words_none _ (search rules)
