use Rattle.std.proofs.Common.{get_or, take, refl, rules}
use lib.Utf8.{encode}
use Rattle.std.proofs.Output.{has_written_append, has_written_of_eq}
use Rattle.console.specs.Shown.{characters}
use Rattle.console.proofs.Characters.{one_more}
use Rattle.console.proofs.text.TextDisplay.fmt.Goals as goal

pub loop-b-preserved : goal.loop-b-preserved
loop-b-preserved g c plain =
    let s = c.args.self.now.0.now in
    let i = c.loop-b.b-index in
    let before = c.loop-b.invariant plain in
    has_written_of_eq g.W.Write.write_str_gives _ _ _ _ (one_more s i (search rules))
    (has_written_append g.W.Write.write_str_gives _ (characters (take i s)) _ (encode (get_or s i 0)) _ before (c.in_ok-write_char.ensures.writes before.plain refl))
