use Rattle.std.proofs.Common.{refl, rules}
use borrow.Author.Tests.{tests}
use Rattle.std.proofs.lemmas.Iterator.{YieldsList-from_range, YieldsList-from_map}
use Rattle.std.proofs.lemmas.Iterator.Search.{find_from_yields_List}
use Rattle.numbers.specs.Ten.{slots_of}
use Rattle.numbers.proofs.Standing.{place, free_in, next_found}
use Rattle.numbers.proofs.ten.Numbers.next_free.Goals as goal

pub returns : goal.returns
unfolding slots_of
returns c =
    next_found c.args.self.now.slots c.args.self.now.recent c.find.result
    (find_from_yields_List (free_in c.args.self.now.slots) _ _ c.find.result c.find.ensures.ran
    (YieldsList-from_map _ (place c.args.self.now.recent) (YieldsList-from_range 0 10 10 c.map.ensures.source refl) c.map.ensures.closure (λ x r q k. search rules))
    (λ x b q k. search (rules, tests)))
