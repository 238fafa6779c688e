-- `reading::digit_count` meets its contract: of the first seven bytes those at the front that are digits are counted, and these are as
-- many as of the whole text, up to seven (digits_few).
use mathlib.Core.Path.{◌∙◌}
use borrow.Author.Rules.{rules}
use borrow.Author.Tests.{tests}
use Rattle.std.proofs.lemmas.Iterator.{YieldsList-from_slice, YieldsList-from_take}
use Rattle.std.proofs.lemmas.Iterator.Consumers.{count_from_yields_List}
use Rattle.std.proofs.lemmas.Iterator.Search.{YieldsList-from_take_while}
use Rattle.request.specs.Text.{is_digit}
use Rattle.request.proofs.reading.DigitLaws.{digits_few}
use Rattle.request.proofs.reading.digit_count.Goals as goal

pub returns : goal.returns
returns c =
    let s = c.args.text.now in
    count_from_yields_List c.take_while.result _ c.count.ensures.ran (YieldsList-from_take_while _ is_digit (YieldsList-from_take 7 (YieldsList-from_slice s (cc)) (cc)) c.take_while.ensures.closure c.take_while.ensures.done (λ x b q k. search (rules, tests)))
    ∙ digits_few 7 s
