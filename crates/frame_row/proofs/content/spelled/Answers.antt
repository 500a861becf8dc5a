-- `spelled` meets its contract: `all` tests each byte in turn.
use Rattle.std.proofs.Common.{◌∙◌, sym, rules}
use Rattle.std.proofs.lemmas.Iterator.{YieldsList-from_slice}
use Rattle.std.proofs.lemmas.Iterator.Search.{all_from_yields_List}
use Rattle.frame_table.specs.Table.{allowed}
use Rattle.frame_row.proofs.Contents.{spelled-all}
use Rattle.frame_row.proofs.content.spelled.Goals as goal

pub returns : goal.returns
returns c =
    let a = c.args in
    all_from_yields_List (allowed a.characters) _ _ _ c.all.ensures.ran (YieldsList-from_slice a.text.now cc)
    (λ x b q k. search rules)
    ∙ sym (spelled-all a.characters a.text.now)
