use Rattle.std.proofs.Common.{unwrap_or, ap, ◌∙◌, rules, tests}
use Rattle.std.proofs.lemmas.Iterator.{YieldsList-from_slice, YieldsList-from_map}
use Rattle.std.proofs.lemmas.Iterator.Consumers.{reduce_from_yields_List}
use Rattle.std.proofs.lemmas.List.Folds.{max_of_map}
use Rattle.ufs_start.specs.Ends.{end_of_form}
use Rattle.ufs_start.proofs.used.end_of_forms.Goals as goal

pub returns : goal.returns
returns c =
    let list = c.args.forms.now in
    c.unwrap_or.ensures
    ∙ ap (λ o. unwrap_or o 0) (reduce_from_yields_List _ c.map.result _ c.max.ensures.ran (YieldsList-from_map _ end_of_form (YieldsList-from_slice list cc) c.map.ensures.closure (λ x b q k. search (rules, tests))))
    ∙ max_of_map end_of_form list
