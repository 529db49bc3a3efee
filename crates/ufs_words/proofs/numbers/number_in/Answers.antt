use Rattle.std.proofs.Common.{Option, List, ℕ, ap, sym, ◌∙◌, option_map, option_and_then}
use Rattle.std.specs.Borrow.{Bor}
use Rattle.clap.specs.Words.{found_of}
use Rattle.ufs_words.specs.Numbers.{number_up_to}
use Rattle.ufs_words.proofs.CommandLemmas.{text_in}
use Rattle.ufs_words.proofs.numbers.number_in.Goals as goal

pub returns-in-Some-clause-value : goal.returns-in-Some-clause-value
returns-in-Some-clause-value c =
    let text = text_in (found_of c.args.found.now) c.args.name.now c.get_str.result c.get_str.ensures in
    c.number_up_to.ensures.value ∙ ap (option_and_then (number_up_to c.args.most)) (sym (ap (λ (r : Option (Bor (List ℕ))). option_map (λ s. s.now) r) c.in-Some.is) ∙ text)

pub returns-in-None-clause-value : goal.returns-in-None-clause-value
returns-in-None-clause-value c =
    let text = text_in (found_of c.args.found.now) c.args.name.now c.get_str.result c.get_str.ensures in
    ap (option_and_then (number_up_to c.args.most)) (sym (ap (λ (r : Option (Bor (List ℕ))). option_map (λ s. s.now) r) c.in-None.is) ∙ text)
