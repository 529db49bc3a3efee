use Rattle.std.proofs.Common.{Option, List, ℕ, false, codes, ap, sym, ◌∙◌, option_map}
use Rattle.std.specs.Borrow.{Bor}
use Rattle.std.specs.Option.{option_map_or}
use Rattle.std.specs.Str.{bytes_eq}
use Rattle.clap.specs.Words.{found_of}
use Rattle.ufs_words.proofs.CommandLemmas.{text_in}
use Rattle.ufs_words.proofs.command.trace_in.Goals as goal

pub returns-in-Some : goal.returns-in-Some
returns-in-Some c =
    let text = text_in (found_of c.args.found.now) (codes "trace") c.get_str.result c.get_str.ensures in
    c.eq.ensures ∙ ap (λ (o : Option (List ℕ)). option_map_or (λ word. bytes_eq word (codes "true")) o false) (sym (ap (λ (r : Option (Bor (List ℕ))). option_map (λ s. s.now) r) c.in-Some.is) ∙ text)

pub returns-in-None : goal.returns-in-None
returns-in-None c =
    let text = text_in (found_of c.args.found.now) (codes "trace") c.get_str.result c.get_str.ensures in
    ap (λ (o : Option (List ℕ)). option_map_or (λ word. bytes_eq word (codes "true")) o false) (sym (ap (λ (r : Option (Bor (List ℕ))). option_map (λ s. s.now) r) c.in-None.is) ∙ text)
