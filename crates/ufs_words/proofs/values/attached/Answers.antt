use Rattle.std.proofs.Common.{◌≡◌, ◌∙◌, ap, sym, List, ℕ, Option, Some, None, drop, option_map}
use Rattle.std.specs.Borrow.{Bor}
use Rattle.std.specs.Option.{MatchOption}
use Rattle.std.specs.Str.Pattern.{FindsTextPrefix, StripsPrefix}
use Rattle.ufs_words.specs.Values.{behind}
use Rattle.ufs_words.proofs.ValueLemmas.{behind_is, behind_none}
use Rattle.ufs_words.proofs.values.attached.Goals as goal

stripped : (front word : List ℕ) (r : Option (Bor (List ℕ))) → MatchOption r (FindsTextPrefix front word None) (λ x. StripsPrefix (FindsTextPrefix front) word x.now) → option_map (λ s. s.now) r ≡ behind front word
stripped front word None h = sym (behind_none front word h)
stripped front word (Some x) h = ap Some h.2 ∙ behind_is front word (drop h.0 word) h.1.1

pub returns : goal.returns
returns c = stripped c.args.front.now c.args.word.now c.strip_prefix.result c.strip_prefix.ensures.cases
