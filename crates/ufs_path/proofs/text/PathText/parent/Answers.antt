use Rattle.std.proofs.Common.{◌-◌, ◌∙◌, ap, sym, take, length, List, ℕ}
use Rattle.ufs_model.specs.Paths.{whole_path}
use Rattle.ufs_path.specs.Names.{IsName}
use Rattle.ufs_model.proofs.Facts.Pieces.{components_of}
use Rattle.std.proofs.lemmas.List.Elements.{recursion_from_All}
use Rattle.ufs_path.proofs.NameLemmas.{names_plain}
use Rattle.ufs_path.proofs.text.PathText.parent.Goals as goal

pub returns-clause-parent : goal.returns-clause-parent
returns-clause-parent c =
    let back = components_of c.args.self.now (names_plain c.args.self.now (recursion_from_All IsName c.args.self.now c.len.ensures.names)) in
    c.prefix.ensures ∙ ap (λ n. whole_path (take n c.args.self.now)) (c.saturating_sub.ensures ∙ ap (λ n. n - 1) c.len.ensures.value)
    ∙ ap (λ (names : List (List ℕ)). whole_path (take (length names - 1) names)) (sym back)
