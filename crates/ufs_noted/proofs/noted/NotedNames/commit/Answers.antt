use Rattle.std.proofs.Common.{ap, sym, ◌∙◌}
use Rattle.ufs_noted.specs.Noted.{Noted}
use Rattle.ufs_noted.proofs.noted.NotedNames.commit.Goals as goal

pub commit_names-requires : goal.commit_names-requires
commit_names-requires g c =
    let l = c.requires.lent in
    record { lent = (l.0, l.1, l.2 ∙ ap (λ (n : Noted). n.names) (sym c.self.view_is), l.3 ∙ ap (λ (n : Noted). n.fresh) (sym c.self.view_is)) }
