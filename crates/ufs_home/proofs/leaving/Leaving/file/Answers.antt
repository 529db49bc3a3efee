use Rattle.std.proofs.Common.{ap, sym, ◌∙◌}
use Rattle.ufs_home.specs.Letters.{number_in}
use Rattle.ufs_home.proofs.Posting.{number_mailed}
use Rattle.ufs_home.proofs.leaving.Leaving.file.Goals as goal

pub returns : goal.returns
returns g c = sym (ap number_in (sym c.self.view_is) ∙ number_mailed c.self.inside.file c.self.inside.parcel c.self.invariant)
