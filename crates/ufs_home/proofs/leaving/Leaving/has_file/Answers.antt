use Rattle.std.proofs.Common.{ap, sym, ◌∙◌}
use Rattle.ufs_home.specs.Letters.{is_file}
use Rattle.ufs_home.proofs.Posting.{file_mailed}
use Rattle.ufs_home.proofs.leaving.Leaving.has_file.Goals as goal

pub returns : goal.returns
returns g c = c.is_some.ensures ∙ sym (ap is_file (sym c.self.view_is) ∙ file_mailed c.self.inside.file c.self.inside.parcel)
