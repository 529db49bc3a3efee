use Rattle.std.proofs.Common.{ap, subst, sym, ◌∙◌}
use Rattle.ufs_home.specs.Home.{HomeState, home_of}
use Rattle.ufs_home.specs.Lending.{AreAway, put_all}
use Rattle.ufs_home.specs.Places.{Places}
use Rattle.ufs_home.proofs.home.Home.put_back_all.Goals as goal

pub put_back_all-requires : goal.put_back_all-requires
put_back_all-requires g c = subst (λ (h : HomeState). AreAway h.places c.args.files.items) (sym c.self.view_is) c.requires

pub returns : goal.returns
returns g c =
    ap (λ (p : Places). home_of p c.self.inside.owners.files c.self.inside.boxes.items) c.put_back_all.ensures
    ∙ ap (λ (h : HomeState). record h { places = put_all h.places c.args.files.items }) c.self.view_is
