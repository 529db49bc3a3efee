use Rattle.std.proofs.Common.{ap, filter, refl, sym, subst, ◌∙◌}
use Rattle.ufs_owner.specs.Clients.{is_another}
use Rattle.ufs_owner.specs.Owners.{Owners, waiting_at, with_waiting}
use Rattle.ufs_home.specs.Home.{HomeState, home_of}
use Rattle.ufs_home.specs.Owning.{AreKnown}
use Rattle.ufs_home.proofs.Knowing.{known_waiting}
use Rattle.ufs_home.proofs.Stating.{still_home}
use Rattle.ufs_home.proofs.home.Home.unwait.Goals as goal

pub invariant_of-self : goal.invariant_of-self
invariant_of-self g c =
    let f = c.self.inside in
    let h = c.self.invariant in
    still_home g.N.Naming.start f.workers f.owners.files c.unwait.new.self.files f.boxes.items f.boxes.items c.self.invariant
    (subst (λ (o : Owners). AreKnown f.workers o.files) (sym c.unwait.ensures) (known_waiting f.workers f.owners.files c.args.file (filter (is_another c.args.client) (waiting_at f.owners.files c.args.file)) h.known)) refl

pub returns : goal.returns
returns g c =
    let f = c.self.inside in
    ap (λ (o : Owners). home_of f.shelf o.files f.boxes.items) c.unwait.ensures
    ∙ ap (λ (h : HomeState). record h { owners = with_waiting h.owners c.args.file (filter (is_another c.args.client) (waiting_at h.owners c.args.file)) }) c.self.view_is
