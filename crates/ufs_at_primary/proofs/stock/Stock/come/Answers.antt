use Rattle.std.proofs.Common.{◌≡◌, ◌⊎◌, None, false, true, ap, subst}
use Rattle.std.specs.Prelude.{IfErr, IfOk, IfSome, IsSome, OnErr, OnOk}
use Rattle.ufs_home.specs.Home.{come_on, onward}
use Rattle.ufs_home.specs.Places.{file_here}
use Rattle.ufs_owner.specs.Lacks.{IsLackOut}
use Rattle.ufs_owner.specs.Owners.{is_coming, owner_at}
use Rattle.ufs_at_primary.specs.Stock.{StockState}
use Rattle.ufs_at_primary.proofs.AtHome.{here_came}
use Rattle.ufs_at_primary.proofs.stock.Stock.come.Goals as goal

pub invariant_of-self : goal.invariant_of-self
invariant_of-self g c =
    let h = c.self.invariant in
    let f = c.self.inside in
    record { formed = h.formed; its = h.its; numbers = h.numbers; hand = h.hand; few = h.few; here = here_came f.names f.home c.come.new.self c.args.parcel c.come.result c.come.ensures.ok c.come.ensures.err h.here }

pub returns-clause-ok : goal.returns-clause-ok
returns-clause-ok g c = subst (λ (s : StockState). IfOk c.come.result (λ to. c.come.new.self ≡ come_on s.home c.args.parcel to)) c.self.view_is c.come.ensures.ok

pub returns-clause-to : goal.returns-clause-to
returns-clause-to g c = subst (λ (s : StockState). IfOk c.come.result (λ to. to ≡ onward s.home.owners c.args.parcel.value.file.file)) c.self.view_is c.come.ensures.to

pub returns-clause-coming : goal.returns-clause-coming
returns-clause-coming g c = subst (λ (s : StockState). OnOk c.come.result (is_coming (owner_at s.home.owners c.args.parcel.value.file.file) ≡ true)) c.self.view_is c.come.ensures.coming

pub returns-clause-refused : goal.returns-clause-refused
returns-clause-refused g c = subst (λ (s : StockState). IfErr c.come.result (λ x. x.0 ≡ None → (is_coming (owner_at s.home.owners c.args.parcel.value.file.file) ≡ false) ⊎ IsSome (file_here s.home.places c.args.parcel.value.file.file))) c.self.view_is c.come.ensures.refused

pub returns-clause-lack : goal.returns-clause-lack
returns-clause-lack g c = subst (λ (s : StockState). IfErr c.come.result (λ x. IfSome x.0 (IsLackOut s.home.owners))) c.self.view_is c.come.ensures.lack

pub returns-clause-wanting : goal.returns-clause-wanting
returns-clause-wanting g c = subst (λ (s : StockState). IfErr c.come.result (λ x. IsSome x.0 → is_coming (owner_at s.home.owners c.args.parcel.value.file.file) ≡ true)) c.self.view_is c.come.ensures.wanting

pub returns-clause-err : goal.returns-clause-err
returns-clause-err g c = subst (λ (s : StockState). OnErr c.come.result (c.come.new.self ≡ s.home)) c.self.view_is c.come.ensures.err

pub returns-clause-rest : goal.returns-clause-rest
returns-clause-rest g c = ap (λ (s : StockState). record s { home = c.come.new.self }) c.self.view_is
