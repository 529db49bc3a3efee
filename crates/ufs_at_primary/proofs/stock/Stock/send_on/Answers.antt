use Rattle.std.proofs.Common.{◌≡◌, None, ap, refl, sym, subst, ◌∙◌}
use Rattle.ufs_home.specs.Places.{file_here}
use Rattle.ufs_joint.specs.Cells.{NamesCell}
use Rattle.ufs_owner.specs.Owners.{owner_at}
use Rattle.ufs_owner.specs.declared.owner.Owner.TheVariants as owner
use Rattle.ufs_at_primary.specs.Served.{IsAway, OnIt}
use Rattle.ufs_at_primary.specs.Stock.{AreHere, StockState, stock_of}
use Rattle.ufs_at_primary.proofs.Trials.{is_out}
use Rattle.ufs_at_primary.proofs.stock.Stock.send_on.Goals as goal

pub redirect-answer-requires : goal.redirect-answer-requires
redirect-answer-requires g c = record { kind = c.requires.kind; hinted = c.requires.hinted ∙ c.in-Some.ensures.hinted; has = c.in-Some.ensures.has }

pub returns-in-Some-clause-tried : goal.returns-in-Some-clause-tried
returns-in-Some-clause-tried g c = λ visible tells. (
  record {
    kind = c.requires.kind;
    hinted = c.requires.hinted ∙ c.in-Some.ensures.hinted;
    away = c.requires.away;
    worker = c.in-Some.worker;
    has = subst (λ (s : StockState). owner_at s.home.owners c.args.file ≡ owner.Worker c.in-Some.worker) c.self.view_is c.in-Some.ensures.has;
    answer = c.redirect-answer.ensures;
  },
  refl,
  refl,
)

pub see_request-request-requires : goal.see_request-request-requires
see_request-request-requires g c = record { pool = (c.self.inside.pool, c.self.invariant.hand) }

pub invariant_of-self : goal.invariant_of-self
invariant_of-self g c =
    let h = c.self.invariant in
    let e = c.see_request-request.ensures in
    record { formed = h.formed; its = h.its; numbers = h.numbers; hand = e.pool c.self.inside.pool h.hand; few = h.few; here = subst (λ (n : NamesCell). AreHere n c.self.inside.home) (sym e.names) h.here }

pub returns-clause-tried : goal.returns-clause-tried
returns-clause-tried g c = λ visible tells.
    let f = c.self.inside in
    let e = c.see_request-request.ensures in
    let kind = c.requires.kind in
    let was = stock_of f.names f.home f.pool in
    let away = subst (λ (s : StockState). file_here s.home.places c.args.file ≡ None) (sym c.self.view_is) c.requires.away in
    let none = c.in_default.ensures.none in (
      e.still,
      subst (λ (s : StockState). IsAway s c.args.request.ask c.args.file) c.self.view_is (record { out = is_out was c.args.file c.self.invariant.here (e.opened c.args.file kind.of) away; wants = OnIt kind away (λ yes worker is. none (sym c.requires.hinted ∙ yes) worker is) }),
      ap (λ (n : NamesCell). stock_of n f.home f.pool) e.names ∙ c.self.view_is,
      refl,
    )
