use Rattle.std.proofs.Common.{◌≡◌, ◌<◌, ◌^◌, Some, ap, sym, subst, ◌∙◌}
use Rattle.std.specs.Prelude.{IsSome}
use Rattle.std.specs.FinMap as fin
use Rattle.ufs_home.specs.Places.{file_here}
use Rattle.ufs_joint.specs.Cells.{FileCell}
use Rattle.ufs_at_primary.specs.Stock.{AreHere, StockState, stock_of}
use Rattle.ufs_at_primary.proofs.Births.{kept_home}
use Rattle.ufs_at_primary.proofs.Trials.{lent_place}
use Rattle.ufs_at_primary.proofs.stock.Stock.measure.Goals as goal

pub lend-requires : goal.lend-requires
lend-requires g c = subst (λ (s : StockState). IsSome (file_here s.home.places c.args.file)) (sym c.self.view_is) c.requires.here

pub put_back-requires-clause-empty : goal.put_back-requires-clause-empty
put_back-requires-clause-empty g c =
    ap (fin.get c.lend.new.self.places) (ap (λ (k : FileCell). k.value.file.file) c.measure_with-held.ensures.file ∙ c.in-Ok.ensures.number) ∙ lent_place c.self.inside.home c.lend.new.self c.args.file c.in-Ok.ensures.lent

pub put_back-requires-clause-low : goal.put_back-requires-clause-low
put_back-requires-clause-low g c = subst (λ (k : FileCell). k.value.file.file < 2 ^ 31) (sym c.measure_with-held.ensures.file) c.in-Ok.ensures.low

pub returns-in-Err-clause-same : goal.returns-in-Err-clause-same
returns-in-Err-clause-same g c = (let f = c.self.inside in (λ i. stock_of f.names (c.in-Err.ensures.kept i) f.pool) ∙ c.self.view_is)

pub returns-clause-same : goal.returns-clause-same
returns-clause-same g c =
    let f = c.self.inside in
    let held = c.measure_with-held.result.0 in
    let same = c.measure_with-held.ensures.file in
    let home : c.put_back.new.self ≡ f.home =
    kept_home f.home c.lend.new.self c.put_back.new.self c.args.file held (ap (λ (k : FileCell). k.value.file.file) same ∙ c.in-Ok.ensures.number) (c.in-Ok.ensures.file ∙ ap Some (sym same)) c.in-Ok.ensures.lent c.put_back.ensures in
    (λ i. stock_of f.names (home i) f.pool) ∙ c.self.view_is

pub invariant_of-self : goal.invariant_of-self
invariant_of-self g c =
    let h = c.self.invariant in
    let f = c.self.inside in
    record { formed = h.formed; its = h.its; numbers = h.numbers; hand = h.hand; few = h.few; here = subst (AreHere f.names) (sym c.in-Err.ensures.kept) h.here }

pub invariant_of-self-2 : goal.invariant_of-self-2
invariant_of-self-2 g c =
    let h = c.self.invariant in
    let f = c.self.inside in
    let held = c.measure_with-held.result.0 in
    let same = c.measure_with-held.ensures.file in
    let home : c.put_back.new.self ≡ f.home =
    kept_home f.home c.lend.new.self c.put_back.new.self c.args.file held (ap (λ (k : FileCell). k.value.file.file) same ∙ c.in-Ok.ensures.number) (c.in-Ok.ensures.file ∙ ap Some (sym same)) c.in-Ok.ensures.lent c.put_back.ensures in
    record { formed = h.formed; its = h.its; numbers = h.numbers; hand = h.hand; few = h.few; here = subst (AreHere f.names) (sym home) h.here }
