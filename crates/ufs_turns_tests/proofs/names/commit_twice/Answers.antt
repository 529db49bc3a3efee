use Rattle.std.proofs.Common.{sym, ap, ◌∙◌}
use Rattle.ufs_names.specs.NamesPart.{NamesPart}
use Rattle.ufs_turns_tests.proofs.NamesLending.{StillLends, goes_on}
use Rattle.ufs_turns_tests.proofs.names.commit_twice.Goals as goal

pub commit_names-first-requires : goal.commit_names-first-requires
commit_names-first-requires g c = (let f = c.requires.lent in record { lent = (f.0, f.1, f.2, f.3 ∙ sym c.new-fresh.ensures.items) })

pub commit_names-second-requires : goal.commit_names-second-requires
commit_names-second-requires g c =
    let f = c.requires.lent in
    let n = c.args.names.now in
    let k = g.N.Naming.start.is_visible in
    let one = c.commit_names-first in
    let begun : StillLends n c.args.hand.now n c.new-fresh.result.items = record { cell = f.0; lends = f.1; value = f.2; fresh_is = f.3 ∙ sym c.new-fresh.ensures.items; same = ap (λ (x : NamesPart). x.held) f.2 } in
    let l = goes_on k n c.args.hand.now one.new.hand n one.new.names c.new-fresh.result.items one.new.fresh.items begun one.result one.ensures.ok one.ensures.err one.ensures.committed one.ensures.spent one.ensures.kept one.ensures.unspent one.ensures.away in
    record { lent = (l.cell, l.lends, l.value, l.fresh_is) }

pub returns-clause-lent : goal.returns-clause-lent
returns-clause-lent g c =
    let f = c.requires.lent in
    let n = c.args.names.now in
    let k = g.N.Naming.start.is_visible in
    let one = c.commit_names-first in
    let two = c.commit_names-second in
    let begun : StillLends n c.args.hand.now n c.new-fresh.result.items = record { cell = f.0; lends = f.1; value = f.2; fresh_is = f.3 ∙ sym c.new-fresh.ensures.items; same = ap (λ (x : NamesPart). x.held) f.2 } in
    let l = goes_on k n c.args.hand.now one.new.hand n one.new.names c.new-fresh.result.items one.new.fresh.items begun one.result one.ensures.ok one.ensures.err one.ensures.committed one.ensures.spent one.ensures.kept one.ensures.unspent one.ensures.away in
    let e = goes_on k n one.new.hand two.new.hand one.new.names two.new.names one.new.fresh.items two.new.fresh.items l two.result two.ensures.ok two.ensures.err two.ensures.committed two.ensures.spent two.ensures.kept two.ensures.unspent two.ensures.away in
    (e.cell, e.lends, e.same)

pub returns-clause-clients : goal.returns-clause-clients
returns-clause-clients g c = c.commit_names-second.ensures.beside.clients ∙ c.commit_names-first.ensures.beside.clients

pub returns-clause-pools : goal.returns-clause-pools
returns-clause-pools g c = c.commit_names-second.ensures.beside.pools ∙ c.commit_names-first.ensures.beside.pools
