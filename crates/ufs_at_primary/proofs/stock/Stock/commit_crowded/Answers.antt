use Rattle.std.proofs.Common.{inl, inr, ap, arith, refl, sym, subst, ◌∙◌}
use Rattle.std.specs.Prelude.{◌/◌}
use Rattle.ufs_held.proofs.Stopping.{stops_still}
use Rattle.ufs_held_names.specs.HeldNames.{AreCommitted}
use Rattle.ufs_ilog.specs.Notes.{sectors_noted}
use Rattle.ufs_joint.specs.Cells.{NamesCell}
use Rattle.ufs_layout.specs.declared.geometry.Geometry.{Geometry}
use Rattle.ufs_turns.proofs.Runs.{runs_still}
use Rattle.ufs_at_primary.specs.Stock.{AreHere, StockState, stock_of}
use Rattle.ufs_at_primary.proofs.Births.{bare_pool, pool_beside, when_ok}
use Rattle.ufs_at_primary.proofs.NamesTold.{free_still}
use Rattle.ufs_at_primary.proofs.Rooms.{commit_here, kept_names}
use Rattle.ufs_at_primary.proofs.stock.Stock.commit_crowded.Goals as goal

pub returns-then-not-is_crowded-clause-names : goal.returns-then-not-is_crowded-clause-names
returns-then-not-is_crowded-clause-names g c = inl (ap (λ (s : StockState). s.names) ((λ i. stock_of (c.is_crowded.ensures.same i) c.self.inside.home c.self.inside.pool) ∙ c.self.view_is))

pub returns-then-not-is_crowded-clause-rest : goal.returns-then-not-is_crowded-clause-rest
returns-then-not-is_crowded-clause-rest g c = ap (λ (s : StockState). record s { names = c.is_crowded.new.self }) c.self.view_is

pub returns-then-not-is_crowded-clause-free : goal.returns-then-not-is_crowded-clause-free
returns-then-not-is_crowded-clause-free g c = free_still (g.T.Turns.tells c.args.door.now)

pub returns-then-not-is_crowded-clause-halts : goal.returns-then-not-is_crowded-clause-halts
returns-then-not-is_crowded-clause-halts g c = stops_still (g.T.Turns.tells c.args.door.now)

pub returns-then-not-is_crowded-clause-ran : goal.returns-then-not-is_crowded-clause-ran
returns-then-not-is_crowded-clause-ran g c = runs_still (g.T.Turns.tells c.args.door.now) 1 1

pub returns-then-not-is_crowded-clause-idle : goal.returns-then-not-is_crowded-clause-idle
returns-then-not-is_crowded-clause-idle g c = λ less. ((λ i. stock_of (c.is_crowded.ensures.same i) c.self.inside.home c.self.inside.pool) ∙ c.self.view_is, refl)

pub commit-requires : goal.commit-requires
commit-requires g c = record { bare = bare_pool c.self.inside.pool c.self.inside.right c.self.invariant.hand }

pub returns-clause-names : goal.returns-clause-names
returns-clause-names g c =
    let names = ap (λ (s : StockState). s.names) c.self.view_is in
    when_ok c.commit.result (λ done. inr (subst (λ (n : NamesCell). AreCommitted g.N.Naming.start.is_visible n c.commit.new.self) (c.is_crowded.ensures.same ∙ names) done)) c.commit.ensures.ok

pub returns-clause-kept : goal.returns-clause-kept
returns-clause-kept g c = kept_names c.commit.result c.commit.new.self c.is_crowded.new.self c.args.self.now c.self.inside.home c.self.inside.pool ((λ i. stock_of (c.is_crowded.ensures.same i) c.self.inside.home c.self.inside.pool) ∙ c.self.view_is) c.commit.ensures.err

pub returns-clause-rest : goal.returns-clause-rest
returns-clause-rest g c = ap (λ (s : StockState). record s { names = c.commit.new.self }) c.self.view_is

pub returns-clause-idle : goal.returns-clause-idle
returns-clause-idle g c = λ less.
    let crowded = c.is_crowded.ensures.crowded.0 c.if-not-is_crowded.false in
    let journal = ap (λ (q : Geometry). q.journal / 2) c.self.invariant.its in
    let noted = ap (λ (s : StockState). sectors_noted s.names.value.tree.noted) c.self.view_is in
    absurd (omega (arith, crowded, less, journal, noted))

pub invariant_of-self : goal.invariant_of-self
invariant_of-self g c =
    let h = c.self.invariant in
    let f = c.self.inside in
    record { formed = h.formed; its = h.its; numbers = h.numbers; hand = h.hand; few = h.few; here = subst (λ (n : NamesCell). AreHere n f.home) (sym c.is_crowded.ensures.same) h.here }

pub invariant_of-self-2 : goal.invariant_of-self-2
invariant_of-self-2 g c =
    let h = c.self.invariant in
    let f = c.self.inside in
    record {
      formed = h.formed;
      its = h.its;
      numbers = h.numbers;
      hand = pool_beside f.pool f.right c.commit.new.guest h.hand c.commit.ensures.bare c.commit.ensures.beside;
      few = h.few;
      here = commit_here g.N.Naming.start.is_visible c.commit.result f.home c.is_crowded.new.self c.commit.new.self c.commit.ensures.ok c.commit.ensures.err (subst (λ (n : NamesCell). AreHere n f.home) (sym c.is_crowded.ensures.same) h.here);
    }
