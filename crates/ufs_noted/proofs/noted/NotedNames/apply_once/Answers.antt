use Rattle.std.proofs.Common.{◌≡◌, ◌<◌, ◌+◌, ◌^◌, ◌++◌, ℕ, List, cond, is_some, false, ap, refl, sym, subst, ◌∙◌}
use Rattle.std.specs.FinMap as map
use Rattle.std.specs.FinSet as set
use Rattle.ufs_names.specs.Calls.{IsAsked}
use Rattle.ufs_names.specs.Space.{AreApart, IsCause}
use Rattle.ufs_pouring.specs.Lent.{listed}
use Rattle.ufs_noted.specs.Noted.{HasApplied, Noted}
use Rattle.ufs_noted.proofs.Causes.{caused_by_memory}
use Rattle.ufs_noted.proofs.Left.{next_is}
use Rattle.ufs_noted.proofs.Lending.{given_back, spent}
use Rattle.ufs_noted.proofs.noted.NotedNames.apply_once.Goals as goal

pub apply-applied-requires-clause-numbers : goal.apply-applied-requires-clause-numbers
apply-applied-requires-clause-numbers c = subst (λ (n : Noted). n.names.next < 2 ^ 31) (sym c.self.view_is) c.requires.numbers

pub apply-applied-requires-clause-asked : goal.apply-applied-requires-clause-asked
apply-applied-requires-clause-asked c = let a = c.requires.asked in (a.0, subst (λ (n : Noted). IsAsked a.0 n.names c.args.ask c.args.files.now) (sym c.self.view_is) a.1)

pub apply-applied-requires-clause-apart : goal.apply-applied-requires-clause-apart
apply-applied-requires-clause-apart c = subst (λ (n : Noted). AreApart n.names.tree.dirs c.args.files.now c.lend-block.new.lent) (sym c.self.view_is) (c.requires.apart c.lend-block.new.lent c.lend-block.ensures.within)

-- ---- where memory ran out

pub returns-in-Err-clause-cause : goal.returns-in-Err-clause-cause
returns-in-Err-clause-cause c x is = (c.args.pool.now, λ b here. here, λ lends bare. bare, caused_by_memory c.args.self.now.names.tree.dirs c.args.pool.now c.args.ask.op c.out_of_memory.result.entry.reply x c.out_of_memory.ensures.reply is)

-- ---- where it is excused

pub returns-then-tells_excuse-clause-cause : goal.returns-then-tells_excuse-clause-cause
returns-then-tells_excuse-clause-cause c x is = (
  c.lend-block.new.lent,
  c.lend-block.ensures.within,
  spent c.lend-block.result c.args.lends c.args.pool.now c.lend-block.new.lent c.lend-block.ensures.none c.lend-block.ensures.lent,
  subst (λ (n : Noted). IsCause n.names.tree.dirs c.lend-block.new.lent c.args.ask.op x) c.self.view_is (c.apply-applied.ensures.cause x is),
)

pub returns-then-tells_excuse-clause-fits : goal.returns-then-tells_excuse-clause-fits
returns-then-tells_excuse-clause-fits c x is t asked = c.apply-applied.ensures.fits x is t (subst (λ (n : Noted). IsAsked t n.names c.args.ask c.args.files.now) (sym c.self.view_is) asked)

pub returns-then-tells_excuse-clause-unchanged : goal.returns-then-tells_excuse-clause-unchanged
returns-then-tells_excuse-clause-unchanged c e =
    let names = c.apply-applied.ensures.unchanged e in
    let fresh = c.reserve.ensures.items in
    (λ i. record { names = names i; fresh = fresh i; dropped = c.self.inside.dropped }) ∙ c.self.view_is

pub returns-then-tells_excuse-clause-untaken : goal.returns-then-tells_excuse-clause-untaken
returns-then-tells_excuse-clause-untaken c e =
    let back = c.apply-applied.ensures.pool e in
    c.pour.ensures.into ∙ (λ i. set.union (c.lend-block.ensures.pool i) (back i)) ∙ given_back c.args.pool.now c.lend-block.new.lent c.lend-block.ensures.within

-- ---- where it is served

pub invariant_of-self-2 : goal.invariant_of-self-2
invariant_of-self-2 c =
    let a = c.requires.asked in
    let asked = subst (λ (n : Noted). IsAsked a.0 n.names c.args.ask c.args.files.now) (sym c.self.view_is) a.1 in
    let served = c.apply-applied.ensures.served (sym c.tells_excuse.ensures ∙ c.if-tells_excuse.false) a.0 asked in
    let next = next_is c.self.inside.names c.apply-applied.new.self c.args.ask c.args.files.now c.apply-applied.new.files c.apply-applied.result.entry.reply c.apply-applied.result.desc a.0 asked served in
    (c.next_then-self-inside.ensures ∙ ap (λ (k : ℕ). cond (is_some (map.get c.apply-applied.new.files k)) (k + 1) k) c.self.invariant.0 ∙ sym next, c.pour-2.ensures.from)

pub returns-clause-served : goal.returns-clause-served
returns-clause-served c e =
    let was = c.self.inside in
    let fresh : c.take_lent.new.fresh.items ≡ was.fresh.items ++ listed c.lend-block.result = c.take_lent.ensures ∙ ap (λ (blocks : List ℕ). blocks ++ listed c.lend-block.result) c.reserve.ensures.items in
    subst (λ (n : Noted). HasApplied c.args.ask n (record { names = c.apply-applied.new.self; fresh = c.take_lent.new.fresh.items; dropped = c.pour-2.new.into }) c.args.files.now c.apply-applied.new.files c.args.pool.now c.lend-block.new.pool c.apply-applied.result.entry.reply c.apply-applied.result.desc) c.self.view_is
    (record {
      lent = c.lend-block.new.lent;
      left = c.apply-applied.new.pool;
      served = λ t asked. c.apply-applied.ensures.served e t asked;
      inodes = c.apply-applied.ensures.inodes;
      stay = c.apply-applied.ensures.stay;
      was_table = c.is_table.ensures;
      table = c.is_table-2.ensures;
      counted = c.apply-applied.ensures.counted;
      noted = c.apply-applied.ensures.noted;
      together = c.apply-applied.ensures.together;
      apart = c.apply-applied.ensures.apart;
      pooled = c.lend-block.ensures.within;
      pool_is = c.lend-block.ensures.pool;
      taken = listed c.lend-block.result;
      is_taken = λ b. ap (λ s. set.contains s b) (sym c.lend-block.ensures.lent);
      fresh = fresh;
      dropped = c.pour-2.ensures.into;
    })

pub returns-clause-fits : goal.returns-clause-fits
returns-clause-fits c x is t asked = c.apply-applied.ensures.fits x is t (subst (λ (n : Noted). IsAsked t n.names c.args.ask c.args.files.now) (sym c.self.view_is) asked)
