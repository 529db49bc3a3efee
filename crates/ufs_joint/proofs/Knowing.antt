-- What a hand knows in a sound state.
use Rattle.std.proofs.Common.{◌≡◌, ℕ, inl, true, false, List, length, sym, refl, ap, ◌∙◌, subst, arith}
use mathlib.Core.Option.{some}
use lib.ListN.{get_elem?}
use Rattle.std.specs.FinSet as setof
use Rattle.ufs_bitmap.specs.Blocks.{BlockSet}
use Rattle.ufs_model.specs.History.{tree_after}
use Rattle.ufs_names.specs.NamesPart.{NamesPart}
use Rattle.ufs_promise_laws.specs.FileRequests.{with_free}
use Rattle.ufs_promise_laws.proofs.Sound.{sound_by_free_blocks}
use Rattle.ufs_hand_laws.specs.Owned.{Has}
use Rattle.ufs_promise_laws.specs.Laws.{MovesBlocks}
use Rattle.ufs_joint.specs.Cells.{NamesCell, Start, StoreCell, View, Word, World, store_of}
use Rattle.ufs_joint.specs.Draws.{IsAround}
use Rattle.ufs_promise_laws.specs.Known.{IsDiskKept}
use Rattle.ufs_joint.specs.Known.{Knows, KnowsDisk}
use Rattle.ufs_joint.specs.Laws.{HandsKnow}
use Rattle.ufs_joint.specs.Sound.{IsSound}
use Rattle.ufs_joint.specs.Whole.{HasCells, birth_known, birth_known_by, changes_known, known_in, name_changes_at, pooled}
use Rattle.ufs_joint.proofs.Blocks.{difference_in, not_in, or_left, or_right, taken_out}
use Rattle.ufs_joint.proofs.Exchange.{names_are, store_is}
use Rattle.ufs_joint.proofs.FaultsTold.{untold}
use Rattle.ufs_joint.proofs.Few.{few, few_files}
use Rattle.ufs_joint.proofs.Pools.{pools_stay}
use Rattle.ufs_joint.proofs.Parting.{cells_there, other_pool, own_free, own_not_store, same_cells}
use Rattle.ufs_joint.proofs.TurnEnding.{lends_all}

module _ (k : Start) (word : Word) (views : List View) (i : ℕ) (v : View) (o : IsSound k word views) (at : get_elem? views i ≡ some v) where
  abbrev G : World
  G = o.world

  abbrev rest : BlockSet
  rest = setof.difference o.free (pooled v.pools)

  moves_out : MovesBlocks o.parts.pool o.free (pooled v.pools) rest
  moves_out = subst (λ (q : BlockSet). MovesBlocks q o.free (pooled v.pools) rest) (sym o.parts_in.pool) (taken_out o.free (pooled v.pools) (own_free views i v at G o.one_hand o.free o.free_in o.pools_apart))

  cells : HasCells v o.parts
  cells = cells_there views i v at G o.one_hand o.parts o.parts_in

  around : IsAround k.geometry v word.tickets o.begun o.history (record o.parts { pool = pooled v.pools }) rest
  around = record {
    tree = o.may_begin.tree;
    legal = (o.leads o.begun o.may_begin).legal;
    so_many = o.tickets_once.tickets;
    entries = λ c part has. o.tickets_once.entries c part (o.one_hand.clients.agree i v at c part has);
    fds = λ c part has. (o.leads o.begun o.may_begin).clients c part (o.one_hand.clients.agree i v at c part has);
    untold = untold k views o.history G.store o.faults_once i v at;
    cells = same_cells v o.parts (pooled v.pools) cells;
    pool = refl;
    parts = other_pool o.parts (tree_after o.begun o.history) (pooled v.pools) (o.leads o.begun o.may_begin).parts;
    server = sound_by_free_blocks k.geometry o.free o.parts (pooled v.pools) rest moves_out o.server;
  }

  unassigned : (u : Unit {0}) (s : StoreCell) → Has (u, s) v.store → (b : ℕ) → setof.contains s.unassigned.free b ≡ true → setof.contains rest b ≡ true
  unassigned u s has b is =
      let same = ap (λ (q : StoreCell). setof.contains q.unassigned.free b) (store_is views i v v at G o.one_hand u s has) in
      difference_in o.free (pooled v.pools) b (o.free_in.here b (inl (same ∙ is)))
      (not_in (pooled v.pools) b (λ own. let not = own_not_store views i v at G o.one_hand o.free o.free_in o.pools_apart b own in let clash : true ≡ false = sym is ∙ sym same ∙ not in absurd cc))

  knows_disk : k.is_visible ≡ true → (u : Unit {0}) (s : StoreCell) → Has (u, s) v.store → KnowsDisk k v o.history s
  knows_disk visible u s has =
      let d = o.disk visible in
      let is = store_is views i v v at G o.one_hand u s has in
      let old = s.unassigned.free in
      let moves : MovesBlocks o.parts.pool o.free (setof.difference o.free old) old =
      subst (λ (q : BlockSet). MovesBlocks q o.free (setof.difference o.free old) old) (sym o.parts_in.pool) (lends_all o.free old (λ b there. o.free_in.here b (inl (ap (λ (q : StoreCell). setof.contains q.unassigned.free b) is ∙ there)))) in
      record {
        parts = record o.parts { pool = setof.difference o.free old };
        known = known_in k.tree o.history G;
        cells = same_cells v o.parts (setof.difference o.free old) cells;
        knows = record {
          files = λ file c has. let x = ap (changes_known k.tree o.history file) (o.one_hand.files.agree i v at file c has) in omega (arith, x);
          born = λ file c has born. ap (birth_known_by k.tree o.history G.names.named file) (o.one_hand.files.agree i v at file c has) ∙ or_left c.born (setof.contains G.names.named file) born;
          named = λ file w x also is. or_right (birth_known k.tree o.history (G.file file)) (setof.contains G.names.named file) (ap (λ (y : NamesCell). setof.contains y.named file) (names_are views i v v at G o.one_hand w x also) ∙ is);
          names = λ w c has. let x = ap (λ (x : NamesCell). name_changes_at k.tree o.history x.known) (names_are views i v v at G o.one_hand w c has) in omega (arith, x);
          files_told = λ file c has. let x = ap length (d.told.files file c (o.one_hand.files.agree i v at file c has)) in omega (arith, x);
          names_told = λ w c has. let x = ap length d.told.names in let y = ap (λ (x : NamesCell). name_changes_at k.tree o.history x.changed) (names_are views i v v at G o.one_hand w c has) in omega (arith, x, y);
        };
        kept = pools_stay (with_free o.free (store_of s)) k.tree o.history o.parts (known_in k.tree o.history G) (setof.difference o.free old) old moves
            (subst (λ (q : StoreCell). IsDiskKept (with_free o.free (store_of q)) k.tree o.history o.parts (known_in k.tree o.history G)) is d.kept);
      }

  pub knows : Knows k word.tickets v
  knows = record {
    picks = o.picks;
    start = o.begun;
    begun = o.may_begin;
    history = o.history;
    parts = record o.parts { pool = pooled v.pools };
    rest = rest;
    around = around;
    unassigned = unassigned;
    few = few k word views o;
    next = λ u c has.
        let names = ap (λ (n : NamesPart). n.next) (cells.names u c has).names in
        let same = (o.leads o.begun o.may_begin).parts.names.next in
        let made = few_files o.begun o.history in
        let first = o.may_begin.alike.next in
        let long = o.tickets_once.tickets in
        omega (arith, names, same, made, first, long);
    asked = λ c a p ha hp. o.asked.kept c a p (o.one_hand.asked.agree i v at c a ha) (o.one_hand.clients.agree i v at c p hp);
    disk = knows_disk;
    changed = λ visible file c has. let x = (o.disk visible).told.within file c (o.one_hand.files.agree i v at file c has) in let y = x.0 in let z = x.1 in let t = o.tickets_once.tickets in let a = (o.disk visible).past.stamped in let b = (o.disk visible).past.within in (omega (arith, y, t), omega (arith, z, a, b));
    names_changed = λ visible u c has. let x = (o.disk visible).told.names_within.0 in let t = o.tickets_once.tickets in let e = ap (λ (y : NamesCell). y.changed) (names_are views i v v at G o.one_hand u c has) in omega (arith, x, t, e);
    names_known = λ visible u c has. let x = (o.disk visible).told.names_within.1 in let a = (o.disk visible).past.stamped in let b = (o.disk visible).past.within in let e = ap (λ (y : NamesCell). y.known) (names_are views i v v at G o.one_hand u c has) in omega (arith, x, a, b, e);
  }

pub hands_know : HandsKnow
hands_know k word views i v o at = knows k word views i v o at
