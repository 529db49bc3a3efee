use Rattle.std.proofs.Common.{◌≡◌, ◌≤◌, ◌++◌, [], ℕ, List, ap, sym, subst, ◌∙◌, arith}
use Rattle.std.proofs.lemmas.List.{append-nil}
use Rattle.ufs_joint.specs.Cells.{View, both_of}
use Rattle.ufs_turns.proofs.Hands.{later_left}
use Rattle.ufs_held_names.specs.Dirs.{IsNamesGuest}
use Rattle.ufs_held_names.specs.HeldNames.{HoldsNames, first_names}
use Rattle.ufs_held_names.proofs.After.{first_held}
use Rattle.ufs_held_names.proofs.Answering.{guest_left, joined_guest, names_in}
use Rattle.ufs_held_names.proofs.Committed.{back_held, back_names}
use Rattle.ufs_held_names.proofs.Looking.{below_next, few_made, looked_guest, needed_lives, open_lives}
use Rattle.ufs_held_names.proofs.seeing.see_asked.Goals as goal

pub returns : goal.returns
returns g c =
    let f = c.requires.guest in
    let held = c.requires.held in
    let own = c.args.right.now in
    let came = c.args.guest.now in
    let client = c.args.ask.now.client in
    let x = c.args.noted.now in
    let z = c.look.new.self in
    let joined = c.join.ensures ∙ ap (both_of came) c.split-own.ensures.given in
    let has = subst (IsNamesGuest client f.0 held.cell f.1 f.2) (sym joined) (joined_guest own came x held client f.0 f.1 f.2 f.3) in
    let after = subst (IsNamesGuest client f.0 held.cell f.1 f.2) (sym c.look.ensures.cells) (looked_guest client f.0 held.cell f.1 f.2 c.join.new.self c.look.result has) in
    let there = names_in client f.0 held.cell f.1 f.2 z after in
    let left = guest_left client f.0 held.cell f.1 f.2 z after in
    let kept = c.split-own-2.ensures.kept in
    let back = c.join-2.ensures ∙ (λ i. both_of (c.split-own.ensures.kept i) (c.split-own-2.ensures.given i)) in
    record {
      held = subst (HoldsNames x) (sym back) (back_held own z x held held.cell there x held.value);
      calm = ap (λ (v : View). v.faults) back ∙ ap (λ (fs : List ℕ). fs ++ []) c.requires.calm;
      same = ap (λ (v : View). first_names x v.names) back ∙ ap (first_names x) (back_names own z x held held.cell there) ∙ sym (first_held x own held);
      still = record {
        clients = ap (λ (v : View). v.clients) kept ∙ left.clients ∙ sym f.3.clients;
        asked = ap (λ (v : View). v.asked) kept ∙ left.asked ∙ sym f.3.asked;
        files = ap (λ (v : View). v.files) kept ∙ left.files ∙ sym f.3.files;
        pools = ap (λ (v : View). v.pools) kept ∙ left.pools ∙ sym f.3.pools;
        names = ap (λ (v : View). v.names) kept ∙ left.names ∙ sym f.3.names;
        store = ap (λ (v : View). v.store) kept ∙ left.store ∙ sym f.3.store;
        faults = ap (λ (v : View). v.faults) kept ∙ ap (λ (v : View). v.faults) c.look.ensures.cells ∙ ap (λ (v : View). v.faults) joined ∙ append-nil came.faults;
        seen =
            let l : came.seen ≤ c.join.new.self.seen = subst (λ (v : View). came.seen ≤ v.seen) (sym joined) (later_left came.seen own.seen) in
            let m = c.look.ensures.later in
            let s = ap (λ (v : View). v.seen) kept in
            let t = ap (λ (v : View). v.seen) c.look.ensures.cells in
            omega (arith, l, m, s, t);
      };
      needed = needed_lives g.N.Naming.start c.look.result c.join.new.self c.look.ensures.knows f.0 held.cell f.1 f.2 c.args.ask.now has x held.value f.4;
      opened = open_lives g.N.Naming.start c.look.result c.join.new.self c.look.ensures.knows f.0 held.cell f.1 f.2 c.args.ask.now has x held.value f.4;
      below = below_next g.N.Naming.start c.look.result c.join.new.self c.look.ensures.knows f.0 held.cell f.1 f.2 c.args.ask.now has x held.value f.4;
      few = few_made g.N.Naming.start c.look.result c.join.new.self c.look.ensures.knows f.0 held.cell f.1 f.2 c.args.ask.now has x held.value f.4;
    }
